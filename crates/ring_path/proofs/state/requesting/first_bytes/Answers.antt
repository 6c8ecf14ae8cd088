use Rattle.std.proofs.Common.{◌≡◌, ℕ, ◌+◌, ◌-◌, ◌++◌, ◌∷◌, List, drop, get_or, length, length-append, min, take, sym, ap, ◌∙◌, subst, arith}
use Rattle.std.proofs.lemmas.List.{drop_more}
use Rattle.region_model.specs.Iovecs.{gathered}
use Rattle.ring_path.proofs.Gathering.{bytes_more}
use Rattle.ring_path.proofs.state.requesting.first_bytes.Goals as goal

pub loop-part-preserved : goal.loop-part-preserved
loop-part-preserved c =
    let items = c.as_slice-part-items.result.now in
    let i = c.loop-part.part-index in
    let count = c.args.count in
    let bytes = c.loop-part.bytes.items in
    let part = c.as_slice-part.result.now in
    let more = c.min-more.result in
    let all = take count (gathered c.args.parts.now.items) in
    let is : part ≡ get_or items i c.part-item.result = c.as_slice-part.ensures ∙ c.part-item.is in
    let here : drop i items ≡ part ∷ drop (i + 1) items = drop_more items i c.part-item.result c.loop-part-test.true ∙ ap (λ (x : List ℕ). x ∷ drop (i + 1) items) (sym is) in
    let before : bytes ++ take (count - length bytes) (part ++ gathered (drop (i + 1) items)) ≡ all =
    ap (λ (xs : List (List ℕ)). bytes ++ take (count - length bytes) (gathered xs)) (sym here) ∙ c.loop-part.invariant.items in
    let least : more ≡ min (length part) (count - length bytes) = omega (arith, c.min-more.ensures, c.saturating_sub.ensures, c.len.ensures) in
    let new : c.extend.new.self.items ≡ bytes ++ take more part = c.extend.ensures.items in
    record {
      items = subst (λ (xs : List ℕ). xs ++ take (count - length xs) (gathered (drop (i + 1) items)) ≡ all) (sym new) (bytes_more count more bytes part (gathered (drop (i + 1) items)) all least before);
      room = omega (arith, ap (λ (xs : List ℕ). length xs) new, length-append bytes (take more part), c.extend.ensures.room, c.loop-part.invariant.room);
    }
