use Rattle.std.proofs.Common.{◌≡◌, ℕ, ◌∙◌, ap, sym, arith, length, drop, List, Option, ◌+◌, ◌-◌, ◌++◌, ◌∷◌, [], length-append}
use Rattle.std.specs.List.{range_with_len}
use Rattle.std.proofs.lemmas.List.{take-append-le, drop-append-le, length-drop}
use Rattle.region_model.specs.Regions.{size_of, RegionState, returned, can_take, taken, without}
use Rattle.std.proofs.lemmas.List.FromFn.{length-range_with_len}
use Rattle.shm_region.proofs.Lent.{lend_step, have-push, home_some, set-not-home, numbers-last, numbers-rest}
use Rattle.shm_region.proofs.region.Region.lend_range.Goals as goal

pub returns-in-None-clause-region : goal.returns-in-None-clause-region
returns-in-None-clause-region c =
    let n : ℕ = c.args.first + c.loop-done.done in
    let same = set-not-home c.loop-done.self.blocks n (sym c.in-None.ensures.block) in
    let unchanged : c.take_home.new.self ≡ c.loop-done.self = c.take_home.ensures.region ∙ ap (λ (w : List (Option (List ℕ))). record c.loop-done.self { blocks = w }) same in
    let start : length c.loop-done.into.items - c.loop-done.done ≡ length c.args.into.now.items = omega arith in
    c.back_range.ensures.region
    ∙ ap (λ (m : RegionState). record m { blocks = returned m.blocks (range_with_len c.args.first c.loop-done.done) (drop (length c.loop-done.into.items - c.loop-done.done) c.loop-done.into.items) }) unchanged
    ∙ ap (λ (k : ℕ). record c.loop-done.self { blocks = returned c.loop-done.self.blocks (range_with_len c.args.first c.loop-done.done) (drop k c.loop-done.into.items) }) start
    ∙ c.loop-done.invariant.8

pub loop-done-preserved : goal.loop-done-preserved
loop-done-preserved c =
    let inv = c.loop-done.invariant in
    let n : ℕ = c.args.first + c.loop-done.done in
    let L : ℕ = length c.args.into.now.items in
    let items : List (List ℕ) = c.loop-done.into.items in
    let p : List ℕ = c.in-Some.block in
    let rest : List ℕ = range_with_len (c.args.first + (c.loop-done.done + 1)) (c.args.count - (c.loop-done.done + 1)) in
    let split : range_with_len n (c.args.count - c.loop-done.done) ≡ n ∷ rest = numbers-rest c.args.first c.loop-done.done c.args.count c.loop-done-test.true in
    let size_front : length (drop L items) ≡ c.loop-done.done = length-drop L items ∙ omega arith in
    let step = lend_step c.loop-done.self c.take_home.new.self (range_with_len c.args.first c.loop-done.done) n rest items (drop L items) p
    (length-range_with_len c.args.first c.loop-done.done ∙ sym size_front) (home_some _ p (sym c.in-Some.ensures.block)) c.take_home.ensures.region in
    let pages : size_of c.loop-done.self ≡ size_of c.args.self.now = ap (λ (r : RegionState). size_of r) inv.8 in
    let size : length p ≡ size_of c.loop-done.self = c.in-Some.ensures.size in
    let room = c.push.ensures.spare in
    rw c.push.ensures.items (
      omega arith,
      omega (arith, length-append items (p ∷ [])),
      omega arith,
      take-append-le L items (p ∷ []) (omega arith) ∙ inv.3,
      have-push (size_of c.args.self.now) items p inv.4 (size ∙ pages),
      step.can ∙ ap (can_take c.loop-done.self.blocks) (sym split) ∙ inv.5,
      step.parts ∙ ap (λ (ns : List ℕ). items ++ taken c.loop-done.self.blocks ns) (sym split) ∙ inv.6,
      step.gone ∙ ap (λ (ns : List ℕ). record c.loop-done.self { blocks = without c.loop-done.self.blocks ns }) (sym split) ∙ inv.7,
      ap (λ (ns : List ℕ). record c.take_home.new.self { blocks = returned c.take_home.new.self.blocks ns (drop L (items ++ p ∷ [])) }) (numbers-last c.args.first c.loop-done.done)
          ∙ ap (λ (ps : List (List ℕ)). record c.take_home.new.self { blocks = returned c.take_home.new.self.blocks (range_with_len c.args.first c.loop-done.done ++ n ∷ []) ps }) (drop-append-le L items (p ∷ []) (omega arith))
          ∙ step.back ∙ inv.8,
    )
