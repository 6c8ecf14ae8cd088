use Rattle.std.proofs.Common.{◌≡◌, ℕ, ◌∙◌, ap, sym, arith, length, take, drop, List, ◌+◌, ◌-◌, ◌++◌, ◌∷◌, [], length-append}
use Rattle.std.specs.List.{range_with_len}
use Rattle.std.proofs.lemmas.List.{take-append-le, drop-append-le, length-drop}
use Rattle.region_model.specs.Regions.{size_of, RegionState, HaveSize, returned}
use Rattle.std.proofs.lemmas.List.FromFn.{length-range_with_len}
use Rattle.shm_region.proofs.Lent.{back_step, have-last, numbers-last}
use Rattle.shm_region.proofs.region.Region.back_range.Goals as goal

pub put_home-requires : goal.put_home-requires
put_home-requires c =
    let inv = c.loop-left.invariant in
    let popped : c.loop-left.parts.items ≡ c.pop.new.self.items ++ c.in-Some.block ∷ [] = c.in-Some.ensures.items in
    let pages : size_of c.loop-left.self ≡ size_of c.args.self.now = ap (λ (r : RegionState). size_of r) inv.4 in
    let sizes : HaveSize (size_of c.args.self.now) (c.pop.new.self.items ++ c.in-Some.block ∷ []) = rw popped at inv.3 in
    record { size = (have-last (size_of c.args.self.now) c.pop.new.self.items c.in-Some.block sizes).1 ∙ sym pages }

pub loop-left-preserved-in-Some : goal.loop-left-preserved-in-Some
loop-left-preserved-in-Some c =
    let inv = c.loop-left.invariant in
    let L : ℕ = length c.args.parts.now.items - c.args.count in
    let rest : List (List ℕ) = c.pop.new.self.items in
    let p : List ℕ = c.in-Some.block in
    let popped : c.loop-left.parts.items ≡ rest ++ p ∷ [] = c.in-Some.ensures.items in
    let sizes : HaveSize (size_of c.args.self.now) (rest ++ p ∷ []) = rw popped at inv.3 in
    let count : length c.loop-left.parts.items ≡ length rest + 1 = ap length popped ∙ length-append rest (p ∷ []) in
    let place : c.loop-left.left ≡ c.loop-left.left - 1 + 1 = omega arith in
    let size_rest : length (drop L rest) ≡ c.loop-left.left - 1 = length-drop L rest ∙ omega arith in (
      omega arith,
      omega arith,
      sym (take-append-le L rest (p ∷ []) (omega arith)) ∙ ap (take L) (sym popped) ∙ inv.2,
      (have-last (size_of c.args.self.now) rest p sizes).0,
      back_step c.loop-left.self c.put_home.new.self (range_with_len c.args.first (c.loop-left.left - 1)) (c.args.first + (c.loop-left.left - 1)) (drop L rest) p
          (length-range_with_len c.args.first (c.loop-left.left - 1) ∙ sym size_rest) c.put_home.ensures.region
          ∙ ap (λ (ns : List ℕ). record c.loop-left.self { blocks = returned c.loop-left.self.blocks ns (drop L rest ++ p ∷ []) }) (sym (numbers-last c.args.first (c.loop-left.left - 1)) ∙ ap (range_with_len c.args.first) (sym place))
          ∙ ap (λ (ps : List (List ℕ)). record c.loop-left.self { blocks = returned c.loop-left.self.blocks (range_with_len c.args.first c.loop-left.left) ps }) (sym (drop-append-le L rest (p ∷ []) (omega arith)) ∙ ap (drop L) (sym popped))
          ∙ inv.4,
      omega (arith, inv.5, place, c.in-Some.ensures.spare),
    )
