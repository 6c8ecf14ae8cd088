use Rattle.std.proofs.Common.{◌≡◌, ℕ, ◌+◌, ◌-◌, ◌≤◌, ◌∙◌, ap, arith, length, drop, take, replicate, length-drop, List}
use Rattle.std.proofs.lemmas.List.{length-take}
use Rattle.tcmu_types.specs.Overwriting.{zeros}
use Rattle.tcmu_types.proofs.ByteFields.{length-zeros, part_put}
use Rattle.tcmu_types.proofs.little_endian.put_zeros.Goals as goal

-- the length of a part
part : (at k : ℕ) (xs : List ℕ) → at + k ≤ length xs → length (take (at + k - at) (drop at xs)) ≡ k
part at k xs h = simp (length-take, length-drop) (omega arith)

pub returns : goal.returns
unfolding zeros
returns c =
    part_put c.args.at _ c.args.into.now _ (zeros c.args.count) (omega (arith, length-zeros c.args.count))
    (c.fill.ensures.after (λ y e. e) ∙ ap (λ (m : ℕ). replicate m 0) (part c.args.at c.args.count c.args.into.now c.requires))
