use Rattle.std.proofs.Common.{◌++◌, ℕ, List, sym, ap, subst, ◌∙◌, arith}
use Rattle.tcmu_types.specs.Numbers.{above_all}
use Rattle.tcmu_model.specs.BlockLists.{least_free}
use Rattle.data_blocks.specs.Held.{AreHeld, Gave}
use Rattle.target_side.proofs.Taken.{can_give, end_fits, reserved, same_held}
use Rattle.target_side.proofs.commands.take_blocks.Goals as goal

pub area_for-requires : goal.area_for-requires
area_for-requires c =
    let is = ap above_all (c.as_slice.ensures ∙ (c.take.ensures.blocks ∙ ap (λ (xs : List ℕ). xs ++ least_free c.reserve.new.self.limit c.reserve.new.self.held c.args.count) c.requires.none)) in
    let fits = end_fits c.args.held.now c.reserve.new.self c.args.count (reserved c.args.held.now c.reserve.new.self c.args.count c.requires.free c.reserve.ensures.new) c.held-held.ensures.sound.limit_high in
    omega (arith, is, fits)

pub give-requires : goal.give-requires
give-requires c =
    subst (AreHeld c.take.new.self.held) (sym (c.take.ensures.blocks ∙ ap (λ (xs : List ℕ). xs ++ least_free c.reserve.new.self.limit c.reserve.new.self.held c.args.count) c.requires.none))
    (can_give c.reserve.new.self c.take.new.self c.args.count c.take.ensures.new)

pub returns-then-is_err-clause-same : goal.returns-then-is_err-clause-same
returns-then-is_err-clause-same c =
    let blocks = c.take.ensures.blocks ∙ ap (λ (xs : List ℕ). xs ++ least_free c.reserve.new.self.limit c.reserve.new.self.held c.args.count) c.requires.none in
    same_held c.args.held.now c.reserve.new.self c.take.new.self c.give.new.self c.args.count (reserved c.args.held.now c.reserve.new.self c.args.count c.requires.free c.reserve.ensures.new) c.take.ensures.new
    (subst (λ (xs : List ℕ). Gave c.take.new.self xs c.give.new.self) blocks c.give.ensures)
