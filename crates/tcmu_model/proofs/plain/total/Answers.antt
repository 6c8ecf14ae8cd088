use Rattle.std.proofs.Common.{rules, arith, ◌+◌, ◌≤◌, length, slice_index_or, sum, sym, ◌∙◌, ap}
use Rattle.std.proofs.lemmas.List.{take_all}
use Rattle.std.proofs.lemmas.List.Sums.{sum_by_more}
use Rattle.tcmu_model.proofs.RoomSearch.{sum_of_items}
use Rattle.tcmu_model.proofs.plain.total.Goals as goal

pub loop-len-preserved : goal.loop-len-preserved
loop-len-preserved c =
    let at = c.loop-len.len-index in
    let laid = c.args.laid.now in
    (ap (λ s. s + slice_index_or laid at 0) c.loop-len.invariant.0 ∙ sym (sum_by_more (λ x. x) laid at 0 c.loop-len-test.true), search rules)

pub returns : goal.returns
returns c =
    let at = c.loop-len.len-index in
    let laid = c.args.laid.now in
    let over : length laid ≤ at = omega (arith, c.loop-len-test.false) in
    c.loop-len.invariant.0 ∙ ap sum (take_all at laid over) ∙ sym (sum_of_items laid)
