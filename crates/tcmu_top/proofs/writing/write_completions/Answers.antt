use Rattle.std.specs.List.{flat_map}
use Rattle.std.proofs.Common.{take, drop, ◌+◌}
use Rattle.text_model.specs.Text.{completion_text}
use Rattle.tcmu_top.proofs.Telling.{front_more, on_err, pieces_at}
use Rattle.tcmu_top.proofs.writing.write_completions.Goals as goal

pub returns-in_err-write_completion-clause-err : goal.returns-in_err-write_completion-clause-err
returns-in_err-write_completion-clause-err g c =
    let text = completion_text c.args.device.now.name in
    let i = c.loop-done.done-index in
    let ds = c.args.logged.now in
    on_err c.from_residual.result (front_more _ _ _ (flat_map text (take i ds)) (text c.done-item.result) (flat_map text (drop (i + 1) ds)) _
    (pieces_at text ds i c.done-item.result c.loop-done-test.true c.done-item.is) c.loop-done.invariant.gained c.in_err-write_completion.ensures.err)
