use Rattle.std.proofs.Common.{Some, None, refl, ◌∙◌, arith}
use Rattle.tcmu_types.specs.Views.{event_data}
use Rattle.tcmu_model.proofs.Runs.{sound_step}
use Rattle.tcmu_top.proofs.Telling.{on_err}
use Rattle.tcmu_path.proofs.Picked.{picked_by}
use Rattle.tcmu_top.proofs.Playing.{draining_first, draining_more, draining_done, draining_stopped, falls_told}
use Rattle.tcmu_top.proofs.lines.drain.Goals as goal

pub loop-event-init : goal.loop-event-init
loop-event-init g c =
    record {
      sofar = λ at. draining_first g.P.Path.relation at c.args.device.now (g.P.Path.device c.args.path.now) _ c.requires.sound;
      sound = c.requires.sound;
      calm = refl;
      accepts = record { least = omega arith; most = omega arith };
    }

pub returns-in_err-play-clause-err : goal.returns-in_err-play-clause-err
returns-in_err-play-clause-err g c =
    let picked = picked_by (g.P.Path.device c.loop-event.path).state _ (Some c.in-Some.event) c.todo.ensures c.in-Some.ensures.value in
    on_err c.from_residual.result (λ at. draining_stopped g.P.Path.relation at c.args.device.now _ (g.P.Path.device c.loop-event.path) _ (event_data c.in-Some.event) _ _ _ (c.loop-event.invariant.sofar at) picked (c.in_err-play.ensures.err at))

pub loop-event-smaller : goal.loop-event-smaller
loop-event-smaller g c =
    let picked = picked_by (g.P.Path.device c.loop-event.path).state _ (Some c.in-Some.event) c.todo.ensures c.in-Some.ensures.value in
    falls_told g.P.Path.relation 0 c.args.device.now (g.P.Path.device c.loop-event.path) _ (event_data c.in-Some.event) _ _ c.loop-event.invariant.sound picked (c.in_ok-play.ensures.ok 0)

pub loop-event-preserved : goal.loop-event-preserved
loop-event-preserved g c =
    let picked = picked_by (g.P.Path.device c.loop-event.path).state _ (Some c.in-Some.event) c.todo.ensures c.in-Some.ensures.value in
    let none = c.in-Some.ensures.accepts in
    record {
      sofar = λ at. draining_more g.P.Path.relation at c.args.device.now _ (g.P.Path.device c.loop-event.path) _ (event_data c.in-Some.event) _ _ _ (c.loop-event.invariant.sofar at) picked (c.in_ok-play.ensures.ok at);
      sound = sound_step g.P.Path.relation _ _ (c.in_ok-play.ensures.ok 0).made.entry c.loop-event.invariant.sound (c.in_ok-play.ensures.ok 0).made.step;
      calm = c.in_ok-play.ensures.faults.calm ∙ c.loop-event.invariant.calm;
      accepts = record {
        least = omega (arith, c.loop-event.invariant.accepts.least, c.in_ok-play.ensures.accepts.least);
        most = omega (arith, none, c.loop-event.invariant.accepts.most, c.in_ok-play.ensures.accepts.most);
      };
    }

pub returns-clause-ok : goal.returns-clause-ok
returns-clause-ok g c =
    λ at. draining_done g.P.Path.relation at c.args.device.now _ (g.P.Path.device c.loop-event.path) _ _ (c.loop-event.invariant.sofar at) (picked_by (g.P.Path.device c.loop-event.path).state _ None c.todo.ensures c.in_default.ensures.value)
