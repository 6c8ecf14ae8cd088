use Rattle.std.proofs.Common.{Some, None, arith}
use Rattle.tcmu_types.specs.Views.{event_data}
use Rattle.tcmu_path.proofs.Picked.{picked_by}
use Rattle.load_run.proofs.Tallying.{draining_first, draining_more, draining_done, falls_played}
use Rattle.load_run.proofs.tally.drain.Goals as goal

pub loop-event-init : goal.loop-event-init
loop-event-init g c =
    record {
      sofar = draining_first g.P.Path.relation (g.P.Path.device c.args.path.now) _ c.requires.sound;
      accepts = record { least = omega arith; most = omega arith };
    }

pub loop-event-smaller : goal.loop-event-smaller
loop-event-smaller g c =
    let picked = picked_by (g.P.Path.device c.loop-event.path).state _ (Some c.in-Some.event) c.todo.ensures c.in-Some.ensures.value in
    falls_played g.P.Path.relation (g.P.Path.device c.loop-event.path) _ (event_data c.in-Some.event) _ _ c.loop-event.invariant.sofar.sound picked c.in_ok-play.ensures.made

pub loop-event-preserved : goal.loop-event-preserved
loop-event-preserved g c =
    let picked = picked_by (g.P.Path.device c.loop-event.path).state _ (Some c.in-Some.event) c.todo.ensures c.in-Some.ensures.value in
    let none = c.in-Some.ensures.accepts in
    record {
      sofar = draining_more g.P.Path.relation _ (g.P.Path.device c.loop-event.path) _ (event_data c.in-Some.event) _ _ _ c.loop-event.invariant.sofar picked c.in_ok-play.ensures.made;
      accepts = record {
        least = omega (arith, c.loop-event.invariant.accepts.least, c.in_ok-play.ensures.accepts.least);
        most = omega (arith, none, c.loop-event.invariant.accepts.most, c.in_ok-play.ensures.accepts.most);
      };
    }

pub returns-clause-made : goal.returns-clause-made
returns-clause-made g c =
    draining_done g.P.Path.relation _ (g.P.Path.device c.loop-event.path) _ _ c.loop-event.invariant.sofar (picked_by (g.P.Path.device c.loop-event.path).state _ None c.todo.ensures c.in_default.ensures.value)
