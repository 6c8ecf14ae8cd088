use Rattle.std.proofs.Common.{◌<◌, not, length, take, arith, List}
use Rattle.std.specs.List.{filter}
use Rattle.tcmu_model.specs.Device.{Delayed}
use Rattle.tcmu_model.specs.Events.{departure, has_left}
use Rattle.delayed_commands.proofs.Turns.{turned_round, logged_round}
use Rattle.delayed_commands.proofs.waiting.DelayedCommands.let_go_due.Goals as goal

pub loop-preserved : goal.loop-preserved
loop-preserved c =
    let old : List Delayed = c.args.self.now.items in
    let h : c.loop.counter < length old = omega (arith, c.loop-test.true, c.len-end.ensures.value) in
    record {
      items = turned_round (λ w. not (has_left c.args.now w)) old c.loop.self.items c.let_go_or_turn.new.self.items c.loop.counter h c.loop.invariant.items c.let_go_or_turn.ensures.items;
      log = logged_round (has_left c.args.now) departure old c.loop.self.items (filter (λ w. not (has_left c.args.now w)) (take c.loop.counter old)) c.loop.counter c.args.log.now.items c.loop.log.items c.let_go_or_turn.new.log.items h c.loop.invariant.items c.loop.invariant.log c.let_go_or_turn.ensures.log;
      room = omega (arith, c.loop.invariant.room, c.let_go_or_turn.ensures.room);
    }
