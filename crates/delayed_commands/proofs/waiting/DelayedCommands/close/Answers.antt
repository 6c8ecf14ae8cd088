use Rattle.std.proofs.Common.{◌<◌, length, drop, ap, ◌∙◌, arith, List}
use Rattle.std.proofs.lemmas.List.{drop-drop, length-drop}
use Rattle.tcmu_model.specs.Device.{Delayed}
use Rattle.tcmu_model.specs.Events.{reset_completion}
use Rattle.delayed_commands.proofs.Turns.{closed_round}
use Rattle.delayed_commands.proofs.waiting.DelayedCommands.close.Goals as goal

pub loop-preserved : goal.loop-preserved
loop-preserved c =
    let old : List Delayed = c.args.self.now.items in
    let h : c.loop.counter < length old = omega (arith, c.loop-test.true, c.len-end.ensures.value) in
    record {
      items = c.close_one.ensures.items ∙ (ap (λ (xs : List Delayed). drop 1 xs) c.loop.invariant.items ∙ (drop-drop 1 c.loop.counter old ∙ ap (λ n. drop n old) (omega arith)));
      log = closed_round (λ w. reset_completion c.args.level w.serial w.command) old c.loop.self.items c.loop.counter c.args.log.now.items c.loop.log.items c.close_one.new.log.items h c.loop.invariant.items c.loop.invariant.log c.close_one.ensures.log;
      room = omega (arith, ap (λ (xs : List Delayed). length xs) c.close_one.ensures.items, length-drop 1 c.loop.self.items, c.loop.invariant.room, c.close_one.ensures.room);
    }
