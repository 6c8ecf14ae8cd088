use Rattle.std.proofs.Common.{◌≤◌, ap, subst, ◌∙◌, arith}
use Rattle.tcmu_model.specs.RingState.{need, free}
use Rattle.tcmu_model.specs.Device.{Delayed, DeviceState}
use Rattle.tcmu_model.specs.Events.{entry_length_in, blocks_in}
use Rattle.delayed_commands.specs.Waits.{IsNext}
use Rattle.tcmu_path.proofs.state.State.enter.Goals as goal

pub enter_first-requires-clause-next : goal.enter_first-requires-clause-next
enter_first-requires-clause-next c =
    let d = c.args.self.now in
    let a = c.self.inside in
    let w : Delayed = c.in-Some.first.now in
    let len = c.entry_length-len.result in
    let command = ap (λ (x : Delayed). x.command) c.first-2.view_is in
    let fits : need a.ring len ≤ free a.ring = omega (arith, c.need-need.ensures.value, c.free-free.ensures, c.if-need-free.false) in
    record {
      first = w;
      next = subst (λ (x : DeviceState). IsNext x.delayed w) c.self.view_is c.in-Some.ensures;
      length_is = c.entry_length-len.ensures.value ∙ ap (entry_length_in d) command;
      ring = subst (λ (x : DeviceState). need x.ring len ≤ free x.ring) c.self.view_is fits;
      blocks_are = c.blocks_of-blocks.ensures ∙ ap (blocks_in d) command;
      room = omega (arith, c.if-blocks-left.false, c.free_blocks-left.ensures);
    }
