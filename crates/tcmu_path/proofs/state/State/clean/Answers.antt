use Rattle.std.proofs.Common.{take, subst, sym}
use Rattle.tcmu_model.specs.RingState.{cleared_commands}
use Rattle.tcmu_model.specs.Device.{DeviceState}
use Rattle.tcmu_path.specs.Away.{AreAway}
use Rattle.tcmu_path.proofs.Bounds.{away}
use Rattle.tcmu_path.proofs.state.State.clean.Goals as goal

pub finish_published-requires-clause-away : goal.finish_published-requires-clause-away
finish_published-requires-clause-away c =
    subst (λ (d : DeviceState). AreAway (take (cleared_commands d.ring) d.placed) d.unfinished) (sym c.self.view_is) (away c.args.self.now c.requires)
