use Rattle.std.proofs.Common.{subst, sym}
use Rattle.tcmu_model.specs.RingState.{serials_in}
use Rattle.tcmu_model.specs.Device.{DeviceState}
use Rattle.tcmu_types.specs.Numbers.{Differ}
use Rattle.tcmu_path.proofs.Bounds.{laid_differ}
use Rattle.tcmu_path.proofs.state.State.respond.Goals as goal

pub place-requires-clause-differ : goal.place-requires-clause-differ
place-requires-clause-differ c = subst (λ (d : DeviceState). Differ (serials_in d.ring.laid)) (sym c.self.view_is) (laid_differ c.args.self.now c.requires)
