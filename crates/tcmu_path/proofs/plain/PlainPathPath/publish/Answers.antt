use Rattle.std.proofs.Common.{subst, sym}
use Rattle.tcmu_model.specs.Device.{DeviceState}
use Rattle.tcmu_model.specs.Sound.{IsSound}
use Rattle.tcmu_model.proofs.SoundEvents.{sound_after_publish}
use Rattle.tcmu_path.proofs.plain.PlainPathPath.publish.Goals as goal

pub invariant_of-self : goal.invariant_of-self
invariant_of-self g c = subst (λ (d : DeviceState). IsSound d) (sym c.publish.ensures.after) (sound_after_publish c.self.inside.state c.self.invariant)
