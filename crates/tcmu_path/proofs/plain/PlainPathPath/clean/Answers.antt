use Rattle.std.proofs.Common.{subst, sym}
use Rattle.tcmu_model.specs.Device.{DeviceState}
use Rattle.tcmu_model.specs.Sound.{IsSound}
use Rattle.tcmu_model.proofs.SoundClean.{sound_after_clean}
use Rattle.tcmu_path.proofs.plain.PlainPathPath.clean.Goals as goal

pub invariant_of-self : goal.invariant_of-self
invariant_of-self g c = subst (λ (d : DeviceState). IsSound d) (sym c.clean.ensures.after) (sound_after_clean c.self.inside.state c.self.invariant)
