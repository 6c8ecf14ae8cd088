use Rattle.std.proofs.Common.{true, subst, sym}
use Rattle.tcmu_model.specs.Device.{DeviceState}
use Rattle.tcmu_model.specs.Sound.{IsSound}
use Rattle.tcmu_model.proofs.SoundEvents.{sound_after_block}
use Rattle.tcmu_path.proofs.plain.PlainPathPath.block.Goals as goal

pub invariant_of-self : goal.invariant_of-self
invariant_of-self g c = subst (λ (d : DeviceState). IsSound d) (sym c.block.ensures.after) (sound_after_block c.self.inside.state true c.self.invariant)
