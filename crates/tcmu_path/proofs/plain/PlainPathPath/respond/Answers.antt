use Rattle.std.proofs.Common.{subst, sym}
use Rattle.tcmu_model.specs.Device.{DeviceState}
use Rattle.tcmu_model.specs.Sound.{IsSound}
use Rattle.tcmu_model.proofs.SoundRespond.{sound_after_respond}
use Rattle.tcmu_path.proofs.plain.PlainPathPath.respond.Goals as goal

pub invariant_of-self : goal.invariant_of-self
invariant_of-self g c = subst (λ (d : DeviceState). IsSound d) (sym c.respond.ensures.after) (sound_after_respond c.self.inside.state c.args.serial c.self.invariant)
