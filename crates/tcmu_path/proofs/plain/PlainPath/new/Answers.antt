use Rattle.std.proofs.Common.{subst, sym}
use Rattle.tcmu_model.specs.Sound.{IsSound}
use Rattle.tcmu_model.proofs.SoundEvents.{sound_opening}
use Rattle.tcmu_path.proofs.plain.PlainPath.new.Goals as goal

pub invariant_of-result : goal.invariant_of-result
invariant_of-result g c = subst IsSound (sym c.new.ensures) (sound_opening c.args.settings search)
