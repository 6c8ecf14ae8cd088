use Rattle.tcmu_model.proofs.SoundEvents.{sound_opening}
use Rattle.tcmu_model.proofs.laws_sound.opening_is_sound.Goals as goal

pub returns : goal.returns
returns c = sound_opening
