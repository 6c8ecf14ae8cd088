use Rattle.tcmu_model.specs.Device.{opening}
use Rattle.tcmu_model.proofs.SoundEvents.{sound_opening}
use Rattle.tcmu_model.proofs.Runs.{sound_run, run_more}
use Rattle.tcmu_model.proofs.laws_sound.runs_keep_sound.Goals as goal

pub returns : goal.returns
returns c c' = record { sound = λ s name medium es d g r. sound_run _ (opening s name medium) d es (sound_opening s g) r; more = λ d m d' es e. run_more _ d m d' es e }
