use Rattle.tcmu_model.proofs.Draining.{work_falls}
use Rattle.tcmu_model.proofs.DrainEnds.{drain_ends}
use Rattle.tcmu_model.proofs.laws_drain.drain_ends.Goals as goal

pub returns : goal.returns
returns c c' = record { falls = λ d d' e. work_falls _ d d' e; ends = λ device d. drain_ends _ device d }
