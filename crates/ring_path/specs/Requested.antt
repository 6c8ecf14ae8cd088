-- What a job's command sent along, as it stands in the job.
use Rattle.std.specs.Prelude.{◌≡◌, ℕ, List, [], take, if◌then◌else◌}
use Rattle.tcmu_types.specs.Rules.{takes_payload}
use Rattle.region_model.specs.Iovecs.{gathered}
use Rattle.region_model.specs.Sides.{Carried, JobState, Moved, Copied}
use Rattle.region_model.specs.UserNext.{data_length}

-- the first bytes of the job's blocks
abbrev pub data_in_blocks : ℕ → Carried → List ℕ
data_in_blocks n (Moved parts) = take n (gathered parts)
data_in_blocks n (Copied bytes) = []

abbrev pub data_sent : JobState → List ℕ
data_sent job = if takes_payload job.cdb then data_in_blocks (data_length job.iovs) job.carried else []

-- the job has its blocks
abbrev pub HasData : JobState → Type 0
HasData job = (parts : List (List ℕ)) × (job.carried ≡ Moved parts)
