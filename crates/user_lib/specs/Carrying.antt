-- The data of a job as contracts see it: without the room of lists.
use Rattle.std.specs.Prelude.{◌≡◌, ℕ, true, false, List, Option, Some, None}
use Rattle.tcmu_types.specs.Data.{Spared}
use Rattle.tcmu_types.specs.declared.iovec.Iov.{Iov}
use Rattle.user_lib.specs.declared.job.JobData.{JobData}
use Rattle.user_lib.specs.declared.job.JobData.TheVariants as data_of
use Rattle.region_model.specs.Regions.{RegionState, can_lend, lent, parts_of}
use Rattle.region_model.specs.Sides.{Carried, Moved, Copied}

abbrev pub carried_of : JobData → Carried
carried_of (data_of.Moved parts) = Moved parts.items
carried_of (data_of.Copied bytes) = Copied bytes.items

-- the blocks of iovecs are moved out of a region where they can be lent
abbrev pub LendsParts : RegionState → List Iov → Option (Spared (List ℕ)) → RegionState → Type 0
LendsParts r iovs None left = (can_lend r iovs ≡ false) × (left ≡ r)
LendsParts r iovs (Some parts) left = (can_lend r iovs ≡ true) × (parts.items ≡ parts_of r iovs) × (left ≡ lent r iovs)
