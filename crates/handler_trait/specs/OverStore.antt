-- A store, as it stands below a medium.
use Rattle.std.specs.Prelude.{ℕ, List}
use Rattle.std.specs.Option.{option_map}
use Rattle.tcmu_model.specs.MediumState.{Base}
use Rattle.scsi_model.specs.Base.{zeroed}
use Rattle.edge.specs.Stores.{StoreState}

-- what a store shows, of which these blocks are free
abbrev pub base_of : StoreState → List ℕ → Base
base_of s free = record { size = s.size; bytes = option_map (zeroed free) s.bytes; free = free; calls = s.calls; syncs = s.syncs }
