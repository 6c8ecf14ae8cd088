-- What the store of a medium holds behind the medium's calls.
use Rattle.std.specs.Prelude.{◌≡◌, true}
use Rattle.std.specs.Option.{option_map}
use Rattle.tcmu_model.specs.MediumState.{MediumState}
use Rattle.scsi_model.specs.Base.{zeroed}
use Rattle.scsi_model.specs.Medium.{has_store}
use Rattle.edge.specs.Stores.{StoreState}

-- This is the store below a medium: it has its length and its bytes, but for the free blocks, has made its calls, and as many of them
-- were syncs.
pub record IsStoredIn (s : StoreState) (m : MediumState) : Type 0 where
  pub layer : has_store m.below.layer ≡ true
  pub size : s.size ≡ m.below.store.size
  pub bytes : m.below.store.bytes ≡ option_map (zeroed m.below.store.free) s.bytes
  pub calls : s.calls ≡ m.below.store.calls
  pub syncs : s.syncs ≡ m.below.store.syncs
