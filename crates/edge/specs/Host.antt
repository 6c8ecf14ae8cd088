-- What a store of the host shows.
use Rattle.std.specs.Prelude.{◌≡◌, ℕ, None}
use Rattle.edge.specs.declared.files.FetchOk.{FetchOk}
use Rattle.edge.specs.declared.files.FetchOk.TheVariants.{File, NoMemory}
use Rattle.edge.specs.Stores.{StoreState}

-- its length in bytes, the calls made, how many were syncs, and the faults
pub record StoreOfHost : Type 0 where
  pub size : ℕ
  pub calls : ℕ
  pub syncs : ℕ
  pub faults : ℕ

-- a store that no call was made of yet
abbrev pub IsFresh : FetchOk StoreOfHost → Type 0
IsFresh (File s) = (s.calls ≡ 0) × (s.syncs ≡ 0) × (s.faults ≡ 0)
IsFresh NoMemory = ⊥

-- a store of the host tells neither its bytes nor which calls fail
abbrev pub untold : StoreOfHost → StoreState
untold s = record { size = s.size; bytes = None; calls = record { fails = None; calls = s.calls }; syncs = s.syncs }
