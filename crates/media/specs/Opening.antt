-- How the medium that a config names opens, and why none does.
use Rattle.std.specs.Prelude.{◌≡◌, ◌⊎◌, ℕ, ◌/◌, true, List, Option, Some, None, IfSome, MatchOption}
use Rattle.std.specs.Option.{option_map}
use Rattle.tcmu_types.specs.Numbered.{Rose}
use Rattle.text_model.specs.Config.{ConfigData, MediumData, InMemory, InFile}
use Rattle.tcmu_model.specs.MediumState.{MediumState}
use Rattle.scsi_model.specs.Medium.{opened_medium, memory_below, file_below}
use Rattle.edge.specs.Stores.{StoreState, FilesState, FetchGives, fetch_fails, one_more_fetch, after_fetch}
use Rattle.media.specs.declared.make.MakeFault.{MakeFault}
use Rattle.media.specs.declared.make.MakeFault.TheVariants.{Open, NoMemory}

-- so many logical blocks of zeros; the files are as they were
pub record MakesMemory (blocks : ℕ) (c : ConfigData) (old new : Option FilesState) (m : MediumState) : Type 0 where
  pub medium : m ≡ opened_medium blocks c.protected c.fails (memory_below blocks)
  pub files : new ≡ old

-- the file of this name, as its store tells it; the file is out from then on
pub record MakesFile (name : List ℕ) (c : ConfigData) (old new : Option FilesState) (m : MediumState) : Type 0 where
  pub store : StoreState
  pub medium : m ≡ opened_medium (store.size / 512) c.protected c.fails (file_below store.size store.bytes store.calls store.syncs)
  pub fetched : FetchGives name store old new

-- as it opens by what bears it: memory, or a file
abbrev pub MakesKind : MediumData → ConfigData → Option FilesState → Option FilesState → MediumState → Type 0
MakesKind (InMemory blocks) = MakesMemory blocks
MakesKind (InFile name) = MakesFile name

-- the medium that a config names, as it opens from these files
abbrev pub MakesMedium : ConfigData → Option FilesState → Option FilesState → MediumState → Type 0
MakesMedium c = MakesKind c.kind c

-- The file of this name could not be fetched: the fetch failed as the files have it, was counted, and counted as a fault.
pub record LacksFile (name : List ℕ) (old new : Option FilesState) (faults later : ℕ) : Type 0 where
  pub fails : IfSome old (λ f. fetch_fails name f ≡ true)
  pub files : new ≡ option_map one_more_fetch old
  pub rose : Rose faults later

-- why no file was given; where memory was wanting the files are as they were
abbrev pub RefusesFetch : MakeFault → List ℕ → Option FilesState → Option FilesState → ℕ → ℕ → Type 0
RefusesFetch Open name old new faults later = LacksFile name old new faults later
RefusesFetch NoMemory name old new faults later = new ≡ old

-- The file that want of memory may leave out. A kind of medium has one where it takes memory of its own behind its fetch. Neither kind does:
-- a medium in memory makes no fetch, and one over a file takes none behind it.
abbrev pub may_stay_out : MediumData → Option (List ℕ)
may_stay_out (InMemory blocks) = None
may_stay_out (InFile name) = None

-- what want of memory leaves of the files: they are as they were, but that such a file may be out
abbrev pub LeavesAtWant : MediumData → Option FilesState → Option FilesState → Type 0
LeavesAtWant kind old new = MatchOption (may_stay_out kind) (new ≡ old) (λ name. (new ≡ old) ⊎ (new ≡ option_map (after_fetch name) old))

-- why none was made, by what bears it: memory, or a file
abbrev pub RefusesKind : MediumData → MakeFault → Option FilesState → Option FilesState → ℕ → ℕ → Type 0
RefusesKind (InMemory blocks) Open old new faults later = ⊥
RefusesKind (InMemory blocks) NoMemory old new faults later = LeavesAtWant (InMemory blocks) old new
RefusesKind (InFile name) Open old new faults later = LacksFile name old new faults later
RefusesKind (InFile name) NoMemory old new faults later = LeavesAtWant (InFile name) old new

-- why no medium was made for a config: its file could not be fetched, or memory was wanting
abbrev pub Refuses : MakeFault → ConfigData → Option FilesState → Option FilesState → ℕ → ℕ → Type 0
Refuses e c = RefusesKind c.kind e
