-- The devices of a scenario as they open over files, and the files as the devices leave them.
use Rattle.std.specs.Prelude.{◌≡◌, ◌≢◌, ℕ, ◌/◌, ◌%◌, ◌^◌, ◌≤◌, Bool, true, false, ◌||◌, List, [], ◌∷◌, ◌++◌, length, Option, Some, IfSome, is_some, slice_get, bytes_eq}
use Rattle.std.specs.List.{list_any}
use Rattle.std.specs.Option.{option_map}
use Rattle.tcmu_types.specs.Numbered.{Rose, next_call}
use Rattle.edge.specs.Stores.{StoreState, Content, store_of, Place, out, at_home, FilesState, fetch_fails, after_fetch, after_keep}
use Rattle.media.specs.Opening as medium
use Rattle.media.specs.declared.make.MakeFault.{MakeFault}
use Rattle.media.specs.declared.make.MakeFault.TheVariants as fault
use Rattle.tcmu_model.specs.MediumState.{MediumState}
use Rattle.scsi_model.specs.Base.{zeroed}
use Rattle.scsi_model.specs.Medium.{has_store, opened_medium, memory_below, file_below}
use Rattle.tcmu_model.specs.Device.{Device}
use Rattle.text_model.specs.Config.{ConfigData, MediumData, InMemory, InFile}
use Rattle.text_model.specs.ScenarioData.{DeviceLineData, opened_as}

-- ==== as they open

-- so many logical blocks of zeros
abbrev pub OpensMemory : ℕ → ConfigData → MediumState → Type 0
OpensMemory blocks c m = m ≡ opened_medium blocks c.protected c.fails (memory_below blocks)

-- The whole logical blocks of a store, from one to 2^35 of them. Where the files tell, it is that of the content at this name.
pub record OpensFile (name : List ℕ) (files : Option FilesState) (c : ConfigData) (m : MediumState) : Type 0 where
  pub store : StoreState
  pub whole : store.size % 512 ≡ 0
  pub some : 512 ≤ store.size
  pub most : store.size ≤ 2 ^ 44
  pub told : IfSome files (λ f. (content : Content) × (f.places name ≡ at_home content) × (store ≡ store_of content))
  pub medium : m ≡ opened_medium (store.size / 512) c.protected c.fails (file_below store.size store.bytes store.calls store.syncs)

-- by what bears the medium: memory, or a file
abbrev pub OpensKind : MediumData → Option FilesState → ConfigData → MediumState → Type 0
OpensKind (InMemory blocks) files = OpensMemory blocks
OpensKind (InFile name) files = OpensFile name files

-- the device of a device line, as it opens over these files
abbrev pub Opens : Option FilesState → DeviceLineData → Device → Type 0
Opens files l d = (m : MediumState) × OpensKind l.config.kind files l.config m × (d ≡ opened_as l m)

-- the devices of these device lines, in order
abbrev pub OpenEach : Option FilesState → List DeviceLineData → List Device → Type 0
OpenEach files [] [] = Unit {0}
OpenEach files (l ∷ ls) (d ∷ ds) = Opens files l d × OpenEach files ls ds
OpenEach files _ _ = ⊥

-- ==== fetches

-- with the name of a file in front, where it is one
abbrev pub name_in : MediumData → List (List ℕ) → List (List ℕ)
name_in (InFile name) names = name ∷ names
name_in (InMemory blocks) names = names

-- the names of the files of these device lines, in order
abbrev pub file_names : List DeviceLineData → List (List ℕ)
file_names [] = []
file_names (l ∷ ls) = name_in l.config.kind (file_names ls)

-- whether one of the fetches of these names, in order, fails
abbrev pub a_fetch_fails : List (List ℕ) → FilesState → Bool
a_fetch_fails [] f = false
a_fetch_fails (name ∷ names) f = fetch_fails name f || a_fetch_fails names (after_fetch name f)

-- the files behind the fetches of these names, in order
abbrev pub after_fetches : List (List ℕ) → FilesState → FilesState
after_fetches [] f = f
after_fetches (name ∷ names) f = after_fetches names (after_fetch name f)

-- ==== as they are left

-- a device line names this file
abbrev pub is_named : List DeviceLineData → List ℕ → Bool
is_named ls name = list_any (bytes_eq name) (file_names ls)

-- this holds of each file that a device line names, by the line's number and the name
abbrev pub EachFile : List DeviceLineData → (ℕ → List ℕ → Type 0) → Type 0
EachFile ls P = (at : ℕ) (l : DeviceLineData) (name : List ℕ) → slice_get ls at ≡ Some l → l.config.kind ≡ InFile name → P at name

-- A file holds what a medium left in its store: as many bytes, which are the store's but for the free blocks, the calls that were made, and
-- how many of them were syncs.
pub record IsLeftOf (m : MediumState) (content : Content) : Type 0 where
  pub size : length content.bytes ≡ m.below.store.size
  pub bytes : m.below.store.bytes ≡ Some (zeroed m.below.store.free content.bytes)
  pub calls : content.calls ≡ m.below.store.calls
  pub syncs : content.syncs ≡ m.below.store.syncs

-- a file stands there that holds what a medium left in it
abbrev pub Holds : MediumState → Place → Type 0
Holds m place = (content : Content) × (place ≡ at_home content) × IsLeftOf m content

-- each file that no device line names is as it was
abbrev pub SameOthers : List DeviceLineData → FilesState → FilesState → Type 0
SameOthers ls f f' = (name : List ℕ) → is_named ls name ≡ false → f'.places name ≡ f.places name

-- The file of each device line holds what its device left in it, and each other file is as it was. So many fetches were made.
pub record Kept (ls : List DeviceLineData) (ends : List Device) (count : ℕ) (f f' : FilesState) : Type 0 where
  pub named : EachFile ls (λ at name. (d : Device) → slice_get ends at ≡ Some d → Holds d.medium (f'.places name))
  pub others : SameOthers ls f f'
  pub fails : f'.fails ≡ f.fails
  pub fetches : f'.fetches ≡ count

-- where the files tell: they are kept so, and just the fetches of these device lines were made
abbrev pub KeptFiles : List DeviceLineData → List Device → Option FilesState → Option FilesState → Type 0
KeptFiles ls ends files files' = IfSome files (λ f. (f' : FilesState) × (files' ≡ Some f') × Kept ls ends (after_fetches (file_names ls) f).fetches f f')

-- A front of these names: none of its fetches, in order, fails.
pub record FetchedFront (names : List (List ℕ)) (f : FilesState) : Type 0 where
  pub tried : List (List ℕ)
  pub rest : List (List ℕ)
  pub front : names ≡ tried ++ rest
  pub none : a_fetch_fails tried f ≡ false

-- Just the fetches of such a front were made. The count is that of all fetches, behind them.
pub record NoneFailed (names : List (List ℕ)) (f : FilesState) (count : ℕ) : Type 0 where
  pub made : FetchedFront names f
  pub fetches : count ≡ (after_fetches made.tried f).fetches

-- Just the fetches of such a front were made, and one more: that of the next name, which failed.
pub record NextFailed (names : List (List ℕ)) (f : FilesState) (count : ℕ) : Type 0 where
  pub made : FetchedFront names f
  pub lacking : List ℕ
  pub more : List (List ℕ)
  pub next : made.rest ≡ lacking ∷ more
  pub fails : fetch_fails lacking (after_fetches made.tried f) ≡ true
  pub fetches : count ≡ next_call (after_fetches made.tried f).fetches

-- each file is as it was, whichever its name
pub record SameFiles (f f' : FilesState) : Type 0 where
  pub places : (name : List ℕ) → f'.places name ≡ f.places name
  pub fails : f'.fails ≡ f.fails

-- where the files tell: each is as it was, and of the fetches of these device lines' files those were made that this says
abbrev pub AsTheyWere : (List (List ℕ) → FilesState → ℕ → Type 0) → List DeviceLineData → Option FilesState → Option FilesState → Type 0
AsTheyWere Fetches ls files files' = IfSome files (λ f. (f' : FilesState) × (files' ≡ Some f') × SameFiles f f' × Fetches (file_names ls) f f'.fetches)

-- ==== how they are opened, and given back

-- a device was opened over the medium that was made for it
abbrev pub Made : DeviceLineData → Option FilesState → Option FilesState → Device → Type 0
Made l old new d = (m : MediumState) × medium.MakesMedium l.config old new m × (d ≡ opened_as l m)

-- these names were fetched: no fetch failed, and the files are as these leave them
pub record Fetched (names : List (List ℕ)) (files files' : Option FilesState) : Type 0 where
  pub none : IfSome files (λ f. a_fetch_fails names f ≡ false)
  pub after : files' ≡ option_map (after_fetches names) files

-- one device more is open, behind the others
abbrev pub Adds : DeviceLineData → Option FilesState → Option FilesState → (set set' : List (List ℕ × Device)) → Type 0
Adds l old new set set' = (d : Device) × Made l old new d × (set' ≡ set ++ (l.name, d) ∷ [])

-- the devices of these device lines are open
pub record AreOpen (files files' : Option FilesState) (ls : List DeviceLineData) (ds : List Device) : Type 0 where
  pub opens : OpenEach files ls ds
  pub fetched : Fetched (file_names ls) files files'

-- A file could not be fetched: its fetch is the last that was made, and the first that failed. Each file is as it was.
pub record OpenFailed (ls : List DeviceLineData) (files files' : Option FilesState) (faults faults' : ℕ) : Type 0 where
  pub fails : IfSome files (λ f. a_fetch_fails (file_names ls) f ≡ true)
  pub same : AsTheyWere NextFailed ls files files'
  pub rose : Rose faults faults'

-- why the devices of these device lines could not be opened
abbrev pub Unopened : MakeFault → List DeviceLineData → Option FilesState → Option FilesState → ℕ → ℕ → Type 0
Unopened fault.Open ls files files' faults faults' = OpenFailed ls files files' faults faults'
Unopened fault.NoMemory ls files files' faults faults' = AsTheyWere NoneFailed ls files files'

-- What is given back of a device: nothing of one in memory. The file of another, where its store tells its bytes, is what the medium left.
abbrev pub Returns : MediumData → MediumState → Option FilesState → Option FilesState → Type 0
Returns (InMemory blocks) m old new = new ≡ old
Returns (InFile name) m old new =
    has_store m.below.layer ≡ true → is_some m.below.store.bytes ≡ true → (c : Content) × IsLeftOf m c × (new ≡ option_map (after_keep name c) old)

-- no two device lines name one file
abbrev pub OwnFiles : List DeviceLineData → Type 0
OwnFiles ls = EachFile ls (λ i a. EachFile ls (λ j b. i ≢ j → bytes_eq a b ≡ false))

-- the store of each device over a file tells its bytes
abbrev pub TellFiles : List DeviceLineData → List Device → Type 0
TellFiles ls ends = EachFile ls (λ at name. (d : Device) → slice_get ends at ≡ Some d → (has_store d.medium.below.layer ≡ true) × (is_some d.medium.below.store.bytes ≡ true))

-- the file of each device line is out
abbrev pub AreOut : List DeviceLineData → FilesState → Type 0
AreOut ls f = EachFile ls (λ at name. f.places name ≡ out)

-- the files of these device lines, which are out, are given back, and no fetch is made
abbrev pub KeepsEach : List DeviceLineData → List Device → Option FilesState → Option FilesState → Type 0
KeepsEach ls ends old new =
    OwnFiles ls → TellFiles ls ends → (f : FilesState) → old ≡ Some f → AreOut ls f → (f' : FilesState) × (new ≡ Some f') × Kept ls ends f.fetches f f'
