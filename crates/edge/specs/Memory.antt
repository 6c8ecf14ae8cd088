-- What numbered calls, a source, a sink, a store and files in memory show.
use Rattle.std.specs.Prelude.{ℕ, List, [], ◌∷◌, bytes_eq, Option, Some, None, if◌then◌else◌}
use Rattle.edge.specs.Stores.{Content, Place, missing, out, at_home, FilesState, with_place}

-- the numbers of the calls that fail, the calls made, and the faults
pub record CallsInMemory : Type 0 where
  pub fails : List ℕ
  pub calls : ℕ
  pub faults : ℕ

-- the bytes that are left, the numbers of the calls that fail, the calls made, and the faults
pub record FromMemory : Type 0 where
  pub left : List ℕ
  pub fails : List ℕ
  pub calls : ℕ
  pub faults : ℕ

-- the bytes written, the room that is left (in bytes), the numbers of the calls that fail, the calls made, and the faults
pub record ToMemory : Type 0 where
  pub written : List ℕ
  pub room : ℕ
  pub fails : List ℕ
  pub calls : ℕ
  pub faults : ℕ

-- the bytes of a store, the numbers of the calls that fail, the calls made, how many were syncs, and the faults
pub record StoreInMemory : Type 0 where
  pub bytes : List ℕ
  pub fails : List ℕ
  pub calls : ℕ
  pub syncs : ℕ
  pub faults : ℕ

-- what the store of a file in memory tells
abbrev pub content_of : StoreInMemory → Content
content_of s = record { bytes = s.bytes; calls = record { fails = Some s.fails; calls = s.calls }; syncs = s.syncs }

-- a file by its name: its store, while it is at home
pub record NamedStore : Type 0 where
  pub name : List ℕ
  pub store : Option StoreInMemory

-- the files, the numbers of the fetches that fail, the fetches made, and the faults
pub record FilesInMemory : Type 0 where
  pub files : List NamedStore
  pub fails : List ℕ
  pub fetches : ℕ
  pub faults : ℕ

-- where a file stands whose store is at home or not
abbrev pub place_of : Option StoreInMemory → Place
place_of None = out
place_of (Some s) = at_home (content_of s)

-- where a name stands among these files
abbrev pub place_in : List NamedStore → List ℕ → Place
place_in [] name = missing
place_in (f ∷ files) name = if bytes_eq f.name name then place_of f.store else place_in files name

abbrev pub files_state : FilesInMemory → FilesState
files_state m = record { places = place_in m.files; fails = m.fails; fetches = m.fetches }

-- behind a file that was added
abbrev pub after_add : List ℕ → Content → FilesState → FilesState
after_add name c f = record f { places = with_place name (at_home c) f.places }

-- the content of a file that is at home
abbrev pub content_at : Place → Option Content
content_at missing = None
content_at out = None
content_at (at_home c) = Some c
