-- What is told of a store of bytes and of files by name.
use Rattle.std.specs.Prelude.{◌≡◌, ℕ, ◌%◌, ◌^◌, ◌≤◌, Bool, false, not, ◌||◌, ◌&&◌, nat_le, nat_eq, List, length, take, drop, bytes_eq, Option, Some, IfSome, if◌then◌else◌}
use Rattle.std.specs.Option.{option_map}
use Rattle.tcmu_types.specs.Numbered.{Numbered, is_listed, next_call}
use Rattle.tcmu_types.specs.Overwriting.{overwritten}

-- ==== a store

-- what a store shows: how many bytes it holds, the bytes, where told, its numbered calls, and how many of them were syncs
pub record StoreState : Type 0 where
  pub size : ℕ
  pub bytes : Option (List ℕ)
  pub calls : Numbered
  pub syncs : ℕ

-- the piece stands from its place on; telling is kept
abbrev pub Puts : ℕ → List ℕ → Option (List ℕ) → Option (List ℕ) → Type 0
Puts at piece old new = new ≡ option_map (overwritten at piece) old

-- n bytes from a place on may be others
abbrev pub Spoils : ℕ → ℕ → Option (List ℕ) → Option (List ℕ) → Type 0
Spoils at n old new = (piece : List ℕ) × (length piece ≡ n) × Puts at piece old new

-- these bytes are those from a place on, where told
abbrev pub Shows : Option (List ℕ) → ℕ → List ℕ → Type 0
Shows told at out = IfSome told (λ bytes. out ≡ take (length out) (drop at bytes))

-- ==== files by name

-- what a file holds, how the calls of its store come out, and how many of them were syncs
pub record Content : Type 0 where
  pub bytes : List ℕ
  pub calls : Numbered
  pub syncs : ℕ

-- the store of a file that is told
abbrev pub store_of : Content → StoreState
store_of c = record { size = length c.bytes; bytes = Some c.bytes; calls = c.calls; syncs = c.syncs }

-- where a name stands: there is no such file, it is out, or it is at home with what it holds
pub data Place : Type 0 where
  missing : Place
  out : Place
  at_home : Content → Place

-- the place of each name, the numbers of the fetches that fail, and how many were made
pub record FilesState : Type 0 where
  pub places : List ℕ → Place
  pub fails : List ℕ
  pub fetches : ℕ

-- whether so many bytes are whole logical blocks, from one to 2^35 of them
abbrev pub is_medium_size : ℕ → Bool
is_medium_size n = nat_eq (n % 512) 0 && nat_le 512 n && nat_le n (2 ^ 44)

-- whether a file stands here that a medium can be made of
abbrev pub can_open : Place → Bool
can_open missing = false
can_open out = false
can_open (at_home c) = is_medium_size (length c.bytes)

-- the places with another one for this name
abbrev pub with_place : List ℕ → Place → (List ℕ → Place) → List ℕ → Place
with_place name p places n = if bytes_eq n name then p else places n

-- whether the fetch of a name fails: it is listed, or no such file can be opened
abbrev pub fetch_fails : List ℕ → FilesState → Bool
fetch_fails name f = is_listed f.fails f.fetches || not (can_open (f.places name))

abbrev pub one_more_fetch : FilesState → FilesState
one_more_fetch f = record f { fetches = next_call f.fetches }

-- behind the fetch of a name that file is out
abbrev pub after_fetch : List ℕ → FilesState → FilesState
after_fetch name f = record (one_more_fetch f) { places = with_place name out f.places }

-- The store of a file that was fetched: whole logical blocks, from one to 2^35 of them, and, where the files tell, what the name stood for.
pub record FetchGives (name : List ℕ) (s : StoreState) (old new : Option FilesState) : Type 0 where
  pub whole : s.size % 512 ≡ 0
  pub some : 512 ≤ s.size
  pub most : s.size ≤ 2 ^ 44
  pub told : IfSome old (λ f. (fetch_fails name f ≡ false) × ((c : Content) × (f.places name ≡ at_home c) × (s ≡ store_of c)))
  pub after : new ≡ option_map (after_fetch name) old

-- what comes to a name that is given back: a file that is out is at home again with this content, and any other stays
abbrev pub given_back : Content → Place → Place
given_back c missing = missing
given_back c out = at_home c
given_back c (at_home other) = at_home other

abbrev pub after_keep : List ℕ → Content → FilesState → FilesState
after_keep name c f = record f { places = with_place name (given_back c (f.places name)) f.places }
