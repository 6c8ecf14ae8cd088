-- What the numbers of the target's books keep when an item is cleaned.
use Rattle.std.proofs.Common.{◌≡◌, ℕ, ◌+◌, ◌≤◌, cond, Bool, List, [], ◌∷◌, Option, Some, refl, ap, ◌∙◌, arith}
use Rattle.tcmu_types.specs.Data.{DoneData, SettingsData}
use Rattle.tcmu_types.specs.declared.settings.Flags.{Flags}
use Rattle.tcmu_types.specs.Lists.{first_of, without_first}
use Rattle.tcmu_model.specs.Device.{Delayed}
use Rattle.region_model.specs.Sides.{PendingRow, Recorded}
use Rattle.target_side.specs.declared.entries.Entries.{Entries}
use Rattle.target_side.specs.Books.{IsBooks, books_of, is_unlogged}
use Rattle.target_side.specs.RingRecord.{RingRecord, passed, passed_of}
use Rattle.target_side.proofs.Counts.{books_finished, books_same}

-- the settings that stand with the entries
pub record SameSettings (e e' : Entries) : Type 0 where
  pub size : e'.places.ring.size ≡ e.places.ring.size
  pub limit : e'.commands.limit ≡ e.commands.limit
  pub pages : e'.pages ≡ e.pages

abbrev settings_with : Flags → ℕ → ℕ → ℕ → ℕ → ℕ → SettingsData
settings_with flags timeout qfull ring blocks pages = record { ring = ring; blocks = blocks; flags = flags; timeout = timeout; qfull = qfull; pages = pages }

pub same_settings : (flags : Flags) (timeout qfull : ℕ) (e e' : Entries) → SameSettings e e' →
    settings_with flags timeout qfull e'.places.ring.size e'.commands.limit e'.pages ≡ settings_with flags timeout qfull e.places.ring.size e.commands.limit e.pages
same_settings flags timeout qfull e e' s =
    ap (λ n. settings_with flags timeout qfull n e'.commands.limit e'.pages) s.size
    ∙ (ap (λ n. settings_with flags timeout qfull e.places.ring.size n e'.pages) s.limit
    ∙ ap (λ n. settings_with flags timeout qfull e.places.ring.size e.commands.limit n) s.pages)

-- a command's item, and its command
pub finished_books : (flags : Flags) (timeout qfull now : ℕ) (blocked : Bool) (accepted : ℕ) (delayed : List Delayed) (laid cleared : ℕ) (broken : Option ℕ) (log logged : List DoneData) (e e' : Entries) (p : PendingRow → Bool) (row : PendingRow) (spare left : ℕ) →
    IsBooks (books_of flags timeout qfull now blocked accepted e delayed laid cleared broken log) spare → first_of p e.commands.rows ≡ Some row → e'.commands.rows ≡ without_first p e.commands.rows → SameSettings e e' → spare ≤ left + cond (is_unlogged row) 1 0 →
    IsBooks (books_of flags timeout qfull now blocked accepted e' delayed laid (cleared + 1) broken logged) left
finished_books flags timeout qfull now blocked accepted delayed laid cleared broken log logged e e' p row spare left h f w s l =
    books_finished p row (books_of flags timeout qfull now blocked accepted e delayed laid cleared broken log) (books_of flags timeout qfull now blocked accepted e' delayed laid (cleared + 1) broken logged) spare left h
    (record { there = f; settings = same_settings flags timeout qfull e e' s; now = refl; laid = refl; cleared = refl; rows = w; delayed = refl; accepted = refl }) l

-- the numbers are the same, whatever id is kept
pub passed_books : (flags : Flags) (timeout qfull now : ℕ) (blocked : Bool) (accepted : ℕ) (delayed : List Delayed) (laid cleared : ℕ) (broken stopped : Option ℕ) (log : List DoneData) (e e' : Entries) (spare : ℕ) →
    IsBooks (books_of flags timeout qfull now blocked accepted e delayed laid cleared broken log) spare → e'.commands.rows ≡ e.commands.rows → SameSettings e e' →
    IsBooks (books_of flags timeout qfull now blocked accepted e' delayed laid cleared stopped log) spare
passed_books flags timeout qfull now blocked accepted delayed laid cleared broken stopped log e e' spare h w s =
    books_same (books_of flags timeout qfull now blocked accepted e delayed laid cleared broken log) (books_of flags timeout qfull now blocked accepted e' delayed laid cleared stopped log) spare spare h
    (record { settings = same_settings flags timeout qfull e e' s; now = refl; laid = refl; cleared = refl; rows = w; delayed = refl; accepted = refl }) (omega arith)

-- the ring keeps its size
pub passed_size : (p : RingRecord) → (passed p).size ≡ p.size
passed_size p = go p.items
  where
    go : (xs : List Recorded) → (passed_of p xs).size ≡ p.size
    go [] = refl
    go (x ∷ xs) = refl
