-- What the fields of the table keep: places, the ids of free places, and serials with ids in rising order.
use Rattle.std.specs.Prelude.{◌≡◌, ℕ, ◌+◌, ◌-◌, ◌≤◌, ◌==◌, Bool, true, false, List, [], ◌∷◌, length, map, slice_index_or, Option, Some, None, if◌then◌else◌}
use Rattle.std.specs.List.{list_any}
use Rattle.region_model.specs.Pending.{PendingData}
use Rattle.tcmu_types.specs.Numbers.{Differ, is_among}
use Rattle.target_table.specs.declared.table.Ranked.{Ranked}
use Rattle.target_table.specs.Rows.{IsTable}
use Rattle.region_model.specs.Sides.{PendingRow}

-- stands for a command that is not there
abbrev pub no_command : PendingData
no_command = record { serial = 0; init = []; tag = 0; in_len = 0; blocks = []; deadline = None; expired = false; buffer = [] }

-- what stands in the place of an id
abbrev pub place_of : List (Option PendingData) → ℕ → Option PendingData
place_of places id = slice_index_or places (id - 1) None

-- no place has the id 0
abbrev pub at_id : List (Option PendingData) → ℕ → Option PendingData
at_id places id = if id == 0 then None else place_of places id

abbrev pub or_none : Option PendingData → PendingData
or_none None = no_command
or_none (Some p) = p

abbrev pub row_at : List (Option PendingData) → Ranked → PendingRow
row_at places o = record { id = o.id; pending = or_none (place_of places o.id) }

abbrev pub rows_of : List (Option PendingData) → List Ranked → List PendingRow
rows_of places order = map (row_at places) order

-- each has its command in the place of its id
pub record Stands (places : List (Option PendingData)) (o : Ranked) : Type 0 where
  pub low : 1 ≤ o.id
  pub high : o.id ≤ length places
  pub here : place_of places o.id ≡ Some (or_none (place_of places o.id))
  pub serial : (or_none (place_of places o.id)).serial ≡ o.serial

abbrev pub AllStand : List (Option PendingData) → List Ranked → Type 0
AllStand places [] = Unit {0}
AllStand places (o ∷ os) = Stands places o × AllStand places os

abbrev pub is_ranked : List Ranked → ℕ → Bool
is_ranked order id = list_any (λ o. o.id == id) order

-- the place of an id is there, and free
pub record IsFree (places : List (Option PendingData)) (id : ℕ) : Type 0 where
  pub low : 1 ≤ id
  pub high : id ≤ length places
  pub free : place_of places id ≡ None

pub record IsKept (places : List (Option PendingData)) (free : List ℕ) (order : List Ranked) (expired : ℕ) : Type 0 where
  pub stand : AllStand places order
  pub ranked : (id : ℕ) (p : PendingData) → 1 ≤ id → place_of places id ≡ Some p → is_ranked order id ≡ true
  pub are_free : (id : ℕ) → is_among free id ≡ true → IsFree places id
  pub once : Differ free
  pub counted : length order + length free ≡ length places
  pub most : length places ≤ 65535
  pub sound : IsTable (record { rows = rows_of places order; expired = expired; spare = length free })
