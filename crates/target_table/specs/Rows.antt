-- The table as contracts see it: its commands with their ids, in the order of their serials.
use Rattle.std.specs.Prelude.{◌≡◌, ℕ, ◌+◌, ◌-◌, ◌≤◌, ◌<◌, nat_lt, nat_le, not, Bool, true, false, suc, zero, List, [], ◌∷◌, length, Option, Some, None, if◌then◌else◌}
use Rattle.std.specs.List.{list_any}
use Rattle.std.specs.Option.{option_map}
use Rattle.tcmu_types.specs.Lists.{first_of, without_first}
use Rattle.region_model.specs.Pending.{NotAfter, PendingData}
use Rattle.region_model.specs.Sides.{PendingRow}
use Rattle.region_model.specs.Represents.{has_id}

-- the rows, how many of them are expired, and for how many more there is a place
pub record TableData : Type 0 where
  pub rows : List PendingRow
  pub expired : ℕ
  pub spare : ℕ

abbrev pub is_expired : PendingRow → Bool
is_expired r = r.pending.expired

abbrev pub is_waiting : PendingRow → Bool
is_waiting r = not r.pending.expired

-- the moment is at or behind a deadline
abbrev pub has_passed : ℕ → Option ℕ → Bool
has_passed now None = false
has_passed now (Some deadline) = nat_le deadline now

abbrev pub is_behind : ℕ → PendingRow → Bool
is_behind serial r = nat_lt serial r.pending.serial

abbrev pub id_in_row : Option PendingRow → Option ℕ
id_in_row row = option_map (λ r. r.id) row

-- the command of an id
abbrev pub command_of : List PendingRow → ℕ → Option PendingData
command_of rows id = option_map (λ r. r.pending) (first_of (has_id id) rows)

abbrev pub with_expired : PendingRow → PendingRow
with_expired r = record r { pending = record r.pending { expired = true } }

abbrev pub without_found : TableData → ℕ → Option PendingData → TableData
without_found t id None = t
without_found t id (Some p) =
    record {
      rows = without_first (has_id id) t.rows;
      expired = if p.expired then t.expired - 1 else t.expired;
      spare = t.spare + 1;
    }

-- the table after the command of an id, if there is one, is taken out
abbrev pub without : TableData → ℕ → TableData
without t id = without_found t id (command_of t.rows id)

-- ==== what every table keeps

pub record Precedes (p q : PendingData) : Type 0 where
  pub serial : p.serial < q.serial
  pub deadline : NotAfter p.deadline q.deadline

-- each row comes before a command
abbrev pub AllPrecede : List PendingRow → PendingData → Type 0
AllPrecede [] q = Unit {0}
AllPrecede (r ∷ rs) q = Precedes r.pending q × AllPrecede rs q

abbrev pub PrecedesAll : PendingRow → List PendingRow → Type 0
PrecedesAll r [] = Unit {0}
PrecedesAll r (x ∷ xs) = Precedes r.pending x.pending × PrecedesAll r xs

-- each row comes before all behind it
abbrev pub AreInOrder : List PendingRow → Type 0
AreInOrder [] = Unit {0}
AreInOrder (r ∷ rs) = PrecedesAll r rs × AreInOrder rs

-- no two rows have one id
abbrev pub IdsDiffer : List PendingRow → Type 0
IdsDiffer [] = Unit {0}
IdsDiffer (r ∷ rs) = (list_any (has_id r.id) rs ≡ false) × IdsDiffer rs

-- ids are 1 to 65,535
abbrev pub AreIds : List PendingRow → Type 0
AreIds [] = Unit {0}
AreIds (r ∷ rs) = (1 ≤ r.id) × (r.id ≤ 65535) × AreIds rs

-- the first n rows are expired, and no other
abbrev pub ExpiredFirst : ℕ → List PendingRow → Type 0
ExpiredFirst zero [] = Unit {0}
ExpiredFirst zero (r ∷ rs) = (r.pending.expired ≡ false) × ExpiredFirst zero rs
ExpiredFirst (suc n) [] = ⊥
ExpiredFirst (suc n) (r ∷ rs) = (r.pending.expired ≡ true) × ExpiredFirst n rs

pub record IsTable (t : TableData) : Type 0 where
  pub in_order : AreInOrder t.rows
  pub ids : AreIds t.rows
  pub differ : IdsDiffer t.rows
  pub expired : ExpiredFirst t.expired t.rows
  pub room : length t.rows + t.spare ≤ 65535
