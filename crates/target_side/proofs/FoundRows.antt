-- The command of an id, in the table.
use Rattle.std.proofs.Common.{◌≡◌, ℕ, ◌+◌, ◌≤◌, Bool, cond, not, List, Option, Some, None, refl, sym, ap, ◌∙◌, arith, subst}
use Rattle.std.specs.Option.{option_map}
use Rattle.tcmu_types.specs.Lists.{first_of, without_first}
use Rattle.region_model.specs.Pending.{PendingData}
use Rattle.region_model.specs.Represents.{has_id}
use Rattle.region_model.specs.Sides.{PendingRow}
use Rattle.tcmu_types.proofs.Firsts.{without_first_missing}
use Rattle.target_table.specs.Rows.{TableData, command_of, without_found}
use Rattle.target_side.specs.Books.{to_log}
use Rattle.target_side.specs.HeldRows.{HeldRows}
use Rattle.target_side.proofs.Completions.{to_log_left}

-- a row that is found by its id, with this command
pub record FoundRow (rows : List PendingRow) (id : ℕ) (p : PendingData) : Type 0 where
  pub row : PendingRow
  pub there : first_of (has_id id) rows ≡ Some row
  pub pending : row.pending ≡ p

pub found_row : (rows : List PendingRow) (id : ℕ) (p : PendingData) → command_of rows id ≡ Some p → FoundRow rows id p
found_row rows id p h = go (first_of (has_id id) rows) refl h
  where
    go : (o : Option PendingRow) → first_of (has_id id) rows ≡ o → option_map (λ (r : PendingRow). r.pending) o ≡ Some p → FoundRow rows id p
    go None e q = absurd (cc)
    go (Some r) e q = record { row = r; there = e; pending = cc }

pub no_row : (rows : List PendingRow) (id : ℕ) → command_of rows id ≡ None → first_of (has_id id) rows ≡ None
no_row rows id h = go (first_of (has_id id) rows) refl h
  where
    go : (o : Option PendingRow) → first_of (has_id id) rows ≡ o → option_map (λ (r : PendingRow). r.pending) o ≡ None → first_of (has_id id) rows ≡ None
    go None e q = e
    go (Some r) e q = absurd (cc)

pub rows_without : (t : TableData) (id : ℕ) (o : Option PendingData) → command_of t.rows id ≡ o → (without_found t id o).rows ≡ without_first (has_id id) t.rows
rows_without t id None h = sym (without_first_missing (has_id id) t.rows (no_row t.rows id h))
rows_without t id (Some p) h = refl

-- where no command has the id, nothing is taken out
pub none_gone : (h after : HeldRows) (id : ℕ) → after ≡ record h { rows = without_first (has_id id) h.rows } → None ≡ command_of h.rows id → after ≡ h
none_gone h after id e n = e ∙ ap (λ (xs : List PendingRow). record h { rows = xs }) (without_first_missing (has_id id) h.rows (no_row h.rows id (sym n)))

-- ==== completions that are still to come

pub finished_count : (rows : List PendingRow) (id : ℕ) (p : PendingData) → Some p ≡ command_of rows id → to_log (without_first (has_id id) rows) + cond (not p.expired) 1 0 ≡ to_log rows
finished_count rows id p h =
    let f = found_row rows id p (sym h) in
    subst (λ (q : PendingData). to_log (without_first (has_id id) rows) + cond (not q.expired) 1 0 ≡ to_log rows) f.pending (to_log_left (has_id id) rows f.row f.there)

pub left_most : (p : PendingRow → Bool) (rows : List PendingRow) → to_log (without_first p rows) ≤ to_log rows
left_most p rows = go (first_of p rows) refl
  where
    go : (o : Option PendingRow) → first_of p rows ≡ o → to_log (without_first p rows) ≤ to_log rows
    go None e = let q = ap (λ (xs : List PendingRow). to_log xs) (without_first_missing p rows e) in omega (arith, q)
    go (Some r) e = let q = to_log_left p rows r e in omega (arith, q)
