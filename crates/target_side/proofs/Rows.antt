-- Commands that are found by their serials, by their ids, and by what is due.
use Rattle.std.proofs.Common.{◌≡◌, ℕ, ◌-◌, ◌≤◌, ◌<◌, eqb, leb, ltb, Bool, true, false, cond, List, [], ◌∷◌, Option, Some, None, refl, sym, ap, ◌∙◌, arith, subst, ⊎_elim}
use Rattle.std.specs.Prelude.{◌&&◌, MatchOption}
use Rattle.std.specs.List.{list_any}
use Rattle.std.specs.Option.{option_map}
use Rattle.std.proofs.Math.Bool.{and-false}
use Rattle.std.proofs.lemmas.Bool.{cases_Bool, true≢false, eq-eqb, ne_eqb, le-leb, lt-leb, leb-true, leb-false, ltb-true, ltb-false}
use Rattle.tcmu_types.specs.Lists.{first_of}
use Rattle.region_model.specs.Pending.{NotAfter, PendingData}
use Rattle.region_model.specs.Represents.{has_id, row_has}
use Rattle.region_model.specs.Sides.{PendingRow}
use Rattle.region_model.specs.TargetSteps.{is_due_at}
use Rattle.target_table.specs.Rows.{AreInOrder, IdsDiffer, IsTable, PrecedesAll, TableData, command_of, has_passed, id_in_row, is_waiting}
use Rattle.target_table.proofs.Ordered.{first-any}
use Rattle.target_side.specs.HeldRows.{IsNextDue, is_from}

pub some_same : {X : Type 0} (x y : X) → Some x ≡ Some y → x ≡ y
some_same x y h = cc

pub none_not : {X : Type 0} (x : X) → ◌≡◌ {A = Option X} None (Some x) → ⊥
none_not x h = cc

pub same_first : (p q : PendingRow → Bool) (rows : List PendingRow) → ((r : PendingRow) → p r ≡ q r) → first_of p rows ≡ first_of q rows
same_first p q [] h = refl
same_first p q (x ∷ xs) h = ap (λ b. cond b (Some x) (first_of p xs)) (h x) ∙ ap (λ o. cond (q x) (Some x) o) (same_first p q xs h)

-- ==== by id

pub found_own : (p : PendingRow → Bool) (rows : List PendingRow) (r : PendingRow) → IdsDiffer rows → first_of p rows ≡ Some r → first_of (has_id r.id) rows ≡ Some r
found_own p [] r d h = absurd (none_not r h)
found_own p (x ∷ xs) r d h =
    ⊎_elim
    (λ (k : p x ≡ true).
    let e : x ≡ r = some_same x r (rw k at h) in
    let i : eqb x.id r.id ≡ true = eq-eqb x.id r.id (ap (λ (y : PendingRow). y.id) e) in
    rw i (ap Some e))
    (λ (k : p x ≡ false).
    let g : first_of p xs ≡ Some r = rw k at h in
    let i : eqb x.id r.id ≡ false = ne_eqb x.id r.id (λ q. true≢false (sym (ap (λ n. list_any (has_id n) xs) q ∙ first-any p xs r g) ∙ d.0)) in
    rw i (found_own p xs r d.1 g))
    (cases_Bool (p x))

-- ==== by serial

behind_from : (s n : ℕ) → 1 ≤ s → ltb (s - 1) n ≡ leb s n
behind_from s n h =
    ⊎_elim
    (λ (k : ltb (s - 1) n ≡ true). let l : s - 1 < n = ltb-true (s - 1) n k in k ∙ sym (le-leb s n (omega (arith, l, h))))
    (λ (k : ltb (s - 1) n ≡ false). let l : n ≤ s - 1 = ltb-false (s - 1) n k in k ∙ sym (lt-leb s n (omega (arith, l, h))))
    (cases_Bool (ltb (s - 1) n))

pub from_behind : (s : ℕ) (rows : List PendingRow) → 1 ≤ s → first_of (λ (r : PendingRow). ltb (s - 1) r.pending.serial) rows ≡ first_of (is_from s) rows
from_behind s rows h = same_first (λ (r : PendingRow). ltb (s - 1) r.pending.serial) (is_from s) rows (λ r. behind_from s r.pending.serial h)

none_later : (s : ℕ) (x : PendingRow) (xs : List PendingRow) → PrecedesAll x xs → s ≤ x.pending.serial → first_of (row_has s) xs ≡ None
none_later s x [] p h = refl
none_later s x (y ∷ ys) p h =
    let l = p.0.serial in
    let n : eqb y.pending.serial s ≡ false = ne_eqb y.pending.serial s (λ e. absurd (omega (arith, l, h, e))) in
    rw n (none_later s x ys p.1 h)

-- the first that is not below a serial is of that serial, or no command is
pub by_serial : (s : ℕ) (rows : List PendingRow) → AreInOrder rows → (o : Option PendingRow) → first_of (is_from s) rows ≡ o →
    first_of (row_has s) rows ≡ elim o as (λ x. Option PendingRow) [ None ↦ None | Some r ↦ cond (eqb r.pending.serial s) (Some r) None ]
by_serial s [] d o h = ap (λ x. elim x as (λ y. Option PendingRow) [ None ↦ None | Some r ↦ cond (eqb r.pending.serial s) (Some r) None ]) h
by_serial s (x ∷ xs) d o h =
    ⊎_elim
    (λ (k : leb s x.pending.serial ≡ true).
    let l : s ≤ x.pending.serial = leb-true s x.pending.serial k in
    let g : Some x ≡ o = rw k at h in
    ap (λ y. cond (eqb x.pending.serial s) (Some x) y) (none_later s x xs d.0 l)
    ∙ ap (λ y. elim y as (λ z. Option PendingRow) [ None ↦ None | Some r ↦ cond (eqb r.pending.serial s) (Some r) None ]) g)
    (λ (k : leb s x.pending.serial ≡ false).
    let l : x.pending.serial < s = leb-false s x.pending.serial k in
    let g : first_of (is_from s) xs ≡ o = rw k at h in
    let n : eqb x.pending.serial s ≡ false = ne_eqb x.pending.serial s (λ e. absurd (omega (arith, l, e))) in
    rw n (by_serial s xs d.1 o g))
    (cases_Bool (leb s x.pending.serial))

-- no command is from a serial on, so none is of it
pub none_with : (s : ℕ) (rows : List PendingRow) → AreInOrder rows → None ≡ id_in_row (first_of (is_from s) rows) → None ≡ id_in_row (first_of (row_has s) rows)
none_with s rows d h = go (first_of (is_from s) rows) refl h
  where
    go : (o : Option PendingRow) → first_of (is_from s) rows ≡ o → None ≡ id_in_row o → None ≡ id_in_row (first_of (row_has s) rows)
    go None e q = sym (ap id_in_row (by_serial s rows d None e))
    go (Some r) e q = absurd (none_not r.id q)

-- a command that is found by its id
pub record IsOwn (p : PendingRow → Bool) (rows : List PendingRow) (id : ℕ) : Type 0 where
  pub row : PendingRow
  pub there : first_of p rows ≡ Some row
  pub id_is : row.id ≡ id
  pub own : first_of (has_id id) rows ≡ Some row

pub is_own : (p : PendingRow → Bool) (rows : List PendingRow) (id : ℕ) → IdsDiffer rows → Some id ≡ id_in_row (first_of p rows) → IsOwn p rows id
is_own p rows id d h = go (first_of p rows) refl h
  where
    go : (o : Option PendingRow) → first_of p rows ≡ o → Some id ≡ id_in_row o → IsOwn p rows id
    go None e q = absurd (none_not id (sym q))
    go (Some r) e q =
        let same : r.id ≡ id = sym (some_same id r.id q) in
        record { row = r; there = e; id_is = same; own = subst (λ (n : ℕ). first_of (has_id n) rows ≡ Some r) same (found_own p rows r d e) }

-- the first that is not below a serial has a command, and is that of the serial where it has it
pub serial_found : (s : ℕ) (rows : List PendingRow) (id : ℕ) (p : PendingData) → AreInOrder rows → IdsDiffer rows → Some id ≡ id_in_row (first_of (is_from s) rows) → Some p ≡ command_of rows id →
    id_in_row (first_of (row_has s) rows) ≡ cond (eqb p.serial s) (Some id) None
serial_found s rows id p o d h c =
    let i : IsOwn (is_from s) rows id = is_own (is_from s) rows id d h in
    let q : Some p ≡ Some i.row.pending = c ∙ ap (option_map (λ (r : PendingRow). r.pending)) i.own in
    let e : i.row.pending.serial ≡ p.serial = ap (λ (x : PendingData). x.serial) (sym (some_same p i.row.pending q)) in
    ap id_in_row (by_serial s rows o (Some i.row) i.there)
    ∙ (id_cond (eqb i.row.pending.serial s) i.row
    ∙ (ap (λ n. cond (eqb i.row.pending.serial s) (Some n) None) i.id_is ∙ ap (λ n. cond (eqb n s) (Some id) None) e))
  where
    id_cond : (b : Bool) (r : PendingRow) → id_in_row (cond b (Some r) None) ≡ cond b (Some r.id) None
    id_cond true r = refl
    id_cond false r = refl

pub serial_lost : (s : ℕ) (rows : List PendingRow) (id : ℕ) → IdsDiffer rows → Some id ≡ id_in_row (first_of (is_from s) rows) → None ≡ command_of rows id → ⊥
serial_lost s rows id d h c =
    let i : IsOwn (is_from s) rows id = is_own (is_from s) rows id d h in
    none_not i.row.pending (c ∙ ap (option_map (λ (r : PendingRow). r.pending)) i.own)

-- ==== what is due

passed_later : (now : ℕ) (a b : Option ℕ) → NotAfter a b → has_passed now a ≡ false → has_passed now b ≡ false
passed_later now None None h f = refl
passed_later now (Some a) (Some b) h f = let l : now < a = leb-false a now f in lt-leb b now (omega (arith, l, h))
passed_later now None (Some b) h f = absurd h
passed_later now (Some a) None h f = absurd h

none_due : (now : ℕ) (r : PendingRow) (rs : List PendingRow) → PrecedesAll r rs → has_passed now r.pending.deadline ≡ false → first_of (is_due_at now) rs ≡ None
none_due now r [] h f = refl
none_due now r (x ∷ xs) h f =
    let g = passed_later now r.pending.deadline x.pending.deadline h.0.deadline f in
    let e : is_due_at now x ≡ false = ap (λ b. is_waiting x && b) g ∙ and-false (is_waiting x) in
    rw e (none_due now r xs h.1 f)

pub due_waits : (now : ℕ) (rows : List PendingRow) (r : PendingRow) → AreInOrder rows → first_of (is_due_at now) rows ≡ Some r → first_of is_waiting rows ≡ Some r
due_waits now [] r d h = absurd (none_not r h)
due_waits now (x ∷ xs) r d h =
    ⊎_elim
    (λ (k : is_waiting x ≡ true).
    ⊎_elim
    (λ (p : has_passed now x.pending.deadline ≡ true).
    let e : is_due_at now x ≡ true = rw k p in
    let g : Some x ≡ Some r = rw e at h in rw k g)
    (λ (p : has_passed now x.pending.deadline ≡ false).
    let e : is_due_at now x ≡ false = rw k p in
    let g : first_of (is_due_at now) xs ≡ Some r = rw e at h in
    absurd (none_not r (sym (none_due now x xs d.0 p) ∙ g)))
    (cases_Bool (has_passed now x.pending.deadline)))
    (λ (k : is_waiting x ≡ false).
    let e : is_due_at now x ≡ false = ap (λ b. b && has_passed now x.pending.deadline) k in
    let g : first_of (is_due_at now) xs ≡ Some r = rw e at h in
    rw k (due_waits now xs r d.1 g))
    (cases_Bool (is_waiting x))

pub next_due : (now : ℕ) (t : TableData) (r : PendingRow) → IsTable t → first_of (is_due_at now) t.rows ≡ Some r → IsNextDue now t.rows r.id
next_due now t r s h =
    record {
      row = r;
      id_is = refl;
      due = h;
      waits = due_waits now t.rows r s.in_order h;
      own = found_own (is_due_at now) t.rows r s.differ h;
    }

pub next_due_match : (now : ℕ) (t : TableData) (o : Option ℕ) → IsTable t → o ≡ id_in_row (first_of (is_due_at now) t.rows) → MatchOption o (first_of (is_due_at now) t.rows ≡ None) (IsNextDue now t.rows)
next_due_match now t o s h = subst (λ (x : Option ℕ). MatchOption x (first_of (is_due_at now) t.rows ≡ None) (IsNextDue now t.rows)) (sym h) (go (first_of (is_due_at now) t.rows) refl)
  where
    go : (f : Option PendingRow) → first_of (is_due_at now) t.rows ≡ f → MatchOption (id_in_row f) (first_of (is_due_at now) t.rows ≡ None) (IsNextDue now t.rows)
    go None q = q
    go (Some r) q = next_due now t r s q
