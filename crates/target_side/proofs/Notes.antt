-- Notes: the serials that they name, and their length.
use Rattle.std.proofs.Common.{◌≡◌, ℕ, ◌+◌, ◌*◌, ◌≤◌, ◌<◌, eqb, ltb, cond, not, Bool, true, false, List, [], ◌∷◌, ◌++◌, length, take, drop, get_or, Option, Some, None, refl, sym, ap, ◌∙◌, arith, ⊎_elim}
use Rattle.std.specs.Prelude.{unwrap_or}
use Rattle.std.specs.List.{count_by, list_any, sum_by}
use Rattle.std.specs.Option.{is_some}
use Rattle.std.proofs.lemmas.Bool.{cases_Bool, true≢false, eqb-true, lt-ltb, le-ltb, ltb-true}
use Rattle.std.proofs.lemmas.List.{take_more, drop_more, drop_all, length-map, map-append}
use Rattle.std.proofs.lemmas.List.Sums.{sum_by-cons}
use Rattle.tcmu_types.specs.Rules.{IsSettings}
use Rattle.tcmu_types.specs.Lists.{Every, first_of}
use Rattle.tcmu_types.proofs.Firsts.{any_first, none_first}
use Rattle.tcmu_types.specs.Numbers.{IsRising, RisesAbove}
use Rattle.tcmu_model.specs.Lengths.{tmr_length}
use Rattle.cmd_ring.specs.Places.{IsItemLength}
use Rattle.region_model.specs.Represents.{row_has}
use Rattle.region_model.specs.Sides.{PendingRow, Recorded, TargetState}
use Rattle.region_model.specs.TargetSteps.{id_or_zero, ids_of, unknown_in, used_in}
use Rattle.region_model.specs.UserSteps.{is_cmd}
use Rattle.ring_laws.specs.RingKept.{RingKept, RowsKept}
use Rattle.ring_laws.proofs.target_over_any_bytes.AnyRows.{commands-cons}
use Rattle.target_table.specs.Rows.{id_in_row}
use Rattle.target_side.proofs.Completions.{count_cons}

-- ==== serials that are looked for

pub none_known : (p : PendingRow → Bool) (rows : List PendingRow) (o : Option ℕ) → o ≡ id_in_row (first_of p rows) → is_some o ≡ false → list_any p rows ≡ false
none_known p rows o h n = go (first_of p rows) refl
  where
    go : (f : Option PendingRow) → first_of p rows ≡ f → list_any p rows ≡ false
    go None e = none_first p rows e
    go (Some r) e = absurd (true≢false (sym (ap is_some (h ∙ ap id_in_row e)) ∙ n))

pub some_known : (p : PendingRow → Bool) (rows : List PendingRow) (o : Option ℕ) → o ≡ id_in_row (first_of p rows) → is_some o ≡ true → list_any p rows ≡ true
some_known p rows o h n = go (first_of p rows) refl
  where
    go : (f : Option PendingRow) → first_of p rows ≡ f → list_any p rows ≡ true
    go None e = absurd (true≢false (sym n ∙ ap is_some (h ∙ ap id_in_row e)))
    go (Some r) e = any_first p rows r e

pub unknown_here : (rows : List PendingRow) (ss : List ℕ) (i d : ℕ) → i < length ss → list_any (row_has (get_or ss i d)) rows ≡ false → unknown_in rows (drop i ss) ≡ Some (get_or ss i d)
unknown_here rows ss i d h k = ap (unknown_in rows) (drop_more ss i d h) ∙ ap (λ b. cond (not b) (Some (get_or ss i d)) (unknown_in rows (drop (i + 1) ss))) k

pub unknown_past : (rows : List PendingRow) (ss : List ℕ) (i d : ℕ) → i < length ss → list_any (row_has (get_or ss i d)) rows ≡ true → unknown_in rows (drop (i + 1) ss) ≡ unknown_in rows (drop i ss)
unknown_past rows ss i d h k = sym (ap (unknown_in rows) (drop_more ss i d h) ∙ ap (λ b. cond (not b) (Some (get_or ss i d)) (unknown_in rows (drop (i + 1) ss))) k)

pub unknown_end : (rows : List PendingRow) (ss : List ℕ) (i : ℕ) → length ss ≤ i → unknown_in rows (drop i ss) ≡ None
unknown_end rows ss i h = ap (unknown_in rows) (drop_all i ss h)

id_same : (o : Option PendingRow) → unwrap_or (id_in_row o) 0 ≡ id_or_zero o
id_same None = refl
id_same (Some e) = refl

pub ids_next : (rows : List PendingRow) (ss : List ℕ) (i d : ℕ) (ids : List ℕ) → i < length ss → ids ≡ ids_of rows (take i ss) → ids ++ unwrap_or (id_in_row (first_of (row_has (get_or ss i d)) rows)) 0 ∷ [] ≡ ids_of rows (take (i + 1) ss)
ids_next rows ss i d ids h e =
    ap (λ xs. xs ++ unwrap_or (id_in_row (first_of (row_has (get_or ss i d)) rows)) 0 ∷ []) e
    ∙ (ap (λ x. ids_of rows (take i ss) ++ x ∷ []) (id_same (first_of (row_has (get_or ss i d)) rows))
    ∙ (sym (map-append (λ (s : ℕ). id_or_zero (first_of (row_has s) rows)) (take i ss) (get_or ss i d ∷ [])) ∙ ap (ids_of rows) (sym (take_more ss i d h))))

pub length-ids : (rows : List PendingRow) (ss : List ℕ) → length (ids_of rows ss) ≡ length ss
length-ids rows ss = length-map ss (λ (s : ℕ). id_or_zero (first_of (row_has s) rows))

-- ==== serials that rise name no more commands than there are

abbrev above : ℕ → PendingRow → Bool
above n e = ltb n e.pending.serial

bit : (b : Bool) → cond {A = ℕ} b 1 0 ≤ 1
bit true = omega arith
bit false = omega arith

-- fewer are above a greater number
fewer : (n s : ℕ) (rows : List PendingRow) → n < s → count_by (above s) rows ≤ count_by (above n) rows
fewer n s [] h = omega arith
fewer n s (x ∷ xs) h =
    let a = count_cons (above s) x xs in
    let b = count_cons (above n) x xs in
    let i = fewer n s xs h in
    ⊎_elim
    (λ (k : above s x ≡ true).
    let l : s < x.pending.serial = ltb-true s x.pending.serial k in
    let m : above n x ≡ true = lt-ltb n x.pending.serial (omega (arith, l, h)) in
    let c : count_by (above s) (x ∷ xs) ≡ 1 + count_by (above s) xs = a ∙ ap (λ z. cond {A = ℕ} z 1 0 + count_by (above s) xs) k in
    let d : count_by (above n) (x ∷ xs) ≡ 1 + count_by (above n) xs = b ∙ ap (λ z. cond {A = ℕ} z 1 0 + count_by (above n) xs) m in
    omega (arith, c, d, i))
    (λ (k : above s x ≡ false).
    let c : count_by (above s) (x ∷ xs) ≡ 0 + count_by (above s) xs = a ∙ ap (λ z. cond {A = ℕ} z 1 0 + count_by (above s) xs) k in
    omega (arith, c, b, i))
    (cases_Bool (above s x))

one_fewer : (n s : ℕ) (rows : List PendingRow) → n < s → list_any (row_has s) rows ≡ true → count_by (above s) rows + 1 ≤ count_by (above n) rows
one_fewer n s [] h k = absurd (cc)
one_fewer n s (x ∷ xs) h k =
    let a = count_cons (above s) x xs in
    let b = count_cons (above n) x xs in
    ⊎_elim
    (λ (e : eqb x.pending.serial s ≡ true).
    let q : x.pending.serial ≡ s = eqb-true x.pending.serial s e in
    let m : above n x ≡ true = lt-ltb n x.pending.serial (omega (arith, q, h)) in
    let l : above s x ≡ false = le-ltb s x.pending.serial (omega (arith, q)) in
    let c : count_by (above s) (x ∷ xs) ≡ 0 + count_by (above s) xs = a ∙ ap (λ z. cond {A = ℕ} z 1 0 + count_by (above s) xs) l in
    let d : count_by (above n) (x ∷ xs) ≡ 1 + count_by (above n) xs = b ∙ ap (λ z. cond {A = ℕ} z 1 0 + count_by (above n) xs) m in
    let i = fewer n s xs h in
    omega (arith, c, d, i))
    (λ (e : eqb x.pending.serial s ≡ false).
    let g : list_any (row_has s) xs ≡ true = rw e at k in
    let i = one_fewer n s xs h g in
    ⊎_elim
    (λ (z : above s x ≡ true).
    let l : s < x.pending.serial = ltb-true s x.pending.serial z in
    let m : above n x ≡ true = lt-ltb n x.pending.serial (omega (arith, l, h)) in
    let c : count_by (above s) (x ∷ xs) ≡ 1 + count_by (above s) xs = a ∙ ap (λ y. cond {A = ℕ} y 1 0 + count_by (above s) xs) z in
    let d : count_by (above n) (x ∷ xs) ≡ 1 + count_by (above n) xs = b ∙ ap (λ y. cond {A = ℕ} y 1 0 + count_by (above n) xs) m in
    omega (arith, c, d, i))
    (λ (z : above s x ≡ false).
    let c : count_by (above s) (x ∷ xs) ≡ 0 + count_by (above s) xs = a ∙ ap (λ y. cond {A = ℕ} y 1 0 + count_by (above s) xs) z in
    omega (arith, c, b, i))
    (cases_Bool (above s x)))
    (cases_Bool (eqb x.pending.serial s))

above_most : (s : ℕ) (rows : List PendingRow) → list_any (row_has s) rows ≡ true → count_by (above s) rows + 1 ≤ length rows
above_most s [] k = absurd (cc)
above_most s (x ∷ xs) k =
    let a = count_cons (above s) x xs in
    ⊎_elim
    (λ (e : eqb x.pending.serial s ≡ true).
    let q : x.pending.serial ≡ s = eqb-true x.pending.serial s e in
    let l : above s x ≡ false = le-ltb s x.pending.serial (omega (arith, q)) in
    let c : count_by (above s) (x ∷ xs) ≡ 0 + count_by (above s) xs = a ∙ ap (λ z. cond {A = ℕ} z 1 0 + count_by (above s) xs) l in
    let m = all_most (above s) xs in
    omega (arith, c, m))
    (λ (e : eqb x.pending.serial s ≡ false).
    let g : list_any (row_has s) xs ≡ true = rw e at k in
    let i = above_most s xs g in
    let o = bit (above s x) in
    omega (arith, a, i, o))
    (cases_Bool (eqb x.pending.serial s))
  where
    all_most : (q : PendingRow → Bool) (rows : List PendingRow) → count_by q rows ≤ length rows
    all_most q [] = omega arith
    all_most q (y ∷ ys) = let a = count_cons q y ys in let o = bit (q y) in let i = all_most q ys in omega (arith, a, o, i)

known_parts : (rows : List PendingRow) (s : ℕ) (ss : List ℕ) → unknown_in rows (s ∷ ss) ≡ None → (list_any (row_has s) rows ≡ true) × (unknown_in rows ss ≡ None)
known_parts rows s ss h =
    ⊎_elim
    (λ (k : list_any (row_has s) rows ≡ true). (k, rw k at h))
    (λ (k : list_any (row_has s) rows ≡ false). let g : Some s ≡ None = rw k at h in absurd (cc))
    (cases_Bool (list_any (row_has s) rows))

known_above : (rows : List PendingRow) (n : ℕ) (ss : List ℕ) → RisesAbove n ss → unknown_in rows ss ≡ None → length ss ≤ count_by (above n) rows
known_above rows n [] r h = omega arith
known_above rows n (s ∷ ss) r h =
    let k = known_parts rows s ss h in
    let i = known_above rows s ss r.1 k.1 in
    let o = one_fewer n s rows r.0 k.0 in
    omega (arith, i, o)

pub known_few : (rows : List PendingRow) (ss : List ℕ) → IsRising ss → unknown_in rows ss ≡ None → length ss ≤ length rows
known_few rows [] r h = omega arith
known_few rows (s ∷ ss) r h =
    let k = known_parts rows s ss h in
    let i = known_above rows s ss r k.1 in
    let o = above_most s rows k.0 in
    omega (arith, i, o)

-- ==== the length of a note

all_long : (xs : List Recorded) → Every (λ (x : Recorded). is_cmd x ≡ true → 112 ≤ x.len) xs → 112 * count_by is_cmd xs ≤ sum_by (λ (x : Recorded). x.len) xs
all_long [] h = omega arith
all_long (x ∷ xs) h =
    let more = commands-cons x xs in
    let sum = sum_by-cons (λ (y : Recorded). y.len) x xs in
    let rest = all_long xs h.1 in
    ⊎_elim
    (λ (e : is_cmd x ≡ true). let one : cond {A = ℕ} (is_cmd x) 1 0 ≡ 1 = ap (λ b. cond {A = ℕ} b 1 0) e in let long : 112 ≤ x.len = h.0 e in omega (arith, more, sum, rest, one, long))
    (λ (e : is_cmd x ≡ false). let none : cond {A = ℕ} (is_cmd x) 1 0 ≡ 0 = ap (λ b. cond {A = ℕ} b 1 0) e in omega (arith, more, sum, rest, none))
    (cases_Bool (is_cmd x))

pub note_length : (t : TargetState) (n : ℕ) → IsSettings t.settings → RingKept t → RowsKept t → n ≤ length t.rows → IsItemLength t.settings.ring (tmr_length n)
note_length t n s h k l =
    let low : 4096 ≤ t.settings.ring = s.ring.least in
    let long = all_long t.items k.long in
    let used : used_in t < t.settings.ring = h.used in
    let c = k.commands in
    record { least = omega arith; most = omega (arith, low, long, used, c, l); words = omega arith }
