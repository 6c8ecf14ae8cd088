-- How many completions are still to come: one of each command that has not expired.
use Rattle.std.proofs.Common.{◌≡◌, ℕ, ◌+◌, ◌≤◌, Bool, true, false, cond, not, List, [], ◌∷◌, ◌++◌, length, Some, refl, ap, ◌∙◌, arith, ⊎_elim, suc, zero}
use Rattle.std.specs.List.{count_by}
use Rattle.std.proofs.lemmas.Bool.{cases_Bool}
use Rattle.std.proofs.lemmas.List.Sums.{sum_by-cons, sum_by-append}
use Rattle.tcmu_types.specs.Lists.{first_of, without_first}
use Rattle.tcmu_types.proofs.Counts.{sum-without_first}
use Rattle.region_model.specs.Sides.{PendingRow}
use Rattle.target_table.specs.Rows.{ExpiredFirst, is_expired}
use Rattle.target_side.specs.Books.{is_unlogged, to_log}

pub count_cons : (q : PendingRow → Bool) (x : PendingRow) (rows : List PendingRow) → count_by q (x ∷ rows) ≡ cond (q x) 1 0 + count_by q rows
count_cons q x rows = sum_by-cons (λ (y : PendingRow). cond {A = ℕ} (q y) 1 0) x rows

pub expired_count : (n : ℕ) (rows : List PendingRow) → ExpiredFirst n rows → count_by is_expired rows ≡ n
expired_count zero [] h = refl
expired_count zero (x ∷ xs) h =
    let i = expired_count zero xs h.1 in
    let c : count_by is_expired (x ∷ xs) ≡ 0 + count_by is_expired xs = count_cons is_expired x xs ∙ ap (λ b. cond {A = ℕ} b 1 0 + count_by is_expired xs) h.0 in
    omega (arith, i, c)
expired_count (suc n) [] h = absurd h
expired_count (suc n) (x ∷ xs) h =
    let i = expired_count n xs h.1 in
    let c : count_by is_expired (x ∷ xs) ≡ 1 + count_by is_expired xs = count_cons is_expired x xs ∙ ap (λ b. cond {A = ℕ} b 1 0 + count_by is_expired xs) h.0 in
    omega (arith, i, c)

-- those that are expired and those that are not
pub counted : (rows : List PendingRow) → count_by is_expired rows + to_log rows ≡ length rows
counted [] = refl
counted (x ∷ xs) =
    let a = count_cons is_expired x xs in
    let b = count_cons is_unlogged x xs in
    let i = counted xs in
    ⊎_elim
    (λ (k : x.pending.expired ≡ true).
    let c : count_by is_expired (x ∷ xs) ≡ 1 + count_by is_expired xs = a ∙ ap (λ y. cond {A = ℕ} y 1 0 + count_by is_expired xs) k in
    let d : to_log (x ∷ xs) ≡ 0 + to_log xs = b ∙ ap (λ y. cond {A = ℕ} (not y) 1 0 + to_log xs) k in
    omega (arith, c, d, i))
    (λ (k : x.pending.expired ≡ false).
    let c : count_by is_expired (x ∷ xs) ≡ 0 + count_by is_expired xs = a ∙ ap (λ y. cond {A = ℕ} y 1 0 + count_by is_expired xs) k in
    let d : to_log (x ∷ xs) ≡ 1 + to_log xs = b ∙ ap (λ y. cond {A = ℕ} (not y) 1 0 + to_log xs) k in
    omega (arith, c, d, i))
    (cases_Bool x.pending.expired)

pub to_log_most : (rows : List PendingRow) → to_log rows ≤ length rows
to_log_most rows = omega (arith, counted rows)

-- a command less, and where it has not expired a completion less
pub to_log_left : (p : PendingRow → Bool) (rows : List PendingRow) (e : PendingRow) → first_of p rows ≡ Some e → to_log (without_first p rows) + cond (is_unlogged e) 1 0 ≡ to_log rows
to_log_left p rows e f = sum-without_first p (λ (y : PendingRow). cond {A = ℕ} (is_unlogged y) 1 0) rows e f

-- a row that is not expired is one more to log
pub to_log_more : (rows : List PendingRow) (e : PendingRow) → e.pending.expired ≡ false → to_log (rows ++ e ∷ []) ≡ to_log rows + 1
to_log_more rows e h =
    let a = sum_by-append (λ (y : PendingRow). cond {A = ℕ} (is_unlogged y) 1 0) rows (e ∷ []) in
    let b : to_log (e ∷ []) ≡ 1 + to_log [] = count_cons is_unlogged e [] ∙ ap (λ x. cond {A = ℕ} (not x) 1 0 + to_log []) h in
    omega (arith, a, b)

pub not_true : (b : Bool) → not b ≡ true → b ≡ false
not_true true h = absurd (cc)
not_true false h = refl
