-- Rows in the order of their serials: what is found first, and what adding, taking out and expiring keep.
use Rattle.std.proofs.Common.{◌≡◌, ◌≢◌, ℕ, ◌+◌, ◌-◌, ◌≤◌, ⊎_elim, Bool, true, false, not, ◌&&◌, ◌||◌, ◌==◌, List, [], ◌∷◌, ◌++◌, length, slice_get, Option, Some, None, refl, sym, ap, subst, ◌∙◌, arith, suc, zero}
use Rattle.std.specs.List.{list_any}
use Rattle.std.proofs.lemmas.Bool.{cases_Bool, eqb-false, or_parts}
use Rattle.std.proofs.Math.Bool.{and-false}
use Rattle.tcmu_types.specs.Lists.{first_of, without_first, with_first}
use Rattle.region_model.specs.Pending.{NotAfter, PendingData}
use Rattle.target_table.specs.Rows.{is_waiting, has_passed, with_expired, Precedes, AllPrecede, PrecedesAll, AreInOrder, IdsDiffer, AreIds, ExpiredFirst}
use Rattle.region_model.specs.Represents.{has_id}
use Rattle.region_model.specs.TargetSteps.{is_due_at}
use Rattle.region_model.specs.Sides.{PendingRow}

no-row : {r : PendingRow} → ◌≡◌ {A = Option PendingRow} None (Some r) → ⊥
no-row h = cc

true-false : true ≡ false → ⊥
true-false h = cc

pub eqb-not : (a b : ℕ) → a ≢ b → (a == b) ≡ false
eqb-not a b d = grind arith

pub or-true : (b : Bool) → (b || true) ≡ true
or-true true = refl
or-true false = refl

eqb-yes : (a b : ℕ) → a ≡ b → (a == b) ≡ true
eqb-yes a b d = grind arith

-- ==== what is due

passed-later : (now : ℕ) (a b : Option ℕ) → NotAfter a b → has_passed now a ≡ false → has_passed now b ≡ false
passed-later now None None h f = refl
passed-later now (Some a) (Some b) h f = grind arith
passed-later now None (Some b) h f = absurd h
passed-later now (Some a) None h f = absurd h

none-due : (now : ℕ) (r : PendingRow) (rs : List PendingRow) → PrecedesAll r rs → has_passed now r.pending.deadline ≡ false → first_of (is_due_at now) rs ≡ None
none-due now r [] h f = refl
none-due now r (x ∷ xs) h f =
    let g = passed-later now r.pending.deadline x.pending.deadline h.0.deadline f in
    let e : is_due_at now x ≡ false = ap (λ b. is_waiting x && b) g ∙ and-false (is_waiting x) in
    rw e (none-due now r xs h.1 f)

expired-not-due : (now : ℕ) (r : PendingRow) → r.pending.expired ≡ true → is_due_at now r ≡ false
expired-not-due now r e = ap (λ b. not b && has_passed now r.pending.deadline) e

-- all are expired
pub due-none : (now n : ℕ) (rows : List PendingRow) → ExpiredFirst n rows → length rows ≤ n → first_of (is_due_at now) rows ≡ None
due-none now zero [] e l = refl
due-none now zero (r ∷ rs) e l = absurd (omega arith)
due-none now (suc n) [] e l = refl
due-none now (suc n) (r ∷ rs) e l = rw (expired-not-due now r e.0) (due-none now n rs e.1 (omega arith))

-- the first that is not expired is due
pub due-some : (now n : ℕ) (rows : List PendingRow) (r : PendingRow) → ExpiredFirst n rows → slice_get rows n ≡ Some r → has_passed now r.pending.deadline ≡ true → first_of (is_due_at now) rows ≡ Some r
due-some now zero [] r e g p = absurd (no-row g)
due-some now zero (x ∷ xs) r e g p =
    let s : x ≡ r = cc in
    let d : is_due_at now x ≡ true = ap (λ b. not b && has_passed now x.pending.deadline) e.0 ∙ ap (λ z. has_passed now z.pending.deadline) s ∙ p in
    rw d g
due-some now (suc n) [] r e g p = absurd e
due-some now (suc n) (x ∷ xs) r e g p = rw (expired-not-due now x e.0) (due-some now n xs r e.1 g p)

-- the first that is not expired is not due, so none is
pub due-later : (now n : ℕ) (rows : List PendingRow) (r : PendingRow) → ExpiredFirst n rows → AreInOrder rows → slice_get rows n ≡ Some r → has_passed now r.pending.deadline ≡ false → first_of (is_due_at now) rows ≡ None
due-later now zero [] r e o g p = refl
due-later now zero (x ∷ xs) r e o g p =
    let s : x ≡ r = cc in
    let q : has_passed now x.pending.deadline ≡ false = ap (λ z. has_passed now z.pending.deadline) s ∙ p in
    let d : is_due_at now x ≡ false = ap (λ b. is_waiting x && b) q ∙ and-false (is_waiting x) in
    rw d (none-due now x xs o.0 q)
due-later now (suc n) [] r e o g p = refl
due-later now (suc n) (x ∷ xs) r e o g p = rw (expired-not-due now x e.0) (due-later now n xs r e.1 o.1 g p)

-- ==== a row is added

precedes-added : (x r : PendingRow) (rows : List PendingRow) → PrecedesAll x rows → Precedes x.pending r.pending → PrecedesAll x (rows ++ r ∷ [])
precedes-added x r [] p q = (q, tt)
precedes-added x r (y ∷ ys) p q = (p.0, precedes-added x r ys p.1 q)

pub order-added : (rows : List PendingRow) (r : PendingRow) → AreInOrder rows → AllPrecede rows r.pending → AreInOrder (rows ++ r ∷ [])
order-added [] r o a = (tt, tt)
order-added (x ∷ xs) r o a = (precedes-added x r xs o.0 a.0, order-added xs r o.1 a.1)

pub ids-added : (rows : List PendingRow) (r : PendingRow) → AreIds rows → 1 ≤ r.id → r.id ≤ 65535 → AreIds (rows ++ r ∷ [])
ids-added [] r h a b = (a, b, tt)
ids-added (x ∷ xs) r h a b = (h.0, h.1, ids-added xs r h.2 a b)

any-added : (id : ℕ) (rows : List PendingRow) (r : PendingRow) → list_any (has_id id) rows ≡ false → r.id ≢ id → list_any (has_id id) (rows ++ r ∷ []) ≡ false
any-added id [] r h d = rw (eqb-not r.id id d) refl
any-added id (x ∷ xs) r h d = let s = or_parts (x.id == id) (list_any (has_id id) xs) h in rw s.0 (any-added id xs r s.1 d)

pub differ-added : (rows : List PendingRow) (r : PendingRow) → IdsDiffer rows → list_any (has_id r.id) rows ≡ false → IdsDiffer (rows ++ r ∷ [])
differ-added [] r h f = (refl, tt)
differ-added (x ∷ xs) r h f =
    let s = or_parts (x.id == r.id) (list_any (has_id r.id) xs) f in
    (any-added x.id xs r h.0 (λ e. eqb-false x.id r.id s.0 (sym e)), differ-added xs r h.1 s.1)

pub expired-added : (n : ℕ) (rows : List PendingRow) (r : PendingRow) → ExpiredFirst n rows → r.pending.expired ≡ false → ExpiredFirst n (rows ++ r ∷ [])
expired-added zero [] r e f = (f, tt)
expired-added zero (x ∷ xs) r e f = (e.0, expired-added zero xs r e.1 f)
expired-added (suc n) [] r e f = absurd e
expired-added (suc n) (x ∷ xs) r e f = (e.0, expired-added n xs r e.1 f)

-- ==== a row is taken out

precedes-without : (p : PendingRow → Bool) (x : PendingRow) (rows : List PendingRow) → PrecedesAll x rows → PrecedesAll x (without_first p rows)
precedes-without p x [] h = tt
precedes-without p x (y ∷ ys) h =
    ⊎_elim (λ (t : p y ≡ true). rw t h.1) (λ (f : p y ≡ false). rw f (h.0, precedes-without p x ys h.1)) (cases_Bool (p y))

pub order-without : (p : PendingRow → Bool) (rows : List PendingRow) → AreInOrder rows → AreInOrder (without_first p rows)
order-without p [] h = tt
order-without p (y ∷ ys) h =
    ⊎_elim (λ (t : p y ≡ true). rw t h.1) (λ (f : p y ≡ false). rw f (precedes-without p y ys h.0, order-without p ys h.1)) (cases_Bool (p y))

pub ids-without : (p : PendingRow → Bool) (rows : List PendingRow) → AreIds rows → AreIds (without_first p rows)
ids-without p [] h = tt
ids-without p (y ∷ ys) h =
    ⊎_elim (λ (t : p y ≡ true). rw t h.2) (λ (f : p y ≡ false). rw f (h.0, h.1, ids-without p ys h.2)) (cases_Bool (p y))

any-without : (p q : PendingRow → Bool) (rows : List PendingRow) → list_any q rows ≡ false → list_any q (without_first p rows) ≡ false
any-without p q [] h = refl
any-without p q (y ∷ ys) h =
    let s = or_parts (q y) (list_any q ys) h in
    ⊎_elim (λ (t : p y ≡ true). rw t s.1) (λ (f : p y ≡ false). rw (f, s.0) (any-without p q ys s.1)) (cases_Bool (p y))

pub differ-without : (p : PendingRow → Bool) (rows : List PendingRow) → IdsDiffer rows → IdsDiffer (without_first p rows)
differ-without p [] h = tt
differ-without p (y ∷ ys) h =
    ⊎_elim (λ (t : p y ≡ true). rw t h.1) (λ (f : p y ≡ false). rw f (any-without p (has_id y.id) ys h.0, differ-without p ys h.1)) (cases_Bool (p y))

pub length-without : (p : PendingRow → Bool) (rows : List PendingRow) (r : PendingRow) → first_of p rows ≡ Some r → length (without_first p rows) + 1 ≡ length rows
length-without p [] r h = absurd (no-row h)
length-without p (y ∷ ys) r h =
    ⊎_elim (λ (t : p y ≡ true). rw t (omega arith))
    (λ (f : p y ≡ false). let i = length-without p ys r (rw f at h) in rw f (omega arith)) (cases_Bool (p y))

-- an expired row is one of the first
pub some-expired : (p : PendingRow → Bool) (n : ℕ) (rows : List PendingRow) (r : PendingRow) → ExpiredFirst n rows → first_of p rows ≡ Some r → r.pending.expired ≡ true → 1 ≤ n
some-expired p zero [] r e h x = absurd (no-row h)
some-expired p zero (y ∷ ys) r e h x =
    ⊎_elim
    (λ (t : p y ≡ true). let g : Some y ≡ Some r = rw t at h in let s : y ≡ r = cc in absurd (true-false (sym x ∙ sym (ap (λ z. z.pending.expired) s) ∙ e.0)))
    (λ (f : p y ≡ false). some-expired p zero ys r e.1 (rw f at h) x)
    (cases_Bool (p y))
some-expired p (suc n) rows r e h x = omega arith

pub expired-without : (p : PendingRow → Bool) (n : ℕ) (rows : List PendingRow) (r : PendingRow) → ExpiredFirst n rows → first_of p rows ≡ Some r → r.pending.expired ≡ true → ExpiredFirst (n - 1) (without_first p rows)
expired-without p zero rows r e h x = let b = some-expired p zero rows r e h x in absurd (omega arith)
expired-without p (suc n) [] r e h x = absurd (no-row h)
expired-without p (suc n) (y ∷ ys) r e h x =
    let P : ℕ → Type 0 = λ k. ExpiredFirst k (without_first p (y ∷ ys)) in
    let back : n ≡ suc n - 1 = omega arith in
    subst P back
    (⊎_elim
    (λ (t : p y ≡ true). rw t e.1)
    (λ (f : p y ≡ false).
    let g = rw f at h in
    let b = some-expired p n ys r e.1 g x in
    let i = expired-without p n ys r e.1 g x in
    let up : suc (n - 1) ≡ n = omega arith in
    let Q : ℕ → Type 0 = λ k. ExpiredFirst k (y ∷ without_first p ys) in
    rw f (subst Q up (e.0, i)))
    (cases_Bool (p y)))

pub waiting-without : (p : PendingRow → Bool) (n : ℕ) (rows : List PendingRow) (r : PendingRow) → ExpiredFirst n rows → first_of p rows ≡ Some r → r.pending.expired ≡ false → ExpiredFirst n (without_first p rows)
waiting-without p zero [] r e h x = absurd (no-row h)
waiting-without p zero (y ∷ ys) r e h x =
    ⊎_elim (λ (t : p y ≡ true). rw t e.1) (λ (f : p y ≡ false). rw f (e.0, waiting-without p zero ys r e.1 (rw f at h) x)) (cases_Bool (p y))
waiting-without p (suc n) [] r e h x = absurd e
waiting-without p (suc n) (y ∷ ys) r e h x =
    ⊎_elim
    (λ (t : p y ≡ true). let g : Some y ≡ Some r = rw t at h in let s : y ≡ r = cc in absurd (true-false (sym e.0 ∙ ap (λ z. z.pending.expired) s ∙ x)))
    (λ (f : p y ≡ false). rw f (e.0, waiting-without p n ys r e.1 (rw f at h) x))
    (cases_Bool (p y))

-- ==== a row is expired

precedes-expired : (p : PendingRow → Bool) (x : PendingRow) (rows : List PendingRow) → PrecedesAll x rows → PrecedesAll x (with_first p with_expired rows)
precedes-expired p x [] h = tt
precedes-expired p x (y ∷ ys) h =
    ⊎_elim
    (λ (t : p y ≡ true). rw t (record { serial = h.0.serial; deadline = h.0.deadline }, h.1))
    (λ (f : p y ≡ false). rw f (h.0, precedes-expired p x ys h.1))
    (cases_Bool (p y))

precedes-all : (x y : PendingRow) (rows : List PendingRow) → x.pending.serial ≡ y.pending.serial → x.pending.deadline ≡ y.pending.deadline → PrecedesAll x rows → PrecedesAll y rows
precedes-all x y [] e f h = tt
precedes-all x y (z ∷ zs) e f h =
    let P : Option ℕ → Type 0 = λ d. NotAfter d z.pending.deadline in
    let s = h.0.serial in
    (record { serial = omega arith; deadline = subst P f h.0.deadline }, precedes-all x y zs e f h.1)

pub order-expired : (p : PendingRow → Bool) (rows : List PendingRow) → AreInOrder rows → AreInOrder (with_first p with_expired rows)
order-expired p [] h = tt
order-expired p (y ∷ ys) h =
    ⊎_elim
    (λ (t : p y ≡ true). rw t (precedes-all y (with_expired y) ys refl refl h.0, h.1))
    (λ (f : p y ≡ false). rw f (precedes-expired p y ys h.0, order-expired p ys h.1))
    (cases_Bool (p y))

pub ids-expired : (p : PendingRow → Bool) (rows : List PendingRow) → AreIds rows → AreIds (with_first p with_expired rows)
ids-expired p [] h = tt
ids-expired p (y ∷ ys) h =
    ⊎_elim (λ (t : p y ≡ true). rw t (h.0, h.1, h.2)) (λ (f : p y ≡ false). rw f (h.0, h.1, ids-expired p ys h.2)) (cases_Bool (p y))

any-expired : (id : ℕ) (p : PendingRow → Bool) (rows : List PendingRow) → list_any (has_id id) (with_first p with_expired rows) ≡ list_any (has_id id) rows
any-expired id p [] = refl
any-expired id p (y ∷ ys) =
    ⊎_elim (λ (t : p y ≡ true). rw t refl) (λ (f : p y ≡ false). rw f (ap (λ b. (y.id == id) || b) (any-expired id p ys))) (cases_Bool (p y))

pub differ-expired : (p : PendingRow → Bool) (rows : List PendingRow) → IdsDiffer rows → IdsDiffer (with_first p with_expired rows)
differ-expired p [] h = tt
differ-expired p (y ∷ ys) h =
    ⊎_elim
    (λ (t : p y ≡ true). rw t (h.0, h.1))
    (λ (f : p y ≡ false). rw f (any-expired y.id p ys ∙ h.0, differ-expired p ys h.1))
    (cases_Bool (p y))

pub length-expired : (p : PendingRow → Bool) (rows : List PendingRow) → length (with_first p with_expired rows) ≡ length rows
length-expired p [] = refl
length-expired p (y ∷ ys) =
    ⊎_elim (λ (t : p y ≡ true). rw t refl) (λ (f : p y ≡ false). let i = length-expired p ys in rw f (omega arith)) (cases_Bool (p y))

pub first-any : (p : PendingRow → Bool) (rows : List PendingRow) (r : PendingRow) → first_of p rows ≡ Some r → list_any (has_id r.id) rows ≡ true
first-any p [] r h = absurd (no-row h)
first-any p (y ∷ ys) r h =
    ⊎_elim
    (λ (t : p y ≡ true). let g : Some y ≡ Some r = rw t at h in let s : y ≡ r = cc in ap (λ b. b || list_any (has_id r.id) ys) (eqb-yes y.id r.id (ap (λ z. z.id) s)))
    (λ (f : p y ≡ false). ap (λ b. (y.id == r.id) || b) (first-any p ys r (rw f at h)) ∙ or-true (y.id == r.id))
    (cases_Bool (p y))

pub expired-more : (n : ℕ) (rows : List PendingRow) (r : PendingRow) → ExpiredFirst n rows → IdsDiffer rows → first_of is_waiting rows ≡ Some r → ExpiredFirst (suc n) (with_first (has_id r.id) with_expired rows)
expired-more zero [] r e d h = absurd (no-row h)
expired-more zero (x ∷ xs) r e d h =
    let w : is_waiting x ≡ true = ap not e.0 in
    let g : Some x ≡ Some r = rw w at h in
    let s : x ≡ r = cc in
    let t : (x.id == r.id) ≡ true = eqb-yes x.id r.id (ap (λ z. z.id) s) in
    rw t (refl, e.1)
expired-more (suc n) [] r e d h = absurd (no-row h)
expired-more (suc n) (x ∷ xs) r e d h =
    let w : is_waiting x ≡ false = ap not e.0 in
    let g : first_of is_waiting xs ≡ Some r = rw w at h in
    let a = first-any is_waiting xs r g in
    let f : (x.id == r.id) ≡ false = eqb-not x.id r.id (λ q. true-false (sym (ap (λ i. list_any (has_id i) xs) q ∙ a) ∙ d.0)) in
    rw f (e.0, expired-more n xs r e.1 d.1 g)

pub expired-most : (n : ℕ) (rows : List PendingRow) → ExpiredFirst n rows → n ≤ length rows
expired-most zero rows e = omega arith
expired-most (suc n) [] e = absurd e
expired-most (suc n) (x ∷ xs) e = let i = expired-most n xs e.1 in omega arith

-- what comes before a command, comes before one of the same serial and deadline
pub all-precede-same : (rows : List PendingRow) (p q : PendingData) → p.serial ≡ q.serial → p.deadline ≡ q.deadline → AllPrecede rows p → AllPrecede rows q
all-precede-same [] p q e f h = tt
all-precede-same (r ∷ rs) p q e f h =
    let P : Option ℕ → Type 0 = λ d. NotAfter r.pending.deadline d in
    let s = h.0.serial in
    (record { serial = omega arith; deadline = subst P f h.0.deadline }, all-precede-same rs p q e f h.1)
