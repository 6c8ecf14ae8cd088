-- Places of commands, and the rows that they make.
use Rattle.std.proofs.Common.{◌≡◌, ◌≢◌, ℕ, ◌-◌, ◌≤◌, ◌<◌, ⊎_elim, true, false, ◌||◌, ◌==◌, List, [], ◌∷◌, ◌++◌, length, take, drop, slice_get, slice_set, slice_index_or, nat_le, nat_lt, Option, Some, None, refl, sym, ap, subst, ◌∙◌, arith, suc, zero}
use Rattle.std.specs.List.{list_any}
use Rattle.std.specs.Option.{option_map, IfNone}
use Rattle.std.proofs.lemmas.List.{get_or_past, set-get_or}
use Rattle.std.proofs.lemmas.Bool.{cases_eq, cases_Bool, eqb-true, leb-true, false≢true}
use Rattle.tcmu_types.specs.Lists.{first_of, without_first}
use Rattle.region_model.specs.Pending.{PendingData}
use Rattle.target_table.specs.declared.table.Ranked.{Ranked}
use Rattle.std.specs.List.Sorted.{IsNonDecreasingBy, IsPartitionPoint}
use Rattle.std.proofs.lemmas.Option.{none-some}
use Rattle.target_table.specs.Rows.{has_passed, is_behind, id_in_row, command_of, PrecedesAll, AreInOrder, ExpiredFirst}
use Rattle.region_model.specs.Represents.{has_id}
use Rattle.region_model.specs.TargetSteps.{is_due_at}
use Rattle.region_model.specs.Sides.{PendingRow}
use Rattle.target_table.proofs.Ordered.{due-none, due-some, due-later, or-true, eqb-not}
use Rattle.target_table.specs.Kept.{place_of, at_id, or_none, row_at, rows_of, Stands, AllStand, is_ranked}

no-rank : {o : Ranked} → ◌≡◌ {A = Option Ranked} None (Some o) → ⊥
no-rank h = cc

none-or : (p : Option PendingData) → ((q : PendingData) → p ≡ Some q → ⊥) → p ≡ None
none-or None h = refl
none-or (Some q) h = absurd (h q refl)

pub eqb-self : (n : ℕ) → (n == n) ≡ true
eqb-self n = grind arith

-- ==== the row of an id

abbrev pub row_of : List (Option PendingData) → ℕ → PendingRow
row_of places id = record { id = id; pending = or_none (place_of places id) }

pub row-found : (places : List (Option PendingData)) (order : List Ranked) (id : ℕ) → is_ranked order id ≡ true → first_of (has_id id) (rows_of places order) ≡ Some (row_of places id)
row-found places [] id h = absurd (false≢true h)
row-found places (o ∷ os) id h =
    ⊎_elim
    (λ (t : (o.id == id) ≡ true). rw t (ap (λ n. Some (row_of places n)) (eqb-true o.id id t)))
    (λ (f : (o.id == id) ≡ false). rw f (row-found places os id (rw f at h)))
    (cases_Bool (o.id == id))

pub row-missing : (places : List (Option PendingData)) (order : List Ranked) (id : ℕ) → is_ranked order id ≡ false → first_of (has_id id) (rows_of places order) ≡ None
row-missing places [] id h = refl
row-missing places (o ∷ os) id h =
    ⊎_elim
    (λ (t : (o.id == id) ≡ true). absurd (false≢true (sym h ∙ ap (λ b. b || is_ranked os id) t)))
    (λ (f : (o.id == id) ≡ false). rw f (row-missing places os id (rw f at h)))
    (cases_Bool (o.id == id))

pub any-row : (places : List (Option PendingData)) (order : List Ranked) (id : ℕ) → list_any (has_id id) (rows_of places order) ≡ is_ranked order id
any-row places [] id = refl
any-row places (o ∷ os) id = ap (λ b. (o.id == id) || b) (any-row places os id)

-- what stands at an id that is ranked
pub record IsThere (places : List (Option PendingData)) (id : ℕ) : Type 0 where
  pub low : 1 ≤ id
  pub high : id ≤ length places
  pub here : place_of places id ≡ Some (or_none (place_of places id))

pub there : (places : List (Option PendingData)) (order : List Ranked) (id : ℕ) → AllStand places order → is_ranked order id ≡ true → IsThere places id
there places [] id s h = absurd (false≢true h)
there places (o ∷ os) id s h =
    ⊎_elim
    (λ (t : (o.id == id) ≡ true).
    let P : ℕ → Type 0 = λ n. IsThere places n in
    subst P (eqb-true o.id id t) (record { low = s.0.low; high = s.0.high; here = s.0.here }))
    (λ (f : (o.id == id) ≡ false). there places os id s.1 (rw f at h))
    (cases_Bool (o.id == id))

not-ranked : (order : List Ranked) (id : ℕ) → (is_ranked order id ≡ true → ⊥) → is_ranked order id ≡ false
not-ranked order id h = ⊎_elim (λ (t : is_ranked order id ≡ true). absurd (h t)) (λ (f : is_ranked order id ≡ false). f) (cases_Bool (is_ranked order id))

-- no command has the id 0
pub zero-missing : (places : List (Option PendingData)) (order : List Ranked) → AllStand places order → command_of (rows_of places order) 0 ≡ None
zero-missing places order s =
    let f = not-ranked order 0 (λ t. let b = (there places order 0 s t).low in omega arith) in
    ap (option_map (λ r. r.pending)) (row-missing places order 0 f)

-- what a place has is the command of its id
pub place-tells : (places : List (Option PendingData)) (order : List Ranked) (id : ℕ) → AllStand places order →
    ((p : PendingData) → place_of places id ≡ Some p → is_ranked order id ≡ true) → command_of (rows_of places order) id ≡ place_of places id
place-tells places order id s r =
    ⊎_elim
    (λ (t : is_ranked order id ≡ true).
    ap (option_map (λ r. r.pending)) (row-found places order id t) ∙ sym ((there places order id s t).here))
    (λ (f : is_ranked order id ≡ false).
    ap (option_map (λ r. r.pending)) (row-missing places order id f)
    ∙ sym (none-or (place_of places id) (λ p h. false≢true (sym f ∙ r p h))))
    (cases_Bool (is_ranked order id))

pub at-past : (places : List (Option PendingData)) (id : ℕ) → length places < id → at_id places id ≡ None
at-past places id h =
    let e : slice_index_or places (id - 1) None ≡ None = get_or_past places (id - 1) None (omega arith) in
    rw (eqb-not id 0 (omega arith)) e

pub at-one : (places : List (Option PendingData)) (id : ℕ) → id ≢ 0 → at_id places id ≡ place_of places id
at-one places id h = rw (eqb-not id 0 h) refl

-- what is looked up is the command of the id
pub at-tells : (places : List (Option PendingData)) (order : List Ranked) (id : ℕ) → AllStand places order →
    ((n : ℕ) (p : PendingData) → 1 ≤ n → place_of places n ≡ Some p → is_ranked order n ≡ true) → command_of (rows_of places order) id ≡ at_id places id
at-tells places order id s r =
    ⊎_elim
    (λ (z : id ≡ 0).
    let P : ℕ → Type 0 = λ n. command_of (rows_of places order) n ≡ at_id places n in
    subst P (sym z) (zero-missing places order s))
    (λ (d : id ≢ 0). place-tells places order id s (λ p h. r id p (omega arith) h) ∙ sym (at-one places id d))
    (cases_eq id 0)

-- to empty an empty place changes nothing
pub emptied-same : (places : List (Option PendingData)) (id : ℕ) (was : Option PendingData) → was ≡ place_of places id → IfNone was (slice_set places (id - 1) None ≡ places)
emptied-same places id (Some p) h = tt
emptied-same places id None h = ap (slice_set places (id - 1)) h ∙ set-get_or places (id - 1) None

-- ==== ranks

pub rank-get : (places : List (Option PendingData)) (order : List Ranked) (n : ℕ) (o : Ranked) → slice_get order n ≡ Some o → slice_get (rows_of places order) n ≡ Some (row_at places o)
rank-get places [] n o h = absurd (no-rank h)
rank-get places (x ∷ xs) zero o h = let s : x ≡ o = cc in ap (λ z. Some (row_at places z)) s
rank-get places (x ∷ xs) (suc n) o h = rank-get places xs n o h

pub rank-stands : (places : List (Option PendingData)) (order : List Ranked) (n : ℕ) (o : Ranked) → AllStand places order → slice_get order n ≡ Some o → Stands places o × (is_ranked order o.id ≡ true)
rank-stands places [] n o s h = absurd (no-rank h)
rank-stands places (x ∷ xs) zero o s h =
    let e : x ≡ o = cc in
    let P : Ranked → Type 0 = λ z. Stands places z × (is_ranked (x ∷ xs) z.id ≡ true) in
    subst P e (s.0, ap (λ b. b || is_ranked xs x.id) (eqb-self x.id))
rank-stands places (x ∷ xs) (suc n) o s h =
    let i = rank-stands places xs n o s.1 h in
    (i.0, ap (λ b. (x.id == o.id) || b) i.1 ∙ or-true (x.id == o.id))

some-none : {n : ℕ} → ◌≡◌ {A = Option ℕ} (Some n) None → ⊥
some-none h = cc

-- ==== the first that is not expired

pub rank-none : (order : List Ranked) (n : ℕ) → option_map (λ o. o.id) (slice_get order n) ≡ None → length order ≤ n
rank-none [] n h = omega arith
rank-none (x ∷ xs) zero h = absurd (some-none h)
rank-none (x ∷ xs) (suc n) h = let i = rank-none xs n h in omega arith

pub rank-some : (order : List Ranked) (n id : ℕ) → option_map (λ o. o.id) (slice_get order n) ≡ Some id → (o : Ranked) × (slice_get order n ≡ Some o) × (o.id ≡ id)
rank-some [] n id h = absurd (none-some _ h)
rank-some (x ∷ xs) zero id h = (x, refl, (cc))
rank-some (x ∷ xs) (suc n) id h = rank-some xs n id h

pub length-rows : (places : List (Option PendingData)) (order : List Ranked) → length (rows_of places order) ≡ length order
length-rows places [] = refl
length-rows places (o ∷ os) = ap suc (length-rows places os)

pub pending-ranked : (places : List (Option PendingData)) (order : List Ranked) (id : ℕ) → is_ranked order id ≡ true → command_of (rows_of places order) id ≡ Some (or_none (place_of places id))
pending-ranked places order id t = ap (option_map (λ r. r.pending)) (row-found places order id t)

pub no-due : (places : List (Option PendingData)) (order : List Ranked) (now n : ℕ) → ExpiredFirst n (rows_of places order) →
    option_map (λ o. o.id) (slice_get order n) ≡ None → id_in_row (first_of (is_due_at now) (rows_of places order)) ≡ None
no-due places order now n e h =
    let l = rank-none order n h in
    let m = length-rows places order in
    ap id_in_row (due-none now n (rows_of places order) e (omega arith))

pub rank-pending : (places : List (Option PendingData)) (order : List Ranked) (n id : ℕ) → AllStand places order → option_map (λ o. o.id) (slice_get order n) ≡ Some id →
    command_of (rows_of places order) id ≡ Some (or_none (place_of places id))
rank-pending places order n id s h =
    let f = rank-some order n id h in
    let r = (rank-stands places order n f.0 s f.1).1 in
    pending-ranked places order id (ap (is_ranked order) (sym f.2) ∙ r)

due-row : (places : List (Option PendingData)) (order : List Ranked) (n id : ℕ) (p : PendingData) → AllStand places order → option_map (λ o. o.id) (slice_get order n) ≡ Some id →
    command_of (rows_of places order) id ≡ Some p → slice_get (rows_of places order) n ≡ Some (record { id = id; pending = p })
due-row places order n id p s h q =
    let f = rank-some order n id h in
    let g = rank-get places order n f.0 f.1 in
    let e : Some (or_none (place_of places id)) ≡ Some p = sym (rank-pending places order n id s h) ∙ q in
    let k : or_none (place_of places id) ≡ p = cc in
    g ∙ ap (λ i. Some (row_of places i)) f.2 ∙ ap (λ z. Some (record { id = id; pending = z })) k

pub is-first-due : (places : List (Option PendingData)) (order : List Ranked) (now n id : ℕ) (p : PendingData) → AllStand places order → ExpiredFirst n (rows_of places order) →
    option_map (λ o. o.id) (slice_get order n) ≡ Some id → command_of (rows_of places order) id ≡ Some p → has_passed now p.deadline ≡ true →
    id_in_row (first_of (is_due_at now) (rows_of places order)) ≡ Some id
is-first-due places order now n id p s e h q t =
    ap id_in_row (due-some now n (rows_of places order) (record { id = id; pending = p }) e (due-row places order n id p s h q) t)

pub first-not-due : (places : List (Option PendingData)) (order : List Ranked) (now n id : ℕ) (p : PendingData) → AllStand places order → ExpiredFirst n (rows_of places order) → AreInOrder (rows_of places order) →
    option_map (λ o. o.id) (slice_get order n) ≡ Some id → command_of (rows_of places order) id ≡ Some p → has_passed now p.deadline ≡ false →
    id_in_row (first_of (is_due_at now) (rows_of places order)) ≡ None
first-not-due places order now n id p s e o h q f =
    ap id_in_row (due-later now n (rows_of places order) (record { id = id; pending = p }) e o (due-row places order n id p s h q) f)

-- ==== by halving

precedes-at : (places : List (Option PendingData)) (r : PendingRow) (os : List Ranked) → AllStand places os → PrecedesAll r (rows_of places os) →
    (j : ℕ) (d : Ranked) → j < length os → r.pending.serial < (slice_index_or os j d).serial
precedes-at places r [] s p j d l = absurd (omega arith)
precedes-at places r (o ∷ os) s p zero d l = let e = s.0.serial in let b = p.0.serial in omega arith
precedes-at places r (o ∷ os) s p (suc j) d l = precedes-at places r os s.1 p.1 j d (omega arith)

pub serials-rise : (places : List (Option PendingData)) (order : List Ranked) → AllStand places order → AreInOrder (rows_of places order) → IsNonDecreasingBy (λ o. o.serial) order
serials-rise places [] s p i j d a b = absurd (omega arith)
serials-rise places (o ∷ os) s p zero zero d a b = omega arith
serials-rise places (o ∷ os) s p zero (suc j) d a b =
    let e = s.0.serial in
    let q = precedes-at places (row_at places o) os s.1 p.0 j d (omega arith) in
    omega arith
serials-rise places (o ∷ os) s p (suc i) zero d a b = absurd (omega arith)
serials-rise places (o ∷ os) s p (suc i) (suc j) d a b = serials-rise places os s.1 p.1 i j d (omega arith) (omega arith)

is-behind-yes : (a b c : ℕ) → nat_le a b ≡ false → c ≡ a → nat_lt b c ≡ true
is-behind-yes a b c h e = grind arith

is-behind-no : (a b c : ℕ) → nat_le a b ≡ true → c ≡ a → nat_lt b c ≡ false
is-behind-no a b c h e = grind arith

pub behind-first : (places : List (Option PendingData)) (order : List Ranked) (serial rank : ℕ) → AllStand places order →
    IsPartitionPoint (λ o. nat_le o.serial serial ≡ true) (λ o. nat_le o.serial serial ≡ false) order rank →
    option_map (λ o. o.id) (slice_get order rank) ≡ id_in_row (first_of (is_behind serial) (rows_of places order))
behind-first places [] serial rank s p = refl
behind-first places (o ∷ os) serial zero s p =
    let f = p.1 0 o (omega arith) (omega arith) in
    rw (is-behind-yes o.serial serial (or_none (place_of places o.id)).serial f s.0.serial) refl
behind-first places (o ∷ os) serial (suc rank) s p =
    let t = p.0 0 o (omega arith) (omega arith) in
    rw (is-behind-no o.serial serial (or_none (place_of places o.id)).serial t s.0.serial)
    (behind-first places os serial rank s.1
    (λ k d a b. p.0 (suc k) d (omega arith) (omega arith), λ k d a b. p.1 (suc k) d (omega arith) (omega arith)))

-- the command of an id stands behind what comes before all
precedes-id : (places : List (Option PendingData)) (r : PendingRow) (os : List Ranked) (id : ℕ) → PrecedesAll r (rows_of places os) → is_ranked os id ≡ true → r.pending.serial < (or_none (place_of places id)).serial
precedes-id places r [] id p h = absurd (false≢true h)
precedes-id places r (o ∷ os) id p h =
    ⊎_elim
    (λ (t : (o.id == id) ≡ true). let e = ap (λ n. (or_none (place_of places n)).serial) (eqb-true o.id id t) in let b = p.0.serial in omega arith)
    (λ (f : (o.id == id) ≡ false). precedes-id places r os id p.1 (rw f at h))
    (cases_Bool (o.id == id))

not-le : (a b : ℕ) → nat_le a b ≡ false → a ≤ b → ⊥
not-le a b h l = grind arith

-- no serial behind the last of a rank is at most its own
last-one : (places : List (Option PendingData)) (o : Ranked) (os : List Ranked) (serial rank : ℕ) → AllStand places (o ∷ os) → PrecedesAll (row_at places o) (rows_of places os) →
    o.serial ≡ serial → rank ≤ length os → ((k : ℕ) (d : Ranked) → k < rank → nat_le (slice_index_or os k d).serial serial ≡ true) → rank ≡ 0
last-one places o os serial zero s p e l q = refl
last-one places o os serial (suc rank) s p e l q =
    let b = precedes-at places (row_at places o) os s.1 p 0 o (omega arith) in
    let t = leb-true (slice_index_or os 0 o).serial serial (q 0 o (omega arith)) in
    let a = s.0.serial in
    absurd (omega arith)

-- the rank of an id: one less than how many serials are at most its own
pub record RankOf (order : List Ranked) (id rank k : ℕ) : Type 0 where
  pub before : rank ≡ suc k
  pub within : k < length order
  pub without : without_first (λ o. o.id == id) order ≡ take k order ++ drop (suc k) order

pub rank-of : (places : List (Option PendingData)) (order : List Ranked) (id rank : ℕ) → AllStand places order → AreInOrder (rows_of places order) → is_ranked order id ≡ true →
    rank ≤ length order →
    IsPartitionPoint (λ o. nat_le o.serial (or_none (place_of places id)).serial ≡ true) (λ o. nat_le o.serial (or_none (place_of places id)).serial ≡ false) order rank →
    (k : ℕ) × RankOf order id rank k
rank-of places [] id rank s p h l q = absurd (false≢true h)
rank-of places (o ∷ os) id zero s p h l q =
    let serial = (or_none (place_of places id)).serial in
    let f = q.1 0 o (omega arith) (omega arith) in
    ⊎_elim
    (λ (t : (o.id == id) ≡ true).
    let e = ap (λ n. (or_none (place_of places n)).serial) (eqb-true o.id id t) in
    absurd (not-le o.serial serial f (let a = s.0.serial in omega arith)))
    (λ (n : (o.id == id) ≡ false).
    let b = precedes-id places (row_at places o) os id p.0 (rw n at h) in
    absurd (not-le o.serial serial f (let a = s.0.serial in omega arith)))
    (cases_Bool (o.id == id))
rank-of places (o ∷ os) id (suc rank) s p h l q =
    let serial = (or_none (place_of places id)).serial in
    ⊎_elim
    (λ (t : (o.id == id) ≡ true).
    let e = ap (λ n. (or_none (place_of places n)).serial) (eqb-true o.id id t) in
    let z : rank ≡ 0 = last-one places o os serial rank s p.0 (let a = s.0.serial in omega arith) (omega arith) (λ k d b. q.0 (suc k) d (omega arith) (omega arith)) in
    (0, record { before = ap suc z; within = omega arith; without = rw t refl }))
    (λ (n : (o.id == id) ≡ false).
    let i = rank-of places os id rank s.1 p.1 (rw n at h) (omega arith) (λ k d a b. q.0 (suc k) d (omega arith) (omega arith), λ k d a b. q.1 (suc k) d (omega arith) (omega arith)) in
    let w = i.1.within in
    (suc i.0, record { before = ap suc i.1.before; within = omega arith; without = rw n (ap (λ xs. o ∷ xs) i.1.without) }))
    (cases_Bool (o.id == id))

-- the first of all
pub least-first : (places : List (Option PendingData)) (order : List Ranked) → option_map (λ o. o.id) (slice_get order 0) ≡ id_in_row (first_of (λ row. true) (rows_of places order))
least-first places [] = refl
least-first places (o ∷ os) = refl
