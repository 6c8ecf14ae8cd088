-- A command is taken out of the target's rows, under the id that its answer names.
use Rattle.std.proofs.Common.{◌≡◌, ℕ, ◌⊎◌, ◌&&◌, inl, inr, Bool, true, false, List, [], ◌∷◌, map, refl, sym, ap, ◌∙◌, Some, None, subst, ⊎_elim, eqb}
use Rattle.std.specs.List.{list_any}
use Rattle.std.specs.Option.{option_map}
use Rattle.std.proofs.lemmas.Bool.{cases_Bool, eqb-true, eqb-false, ne_eqb, eq-eqb, or_parts}
use Rattle.tcmu_model.specs.declared.state.CommandState.{CommandState}
use Rattle.tcmu_model.specs.declared.state.CommandState.TheVariants.{Placed}
use Rattle.tcmu_model.specs.States.{same_state}
use Rattle.tcmu_types.specs.Lists.{first_of, without_first}
use Rattle.tcmu_model.specs.Device.{Unfinished, has_serial, is_at}
use Rattle.tcmu_types.specs.Numbers.{is_among, Differ}
use Rattle.tcmu_model.specs.BlockLists.{Taken}
use Rattle.region_model.specs.Pending.{PendingData}
use Rattle.region_model.specs.Sides.{PendingRow}
use Rattle.region_model.specs.Represents.{has_id, row_has, serial_with, pending_of}

-- what is not taken out is found as before
pub first-without : {X : Type 0} (p q : X → Bool) (xs : List X) (e : X) → first_of p xs ≡ Some e → q e ≡ false → first_of q (without_first p xs) ≡ first_of q xs
first-without p q [] e f n = refl
first-without p q (x ∷ xs) e f n =
    ⊎_elim
    (λ (k : p x ≡ true). let g : Some x ≡ Some e = rw k at f in let m : x ≡ e = cc in let z : q x ≡ false = ap q m ∙ n in rw (k, z) refl)
    (λ (k : p x ≡ false).
    let g : first_of p xs ≡ Some e = rw k at f in
    ⊎_elim
    (λ (z : q x ≡ true). rw (k, z) refl)
    (λ (z : q x ≡ false). rw (k, z) (first-without p q xs e g n))
    (cases_Bool (q x)))
    (cases_Bool (p x))

-- the row of a command, and what the rows keep behind it
pub record TakenOut (lists : List Taken) (rows : List PendingRow) (us : List Unfinished) (s id : ℕ) (e : PendingRow) (u : Unfinished) : Type 0 where
  pub found : first_of (has_id id) rows ≡ Some e
  pub pending : e.pending ≡ pending_of lists u
  pub rest : map (λ (x : PendingRow). x.pending) (without_first (has_id id) rows) ≡ map (pending_of lists) (without_first (is_at s Placed) us)

head_same : {X : Type 0} (x y : X) (xs ys : List X) → x ∷ xs ≡ y ∷ ys → x ≡ y
head_same x y xs ys h = cc

tail_same : {X : Type 0} (x y : X) (xs ys : List X) → x ∷ xs ≡ y ∷ ys → xs ≡ ys
tail_same x y xs ys h = cc

pub among_found : (rows : List PendingRow) (s : ℕ) (e : PendingRow) (id : ℕ) → first_of (row_has s) rows ≡ Some e → list_any (λ k. eqb k id) (map (λ (x : PendingRow). x.id) rows) ≡ false → e.id ≡ id → ⊥
among_found [] s e id f h q = absurd (cc)
among_found (x ∷ xs) s e id f h q =
    let p = or_parts (eqb x.id id) (list_any (λ k. eqb k id) (map (λ (y : PendingRow). y.id) xs)) h in
    ⊎_elim
    (λ (k : row_has s x ≡ true). let g : Some x ≡ Some e = rw k at f in let m : x ≡ e = cc in eqb-false x.id id p.0 (ap (λ (y : PendingRow). y.id) m ∙ q))
    (λ (k : row_has s x ≡ false). let g : first_of (row_has s) xs ≡ Some e = rw k at f in among_found xs s e id g p.1 q)
    (cases_Bool (row_has s x))

-- no command has a serial that stands in none
pub none_at : (s : ℕ) (t : CommandState) (us : List Unfinished) (u : Unfinished) → is_among (map (λ (w : Unfinished). w.serial) us) s ≡ false → first_of (is_at s t) us ≡ Some u → ⊥
none_at s t [] u h f = absurd (cc)
none_at s t (v ∷ us) u h f =
    let p = or_parts (has_serial s v) (list_any (λ k. eqb k s) (map (λ (w : Unfinished). w.serial) us)) h in
    let n : is_at s t v ≡ false = ap (λ z. z && same_state v.state t) p.0 in
    let k : first_of (is_at s t) us ≡ Some u = rw n at f in
    none_at s t us u p.1 k

pub taken-out : (lists : List Taken) (rows : List PendingRow) (us : List Unfinished) (s id : ℕ) (e : PendingRow) (u : Unfinished) →
    map (λ (x : PendingRow). x.pending) rows ≡ map (pending_of lists) us → Differ (map (λ (x : PendingRow). x.id) rows) → Differ (map (λ (v : Unfinished). v.serial) us) →
    first_of (row_has s) rows ≡ Some e → e.id ≡ id → first_of (is_at s Placed) us ≡ Some u → TakenOut lists rows us s id e u
taken-out lists [] us s id e u m df ap0 f i g = absurd (cc)
taken-out lists (x ∷ xs) [] s id e u m df ap0 f i g = absurd (cc)
taken-out lists (x ∷ xs) (v ∷ us) s id e u m df ap0 f i g =
    let same : x.pending ≡ pending_of lists v = head_same x.pending (pending_of lists v) (map (λ (y : PendingRow). y.pending) xs) (map (pending_of lists) us) m in
    let rest : map (λ (y : PendingRow). y.pending) xs ≡ map (pending_of lists) us = tail_same x.pending (pending_of lists v) (map (λ (y : PendingRow). y.pending) xs) (map (pending_of lists) us) m in
    let ser : x.pending.serial ≡ v.serial = ap (λ (p : PendingData). p.serial) same in
    ⊎_elim
    (λ (k : row_has s x ≡ true).
    let ff : Some x ≡ Some e = rw k at f in
    let xe : x ≡ e = cc in
    let xi : has_id id x ≡ true = eq-eqb x.id id (ap (λ (y : PendingRow). y.id) xe ∙ i) in
    let vs : v.serial ≡ s = sym ser ∙ eqb-true x.pending.serial s k in
    ⊎_elim
    (λ (z : is_at s Placed v ≡ true).
    let gg : Some v ≡ Some u = rw z at g in
    let vu : v ≡ u = cc in
    record { found = rw xi (ap Some xe); pending = ap (λ (y : PendingRow). y.pending) (sym xe) ∙ same ∙ ap (pending_of lists) vu; rest = rw (xi, z) rest })
    (λ (z : is_at s Placed v ≡ false). let gg : first_of (is_at s Placed) us ≡ Some u = rw z at g in absurd (none_at s Placed us u (subst (λ (y : ℕ). is_among (map (λ (w : Unfinished). w.serial) us) y ≡ false) vs ap0.0) gg))
    (cases_Bool (is_at s Placed v)))
    (λ (k : row_has s x ≡ false).
    let ff : first_of (row_has s) xs ≡ Some e = rw k at f in
    let xi : has_id id x ≡ false = ne_eqb x.id id (λ q. among_found xs s e x.id ff df.0 (i ∙ sym q)) in
    let z : is_at s Placed v ≡ false = (let w : eqb v.serial s ≡ false = ap (λ y. eqb y s) (sym ser) ∙ k in ap (λ y. y && same_state v.state Placed) w) in
    let gg : first_of (is_at s Placed) us ≡ Some u = rw z at g in
    let r = taken-out lists xs us s id e u rest df.1 ap0.1 ff i gg in
    record { found = rw xi r.found; pending = r.pending; rest = rw (xi, z) (ap (λ ys. x.pending ∷ ys) r.rest ∙ ap (λ y. y ∷ map (pending_of lists) (without_first (is_at s Placed) us)) same) })
    (cases_Bool (row_has s x))

-- ==== what stays different

any-left : {X : Type 0} (f : X → ℕ) (p : X → Bool) (q : ℕ → Bool) (es : List X) → list_any q (map f es) ≡ false → list_any q (map f (without_first p es)) ≡ false
any-left f p q [] h = refl
any-left f p q (e ∷ es) h =
    let t = or_parts (q (f e)) (list_any q (map f es)) h in
    ⊎_elim
    (λ (k : p e ≡ true). rw k t.1)
    (λ (k : p e ≡ false). rw (k, t.0) (any-left f p q es t.1))
    (cases_Bool (p e))

pub differ-left : {X : Type 0} (f : X → ℕ) (p : X → Bool) (es : List X) → Differ (map f es) → Differ (map f (without_first p es))
differ-left f p [] d = tt
differ-left f p (e ∷ es) d =
    ⊎_elim
    (λ (k : p e ≡ true). rw k d.1)
    (λ (k : p e ≡ false). rw k (any-left f p (λ z. eqb z (f e)) es d.0, differ-left f p es d.1))
    (cases_Bool (p e))

no_id : (id : ℕ) (es : List PendingRow) → is_among (map (λ (e : PendingRow). e.id) es) id ≡ false → first_of (has_id id) es ≡ None
no_id id [] h = refl
no_id id (e ∷ es) h = let p = or_parts (has_id id e) (is_among (map (λ (x : PendingRow). x.id) es) id) h in rw p.0 (no_id id es p.1)

-- no row is left under the id of the one that was taken out
gone : (id : ℕ) (es : List PendingRow) → Differ (map (λ (e : PendingRow). e.id) es) → first_of (has_id id) (without_first (has_id id) es) ≡ None
gone id [] d = refl
gone id (e ∷ es) d =
    ⊎_elim
    (λ (k : has_id id e ≡ true). rw k (no_id id es (subst (λ (y : ℕ). is_among (map (λ (x : PendingRow). x.id) es) y ≡ false) (eqb-true e.id id k) d.0)))
    (λ (k : has_id id e ≡ false). rw (k, k) (gone id es d.1))
    (cases_Bool (has_id id e))

pub serial-left : (id other : ℕ) (es : List PendingRow) (e : PendingRow) → Differ (map (λ (x : PendingRow). x.id) es) → first_of (has_id id) es ≡ Some e → e.id ≡ id →
    (serial_with (without_first (has_id id) es) other ≡ None) ⊎ (serial_with (without_first (has_id id) es) other ≡ serial_with es other)
serial-left id other es e d f i =
    ⊎_elim
    (λ (k : has_id other e ≡ true).
    let q : id ≡ other = sym i ∙ eqb-true e.id other k in
    inl (ap (option_map (λ (x : PendingRow). x.pending.serial)) (subst (λ (y : ℕ). first_of (has_id y) (without_first (has_id id) es) ≡ None) q (gone id es d))))
    (λ (k : has_id other e ≡ false). inr (ap (option_map (λ (x : PendingRow). x.pending.serial)) (first-without (has_id id) (has_id other) es e f k)))
    (cases_Bool (has_id other e))
