-- The row of each id, behind a change of one row, and behind a change of the jobs.
use Rattle.std.proofs.Common.{◌≡◌, ◌≢◌, ℕ, zero, suc, ◌+◌, ◌-◌, ◌≤◌, ◌<◌, ◌==◌, not, true, false, cond, ltb, nat_lt, List, [], ◌∷◌, ◌++◌, length, set, Option, Some, None, refl, sym, ap, ◌∙◌, subst, arith, ⊎_elim, eqb-true}
use Rattle.std.specs.List.{list_any}
use Rattle.std.specs.Option.{is_some}
use Rattle.std.proofs.Math.ListN.{get_or-eq_default}
use Rattle.std.proofs.lemmas.Bool.{and_parts, cases_Bool, false≢true, ltb-false, ltb-true}
use Rattle.std.proofs.lemmas.List.{get_or-set_same, get_or-set_other}
use Rattle.tcmu_types.specs.Lists.{with_first, without_first}
use Rattle.user_lib.specs.declared.past.Given.{Given}
use Rattle.user_lib.specs.Given.{is_open, with_key, with_key_of}
use Rattle.user_lib.specs.ById.{AreRows, ChangesRow, IsRow, ParkedFirst, PopsRow, RowState, ShowsSame, count_open, first_key, keys_under, no_row, row_at}
use Rattle.user_lib.proofs.Keys.{open_none}

-- ==== one row

-- an id whose row shows something has one
pub row_within : (rows : List RowState) (id : ℕ) (f : RowState → ℕ) → f no_row ≡ 0 → 1 ≤ f (row_at rows id) → id < length rows
row_within rows id f z h =
    ⊎_elim
    (λ (e : ltb id (length rows) ≡ true). ltb-true id (length rows) e)
    (λ (e : ltb id (length rows) ≡ false).
    let d : row_at rows id ≡ no_row = get_or-eq_default rows no_row (ltb-false id (length rows) e) in
    let y : f (row_at rows id) ≡ 0 = ap f d ∙ z in
    absurd (omega (arith, y, h)))
    (cases_Bool (ltb id (length rows)))

-- what a row is set to
pub row_changed : (rows : List RowState) (id : ℕ) (x : RowState) (n : ℕ) (ks : List ℕ) → id < length rows → x.count ≡ n → x.keys ≡ ks → ChangesRow rows (set rows id x) id n ks
row_changed rows id x n ks lt c k =
    record {
      others = λ other away. get_or-set_other rows id other x no_row away;
      count = ap (λ (y : RowState). y.count) (get_or-set_same rows id x no_row lt) ∙ c;
      keys = ap (λ (y : RowState). y.keys) (get_or-set_same rows id x no_row lt) ∙ k;
    }

pub shows_more : (rows mid after : List RowState) → ShowsSame rows mid → ShowsSame mid after → ShowsSame rows after
shows_more rows mid after h k id = ((k id).0 ∙ (h id).0, (k id).1 ∙ (h id).1)

-- a row more of no job
pub rows_grown : (rows : List RowState) (x : RowState) → x.count ≡ 0 → x.keys ≡ [] → ShowsSame rows (rows ++ x ∷ [])
rows_grown [] x c k zero = (c, k)
rows_grown [] x c k (suc id) = (refl, refl)
rows_grown (r ∷ rows) x c k zero = (refl, refl)
rows_grown (r ∷ rows) x c k (suc id) = rows_grown rows x c k id

-- ==== whether an id is a job's

not_equal : (a b : ℕ) → (a ≡ b → ⊥) → (a == b) ≡ false
not_equal a b h = grind (arith, h)

equal : (a b : ℕ) → a ≡ b → (a == b) ≡ true
equal a b h = grind (arith, h)

open_id : (id : ℕ) (g : Given) → is_open id g ≡ true → g.id ≡ id
open_id id g h = eqb-true g.id id (and_parts (g.id == id) (not (is_some g.key)) h).0

-- an open job of an id is no open one of another
open_away : (id other : ℕ) (g : Given) → other ≢ id → is_open id g ≡ true → is_open other g ≡ false
open_away id other g away h = let e : g.id ≡ id = open_id id g h in let f : (g.id == other) ≡ false = not_equal g.id other (λ q. away (sym q ∙ e)) in rw f refl

-- one without a key shows none
skip_none : (other : ℕ) (g : Given) (gs : List Given) → g.key ≡ None → keys_under other (g ∷ gs) ≡ keys_under other gs
skip_none other g gs e =
    ⊎_elim
    (λ (t : (g.id == other) ≡ true). rw t (ap (λ o. with_key_of o (keys_under other gs)) e))
    (λ (f : (g.id == other) ≡ false). rw f refl)
    (cases_Bool (g.id == other))

-- ==== the rows of jobs

pub rows_same : (rows after : List RowState) (gs : List Given) → ShowsSame rows after → AreRows rows gs → AreRows after gs
rows_same rows after gs s h id = record { count = (s id).0 ∙ (h id).count; keys = (s id).1 ∙ (h id).keys }

-- the jobs of an id have changed as its row has, and those of no other
pub rows_changed : (rows after : List RowState) (id n : ℕ) (ks : List ℕ) (gs behind : List Given) → ChangesRow rows after id n ks → AreRows rows gs →
    ((other : ℕ) → other ≢ id → (count_open other behind ≡ count_open other gs) × (keys_under other behind ≡ keys_under other gs)) → n ≡ count_open id behind → ks ≡ keys_under id behind → AreRows after behind
rows_changed rows after id n ks gs behind c h same count keys other =
    ⊎_elim
    (λ (t : (other == id) ≡ true). subst (λ i. IsRow i behind (row_at after i)) (sym (eqb-true other id t)) (record { count = c.count ∙ count; keys = c.keys ∙ keys }))
    (λ (f : (other == id) ≡ false).
    let away : other ≢ id = λ e. false≢true (sym f ∙ equal other id e) in
    let s = same other away in
    let r : row_at after other ≡ row_at rows other = c.others other away in
    record { count = ap (λ (x : RowState). x.count) r ∙ ((h other).count ∙ sym s.0); keys = ap (λ (x : RowState). x.keys) r ∙ ((h other).keys ∙ sym s.1) })
    (cases_Bool (other == id))

-- ==== one is given

abbrev pub given_now : ℕ → Given
given_now id = record { id = id; key = None }

keys_push : (id other : ℕ) (gs : List Given) → keys_under other (gs ++ given_now id ∷ []) ≡ keys_under other gs
keys_push id other [] = skip_none other (given_now id) [] refl
keys_push id other (g ∷ gs) =
    ⊎_elim
    (λ (t : (g.id == other) ≡ true). rw t (ap (λ ks. with_key_of g.key ks) (keys_push id other gs)))
    (λ (f : (g.id == other) ≡ false). rw f (keys_push id other gs))
    (cases_Bool (g.id == other))

count_push : (id : ℕ) (gs : List Given) → count_open id (gs ++ given_now id ∷ []) ≡ count_open id gs + 1
count_push id [] = let e : (id == id) ≡ true = equal id id refl in rw e refl
count_push id (g ∷ gs) =
    ⊎_elim
    (λ (t : is_open id g ≡ true). rw t (ap (λ n. n + 1) (count_push id gs)))
    (λ (f : is_open id g ≡ false). rw f (count_push id gs))
    (cases_Bool (is_open id g))

count_push_other : (id other : ℕ) (gs : List Given) → other ≢ id → count_open other (gs ++ given_now id ∷ []) ≡ count_open other gs
count_push_other id other [] away = let e : (id == other) ≡ false = not_equal id other (λ q. away (sym q)) in rw e refl
count_push_other id other (g ∷ gs) away =
    ⊎_elim
    (λ (t : is_open other g ≡ true). rw t (ap (λ n. n + 1) (count_push_other id other gs away)))
    (λ (f : is_open other g ≡ false). rw f (count_push_other id other gs away))
    (cases_Bool (is_open other g))

pub rows_push : (rows after : List RowState) (id : ℕ) (gs : List Given) → ChangesRow rows after id ((row_at rows id).count + 1) (row_at rows id).keys → AreRows rows gs → AreRows after (gs ++ given_now id ∷ [])
rows_push rows after id gs c h =
    rows_changed rows after id _ _ gs (gs ++ given_now id ∷ []) c h
    (λ other away. (count_push_other id other gs away, keys_push id other gs))
    (ap (λ n. n + 1) (h id).count ∙ sym (count_push id gs))
    ((h id).keys ∙ sym (keys_push id id gs))

pub first_push : (id : ℕ) (gs : List Given) → ParkedFirst gs → ParkedFirst (gs ++ given_now id ∷ [])
first_push id [] h = ((λ e. refl), tt)
first_push id (g ∷ gs) h = ((λ e. keys_push id g.id gs ∙ h.0 e), first_push id gs h.1)

-- ==== one is taken out that has no reply

keys_out : (id other : ℕ) (gs : List Given) → keys_under other (without_first (is_open id) gs) ≡ keys_under other gs
keys_out id other [] = refl
keys_out id other (g ∷ gs) =
    ⊎_elim
    (λ (o : is_open id g ≡ true). rw o (sym (skip_none other g gs (open_none id g o))))
    (λ (o : is_open id g ≡ false). rw o (
    ⊎_elim
    (λ (t : (g.id == other) ≡ true). rw t (ap (λ ks. with_key_of g.key ks) (keys_out id other gs)))
    (λ (f : (g.id == other) ≡ false). rw f (keys_out id other gs))
    (cases_Bool (g.id == other))))
    (cases_Bool (is_open id g))

count_out : (id : ℕ) (gs : List Given) → list_any (is_open id) gs ≡ true → count_open id (without_first (is_open id) gs) + 1 ≡ count_open id gs
count_out id [] h = absurd (false≢true h)
count_out id (g ∷ gs) h =
    ⊎_elim
    (λ (o : is_open id g ≡ true). rw o refl)
    (λ (o : is_open id g ≡ false). let k : list_any (is_open id) gs ≡ true = rw o at h in rw (o, o) (count_out id gs k))
    (cases_Bool (is_open id g))

count_out_other : (id other : ℕ) (gs : List Given) → other ≢ id → count_open other (without_first (is_open id) gs) ≡ count_open other gs
count_out_other id other [] away = refl
count_out_other id other (g ∷ gs) away =
    ⊎_elim
    (λ (o : is_open id g ≡ true). let f : is_open other g ≡ false = open_away id other g away o in rw (o, f) refl)
    (λ (o : is_open id g ≡ false). rw o (
    ⊎_elim
    (λ (t : is_open other g ≡ true). rw t (ap (λ n. n + 1) (count_out_other id other gs away)))
    (λ (f : is_open other g ≡ false). rw f (count_out_other id other gs away))
    (cases_Bool (is_open other g))))
    (cases_Bool (is_open id g))

pub rows_remove : (rows after : List RowState) (id : ℕ) (gs : List Given) → ChangesRow rows after id ((row_at rows id).count - 1) (row_at rows id).keys → list_any (is_open id) gs ≡ true → AreRows rows gs →
    AreRows after (without_first (is_open id) gs)
rows_remove rows after id gs c any h =
    rows_changed rows after id _ _ gs (without_first (is_open id) gs) c h
    (λ other away. (count_out_other id other gs away, keys_out id other gs))
    (let n = (h id).count in let k = count_out id gs any in omega (arith, n, k))
    ((h id).keys ∙ sym (keys_out id id gs))

pub first_remove : (id : ℕ) (gs : List Given) → ParkedFirst gs → ParkedFirst (without_first (is_open id) gs)
first_remove id [] h = tt
first_remove id (g ∷ gs) h =
    ⊎_elim
    (λ (o : is_open id g ≡ true). rw o h.1)
    (λ (o : is_open id g ≡ false). rw o ((λ (e : g.key ≡ None). keys_out id g.id gs ∙ h.0 e), first_remove id gs h.1))
    (cases_Bool (is_open id g))

-- ==== one is parked

keys_behind : (o : Option ℕ) (ks : List ℕ) (key : ℕ) → with_key_of o (ks ++ key ∷ []) ≡ with_key_of o ks ++ key ∷ []
keys_behind None ks key = refl
keys_behind (Some k) ks key = refl

keys_park_other : (id other key : ℕ) (gs : List Given) → other ≢ id → keys_under other (with_first (is_open id) (with_key key) gs) ≡ keys_under other gs
keys_park_other id other key [] away = refl
keys_park_other id other key (g ∷ gs) away =
    ⊎_elim
    (λ (o : is_open id g ≡ true).
    let e : g.id ≡ id = open_id id g o in
    let f : (g.id == other) ≡ false = not_equal g.id other (λ q. away (sym q ∙ e)) in
    rw (o, f) refl)
    (λ (o : is_open id g ≡ false). rw o (
    ⊎_elim
    (λ (t : (g.id == other) ≡ true). rw t (ap (λ ks. with_key_of g.key ks) (keys_park_other id other key gs away)))
    (λ (f : (g.id == other) ≡ false). rw f (keys_park_other id other key gs away))
    (cases_Bool (g.id == other))))
    (cases_Bool (is_open id g))

keys_park : (id key : ℕ) (gs : List Given) → ParkedFirst gs → list_any (is_open id) gs ≡ true → keys_under id (with_first (is_open id) (with_key key) gs) ≡ keys_under id gs ++ key ∷ []
keys_park id key [] h any = absurd (false≢true any)
keys_park id key (g ∷ gs) h any =
    ⊎_elim
    (λ (o : is_open id g ≡ true).
    let e : g.id ≡ id = open_id id g o in
    let t : (g.id == id) ≡ true = equal g.id id e in
    let none : keys_under id gs ≡ [] = subst (λ i. keys_under i gs ≡ []) e (h.0 (open_none id g o)) in
    let a : keys_under id (g ∷ gs) ≡ [] = skip_none id g gs (open_none id g o) ∙ none in
    rw o (
    let b : keys_under id (with_key key g ∷ gs) ≡ key ∷ keys_under id gs = rw t refl in
    b ∙ (ap (λ ks. key ∷ ks) none ∙ ap (λ ks. ks ++ key ∷ []) (sym a))))
    (λ (o : is_open id g ≡ false).
    let k : list_any (is_open id) gs ≡ true = rw o at any in
    rw o (
    ⊎_elim
    (λ (t : (g.id == id) ≡ true). rw t (ap (λ ks. with_key_of g.key ks) (keys_park id key gs h.1 k) ∙ keys_behind g.key (keys_under id gs) key))
    (λ (f : (g.id == id) ≡ false). rw f (keys_park id key gs h.1 k))
    (cases_Bool (g.id == id))))
    (cases_Bool (is_open id g))

-- a job under a key is not open
keyed_shut : (id key : ℕ) (g : Given) → is_open id (with_key key g) ≡ false
keyed_shut id key g =
    ⊎_elim
    (λ (t : (g.id == id) ≡ true). rw t refl)
    (λ (f : (g.id == id) ≡ false). rw f refl)
    (cases_Bool (g.id == id))

count_park : (id key : ℕ) (gs : List Given) → list_any (is_open id) gs ≡ true → count_open id (with_first (is_open id) (with_key key) gs) + 1 ≡ count_open id gs
count_park id key [] h = absurd (false≢true h)
count_park id key (g ∷ gs) h =
    ⊎_elim
    (λ (o : is_open id g ≡ true). let s : is_open id (with_key key g) ≡ false = keyed_shut id key g in rw (o, s) refl)
    (λ (o : is_open id g ≡ false). let k : list_any (is_open id) gs ≡ true = rw o at h in rw (o, o) (count_park id key gs k))
    (cases_Bool (is_open id g))

count_park_other : (id other key : ℕ) (gs : List Given) → other ≢ id → count_open other (with_first (is_open id) (with_key key) gs) ≡ count_open other gs
count_park_other id other key [] away = refl
count_park_other id other key (g ∷ gs) away =
    ⊎_elim
    (λ (o : is_open id g ≡ true).
    let f : is_open other g ≡ false = open_away id other g away o in
    let s : is_open other (with_key key g) ≡ false = keyed_shut other key g in
    rw (o, f, s) refl)
    (λ (o : is_open id g ≡ false). rw o (
    ⊎_elim
    (λ (t : is_open other g ≡ true). rw t (ap (λ n. n + 1) (count_park_other id other key gs away)))
    (λ (f : is_open other g ≡ false). rw f (count_park_other id other key gs away))
    (cases_Bool (is_open other g))))
    (cases_Bool (is_open id g))

pub rows_park : (rows after : List RowState) (id key : ℕ) (gs : List Given) → ChangesRow rows after id ((row_at rows id).count - 1) ((row_at rows id).keys ++ key ∷ []) → list_any (is_open id) gs ≡ true → ParkedFirst gs →
    AreRows rows gs → AreRows after (with_first (is_open id) (with_key key) gs)
rows_park rows after id key gs c any first h =
    rows_changed rows after id _ _ gs (with_first (is_open id) (with_key key) gs) c h
    (λ other away. (count_park_other id other key gs away, keys_park_other id other key gs away))
    (let n = (h id).count in let k = count_park id key gs any in omega (arith, n, k))
    (ap (λ ks. ks ++ key ∷ []) (h id).keys ∙ sym (keys_park id key gs first any))

-- a job without a key that is no open one of an id has another id
shut_away : (id : ℕ) (g : Given) → g.key ≡ None → is_open id g ≡ false → g.id ≢ id
shut_away id g none shut e =
    let t : (g.id == id) ≡ true = equal g.id id e in
    let o : is_open id g ≡ true = rw t (ap (λ x. not (is_some x)) none) in
    false≢true (sym shut ∙ o)

pub first_park : (id key : ℕ) (gs : List Given) → ParkedFirst gs → ParkedFirst (with_first (is_open id) (with_key key) gs)
first_park id key [] h = tt
first_park id key (g ∷ gs) h =
    ⊎_elim
    (λ (o : is_open id g ≡ true). rw o ((λ (e : Some key ≡ None). absurd (cc)), h.1))
    (λ (o : is_open id g ≡ false). rw o ((λ (e : g.key ≡ None). keys_park_other id g.id key gs (shut_away id g e o) ∙ h.0 e), first_park id key gs h.1))
    (cases_Bool (is_open id g))

-- ==== the first is taken out

-- as many of an id are open as is told
pub open_counted : (id : ℕ) (gs : List Given) → list_any (is_open id) gs ≡ true → 1 ≤ count_open id gs
open_counted id gs h = let k = count_out id gs h in omega (arith, k)

pub none_counted : (id : ℕ) (gs : List Given) → list_any (is_open id) gs ≡ false → count_open id gs ≡ 0
none_counted id [] h = refl
none_counted id (g ∷ gs) h =
    ⊎_elim
    (λ (o : is_open id g ≡ true). let k : true ≡ false = rw o at h in absurd (false≢true (sym k)))
    (λ (o : is_open id g ≡ false). let k : list_any (is_open id) gs ≡ false = rw o at h in rw o (none_counted id gs k))
    (cases_Bool (is_open id g))

pub some_counted : (id : ℕ) (gs : List Given) → nat_lt 0 (count_open id gs) ≡ list_any (is_open id) gs
some_counted id gs =
    ⊎_elim
    (λ (t : list_any (is_open id) gs ≡ true). let n : 1 ≤ count_open id gs = open_counted id gs t in let l : nat_lt 0 (count_open id gs) ≡ true = grind (arith, n) in l ∙ sym t)
    (λ (f : list_any (is_open id) gs ≡ false). ap (λ n. nat_lt 0 n) (none_counted id gs f) ∙ sym f)
    (cases_Bool (list_any (is_open id) gs))

-- the first job of an id counts in its row
pub first_counts : (rows : List RowState) (g : Given) (gs : List Given) → AreRows rows (g ∷ gs) → 1 ≤ (row_at rows g.id).count + length (row_at rows g.id).keys
first_counts rows g gs h = go g.key refl
  where
    here : (g.id == g.id) ≡ true
    here = equal g.id g.id refl

    go : (o : Option ℕ) → g.key ≡ o → 1 ≤ (row_at rows g.id).count + length (row_at rows g.id).keys
    go None e =
        let o : is_open g.id g ≡ true = rw here (ap (λ x. not (is_some x)) e) in
        let c : count_open g.id (g ∷ gs) ≡ count_open g.id gs + 1 = rw o refl in
        let n : (row_at rows g.id).count ≡ count_open g.id (g ∷ gs) = (h g.id).count in
        omega (arith, n, c)
    go (Some key) e =
        let c : keys_under g.id (g ∷ gs) ≡ with_key_of g.key (keys_under g.id gs) = rw here refl in
        let k : (row_at rows g.id).keys ≡ key ∷ keys_under g.id gs = (h g.id).keys ∙ (c ∙ ap (λ o. with_key_of o (keys_under g.id gs)) e) in
        omega (arith, ap length k)

here : (id : ℕ) → (id == id) ≡ true
here id = equal id id refl

-- the keys of the first job's id
keys_first : (g : Given) (gs : List Given) → keys_under g.id (g ∷ gs) ≡ with_key_of g.key (keys_under g.id gs)
keys_first g gs = let t : (g.id == g.id) ≡ true = here g.id in rw t refl

first_same : (x y : ℕ) (xs ys : List ℕ) → x ∷ xs ≡ y ∷ ys → (x ≡ y) × (xs ≡ ys)
first_same x y xs ys e = (cc, cc)

no_first : (x : ℕ) (xs : List ℕ) → x ∷ xs ≡ [] → ⊥
no_first x xs e = omega (arith, ap length e)

pub rows_pop : (rows after : List RowState) (g : Given) (gs : List Given) (key : Option ℕ) → PopsRow rows after g.id key → AreRows rows (g ∷ gs) → ParkedFirst (g ∷ gs) → (key ≡ g.key) × AreRows after gs
rows_pop rows after g gs key p h first = go key g.key refl p
  where
    others : (other : ℕ) → other ≢ g.id → (count_open other gs ≡ count_open other (g ∷ gs)) × (keys_under other gs ≡ keys_under other (g ∷ gs))
    others other away = let f : (g.id == other) ≡ false = not_equal g.id other (λ q. away (sym q)) in (rw f refl, rw f refl)

    keys : (row_at rows g.id).keys ≡ with_key_of g.key (keys_under g.id gs)
    keys = (h g.id).keys ∙ keys_first g gs

    counted : (o : Option ℕ) → g.key ≡ o → count_open g.id (g ∷ gs) ≡ cond (is_some o) (count_open g.id gs) (count_open g.id gs + 1)
    counted None e = let t : (g.id == g.id) ≡ true = here g.id in let o : is_open g.id g ≡ true = rw t (ap (λ x. not (is_some x)) e) in rw o refl
    counted (Some k) e = let t : (g.id == g.id) ≡ true = here g.id in let o : is_open g.id g ≡ false = rw t (ap (λ x. not (is_some x)) e) in rw o refl

    go : (key o : Option ℕ) → g.key ≡ o → PopsRow rows after g.id key → (key ≡ g.key) × AreRows after gs
    go None None e q =
        let c = counted None e in
        let n = (h g.id).count in
        (sym e, rows_changed rows after g.id _ _ (g ∷ gs) gs q.1 h others (omega (arith, n, c)) (sym (first.0 e)))
    go None (Some k) e q = absurd (no_first k (keys_under g.id gs) (sym (keys ∙ ap (λ o. with_key_of o (keys_under g.id gs)) e) ∙ q.0))
    go (Some k) None e q = absurd (no_first k (row_at after g.id).keys (sym q.0 ∙ (keys ∙ (ap (λ o. with_key_of o (keys_under g.id gs)) e ∙ first.0 e))))
    go (Some k) (Some x) e q =
        let same : k ∷ (row_at after g.id).keys ≡ x ∷ keys_under g.id gs = sym q.0 ∙ (keys ∙ ap (λ o. with_key_of o (keys_under g.id gs)) e) in
        let parts = first_same k x (row_at after g.id).keys (keys_under g.id gs) same in
        (ap Some parts.0 ∙ sym e, rows_changed rows after g.id _ _ (g ∷ gs) gs q.1 h others ((h g.id).count ∙ counted (Some x) e) parts.1)

-- the first job is parked where its id has a key
pub leads_keyed : (rows : List RowState) (g : Given) (gs : List Given) → AreRows rows (g ∷ gs) → ParkedFirst (g ∷ gs) → is_some (first_key (row_at rows g.id).keys) ≡ is_some g.key
leads_keyed rows g gs h first = ap (λ ks. is_some (first_key ks)) ((h g.id).keys ∙ keys_first g gs) ∙ go g.key refl
  where
    go : (o : Option ℕ) → g.key ≡ o → is_some (first_key (with_key_of o (keys_under g.id gs))) ≡ is_some o
    go None e = ap (λ ks. is_some (first_key ks)) (first.0 e)
    go (Some k) e = refl
