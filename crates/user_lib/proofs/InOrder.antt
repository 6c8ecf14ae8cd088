-- The line and the rows behind a change of the jobs.
use Rattle.std.proofs.Common.{◌≡◌, ℕ, suc, ◌+◌, ◌-◌, ◌≤◌, Bool, true, false, cond, List, [], ◌∷◌, ◌++◌, length, drop, get_or, map, Option, Some, None, refl, sym, ap, ◌∙◌, subst, arith, ⊎_elim}
use Rattle.std.specs.List.{list_any}
use Rattle.std.specs.Option.{is_some}
use Rattle.std.proofs.lemmas.Bool.{cases_Bool, false≢true}
use Rattle.tcmu_types.specs.Lists.{with_first, without_first}
use Rattle.user_lib.specs.declared.past.Given.{Given}
use Rattle.user_lib.specs.Given.{first_id, is_open, keys_of, leads_parked, with_key, with_key_of}
use Rattle.user_lib.specs.ById.{AreRows, ChangesRow, IsOrder, PopsRow, RowState, ShowsSame, first_key, row_at}
use Rattle.user_lib.proofs.ById.{first_counts, first_park, first_push, first_remove, given_now, leads_keyed, rows_park, rows_pop, rows_push, rows_remove, rows_same}
use Rattle.user_lib.proofs.Keys.{keys_most, keys_without}

pub order_new : (any_order : Bool) → IsOrder any_order [] [] []
order_new any_order = record { line = λ e. refl; no_line = λ e. refl; no_key = λ e. refl; rows_of = λ id. record { count = refl; keys = refl }; parked_first = tt }

pub order_same : (any_order : Bool) (ids : List ℕ) (rows after : List RowState) (gs : List Given) → ShowsSame rows after → IsOrder any_order ids rows gs → IsOrder any_order ids after gs
order_same any_order ids rows after gs s h =
    record { line = h.line; no_line = h.no_line; no_key = h.no_key; rows_of = rows_same rows after gs s h.rows_of; parked_first = h.parked_first }

-- ==== one is given

keys_given : (id : ℕ) (gs : List Given) → keys_of (gs ++ given_now id ∷ []) ≡ keys_of gs
keys_given id [] = refl
keys_given id (g ∷ gs) = ap (λ ks. with_key_of g.key ks) (keys_given id gs)

ids_given : (id : ℕ) (gs : List Given) → map (λ g. g.id) (gs ++ given_now id ∷ []) ≡ map (λ g. g.id) gs ++ id ∷ []
ids_given id [] = refl
ids_given id (g ∷ gs) = ap (λ xs. g.id ∷ xs) (ids_given id gs)

pub order_push : (any_order : Bool) (ids : List ℕ) (rows after : List RowState) (gs : List Given) (id : ℕ) → ChangesRow rows after id ((row_at rows id).count + 1) (row_at rows id).keys → IsOrder any_order ids rows gs →
    IsOrder any_order (cond any_order ids (ids ++ id ∷ [])) after (gs ++ given_now id ∷ [])
order_push any_order ids rows after gs id c h =
    record {
      line = λ e. ap (λ b. cond b ids (ids ++ id ∷ [])) e ∙ (ap (λ xs. xs ++ id ∷ []) (h.line e) ∙ sym (ids_given id gs));
      no_line = λ e. ap (λ b. cond b ids (ids ++ id ∷ [])) e ∙ h.no_line e;
      no_key = λ e. keys_given id gs ∙ h.no_key e;
      rows_of = rows_push rows after id gs c h.rows_of;
      parked_first = first_push id gs h.parked_first;
    }

-- ==== one that has no reply is taken out

pub order_remove : (any_order : Bool) (ids : List ℕ) (rows after : List RowState) (gs : List Given) (id : ℕ) → any_order ≡ true → ChangesRow rows after id ((row_at rows id).count - 1) (row_at rows id).keys →
    list_any (is_open id) gs ≡ true → IsOrder any_order ids rows gs → IsOrder any_order ids after (without_first (is_open id) gs)
order_remove any_order ids rows after gs id any c is_there h =
    record {
      line = λ e. absurd (false≢true (sym e ∙ any));
      no_line = h.no_line;
      no_key = λ e. keys_without id gs ∙ h.no_key e;
      rows_of = rows_remove rows after id gs c is_there h.rows_of;
      parked_first = first_remove id gs h.parked_first;
    }

-- ==== one is parked

ids_parked : (id key : ℕ) (gs : List Given) → map (λ g. g.id) (with_first (is_open id) (with_key key) gs) ≡ map (λ g. g.id) gs
ids_parked id key [] = refl
ids_parked id key (g ∷ gs) =
    ⊎_elim
    (λ (o : is_open id g ≡ true). rw o refl)
    (λ (o : is_open id g ≡ false). rw o (ap (λ xs. g.id ∷ xs) (ids_parked id key gs)))
    (cases_Bool (is_open id g))

pub order_park : (any_order : Bool) (ids : List ℕ) (rows after : List RowState) (gs : List Given) (id key : ℕ) → any_order ≡ false →
    ChangesRow rows after id ((row_at rows id).count - 1) ((row_at rows id).keys ++ key ∷ []) → list_any (is_open id) gs ≡ true → IsOrder any_order ids rows gs →
    IsOrder any_order ids after (with_first (is_open id) (with_key key) gs)
order_park any_order ids rows after gs id key none c is_there h =
    record {
      line = λ e. h.line e ∙ sym (ids_parked id key gs);
      no_line = λ e. absurd (false≢true (sym none ∙ e));
      no_key = λ e. absurd (false≢true (sym none ∙ e));
      rows_of = rows_park rows after id key gs c is_there h.parked_first h.rows_of;
      parked_first = first_park id key gs h.parked_first;
    }

-- ==== the first is taken out

ids_none : (gs : List Given) → map (λ g. g.id) gs ≡ [] → gs ≡ []
ids_none [] e = refl
ids_none (g ∷ gs) e = absurd (omega (arith, ap length e))

pub none_given : (any_order : Bool) (ids : List ℕ) (rows : List RowState) (gs : List Given) → any_order ≡ false → ids ≡ [] → IsOrder any_order ids rows gs → gs ≡ []
none_given any_order ids rows gs none e h = ids_none gs (sym (h.line none) ∙ e)

two_first : (x y : ℕ) (xs ys : List ℕ) → x ∷ xs ≡ y ∷ ys → (x ≡ y) × (xs ≡ ys)
two_first x y xs ys e = (cc, cc)

-- the first in line is the first of the jobs
pub record Leads (id : ℕ) (rest : List ℕ) (gs : List Given) : Type 0 where
  pub first : Given
  pub others : List Given
  pub jobs : gs ≡ first ∷ others
  pub id_is : first.id ≡ id
  pub rest_is : map (λ g. g.id) others ≡ rest

leads_ids : (id : ℕ) (rest : List ℕ) (gs : List Given) → map (λ g. g.id) gs ≡ id ∷ rest → Leads id rest gs
leads_ids id rest [] e = absurd (omega (arith, ap length e))
leads_ids id rest (g ∷ gs) e = let p = two_first g.id id (map (λ x. x.id) gs) rest e in record { first = g; others = gs; jobs = refl; id_is = p.0; rest_is = p.1 }

pub leads : (any_order : Bool) (ids rest : List ℕ) (rows : List RowState) (gs : List Given) (id : ℕ) → any_order ≡ false → ids ≡ id ∷ rest → IsOrder any_order ids rows gs → Leads id rest gs
leads any_order ids rest rows gs id none e h = leads_ids id rest gs (sym (h.line none) ∙ e)

pub pop_counts : (any_order : Bool) (ids rest : List ℕ) (rows : List RowState) (gs : List Given) (id : ℕ) → any_order ≡ false → ids ≡ id ∷ rest → IsOrder any_order ids rows gs → 1 ≤ (row_at rows id).count + length (row_at rows id).keys
pop_counts any_order ids rest rows gs id none e h =
    let l = leads any_order ids rest rows gs id none e h in
    subst (λ i. 1 ≤ (row_at rows i).count + length (row_at rows i).keys) l.id_is (first_counts rows l.first l.others (subst (λ xs. AreRows rows xs) l.jobs h.rows_of))

-- what is taken out, and what stays
pub record Popped (any_order : Bool) (rest : List ℕ) (after : List RowState) (gs : List Given) (id : ℕ) (key : Option ℕ) : Type 0 where
  pub jobs : gs ≡ record { id = id; key = key } ∷ drop 1 gs
  pub order : IsOrder any_order rest after (drop 1 gs)

pub order_pop : (any_order : Bool) (ids rest : List ℕ) (rows after : List RowState) (gs : List Given) (id : ℕ) (key : Option ℕ) → any_order ≡ false → ids ≡ id ∷ rest → PopsRow rows after id key → IsOrder any_order ids rows gs →
    Popped any_order rest after gs id key
order_pop any_order ids rest rows after gs id key none e p h = go gs (leads any_order ids rest rows gs id none e h) h
  where
    shape : (g : Given) → g.id ≡ id → key ≡ g.key → g ≡ record { id = id; key = key }
    shape g i k = ap (λ n. record { id = n; key = g.key }) i ∙ ap (λ o. record { id = id; key = o }) (sym k)

    go : (xs : List Given) → Leads id rest xs → IsOrder any_order ids rows xs → Popped any_order rest after xs id key
    go [] l k = absurd (omega (arith, ap length l.jobs))
    go (g ∷ gs) l k =
        let first : g ≡ l.first = ap (λ xs. get_or xs 0 g) l.jobs in
        let others : gs ≡ l.others = ap (λ xs. drop 1 xs) l.jobs in
        let i : g.id ≡ id = ap (λ (x : Given). x.id) first ∙ l.id_is in
        let q = rows_pop rows after g gs key (subst (λ n. PopsRow rows after n key) (sym i) p) k.rows_of k.parked_first in
        record {
          jobs = ap (λ x. x ∷ gs) (shape g i q.0);
          order = record {
            line = λ e. sym (ap (λ xs. map (λ x. x.id) xs) others ∙ l.rest_is);
            no_line = λ t. absurd (false≢true (sym none ∙ t));
            no_key = λ t. absurd (false≢true (sym none ∙ t));
            rows_of = q.1;
            parked_first = k.parked_first.1;
          };
        }

-- ==== what the line and the rows tell of the first

pub leads_here : (any_order : Bool) (ids rest : List ℕ) (rows : List RowState) (gs : List Given) (id : ℕ) → any_order ≡ false → ids ≡ id ∷ rest → IsOrder any_order ids rows gs → is_some (first_key (row_at rows id).keys) ≡ leads_parked gs
leads_here any_order ids rest rows gs id none e h =
    let l = leads any_order ids rest rows gs id none e h in
    let k = subst (λ xs. IsOrder any_order ids rows xs) l.jobs h in
    subst (λ n. is_some (first_key (row_at rows n).keys) ≡ is_some l.first.key) l.id_is (leads_keyed rows l.first l.others k.rows_of k.parked_first) ∙ ap leads_parked (sym l.jobs)

pub first_here : (any_order : Bool) (ids rest : List ℕ) (rows : List RowState) (gs : List Given) (id : ℕ) → any_order ≡ false → ids ≡ id ∷ rest → IsOrder any_order ids rows gs → Some id ≡ first_id gs
first_here any_order ids rest rows gs id none e h =
    let l = leads any_order ids rest rows gs id none e h in
    ap Some (sym l.id_is) ∙ ap first_id (sym l.jobs)

-- out of order none is in line, and the first is under no key
pub none_leads : (any_order : Bool) (ids : List ℕ) (rows : List RowState) (gs : List Given) → ids ≡ [] → IsOrder any_order ids rows gs → leads_parked gs ≡ false
none_leads any_order ids rows gs e h = ⊎_elim (λ (t : any_order ≡ true). unkeyed gs (h.no_key t)) (λ (f : any_order ≡ false). ap leads_parked (none_given any_order ids rows gs f e h)) (cases_Bool any_order)
  where
    of_key : (o : Option ℕ) (ks : List ℕ) → with_key_of o ks ≡ [] → is_some o ≡ false
    of_key None ks q = refl
    of_key (Some k) ks q = absurd (omega (arith, ap length q))

    unkeyed : (xs : List Given) → keys_of xs ≡ [] → leads_parked xs ≡ false
    unkeyed [] q = refl
    unkeyed (g ∷ xs) q = of_key g.key (keys_of xs) q

pub line_ordered : (any_order : Bool) (id : ℕ) (ids rest : List ℕ) (rows : List RowState) (gs : List Given) → ids ≡ id ∷ rest → IsOrder any_order ids rows gs → any_order ≡ false
line_ordered any_order id ids rest rows gs e h =
    ⊎_elim (λ (t : any_order ≡ true). absurd (omega (arith, ap length (sym e ∙ h.no_line t)))) (λ (f : any_order ≡ false). f) (cases_Bool any_order)

ids_length : (gs : List Given) → length (map (λ g. g.id) gs) ≡ length gs
ids_length [] = refl
ids_length (g ∷ gs) = ap suc (ids_length gs)

-- as many are under keys as are in line, at most
pub keys_in_line : (any_order : Bool) (ids : List ℕ) (rows : List RowState) (gs : List Given) → IsOrder any_order ids rows gs → length (keys_of gs) ≤ length ids
keys_in_line any_order ids rows gs h =
    ⊎_elim
    (λ (t : any_order ≡ true). omega (arith, ap length (h.no_key t)))
    (λ (f : any_order ≡ false). omega (arith, keys_most gs, ap length (h.line f), ids_length gs))
    (cases_Bool any_order)
