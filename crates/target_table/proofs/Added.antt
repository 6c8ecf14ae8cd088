-- What adding a command does to the fields and to the rows, and what other places keep.
use Rattle.std.proofs.Common.{◌≡◌, ◌≢◌, ℕ, ◌+◌, ◌-◌, ◌≤◌, ◌⊎◌, inl, inr, ⊎_elim, Bool, true, false, ◌||◌, ◌==◌, List, [], ◌∷◌, ◌++◌, length, length-append, slice_set, Option, Some, None, refl, sym, ap, subst, ◌∙◌, arith}
use Rattle.std.specs.List.{list_any}
use Rattle.std.proofs.lemmas.List.{get_or-set_same, get_or-set_other, length-set, map-append}
use Rattle.std.proofs.lemmas.List.Folds.{list_any-append}
use Rattle.std.proofs.lemmas.Bool.{cases_eq, cases_Bool, eqb-false, or_parts, false≢true}
use Rattle.std.proofs.lemmas.Option.{none-some}
use Rattle.tcmu_types.specs.Numbers.{is_among, Differ}
use Rattle.region_model.specs.Pending.{PendingData}
use Rattle.target_table.specs.declared.table.Ranked.{Ranked}
use Rattle.target_table.specs.Rows.{TableData, AllPrecede, IsTable}
use Rattle.region_model.specs.Represents.{has_id}
use Rattle.region_model.specs.Sides.{PendingRow}
use Rattle.target_table.specs.Kept.{place_of, or_none, row_at, rows_of, Stands, AllStand, is_ranked, IsFree, IsKept}
use Rattle.target_table.proofs.Ordered.{order-added, ids-added, differ-added, expired-added, or-true, eqb-not}
use Rattle.target_table.proofs.Places.{row_of, any-row, there, length-rows, eqb-self}
use Rattle.tcmu_types.proofs.Rises.{among-append}

-- ==== other places

-- the places of all that are ranked are the same
unfoldable pub Same : List (Option PendingData) → List (Option PendingData) → List Ranked → Type 0
Same places places' order = (id : ℕ) → is_ranked order id ≡ true → place_of places' id ≡ place_of places id

same-rest : (places places' : List (Option PendingData)) (o : Ranked) (os : List Ranked) → Same places places' (o ∷ os) → Same places places' os
unfolding Same
same-rest places places' o os h id r = h id (ap (λ b. (o.id == id) || b) r ∙ or-true (o.id == id))

same-here : (places places' : List (Option PendingData)) (o : Ranked) (os : List Ranked) → Same places places' (o ∷ os) → place_of places' o.id ≡ place_of places o.id
unfolding Same
same-here places places' o os h = h o.id (ap (λ b. b || is_ranked os o.id) (eqb-self o.id))

pub rows-same : (places places' : List (Option PendingData)) (order : List Ranked) → Same places places' order → rows_of places' order ≡ rows_of places order
rows-same places places' [] h = refl
rows-same places places' (o ∷ os) h =
    let e : row_at places' o ≡ row_at places o = ap (λ p. record { id = o.id; pending = or_none p }) (same-here places places' o os h) in
    rw (e, rows-same places places' os (same-rest places places' o os h)) refl

pub stand-same : (places places' : List (Option PendingData)) (order : List Ranked) → length places ≤ length places' → Same places places' order → AllStand places order → AllStand places' order
stand-same places places' [] l h s = tt
stand-same places places' (o ∷ os) l h s =
    let e = same-here places places' o os h in
    let a = s.0.high in (
      record {
        low = s.0.low;
        high = omega arith;
        here = e ∙ s.0.here ∙ ap (λ p. Some (or_none p)) (sym e);
        serial = ap (λ p. (or_none p).serial) e ∙ s.0.serial;
      },
      stand-same places places' os l (same-rest places places' o os h) s.1,
    )

pub place-set : (places : List (Option PendingData)) (id : ℕ) (p : Option PendingData) → 1 ≤ id → id ≤ length places → place_of (slice_set places (id - 1) p) id ≡ p
place-set places id p a b = get_or-set_same places (id - 1) p None (omega arith)

pub place-other : (places : List (Option PendingData)) (id other : ℕ) (p : Option PendingData) → 1 ≤ id → 1 ≤ other → other ≢ id → place_of (slice_set places (id - 1) p) other ≡ place_of places other
place-other places id other p a b d = get_or-set_other places (id - 1) (other - 1) p None (λ (e : other - 1 ≡ id - 1). d (omega arith))

-- ==== free ids

pub or-case : (a b : Bool) → (a || b) ≡ true → (a ≡ true) ⊎ (b ≡ true)
or-case true b h = inl refl
or-case false b h = inr h

pub distinct-last : (xs : List ℕ) (x : ℕ) → Differ (xs ++ x ∷ []) → Differ xs × (is_among xs x ≡ false)
distinct-last [] x h = (tt, refl)
distinct-last (y ∷ ys) x h =
    let i = distinct-last ys x h.1 in
    let s = or_parts (is_among ys y) (is_among (x ∷ []) y) (sym (among-append ys (x ∷ []) y) ∙ h.0) in
    let t = or_parts (x == y) false s.1 in
    ((s.0, i.0), rw (eqb-not y x (λ (e : y ≡ x). eqb-false x y t.0 (sym e))) i.1)

pub distinct-more : (xs : List ℕ) (x : ℕ) → Differ xs → is_among xs x ≡ false → Differ (xs ++ x ∷ [])
distinct-more [] x h f = (refl, tt)
distinct-more (y ∷ ys) x h f =
    let s = or_parts (y == x) (is_among ys x) f in
    let d : (x == y) ≡ false = eqb-not x y (λ (e : x ≡ y). eqb-false y x s.0 (sym e)) in
    (among-append ys (x ∷ []) y ∙ rw (h.0, d) refl, distinct-more ys x h.1 s.1)

ranked-append : (xs ys : List Ranked) (m : ℕ) → is_ranked (xs ++ ys) m ≡ (is_ranked xs m || is_ranked ys m)
ranked-append xs ys m = list_any-append (λ o. o.id == m) xs ys

stand-append : (places : List (Option PendingData)) (xs : List Ranked) (o : Ranked) → AllStand places xs → Stands places o → AllStand places (xs ++ o ∷ [])
stand-append places [] o s h = (h, tt)
stand-append places (x ∷ xs) o s h = (s.0, stand-append places xs o s.1 h)

-- a free id is not ranked
pub free-unranked : (places : List (Option PendingData)) (order : List Ranked) (id : ℕ) → AllStand places order → IsFree places id → is_ranked order id ≡ false
free-unranked places order id s f =
    ⊎_elim
    (λ (t : is_ranked order id ≡ true). absurd (none-some _ (sym f.free ∙ (there places order id s t).here)))
    (λ (n : is_ranked order id ≡ false). n)
    (cases_Bool (is_ranked order id))

pub record Adding (places : List (Option PendingData)) (free rest : List ℕ) (order : List Ranked) (expired id : ℕ) (p : PendingData) : Type 0 where
  pub kept : IsKept places free order expired
  pub last : free ≡ rest ++ id ∷ []
  pub behind : AllPrecede (rows_of places order) p
  pub waiting : p.expired ≡ false

pub added-free : (places : List (Option PendingData)) (free rest : List ℕ) (order : List Ranked) (expired id : ℕ) (p : PendingData) → Adding places free rest order expired id p → IsFree places id
added-free places free rest order expired id p a =
    a.kept.are_free id (ap (λ xs. is_among xs id) a.last ∙ among-append rest (id ∷ []) id ∙ ap (λ b. is_among rest id || (b || false)) (eqb-self id) ∙ or-true (is_among rest id))

pub added-fresh : (places : List (Option PendingData)) (free rest : List ℕ) (order : List Ranked) (expired id : ℕ) (p : PendingData) → Adding places free rest order expired id p →
    list_any (has_id id) (rows_of places order) ≡ false
added-fresh places free rest order expired id p a =
    any-row places order id ∙ free-unranked places order id a.kept.stand (added-free places free rest order expired id p a)

added-same : (places : List (Option PendingData)) (free rest : List ℕ) (order : List Ranked) (expired id : ℕ) (p : PendingData) → Adding places free rest order expired id p →
    Same places (slice_set places (id - 1) (Some p)) order
unfolding Same
added-same places free rest order expired id p a other t =
    let f = added-free places free rest order expired id p a in
    let u = free-unranked places order id a.kept.stand f in
    let o = there places order other a.kept.stand t in
    place-other places id other (Some p) f.low o.low (λ (e : other ≡ id). false≢true (sym u ∙ ap (is_ranked order) (sym e) ∙ t))

pub added-rows : (places : List (Option PendingData)) (free rest : List ℕ) (order : List Ranked) (expired id : ℕ) (p : PendingData) → Adding places free rest order expired id p →
    rows_of (slice_set places (id - 1) (Some p)) (order ++ record { serial = p.serial; id = id } ∷ []) ≡ rows_of places order ++ record { id = id; pending = p } ∷ []
added-rows places free rest order expired id p a =
    let f = added-free places free rest order expired id p a in
    let places' = slice_set places (id - 1) (Some p) in
    map-append (row_at places') order (record { serial = p.serial; id = id } ∷ [])
    ∙ ap (λ xs. xs ++ row_of places' id ∷ []) (rows-same places places' order (added-same places free rest order expired id p a))
    ∙ ap (λ q. rows_of places order ++ record { id = id; pending = or_none q } ∷ []) (place-set places id (Some p) f.low f.high)

pub added-kept : (places : List (Option PendingData)) (free rest : List ℕ) (order : List Ranked) (expired id : ℕ) (p : PendingData) → Adding places free rest order expired id p →
    IsKept (slice_set places (id - 1) (Some p)) rest (order ++ record { serial = p.serial; id = id } ∷ []) expired
added-kept places free rest order expired id p a =
    let k = a.kept in
    let f = added-free places free rest order expired id p a in
    let places' = slice_set places (id - 1) (Some p) in
    let o : Ranked = record { serial = p.serial; id = id } in
    let same = added-same places free rest order expired id p a in
    let n : length places' ≡ length places = length-set places (id - 1) (Some p) in
    let here : place_of places' id ≡ Some p = place-set places id (Some p) f.low f.high in
    let few : length free ≡ length rest + 1 = ap length a.last ∙ length-append rest (id ∷ []) in
    let c = k.counted in
    let m = k.most in
    let h = f.high in
    let d = distinct-last rest id (subst Differ a.last k.once) in
    let long : length (order ++ o ∷ []) ≡ length order + 1 = length-append order (o ∷ []) in
    let rows = rows_of places order in
    let r : PendingRow = record { id = id; pending = p } in
    let lr = length-rows places order in
    let la : length (rows ++ r ∷ []) ≡ length rows + 1 = length-append rows (r ∷ []) in
    let P : List PendingRow → Type 0 = λ xs. IsTable (record { rows = xs; expired = expired; spare = length rest }) in
    record {
      stand = stand-append places' order o (stand-same places places' order (omega arith) same k.stand)
          (record {
            low = f.low;
            high = omega arith;
            here = here ∙ ap (λ q. Some (or_none q)) (sym here);
            serial = ap (λ q. (or_none q).serial) here;
          });
      ranked = λ other q low g.
          ranked-append order (o ∷ []) other
          ∙ ⊎_elim
          (λ (e : other ≡ id). ap (λ b. is_ranked order other || (b || false)) (ap (λ z. id == z) e ∙ eqb-self id) ∙ or-true (is_ranked order other))
          (λ (e : other ≢ id).
          ap (λ b. b || is_ranked (o ∷ []) other) (k.ranked other q low (sym (place-other places id other (Some p) f.low low e) ∙ g)))
          (cases_eq other id);
      are_free = λ other g.
          let w = k.are_free other (ap (λ xs. is_among xs other) a.last ∙ among-append rest (id ∷ []) other ∙ ap (λ b. b || is_among (id ∷ []) other) g) in
          let wh = w.high in
          record {
            low = w.low;
            high = omega arith;
            free = place-other places id other (Some p) f.low w.low (λ (e : other ≡ id). false≢true (sym d.1 ∙ ap (is_among rest) (sym e) ∙ g)) ∙ w.free;
          };
      once = d.0;
      counted = omega arith;
      most = omega arith;
      sound = subst P (sym (added-rows places free rest order expired id p a))
          (record {
            in_order = order-added rows r k.sound.in_order a.behind;
            ids = ids-added rows r k.sound.ids f.low (omega arith);
            differ = differ-added rows r k.sound.differ (added-fresh places free rest order expired id p a);
            expired = expired-added expired rows r k.sound.expired a.waiting;
            room = omega arith;
          });
    }

-- the id that is taken off the free ones
pub last-free : (places : List (Option PendingData)) (free rest : List ℕ) (order : List Ranked) (expired id : ℕ) → IsKept places free order expired → free ≡ rest ++ id ∷ [] → IsFree places id
last-free places free rest order expired id k e =
    k.are_free id (ap (λ xs. is_among xs id) e ∙ among-append rest (id ∷ []) id ∙ ap (λ b. is_among rest id || (b || false)) (eqb-self id) ∙ or-true (is_among rest id))

-- the rows and how many places are free
pub added-view : (places : List (Option PendingData)) (free rest : List ℕ) (order order' : List Ranked) (expired id : ℕ) (p : PendingData) → Adding places free rest order expired id p →
    order' ≡ order ++ record { serial = p.serial; id = id } ∷ [] →
    ◌≡◌ {A = TableData} (record { rows = rows_of (slice_set places (id - 1) (Some p)) order'; expired = expired; spare = length rest })
    (record { rows = rows_of places order ++ record { id = id; pending = p } ∷ []; expired = expired; spare = length free - 1 })
added-view places free rest order order' expired id p a e =
    let r : rows_of (slice_set places (id - 1) (Some p)) order' ≡ rows_of places order ++ record { id = id; pending = p } ∷ [] =
    ap (rows_of (slice_set places (id - 1) (Some p))) e ∙ added-rows places free rest order expired id p a in
    let few : length free ≡ length rest + 1 = ap length a.last ∙ length-append rest (id ∷ []) in
    let s : length rest ≡ length free - 1 = omega arith in
    cc

pub length-added : (places : List (Option PendingData)) (i : ℕ) (p : Option PendingData) → length (slice_set places i p) ≡ length places
length-added places i p = length-set places i p
