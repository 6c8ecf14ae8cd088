-- What expiring a command does to the fields and to the rows.
use Rattle.std.proofs.Common.{◌≡◌, ◌≢◌, ℕ, ◌+◌, ◌-◌, ◌≤◌, ⊎_elim, true, false, ◌==◌, List, [], ◌∷◌, length, add-one, slice_set, Option, Some, None, refl, sym, ap, subst, ◌∙◌, arith}
use Rattle.std.specs.List.{list_any}
use Rattle.std.proofs.lemmas.List.{length-set}
use Rattle.std.proofs.lemmas.Bool.{cases_eq, cases_Bool, eqb-true, eqb-false, false≢true}
use Rattle.std.proofs.lemmas.Option.{none-some}
use Rattle.tcmu_types.specs.Lists.{first_of, with_first}
use Rattle.region_model.specs.Pending.{PendingData}
use Rattle.target_table.specs.declared.table.Ranked.{Ranked}
use Rattle.target_table.specs.Rows.{is_waiting, id_in_row, with_expired, IdsDiffer, IsTable, ExpiredFirst}
use Rattle.region_model.specs.Represents.{has_id}
use Rattle.region_model.specs.Sides.{PendingRow}
use Rattle.target_table.specs.Kept.{place_of, at_id, or_none, row_at, rows_of, AllStand, is_ranked, IsKept}
use Rattle.target_table.proofs.Ordered.{order-expired, ids-expired, differ-expired, length-expired, expired-more, expired-most, first-any}
use Rattle.target_table.proofs.Places.{row_of, any-row, there, at-one}
use Rattle.target_table.proofs.Added.{Same, place-other, place-set, rows-same}
use Rattle.target_table.proofs.TakenOut.{Taking, taken-here, taken-low, taken-ranked}

pub record Expiring (places places' : List (Option PendingData)) (free : List ℕ) (order : List Ranked) (expired id : ℕ) (p : PendingData) : Type 0 where
  pub kept : IsKept places free order expired
  pub found : at_id places id ≡ Some p
  pub first : id_in_row (first_of is_waiting (rows_of places order)) ≡ Some id
  pub here : place_of places' id ≡ Some (record p { expired = true })
  pub others : (other : ℕ) → 1 ≤ other → other ≢ id → place_of places' other ≡ place_of places other
  pub as_long : length places' ≡ length places

same-others : (places places' : List (Option PendingData)) (os : List Ranked) (id : ℕ) → AllStand places os → is_ranked os id ≡ false →
    ((other : ℕ) → 1 ≤ other → other ≢ id → place_of places' other ≡ place_of places other) → Same places places' os
unfolding Same
same-others places places' os id s n others other t =
    others other (there places os other s t).low (λ (e : other ≡ id). false≢true (sym n ∙ sym (ap (is_ranked os) e) ∙ t))

row-expired : (places places' : List (Option PendingData)) (order : List Ranked) (id : ℕ) (p : PendingData) → AllStand places order → IdsDiffer (rows_of places order) →
    place_of places id ≡ Some p → place_of places' id ≡ Some (record p { expired = true }) → ((other : ℕ) → 1 ≤ other → other ≢ id → place_of places' other ≡ place_of places other) →
    rows_of places' order ≡ with_first (has_id id) with_expired (rows_of places order)
row-expired places places' [] id p s d was here others = refl
row-expired places places' (o ∷ os) id p s d was here others =
    ⊎_elim
    (λ (t : (o.id == id) ≡ true).
    let e : o.id ≡ id = eqb-true o.id id t in
    let unranked : is_ranked os id ≡ false = sym (any-row places os id) ∙ ap (λ n. list_any (has_id n) (rows_of places os)) (sym e) ∙ d.0 in
    let rest : rows_of places' os ≡ rows_of places os = rows-same places places' os (same-others places places' os id s.1 unranked others) in
    let head : row_at places' o ≡ with_expired (row_at places o) =
    ap (λ n. row_of places' n) e ∙ ap (λ q. record { id = id; pending = or_none q }) here
    ∙ sym (ap (λ n. with_expired (row_of places n)) e ∙ ap (λ q. with_expired (record { id = id; pending = or_none q })) was) in
    rw t (rw (head, rest) refl))
    (λ (f : (o.id == id) ≡ false).
    let head : row_at places' o ≡ row_at places o = ap (λ q. record { id = o.id; pending = or_none q }) (others o.id s.0.low (eqb-false o.id id f)) in
    rw f (rw (head, row-expired places places' os id p s.1 d.1 was here others) refl))
    (cases_Bool (o.id == id))

expiring-row : (places places' : List (Option PendingData)) (free : List ℕ) (order : List Ranked) (expired id : ℕ) (p : PendingData) → Expiring places places' free order expired id p → Taking places free order expired id p
expiring-row places places' free order expired id p x = record { kept = x.kept; found = x.found }

pub expired-rows : (places places' : List (Option PendingData)) (free : List ℕ) (order : List Ranked) (expired id : ℕ) (p : PendingData) → Expiring places places' free order expired id p →
    rows_of places' order ≡ with_first (has_id id) with_expired (rows_of places order)
expired-rows places places' free order expired id p x =
    row-expired places places' order id p x.kept.stand x.kept.sound.differ (taken-here places free order expired id p (expiring-row places places' free order expired id p x)) x.here x.others

expired-one : (n id : ℕ) (rows : List PendingRow) (found : Option PendingRow) → first_of is_waiting rows ≡ found → id_in_row found ≡ Some id → ExpiredFirst n rows → IdsDiffer rows →
    ExpiredFirst (n + 1) (with_first (has_id id) with_expired rows)
expired-one n id rows None f h e d = absurd (none-some _ h)
expired-one n id rows (Some r) f h e d =
    let i : r.id ≡ id = cc in
    let P : ℕ → Type 0 = λ j. ExpiredFirst (n + 1) (with_first (has_id j) with_expired rows) in
    let Q : ℕ → Type 0 = λ m. ExpiredFirst m (with_first (has_id r.id) with_expired rows) in
    subst P i (subst Q (sym (add-one n)) (expired-more n rows r e d f))

stand-expired : (places places' : List (Option PendingData)) (order : List Ranked) (id : ℕ) (p : PendingData) → AllStand places order →
    place_of places id ≡ Some p → place_of places' id ≡ Some (record p { expired = true }) → ((other : ℕ) → 1 ≤ other → other ≢ id → place_of places' other ≡ place_of places other) →
    length places' ≡ length places → AllStand places' order
stand-expired places places' [] id p s was here others n = tt
stand-expired places places' (o ∷ os) id p s was here others n =
    let high = s.0.high in
    let rest = stand-expired places places' os id p s.1 was here others n in
    ⊎_elim
    (λ (e : o.id ≡ id).
    let now : place_of places' o.id ≡ Some (record p { expired = true }) = ap (place_of places') e ∙ here in
    let before : place_of places o.id ≡ Some p = ap (place_of places) e ∙ was in (
      record {
        low = s.0.low;
        high = omega arith;
        here = now ∙ ap (λ q. Some (or_none q)) (sym now);
        serial = ap (λ q. (or_none q).serial) now ∙ ap (λ q. (or_none q).serial) (sym before) ∙ s.0.serial;
      },
      rest,
    ))
    (λ (d : o.id ≢ id).
    let same = others o.id s.0.low d in (
      record {
        low = s.0.low;
        high = omega arith;
        here = same ∙ s.0.here ∙ ap (λ q. Some (or_none q)) (sym same);
        serial = ap (λ q. (or_none q).serial) same ∙ s.0.serial;
      },
      rest,
    ))
    (cases_eq o.id id)

pub expired-kept : (places places' : List (Option PendingData)) (free : List ℕ) (order : List Ranked) (expired id : ℕ) (p : PendingData) → Expiring places places' free order expired id p →
    IsKept places' free order (expired + 1)
expired-kept places places' free order expired id p x =
    let k = x.kept in
    let t = expiring-row places places' free order expired id p x in
    let was = taken-here places free order expired id p t in
    let n = x.as_long in
    let m = k.most in
    let c = k.counted in
    let rows = rows_of places order in
    let room = k.sound.room in
    let P : List PendingRow → Type 0 = λ xs. IsTable (record { rows = xs; expired = expired + 1; spare = length free }) in
    let long = length-expired (has_id id) rows in
    record {
      stand = stand-expired places places' order id p k.stand was x.here x.others x.as_long;
      ranked = λ other q l g.
          ⊎_elim
          (λ (e : other ≡ id). ap (is_ranked order) e ∙ taken-ranked places free order expired id p t)
          (λ (d : other ≢ id). k.ranked other q l (sym (x.others other l d) ∙ g))
          (cases_eq other id);
      are_free = λ other g.
          let w = k.are_free other g in
          let h = w.high in
          let d : other ≢ id = λ (e : other ≡ id). none-some _ (sym w.free ∙ ap (place_of places) e ∙ was) in
          record { low = w.low; high = omega arith; free = x.others other w.low d ∙ w.free };
      once = k.once;
      counted = omega arith;
      most = omega arith;
      sound = subst P (sym (expired-rows places places' free order expired id p x))
          (record {
            in_order = order-expired (has_id id) rows k.sound.in_order;
            ids = ids-expired (has_id id) rows k.sound.ids;
            differ = differ-expired (has_id id) rows k.sound.differ;
            expired = expired-one expired id rows (first_of is_waiting rows) refl x.first k.sound.expired k.sound.differ;
            room = omega arith;
          });
    }

-- the first that is not expired is there
waiting-ranked : (places : List (Option PendingData)) (order : List Ranked) (id : ℕ) (found : Option PendingRow) → first_of is_waiting (rows_of places order) ≡ found → id_in_row found ≡ Some id → is_ranked order id ≡ true
waiting-ranked places order id None f h = absurd (none-some _ h)
waiting-ranked places order id (Some r) f h =
    let i : r.id ≡ id = cc in
    sym (any-row places order id) ∙ ap (λ n. list_any (has_id n) (rows_of places order)) (sym i) ∙ first-any is_waiting (rows_of places order) r f

pub waiting-found : (places : List (Option PendingData)) (free : List ℕ) (order : List Ranked) (expired id : ℕ) → IsKept places free order expired →
    id_in_row (first_of is_waiting (rows_of places order)) ≡ Some id → at_id places id ≡ Some (or_none (place_of places id))
waiting-found places free order expired id k h =
    let t = there places order id k.stand (waiting-ranked places order id (first_of is_waiting (rows_of places order)) refl h) in
    let l = t.low in
    at-one places id (omega arith) ∙ t.here

-- the place of a command is emptied and filled again
pub expiring : (places : List (Option PendingData)) (free : List ℕ) (order : List Ranked) (expired id : ℕ) (p q : PendingData) → IsKept places free order expired →
    id_in_row (first_of is_waiting (rows_of places order)) ≡ Some id → at_id places id ≡ Some p → q ≡ record p { expired = true } →
    Expiring places (slice_set (slice_set places (id - 1) None) (id - 1) (Some q)) free order expired id p
expiring places free order expired id p q k h f e =
    let t : Taking places free order expired id p = record { kept = k; found = f } in
    let low = taken-low places free order expired id p t in
    let w = there places order id k.stand (taken-ranked places free order expired id p t) in
    let high = w.high in
    let n : length (slice_set places (id - 1) None) ≡ length places = length-set places (id - 1) None in
    record {
      kept = k;
      found = f;
      first = h;
      here = place-set (slice_set places (id - 1) None) id (Some q) low (omega arith) ∙ ap Some e;
      others = λ other l d. place-other (slice_set places (id - 1) None) id other (Some q) low l d ∙ place-other places id other None low l d;
      as_long = length-set (slice_set places (id - 1) None) (id - 1) (Some q) ∙ n;
    }

-- the count fits
pub expired-fits : (places : List (Option PendingData)) (free : List ℕ) (order : List Ranked) (expired : ℕ) → IsKept places free order expired → expired ≤ 65535
expired-fits places free order expired k =
    let m = expired-most expired (rows_of places order) k.sound.expired in
    let r = k.sound.room in
    omega arith

pub order-fits : (places : List (Option PendingData)) (free : List ℕ) (order : List Ranked) (expired : ℕ) → IsKept places free order expired → length order ≤ 65535
order-fits places free order expired k = let c = k.counted in let m = k.most in omega arith
