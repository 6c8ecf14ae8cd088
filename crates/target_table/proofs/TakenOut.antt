-- What taking a command out does to the fields and to the rows.
use Rattle.std.proofs.Common.{◌≡◌, ◌≢◌, ℕ, ◌+◌, ◌-◌, ◌≤◌, ◌<◌, ⊎_elim, Bool, true, false, cond, ◌||◌, ◌==◌, List, [], ◌∷◌, ◌++◌, length, length-append, take, drop, nat_le, slice_set, Option, Some, None, refl, sym, ap, subst, ◌∙◌, arith, suc}
use Rattle.std.specs.List.{list_any}
use Rattle.std.specs.Option.{option_map}
use Rattle.std.specs.List.Sorted.{IsPartitionPoint}
use Rattle.std.proofs.lemmas.List.{length-set}
use Rattle.std.proofs.lemmas.Bool.{cases_eq, cases_Bool, eqb-true, false≢true}
use Rattle.std.proofs.lemmas.Option.{none-some}
use Rattle.tcmu_types.specs.Lists.{first_of, without_first}
use Rattle.tcmu_types.specs.Numbers.{is_among}
use Rattle.region_model.specs.Pending.{PendingData}
use Rattle.target_table.specs.declared.table.Ranked.{Ranked}
use Rattle.target_table.specs.Rows.{TableData, command_of, IdsDiffer, IsTable, ExpiredFirst, without, without_found}
use Rattle.region_model.specs.Represents.{has_id}
use Rattle.region_model.specs.Sides.{PendingRow}
use Rattle.target_table.specs.Kept.{place_of, at_id, or_none, row_at, rows_of, AllStand, is_ranked, IsKept}
use Rattle.target_table.proofs.Ordered.{order-without, ids-without, differ-without, length-without, some-expired, expired-without, waiting-without, or-true, eqb-not}
use Rattle.target_table.proofs.Places.{row-found, any-row, there, length-rows, at-one, rank-of}
use Rattle.tcmu_types.proofs.Rises.{among-append}
use Rattle.target_table.proofs.Added.{Same, distinct-more, or-case, place-other, place-set, rows-same, stand-same}

ranked-without : (order : List Ranked) (id other : ℕ) → other ≢ id → is_ranked (without_first (λ o. o.id == id) order) other ≡ is_ranked order other
ranked-without [] id other d = refl
ranked-without (o ∷ os) id other d =
    ⊎_elim
    (λ (t : (o.id == id) ≡ true).
    let n : (o.id == other) ≡ false = eqb-not o.id other (λ (e : o.id ≡ other). d (sym e ∙ eqb-true o.id id t)) in
    rw t (sym (ap (λ b. b || is_ranked os other) n)))
    (λ (f : (o.id == id) ≡ false). rw f (ap (λ b. (o.id == other) || b) (ranked-without os id other d)))
    (cases_Bool (o.id == id))

-- an id stands once, so it is gone
gone : (places : List (Option PendingData)) (order : List Ranked) (id : ℕ) → IdsDiffer (rows_of places order) → is_ranked (without_first (λ o. o.id == id) order) id ≡ false
gone places [] id h = refl
gone places (o ∷ os) id h =
    ⊎_elim
    (λ (t : (o.id == id) ≡ true). rw t (sym (any-row places os id) ∙ ap (λ n. list_any (has_id n) (rows_of places os)) (sym (eqb-true o.id id t)) ∙ h.0))
    (λ (f : (o.id == id) ≡ false). rw (f, f) (gone places os id h.1))
    (cases_Bool (o.id == id))

ranked-still : (order : List Ranked) (id other : ℕ) → is_ranked (without_first (λ o. o.id == id) order) other ≡ true → is_ranked order other ≡ true
ranked-still [] id other h = h
ranked-still (o ∷ os) id other h =
    ⊎_elim
    (λ (t : (o.id == id) ≡ true). ap (λ b. (o.id == other) || b) (rw t at h) ∙ or-true (o.id == other))
    (λ (f : (o.id == id) ≡ false).
    ⊎_elim
    (λ (x : (o.id == other) ≡ true). ap (λ b. b || is_ranked os other) x)
    (λ (y : is_ranked (without_first (λ o. o.id == id) os) other ≡ true). ap (λ b. (o.id == other) || b) (ranked-still os id other y) ∙ or-true (o.id == other))
    (or-case (o.id == other) (is_ranked (without_first (λ o. o.id == id) os) other) (rw f at h)))
    (cases_Bool (o.id == id))

stand-without : (places : List (Option PendingData)) (order : List Ranked) (id : ℕ) → AllStand places order → AllStand places (without_first (λ o. o.id == id) order)
stand-without places [] id s = tt
stand-without places (o ∷ os) id s =
    ⊎_elim (λ (t : (o.id == id) ≡ true). rw t s.1) (λ (f : (o.id == id) ≡ false). rw f (s.0, stand-without places os id s.1)) (cases_Bool (o.id == id))

rows-without : (places : List (Option PendingData)) (order : List Ranked) (id : ℕ) → rows_of places (without_first (λ o. o.id == id) order) ≡ without_first (has_id id) (rows_of places order)
rows-without places [] id = refl
rows-without places (o ∷ os) id =
    ⊎_elim (λ (t : (o.id == id) ≡ true). rw t refl) (λ (f : (o.id == id) ≡ false). rw f (ap (λ xs. row_at places o ∷ xs) (rows-without places os id))) (cases_Bool (o.id == id))

pub record Taking (places : List (Option PendingData)) (free : List ℕ) (order : List Ranked) (expired id : ℕ) (p : PendingData) : Type 0 where
  pub kept : IsKept places free order expired
  pub found : at_id places id ≡ Some p

pub taken-low : (places : List (Option PendingData)) (free : List ℕ) (order : List Ranked) (expired id : ℕ) (p : PendingData) → Taking places free order expired id p → 1 ≤ id
taken-low places free order expired id p t =
    ⊎_elim
    (λ (z : id ≡ 0). absurd (none-some _ (sym (ap (at_id places) z) ∙ t.found)))
    (λ (d : id ≢ 0). omega arith)
    (cases_eq id 0)

pub taken-here : (places : List (Option PendingData)) (free : List ℕ) (order : List Ranked) (expired id : ℕ) (p : PendingData) → Taking places free order expired id p → place_of places id ≡ Some p
taken-here places free order expired id p t =
    let l = taken-low places free order expired id p t in
    sym (at-one places id (omega arith)) ∙ t.found

pub taken-ranked : (places : List (Option PendingData)) (free : List ℕ) (order : List Ranked) (expired id : ℕ) (p : PendingData) → Taking places free order expired id p → is_ranked order id ≡ true
taken-ranked places free order expired id p t = t.kept.ranked id p (taken-low places free order expired id p t) (taken-here places free order expired id p t)

taken-first : (places : List (Option PendingData)) (free : List ℕ) (order : List Ranked) (expired id : ℕ) (p : PendingData) → Taking places free order expired id p →
    first_of (has_id id) (rows_of places order) ≡ Some (record { id = id; pending = p })
taken-first places free order expired id p t =
    row-found places order id (taken-ranked places free order expired id p t) ∙ ap (λ q. Some (record { id = id; pending = or_none q })) (taken-here places free order expired id p t)

pub taken-tells : (places : List (Option PendingData)) (free : List ℕ) (order : List Ranked) (expired id : ℕ) (p : PendingData) → Taking places free order expired id p →
    command_of (rows_of places order) id ≡ Some p
taken-tells places free order expired id p t = ap (option_map (λ r. r.pending)) (taken-first places free order expired id p t)

abbrev pub less : Bool → ℕ → ℕ
less b n = cond b (n - 1) n

taken-same : (places : List (Option PendingData)) (free : List ℕ) (order : List Ranked) (expired id : ℕ) (p : PendingData) → Taking places free order expired id p →
    Same places (slice_set places (id - 1) None) (without_first (λ o. o.id == id) order)
unfolding Same
taken-same places free order expired id p t other h =
    let g = gone places order id t.kept.sound.differ in
    let o = there places order other t.kept.stand (ranked-still order id other h) in
    place-other places id other None (taken-low places free order expired id p t) o.low
    (λ (e : other ≡ id). false≢true (sym g ∙ ap (is_ranked (without_first (λ o. o.id == id) order)) (sym e) ∙ h))

pub taken-rows : (places : List (Option PendingData)) (free : List ℕ) (order : List Ranked) (expired id : ℕ) (p : PendingData) → Taking places free order expired id p →
    rows_of (slice_set places (id - 1) None) (without_first (λ o. o.id == id) order) ≡ without_first (has_id id) (rows_of places order)
taken-rows places free order expired id p t =
    rows-same places (slice_set places (id - 1) None) (without_first (λ o. o.id == id) order) (taken-same places free order expired id p t) ∙ rows-without places order id

taken-expired : (n id : ℕ) (rows : List PendingRow) (r : PendingRow) → ExpiredFirst n rows → first_of (has_id id) rows ≡ Some r → ExpiredFirst (less r.pending.expired n) (without_first (has_id id) rows)
taken-expired n id rows r e h =
    let P : Bool → Type 0 = λ b. ExpiredFirst (less b n) (without_first (has_id id) rows) in
    ⊎_elim
    (λ (x : r.pending.expired ≡ true). subst P (sym x) (expired-without (has_id id) n rows r e h x))
    (λ (x : r.pending.expired ≡ false). subst P (sym x) (waiting-without (has_id id) n rows r e h x))
    (cases_Bool r.pending.expired)

pub taken-some : (places : List (Option PendingData)) (free : List ℕ) (order : List Ranked) (expired id : ℕ) (p : PendingData) → Taking places free order expired id p → p.expired ≡ true → 1 ≤ expired
taken-some places free order expired id p t x =
    some-expired (has_id id) expired (rows_of places order) (record { id = id; pending = p }) t.kept.sound.expired (taken-first places free order expired id p t) x

pub taken-kept : (places : List (Option PendingData)) (free : List ℕ) (order : List Ranked) (expired id : ℕ) (p : PendingData) → Taking places free order expired id p →
    IsKept (slice_set places (id - 1) None) (free ++ id ∷ []) (without_first (λ o. o.id == id) order) (less p.expired expired)
taken-kept places free order expired id p t =
    let k = t.kept in
    let low = taken-low places free order expired id p t in
    let there_is = there places order id k.stand (taken-ranked places free order expired id p t) in
    let high = there_is.high in
    let places' = slice_set places (id - 1) None in
    let order' = without_first (λ o. o.id == id) order in
    let rows = rows_of places order in
    let same = taken-same places free order expired id p t in
    let n : length places' ≡ length places = length-set places (id - 1) None in
    let empty : place_of places' id ≡ None = place-set places id None low high in
    let first = taken-first places free order expired id p t in
    let la = length-without (has_id id) rows (record { id = id; pending = p }) first in
    let lr = length-rows places order in
    let lb : length order' ≡ length (without_first (has_id id) rows) = sym (length-rows places order') ∙ ap length (rows-without places order id) in
    let lf : length (free ++ id ∷ []) ≡ length free + 1 = length-append free (id ∷ []) in
    let c = k.counted in
    let m = k.most in
    let not_free : is_among free id ≡ false =
    ⊎_elim
    (λ (x : is_among free id ≡ true). absurd (none-some _ (sym (k.are_free id x).free ∙ taken-here places free order expired id p t)))
    (λ (x : is_among free id ≡ false). x)
    (cases_Bool (is_among free id)) in
    let P : List PendingRow → Type 0 = λ xs. IsTable (record { rows = xs; expired = less p.expired expired; spare = length (free ++ id ∷ []) }) in
    record {
      stand = stand-same places places' order' (omega arith) same (stand-without places order id k.stand);
      ranked = λ other q l g.
          let d : other ≢ id = λ (e : other ≡ id). none-some _ (sym empty ∙ sym (ap (place_of places') e) ∙ g) in
          ranked-without order id other d ∙ k.ranked other q l (sym (place-other places id other None low l d) ∙ g);
      are_free = λ other g.
          ⊎_elim
          (λ (x : is_among free other ≡ true).
          let w = k.are_free other x in
          let h = w.high in
          let d : other ≢ id = λ (e : other ≡ id). false≢true (sym not_free ∙ sym (ap (is_among free) e) ∙ x) in
          record { low = w.low; high = omega arith; free = place-other places id other None low w.low d ∙ w.free })
          (λ (x : is_among (id ∷ []) other ≡ true).
          let e : id ≡ other = ⊎_elim (λ (y : (id == other) ≡ true). eqb-true id other y) (λ (y : false ≡ true). absurd (false≢true y)) (or-case (id == other) false x) in
          record { low = omega arith; high = omega arith; free = ap (place_of places') (sym e) ∙ empty })
          (or-case (is_among free other) (is_among (id ∷ []) other) (sym (among-append free (id ∷ []) other) ∙ g));
      once = distinct-more free id k.once not_free;
      counted = omega arith;
      most = omega arith;
      sound = let room = k.sound.room in subst P (sym (taken-rows places free order expired id p t))
          (record {
            in_order = order-without (has_id id) rows k.sound.in_order;
            ids = ids-without (has_id id) rows k.sound.ids;
            differ = differ-without (has_id id) rows k.sound.differ;
            expired = taken-expired expired id rows (record { id = id; pending = p }) k.sound.expired first;
            room = omega arith;
          });
    }

same-table : (a b : List PendingRow) (n m k : ℕ) → a ≡ b → m ≡ k →
    ◌≡◌ {A = TableData} (record { rows = a; expired = n; spare = m }) (record { rows = b; expired = n; spare = k })
same-table a b n m k p q = cc

-- the rows after, and how many places are free
pub taken-view : (places : List (Option PendingData)) (free : List ℕ) (order : List Ranked) (expired id : ℕ) (p : PendingData) → Taking places free order expired id p →
    ◌≡◌ {A = TableData}
    (record { rows = rows_of (slice_set places (id - 1) None) (without_first (λ o. o.id == id) order); expired = less p.expired expired; spare = length (free ++ id ∷ []) })
    (without (record { rows = rows_of places order; expired = expired; spare = length free }) id)
taken-view places free order expired id p t =
    let r = taken-rows places free order expired id p t in
    let n : length (free ++ id ∷ []) ≡ length free + 1 = length-append free (id ∷ []) in
    let was : TableData = record { rows = rows_of places order; expired = expired; spare = length free } in
    same-table _ _ _ _ _ r n ∙ sym (ap (without_found was id) (taken-tells places free order expired id p t))

-- nothing has the id
pub missing-view : (t : TableData) (id : ℕ) → command_of t.rows id ≡ None → t ≡ without t id
missing-view t id h = sym (ap (without_found t id) h)

-- where the serial of the command stands
pub record Ranking (order : List Ranked) (serial rank : ℕ) : Type 0 where
  pub within : rank ≤ length order
  pub point : IsPartitionPoint (λ o. nat_le o.serial serial ≡ true) (λ o. nat_le o.serial serial ≡ false) order rank

pub rank-facts : (places : List (Option PendingData)) (free : List ℕ) (order : List Ranked) (expired id : ℕ) (p : PendingData) (serial rank : ℕ) → Taking places free order expired id p →
    serial ≡ p.serial → Ranking order serial rank →
    (1 ≤ rank) × (rank - 1 < length order) × (take (rank - 1) order ++ drop (suc (rank - 1)) order ≡ without_first (λ o. o.id == id) order)
rank-facts places free order expired id p serial rank t e r =
    let P : ℕ → Type 0 = λ s. IsPartitionPoint (λ o. nat_le o.serial s ≡ true) (λ o. nat_le o.serial s ≡ false) order rank in
    let q : serial ≡ (or_none (place_of places id)).serial = e ∙ sym (ap (λ x. (or_none x).serial) (taken-here places free order expired id p t)) in
    let k = rank-of places order id rank t.kept.stand t.kept.sound.in_order (taken-ranked places free order expired id p t) r.within (subst P q r.point) in
    let b = k.1.before in
    let w = k.1.within in
    let i : rank - 1 ≡ k.0 = omega arith in
    (omega arith, omega arith, ap (λ n. take n order ++ drop (suc n) order) i ∙ sym k.1.without)
