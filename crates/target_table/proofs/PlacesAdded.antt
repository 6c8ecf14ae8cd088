-- What adding a place does to the fields and to the rows.
use Rattle.std.proofs.Common.{◌≡◌, ℕ, ◌+◌, ◌-◌, ◌≤◌, ◌<◌, ⊎_elim, true, false, ◌==◌, List, [], ◌∷◌, ◌++◌, length, length-append, slice_index_or, Option, Some, None, refl, sym, ap, subst, ◌∙◌, arith, suc, zero}
use Rattle.std.proofs.lemmas.List.{get_or_append_left}
use Rattle.std.proofs.lemmas.Bool.{cases_lt, eqb-true, false≢true}
use Rattle.std.proofs.lemmas.Option.{none-some}
use Rattle.region_model.specs.Pending.{PendingData}
use Rattle.target_table.specs.declared.table.Ranked.{Ranked}
use Rattle.target_table.specs.Rows.{IsTable}
use Rattle.region_model.specs.Sides.{PendingRow}
use Rattle.target_table.specs.Kept.{place_of, rows_of, AllStand, IsKept}
use Rattle.target_table.proofs.Places.{there, length-rows}
use Rattle.target_table.proofs.Added.{Same, or-case, rows-same, stand-same}

past-none : (places : List (Option PendingData)) (i : ℕ) → length places ≤ i → slice_index_or (places ++ None ∷ []) i None ≡ None
past-none [] zero h = refl
past-none [] (suc i) h = refl
past-none (p ∷ ps) zero h = absurd (omega arith)
past-none (p ∷ ps) (suc i) h = past-none ps i (omega arith)

new-same : (places : List (Option PendingData)) (order : List Ranked) → AllStand places order → Same places (places ++ None ∷ []) order
unfolding Same
new-same places order s other t =
    let w = there places order other s t in
    let l = w.low in
    let h = w.high in
    get_or_append_left places (None ∷ []) None (other - 1) (omega arith)

pub new-rows : (places : List (Option PendingData)) (order : List Ranked) → AllStand places order → rows_of (places ++ None ∷ []) order ≡ rows_of places order
new-rows places order s = rows-same places (places ++ None ∷ []) order (new-same places order s)

new-empty : (places : List (Option PendingData)) (id : ℕ) (p : PendingData) → 1 ≤ id → place_of (places ++ None ∷ []) id ≡ Some p → place_of places id ≡ Some p
new-empty places id p l h =
    ⊎_elim
    (λ (w : id - 1 < length places). sym (get_or_append_left places (None ∷ []) None (id - 1) w) ∙ h)
    (λ (w : length places ≤ id - 1). absurd (none-some _ (sym (past-none places (id - 1) w) ∙ h)))
    (cases_lt (id - 1) (length places))

pub new-kept : (places : List (Option PendingData)) (order : List Ranked) (expired : ℕ) → IsKept places [] order expired → length places < 65535 →
    IsKept (places ++ None ∷ []) ((length places + 1) ∷ []) order expired
new-kept places order expired k l =
    let n : length (places ++ None ∷ []) ≡ length places + 1 = length-append places (None ∷ []) in
    let c = k.counted in
    let lr = length-rows places order in
    let P : List PendingRow → Type 0 = λ xs. IsTable (record { rows = xs; expired = expired; spare = 1 }) in
    record {
      stand = stand-same places (places ++ None ∷ []) order (omega arith) (new-same places order k.stand) k.stand;
      ranked = λ id p low h. k.ranked id p low (new-empty places id p low h);
      are_free = λ id h.
          let e : length places + 1 ≡ id = ⊎_elim (λ (y : (length places + 1 == id) ≡ true). eqb-true (length places + 1) id y) (λ (y : false ≡ true). absurd (false≢true y)) (or-case (length places + 1 == id) false h) in
          record { low = omega arith; high = omega arith; free = past-none places (id - 1) (omega arith) };
      once = (refl, tt);
      counted = omega arith;
      most = omega arith;
      sound = subst P (sym (new-rows places order k.stand))
          (record { in_order = k.sound.in_order; ids = k.sound.ids; differ = k.sound.differ; expired = k.sound.expired; room = omega arith });
    }

pub nothing : (ns : List ℕ) → length ns ≡ 0 → ns ≡ []
nothing [] h = refl
nothing (n ∷ ns) h = absurd (omega arith)

pub record Placing (places : List (Option PendingData)) (free : List ℕ) (order : List Ranked) (expired : ℕ) (places' : List (Option PendingData)) (free' : List ℕ) (order' : List Ranked) : Type 0 where
  pub kept : IsKept places free order expired
  pub none_free : length free ≡ 0
  pub few : length places < 65535
  pub more_places : places' ≡ places ++ None ∷ []
  pub more_free : free' ≡ free ++ (length places + 1) ∷ []
  pub same_order : order' ≡ order

pub placed-kept : (places : List (Option PendingData)) (free : List ℕ) (order : List Ranked) (expired : ℕ) (places' : List (Option PendingData)) (free' : List ℕ) (order' : List Ranked) →
    Placing places free order expired places' free' order' → IsKept places' free' order' expired
placed-kept places free order expired places' free' order' p =
    let z = nothing free p.none_free in
    let f : free' ≡ (length places + 1) ∷ [] = p.more_free ∙ ap (λ xs. xs ++ (length places + 1) ∷ []) z in
    let K : List ℕ → Type 0 = λ xs. IsKept places xs order expired in
    rw (p.more_places, f, p.same_order) (new-kept places order expired (subst K z p.kept) p.few)

pub placed-rows : (places : List (Option PendingData)) (free : List ℕ) (order : List Ranked) (expired : ℕ) (places' : List (Option PendingData)) (free' : List ℕ) (order' : List Ranked) →
    Placing places free order expired places' free' order' → rows_of places' order' ≡ rows_of places order
placed-rows places free order expired places' free' order' p =
    rw (p.more_places, p.same_order) (new-rows places order p.kept.stand)
