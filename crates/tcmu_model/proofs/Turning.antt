-- A change of the first command of a serial in a state is a change of each command that passes: serials differ.
use Rattle.std.proofs.Common.{◌≡◌, ℕ, ◌<◌, Bool, true, false, not, List, [], ◌∷◌, map, ⊎_elim, refl, sym, ap, eqb, arith, subst, if◌then◌else◌}
use Rattle.std.specs.List.{filter}
use Rattle.std.proofs.lemmas.Bool.{cases_Bool, ne_eqb, eq-eqb, eqb-true, eqb-false}
use Rattle.tcmu_model.specs.declared.state.CommandState.{CommandState}
use Rattle.tcmu_model.specs.declared.state.CommandState.TheVariants.{Waiting, Out, Handled, Parked, Placed, Lost}
use Rattle.tcmu_model.specs.States.{same_state}
use Rattle.tcmu_types.specs.Lists.{without_first, with_first, Every}
use Rattle.tcmu_model.specs.Device.{Unfinished, is_at}
use Rattle.tcmu_types.specs.Numbers.{Rise}
use Rattle.tcmu_model.proofs.CommandStates.{serial_at}
use Rattle.tcmu_types.proofs.Everies.{every-weaker, map_same, filter_all}

-- what passes changes
abbrev pub turning : (Unfinished → Bool) → (Unfinished → Unfinished) → Unfinished → Unfinished
turning p g u = if p u then g u else u

above_at : (s : ℕ) (t : CommandState) (us : List Unfinished) (high : ℕ) → Rise s (map (λ u. u.serial) us) high → Every (λ u. is_at s t u ≡ false) us
above_at s t [] high h = tt
above_at s t (u ∷ us) high h = go s u.serial us h.0 h.1 (no s u.serial h.0)
  where
    no : (s k : ℕ) → s < k → eqb k s ≡ false
    no s k l = ne_eqb k s (λ q. never s k l q)
      where
        never : (s k : ℕ) → s < k → k ≡ s → ⊥
        never s k l q = omega arith

    go : (s k : ℕ) (us : List Unfinished) → s < k → Rise k (map (λ u. u.serial) us) high → eqb u.serial s ≡ false → Every (λ u. is_at s t u ≡ false) (u ∷ us)
    go s k us l r e = (rw e refl, rest us k l r)
      where
        rest : (us : List Unfinished) (k : ℕ) → s < k → Rise k (map (λ u. u.serial) us) high → Every (λ u. is_at s t u ≡ false) us
        rest [] k l r = tt
        rest (v ∷ us) k l r =
            let e : eqb v.serial s ≡ false = no s v.serial (omega (arith, l, r.0)) in
            (rw e refl, rest us v.serial (omega (arith, l, r.0)) r.1)

pub turned_map : (s : ℕ) (t : CommandState) (g : Unfinished → Unfinished) (low : ℕ) (us : List Unfinished) (high : ℕ) → Rise low (map (λ u. u.serial) us) high → with_first (is_at s t) g us ≡ map (turning (is_at s t) g) us
turned_map s t g low [] high h = refl
turned_map s t g low (u ∷ us) high h =
    ⊎_elim
    (λ (e : is_at s t u ≡ true).
    let k : u.serial ≡ s = serial_at s t u e in
    let a : Every (λ v. is_at s t v ≡ false) us = above_at s t us high (subst (λ (x : ℕ). Rise x (map (λ v. v.serial) us) high) k h.1) in
    rw e (ap (λ vs. g u ∷ vs) (sym (map_same (turning (is_at s t) g) us (every-weaker (λ v. is_at s t v ≡ false) (λ v. turning (is_at s t) g v ≡ v) us (λ v z. rw z refl) a)))))
    (λ (e : is_at s t u ≡ false). rw e (ap (λ vs. u ∷ vs) (turned_map s t g u.serial us high h.1)))
    (cases_Bool (is_at s t u))

-- and taking it out leaves those of other serials, where the command of this serial is in that state
pub taken_filter : (s : ℕ) (t : CommandState) (low : ℕ) (us : List Unfinished) (high : ℕ) → Rise low (map (λ u. u.serial) us) high → Every (λ u. u.serial ≡ s → u.state ≡ t) us → without_first (is_at s t) us ≡ filter (λ u. not (eqb s u.serial)) us
taken_filter s t low [] high h a = refl
taken_filter s t low (u ∷ us) high h a =
    ⊎_elim
    (λ (e : eqb s u.serial ≡ true).
    let k : s ≡ u.serial = eqb-true s u.serial e in
    let st : u.state ≡ t = a.0 (sym k) in
    let at : is_at s t u ≡ true = rw (eq-eqb u.serial s (sym k), st) (same t) in
    let n : Every (λ v. eqb s v.serial ≡ false) us = others us u.serial h.1 k in
    rw (e, at) (sym (filter_all (λ v. not (eqb s v.serial)) us (every-weaker (λ v. eqb s v.serial ≡ false) (λ v. not (eqb s v.serial) ≡ true) us (λ v z. rw z refl) n))))
    (λ (e : eqb s u.serial ≡ false).
    let no : eqb u.serial s ≡ false = ne_eqb u.serial s (λ q. eqb-false s u.serial e (sym q)) in
    let at : is_at s t u ≡ false = rw no refl in
    rw (e, at) (ap (λ vs. u ∷ vs) (taken_filter s t u.serial us high h.1 a.1)))
    (cases_Bool (eqb s u.serial))
  where
    same : (t : CommandState) → same_state t t ≡ true
    same Waiting = refl
    same Out = refl
    same Handled = refl
    same Parked = refl
    same Placed = refl
    same Lost = refl

    others : (us : List Unfinished) (k : ℕ) → Rise k (map (λ u. u.serial) us) high → s ≡ k → Every (λ v. eqb s v.serial ≡ false) us
    others [] k r e = tt
    others (v ∷ us) k r e =
        (ne_eqb s v.serial (λ q. never s k v.serial r.0 e q), over us v.serial r.1 (omega (arith, r.0, e)))
      where
        never : (s k x : ℕ) → k < x → s ≡ k → s ≡ x → ⊥
        never s k x l e q = omega arith

        over : (us : List Unfinished) (k : ℕ) → Rise k (map (λ u. u.serial) us) high → s < k → Every (λ v. eqb s v.serial ≡ false) us
        over [] k r l = tt
        over (v ∷ us) k r l = (ne_eqb s v.serial (λ q. apart s k v.serial r.0 l q), over us v.serial r.1 (omega (arith, r.0, l)))
          where
            apart : (s k x : ℕ) → k < x → s < k → s ≡ x → ⊥
            apart s k x l m q = omega arith
