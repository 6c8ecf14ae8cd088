-- Where a clean stops over any bytes: at a kept id, at a tail that is no item's end, and at an id that no command has.
use Rattle.std.proofs.Common.{◌≡◌, ℕ, Bool, true, false, cond, ◌||◌, ◌-◌, length, Option, Some, None, refl, sym, ap, ◌∙◌, eqb, ◌==◌, subst, ⊎_elim}
use Rattle.std.proofs.lemmas.Bool.{cases_Bool, eq-eqb, eqb-true, or_left, or_right}
use Rattle.region_model.specs.Regions.{RegionState}
use Rattle.region_model.specs.Sides.{TargetState}
use Rattle.region_model.specs.TargetCleans.{CleanAnswer, Logged, BadTail, Broken, tail_read, ends_at, tail_fits, all_cleaned, logged_or_broken, target_cleaned, target_clean_answer, region_cleaned, target_reset}
use Rattle.ring_laws.specs.Calls.{Unchanged, StopsAt, Emptied}
use Rattle.ring_laws.proofs.target_over_any_bytes.AnyCleared.{Fits, all_reach, all_stop}

unchanged : (r : RegionState) (t : TargetState) → target_cleaned r t ≡ t → Unchanged r t
unfolding region_cleaned
unchanged r t h =
    let z : eqb (length (target_cleaned r t).rows) (length t.rows) ≡ true = eq-eqb (length (target_cleaned r t).rows) (length t.rows) (ap (λ (k : TargetState). length k.rows) h) in
    record { target = h; region = rw z refl }

-- ==== an id that is kept

cleaned_from : RegionState → TargetState → Option ℕ → Bool → TargetState
cleaned_from r t o b = elim o as (λ x. TargetState) [ Some id ↦ t | None ↦ cond b (all_cleaned r (tail_read r) t t.items) t ]

answer_from : RegionState → TargetState → Option ℕ → Bool → CleanAnswer
answer_from r t o b = elim o as (λ x. CleanAnswer) [ Some id ↦ Broken id | None ↦ cond b (logged_or_broken (length t.log) (target_cleaned r t)) (BadTail (tail_read r)) ]

by_cleaned : (r : RegionState) (t : TargetState) → target_cleaned r t ≡ cleaned_from r t t.broken (tail_fits r t)
unfolding target_cleaned cleaned_from
by_cleaned r t = refl

by_answer : (r : RegionState) (t : TargetState) → target_clean_answer r t ≡ answer_from r t t.broken (tail_fits r t)
unfolding target_clean_answer answer_from
by_answer r t = refl

pub kept_id : (r : RegionState) (t : TargetState) (id : ℕ) → t.broken ≡ Some id → (target_clean_answer r t ≡ Broken id) × Unchanged r t
unfolding cleaned_from answer_from
kept_id r t id e =
    (by_answer r t ∙ ap (λ o. answer_from r t o (tail_fits r t)) e, unchanged r t (by_cleaned r t ∙ ap (λ o. cleaned_from r t o (tail_fits r t)) e))

-- ==== a tail that is no item's end

pub bad_tail : (r : RegionState) (t : TargetState) (n : ℕ) → target_clean_answer r t ≡ BadTail n → Unchanged r t
unfolding cleaned_from answer_from
bad_tail r t n h = go t.broken (tail_fits r t) (by_cleaned r t) (sym (by_answer r t) ∙ h)
  where
    never : (o : Option ℕ) (m : ℕ) → elim o as (λ x. CleanAnswer) [ Some id ↦ Broken id | None ↦ Logged m ] ≡ BadTail n → ⊥
    never None m k = cc
    never (Some id) m k = cc

    go : (o : Option ℕ) (b : Bool) → target_cleaned r t ≡ cleaned_from r t o b → answer_from r t o b ≡ BadTail n → Unchanged r t
    go (Some id) b c a = unchanged r t c
    go None false c a = unchanged r t c
    go None true c a = absurd (never (target_cleaned r t).broken (length (target_cleaned r t).log - length t.log) a)

-- ==== up to the tail, or to an id that no command has

fits_read : (r : RegionState) (t : TargetState) → tail_fits r t ≡ true → Fits (tail_read r) t t.items
fits_read r t h = flip (tail_read r) t.cleaned (ends_at t.settings.ring t.cleaned t.items (tail_read r)) h
  where
    flip : (a b : ℕ) (c : Bool) → ((a == b) || c) ≡ true → ((b == a) || c) ≡ true
    flip a b c k =
        ⊎_elim
        (λ (e : (a == b) ≡ true). or_left (b == a) c (eq-eqb b a (sym (eqb-true a b e))))
        (λ (e : (a == b) ≡ false). let m : c ≡ true = rw e at k in or_right (b == a) c m)
        (cases_Bool (a == b))

pub to_tail : (r : RegionState) (t : TargetState) (n : ℕ) → target_clean_answer r t ≡ Logged n → (target_cleaned r t).cleaned ≡ tail_read r
unfolding cleaned_from answer_from
to_tail r t n h = go t.broken (tail_fits r t) refl (by_cleaned r t) (sym (by_answer r t) ∙ h)
  where
    logged : (o : Option ℕ) (m : ℕ) → elim o as (λ x. CleanAnswer) [ Some id ↦ Broken id | None ↦ Logged m ] ≡ Logged n → o ≡ None
    logged None m k = refl
    logged (Some id) m k = absurd (cc)

    go : (o : Option ℕ) (b : Bool) → tail_fits r t ≡ b → target_cleaned r t ≡ cleaned_from r t o b → answer_from r t o b ≡ Logged n → (target_cleaned r t).cleaned ≡ tail_read r
    go (Some id) b f c a = absurd (cc)
    go None false f c a = absurd (cc)
    go None true f c a =
        let none : (target_cleaned r t).broken ≡ None = logged (target_cleaned r t).broken (length (target_cleaned r t).log - length t.log) a in
        ap (λ (k : TargetState). k.cleaned) c ∙ all_reach r (tail_read r) t t.items (fits_read r t f) (sym (ap (λ (k : TargetState). k.broken) c) ∙ none)

pub stops : (r : RegionState) (t : TargetState) (id : ℕ) → t.broken ≡ None → target_clean_answer r t ≡ Broken id → StopsAt r id (target_cleaned r t)
unfolding cleaned_from answer_from
stops r t id none h =
    go (tail_fits r t) (by_cleaned r t ∙ ap (λ o. cleaned_from r t o (tail_fits r t)) none) (sym (by_answer r t ∙ ap (λ o. answer_from r t o (tail_fits r t)) none) ∙ h)
  where
    told : (o : Option ℕ) (m : ℕ) → elim o as (λ x. CleanAnswer) [ Some i ↦ Broken i | None ↦ Logged m ] ≡ Broken id → o ≡ Some id
    told None m k = absurd (cc)
    told (Some i) m k = cc

    go : (b : Bool) → target_cleaned r t ≡ cleaned_from r t None b → answer_from r t None b ≡ Broken id → StopsAt r id (target_cleaned r t)
    go true c a =
        let kept : (target_cleaned r t).broken ≡ Some id = told (target_cleaned r t).broken (length (target_cleaned r t).log - length t.log) a in
        subst (StopsAt r id) (sym c) (all_stop r (tail_read r) t t.items id refl none (sym (ap (λ (k : TargetState). k.broken) c) ∙ kept))
    go false c a = absurd (cc)

-- ==== a reset

pub reset_empties : (r : RegionState) (t : TargetState) (level : ℕ) → Emptied (target_cleaned r t) level (target_reset r t level)
unfolding target_reset
reset_empties r t level =
    record {
      rows = refl;
      delayed = refl;
      items = refl;
      cleaned = refl;
      laid = refl;
      cleared = refl;
      broken = refl;
      settings = refl;
      now = refl;
      blocked = refl;
      accepted = refl;
      log = refl;
    }
