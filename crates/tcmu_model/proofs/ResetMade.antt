-- A reset that is made, and one that is refused.
use Rattle.std.proofs.Common.{◌≡◌, ℕ, ◌+◌, ◌&&◌, Bool, true, false, cond, length, refl, sym, ap, ◌∙◌, subst, ⊎_elim, eqb}
use Rattle.std.proofs.lemmas.Bool.{cases_Bool, eqb-true, eq-eqb}
use Rattle.tcmu_types.specs.declared.answer.Reset.TheVariants as reset
use Rattle.tcmu_model.specs.Device.{DeviceState}
use Rattle.tcmu_model.specs.Events.{after_clean, after_reset, clean_answer, count_in_hand, emptied, reset_answer, reset_completions}

-- what the answer says
pub record ResetMade (d : DeviceState) (level n : ℕ) : Type 0 where
  pub blocked : d.blocked ≡ true
  pub none : count_in_hand d ≡ 0
  pub number : n ≡ clean_answer d + length (reset_completions (after_clean d) level)
  pub after : after_reset d level ≡ emptied (after_clean d) level

said : (b : Bool) (c m n : ℕ) → cond b (cond (eqb c 0) (reset.Reset m) (reset.HandlersOut c)) reset.NotBlocked ≡ reset.Reset n → (b ≡ true) × (c ≡ 0) × (n ≡ m)
said true c m n h =
    ⊎_elim
    (λ (k : eqb c 0 ≡ true). let e : reset.Reset m ≡ reset.Reset n = rw k at h in let q : n ≡ m = cc in (refl, eqb-true c 0 k, q))
    (λ (k : eqb c 0 ≡ false). let e : reset.HandlersOut c ≡ reset.Reset n = rw k at h in absurd (cc))
    (cases_Bool (eqb c 0))
said false c m n h = absurd (cc)

pub reset_made : (d : DeviceState) (level n : ℕ) → reset_answer d level ≡ reset.Reset n → ResetMade d level n
unfolding reset_answer after_reset
reset_made d level n h =
    let s = said d.blocked (count_in_hand d) (clean_answer d + length (reset_completions (after_clean d) level)) n h in
    let e : DeviceState = emptied (after_clean d) level in
    record {
      blocked = s.0;
      none = s.1;
      number = s.2;
      after = ap (λ b. cond (b && eqb (count_in_hand d) 0) e d) s.0 ∙ ap (λ b. cond (true && b) e d) (eq-eqb (count_in_hand d) 0 s.1);
    }

refused : (b : Bool) (c m : ℕ) (x y : DeviceState) → (cond b (cond (eqb c 0) (reset.Reset m) (reset.HandlersOut c)) reset.NotBlocked ≡ reset.Reset m → ⊥) → cond (b && eqb c 0) x y ≡ y
refused true c m x y h =
    ⊎_elim
    (λ (k : eqb c 0 ≡ true). absurd (h (rw k refl)))
    (λ (k : eqb c 0 ≡ false). rw k refl)
    (cases_Bool (eqb c 0))
refused false c m x y h = refl

-- where it is not blocked, or jobs are in hand, nothing changes
pub refused_reset : (d : DeviceState) (level : ℕ) → ((n : ℕ) → reset_answer d level ≡ reset.Reset n → ⊥) → after_reset d level ≡ d
unfolding reset_answer after_reset
refused_reset d level h =
    let m : ℕ = clean_answer d + length (reset_completions (after_clean d) level) in
    refused d.blocked (count_in_hand d) m (emptied (after_clean d) level) d (h m)

pub not_blocked_same : (d : DeviceState) (level : ℕ) → reset_answer d level ≡ reset.NotBlocked → after_reset d level ≡ d
not_blocked_same d level h = refused_reset d level (λ n k. let z : reset.NotBlocked ≡ reset.Reset n = sym h ∙ k in absurd (cc))

pub handlers_out_same : (d : DeviceState) (level m : ℕ) → reset_answer d level ≡ reset.HandlersOut m → after_reset d level ≡ d
handlers_out_same d level m h = refused_reset d level (λ n k. let z : reset.HandlersOut m ≡ reset.Reset n = sym h ∙ k in absurd (cc))

-- what holds behind a reset that is made holds of the device that is emptied
pub by_reset : (P : DeviceState → Type 0) (d : DeviceState) (level n : ℕ) → reset_answer d level ≡ reset.Reset n → P (emptied (after_clean d) level) → P (after_reset d level)
by_reset P d level n h p = let k = reset_made d level n h in subst P (sym k.after) p
