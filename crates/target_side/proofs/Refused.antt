-- Submits and enters that lay nothing.
use Rattle.std.proofs.Common.{◌≡◌, ℕ, ◌≤◌, ◌<◌, leb, cond, not, List, [], ◌∷◌, Option, Some, None, refl, sym, ap, ◌∙◌}
use Rattle.std.specs.Prelude.{MatchOption}
use Rattle.std.proofs.lemmas.Bool.{le-leb, lt-leb}
use Rattle.tcmu_types.specs.Data.{CommandData}
use Rattle.tcmu_types.specs.declared.answer.Submit.TheVariants as submit
use Rattle.tcmu_types.specs.declared.answer.Enter.{Enter}
use Rattle.tcmu_types.specs.declared.answer.Enter.TheVariants as enter
use Rattle.tcmu_model.specs.Device.{Delayed}
use Rattle.region_model.specs.Regions.{RegionState}
use Rattle.region_model.specs.Sides.{TargetState}
use Rattle.region_model.specs.TargetSteps.{blocks_free, blocks_wanted, enter_or_full, free_in, length_in, need_in, target_enter_answer, region_entered, region_submitted, target_entered, target_submitted}
use Rattle.target_side.specs.Submits.{Delays, Entered, Submitted}

busy_no : (s : ℕ) → submit.Busy ≡ submit.Queued s → ⊥
busy_no s h = cc

big_no : (have limit s : ℕ) → submit.TooBig have limit ≡ submit.Queued s → ⊥
big_no have limit s h = cc

ring_no : (need free s : ℕ) → submit.FullRing need free ≡ submit.Queued s → ⊥
ring_no need free s h = cc

blocks_no : (need free s : ℕ) → submit.FullBlocks need free ≡ submit.Queued s → ⊥
blocks_no need free s h = cc

delayed_no : (k s : ℕ) → submit.Delayed k ≡ submit.Queued s → ⊥
delayed_no k s h = cc

pub busy : (r : RegionState) (t : TargetState) (c : CommandData) → Submitted r t c submit.Busy r t
unfolding target_submitted region_submitted
busy r t c = record { id = 0; free = λ s q. absurd (busy_no s q); target = refl; region = refl }

pub too_big : (r : RegionState) (t : TargetState) (c : CommandData) (have limit : ℕ) → Submitted r t c (submit.TooBig have limit) r t
unfolding target_submitted region_submitted
too_big r t c have limit = record { id = 0; free = λ s q. absurd (big_no have limit s q); target = refl; region = refl }

pub full_ring : (r : RegionState) (t : TargetState) (c : CommandData) (need free : ℕ) → Submitted r t c (submit.FullRing need free) r t
unfolding target_submitted region_submitted
full_ring r t c need free = record { id = 0; free = λ s q. absurd (ring_no need free s q); target = refl; region = refl }

pub full_blocks : (r : RegionState) (t : TargetState) (c : CommandData) (need free : ℕ) → Submitted r t c (submit.FullBlocks need free) r t
unfolding target_submitted region_submitted
full_blocks r t c need free = record { id = 0; free = λ s q. absurd (blocks_no need free s q); target = refl; region = refl }

-- a command that waits changes nothing of the region
pub waits : (r : RegionState) (t t' : TargetState) (c : CommandData) (serial : ℕ) → Delays t c serial t' → Submitted r t c (submit.Delayed serial) r t'
unfolding region_submitted
waits r t t' c serial d = record { id = 0; free = λ s q. absurd (delayed_no serial s q); target = d.target 0; region = refl }

-- ==== enters

empty_no : (s : ℕ) → enter.Empty ≡ enter.Entered s → ⊥
empty_no s h = cc

enter_ring_no : (need free s : ℕ) → enter.FullRing need free ≡ enter.Entered s → ⊥
enter_ring_no need free s h = cc

enter_blocks_no : (need free s : ℕ) → enter.FullBlocks need free ≡ enter.Entered s → ⊥
enter_blocks_no need free s h = cc

pub empty : (r : RegionState) (t : TargetState) → Entered r t enter.Empty r t
unfolding target_entered region_entered
empty r t = record { id = 0; free = λ s q. absurd (empty_no s q); target = refl; region = refl }

pub enter_full_ring : (r : RegionState) (t : TargetState) (need free : ℕ) → Entered r t (enter.FullRing need free) r t
unfolding target_entered region_entered
enter_full_ring r t need free = record { id = 0; free = λ s q. absurd (enter_ring_no need free s q); target = refl; region = refl }

pub enter_full_blocks : (r : RegionState) (t : TargetState) (need free : ℕ) → Entered r t (enter.FullBlocks need free) r t
unfolding target_entered region_entered
enter_full_blocks r t need free = record { id = 0; free = λ s q. absurd (enter_blocks_no need free s q); target = refl; region = refl }

-- ==== what an enter answers

enter_answer : (t : TargetState) (ws : List Delayed) → t.delayed ≡ ws → target_enter_answer t ≡ enter_or_full t ws
unfolding target_enter_answer
enter_answer t ws e = ap (enter_or_full t) e

pub answers_empty : (t : TargetState) → t.delayed ≡ [] → enter.Empty ≡ target_enter_answer t
answers_empty t e = sym (enter_answer t [] e)

-- the answer by what the first command needs and what is free
abbrev by_needs : ℕ → ℕ → ℕ → ℕ → ℕ → Enter
by_needs need free blocks left serial =
    cond (not (leb need free)) (enter.FullRing need free) (cond (not (leb blocks left)) (enter.FullBlocks blocks left) (enter.Entered serial))

-- what the code has of them
pub record Needs (t : TargetState) (w : Delayed) (ws : List Delayed) (len need free : ℕ) : Type 0 where
  pub first : t.delayed ≡ w ∷ ws
  pub long : len ≡ length_in t w.command
  pub needs : need ≡ need_in t len
  pub left : free ≡ free_in t

answers_needs : (t : TargetState) (w : Delayed) (ws : List Delayed) (len need free : ℕ) → Needs t w ws len need free → target_enter_answer t ≡ by_needs need free (blocks_wanted t w.command) (blocks_free t) w.serial
answers_needs t w ws len need free n =
    enter_answer t (w ∷ ws) n.first
    ∙ (ap (λ k. by_needs k (free_in t) (blocks_wanted t w.command) (blocks_free t) w.serial) (sym (n.needs ∙ ap (need_in t) n.long))
    ∙ ap (λ k. by_needs need k (blocks_wanted t w.command) (blocks_free t) w.serial) (sym n.left))

pub answers_full_ring : (t : TargetState) (w : Delayed) (ws : List Delayed) (len need free : ℕ) → Needs t w ws len need free → free < need → enter.FullRing need free ≡ target_enter_answer t
answers_full_ring t w ws len need free n l =
    sym (answers_needs t w ws len need free n ∙ ap (λ b. cond (not b) (enter.FullRing need free) (cond (not (leb (blocks_wanted t w.command) (blocks_free t))) (enter.FullBlocks (blocks_wanted t w.command) (blocks_free t)) (enter.Entered w.serial))) (lt-leb need free l))

by_blocks : (t : TargetState) (w : Delayed) (ws : List Delayed) (len need free blocks left : ℕ) → Needs t w ws len need free → need ≤ free → blocks ≡ blocks_wanted t w.command → left ≡ blocks_free t →
    target_enter_answer t ≡ cond (not (leb blocks left)) (enter.FullBlocks blocks left) (enter.Entered w.serial)
by_blocks t w ws len need free blocks left n l b f =
    answers_needs t w ws len need free n
    ∙ (ap (λ x. cond (not x) (enter.FullRing need free) (cond (not (leb (blocks_wanted t w.command) (blocks_free t))) (enter.FullBlocks (blocks_wanted t w.command) (blocks_free t)) (enter.Entered w.serial))) (le-leb need free l)
    ∙ (ap (λ k. cond (not (leb k (blocks_free t))) (enter.FullBlocks k (blocks_free t)) (enter.Entered w.serial)) (sym b)
    ∙ ap (λ k. cond (not (leb blocks k)) (enter.FullBlocks blocks k) (enter.Entered w.serial)) (sym f)))

pub answers_full_blocks : (t : TargetState) (w : Delayed) (ws : List Delayed) (len need free blocks left : ℕ) → Needs t w ws len need free → need ≤ free → blocks ≡ blocks_wanted t w.command → left ≡ blocks_free t → left < blocks →
    enter.FullBlocks blocks left ≡ target_enter_answer t
answers_full_blocks t w ws len need free blocks left n l b f k =
    sym (by_blocks t w ws len need free blocks left n l b f ∙ ap (λ x. cond (not x) (enter.FullBlocks blocks left) (enter.Entered w.serial)) (lt-leb blocks left k))

pub answers_entered : (t : TargetState) (w : Delayed) (ws : List Delayed) (len need free blocks left : ℕ) → Needs t w ws len need free → need ≤ free → blocks ≡ blocks_wanted t w.command → left ≡ blocks_free t → blocks ≤ left →
    enter.Entered w.serial ≡ target_enter_answer t
answers_entered t w ws len need free blocks left n l b f k =
    sym (by_blocks t w ws len need free blocks left n l b f ∙ ap (λ x. cond (not x) (enter.FullBlocks blocks left) (enter.Entered w.serial)) (le-leb blocks left k))

-- the rest behind the first, taken out
pub popped : (o : Option Delayed) (old new : List Delayed) (w : Delayed) (ws : List Delayed) → MatchOption o ((old ≡ []) × (new ≡ [])) (λ x. old ≡ x ∷ new) → old ≡ w ∷ ws → new ≡ ws
popped None old new w ws h e = absurd (some_first (sym e ∙ h.0))
  where
    some_first : w ∷ ws ≡ [] → ⊥
    some_first q = cc
popped (Some x) old new w ws h e = same (sym h ∙ e)
  where
    same : x ∷ new ≡ w ∷ ws → new ≡ ws
    same q = cc
