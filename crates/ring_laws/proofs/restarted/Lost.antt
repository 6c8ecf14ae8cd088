-- Commands that turn Lost at a restart: none is in hand any more, and what stands in blocks and entries stays.
use Rattle.std.proofs.Common.{◌≡◌, ℕ, ◌||◌, Bool, true, false, cond, List, [], ◌∷◌, ◌++◌, map, filter, refl, ap, ◌∙◌, Option, Some, None, slice_get, ⊎_elim}
use Rattle.std.proofs.lemmas.Bool.{cases_Bool, eqb-true}
use Rattle.tcmu_types.specs.Data.{ReplyData}
use Rattle.tcmu_model.specs.declared.state.CommandState.{CommandState}
use Rattle.tcmu_model.specs.declared.state.CommandState.TheVariants.{Waiting, Out, Handled, Parked, Placed, Lost}
use Rattle.tcmu_types.specs.Lists.{first_of, Every}
use Rattle.tcmu_model.specs.Device.{Unfinished, DeviceState, has_serial, has_state}
use Rattle.tcmu_model.specs.Events.{is_in_hand, is_losing, lose, answered}
use Rattle.tcmu_types.specs.Numbers.{is_among}
use Rattle.tcmu_model.specs.Sound.{IsSound}
use Rattle.tcmu_model.specs.BlockLists.{Taken, list_of, held_by}
use Rattle.tcmu_types.proofs.Everies.{every-weaker, every_at}
use Rattle.tcmu_types.proofs.Rises.{every-among}
use Rattle.tcmu_model.proofs.Standing.{answered_rows}
use Rattle.region_model.specs.Picture.{payload_of, with_answer, with_reply}

-- ==== one command

-- what does not look at a command's state and reply stays as it turns Lost
pub lost_blind : {X : Type 0} (f : Unfinished → X) (answers : List ℕ) (u : Unfinished) → ((t : CommandState) (o : Option ReplyData) → f (record u { state = t; reply = o }) ≡ f u) → f (lose answers u) ≡ f u
lost_blind f answers u h =
    ⊎_elim
    (λ (k : is_losing answers u ≡ true). rw k (h Lost (cond (has_state Placed u) u.reply None)))
    (λ (k : is_losing answers u ≡ false). rw k refl)
    (cases_Bool (is_losing answers u))

-- no command stays in hand
pub lost_hand : (answers : List ℕ) (u : Unfinished) → is_in_hand (lose answers u) ≡ false
lost_hand answers u = by_state u.state refl
  where
    by_state : (t : CommandState) → u.state ≡ t → is_in_hand (lose answers u) ≡ false
    by_state Waiting e = rw e refl
    by_state Out e = rw e refl
    by_state Handled e = rw e refl
    by_state Parked e = rw e refl
    by_state Placed e =
        ⊎_elim
        (λ (k : is_among answers u.serial ≡ true). rw (e, k) refl)
        (λ (k : is_among answers u.serial ≡ false). rw (e, k) refl)
        (cases_Bool (is_among answers u.serial))
    by_state Lost e = rw e refl

-- what stands in its blocks stays
pub lost_payload : (answers : List ℕ) (u : Unfinished) → payload_of (lose answers u) ≡ payload_of u
lost_payload answers u = by_state u.state refl u.reply refl
  where
    by_state : (t : CommandState) → u.state ≡ t → (o : Option ReplyData) → u.reply ≡ o → payload_of (lose answers u) ≡ payload_of u
    by_state Waiting e o g = rw e refl
    by_state Out e None g = rw (e, g) refl
    by_state Out e (Some reply) g = rw (e, g) refl
    by_state Handled e None g = rw (e, g) refl
    by_state Handled e (Some reply) g = rw (e, g) refl
    by_state Parked e None g = rw (e, g) refl
    by_state Parked e (Some reply) g = rw (e, g) refl
    by_state Placed e None g =
        ⊎_elim
        (λ (k : is_among answers u.serial ≡ true). rw (e, k) refl)
        (λ (k : is_among answers u.serial ≡ false). rw (e, k, g) refl)
        (cases_Bool (is_among answers u.serial))
    by_state Placed e (Some reply) g =
        ⊎_elim
        (λ (k : is_among answers u.serial ≡ true). rw (e, k) refl)
        (λ (k : is_among answers u.serial ≡ false). rw (e, k, g) refl)
        (cases_Bool (is_among answers u.serial))
    by_state Lost e o g = rw e refl

-- an answer that stands in an entry stays with its command
lost_reply : (answers : List ℕ) (u : Unfinished) → is_in_hand u ≡ false → (lose answers u).reply ≡ u.reply
lost_reply answers u h = by_state u.state refl
  where
    by_state : (t : CommandState) → u.state ≡ t → (lose answers u).reply ≡ u.reply
    by_state Waiting e = rw e refl
    by_state Out e = let z : true ≡ false = rw e at h in absurd (cc)
    by_state Handled e = let z : true ≡ false = rw e at h in absurd (cc)
    by_state Parked e = let z : true ≡ false = rw e at h in absurd (cc)
    by_state Placed e =
        ⊎_elim
        (λ (k : is_among answers u.serial ≡ true). rw (e, k) refl)
        (λ (k : is_among answers u.serial ≡ false). rw (e, k) refl)
        (cases_Bool (is_among answers u.serial))
    by_state Lost e = rw e refl

-- ==== all commands

pub held_lost : (lists : List Taken) (answers : List ℕ) (us : List Unfinished) → held_by lists (map (lose answers) us) ≡ held_by lists us
held_lost lists answers [] = refl
held_lost lists answers (u ∷ us) =
    ap (λ s. list_of lists s ++ held_by lists (map (lose answers) us)) (lost_blind (λ v. v.serial) answers u (λ t o. refl))
    ∙ ap (λ bs. list_of lists u.serial ++ bs) (held_lost lists answers us)

pub none_in_hand : (answers : List ℕ) (us : List Unfinished) (p : Unfinished → Bool) → ((u : Unfinished) → is_in_hand u ≡ false → p u ≡ false) → filter p (map (lose answers) us) ≡ []
none_in_hand answers [] p h = refl
none_in_hand answers (u ∷ us) p h = let k : p (lose answers u) ≡ false = h (lose answers u) (lost_hand answers u) in rw k (none_in_hand answers us p h)

-- the answers in the ring are of commands that are not in hand
placed_rest : (d : DeviceState) → IsSound d → Every (λ (u : Unfinished). is_among d.placed u.serial ≡ true → is_in_hand u ≡ false) d.unfinished
placed_rest d sound =
    every-weaker (λ u. is_among d.placed u.serial ≡ true → (u.state ≡ cond (d.attached || is_among (answered d) u.serial) Placed Lost) × _) (λ (u : Unfinished). is_among d.placed u.serial ≡ true → is_in_hand u ≡ false) d.unfinished
    (λ u f m. by_state u (d.attached || is_among (answered d) u.serial) (f m).0) (answered_rows d sound)
  where
    by_state : (u : Unfinished) (b : Bool) → u.state ≡ cond b Placed Lost → is_in_hand u ≡ false
    by_state u true e = rw e refl
    by_state u false e = rw e refl

-- an answer is found with its command as before
answer_lost : (answers : List ℕ) (q : ℕ) (us : List Unfinished) (rl : Bool) (id : ℕ) (request : List ℕ) → Every (λ (u : Unfinished). u.serial ≡ q → is_in_hand u ≡ false) us →
    with_answer rl id request (first_of (has_serial q) (map (lose answers) us)) ≡ with_answer rl id request (first_of (has_serial q) us)
answer_lost answers q [] rl id request e = refl
answer_lost answers q (u ∷ us) rl id request e =
    let same : has_serial q (lose answers u) ≡ has_serial q u = lost_blind (has_serial q) answers u (λ t o. refl) in
    ⊎_elim
    (λ (k : has_serial q u ≡ true).
    let m : has_serial q (lose answers u) ≡ true = same ∙ k in
    let r : (lose answers u).reply ≡ u.reply = lost_reply answers u (e.0 (eqb-true u.serial q k)) in
    rw (m, k) (kept r))
    (λ (k : has_serial q u ≡ false). let m : has_serial q (lose answers u) ≡ false = same ∙ k in rw (m, k) (answer_lost answers q us rl id request e.1))
    (cases_Bool (has_serial q u))
  where
    kept : (lose answers u).reply ≡ u.reply → with_answer rl id request (Some (lose answers u)) ≡ with_answer rl id request (Some u)
    kept r = ap (λ (cdb : List ℕ). with_reply rl id request cdb (lose answers u).reply) (lost_blind (λ v. v.command.cdb) answers u (λ t o. refl)) ∙ ap (with_reply rl id request u.command.cdb) r

pub answers_lost : (d : DeviceState) (k q : ℕ) → IsSound d → slice_get d.placed k ≡ Some q → (rl : Bool) (id : ℕ) (request : List ℕ) →
    with_answer rl id request (first_of (has_serial q) (map (lose (answered d)) d.unfinished)) ≡ with_answer rl id request (first_of (has_serial q) d.unfinished)
answers_lost d k q sound g rl id request =
    let m : is_among d.placed q ≡ true = every_at (λ s. is_among d.placed s ≡ true) d.placed k q (every-among d.placed) g in
    answer_lost (answered d) q d.unfinished rl id request
    (every-weaker (λ (u : Unfinished). is_among d.placed u.serial ≡ true → is_in_hand u ≡ false) (λ (u : Unfinished). u.serial ≡ q → is_in_hand u ≡ false) d.unfinished
    (λ u f e. f (ap (is_among d.placed) e ∙ m)) (placed_rest d sound))
