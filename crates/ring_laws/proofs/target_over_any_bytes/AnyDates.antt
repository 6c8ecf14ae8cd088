-- The target's clock and the deadlines of its commands, over any bytes.
use Rattle.std.proofs.Common.{◌≡◌, ℕ, ◌+◌, ◌≤◌, Bool, true, false, cond, eqb, List, [], ◌∷◌, Option, Some, None, sym, subst, arith, refl, ⊎_elim}
use Rattle.std.proofs.lemmas.Bool.{cases_Bool}
use Rattle.tcmu_types.specs.Data.{CommandData, SettingsData}
use Rattle.tcmu_types.specs.declared.answer.Submit.{Submit}
use Rattle.tcmu_types.specs.declared.answer.Submit.TheVariants as submit
use Rattle.tcmu_types.specs.declared.answer.Enter.{Enter}
use Rattle.tcmu_types.specs.declared.answer.Enter.TheVariants as enter
use Rattle.tcmu_types.specs.declared.answer.Tmr.{Tmr}
use Rattle.tcmu_types.specs.declared.answer.Tmr.TheVariants as tmr
use Rattle.tcmu_types.specs.declared.dump.ItemKind.{ItemKind}
use Rattle.tcmu_types.specs.declared.dump.ItemKind.TheVariants as kind
use Rattle.tcmu_types.specs.Lists.{first_of}
use Rattle.tcmu_types.proofs.Everies.{every-append, every-map, every-without_first}
use Rattle.tcmu_model.specs.Device.{Delayed}
use Rattle.tcmu_model.specs.Events.{later}
use Rattle.region_model.specs.declared.entry.Response.{Response}
use Rattle.region_model.specs.Regions.{RegionState}
use Rattle.region_model.specs.Pending.{NotAfter}
use Rattle.region_model.specs.Sides.{PendingRow, Recorded, TargetState}
use Rattle.region_model.specs.Represents.{has_id}
use Rattle.region_model.specs.TargetSteps.{deadline_in, expired_at, first_entered, is_due_at, opening_target, row_of, target_blocked, target_enter_answer, target_entered, target_laid, target_noted, target_submit_answer, target_submitted, target_ticked, target_tmr_answer}
use Rattle.region_model.specs.TargetCleans.{answered_by, one_cleaned, response_in, target_cleaned, target_reset}
use Rattle.ring_laws.specs.Calls.{TargetCall, Submits, Enters, Notes, Ticks, Blocks, Cleans, Resets, CallMade, Called, target_called}
use Rattle.ring_laws.specs.DatesKept.{DatesKept}
use Rattle.ring_laws.proofs.target_over_any_bytes.AnyCalls.{clean_keeps}

pub dates_opened : (s : SettingsData) → DatesKept (opening_target s)
unfolding opening_target
dates_opened s = record { moment = omega arith; due = tt }

-- ==== deadlines in order

same-not_after : (d : Option ℕ) → NotAfter d d
same-not_after None = tt
same-not_after (Some a) = omega arith

then-not_after : (a b c : Option ℕ) → NotAfter a b → NotAfter b c → NotAfter a c
then-not_after None None None p q = tt
then-not_after None None (Some c) p q = q
then-not_after None (Some b) c p q = absurd p
then-not_after (Some a) None c p q = absurd p
then-not_after (Some a) (Some b) None p q = absurd q
then-not_after (Some a) (Some b) (Some c) p q = omega arith

later-not_after : (timeout a b : ℕ) → a ≤ b → NotAfter (cond (eqb timeout 0) None (Some (a + timeout))) (cond (eqb timeout 0) None (Some (b + timeout)))
later-not_after timeout a b h =
    ⊎_elim
    (λ (z : eqb timeout 0 ≡ true). rw z tt)
    (λ (z : eqb timeout 0 ≡ false). rw z (omega arith))
    (cases_Bool (eqb timeout 0))

-- ==== each call

dates_laid : (t : TargetState) (s : ℕ) (c : CommandData) (id : ℕ) → DatesKept t → DatesKept (target_laid t s c id)
unfolding target_laid
dates_laid t s c id h =
    record { moment = h.moment; due = every-append (λ (e : PendingRow). NotAfter e.pending.deadline (deadline_in t)) t.rows (row_of t s c id ∷ []) h.due (same-not_after (deadline_in t), tt) }

dates_accepted : (t : TargetState) (n : ℕ) → DatesKept t → DatesKept (record t { accepted = n })
dates_accepted t n h = record { moment = h.moment; due = h.due }

dates_submit : (t : TargetState) (c : CommandData) (id : ℕ) (a : Submit) → DatesKept t → DatesKept (target_submitted t c id a)
unfolding target_submitted
dates_submit t c id (submit.Queued s) h = dates_laid (record t { accepted = t.accepted + 1 }) s c id (dates_accepted t (t.accepted + 1) h)
dates_submit t c id (submit.Delayed s) h = record { moment = h.moment; due = h.due }
dates_submit t c id submit.Busy h = h
dates_submit t c id (submit.TooBig have limit) h = h
dates_submit t c id (submit.FullRing need free) h = h
dates_submit t c id (submit.FullBlocks need free) h = h

dates_first : (t : TargetState) (id : ℕ) (ws : List Delayed) → DatesKept t → DatesKept (first_entered t id ws)
dates_first t id [] h = h
dates_first t id (w ∷ ws) h = let k = dates_laid t w.serial w.command id h in record { moment = k.moment; due = k.due }

dates_enter : (t : TargetState) (id : ℕ) (a : Enter) → DatesKept t → DatesKept (target_entered t id a)
unfolding target_entered
dates_enter t id (enter.Entered s) h = dates_first t id t.delayed h
dates_enter t id enter.Empty h = h
dates_enter t id (enter.FullRing need free) h = h
dates_enter t id (enter.FullBlocks need free) h = h

dates_note : (t : TargetState) (ss : List ℕ) (a : Tmr) → DatesKept t → DatesKept (target_noted t ss a)
unfolding target_noted
dates_note t ss tmr.Noted h = record { moment = h.moment; due = h.due }
dates_note t ss tmr.Off h = h
dates_note t ss tmr.Busy h = h
dates_note t ss (tmr.Unknown s) h = h
dates_note t ss (tmr.FullRing need free) h = h

deadline_stays : (now : ℕ) (e : PendingRow) → (expired_at now e).pending.deadline ≡ e.pending.deadline
deadline_stays now e = ⊎_elim (λ (z : is_due_at now e ≡ true). rw z refl) (λ (z : is_due_at now e ≡ false). rw z refl) (cases_Bool (is_due_at now e))

dates_tick : (t : TargetState) (n : ℕ) → DatesKept t → DatesKept (target_ticked t n)
unfolding target_ticked
dates_tick t n h =
    let now : ℕ = later t.now n in
    let late : t.now ≤ now = let k = h.moment in omega arith in
    let grows : NotAfter (deadline_in t) (deadline_in (target_ticked t n)) = later-not_after t.settings.timeout t.now now late in
    record {
      moment = omega arith;
      due = every-map (expired_at now) (λ (e : PendingRow). NotAfter e.pending.deadline (deadline_in t)) (λ (e : PendingRow). NotAfter e.pending.deadline (deadline_in (target_ticked t n))) t.rows
          (λ e k. subst (λ (d : Option ℕ). NotAfter d (deadline_in (target_ticked t n))) (sym (deadline_stays now e)) (then-not_after e.pending.deadline (deadline_in t) (deadline_in (target_ticked t n)) k grows)) h.due;
    }

dates_block : (t : TargetState) (b : Bool) → DatesKept t → DatesKept (target_blocked t b)
unfolding target_blocked
dates_block t b h = record { moment = h.moment; due = h.due }

dates_by : (r : RegionState) (a : Response) (t : TargetState) (x : Recorded) (xs : List Recorded) (o : Option PendingRow) → DatesKept t → DatesKept (answered_by r a t x xs o)
dates_by r a t x xs None h = record { moment = h.moment; due = h.due }
dates_by r a t x xs (Some e) h =
    record { moment = h.moment; due = every-without_first (has_id a.id) (λ (e : PendingRow). NotAfter e.pending.deadline (deadline_in t)) t.rows h.due }

dates_one : (r : RegionState) (t : TargetState) (x : Recorded) (xs : List Recorded) (k : ItemKind) → DatesKept t → DatesKept (one_cleaned r t x xs k)
dates_one r t x xs kind.Pad h = record { moment = h.moment; due = h.due }
dates_one r t x xs kind.Tmr h = record { moment = h.moment; due = h.due }
dates_one r t x xs kind.Cmd h = let a : Response = response_in r t in dates_by r a t x xs (first_of (has_id a.id) t.rows) h

dates_clean : (r : RegionState) (t : TargetState) → DatesKept t → DatesKept (target_cleaned r t)
dates_clean r t h = clean_keeps DatesKept r t (λ k x ys d. dates_one r k x ys x.kind d) h

dates_reset : (r : RegionState) (t : TargetState) (level : ℕ) → DatesKept t → DatesKept (target_reset r t level)
unfolding target_reset
dates_reset r t level h = let k = dates_clean r t h in record { moment = k.moment; due = tt }

-- ==== any call

pub dates_called : (r : RegionState) (t : TargetState) (call : TargetCall) → DatesKept t → DatesKept (target_called r t call)
dates_called r t (Submits c id) h = dates_submit t c id (target_submit_answer t c) h
dates_called r t (Enters id) h = dates_enter t id (target_enter_answer t) h
dates_called r t (Notes type_ ss) h = dates_note t ss (target_tmr_answer t ss) h
dates_called r t (Ticks n) h = dates_tick t n h
dates_called r t (Blocks b) h = dates_block t b h
dates_called r t Cleans h = dates_clean r t h
dates_called r t (Resets level) h = dates_reset r t level h

dates_along : (t : TargetState) (ms : List CallMade) (after : TargetState) → DatesKept t → Called t ms after → DatesKept after
dates_along t [] after h c = subst DatesKept (sym c) h
dates_along t (m ∷ ms) after h c = dates_along (target_called m.region t m.call) ms after (dates_called m.region t m.call h) c.1

pub dates_of_opening : (s : SettingsData) (ms : List CallMade) (t : TargetState) → Called (opening_target s) ms t → DatesKept t
dates_of_opening s ms t c = dates_along (opening_target s) ms t (dates_opened s) c
