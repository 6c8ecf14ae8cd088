-- What each call puts behind the log, over any bytes.
use Rattle.std.proofs.Common.{◌≡◌, inl, inr, ℕ, Bool, true, false, not, cond, eqb, List, [], ◌∷◌, ◌++◌, map, None, refl, sym, ap, ◌∙◌, append_assoc, append-nil}
use Rattle.std.specs.List.{filter}
use Rattle.tcmu_types.specs.Data.{CommandData, DoneData}
use Rattle.tcmu_types.specs.declared.answer.Submit.{Submit}
use Rattle.tcmu_types.specs.declared.answer.Submit.TheVariants as submit
use Rattle.tcmu_types.specs.declared.answer.Enter.{Enter}
use Rattle.tcmu_types.specs.declared.answer.Enter.TheVariants as enter
use Rattle.tcmu_types.specs.declared.answer.Tmr.{Tmr}
use Rattle.tcmu_types.specs.declared.answer.Tmr.TheVariants as tmr
use Rattle.tcmu_model.specs.Device.{Delayed}
use Rattle.tcmu_model.specs.Events.{later, has_left, departure, closing, check_condition, reset_completion}
use Rattle.region_model.specs.Regions.{RegionState}
use Rattle.tcmu_types.specs.Lists.{Every}
use Rattle.region_model.specs.Pending.{PendingData}
use Rattle.region_model.specs.Sides.{PendingRow, TargetState}
use Rattle.region_model.specs.TargetSteps.{closed, checked, is_due_at, target_laid, target_submit_answer, target_submitted, target_enter_answer, first_entered, target_entered, target_tmr_answer, target_noted, target_ticked, target_blocked}
use Rattle.region_model.specs.TargetCleans.{target_cleaned, reset_log, reset_logs, target_reset}
use Rattle.tcmu_types.proofs.Everies.{every-append, every-weaker}
use Rattle.ring_laws.specs.Calls.{TargetCall, Submits, Enters, Notes, Ticks, Blocks, Cleans, Resets, target_called, TargetSound, CompletedBy, CleanLogs, HasOwnBytes, CallLogs}
use Rattle.ring_laws.proofs.target_over_any_bytes.AnyCleans.{clean_logs}

none_more : (r : RegionState) (t after : TargetState) → after.log ≡ t.log → CallLogs r t after
none_more r t after h = record { more = []; log = h ∙ sym (append-nil t.log); each = tt }

no_bytes : {X : Type 0} (r : RegionState) (rows : List PendingRow) (f : X → DoneData) (xs : List X) → ((x : X) → (f x).payload ≡ []) → Every (HasOwnBytes r rows) (map f xs)
no_bytes r rows f [] h = tt
no_bytes r rows f (x ∷ xs) h = (inl (h x), no_bytes r rows f xs h)

submit_logs : (r : RegionState) (t : TargetState) (c : CommandData) (id : ℕ) (a : Submit) → CallLogs r t (target_submitted t c id a)
unfolding target_submitted target_laid
submit_logs r t c id (submit.Queued s) = none_more r t (target_submitted t c id (submit.Queued s)) refl
submit_logs r t c id (submit.Delayed s) = none_more r t (target_submitted t c id (submit.Delayed s)) refl
submit_logs r t c id submit.Busy = none_more r t t refl
submit_logs r t c id (submit.TooBig have limit) = none_more r t t refl
submit_logs r t c id (submit.FullRing need free) = none_more r t t refl
submit_logs r t c id (submit.FullBlocks need free) = none_more r t t refl

first_logs : (r : RegionState) (t : TargetState) (id : ℕ) (ws : List Delayed) → CallLogs r t (first_entered t id ws)
unfolding target_laid
first_logs r t id [] = none_more r t t refl
first_logs r t id (w ∷ ws) = none_more r t (first_entered t id (w ∷ ws)) refl

enter_logs : (r : RegionState) (t : TargetState) (id : ℕ) (a : Enter) → CallLogs r t (target_entered t id a)
unfolding target_entered
enter_logs r t id (enter.Entered s) = first_logs r t id t.delayed
enter_logs r t id enter.Empty = none_more r t t refl
enter_logs r t id (enter.FullRing need free) = none_more r t t refl
enter_logs r t id (enter.FullBlocks need free) = none_more r t t refl

note_logs : (r : RegionState) (t : TargetState) (ss : List ℕ) (a : Tmr) → CallLogs r t (target_noted t ss a)
unfolding target_noted
note_logs r t ss tmr.Noted = none_more r t (target_noted t ss tmr.Noted) refl
note_logs r t ss tmr.Off = none_more r t t refl
note_logs r t ss tmr.Busy = none_more r t t refl
note_logs r t ss (tmr.Unknown s) = none_more r t t refl
note_logs r t ss (tmr.FullRing need free) = none_more r t t refl

block_logs : (r : RegionState) (t : TargetState) (b : Bool) → CallLogs r t (target_blocked t b)
unfolding target_blocked
block_logs r t b = none_more r t (target_blocked t b) refl

tick_logs : (r : RegionState) (t : TargetState) (n : ℕ) → CallLogs r t (target_ticked t n)
unfolding target_ticked
tick_logs r t n =
    let now : ℕ = later t.now n in
    let due : PendingRow → DoneData = λ (e : PendingRow). checked 0x0b 0x08 0x01 e.pending in
    record {
      more = map due (filter (is_due_at now) t.rows) ++ map departure (filter (has_left now) t.delayed);
      log = refl;
      each = every-append (HasOwnBytes r t.rows) (map due (filter (is_due_at now) t.rows)) (map departure (filter (has_left now) t.delayed))
          (no_bytes r t.rows due (filter (is_due_at now) t.rows) (λ e. refl)) (no_bytes r t.rows departure (filter (has_left now) t.delayed) (λ w. refl));
    }

clean_logs_own : (r : RegionState) (t : TargetState) → TargetSound t → CallLogs r t (target_cleaned r t)
clean_logs_own r t h =
    let c : CleanLogs r t (target_cleaned r t) = clean_logs r t h in
    record {
      more = c.more;
      log = c.log;
      each = every-weaker (CompletedBy r t.rows (target_cleaned r t).rows) (HasOwnBytes r t.rows) c.more (λ e k. inr (k.row, k.there, k.own)) c.each;
    }

reset_none : (level : ℕ) (p : PendingData) → (reset_log level p).payload ≡ []
reset_none level p = go (eqb level 1)
  where
    go : (b : Bool) → (cond b (closed 0x08 None p) (checked 0x04 0x44 0x00 p)).payload ≡ []
    go true = refl
    go false = refl

waiting_none : (level s : ℕ) (c : CommandData) → (reset_completion level s c).payload ≡ []
waiting_none level s c = go (eqb level 1)
  where
    go : (b : Bool) → (cond b (closing 0x08 None s c) (check_condition 0x04 0x44 0x00 s c)).payload ≡ []
    go true = refl
    go false = refl

reset_logs_own : (r : RegionState) (t : TargetState) (level : ℕ) → TargetSound t → CallLogs r t (target_reset r t level)
unfolding target_reset
reset_logs_own r t level h =
    let k : TargetState = target_cleaned r t in
    let c : CallLogs r t k = clean_logs_own r t h in
    let left : PendingRow → DoneData = λ (e : PendingRow). reset_log level e.pending in
    let rows : List PendingRow = filter (λ (e : PendingRow). not e.pending.expired) k.rows in
    let waited : Delayed → DoneData = λ (w : Delayed). reset_completion level w.serial w.command in
    record {
      more = c.more ++ reset_logs k level;
      log = ap (λ l. l ++ reset_logs k level) c.log ∙ append_assoc t.log c.more (reset_logs k level);
      each = every-append (HasOwnBytes r t.rows) c.more (reset_logs k level) c.each
          (every-append (HasOwnBytes r t.rows) (map left rows) (map waited k.delayed)
          (no_bytes r t.rows left rows (λ e. reset_none level e.pending)) (no_bytes r t.rows waited k.delayed (λ w. waiting_none level w.serial w.command)));
    }

pub call_logs : (r : RegionState) (t : TargetState) (call : TargetCall) → TargetSound t → CallLogs r t (target_called r t call)
call_logs r t (Submits c id) h = submit_logs r t c id (target_submit_answer t c)
call_logs r t (Enters id) h = enter_logs r t id (target_enter_answer t)
call_logs r t (Notes type_ ss) h = note_logs r t ss (target_tmr_answer t ss)
call_logs r t (Ticks n) h = tick_logs r t n
call_logs r t (Blocks b) h = block_logs r t b
call_logs r t Cleans h = clean_logs_own r t h
call_logs r t (Resets level) h = reset_logs_own r t level h
