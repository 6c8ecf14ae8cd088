-- What each event logs: the entry of the event is the cause of each of these completions.
use Rattle.std.proofs.Common.{◌≡◌, ℕ, ◌+◌, ◌<◌, ◌≤◌, ◌^◌, min, Bool, true, false, not, ◌&&◌, ◌==◌, nat_le, nat_eq, cond, List, [], ◌∷◌, ◌++◌, length, map, Option, Some, None, refl, sym, ap, ◌∙◌, subst, inr, append_assoc, append-nil, if◌then◌else◌}
use Rattle.std.specs.List.{filter}
use Rattle.std.specs.Prelude.{IfSome}
use Rattle.std.proofs.lemmas.Bool.{false≢true, leb-true}
use Rattle.std.proofs.lemmas.List.{append_cancel_left}
use Rattle.tcmu_types.specs.Data.{CommandData, ReplyData, DoneData, SettingsData}
use Rattle.tcmu_types.specs.Events.{EventData, AnswerData, EntryData}
use Rattle.tcmu_types.specs.Events as ev
use Rattle.tcmu_types.specs.Lists.{first_of, without_first, Every}
use Rattle.tcmu_types.specs.declared.answer.Reset.{Reset}
use Rattle.tcmu_types.specs.declared.answer.Reset.TheVariants as answer
use Rattle.tcmu_types.proofs.Everies.{every-append, every-map, every-both, every-filter, every-passes, every-first, every-without_first}
use Rattle.tcmu_model.specs.declared.state.CommandState.TheVariants.{Placed}
use Rattle.tcmu_model.specs.Device.{Unfinished, Delayed, DeviceState, Device, is_at}
use Rattle.tcmu_model.specs.Events.{with_command, after_submit, after_enter, after_dispatch, after_handle, after_respond, after_publish, after_block, after_restart, after_tmr, completion, completions, Books, finish, finish_all, books, answered, after_clean, later, is_due, has_left, expiry, departure, tick_completions, after_tick, is_open, reset_completion, reset_completions, emptied, count_in_hand, clean_answer, reset_answer, after_reset}
use Rattle.tcmu_model.specs.Steps.{HandlerRelation, Step}
use Rattle.tcmu_model.specs.Journals.{HasReplied, ticks_of, moment, WasAccepted, IsAnswered, DoesReset, Logs, cleaned, reset_cleaned, expired, left, reset, IsExplainedAt, deadline_from, IsKnown, IsWaiting, IsOfJournal}
use Rattle.tcmu_model.proofs.KeptByEvents.{KeptByEvents, made}
use Rattle.tcmu_model.proofs.Logs.{after_submit_same, handled_same, block_same, restarted_same, after_tmr_same}
use Rattle.tcmu_model.proofs.Unnamed.{enter_kept, dispatch_kept, respond_kept, publish_kept}
use Rattle.tcmu_model.proofs.Moments.{total_ticks, cut_on, moment-push, laid_was, delayed_was}
use Rattle.tcmu_model.proofs.SoundEvents.{reset_serial}

-- the log grew by completions of which the entry is the cause
pub record Gains (s : SettingsData) (es : List EntryData) (entry : EntryData) (old new : List DoneData) : Type 0 where
  pub log : List DoneData
  pub grows : new ≡ old ++ log
  pub explained : Every (IsExplainedAt s es entry) log

gains_none : (s : SettingsData) (es : List EntryData) (entry : EntryData) (old new : List DoneData) → new ≡ old → Gains s es entry old new
gains_none s es entry old new e = record { log = []; grows = e ∙ sym (append-nil old); explained = tt }

gains_then : (s : SettingsData) (es : List EntryData) (entry : EntryData) (a b c : List DoneData) → Gains s es entry a b → Gains s es entry b c → Gains s es entry a c
gains_then s es entry a b c g h =
    record {
      log = g.log ++ h.log;
      grows = h.grows ∙ ap (λ (l : List DoneData). l ++ h.log) g.grows ∙ append_assoc a g.log h.log;
      explained = every-append (IsExplainedAt s es entry) g.log h.log g.explained h.explained;
    }

-- ==== a clean

-- an entry that logs the replies that it finds
abbrev LogsReplies : SettingsData → List EntryData → EntryData → Type 0
LogsReplies s es entry = (c : CommandData) (e : DoneData) → IsAnswered es s.flags.read_len c e → Logs s es entry c e

row_logs : (s : SettingsData) (es : List EntryData) (entry : EntryData) (u : Unfinished) (o : Option ReplyData) → LogsReplies s es entry → WasAccepted es u.serial u.command → IfSome o (HasReplied es u.serial) →
    Every (IsExplainedAt s es entry) (elim o as (λ x. List DoneData) [ None ↦ [] | Some reply ↦ completion s.flags.read_len u reply ∷ [] ])
row_logs s es entry u None may a r = tt
row_logs s es entry u (Some reply) may a r =
    let e : DoneData = completion s.flags.read_len u reply in
    (record { command = u.command; accepted = a; cause = may u.command e (record { command = u; reply = reply; replied = r; serial = refl; sent = refl; carries = refl }) }, tt)

row_completes : (s : SettingsData) (es : List EntryData) (entry : EntryData) (now : ℕ) (u : Unfinished) → LogsReplies s es entry → IsKnown es s now u → Every (IsExplainedAt s es entry) (completions s.flags.read_len u)
row_completes s es entry now u may k = go u.expired
  where
    go : (b : Bool) → Every (IsExplainedAt s es entry) (if b then [] else elim (u.reply) as (λ x. List DoneData) [ None ↦ [] | Some reply ↦ completion s.flags.read_len u reply ∷ [] ])
    go true = tt
    go false = row_logs s es entry u u.reply may (laid_was es k.laid_at u.serial u.command k.laid) k.replied

-- what one finished command logs, and what is known of the others
record Finishes (s : SettingsData) (es : List EntryData) (entry : EntryData) (now : ℕ) (b after : Books) : Type 0 where
  gains : Gains s es entry b.log after.log
  known : Every (IsKnown es s now) after.unfinished

finish_logs : (s : SettingsData) (es : List EntryData) (entry : EntryData) (now : ℕ) (b : Books) (k : ℕ) → LogsReplies s es entry → Every (IsKnown es s now) b.unfinished → Finishes s es entry now b (finish s.flags.read_len b k)
finish_logs s es entry now b k may known = go (first_of (is_at k Placed) b.unfinished) refl
  where
    go : (o : Option Unfinished) → first_of (is_at k Placed) b.unfinished ≡ o →
        Finishes s es entry now b (elim o as (λ x. Books) [ None ↦ b | Some u ↦ record { unfinished = without_first (is_at k Placed) b.unfinished; log = b.log ++ completions s.flags.read_len u } ])
    go None e = record { gains = gains_none s es entry b.log b.log refl; known = known }
    go (Some u) e =
        record {
          gains = record { log = completions s.flags.read_len u; grows = refl; explained = row_completes s es entry now u may (every-first (is_at k Placed) (IsKnown es s now) b.unfinished u known e) };
          known = every-without_first (is_at k Placed) (IsKnown es s now) b.unfinished known;
        }

finish_all_logs : (s : SettingsData) (es : List EntryData) (entry : EntryData) (now : ℕ) (b : Books) (ks : List ℕ) → LogsReplies s es entry → Every (IsKnown es s now) b.unfinished → Finishes s es entry now b (finish_all s.flags.read_len b ks)
finish_all_logs s es entry now b [] may known = record { gains = gains_none s es entry b.log b.log refl; known = known }
finish_all_logs s es entry now b (k ∷ ks) may known =
    let one = finish_logs s es entry now b k may known in
    let rest = finish_all_logs s es entry now (finish s.flags.read_len b k) ks may one.known in
    record { gains = gains_then s es entry b.log (finish s.flags.read_len b k).log (finish_all s.flags.read_len (finish s.flags.read_len b k) ks).log one.gains rest.gains; known = rest.known }

clean_logs : (es : List EntryData) (entry : EntryData) (d : DeviceState) → LogsReplies d.settings es entry → IsOfJournal es d → Gains d.settings es entry d.log (after_clean d).log
unfolding after_clean
clean_logs es entry d may h = (finish_all_logs d.settings es entry d.now (books d) (answered d) may h.unfinished).gains

pub clean_known : (es : List EntryData) (st : SettingsData) (now : ℕ) (d : DeviceState) → Every (IsKnown es st now) d.unfinished → Every (IsKnown es st now) (after_clean d).unfinished
unfolding after_clean
clean_known es st now d known = all_known (books d) (answered d) known
  where
    one_known : (b : Books) (k : ℕ) (o : Option Unfinished) → Every (IsKnown es st now) b.unfinished →
        Every (IsKnown es st now) (elim o as (λ x. Books) [ None ↦ b | Some u ↦ record { unfinished = without_first (is_at k Placed) b.unfinished; log = b.log ++ completions d.settings.flags.read_len u } ]).unfinished
    one_known b k None known = known
    one_known b k (Some u) known = every-without_first (is_at k Placed) (IsKnown es st now) b.unfinished known

    all_known : (b : Books) (ks : List ℕ) → Every (IsKnown es st now) b.unfinished → Every (IsKnown es st now) (finish_all d.settings.flags.read_len b ks).unfinished
    all_known b [] known = known
    all_known b (k ∷ ks) known = all_known (finish d.settings.flags.read_len b k) ks (one_known b k (first_of (is_at k Placed) b.unfinished) known)

-- ==== a tick

-- what is due at a moment, and was not expired before, has a deadline that has come
due_then : (now : ℕ) (b : Bool) (o : Option ℕ) → (not b && elim o as (λ x. Bool) [ None ↦ false | Some at ↦ nat_le at now ]) ≡ true → (b ≡ false) × ((t : ℕ) × (o ≡ Some t) × (t ≤ now))
due_then now true o h = absurd (false≢true h)
due_then now false None h = absurd (false≢true h)
due_then now false (Some t) h = (refl, (t, refl, leb-true t now h))

deadline_at : (s : SettingsData) (at t : ℕ) → deadline_from s at ≡ Some t → t ≡ at + s.timeout
deadline_at s at t h = go (s.timeout == 0) h
  where
    go : (b : Bool) → (if b then None else Some (at + s.timeout)) ≡ Some t → t ≡ at + s.timeout
    go true q = absurd (cc)
    go false q = cc

expiry_is : (es : List EntryData) (entry : EntryData) (s : SettingsData) (now n : ℕ) (u : Unfinished) → entry.event ≡ ev.Tick n → now ≡ moment es → later now n ≡ moment (es ++ entry ∷ []) →
    IsKnown es s now u × (is_due (later now n) u ≡ true) → IsExplainedAt s es entry (expiry u)
expiry_is es entry s now n u tick clock comes h =
    let due = due_then (later now n) u.expired u.deadline h.1 in
    let k = h.0 in
    let at : due.1.0 ≡ k.laid_at + s.timeout = deadline_at s k.laid_at due.1.0 (sym k.deadline ∙ due.1.1) in
    let ahead : now < due.1.0 = subst (λ (o : Option ℕ). IfSome o (λ t. now < t)) due.1.1 (k.ahead due.0) in
    record {
      command = u.command;
      accepted = laid_was es k.laid_at u.serial u.command k.laid;
      cause = expired n k.laid_at tick k.laid
          (record {
            early = subst (λ (t : ℕ). moment es < t) at (subst (λ (t : ℕ). t < due.1.0) clock ahead);
            reached = subst (λ (t : ℕ). t ≤ moment (es ++ entry ∷ [])) at (subst (λ (t : ℕ). due.1.0 ≤ t) comes due.1.2);
          })
          refl;
    }

departure_is : (es : List EntryData) (entry : EntryData) (s : SettingsData) (now n : ℕ) (w : Delayed) → entry.event ≡ ev.Tick n → now ≡ moment es → later now n ≡ moment (es ++ entry ∷ []) →
    IsWaiting es s now w × (has_left (later now n) w ≡ true) → IsExplainedAt s es entry (departure w)
departure_is es entry s now n w tick clock comes h =
    let k = h.0 in
    let come : w.leaves ≤ later now n = leb-true w.leaves (later now n) h.1 in
    record {
      command = w.command;
      accepted = inr (delayed_was es k.delayed_at w.serial w.command k.delayed);
      cause = left n k.delayed_at tick k.delayed
          (record {
            early = subst (λ (t : ℕ). moment es < t) k.leaves (subst (λ (t : ℕ). t < w.leaves) clock k.ahead);
            reached = subst (λ (t : ℕ). t ≤ moment (es ++ entry ∷ [])) k.leaves (subst (λ (t : ℕ). w.leaves ≤ t) comes come);
          })
          refl;
    }

tick_logs : (es : List EntryData) (entry : EntryData) (d : DeviceState) (n : ℕ) → entry.event ≡ ev.Tick n → d.now ≡ moment es → later d.now n ≡ moment (es ++ entry ∷ []) → IsOfJournal es d → Gains d.settings es entry d.log (after_tick d n).log
unfolding after_tick
tick_logs es entry d n tick clock comes h =
    let now : ℕ = later d.now n in
    let E : DoneData → Type 0 = IsExplainedAt d.settings es entry in
    let P : Unfinished → Type 0 = IsKnown es d.settings d.now in
    let Q : Delayed → Type 0 = IsWaiting es d.settings d.now in
    record {
      log = tick_completions d now;
      grows = refl;
      explained = every-append E (map expiry (filter (is_due now) d.unfinished)) (map departure (filter (has_left now) d.delayed))
          (every-map expiry (λ u. P u × (is_due now u ≡ true)) E (filter (is_due now) d.unfinished) (λ u k. expiry_is es entry d.settings d.now n u tick clock comes k)
          (every-both P (λ u. is_due now u ≡ true) (filter (is_due now) d.unfinished) (every-filter (is_due now) P d.unfinished h.unfinished) (every-passes (is_due now) d.unfinished)))
          (every-map departure (λ w. Q w × (has_left now w ≡ true)) E (filter (has_left now) d.delayed) (λ w k. departure_is es entry d.settings d.now n w tick clock comes k)
          (every-both Q (λ w. has_left now w ≡ true) (filter (has_left now) d.delayed) (every-filter (has_left now) Q d.delayed h.delayed) (every-passes (has_left now) d.delayed)));
    }

-- ==== a reset

reset_is : (es : List EntryData) (entry : EntryData) (st : SettingsData) (level s : ℕ) (c : CommandData) → DoesReset entry level → WasAccepted es s c → IsExplainedAt st es entry (reset_completion level s c)
reset_is es entry st level s c z a =
    let e : (reset_completion level s c).serial ≡ s = reset_serial level s c in
    record {
      command = c;
      accepted = subst (λ (n : ℕ). WasAccepted es n c) (sym e) a;
      cause = reset level z (ap (λ (n : ℕ). reset_completion level n c) (sym e));
    }

emptied_logs : (es : List EntryData) (entry : EntryData) (d : DeviceState) (level : ℕ) → DoesReset entry level → Every (IsKnown es d.settings d.now) d.unfinished → Every (IsWaiting es d.settings d.now) d.delayed → Gains d.settings es entry d.log (emptied d level).log
emptied_logs es entry d level z known waiting =
    let E : DoneData → Type 0 = IsExplainedAt d.settings es entry in
    let opened : List Unfinished = filter is_open d.unfinished in
    record {
      log = reset_completions d level;
      grows = refl;
      explained = every-append E (map (λ u. reset_completion level u.serial u.command) opened) (map (λ w. reset_completion level w.serial w.command) d.delayed)
          (every-map (λ u. reset_completion level u.serial u.command) (IsKnown es d.settings d.now) E opened (λ u k. reset_is es entry d.settings level u.serial u.command z (laid_was es k.laid_at u.serial u.command k.laid)) (every-filter is_open (IsKnown es d.settings d.now) d.unfinished known))
          (every-map (λ w. reset_completion level w.serial w.command) (IsWaiting es d.settings d.now) E d.delayed (λ w k. reset_is es entry d.settings level w.serial w.command z (inr (delayed_was es k.delayed_at w.serial w.command k.delayed))) waiting);
    }

cleaned_emptied : (es : List EntryData) (entry : EntryData) (d : DeviceState) (level : ℕ) → DoesReset entry level → IsOfJournal es d → Gains d.settings es entry (after_clean d).log (emptied (after_clean d) level).log
unfolding after_clean
cleaned_emptied es entry d level z h = emptied_logs es entry (after_clean d) level z (clean_known es d.settings d.now d h.unfinished) h.delayed

reset_logs : (es : List EntryData) (entry : EntryData) (d : DeviceState) (level : ℕ) (a : Reset) → entry.event ≡ ev.Reset level → entry.answer ≡ ev.WasReset a → a ≡ reset_answer d level → IsOfJournal es d → Gains d.settings es entry d.log (after_reset d level).log
unfolding after_reset reset_answer
reset_logs es entry d level a event same q h = go d.blocked (nat_eq (count_in_hand d) 0) q
  where
    count : ℕ
    count = clean_answer d + length (reset_completions (after_clean d) level)

    done : (n : ℕ) → a ≡ answer.Reset n → DoesReset entry level
    done n e = record { count = n; event = event; answer = same ∙ ap ev.WasReset e }

    go : (b none : Bool) → a ≡ (if b then (if none then answer.Reset count else answer.HandlersOut (count_in_hand d)) else answer.NotBlocked) → Gains d.settings es entry d.log (cond (b && none) (emptied (after_clean d) level) d).log
    go true true e =
        gains_then d.settings es entry d.log (after_clean d).log (emptied (after_clean d) level).log
        (clean_logs es entry d (λ c x k. reset_cleaned level (done count e) k) h) (cleaned_emptied es entry d level (done count e) h)
    go true false e = gains_none d.settings es entry d.log d.log refl
    go false none e = gains_none d.settings es entry d.log d.log refl

-- ==== every event

each_event : (es : List EntryData) (entry : EntryData) (d : DeviceState) → d.now ≡ moment es → IsOfJournal es d →
    KeptByEvents (λ e a after. entry.event ≡ e → entry.answer ≡ a → Gains d.settings es entry d.log after.log) d
unfolding with_command
each_event es entry d clock h =
    record {
      submit = λ c a i q e z. none (after_submit d c a) (after_submit_same d c a);
      enter = λ a q e z. none (after_enter d a) (enter_kept (λ x. x.log) d a (λ w ws. refl));
      dispatch = λ a e z. none (after_dispatch d) (dispatch_kept (λ x. x.log) d (λ i. refl));
      replied = λ s u reply f w p e z. none (after_handle d s reply) (handled_same d s reply);
      not_out = λ s t e z. none d refl;
      respond = λ s a e z. none (after_respond d s) (respond_kept (λ x. x.log) d s refl);
      publish = λ a e z. none (after_publish d) (publish_kept (λ x. x.log) d refl);
      clean = λ n e z. clean_logs es entry d (λ c x k. cleaned e k) h;
      tick = λ n count e z. tick_logs es entry d n e clock (comes n e) h;
      block = λ b e z. none (after_block d true) (block_same d true);
      unblock = λ b e z. none (after_block d false) (block_same d false);
      reset = λ level a q e z. reset_logs es entry d level a e z q h;
      restart = λ n e z. none (after_restart d) (restarted_same d);
      tmr = λ kind ss a q e z. none (after_tmr d kind ss a) (after_tmr_same d kind ss a);
      stat = λ a e z. none d refl;
    }
  where
    none : (after : DeviceState) → after.log ≡ d.log → Gains d.settings es entry d.log after.log
    none after e = gains_none d.settings es entry d.log after.log e

    comes : (n : ℕ) → entry.event ≡ ev.Tick n → later d.now n ≡ moment (es ++ entry ∷ [])
    comes n e = ap (λ (t : ℕ). later t n) clock ∙ cut_on (total_ticks es) n (2 ^ 63) ∙ sym (moment-push es entry ∙ ap (λ (x : EventData). min (total_ticks es + ticks_of x) (2 ^ 63)) e)

pub step_gains : (R : HandlerRelation) (es : List EntryData) (d d' : Device) (e : EntryData) → d.state.now ≡ moment es → IsOfJournal es d.state → Step R d e d' → Gains d.state.settings es e d.state.log d'.state.log
step_gains R es d d' e clock h m =
    made R (λ event answer after. e.event ≡ event → e.answer ≡ answer → Gains d.state.settings es e d.state.log after.log) d d' e.event e.answer (each_event es e d.state clock h) m.makes refl refl

-- these are all that the step logs
pub step_explains : (R : HandlerRelation) (es : List EntryData) (d d' : Device) (e : EntryData) (cs : List DoneData) → d.state.now ≡ moment es → IsOfJournal es d.state → Step R d e d' →
    d'.state.log ≡ d.state.log ++ cs → Every (IsExplainedAt d.state.settings es e) cs
step_explains R es d d' e cs clock h m same =
    let g = step_gains R es d d' e clock h m in
    subst (Every (IsExplainedAt d.state.settings es e)) (append_cancel_left d.state.log g.log cs (sym g.grows ∙ same)) g.explained
