-- How long the answers of a device can be.
use Rattle.std.proofs.Common.{◌≡◌, ℕ, ◌≤◌, ◌==◌, Bool, true, false, cond, List, [], ◌∷◌, ◌++◌, length, Option, Some, None, slice_get, refl, sym, ap, ◌∙◌, subst, arith}
use Rattle.std.specs.List.{filter}
use Rattle.tcmu_types.specs.Copied.{handle_bytes, dispatch_serials, bytes_in_answer, answer_serials}
use Rattle.tcmu_types.specs.Data.{CommandData}
use Rattle.tcmu_types.specs.Events.{EventData, AnswerData, DispatchData}
use Rattle.tcmu_types.specs.Events as ev
use Rattle.tcmu_types.specs.Lists.{Every}
use Rattle.tcmu_types.specs.Rules.{IsCommand}
use Rattle.tcmu_types.specs.declared.answer.Enter.{Enter}
use Rattle.tcmu_types.specs.declared.answer.Enter.TheVariants as enter
use Rattle.tcmu_types.specs.declared.answer.Handle.{Handle}
use Rattle.tcmu_types.specs.declared.answer.Handle.TheVariants as handle
use Rattle.tcmu_types.specs.declared.answer.Reset.{Reset}
use Rattle.tcmu_types.specs.declared.answer.Reset.TheVariants as reset
use Rattle.tcmu_types.specs.declared.answer.Submit.{Submit}
use Rattle.tcmu_types.specs.declared.answer.Submit.TheVariants as submit
use Rattle.tcmu_types.specs.declared.answer.Tmr.{Tmr}
use Rattle.tcmu_types.specs.declared.answer.Tmr.TheVariants as tmr
use Rattle.tcmu_types.proofs.Everies.{every-append, every_at, every-first}
use Rattle.tcmu_model.specs.Device as device
use Rattle.tcmu_model.specs.Device.{Unfinished, DeviceState, Device, is_at}
use Rattle.tcmu_model.specs.Events.{after_entering, after_enter, after_reset, after_submit, after_tmr, dispatch_answer, entry_length_in, is_running, item_answer, next_item, reset_answer, tmr_length_of}
use Rattle.tcmu_model.specs.RingState as ring
use Rattle.tcmu_model.specs.RingState.{Item, Laid, pad, pads, with_item}
use Rattle.tcmu_model.specs.Sound.{IsSound}
use Rattle.tcmu_model.specs.Steps.{HandlerRelation, Makes, Handles}
use Rattle.tcmu_model.proofs.DrainEnds.{rows_commands}
use Rattle.tcmu_model.proofs.KeptByEvents.{made}
use Rattle.tcmu_model.proofs.LaidAfter.{laid_queued, laid_delayed, laid_entered, laid_noted, laid_dispatched, laid_handled, laid_responded, laid_published, laid_cleaned, laid_ticked, laid_blocked, laid_restarted, laid_reset}
use Rattle.tcmu_model.proofs.ResetMade.{not_blocked_same, handlers_out_same}
use Rattle.journal_kept.specs.Keeping.{named_in, NamesAtMost, NotesName}

-- ==== the notes in the ring

abbrev Noted : ℕ → List Item → Type 0
Noted n items = Every (λ i. NamesAtMost n i.laid) items

-- behind an item that names few
noted_with : (n : ℕ) (r : ring.RingState) (i : Item) → Noted n r.laid → NamesAtMost n i.laid → Noted n (with_item r i).laid
noted_with n r i h few =
    every-append (λ x. NamesAtMost n x.laid) (r.laid ++ pads (pad r i.len)) (i ∷ [])
    (every-append (λ x. NamesAtMost n x.laid) r.laid (pads (pad r i.len)) h (by (pad r i.len == 0))) (few, tt)
  where
    by : (b : Bool) → Noted n (cond b [] (record { len = pad r i.len; laid = ring.Pad } ∷ []))
    by true = tt
    by false = (tt, tt)

noted_submit : (n : ℕ) (d : DeviceState) (c : CommandData) (a : Submit) → NotesName n d → NotesName n (after_submit d c a)
unfolding after_submit
noted_submit n d c (submit.Queued s) h = subst (Noted n) (sym (laid_queued d c s)) (noted_with n d.ring (record { len = entry_length_in d c; laid = ring.Cmd s c }) h tt)
noted_submit n d c (submit.Delayed s) h = subst (Noted n) (sym (laid_delayed d c s)) h
noted_submit n d c submit.Busy h = h
noted_submit n d c (submit.TooBig have limit) h = h
noted_submit n d c (submit.FullRing need free) h = h
noted_submit n d c (submit.FullBlocks need free) h = h

noted_enter : (n : ℕ) (d : DeviceState) (a : Enter) → NotesName n d → NotesName n (after_enter d a)
unfolding after_enter
noted_enter n d (enter.Entered s) h = by d.delayed refl
  where
    by : (ws : List device.Delayed) → d.delayed ≡ ws → NotesName n (after_enter d (enter.Entered s))
    by [] e = subst (λ (xs : List device.Delayed). NotesName n (after_entering d xs)) (sym e) h
    by (w ∷ ws) e = subst (Noted n) (sym (laid_entered d w ws s e)) (noted_with n d.ring (record { len = entry_length_in d w.command; laid = ring.Cmd w.serial w.command }) h tt)
noted_enter n d enter.Empty h = h
noted_enter n d (enter.FullRing need free) h = h
noted_enter n d (enter.FullBlocks need free) h = h

noted_tmr : (n : ℕ) (d : DeviceState) (kind : ℕ) (ss : List ℕ) (a : Tmr) → length ss ≤ n → NotesName n d → NotesName n (after_tmr d kind ss a)
unfolding after_tmr
noted_tmr n d kind ss tmr.Noted few h = subst (Noted n) (sym (laid_noted d kind ss)) (noted_with n d.ring (record { len = tmr_length_of ss; laid = ring.Tmr kind ss }) h few)
noted_tmr n d kind ss tmr.Off few h = h
noted_tmr n d kind ss tmr.Busy few h = h
noted_tmr n d kind ss (tmr.Unknown s) few h = h
noted_tmr n d kind ss (tmr.FullRing need free) few h = h

noted_reset : (n : ℕ) (d : DeviceState) (level : ℕ) (a : Reset) → reset_answer d level ≡ a → NotesName n d → NotesName n (after_reset d level)
noted_reset n d level (reset.Reset k) e h = subst (Noted n) (sym (laid_reset d level k e)) tt
noted_reset n d level reset.NotBlocked e h = subst (NotesName n) (sym (not_blocked_same d level e)) h
noted_reset n d level (reset.HandlersOut m) e h = subst (NotesName n) (sym (handlers_out_same d level m e)) h

-- an event keeps it that names few
pub notes_kept : (R : HandlerRelation) (n : ℕ) (d d' : Device) (e : EventData) (a : AnswerData) → Makes R d e a d' → named_in e ≤ n → NotesName n d.state → NotesName n d'.state
notes_kept R n d d' e a m few h =
    made R (λ event answer after. named_in event ≤ n → NotesName n after) d d' e a
    (record {
      submit = λ c x i q f. noted_submit n d.state c x h;
      enter = λ x q f. noted_enter n d.state x h;
      dispatch = λ x f. subst (Noted n) (sym (laid_dispatched d.state)) h;
      replied = λ s u reply o w p f. subst (Noted n) (sym (laid_handled d.state s reply)) h;
      not_out = λ s t f. h;
      respond = λ s x f. subst (Noted n) (sym (laid_responded d.state s)) h;
      publish = λ x f. subst (Noted n) (sym (laid_published d.state)) h;
      clean = λ x f. subst (Noted n) (sym (laid_cleaned d.state)) h;
      tick = λ t x f. subst (Noted n) (sym (laid_ticked d.state t)) h;
      block = λ b f. subst (Noted n) (sym (laid_blocked d.state true)) h;
      unblock = λ b f. subst (Noted n) (sym (laid_blocked d.state false)) h;
      reset = λ level x q f. noted_reset n d.state level x (sym q) h;
      restart = λ x f. subst (Noted n) (sym (laid_restarted d.state)) h;
      tmr = λ kind ss x q f. noted_tmr n d.state kind ss x f h;
      stat = λ x f. h;
    })
    m few

-- ==== answers

filter_short : {X : Type 0} (p : X → Bool) (xs : List X) → length (filter p xs) ≤ length xs
filter_short p [] = omega arith
filter_short p (x ∷ xs) = by (p x) (filter_short p xs)
  where
    by : (b : Bool) → length (filter p xs) ≤ length xs → length (cond b (x ∷ filter p xs) (filter p xs)) ≤ length (x ∷ xs)
    by true h = omega (arith, h)
    by false h = omega (arith, h)

-- a dispatch names no more serials than the notes in the ring
dispatched_few : (n : ℕ) (d : DeviceState) → NotesName n d → length (dispatch_serials (dispatch_answer d)) ≤ n
unfolding dispatch_answer
dispatched_few n d h = go d.attached (next_item d) refl
  where
    item : (l : Laid) → NamesAtMost n l → length (dispatch_serials (elim l [ ring.Cmd s c ↦ ev.Job s | ring.Tmr k ss ↦ ev.Note k (filter (is_running d.unfinished) ss) | ring.Pad ↦ ev.Nothing ])) ≤ n
    item ring.Pad few = omega arith
    item (ring.Cmd s c) few = omega arith
    item (ring.Tmr k ss) few = omega (arith, few, filter_short (is_running d.unfinished) ss)

    go : (b : Bool) (o : Option Item) → next_item d ≡ o → length (dispatch_serials (cond b (elim o [ None ↦ ev.Nothing | Some i ↦ item_answer d.unfinished i ]) ev.Detached)) ≤ n
    go false o e = omega arith
    go true None e = omega arith
    go true (Some i) e = item i.laid (every_at (λ (x : Item). NamesAtMost n x.laid) d.ring.laid _ i h e)

-- the most that an answer carries
pub record IsShort (n : ℕ) (a : AnswerData) : Type 0 where
  pub bytes : length (bytes_in_answer a) ≤ 1048576
  pub serials : length (answer_serials a) ≤ n

short_none : (n : ℕ) (a : AnswerData) → bytes_in_answer a ≡ [] → answer_serials a ≡ [] → IsShort n a
short_none n a b s = record { bytes = omega (arith, ap (λ (l : List ℕ). length l) b); serials = omega (arith, ap (λ (l : List ℕ). length l) s) }

short_handle : (R : HandlerRelation) (n : ℕ) (d d' : Device) (s : ℕ) (a : Handle) → IsSound d.state → Handles R d s a d' → IsShort n (ev.Answered a)
short_handle R n d d' s (handle.Done reply) sound h =
    let rules : IsCommand h.0.command = every-first (is_at s _) (λ (u : Unfinished). IsCommand u.command) d.state.unfinished h.0 (rows_commands d.state sound) h.1.found in
    record { bytes = omega (arith, h.1.payload, rules.in_len); serials = omega arith }
short_handle R n d d' s (handle.NotOut t) sound h = short_none n _ refl refl

pub answer_short : (R : HandlerRelation) (n : ℕ) (d d' : Device) (e : EventData) (a : AnswerData) → IsSound d.state → NotesName n d.state → Makes R d e a d' → IsShort n a
answer_short R n d d' (ev.Submit c) (ev.Submitted a) sound notes m = short_none n _ refl refl
answer_short R n d d' ev.Dispatch (ev.Dispatched a) sound notes m =
    record { bytes = omega arith; serials = subst (λ (x : DispatchData). length (dispatch_serials x) ≤ n) (sym m.answer) (dispatched_few n d.state notes) }
answer_short R n d d' (ev.Handle s) (ev.Answered a) sound notes m = short_handle R n d d' s a sound m
answer_short R n d d' (ev.Respond s) (ev.Responded a) sound notes m = short_none n _ refl refl
answer_short R n d d' ev.Publish (ev.Published a) sound notes m = short_none n _ refl refl
answer_short R n d d' ev.Clean (ev.Logged x) sound notes m = short_none n _ refl refl
answer_short R n d d' (ev.Tick t) (ev.Logged x) sound notes m = short_none n _ refl refl
answer_short R n d d' ev.Block (ev.Changed b) sound notes m = short_none n _ refl refl
answer_short R n d d' ev.Unblock (ev.Changed b) sound notes m = short_none n _ refl refl
answer_short R n d d' (ev.Reset level) (ev.WasReset a) sound notes m = short_none n _ refl refl
answer_short R n d d' ev.Restart (ev.Lost x) sound notes m = short_none n _ refl refl
answer_short R n d d' (ev.Tmr kind ss) (ev.Noted a) sound notes m = short_none n _ refl refl
answer_short R n d d' ev.Stat (ev.Told a) sound notes m = short_none n _ refl refl
answer_short R n d d' ev.Enter (ev.Entered a) sound notes m = short_none n _ refl refl
answer_short R n d d' _ _ sound notes m = absurd m
