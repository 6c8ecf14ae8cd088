-- Every run keeps what a device has tied to the run's journal.
use Rattle.std.proofs.Common.{◌≡◌, inl, inr, ℕ, ◌+◌, ◌*◌, ◌/◌, ◌<◌, Bool, true, false, not, List, [], ◌∷◌, ◌++◌, refl, sym, ap, ◌∙◌, subst, arith, append_assoc, append-nil, Some, None, Option, ⊎_elim, if◌then◌else◌, ◌&&◌, ◌==◌, nat_le, nat_eq, nat_lt, length, cond}
use Rattle.std.specs.List.{list_any, filter}
use Rattle.std.specs.Prelude.{IfSome}
use Rattle.std.proofs.lemmas.Bool.{cases_Bool, true≢false, false≢true, leb-false, eqb-false}
use Rattle.tcmu_types.specs.Data.{CommandData, ReplyData, DoneData, SettingsData}
use Rattle.tcmu_types.specs.Events.{EventData, AnswerData, EntryData}
use Rattle.tcmu_types.specs.Events as ev
use Rattle.tcmu_types.specs.declared.answer.Submit.{Submit}
use Rattle.tcmu_types.specs.declared.answer.Submit.TheVariants as submit
use Rattle.tcmu_types.specs.declared.answer.Enter.{Enter}
use Rattle.tcmu_types.specs.declared.answer.Enter.TheVariants as enter
use Rattle.tcmu_types.specs.declared.answer.Handle.TheVariants as handle
use Rattle.tcmu_types.specs.declared.answer.Tmr.{Tmr as TmrAnswer}
use Rattle.tcmu_types.specs.declared.answer.Tmr.TheVariants as tmr
use Rattle.tcmu_model.specs.declared.state.CommandState.{CommandState}
use Rattle.tcmu_model.specs.declared.state.CommandState.TheVariants.{Waiting, Out, Handled, Parked, Placed, Lost}
use Rattle.tcmu_model.specs.MediumState.{MediumState}
use Rattle.tcmu_types.specs.Lists.{with_first, Every}
use Rattle.tcmu_model.specs.RingState.{Item, Laid, Pad, Cmd, Tmr, need, free, serials_in}
use Rattle.tcmu_model.specs.Device.{Unfinished, Delayed, DeviceState, Device, is_at, has_state, opening}
use Rattle.tcmu_model.specs.Events.{entry_length_in, blocks_in, free_blocks, fits_ring, fits_blocks, queued_or_full, queued_or_delayed, submit_answer, with_command, with_delayed, with_note, after_submit, entered_or_full, enter_answer, after_entering, after_enter, in_state, next_item, passed, after_item, after_dispatch, with_reply, after_handle, Placing, with_placed, run_placed, placed_by, placing, is_handled, with_parked, after_respond, publishable, after_publish, answered, after_clean, later, is_due, has_left, expire, after_tick, after_block, closing, check_condition, reset_completion, emptied, count_in_hand, after_reset, is_losing, lose, after_restart, after_tmr}
use Rattle.tcmu_types.specs.Numbers.{is_among}
use Rattle.tcmu_model.specs.Steps.{HandlerRelation, Makes, Handles, Step, Run}
use Rattle.tcmu_model.specs.Journals.{WasAccepted, HasReplied, moment, MadeAt, IsAnswered, Logs, cleaned, reset_cleaned, expired, left, reset, IsExplainedAt, IsExplained, deadline_from, IsKnown, IsWaiting, IsOfJournal, WasAsked}
use Rattle.tcmu_model.proofs.CommandStates.{serial_at}
use Rattle.tcmu_types.proofs.Everies.{every-weaker, every-map, every-both, every-append, every-filter, every-passes, every-first, every-with_first}
use Rattle.tcmu_types.proofs.Firsts.{first-passes}
use Rattle.tcmu_model.proofs.KeptByEvents.{KeptByEvents, made}
use Rattle.tcmu_model.proofs.Moments.{accepted_front, replied_more, split_more, made_last, has_made, delayed_more, laid_more, delayed_was, laid_was, settings_step, settings_run, clock_step}
use Rattle.tcmu_model.proofs.Logged.{clean_known, Gains, step_gains, step_explains}

-- ==== a longer journal

known_more : (es : List EntryData) (e : EntryData) (s : SettingsData) (now : ℕ) (u : Unfinished) → IsKnown es s now u → IsKnown (es ++ e ∷ []) s now u
known_more es e s now u k =
    record { laid_at = k.laid_at; laid = laid_more es e k.laid_at u.serial u.command k.laid; deadline = k.deadline; ahead = k.ahead; replied = replied_more es e u.serial u.reply k.replied }

waiting_more : (es : List EntryData) (e : EntryData) (s : SettingsData) (now : ℕ) (w : Delayed) → IsWaiting es s now w → IsWaiting (es ++ e ∷ []) s now w
waiting_more es e s now w k = record { delayed_at = k.delayed_at; delayed = delayed_more es e k.delayed_at w.serial w.command k.delayed; leaves = k.leaves; ahead = k.ahead }

explained_more : (es : List EntryData) (e : EntryData) (s : SettingsData) (x : DoneData) → IsExplained es s x → IsExplained (es ++ e ∷ []) s x
explained_more es e s x h = record { before = h.before; entry = h.entry; behind = h.behind ++ e ∷ []; stands = split_more es h.before h.entry h.behind e h.stands; cause = h.cause }

-- the commands of a device, without its log
record Commands (es : List EntryData) (s : SettingsData) (d : DeviceState) : Type 0 where
  unfinished : Every (IsKnown es s d.now) d.unfinished
  delayed : Every (IsWaiting es s d.now) d.delayed

longer : (es : List EntryData) (e : EntryData) (d : DeviceState) → IsOfJournal es d → Commands (es ++ e ∷ []) d.settings d
longer es e d h =
    record {
      unfinished = every-weaker (IsKnown es d.settings d.now) (IsKnown (es ++ e ∷ []) d.settings d.now) d.unfinished (λ u k. known_more es e d.settings d.now u k) h.unfinished;
      delayed = every-weaker (IsWaiting es d.settings d.now) (IsWaiting (es ++ e ∷ []) d.settings d.now) d.delayed (λ w k. waiting_more es e d.settings d.now w k) h.delayed;
    }

-- ==== each event

-- a device with a queue-full time alone lets a command wait
delayed_qfull : (d : DeviceState) (c : CommandData) (s : ℕ) → submit.Delayed s ≡ submit_answer d c → 0 < d.settings.qfull
unfolding submit_answer queued_or_full queued_or_delayed
delayed_qfull d c s h = go d.blocked (nat_lt d.ring.size (2 * entry_length_in d c)) (nat_lt d.settings.blocks (blocks_in d c)) (fits_ring d c) (fits_blocks d c) h
  where
    full : (f k : Bool) → submit.Delayed s ≡ (if not f then submit.FullRing (need d.ring (entry_length_in d c)) (free d.ring) else (if not k then submit.FullBlocks (blocks_in d c) (free_blocks d) else submit.Queued (d.accepted + 1))) → ⊥
    full false k e = cc
    full true false e = cc
    full true true e = cc

    some : (b : Bool) → d.settings.qfull == 0 ≡ b → (f k : Bool) → submit.Delayed s ≡ (if b then (if not f then submit.FullRing (need d.ring (entry_length_in d c)) (free d.ring) else (if not k then submit.FullBlocks (blocks_in d c) (free_blocks d) else submit.Queued (d.accepted + 1))) else (if f && k && (length d.delayed == 0) then submit.Queued (d.accepted + 1) else submit.Delayed (d.accepted + 1))) → 0 < d.settings.qfull
    some true q f k e = absurd (full f k e)
    some false q f k e = let n = eqb-false d.settings.qfull 0 q in omega arith

    go : (b t u f k : Bool) → submit.Delayed s ≡ (if b then submit.Busy else (if t then submit.TooBig (entry_length_in d c) (d.ring.size / 2) else (if u then submit.TooBig (blocks_in d c) d.settings.blocks else (if d.settings.qfull == 0 then (if not f then submit.FullRing (need d.ring (entry_length_in d c)) (free d.ring) else (if not k then submit.FullBlocks (blocks_in d c) (free_blocks d) else submit.Queued (d.accepted + 1))) else (if f && k && (length d.delayed == 0) then submit.Queued (d.accepted + 1) else submit.Delayed (d.accepted + 1)))))) → 0 < d.settings.qfull
    go true t u f k e = absurd (cc)
    go false true u f k e = absurd (cc)
    go false false true f k e = absurd (cc)
    go false false false f k e = some (d.settings.qfull == 0) refl f k e

-- the deadline of a command that is laid now lies ahead
new_ahead : (s : SettingsData) (now : ℕ) → IfSome (deadline_from s now) (λ at. now < at)
new_ahead s now = go (s.timeout == 0) refl
  where
    go : (b : Bool) → s.timeout == 0 ≡ b → IfSome (if b then None else Some (now + s.timeout)) (λ at. now < at)
    go true e = tt
    go false e = let n = eqb-false s.timeout 0 e in omega arith

of_submit : (js : List EntryData) (d : DeviceState) (c : CommandData) (a : Submit) → MadeAt js d.now (ev.Submit c) (ev.Submitted a) → a ≡ submit_answer d c → Commands js d.settings d → Commands js d.settings (after_submit d c a)
unfolding after_submit with_command with_delayed
of_submit js d c (submit.Queued s) e q h =
    record {
      unfinished = every-append (IsKnown js d.settings d.now) d.unfinished _ h.unfinished (record { laid_at = d.now; laid = inl e; deadline = refl; ahead = λ z. new_ahead d.settings d.now; replied = tt }, tt);
      delayed = h.delayed;
    }
of_submit js d c (submit.Delayed s) e q h =
    let some : 0 < d.settings.qfull = delayed_qfull d c s q in
    record { unfinished = h.unfinished; delayed = every-append (IsWaiting js d.settings d.now) d.delayed _ h.delayed (record { delayed_at = d.now; delayed = e; leaves = refl; ahead = omega arith }, tt) }
of_submit js d c submit.Busy e q h = h
of_submit js d c (submit.TooBig have limit) e q h = h
of_submit js d c (submit.FullRing need free) e q h = h
of_submit js d c (submit.FullBlocks need free) e q h = h

-- the command that enters is the first that waits
entered_serial : (d : DeviceState) (w : Delayed) (ws : List Delayed) (s : ℕ) → enter.Entered s ≡ entered_or_full d (w ∷ ws) → s ≡ w.serial
entered_serial d w ws s h = go (fits_ring d w.command) (fits_blocks d w.command) h
  where
    go : (f k : Bool) → enter.Entered s ≡ (if not f then enter.FullRing (need d.ring (entry_length_in d w.command)) (free d.ring) else (if not k then enter.FullBlocks (blocks_in d w.command) (free_blocks d) else enter.Entered w.serial)) → s ≡ w.serial
    go false k e = absurd (cc)
    go true false e = absurd (cc)
    go true true e = cc

of_entering : (js : List EntryData) (d : DeviceState) (s : ℕ) (ws : List Delayed) → MadeAt js d.now ev.Enter (ev.Entered (enter.Entered s)) → enter.Entered s ≡ entered_or_full d ws → Every (IsWaiting js d.settings d.now) ws → Commands js d.settings d → Commands js d.settings (after_entering d ws)
unfolding with_command
of_entering js d s [] e q waits h = h
of_entering js d s (w ∷ ws) e q waits h =
    let m : MadeAt js d.now ev.Enter (ev.Entered (enter.Entered w.serial)) = subst (λ (n : ℕ). MadeAt js d.now ev.Enter (ev.Entered (enter.Entered n))) (entered_serial d w ws s q) e in
    record {
      unfinished = every-append (IsKnown js d.settings d.now) d.unfinished _ h.unfinished
          (record { laid_at = d.now; laid = inr (m, delayed_was js waits.0.delayed_at w.serial w.command waits.0.delayed); deadline = refl; ahead = λ z. new_ahead d.settings d.now; replied = tt }, tt);
      delayed = waits.1;
    }

of_enter : (js : List EntryData) (d : DeviceState) (a : Enter) → MadeAt js d.now ev.Enter (ev.Entered a) → a ≡ enter_answer d → Commands js d.settings d → Commands js d.settings (after_enter d a)
unfolding after_enter enter_answer
of_enter js d (enter.Entered s) e q h = of_entering js d s d.delayed e q h.delayed h
of_enter js d enter.Empty e q h = h
of_enter js d (enter.FullRing need free) e q h = h
of_enter js d (enter.FullBlocks need free) e q h = h

-- a state tells nothing of this
known_in : (js : List EntryData) (st : SettingsData) (now : ℕ) (t : CommandState) (u : Unfinished) → IsKnown js st now u → IsKnown js st now (in_state t u)
known_in js st now t u k = record { laid_at = k.laid_at; laid = k.laid; deadline = k.deadline; ahead = k.ahead; replied = k.replied }

known_turned : (js : List EntryData) (st : SettingsData) (now : ℕ) (p : Unfinished → Bool) (t : CommandState) (us : List Unfinished) → Every (IsKnown js st now) us → Every (IsKnown js st now) (with_first p (in_state t) us)
known_turned js st now p t us e = every-with_first p (in_state t) (IsKnown js st now) us (λ u z k. known_in js st now t u k) e

of_item : (js : List EntryData) (st : SettingsData) (now : ℕ) (us : List Unfinished) (n : ℕ) (l : Laid) → Every (IsKnown js st now) us → Every (IsKnown js st now) (after_item us (record { len = n; laid = l }))
of_item js st now us n Pad e = e
of_item js st now us n (Tmr k ss) e = e
of_item js st now us n (Cmd s c) e = known_turned js st now (is_at s Waiting) Out us e

of_dispatch : (js : List EntryData) (d : DeviceState) → Commands js d.settings d → Commands js d.settings (after_dispatch d)
unfolding after_dispatch
of_dispatch js d h = go d.attached (next_item d)
  where
    go : (b : Bool) (o : Option Item) → Commands js d.settings (if b then elim o as (λ x. DeviceState) [ None ↦ d | Some i ↦ record d { ring = passed d.ring; unfinished = after_item d.unfinished i } ] else d)
    go false o = h
    go true None = h
    go true (Some i) = record { unfinished = of_item js d.settings d.now d.unfinished i.len i.laid h.unfinished; delayed = h.delayed }

of_handle : (js : List EntryData) (d : DeviceState) (s : ℕ) (reply : ReplyData) → HasReplied js s reply → Commands js d.settings d → Commands js d.settings (after_handle d s reply)
unfolding after_handle
of_handle js d s reply e h =
    record {
      unfinished = every-with_first (is_at s Out) (with_reply reply) (IsKnown js d.settings d.now) d.unfinished
          (λ u z k. record { laid_at = k.laid_at; laid = k.laid; deadline = k.deadline; ahead = k.ahead; replied = subst (λ (n : ℕ). HasReplied js n reply) (sym (serial_at s Out u z)) e }) h.unfinished;
      delayed = h.delayed;
    }

known_run : (js : List EntryData) (st : SettingsData) (now : ℕ) (p : Placing) (ss : List ℕ) → Every (IsKnown js st now) p.unfinished → Every (IsKnown js st now) (run_placed p ss).unfinished
known_run js st now p [] e = e
known_run js st now p (s ∷ ss) e =
    ⊎_elim
    (λ (z : is_among p.placed s ≡ true). rw z (known_run js st now p ss e))
    (λ (z : is_among p.placed s ≡ false).
    ⊎_elim
    (λ (y : list_any (is_at s Parked) p.unfinished ≡ true). rw (z, y) (known_run js st now (with_placed p s) ss (known_turned js st now (is_at s Parked) Placed p.unfinished e)))
    (λ (y : list_any (is_at s Parked) p.unfinished ≡ false). rw (z, y) e)
    (cases_Bool (list_any (is_at s Parked) p.unfinished)))
    (cases_Bool (is_among p.placed s))

known_placed : (js : List EntryData) (st : SettingsData) (now : ℕ) (ooo : Bool) (p : Placing) (s : ℕ) (ss : List ℕ) → Every (IsKnown js st now) p.unfinished → Every (IsKnown js st now) (placed_by ooo p s ss).unfinished
known_placed js st now true p s ss e = known_turned js st now (is_at s Parked) Placed p.unfinished e
known_placed js st now false p s ss e = known_run js st now p ss e

of_respond : (js : List EntryData) (d : DeviceState) (s : ℕ) → Commands js d.settings d → Commands js d.settings (after_respond d s)
unfolding after_respond
of_respond js d s h = go (is_handled d s)
  where
    go : (b : Bool) → Commands js d.settings (if b then record d { unfinished = (placing d s).unfinished; placed = (placing d s).placed } else d)
    go true =
        record {
          unfinished = known_placed js d.settings d.now d.settings.flags.ooo (record { placed = d.placed; unfinished = with_parked d s }) s (serials_in d.ring.laid) (known_turned js d.settings d.now (is_at s Handled) Parked d.unfinished h.unfinished);
          delayed = h.delayed;
        }
    go false = h

of_publish : (js : List EntryData) (d : DeviceState) → Commands js d.settings d → Commands js d.settings (after_publish d)
unfolding after_publish
of_publish js d h = go d.attached
  where
    go : (b : Bool) → Commands js d.settings (if b then record d { ring = record d.ring { published = publishable d } } else d)
    go true = record { unfinished = h.unfinished; delayed = h.delayed }
    go false = h

of_clean : (js : List EntryData) (d : DeviceState) → Commands js d.settings d → Commands js d.settings (after_clean d)
unfolding after_clean
of_clean js d h = record { unfinished = clean_known js d.settings d.now d h.unfinished; delayed = h.delayed }

-- what is not due at a moment, and has not expired, has its deadline ahead of it
not_due : (now : ℕ) (b : Bool) (o : Option ℕ) → (not b && elim o as (λ x. Bool) [ None ↦ false | Some at ↦ nat_le at now ]) ≡ false → b ≡ false → IfSome o (λ at. now < at)
not_due now true o h e = absurd (true≢false e)
not_due now false None h e = tt
not_due now false (Some t) h e = leb-false t now h

known_expire : (js : List EntryData) (st : SettingsData) (before now : ℕ) (u : Unfinished) → IsKnown js st before u → IsKnown js st now (expire now u)
known_expire js st before now u k = go (is_due now u) refl
  where
    go : (b : Bool) → is_due now u ≡ b → IsKnown js st now (if b then record u { expired = true } else u)
    go true e = record { laid_at = k.laid_at; laid = k.laid; deadline = k.deadline; ahead = λ z. absurd (true≢false z); replied = k.replied }
    go false e = record { laid_at = k.laid_at; laid = k.laid; deadline = k.deadline; ahead = not_due now u.expired u.deadline e; replied = k.replied }

still_waits : (js : List EntryData) (st : SettingsData) (before now : ℕ) (w : Delayed) → IsWaiting js st before w → not (has_left now w) ≡ true → IsWaiting js st now w
still_waits js st before now w k h = record { delayed_at = k.delayed_at; delayed = k.delayed; leaves = k.leaves; ahead = go (has_left now w) refl h }
  where
    go : (b : Bool) → has_left now w ≡ b → not b ≡ true → now < w.leaves
    go true e h = absurd (false≢true h)
    go false e h = leb-false w.leaves now e

of_tick : (js : List EntryData) (d : DeviceState) (n : ℕ) → Commands js d.settings d → Commands js d.settings (after_tick d n)
unfolding after_tick
of_tick js d n h =
    let now : ℕ = later d.now n in
    let W : Delayed → Type 0 = IsWaiting js d.settings d.now in
    let stay : Delayed → Bool = λ w. not (has_left now w) in
    record {
      unfinished = every-map (expire now) (IsKnown js d.settings d.now) (IsKnown js d.settings now) d.unfinished (λ u k. known_expire js d.settings d.now now u k) h.unfinished;
      delayed = every-weaker (λ w. W w × (stay w ≡ true)) (IsWaiting js d.settings now) (filter stay d.delayed) (λ w k. still_waits js d.settings d.now now w k.0 k.1)
          (every-both W (λ w. stay w ≡ true) (filter stay d.delayed) (every-filter stay W d.delayed h.delayed) (every-passes stay d.delayed));
    }

of_block : (js : List EntryData) (d : DeviceState) (b : Bool) → Commands js d.settings d → Commands js d.settings (after_block d b)
unfolding after_block
of_block js d b h = record { unfinished = h.unfinished; delayed = h.delayed }

of_reset : (js : List EntryData) (d : DeviceState) (level : ℕ) → Commands js d.settings d → Commands js d.settings (after_reset d level)
unfolding after_reset
of_reset js d level h = go (d.blocked && nat_eq (count_in_hand d) 0)
  where
    go : (b : Bool) → Commands js d.settings (cond b (emptied (after_clean d) level) d)
    go true = record { unfinished = tt; delayed = tt }
    go false = h

known_lose : (js : List EntryData) (st : SettingsData) (now : ℕ) (ps : List ℕ) (u : Unfinished) → IsKnown js st now u → IsKnown js st now (lose ps u)
known_lose js st now ps u k = go (is_losing ps u) (has_state Placed u)
  where
    go : (b t : Bool) → IsKnown js st now (if b then record u { state = Lost; reply = if t then u.reply else None } else u)
    go true true = record { laid_at = k.laid_at; laid = k.laid; deadline = k.deadline; ahead = k.ahead; replied = k.replied }
    go true false = record { laid_at = k.laid_at; laid = k.laid; deadline = k.deadline; ahead = k.ahead; replied = tt }
    go false t = k

of_restart : (js : List EntryData) (d : DeviceState) → Commands js d.settings d → Commands js d.settings (after_restart d)
unfolding after_restart
of_restart js d h =
    record { unfinished = every-map (lose (answered d)) (IsKnown js d.settings d.now) (IsKnown js d.settings d.now) d.unfinished (λ u k. known_lose js d.settings d.now (answered d) u k) h.unfinished; delayed = h.delayed }

of_tmr : (js : List EntryData) (d : DeviceState) (kind : ℕ) (ss : List ℕ) (a : TmrAnswer) → Commands js d.settings d → Commands js d.settings (after_tmr d kind ss a)
unfolding after_tmr with_note
of_tmr js d kind ss tmr.Noted h = record { unfinished = h.unfinished; delayed = h.delayed }
of_tmr js d kind ss tmr.Off h = h
of_tmr js d kind ss tmr.Busy h = h
of_tmr js d kind ss (tmr.Unknown s) h = h
of_tmr js d kind ss (tmr.FullRing need free) h = h

-- ==== runs

each_event : (js : List EntryData) (d : DeviceState) → Commands js d.settings d → KeptByEvents (λ e a after. MadeAt js d.now e a → Commands js d.settings after) d
each_event js d h =
    record {
      submit = λ c a i q m. of_submit js d c a m q h;
      enter = λ a q m. of_enter js d a m q h;
      dispatch = λ a m. of_dispatch js d h;
      replied = λ s u reply f w p m. of_handle js d s reply (has_made js d.now _ _ m) h;
      not_out = λ s t m. h;
      respond = λ s a m. of_respond js d s h;
      publish = λ a m. of_publish js d h;
      clean = λ n m. of_clean js d h;
      tick = λ n count m. of_tick js d n h;
      block = λ b m. of_block js d true h;
      unblock = λ b m. of_block js d false h;
      reset = λ level a q m. of_reset js d level h;
      restart = λ n m. of_restart js d h;
      tmr = λ kind ss a q m. of_tmr js d kind ss a h;
      stat = λ a m. h;
    }

-- what a run keeps: the clock is that of the journal, and the device comes from it
pub record Follows (es : List EntryData) (d : DeviceState) : Type 0 where
  pub clock : d.now ≡ moment es
  pub has : IsOfJournal es d

pub journal_step : (R : HandlerRelation) (es : List EntryData) (d d' : Device) (e : EntryData) → Follows es d.state → Step R d e d' → Follows (es ++ e ∷ []) d'.state
journal_step R es d d' e f m =
    let js : List EntryData = es ++ e ∷ [] in
    let h = f.has in
    let c : Commands js d.state.settings d'.state = made R (λ event answer after. MadeAt js d.state.now event answer → Commands js d.state.settings after) d d' e.event e.answer (each_event js d.state (longer es e d.state h)) m.makes (made_last es e d.state.now f.clock) in
    let g : Gains d.state.settings es e d.state.log d'.state.log = step_gains R es d d' e f.clock h m in
    let E : DoneData → Type 0 = IsExplained js d.state.settings in
    let log : Every E d'.state.log = subst (Every E) (sym g.grows)
    (every-append E d.state.log g.log (every-weaker (IsExplained es d.state.settings) E d.state.log (λ x k. explained_more es e d.state.settings x k) h.log)
    (every-weaker (IsExplainedAt d.state.settings es e) E g.log (λ x k. record { before = es; entry = e; behind = []; stands = refl; cause = k }) g.explained)) in
    let same : d.state.settings ≡ d'.state.settings = sym (settings_step R d d' e m) in
    record {
      clock = clock_step R es d d' e f.clock m;
      has = record {
        unfinished = subst (λ (s : SettingsData). Every (IsKnown js s d'.state.now) d'.state.unfinished) same c.unfinished;
        delayed = subst (λ (s : SettingsData). Every (IsWaiting js s d'.state.now) d'.state.delayed) same c.delayed;
        log = subst (λ (s : SettingsData). Every (IsExplained js s) d'.state.log) same log;
      };
    }

journal_run : (R : HandlerRelation) (sofar es : List EntryData) (d d' : Device) → Follows sofar d.state → Run R d es d' → Follows (sofar ++ es) d'.state
journal_run R sofar [] d d' h r = subst (λ (js : List EntryData). Follows js d'.state) (sym (append-nil sofar)) (subst (λ (x : Device). Follows sofar x.state) (sym r) h)
journal_run R sofar (e ∷ es) d d' h r =
    subst (λ (js : List EntryData). Follows js d'.state) (append_assoc sofar (e ∷ []) es) (journal_run R (sofar ++ e ∷ []) es r.0 d' (journal_step R sofar d r.0 e h r.1) r.2)

pub run_follows : (R : HandlerRelation) (s : SettingsData) (name : List ℕ) (medium : MediumState) (es : List EntryData) (d : Device) → Run R (opening s name medium) es d → Follows es d.state
run_follows R s name medium es d r = journal_run R [] es (opening s name medium) d (record { clock = refl; has = record { unfinished = tt; delayed = tt; log = tt } }) r

-- all that a device has after a run comes from the run's journal
pub run_explains : (R : HandlerRelation) (s : SettingsData) (name : List ℕ) (medium : MediumState) (es : List EntryData) (d : Device) → Run R (opening s name medium) es d → IsOfJournal es d.state
run_explains R s name medium es d r = (run_follows R s name medium es d r).has

pub run_clock : (R : HandlerRelation) (s : SettingsData) (name : List ℕ) (medium : MediumState) (es : List EntryData) (d : Device) → Run R (opening s name medium) es d → d.state.now ≡ moment es
run_clock R s name medium es d r = (run_follows R s name medium es d r).clock

-- an entry behind a run is the cause of all that it logs
pub entry_explains : (R : HandlerRelation) (s : SettingsData) (name : List ℕ) (medium : MediumState) (es : List EntryData) (d d' : Device) (e : EntryData) (cs : List DoneData) →
    Run R (opening s name medium) es d → Step R d e d' → d'.state.log ≡ d.state.log ++ cs → Every (IsExplainedAt s es e) cs
entry_explains R s name medium es d d' e cs r m same =
    let f = run_follows R s name medium es d r in
    subst (λ (x : SettingsData). Every (IsExplainedAt x es e) cs) (settings_run R (opening s name medium) d es r) (step_explains R es d d' e cs f.clock f.has m same)

-- ==== for whom a completion is

reset_sender : (level s : ℕ) (c : CommandData) → ((reset_completion level s c).init ≡ c.init) × ((reset_completion level s c).tag ≡ c.tag)
reset_sender level s c = go (level == 1)
  where
    go : (b : Bool) → let e : DoneData = if b then closing 0x08 None s c else check_condition 0x04 0x44 0x00 s c in (e.init ≡ c.init) × (e.tag ≡ c.tag)
    go true = (refl, refl)
    go false = (refl, refl)

answered_sender : (es : List EntryData) (read_len : Bool) (c : CommandData) (e : DoneData) → IsAnswered es read_len c e → (e.init ≡ c.init) × (e.tag ≡ c.tag)
answered_sender es read_len c e a =
    (ap (λ (x : DoneData). x.init) a.carries ∙ ap (λ (x : CommandData). x.init) a.sent, ap (λ (x : DoneData). x.tag) a.carries ∙ ap (λ (x : CommandData). x.tag) a.sent)

logged_sender : (s : SettingsData) (es : List EntryData) (x : EntryData) (c : CommandData) (e : DoneData) → Logs s es x c e → (e.init ≡ c.init) × (e.tag ≡ c.tag)
logged_sender s es x c e (cleaned z a) = answered_sender es s.flags.read_len c e a
logged_sender s es x c e (reset_cleaned level z a) = answered_sender es s.flags.read_len c e a
logged_sender s es x c e (expired n at z l r q) = (ap (λ (x : DoneData). x.init) q, ap (λ (x : DoneData). x.tag) q)
logged_sender s es x c e (left n at z l r q) = (ap (λ (x : DoneData). x.init) q, ap (λ (x : DoneData). x.tag) q)
logged_sender s es x c e (reset level z q) =
    let r = reset_sender level e.serial c in
    (ap (λ (x : DoneData). x.init) q ∙ r.0, ap (λ (x : DoneData). x.tag) q ∙ r.1)

abbrev pub HasSender : List EntryData → DoneData → Type 0
HasSender es e = (c : CommandData) × WasAccepted es e.serial c × (e.init ≡ c.init) × (e.tag ≡ c.tag)

explained_sender : (es : List EntryData) (s : SettingsData) (e : DoneData) → IsExplained es s e → HasSender es e
explained_sender es s e h =
    let r = logged_sender s h.before h.entry h.cause.command e h.cause.cause in
    let a : WasAccepted es e.serial h.cause.command = subst (λ (xs : List EntryData). WasAccepted xs e.serial h.cause.command) (sym h.stands) (accepted_front h.before (h.entry ∷ h.behind) e.serial h.cause.command h.cause.accepted) in
    (h.cause.command, a, r.0, r.1)

pub run_senders : (R : HandlerRelation) (s : SettingsData) (name : List ℕ) (medium : MediumState) (es : List EntryData) (d : Device) → Run R (opening s name medium) es d →
    Every (λ e. (c : CommandData) × WasAccepted es e.serial c × (e.init ≡ c.init) × (e.tag ≡ c.tag)) d.state.log
run_senders R s name medium es d r =
    every-weaker (IsExplained es d.state.settings) (HasSender es) d.state.log (λ e k. explained_sender es d.state.settings e k) (run_explains R s name medium es d r).log

-- ==== what a handler is asked

-- an event keeps the device's name
name_kept : (R : HandlerRelation) (d d' : Device) (e : EventData) (a : AnswerData) → Makes R d e a d' → d'.name ≡ d.name
name_kept R d d' (ev.Submit c) (ev.Submitted a) m = ap (λ (x : Device). x.name) m.after
name_kept R d d' ev.Dispatch (ev.Dispatched a) m = ap (λ (x : Device). x.name) m.after
name_kept R d d' (ev.Handle s) (ev.Answered (handle.Done reply)) m = m.1.name
name_kept R d d' (ev.Handle s) (ev.Answered (handle.NotOut t)) m = ap (λ (x : Device). x.name) m.2
name_kept R d d' (ev.Respond s) (ev.Responded a) m = ap (λ (x : Device). x.name) m.after
name_kept R d d' ev.Publish (ev.Published a) m = ap (λ (x : Device). x.name) m.after
name_kept R d d' ev.Clean (ev.Logged n) m = ap (λ (x : Device). x.name) m.after
name_kept R d d' (ev.Tick n) (ev.Logged count) m = ap (λ (x : Device). x.name) m.after
name_kept R d d' ev.Block (ev.Changed b) m = ap (λ (x : Device). x.name) m.after
name_kept R d d' ev.Unblock (ev.Changed b) m = ap (λ (x : Device). x.name) m.after
name_kept R d d' (ev.Reset level) (ev.WasReset a) m = ap (λ (x : Device). x.name) m.after
name_kept R d d' ev.Restart (ev.Lost n) m = ap (λ (x : Device). x.name) m.after
name_kept R d d' (ev.Tmr kind ss) (ev.Noted a) m = ap (λ (x : Device). x.name) m.after
name_kept R d d' ev.Stat (ev.Told a) m = ap (λ (x : Device). x.name) m.after
name_kept R d d' ev.Enter (ev.Entered a) m = ap (λ (x : Device). x.name) m.after
name_kept R d d' _ _ m = absurd m

name_run : (R : HandlerRelation) (d d' : Device) (es : List EntryData) → Run R d es d' → d'.name ≡ d.name
name_run R d d' [] r = ap (λ (x : Device). x.name) r
name_run R d d' (e ∷ es) r = name_run R r.0 d' es r.2 ∙ name_kept R d r.0 e.event e.answer r.1.makes

pub handler_asked : (R : HandlerRelation) (s : SettingsData) (name : List ℕ) (medium : MediumState) (es : List EntryData) (d d' : Device) (e : EntryData) (k : ℕ) (reply : ReplyData) →
    Run R (opening s name medium) es d → Step R d e d' → e.event ≡ ev.Handle k → e.answer ≡ ev.Answered (handle.Done reply) → WasAsked R es name d.medium k reply d'.medium
handler_asked R s name medium es d d' e k reply r m event answer =
    let n : d.name ≡ name = name_run R (opening s name medium) d es r in
    let h : Handles R d k (handle.Done reply) d' = subst (λ (a : AnswerData). Makes R d (ev.Handle k) a d') answer (subst (λ (x : EventData). Makes R d x e.answer d') event m.makes) in
    let known : IsKnown es d.state.settings d.state.now h.0 = every-first (is_at k Out) (IsKnown es d.state.settings d.state.now) d.state.unfinished h.0 (run_explains R s name medium es d r).unfinished h.1.found in
    let same : h.0.serial ≡ k = serial_at k Out h.0 (first-passes (is_at k Out) d.state.unfinished h.0 h.1.found) in
    record {
      command = h.0.command;
      accepted = subst (λ (q : ℕ). WasAccepted es q h.0.command) same (laid_was es known.laid_at h.0.serial h.0.command known.laid);
      relation = subst (λ (q : List ℕ). R q d.medium (record { cdb = h.0.command.cdb; sent = h.0.command.sent; in_len = h.0.command.in_len }) reply d'.medium) n h.1.relation;
    }
