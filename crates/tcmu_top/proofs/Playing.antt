-- A drain and a replay, as far as they have come.
use Rattle.std.proofs.Common.{Bool, true, false, ⊎_elim, ◌≡◌, ℕ, ◌+◌, ◌<◌, ◌≤◌, List, [], ◌∷◌, ◌++◌, length, drop, Option, Some, None, refl, sym, ap, ◌∙◌, arith, subst, length-append, inl, inr}
use Rattle.std.proofs.lemmas.Bool.{cases_Bool}
use Rattle.std.proofs.lemmas.List.{append-nil}
use Rattle.tcmu_types.specs.Data.{DoneData}
use Rattle.tcmu_types.specs.Rules.{IsCommand}
use Rattle.tcmu_types.specs.Events.{EventData, AnswerData, EntryData}
use Rattle.tcmu_types.specs.Events as ev
use Rattle.edge.specs.Outside.{Gained, GainedFront}
use Rattle.tcmu_types.specs.declared.answer.Handle.TheVariants as handle
use Rattle.tcmu_model.specs.declared.state.CommandState.TheVariants.{Out}
use Rattle.tcmu_types.specs.Lists.{first_of, Every}
use Rattle.tcmu_model.specs.Device.{Unfinished, Device, is_at}
use Rattle.tcmu_model.specs.Events.{submit_answer, after_submit, enter_answer, after_enter, dispatch_answer, after_dispatch, command_out, after_handle, respond_answer, after_respond, publish_answer, after_publish, clean_answer, after_clean, tick_answer, after_tick, block_answer, after_block, reset_answer, after_reset, restart_answer, after_restart, tmr_answer, after_tmr, stat_answer}
use Rattle.tcmu_model.specs.Steps.{HandlerRelation, Step, Run, Makes, asked, moved}
use Rattle.tcmu_model.specs.Drain.{Drains, drain_event}
use Rattle.tcmu_model.specs.Sound.{IsSound}
use Rattle.tcmu_model.specs.Work.{HasOutcome, HasOutcomes, DrainGoesOn, work}
use Rattle.text_model.specs.ScenarioData.{DeviceLineData, LineWhat, LineData}
use Rattle.text_model.specs.ScenarioData as line
use Rattle.text_model.specs.Replay.{Plays}
use Rattle.text_model.specs.Text.{entry_text}
use Rattle.tcmu_model.proofs.Draining.{work_falls}
use Rattle.tcmu_model.proofs.GoesOn.{goes_on_first, goes_on_more, drains_run}
use Rattle.tcmu_model.proofs.Logs.{makes_grows}
use Rattle.tcmu_top.specs.InPart.{DrainsInPart, PlaysInPart}
use Rattle.tcmu_top.proofs.InPart.{drains_part_more}
use Rattle.tcmu_top.specs.Playing.{event_lines, run_text, MadeEvent, Played, Stopped, Wrote, RunAllButLast, CanEnd, WroteFront}
use Rattle.text_model.specs.ScenarioRules.{IsEvent, IsFit}
use Rattle.tcmu_top.proofs.Telling.{gained_none, gained_more, gained_as, front_none, front_whole, front_behind}
use Rattle.tcmu_top.proofs.RunTexts.{run_append, text_more, text_one, drop_front}
use Rattle.tcmu_model.proofs.Runs.{sound_step}
use Rattle.tcmu_model.proofs.DrainEnds.{drain_ends, rows_commands}

-- ==== runs

pub run_one : (R : HandlerRelation) (d d' : Device) (e : EntryData) → Step R d e d' → Run R d (e ∷ []) d'
run_one R d d' e s = (d', s, refl)

pub plays_run : (R : HandlerRelation) (at : ℕ) (d d' : Device) (task : LineWhat) (es : List EntryData) → Plays R at d task es d' → Run R d es d'
plays_run R at d d' (line.EventLine event) es h = subst (λ (xs : List EntryData). Run R d xs d') (sym (h.4)) (run_one R d d' (h.0) (h.3))
plays_run R at d d' line.DrainLine es h = drains_run R at d d' es h
plays_run R at d d' line.DumpLine es h = subst (λ (xs : List EntryData). Run R d xs d') (sym h.0) h.1

-- from each sound device a drain has an end
pub drained : (R : HandlerRelation) (at : ℕ) (d : Device) → HasOutcomes R → IsSound d.state → (es : List EntryData) × (end : Device) × Drains R at d es end
drained R at d outcomes sound = let all = drain_ends R at d outcomes sound in (all.entries, all.end, all.drain)

-- ==== every line has an outcome

-- an event that comes out somehow has an entry
entry_made : (R : HandlerRelation) (at : ℕ) (d d' : Device) (event : EventData) (a : AnswerData) → Makes R d event a d' → (after : Device) × MadeEvent R at event d after
entry_made R at d d' event a h =
    let g = makes_grows R d d' event a h in (
      d',
      record {
        entry = record { device = at; event = event; answer = a; logged = length g.0 };
        device = refl;
        is = refl;
        step = record { makes = h; logged = omega (arith, ap length g.1, length-append d.state.log g.0) };
      },
    )

first_every : (P : Unfinished → Type 0) (p : Unfinished → Bool) (us : List Unfinished) (u : Unfinished) → Every P us → first_of p us ≡ Some u → P u
first_every P p [] u h e = absurd (cc)
first_every P p (v ∷ us) u h e =
    ⊎_elim
    (λ (z : p v ≡ true). let k : Some v ≡ Some u = rw z at e in let q : v ≡ u = cc in subst P q h.0)
    (λ (z : p v ≡ false). let k : first_of p us ≡ Some u = rw z at e in first_every P p us u h.1 k)
    (cases_Bool (p v))

-- the handler is asked for a command that is out, and for no other
handled : (R : HandlerRelation) (at : ℕ) (d : Device) (s : ℕ) (o : Option Unfinished) → command_out d.state s ≡ o → HasOutcomes R → IsSound d.state → (after : Device) × MadeEvent R at (ev.Handle s) d after
handled R at d s None e outcomes sound = entry_made R at d d (ev.Handle s) (ev.Answered (handle.NotOut s)) (refl, e, refl)
handled R at d s (Some u) e outcomes sound =
    let c : IsCommand u.command = first_every (λ v. IsCommand v.command) (is_at s Out) d.state.unfinished u (rows_commands d.state sound) e in
    let r : HasOutcome R d.name d.medium (asked u.command) = outcomes d.name d.medium u.command c in
    let d' : Device = record { name = d.name; medium = r.after; state = after_handle d.state s r.reply } in
    entry_made R at d d' (ev.Handle s) (ev.Answered (handle.Done r.reply)) (u, record { found = e; relation = r.relation; whole = r.rules; payload = r.payload; name = refl; state = refl })

-- each event within its limits can be made
pub event_made : (R : HandlerRelation) (at : ℕ) (d : Device) (event : EventData) → HasOutcomes R → IsSound d.state → IsEvent event → (d' : Device) × MadeEvent R at event d d'
event_made R at d (ev.Submit c) o k h =
    entry_made R at d (moved d (after_submit d.state c (submit_answer d.state c))) (ev.Submit c) (ev.Submitted (submit_answer d.state c)) (record { command = h; answer = refl; after = refl })
event_made R at d (ev.Handle s) o k h = handled R at d s (command_out d.state s) refl o k
event_made R at d ev.Dispatch o k h = entry_made R at d (moved d (after_dispatch d.state)) ev.Dispatch (ev.Dispatched (dispatch_answer d.state)) (record { answer = refl; after = refl })
event_made R at d (ev.Respond s) o k h =
    entry_made R at d (moved d (after_respond d.state s)) (ev.Respond s) (ev.Responded (respond_answer d.state s)) (record { answer = refl; after = refl })
event_made R at d ev.Publish o k h = entry_made R at d (moved d (after_publish d.state)) ev.Publish (ev.Published (publish_answer d.state)) (record { answer = refl; after = refl })
event_made R at d ev.Clean o k h = entry_made R at d (moved d (after_clean d.state)) ev.Clean (ev.Logged (clean_answer d.state)) (record { answer = refl; after = refl })
event_made R at d (ev.Tick n) o k h = entry_made R at d (moved d (after_tick d.state n)) (ev.Tick n) (ev.Logged (tick_answer d.state n)) (record { answer = refl; after = refl })
event_made R at d ev.Block o k h = entry_made R at d (moved d (after_block d.state true)) ev.Block (ev.Changed (block_answer d.state true)) (record { answer = refl; after = refl })
event_made R at d ev.Unblock o k h = entry_made R at d (moved d (after_block d.state false)) ev.Unblock (ev.Changed (block_answer d.state false)) (record { answer = refl; after = refl })
event_made R at d (ev.Reset level) o k h =
    entry_made R at d (moved d (after_reset d.state level)) (ev.Reset level) (ev.WasReset (reset_answer d.state level)) (record { answer = refl; after = refl })
event_made R at d ev.Restart o k h = entry_made R at d (moved d (after_restart d.state)) ev.Restart (ev.Lost (restart_answer d.state)) (record { answer = refl; after = refl })
event_made R at d (ev.Tmr kind ss) o k h =
    entry_made R at d (moved d (after_tmr d.state kind ss (tmr_answer d.state ss))) (ev.Tmr kind ss) (ev.Noted (tmr_answer d.state ss)) (record { answer = refl; after = refl })
event_made R at d ev.Stat o k h = entry_made R at d d ev.Stat (ev.Told (stat_answer d.state)) (record { answer = refl; after = refl })
event_made R at d ev.Enter o k h = entry_made R at d (moved d (after_enter d.state (enter_answer d.state))) ev.Enter (ev.Entered (enter_answer d.state)) (record { answer = refl; after = refl })

pub plays_made : (R : HandlerRelation) (at : ℕ) (d d' : Device) (event : EventData) (m : MadeEvent R at event d d') → Plays R at d (line.EventLine event) (m.entry ∷ []) d'
plays_made R at d d' event m = (m.entry, m.device, m.is, m.step, refl)

pub plays_total : (R : HandlerRelation) (at : ℕ) (d : Device) (task : LineWhat) → HasOutcomes R → IsSound d.state → IsFit task → (es : List EntryData) × (d' : Device) × Plays R at d task es d'
plays_total R at d (line.EventLine event) outcomes sound fit = let m = event_made R at d event outcomes sound fit in (m.1.entry ∷ [], m.0, plays_made R at d (m.0) event (m.1))
plays_total R at d line.DrainLine outcomes sound fit = drained R at d outcomes sound
plays_total R at d line.DumpLine outcomes sound fit = absurd fit

-- ==== a drain

-- what was drained so far
pub record Draining (R : HandlerRelation) (at : ℕ) (l : DeviceLineData) (start d : Device) (old now : Option (List ℕ)) : Type 0 where
  pub sofar : List EntryData
  pub run : Run R start sofar d
  pub asked : DrainsInPart R at start sofar d
  pub goes_on : DrainGoesOn R at start sofar d
  pub wrote : Gained old (run_text l start sofar d) now
  pub sound : IsSound d.state

pub draining_first : (R : HandlerRelation) (at : ℕ) (l : DeviceLineData) (d : Device) (old : Option (List ℕ)) → IsSound d.state → Draining R at l d d old old
draining_first R at l d old sound = record { sofar = []; run = refl; asked = refl; goes_on = goes_on_first R at d; wrote = gained_none old; sound = sound }

pub draining_more : (R : HandlerRelation) (at : ℕ) (l : DeviceLineData) (start d d' : Device) (event : EventData) (old mid now : Option (List ℕ))
    → Draining R at l start d old mid → drain_event d.state ≡ Some event → Played R at l event d d' mid now → Draining R at l start d' old now
draining_more R at l start d d' event old mid now so picked told =
    let m = told.made in
    let one = run_one R d d' m.entry m.step in
    let chosen = picked ∙ ap (λ (x : EventData). Some x) (sym m.is) in
    record {
      sofar = so.sofar ++ m.entry ∷ [];
      run = run_append R start d d' so.sofar (m.entry ∷ []) so.run one;
      asked = drains_part_more R at start d d' so.sofar m.entry so.asked m.device chosen m.step;
      goes_on = goes_on_more R at start d d' so.sofar m.entry m.device chosen m.step so.goes_on;
      wrote = gained_as old now _ _ (sym (text_more R l start d d' so.sofar (m.entry ∷ []) so.run one)) (gained_more old mid now _ _ so.wrote told.wrote);
      sound = sound_step R d d' m.entry so.sound m.step;
    }

pub draining_done : (R : HandlerRelation) (at : ℕ) (l : DeviceLineData) (start d : Device) (old now : Option (List ℕ)) → Draining R at l start d old now → drain_event d.state ≡ None
    → Wrote R l (λ es. Drains R at start es d) start d old now
draining_done R at l start d old now so none =
    record {
      entries = so.sofar;
      right = subst (λ (es : List EntryData). Drains R at start es d) (append-nil so.sofar) (so.goes_on [] d (none, refl));
      run = so.run;
      wrote = so.wrote;
    }

-- all that was made is written
all_told : (R : HandlerRelation) (l : DeviceLineData) (start d : Device) (es : List EntryData) (old mid : Option (List ℕ)) → Run R start es d → Gained old (run_text l start es d) mid → RunAllButLast R l es start d old mid
all_told R l start d es old mid run g =
    record {
      before = d;
      parts = record {
        written = es;
        last = [];
        split = sym (append-nil es);
        one = omega arith;
        piece = [];
        gained = gained_as old mid _ _ (sym (append-nil (run_text l start es d))) g;
      };
      first = run;
      second = refl;
    }

-- a piece of the last entry is written
one_part_told : (R : HandlerRelation) (l : DeviceLineData) (start d d' : Device) (es : List EntryData) (e : EntryData) (old mid now : Option (List ℕ)) → Run R start es d → Run R d (e ∷ []) d'
    → Gained old (run_text l start es d) mid → GainedFront mid (run_text l d (e ∷ []) d') now → RunAllButLast R l (es ++ e ∷ []) start d' old now
one_part_told R l start d d' es e old mid now run one g f =
    record {
      before = d;
      parts = record {
        written = es;
        last = e ∷ [];
        split = refl;
        one = omega arith;
        piece = f.0;
        gained = gained_more old mid now _ _ g f.3;
      };
      first = run;
      second = one;
    }

-- what is left of a drain can be made
drain_can_end : (R : HandlerRelation) (at : ℕ) (start d : Device) (es : List EntryData) → DrainGoesOn R at start es d → IsSound d.state → HasOutcomes R → CanEnd R (Drains R at start) es d
drain_can_end R at start d es goes sound outcomes =
    let rest = drained R at d outcomes sound in
    record { rest = rest.0; end = rest.1; right = goes (rest.0) (rest.1) (rest.2); more = drains_run R at d (rest.1) (rest.0) (rest.2) }

pub draining_stopped : (R : HandlerRelation) (at : ℕ) (l : DeviceLineData) (start d d' : Device) (event : EventData) (old mid now : Option (List ℕ))
    → Draining R at l start d old mid → drain_event d.state ≡ Some event → Stopped R at l event d d' mid now → WroteFront R l (DrainsInPart R at start) (Drains R at start) start d' old now
draining_stopped R at l start d d' event old mid now so picked (inl nothing) =
    let front : WroteFront R l (DrainsInPart R at start) (Drains R at start) start d old mid =
    record {
      made = so.sofar;
      asked = so.asked;
      run = so.run;
      wrote = front_whole old mid _ [] _ (sym (append-nil (run_text l start so.sofar d))) so.wrote;
      stopped = all_told R l start d so.sofar old mid so.run so.wrote;
      ends = drain_can_end R at start d so.sofar so.goes_on so.sound;
    } in
    subst (λ (w : Option (List ℕ)). WroteFront R l (DrainsInPart R at start) (Drains R at start) start d' old w) (sym nothing.wrote)
    (subst (λ (x : Device). WroteFront R l (DrainsInPart R at start) (Drains R at start) start x old mid) (sym nothing.device) front)
draining_stopped R at l start d d' event old mid now so picked (inr told) =
    let m = told.made in
    let one = run_one R d d' m.entry m.step in
    let chosen = picked ∙ ap (λ (x : EventData). Some x) (sym m.is) in
    record {
      made = so.sofar ++ m.entry ∷ [];
      asked = drains_part_more R at start d d' so.sofar m.entry so.asked m.device chosen m.step;
      run = run_append R start d d' so.sofar (m.entry ∷ []) so.run one;
      wrote = front_behind old mid now (run_text l start so.sofar d) (run_text l d (m.entry ∷ []) d') _ (text_more R l start d d' so.sofar (m.entry ∷ []) so.run one) so.wrote told.wrote;
      stopped = one_part_told R l start d d' so.sofar m.entry old mid now so.run one so.wrote told.wrote;
      ends = drain_can_end R at start d' (so.sofar ++ m.entry ∷ []) (goes_on_more R at start d d' so.sofar m.entry m.device chosen m.step so.goes_on) (sound_step R d d' m.entry so.sound m.step);
    }

-- each event of a drain leaves less to do
pub falls_told : (R : HandlerRelation) (at : ℕ) (l : DeviceLineData) (d d' : Device) (event : EventData) (old now : Option (List ℕ)) → IsSound d.state → drain_event d.state ≡ Some event → Played R at l event d d' old now → work d'.state < work d.state
falls_told R at l d d' event old now sound picked told =
    work_falls R d d' told.made.entry sound (picked ∙ ap (λ (x : EventData). Some x) (sym told.made.is)) told.made.step

-- ==== one event

log_kept : (R : HandlerRelation) (d d' : Device) (event : EventData) (a : AnswerData) (logged : List DoneData) → Makes R d event a d' → logged ≡ drop (length d.state.log) d'.state.log
    → length d'.state.log ≡ length d.state.log + length logged
log_kept R d d' event a logged h is =
    let g = makes_grows R d d' event a h in
    let more : logged ≡ g.0 = is ∙ ap (drop (length d.state.log)) g.1 ∙ drop_front d.state.log g.0 (length d.state.log) refl in
    omega (arith, ap length g.1, length-append d.state.log g.0, ap length more)

pub log_longer : (R : HandlerRelation) (d d' : Device) (event : EventData) (a : AnswerData) (before after : List DoneData) → Makes R d event a d' → before ≡ d.state.log → after ≡ d'.state.log → length before ≤ length after
log_longer R d d' event a before after h b c =
    let g = makes_grows R d d' event a h in
    omega (arith, ap length g.1, length-append d.state.log g.0, ap length b, ap length c)

abbrev entry_of : ℕ → EventData → AnswerData → List DoneData → EntryData
entry_of at event a logged = record { device = at; event = event; answer = a; logged = length logged }

abbrev made_of : (R : HandlerRelation) (at : ℕ) (d d' : Device) (event : EventData) (a : AnswerData) (logged : List DoneData) → Makes R d event a d' → logged ≡ drop (length d.state.log) d'.state.log → MadeEvent R at event d d'
made_of R at d d' event a logged h is =
    record {
      entry = entry_of at event a logged;
      device = refl;
      is = refl;
      step = record { makes = h; logged = log_kept R d d' event a logged h is };
    }

one_text : (R : HandlerRelation) (at : ℕ) (l : DeviceLineData) (d d' : Device) (event : EventData) (a : AnswerData) (logged : List DoneData) → Makes R d event a d' → logged ≡ drop (length d.state.log) d'.state.log
    → event_lines l event a logged ≡ run_text l d (entry_of at event a logged ∷ []) d'
unfolding entry_text
one_text R at l d d' event a logged h is =
    ap (entry_text l.name l.settings.qfull (entry_of at event a logged)) is
    ∙ sym (text_one R l d d' (entry_of at event a logged) (record { makes = h; logged = log_kept R d d' event a logged h is }))

pub told_of : (R : HandlerRelation) (at : ℕ) (l : DeviceLineData) (d d' : Device) (event : EventData) (a : AnswerData) (logged before after : List DoneData) (old now : Option (List ℕ)) → Makes R d event a d'
    → before ≡ d.state.log → after ≡ d'.state.log → logged ≡ drop (length before) after
    → Gained old (event_lines l event a logged) now → Played R at l event d d' old now
told_of R at l d d' event a logged before after old now h b c is w =
    let dropped : logged ≡ drop (length d.state.log) d'.state.log = is ∙ ap (λ (x : List DoneData). drop (length x) after) b ∙ ap (drop (length d.state.log)) c in
    record { made = made_of R at d d' event a logged h dropped; wrote = gained_as old now _ _ (one_text R at l d d' event a logged h dropped) w }

pub stopped_of : (R : HandlerRelation) (at : ℕ) (l : DeviceLineData) (d d' : Device) (event : EventData) (a : AnswerData) (logged before after : List DoneData) (old now : Option (List ℕ)) → Makes R d event a d'
    → before ≡ d.state.log → after ≡ d'.state.log → logged ≡ drop (length before) after
    → GainedFront old (event_lines l event a logged) now → Stopped R at l event d d' old now
stopped_of R at l d d' event a logged before after old now h b c is w =
    let dropped : logged ≡ drop (length d.state.log) d'.state.log = is ∙ ap (λ (x : List DoneData). drop (length x) after) b ∙ ap (drop (length d.state.log)) c in
    inr (record {
      made = made_of R at d d' event a logged h dropped;
      wrote = subst (λ (t : List ℕ). GainedFront old t now) (one_text R at l d d' event a logged h dropped) w;
    })

pub nothing_came : (R : HandlerRelation) (at : ℕ) (l : DeviceLineData) (d d' : Device) (event : EventData) (old : Option (List ℕ)) → d' ≡ d → Stopped R at l event d d' old old
nothing_came R at l d d' event old e = inl (record { device = e; wrote = refl })

-- ==== one task

pub told_wrote : (R : HandlerRelation) (at : ℕ) (l : DeviceLineData) (d d' : Device) (event : EventData) (old now : Option (List ℕ)) → Played R at l event d d' old now
    → Wrote R l (λ es. Plays R at d (line.EventLine event) es d') d d' old now
told_wrote R at l d d' event old now told =
    record {
      entries = told.made.entry ∷ [];
      right = plays_made R at d d' event told.made;
      run = run_one R d d' told.made.entry told.made.step;
      wrote = told.wrote;
    }

pub stopped_front : (R : HandlerRelation) (at : ℕ) (l : DeviceLineData) (d d' : Device) (event : EventData) (old now : Option (List ℕ)) → IsSound d.state → IsEvent event → Stopped R at l event d d' old now
    → WroteFront R l (PlaysInPart R at d (line.EventLine event)) (Plays R at d (line.EventLine event)) d d' old now
stopped_front R at l d d' event old now sound fit (inl nothing) =
    let front : WroteFront R l (PlaysInPart R at d (line.EventLine event)) (Plays R at d (line.EventLine event)) d d old old =
    record {
      made = [];
      asked = inl (refl, refl);
      run = refl;
      wrote = front_none old [];
      stopped = all_told R l d d [] old old refl (gained_none old);
      ends = λ outcomes.
          let m = event_made R at d event outcomes sound fit in
          record { rest = m.1.entry ∷ []; end = m.0; right = plays_made R at d (m.0) event (m.1); more = run_one R d (m.0) m.1.entry m.1.step };
    } in
    subst (λ (w : Option (List ℕ)). WroteFront R l (PlaysInPart R at d (line.EventLine event)) (Plays R at d (line.EventLine event)) d d' old w) (sym nothing.wrote)
    (subst (λ (x : Device). WroteFront R l (PlaysInPart R at d (line.EventLine event)) (Plays R at d (line.EventLine event)) d x old old) (sym nothing.device) front)
stopped_front R at l d d' event old now sound fit (inr told) =
    record {
      made = told.made.entry ∷ [];
      asked = inr (plays_made R at d d' event told.made);
      run = run_one R d d' told.made.entry told.made.step;
      wrote = told.wrote;
      stopped = one_part_told R l d d d' [] told.made.entry old old now refl (run_one R d d' told.made.entry told.made.step) (gained_none old) told.wrote;
      ends = λ outcomes. record { rest = []; end = d'; right = plays_made R at d d' event told.made; more = refl };
    }

-- ==== from what the code finds

pub told_task : (R : HandlerRelation) (at : ℕ) (l : DeviceLineData) (d d' : Device) (event : EventData) (task : LineWhat) (old now : Option (List ℕ)) → task ≡ line.EventLine event → Played R at l event d d' old now
    → Wrote R l (λ es. Plays R at d task es d') d d' old now
told_task R at l d d' event task old now is told =
    subst (λ (t : LineWhat). Wrote R l (λ es. Plays R at d t es d') d d' old now) (sym is) (told_wrote R at l d d' event old now told)

pub stopped_task : (R : HandlerRelation) (at : ℕ) (l : DeviceLineData) (d d' : Device) (event : EventData) (task : LineWhat) (old now : Option (List ℕ)) → task ≡ line.EventLine event → IsSound d.state → IsFit task → Stopped R at l event d d' old now
    → WroteFront R l (PlaysInPart R at d task) (Plays R at d task) d d' old now
stopped_task R at l d d' event task old now is sound fit stopped =
    subst (λ (t : LineWhat). WroteFront R l (PlaysInPart R at d t) (Plays R at d t) d d' old now) (sym is) (stopped_front R at l d d' event old now sound (subst IsFit is fit) stopped)

pub drained_task : (R : HandlerRelation) (at : ℕ) (l : DeviceLineData) (d d' : Device) (task : LineWhat) (old now : Option (List ℕ)) → task ≡ line.DrainLine → Wrote R l (λ es. Drains R at d es d') d d' old now
    → Wrote R l (λ es. Plays R at d task es d') d d' old now
drained_task R at l d d' task old now is w = subst (λ (t : LineWhat). Wrote R l (λ es. Plays R at d t es d') d d' old now) (sym is) w

pub drained_task_front : (R : HandlerRelation) (at : ℕ) (l : DeviceLineData) (d d' : Device) (task : LineWhat) (old now : Option (List ℕ)) → task ≡ line.DrainLine → WroteFront R l (DrainsInPart R at d) (Drains R at d) d d' old now
    → WroteFront R l (PlaysInPart R at d task) (Plays R at d task) d d' old now
drained_task_front R at l d d' task old now is w = subst (λ (t : LineWhat). WroteFront R l (PlaysInPart R at d t) (Plays R at d t) d d' old now) (sym is) w
