-- What the completions in the journal of a replay owe to it.
use Rattle.std.proofs.Common.{◌≡◌, ⊎_elim, ℕ, zero, suc, ◌+◌, ◌≤◌, ◌&&◌, nat_eq, Bool, true, false, cond, List, [], ◌∷◌, ◌++◌, length, map, slice_get, Option, Some, None, refl, sym, ap, ◌∙◌, subst, arith, append_assoc}
use Rattle.std.specs.List.{filter, count_by}
use Rattle.std.proofs.lemmas.List.{append-nil}
use Rattle.std.proofs.lemmas.List.Sums.{sum_by-cons, count_by-le-length}
use Rattle.std.proofs.lemmas.Option.{slice_get_within}
use Rattle.tcmu_types.specs.Data.{CommandData, DoneData, SettingsData}
use Rattle.tcmu_types.specs.Events.{EventData, AnswerData, EntryData}
use Rattle.tcmu_types.specs.Events as ev
use Rattle.tcmu_types.specs.declared.answer.Submit.{Submit}
use Rattle.tcmu_types.specs.declared.answer.Submit.TheVariants as submit
use Rattle.tcmu_model.specs.Device.{Unfinished, Delayed, DeviceState, Device, opening}
use Rattle.tcmu_model.specs.MediumState.{MediumState}
use Rattle.tcmu_model.specs.Steps.{HandlerRelation, Makes, Step, Run}
use Rattle.tcmu_model.specs.Drain.{drain_event}
use Rattle.tcmu_model.specs.Events.{is_open}
use Rattle.tcmu_model.specs.Sound.{open_count, is_open_at, is_delayed_at, times_logged, times_open, IsSound}
use Rattle.scsi_model.specs.Scsi.{Serves}
use Rattle.text_model.specs.ScenarioData.{DeviceLineData}
use Rattle.tcmu_model.specs.Journals.{Has, WasAccepted, IsExplained}
use Rattle.tcmu_types.specs.Numbers.{Differ}
use Rattle.tcmu_types.specs.Lists.{Every}
use Rattle.tcmu_model.proofs.Accounts.{log_differs, each_once}
use Rattle.tcmu_model.proofs.Totals.{open_rest}
use Rattle.tcmu_model.proofs.Drained as emptied
use Rattle.tcmu_types.proofs.Everies.{every_at}
use Rattle.tcmu_model.proofs.Journals.{run_explains, entry_explains, handler_asked}
use Rattle.tcmu_model.proofs.Runs.{sound_run}
use Rattle.tcmu_model.proofs.Moments.{settings_run}
use Rattle.text_model.specs.Journals.{Journaled, is_of, RunLogs, entries_of}
use Rattle.tcmu_types.proofs.Readings.{same_some}
use Rattle.tcmu_types.proofs.Places.{get_within}
use Rattle.load_run.specs.Tallies.{size_in, GivesNext, RunNumbers}
use Rattle.load_run.proofs.Tallying.{numbered, counted}
use Rattle.text_laws.specs.Replays.{OpenAs}
use Rattle.text_laws.proofs.Accepted.{makes_accepts}
use Rattle.region_model.specs.Picture.{picture_of}
use Rattle.text_model.specs.Scenario.{scenario_limits}
use Rattle.text_model.specs.Printed.{entries_in}
use Rattle.text_model.proofs.PrintedJournals.{legal_entries}
use Rattle.text_model.proofs.ServedLaws.{scenario_served}
use Rattle.text_laws.proofs.Carried.{spelled_read}
use Rattle.text_laws.proofs.OneReading.{opened_sound}
use Rattle.text_laws.proofs.Replays.{opened_count, replay_asked, replay_journal}
use Rattle.tcmu_top.proofs.Opened.{open_as}
use Rattle.tcmu_top.specs.Laws.{completions_of, accepts, CompletesOnce, CommandsComplete, DevicesStay}
use Rattle.tcmu_top.proofs.Legal.{logs_run}

-- ---- what is logged

logs_all : (R : HandlerRelation) (d d' : Device) (js : List Journaled) → RunLogs R d js d' → d'.state.log ≡ d.state.log ++ completions_of js
logs_all R d d' [] run = ap (λ (x : Device). x.state.log) run ∙ sym (append-nil d.state.log)
logs_all R d d' (j ∷ js) run =
    logs_all R run.0 d' js run.3 ∙ ap (λ (log : List DoneData). log ++ completions_of js) run.2 ∙ append_assoc d.state.log j.completions (completions_of js)

-- where an entry stands in a run: the devices before and behind it
record StandsAt (R : HandlerRelation) (d : Device) (before : List Journaled) (j : Journaled) : Type 0 where
  here : Device
  next : Device
  run : RunLogs R d before here
  step : Step R here j.entry next
  logged : next.state.log ≡ here.state.log ++ j.completions

stands_at : (R : HandlerRelation) (d d' : Device) (before : List Journaled) (j : Journaled) (rest : List Journaled) → RunLogs R d (before ++ j ∷ rest) d' → StandsAt R d before j
stands_at R d d' [] j rest h = record { here = d; next = h.0; run = refl; step = h.1; logged = h.2 }
stands_at R d d' (k ∷ ks) j rest h =
    let there = stands_at R h.0 d' ks j rest h.3 in
    record { here = there.here; next = there.next; run = (h.0, h.1, h.2, there.run); step = there.step; logged = there.logged }

-- ---- what is accepted

run_numbers : (R : HandlerRelation) (d d' : Device) (es : List EntryData) → Run R d es d' → RunNumbers R d es d'
run_numbers R d d' [] run = run
run_numbers R d d' (e ∷ es) run =
    let accepts = makes_accepts R d run.0 e.event e.answer run.1.makes in
    let one = numbered R d run.0 e.event e.answer e.logged run.1.makes (record { least = accepts.least; most = accepts.most }) in
    (run.0, run.1, record { count = one.count; serial = one.serial }, run_numbers R run.0 d' es run.2)

-- a serial that was given
abbrev IsGiven : Device → ℕ → Type 0
IsGiven d s = (1 ≤ s) × (s ≤ d.state.accepted)

has_given : (R : HandlerRelation) (d d' : Device) (es : List EntryData) (c : CommandData) (a : Submit) (s : ℕ)
    → ((n : ℕ) → GivesNext n (ev.Submit c) (ev.Submitted a) → s ≡ n + 1) → length (size_in (ev.Submit c) (ev.Submitted a)) ≡ 1
    → RunNumbers R d es d' → Has es (ev.Submit c) (ev.Submitted a) → IsGiven d' s
has_given R d d' [] c a s next one run has = absurd has
has_given R d d' (e ∷ es) c a s next one run has =
    ⊎_elim (λ (is : (e.event ≡ ev.Submit c) × (e.answer ≡ ev.Submitted a)). first is)
    (λ (later : Has es (ev.Submit c) (ev.Submitted a)). has_given R run.0 d' es c a s next one run.3 later) has
  where
    first : (e.event ≡ ev.Submit c) × (e.answer ≡ ev.Submitted a) → IsGiven d' s
    first is =
        let n = d.state.accepted in
        let given : GivesNext n (ev.Submit c) (ev.Submitted a) =
        subst (λ (y : AnswerData). GivesNext n (ev.Submit c) y) is.1 (subst (λ (x : EventData). GivesNext n x e.answer) is.0 run.2.serial) in
        let sizes : size_in e.event e.answer ≡ size_in (ev.Submit c) (ev.Submitted a) =
        ap (λ (x : EventData). size_in x e.answer) is.0 ∙ ap (λ (y : AnswerData). size_in (ev.Submit c) y) is.1 in
        let count : run.0.state.accepted ≡ n + 1 = run.2.count ∙ ap (λ (k : ℕ). n + k) (ap (λ (l : List (Option ℕ)). length l) sizes ∙ one) in
        (omega (arith, next n given), omega (arith, next n given, count, counted R run.0 d' es run.3))

accepted_given : (R : HandlerRelation) (d d' : Device) (es : List EntryData) (s : ℕ) (c : CommandData) → RunNumbers R d es d' → WasAccepted es s c → IsGiven d' s
accepted_given R d d' es s c numbers was =
    ⊎_elim (λ (has : Has es (ev.Submit c) (ev.Submitted (submit.Queued s))). has_given R d d' es c (submit.Queued s) s (λ n h. h) refl numbers has)
    (λ (has : Has es (ev.Submit c) (ev.Submitted (submit.Delayed s))). has_given R d d' es c (submit.Delayed s) s (λ n h. h) refl numbers has) was

-- an event that is made accepts a command exactly where its answer says so
accepts_as : (R : HandlerRelation) (d d' : Device) (event : EventData) (a : AnswerData) → Makes R d event a d' → length (size_in event a) ≡ cond {A = ℕ} (accepts a) 1 0
accepts_as R d d' (ev.Submit c) (ev.Submitted (submit.Queued s)) h = refl
accepts_as R d d' (ev.Submit c) (ev.Submitted (submit.Delayed s)) h = refl
accepts_as R d d' (ev.Submit c) (ev.Submitted submit.Busy) h = refl
accepts_as R d d' (ev.Submit c) (ev.Submitted (submit.TooBig have limit)) h = refl
accepts_as R d d' (ev.Submit c) (ev.Submitted (submit.FullRing need free)) h = refl
accepts_as R d d' (ev.Submit c) (ev.Submitted (submit.FullBlocks need free)) h = refl
accepts_as R d d' ev.Dispatch (ev.Dispatched a) h = refl
accepts_as R d d' (ev.Handle s) (ev.Answered a) h = refl
accepts_as R d d' (ev.Respond s) (ev.Responded a) h = refl
accepts_as R d d' ev.Publish (ev.Published a) h = refl
accepts_as R d d' ev.Clean (ev.Logged n) h = refl
accepts_as R d d' (ev.Tick n) (ev.Logged count) h = refl
accepts_as R d d' ev.Block (ev.Changed b) h = refl
accepts_as R d d' ev.Unblock (ev.Changed b) h = refl
accepts_as R d d' (ev.Reset level) (ev.WasReset a) h = refl
accepts_as R d d' ev.Restart (ev.Lost n) h = refl
accepts_as R d d' (ev.Tmr kind ss) (ev.Noted a) h = refl
accepts_as R d d' ev.Stat (ev.Told a) h = refl
accepts_as R d d' ev.Enter (ev.Entered a) h = refl
accepts_as R d d' _ _ h = absurd h

accepted_count : (R : HandlerRelation) (d d' : Device) (es : List EntryData) → RunNumbers R d es d' → d'.state.accepted ≡ d.state.accepted + count_by (λ e. accepts e.answer) es
accepted_count R d d' [] run =
    let none : count_by (λ (e : EntryData). accepts e.answer) [] ≡ 0 = refl in
    omega (arith, ap (λ (x : Device). x.state.accepted) run, none)
accepted_count R d d' (e ∷ es) run =
    omega (arith, run.2.count, accepts_as R d run.0 e.event e.answer run.1.makes, sum_by-cons (λ (x : EntryData). cond {A = ℕ} (accepts x.answer) 1 0) e es, accepted_count R run.0 d' es run.3)

-- ---- what is left open

one_at_most : (same unanswered : Bool) → cond {A = ℕ} (same && unanswered) 1 0 ≤ cond {A = ℕ} unanswered 1 0
one_at_most true unanswered = omega arith
one_at_most false true = omega arith
one_at_most false false = omega arith

unfinished_at : (s : ℕ) (us : List Unfinished) → count_by (is_open_at s) us ≤ count_by is_open us
unfinished_at s [] =
    let none : count_by (is_open_at s) [] ≡ 0 = refl in
    omega (arith, none)
unfinished_at s (u ∷ us) =
    omega (arith, sum_by-cons (λ (v : Unfinished). cond {A = ℕ} (is_open_at s v) 1 0) u us, sum_by-cons (λ (v : Unfinished). cond {A = ℕ} (is_open v) 1 0) u us, one_at_most (nat_eq u.serial s) (is_open u), unfinished_at s us)

open_at : (d : DeviceState) (s : ℕ) → times_open d s ≤ open_count d
open_at d s = omega (arith, unfinished_at s d.unfinished, count_by-le-length (is_delayed_at s) d.delayed)

none_left : (d : DeviceState) → IsSound d → drain_event d ≡ None → d.attached ≡ true → open_count d ≡ 0
none_left d sound done attached =
    let none = emptied.drained d sound attached done in
    omega (arith, ap (λ (us : List Unfinished). count_by is_open us) none.0, ap (λ (ws : List Delayed). length ws) none.1)

-- ---- one device

-- a device that this line opens, over some medium
abbrev OpensAt : DeviceLineData → Device → Type 0
OpensAt l d = (medium : MediumState) × (d ≡ opening l.settings l.name medium)

pub completes_once : (R : HandlerRelation) (l : DeviceLineData) (d d' : Device) (js : List Journaled) → OpensAt l d → IsSound d.state → drain_event d'.state ≡ None → RunLogs R d js d' → CompletesOnce R l js d'
completes_once R l d d' js opened sound done run =
    let es = entries_of js in
    let made = logs_run R d d' js run in
    let sound' = sound_run R d d' es sound made in
    let log : d'.state.log ≡ completions_of js = logs_all R d d' js run ∙ ap (λ (x : Device). x.state.log ++ completions_of js) opened.1 in
    let numbers = run_numbers R d d' es made in
    let started : d.state.accepted ≡ 0 = ap (λ (x : Device). x.state.accepted) opened.1 in
    let explains = run_explains R l.settings l.name opened.0 es d' (subst (λ (x : Device). Run R x es d') opened.1 made) in
    let settings : d'.state.settings ≡ l.settings = settings_run R d d' es made ∙ ap (λ (x : Device). x.state.settings) opened.1 in
    let once : (s : ℕ) (c : CommandData) → WasAccepted es s c → times_logged (completions_of js) s + times_open d'.state s ≡ 1 =
    λ s c was.
    let given = accepted_given R d d' es s c numbers was in
    subst (λ (l : List DoneData). times_logged l s + times_open d'.state s ≡ 1) log (each_once d'.state s sound' given.0 given.1) in
    let at : (before rest : List Journaled) (j : Journaled) → js ≡ before ++ j ∷ rest → StandsAt R d before j =
    λ before rest j e. stands_at R d d' before j rest (subst (λ (xs : List Journaled). RunLogs R d xs d') e run) in
    let led : (before : List Journaled) (here : Device) → RunLogs R d before here → Run R (opening l.settings l.name opened.0) (entries_of before) here =
    λ before here r. subst (λ (x : Device). Run R x (entries_of before) here) opened.1 (logs_run R d here before r) in
    record {
      logged = log;
      differ = subst (λ (l : List DoneData). Differ (map (λ e. e.serial) l)) log (log_differs d'.state sound');
      explained = subst (λ (x : SettingsData). Every (IsExplained es x) (completions_of js)) settings (subst (Every (IsExplained es d'.state.settings)) log explains.log);
      caused = λ before rest j e. let x = at before rest j e in entry_explains R l.settings l.name opened.0 (entries_of before) x.here x.next j.entry j.completions (led before x.here x.run) x.step x.logged;
      served = λ before rest j serial reply e made answered. let x = at before rest j e in
          (x.here.medium, x.next.medium, handler_asked R l.settings l.name opened.0 (entries_of before) x.here x.next j.entry serial reply (led before x.here x.run) x.step made answered);
      once = once;
      complete = λ none s c was. omega (arith, none, once s c was, open_at d'.state s);
      count = omega (arith, ap (λ (l : List DoneData). length l) log, open_rest d'.state sound', accepted_count R d d' es numbers, started);
      none_open = none_left d'.state sound' done;
    }

-- ---- all devices

opens_at : (ls : List DeviceLineData) (ds : List Device) (at : ℕ) (l : DeviceLineData) (d : Device) → OpenAs ls ds → slice_get ls at ≡ Some l → slice_get ds at ≡ Some d → OpensAt l d
opens_at [] ds at l d h p q = absurd (cc)
opens_at (k ∷ ls) [] at l d h p q = absurd h
opens_at (k ∷ ls) (x ∷ ds) zero l d h p q =
    subst (λ (y : Device). OpensAt l y) (same_some x d q) (subst (λ (m : DeviceLineData). OpensAt m x) (same_some k l p) h.0)
opens_at (k ∷ ls) (x ∷ ds) (suc at) l d h p q = opens_at ls ds at l d h.1 p q

pub devices_stay : DevicesStay
devices_stay files bytes text s read is =
    let opens = open_as files s.devices is.opened is.opens in
    let journal = replay_journal Serves picture_of bytes text s is.opened read (scenario_served scenario_limits bytes s read).no_dumps opens is.replay in
    record { opened = opened_count s.devices is.opened opens; ends = journal.count; entries = journal.devices }

pub commands_complete : CommandsComplete
commands_complete files bytes text s read is at l d named found =
    let ds = is.opened in
    let js = entries_in is.replay.printed in
    let opens = open_as files s.devices ds is.opens in
    let asked = replay_asked Serves picture_of bytes text s ds read opens is.replay in
    let legal = legal_entries Serves picture_of ds is.replay.printed is.replay.ends is.replay.legal in
    let start = get_within ds at (omega (arith, slice_get_within is.replay.ends at d found, asked.count, opened_count s.devices ds opens)) in
    completes_once Serves l start.0 d (filter (is_of at) js) (opens_at s.devices ds at l start.0 opens named start.1)
    (every_at (λ (x : Device). IsSound x.state) ds at start.0 (opened_sound s.devices ds (spelled_read scenario_limits bytes s read) opens) start.1)
    (every_at (λ (x : Device). drain_event x.state ≡ None) is.replay.ends at d asked.rest found)
    (legal at start.0 d start.1 found)
