-- The text of a journal is a scenario, and the text of a replay of that scenario.
use Rattle.std.proofs.Common.{◌≡◌, ⊎_elim, ℕ, suc, ◌<◌, ◌≤◌, false, IsTrue, List, [], ◌∷◌, ◌++◌, length, All, Ok, refl, sym, ap, subst, ◌∙◌, arith}
use Rattle.std.specs.List.{flat_map, filter}
use Rattle.std.proofs.lemmas.List.Elements.{All-head, All-tail, All-nil, All-cons}
use Rattle.tcmu_types.specs.Naming.{is_name}
use Rattle.tcmu_types.specs.Rules.{IsCommand}
use Rattle.tcmu_types.specs.Data.{CommandData, DoneData, SettingsData}
use Rattle.tcmu_types.specs.Events.{EventData, AnswerData, EntryData}
use Rattle.tcmu_types.specs.Events as ev
use Rattle.tcmu_types.specs.declared.answer.Submit.{Submit}
use Rattle.tcmu_types.specs.declared.answer.Submit.TheVariants as submit
use Rattle.tcmu_model.specs.MediumState.{MediumState}
use Rattle.tcmu_model.specs.Device.{Device, opening}
use Rattle.tcmu_model.specs.Steps.{HandlerRelation, Makes, Submits, Run}
use Rattle.text_model.specs.ScenarioData.{DeviceLineData, LineData, ScenarioData}
use Rattle.text_model.specs.ScenarioRules.{IsLine}
use Rattle.text_model.specs.Scenario.{is_dump, scenario_limits, scenario_within, scenario_of}
use Rattle.text_model.specs.Printed.{entries_in, printed_text, Picture}
use Rattle.text_model.specs.Replay.{made, lines_of}
use Rattle.text_model.specs.Several.{ends_text, IsReplayOf}
use Rattle.text_model.specs.Text.{device_text}
use Rattle.tcmu_model.specs.Journals.{Has, WasAccepted}
use Rattle.tcmu_types.specs.Lists.{Every}
use Rattle.tcmu_types.proofs.Everies.{every-weaker, every-mapped, every_at}
use Rattle.tcmu_model.proofs.Journals.{run_senders, HasSender}
use Rattle.tcmu_model.proofs.SoundEvents.{sound_opening}
use Rattle.text_model.proofs.JournalSteps.{made_again}
use Rattle.text_model.proofs.PrintedJournals.{undumped, text_undumped, legal_undumped, legal_entries, entries_printed, DumpNothing, replays_entries, replays_undumped, replays_alone}
use Rattle.text_model.proofs.ScenarioLaws.{scenario_is}
use Rattle.text_model.proofs.ServedLaws.{scenario_served}
use Rattle.text_model.specs.Journals.{Journaled, is_of, RunLogs, entries_of}
use Rattle.tcmu_types.proofs.Places.{get_within}
use Rattle.text_laws.specs.Carried.{IsCarriedWhat}
use Rattle.text_laws.specs.Devices.{IsSpelledDevice}
use Rattle.text_laws.specs.Lines.{CarriesBytes}
use Rattle.text_laws.specs.Replays.{OpenAs, IsJournalOf, IsReadBack, IsReplayedAgain, IsScenarioAgain}
use Rattle.text_laws.proofs.Asked.{HasAccepted, IsAskable, IsWithinLines, IsAsked, replays_asked}
use Rattle.text_laws.proofs.Asks.{AsksCommand, run_asks}
use Rattle.text_laws.proofs.Carried.{carried_read, spelled_read}
use Rattle.text_laws.proofs.Kept.{replay_keeps}
use Rattle.text_laws.proofs.Legal.{run_entries, completions_keep, each_of}
use Rattle.text_laws.proofs.Reading.{reads_whole}
use Rattle.text_laws.proofs.WholeLines.{Named}

-- ---- the initiators of completions are names

has_command : (R : HandlerRelation) (d d' : Device) (es : List EntryData) (c : CommandData) (a : Submit) → Run R d es d' → Has es (ev.Submit c) (ev.Submitted a) → IsCommand c
has_command R d d' [] c a r h = absurd h
has_command R d d' (e ∷ es) c a r h =
    ⊎_elim (λ (x : (e.event ≡ ev.Submit c) × (e.answer ≡ ev.Submitted a)). first x) (λ (x : Has es (ev.Submit c) (ev.Submitted a)). has_command R r.0 d' es c a r.2 x) h
  where
    first : (e.event ≡ ev.Submit c) × (e.answer ≡ ev.Submitted a) → IsCommand c
    first x =
        let asked = subst (λ (w : EventData). Makes R d w e.answer r.0) x.0 r.1.makes in
        let submits : Submits d c a r.0 = subst (λ (w : AnswerData). Makes R d (ev.Submit c) w r.0) x.1 asked in
        submits.command

accepted_command : (R : HandlerRelation) (d d' : Device) (es : List EntryData) (s : ℕ) (c : CommandData) → Run R d es d' → WasAccepted es s c → IsCommand c
accepted_command R d d' es s c r h =
    ⊎_elim (λ (x : Has es (ev.Submit c) (ev.Submitted (submit.Queued s))). has_command R d d' es c (submit.Queued s) r x)
    (λ (x : Has es (ev.Submit c) (ev.Submitted (submit.Delayed s))). has_command R d d' es c (submit.Delayed s) r x) h

log_named : (R : HandlerRelation) (s : SettingsData) (name : List ℕ) (medium : MediumState) (es : List EntryData) (d : Device) → Run R (opening s name medium) es d → Every Named d.state.log
log_named R s name medium es d r = every-weaker (HasSender es) Named d.state.log named (run_senders R s name medium es d r)
  where
    named : (e : DoneData) → HasSender es e → Named e
    named e k =
        let is = accepted_command R (opening s name medium) d es e.serial k.0 r k.1 in
        subst (λ (i : List ℕ). IsTrue (is_name i)) (sym k.2) is.init

-- ---- devices as they open

pub opened_count : (ls : List DeviceLineData) (opened : List Device) → OpenAs ls opened → length opened ≡ length ls
opened_count [] [] h = refl
opened_count [] (d ∷ ds) h = absurd h
opened_count (l ∷ ls) [] h = absurd h
opened_count (l ∷ ls) (d ∷ ds) h = ap suc (opened_count ls ds h.1)

-- the device of this number opened by some line
abbrev Opened : Device → Type 0
Opened d = (l : DeviceLineData) × (medium : MediumState) × (d ≡ opening l.settings l.name medium)

each_opened : (ls : List DeviceLineData) (opened : List Device) → OpenAs ls opened → Every Opened opened
each_opened [] [] h = tt
each_opened [] (d ∷ ds) h = absurd h
each_opened (l ∷ ls) [] h = absurd h
each_opened (l ∷ ls) (d ∷ ds) h = ((l, h.0.0, h.0.1), each_opened ls ds h.1)

pub accepted_none : (ls : List DeviceLineData) (opened : List Device) → Every IsSpelledDevice ls → OpenAs ls opened → Every (HasAccepted 0) opened
accepted_none [] [] sp h = tt
accepted_none [] (d ∷ ds) sp h = absurd h
accepted_none (l ∷ ls) [] sp h = absurd h
accepted_none (l ∷ ls) (d ∷ ds) sp h =
    (subst (HasAccepted 0) (sym h.0.1) (record { sound = sound_opening l.settings sp.0.line.settings; few = omega arith }), accepted_none ls ds sp.1 h.1)

-- ---- what a journal tells of its completions and commands

run_named : (R : HandlerRelation) (d d' : Device) (js : List Journaled) → Opened d → RunLogs R d js d' → Every (λ j. Every Named j.completions) js
run_named R d d' js o run =
    let started = subst (λ (x : Device). RunLogs R x js d') o.2 run in
    let log = log_named R o.0.settings o.0.name o.1 (entries_of js) d' (run_entries R (opening o.0.settings o.0.name o.1) d' js started) in
    (completions_keep R Named (opening o.0.settings o.0.name o.1) d' js started log).0

pub journal_named : (R : HandlerRelation) (ls : List DeviceLineData) (opened : List Device) (js : List Journaled) (ends : List Device) (text : List ℕ) → IsJournalOf R ls opened js ends text → Every (λ j. Every Named j.completions) js
journal_named R ls opened js ends text is = each_of (λ (j : Journaled). j.entry.device) (λ j. Every Named j.completions) (length ls) js is.devices own
  where
    own : (k : ℕ) → k < length ls → Every (λ j. Every Named j.completions) (filter (is_of k) js)
    own k lt =
        let first = get_within opened k (omega (arith, lt, opened_count ls opened is.opens)) in
        let last = get_within ends k (omega (arith, lt, is.count)) in
        run_named R first.0 last.0 (filter (is_of k) js) (every_at Opened opened k first.0 (each_opened ls opened is.opens) first.1) (is.legal k first.0 last.0 first.1 last.1)

pub journal_asks : (R : HandlerRelation) (ls : List DeviceLineData) (opened : List Device) (js : List Journaled) (ends : List Device) (text : List ℕ) → IsJournalOf R ls opened js ends text → Every (λ j. AsksCommand j.entry.event) js
journal_asks R ls opened js ends text is = each_of (λ (j : Journaled). j.entry.device) (λ j. AsksCommand j.entry.event) (length ls) js is.devices own
  where
    own : (k : ℕ) → k < length ls → Every (λ j. AsksCommand j.entry.event) (filter (is_of k) js)
    own k lt =
        let first = get_within opened k (omega (arith, lt, opened_count ls opened is.opens)) in
        let last = get_within ends k (omega (arith, lt, is.count)) in
        run_asks R first.0 last.0 (filter (is_of k) js) (is.legal k first.0 last.0 first.1 last.1)

-- ---- the text is a scenario

within_limits : (ls : List DeviceLineData) (js : List Journaled) → All (IsLine ls) (lines_of (entries_of js)) → Every (λ e. CarriesBytes e.event) (entries_of js) → Every (λ j. IsWithinLines (length ls) j.entry) js
within_limits ls [] all bytes = tt
within_limits ls (j ∷ js) all bytes =
    let first = All-head (IsLine ls) (made j.entry.device j.entry.event) (lines_of (entries_of js)) all in
    (record { device = first.device; event = first.what; bytes = bytes.0 }, within_limits ls js (All-tail (IsLine ls) (made j.entry.device j.entry.event) (lines_of (entries_of js)) all) bytes.1)

pub read_back : (R : HandlerRelation) → IsReadBack R
read_back R limits ls opened js ends text spelled is keeps =
    let within = within_limits ls js keeps.scenario.lines keeps.bytes in
    ap (scenario_within limits) is.whole
    ∙ reads_whole limits ls js ends spelled keeps.scenario within (journal_named R ls opened js ends text is) (subst (λ (t : List ℕ). length t ≤ limits.bytes) is.whole keeps.size)

-- ---- the events make the same entries

-- no line of an event is a dump
lines_dump_nothing : (es : List EntryData) → DumpNothing (lines_of es)
lines_dump_nothing [] = All-nil (λ l. is_dump l ≡ false)
lines_dump_nothing (e ∷ es) = All-cons (λ l. is_dump l ≡ false) (made e.device e.event) (lines_of es) refl (lines_dump_nothing es)

pub replayed_again : (R : HandlerRelation) → IsReplayedAgain R
replayed_again R picture ls opened js ends text is done =
    let same = opened_count ls opened is.opens in
    let events = made_again R opened js ends (is.count ∙ sym same) (subst (λ (n : ℕ). Every (λ (x : Journaled). x.entry.device < n) js) (sym same) is.devices) is.legal done in
    record {
      printed = undumped js;
      ends = ends;
      replays = replays_undumped R opened ends (lines_of (entries_of js)) js (lines_dump_nothing (entries_of js)) events;
      legal = legal_undumped R picture opened js ends is.legal;
      whole = is.whole ∙ ap (λ (t : List ℕ). flat_map device_text ls ++ t ++ ends_text ls ends) (sym (text_undumped ls js));
    }

-- ---- replays of scenarios

askable : (ds : List DeviceLineData) (ls : List LineData) → All (IsLine ds) ls → Every (λ l. IsCarriedWhat l.what) ls → Every IsAskable ls
askable ds [] all carried = tt
askable ds (l ∷ ls) all carried =
    let first = All-head (IsLine ds) l ls all in
    ((first.what, carried.0), askable ds ls (All-tail (IsLine ds) l ls all) carried.1)

pub replay_asked : (R : HandlerRelation) (picture : Picture) (bytes text : List ℕ) (s : ScenarioData) (opened : List Device) → scenario_of bytes ≡ Ok s → OpenAs s.devices opened → (is : IsReplayOf R picture s.devices opened s.lines text)
    → IsAsked (length s.devices) (entries_printed is.printed) s.lines is.ends
replay_asked R picture bytes text s opened read opens is =
    let limits = scenario_is scenario_limits bytes s read in
    let events = replays_entries R opened is.ends s.lines is.printed is.replays in
    let asked = replays_asked R 0 opened is.ends s.lines (entries_printed is.printed) (omega (arith, limits.few_lines)) (accepted_none s.devices opened (spelled_read scenario_limits bytes s read) opens)
    (askable s.devices s.lines limits.lines (carried_read scenario_limits bytes s read)) events in
    subst (λ (n : ℕ). IsAsked n (entries_printed is.printed) s.lines is.ends) (opened_count s.devices opened opens) asked

-- where no line is a dump, what is printed is a journal
pub replay_journal : (R : HandlerRelation) (picture : Picture) (bytes text : List ℕ) (s : ScenarioData) (opened : List Device) → scenario_of bytes ≡ Ok s → DumpNothing s.lines → OpenAs s.devices opened → (is : IsReplayOf R picture s.devices opened s.lines text)
    → IsJournalOf R s.devices opened (entries_in is.printed) is.ends text
replay_journal R picture bytes text s opened read dumpless opens is =
    let asked = replay_asked R picture bytes text s opened read opens is in
    let journal = entries_in is.printed in
    let alone = replays_alone R opened is.ends s.lines is.printed dumpless is.replays in
    record {
      opens = opens;
      count = asked.count;
      devices = every-mapped (λ (j : Journaled). j.entry) (λ (e : EntryData). e.device < length s.devices) journal (every-weaker (IsWithinLines (length s.devices)) (λ (e : EntryData). e.device < length s.devices) (entries_of journal) (λ e h. h.device) asked.entries);
      legal = legal_entries R picture opened is.printed is.ends is.legal;
      whole = is.whole ∙ ap (λ (t : List ℕ). flat_map device_text s.devices ++ t ++ ends_text s.devices is.ends) (ap (flat_map (printed_text s.devices)) alone ∙ text_undumped s.devices journal);
    }

as_many : (js : List Journaled) → length (entries_of js) ≡ length js
as_many [] = refl
as_many (j ∷ js) = ap suc (as_many js)

pub scenario_again : (R : HandlerRelation) → IsScenarioAgain R
scenario_again R picture bytes text s opened read opens is size few =
    let dumpless = (scenario_served scenario_limits bytes s read).no_dumps in
    let js = entries_in is.printed in
    let asked = replay_asked R picture bytes text s opened read opens is in
    let journal = replay_journal R picture bytes text s opened read dumpless opens is in
    let kept = replay_keeps s (entries_of js) (scenario_is scenario_limits bytes s read) asked.entries asked.sends_these (omega (arith, few, as_many js)) in
    let bytes_are = every-weaker (IsWithinLines (length s.devices)) (λ (e : EntryData). CarriesBytes e.event) (entries_of js) (λ e h. h.bytes) asked.entries in (
      read_back R scenario_limits s.devices opened js is.ends text (spelled_read scenario_limits bytes s read) journal (record { size = size; scenario = kept; bytes = bytes_are }),
      replayed_again R picture s.devices opened js is.ends text journal asked.rest,
    )
