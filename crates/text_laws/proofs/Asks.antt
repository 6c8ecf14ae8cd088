-- A command that is submitted keeps the rules of commands on every legal journal.
use Rattle.std.proofs.Common.{List, [], ◌∷◌, arith}
use Rattle.tcmu_types.specs.Rules.{IsCommand}
use Rattle.tcmu_types.specs.Events.{EventData, AnswerData}
use Rattle.tcmu_types.specs.Events as ev
use Rattle.tcmu_model.specs.Device.{Device}
use Rattle.text_model.specs.ScenarioRules.{IsEvent}
use Rattle.tcmu_types.specs.Lists.{Every}
use Rattle.tcmu_model.specs.Steps.{HandlerRelation, Makes}
use Rattle.text_model.specs.Journals.{Journaled, RunLogs}
use Rattle.text_laws.specs.Lines.{CarriesBytes}
use Rattle.text_laws.specs.Values.{IsEventValue}
use Rattle.text_laws.proofs.Lists.{rising_numbers}

-- the command of a submit is one
abbrev pub AsksCommand : EventData → Type 0
AsksCommand (ev.Submit c) = IsCommand c
AsksCommand _ = Unit {0}

-- ---- events within the limits of lines

pub line_asks : (e : EventData) → IsEvent e → AsksCommand e
line_asks (ev.Submit c) is = is
line_asks ev.Dispatch is = tt
line_asks (ev.Handle s) is = tt
line_asks (ev.Respond s) is = tt
line_asks ev.Publish is = tt
line_asks ev.Clean is = tt
line_asks ev.Enter is = tt
line_asks (ev.Tick n) is = tt
line_asks ev.Block is = tt
line_asks ev.Unblock is = tt
line_asks (ev.Reset n) is = tt
line_asks ev.Restart is = tt
line_asks (ev.Tmr k ss) is = tt
line_asks ev.Stat is = tt

pub line_value : (e : EventData) → IsEvent e → CarriesBytes e → IsEventValue e
line_value (ev.Submit c) is h = h
line_value ev.Dispatch is h = tt
line_value (ev.Handle s) is h = omega (arith, is.most)
line_value (ev.Respond s) is h = omega (arith, is.most)
line_value ev.Publish is h = tt
line_value ev.Clean is h = tt
line_value ev.Enter is h = tt
line_value (ev.Tick n) is h = omega (arith, is)
line_value ev.Block is h = tt
line_value ev.Unblock is h = tt
line_value (ev.Reset n) is h = omega (arith, is.most)
line_value ev.Restart is h = tt
line_value (ev.Tmr k ss) is h = (omega (arith, is.known.most), rising_numbers ss is.rising)
line_value ev.Stat is h = tt

-- ---- events that are made

makes_asks : (R : HandlerRelation) (d d' : Device) (e : EventData) (a : AnswerData) → Makes R d e a d' → AsksCommand e
makes_asks R d d' (ev.Submit c) (ev.Submitted a) h = h.command
makes_asks R d d' (ev.Submit c) _ h = absurd h
makes_asks R d d' ev.Dispatch a h = tt
makes_asks R d d' (ev.Handle s) a h = tt
makes_asks R d d' (ev.Respond s) a h = tt
makes_asks R d d' ev.Publish a h = tt
makes_asks R d d' ev.Clean a h = tt
makes_asks R d d' ev.Enter a h = tt
makes_asks R d d' (ev.Tick n) a h = tt
makes_asks R d d' ev.Block a h = tt
makes_asks R d d' ev.Unblock a h = tt
makes_asks R d d' (ev.Reset n) a h = tt
makes_asks R d d' ev.Restart a h = tt
makes_asks R d d' (ev.Tmr k ss) a h = tt
makes_asks R d d' ev.Stat a h = tt

pub run_asks : (R : HandlerRelation) (d d' : Device) (js : List Journaled) → RunLogs R d js d' → Every (λ j. AsksCommand j.entry.event) js
run_asks R d d' [] r = tt
run_asks R d d' (j ∷ js) r = (makes_asks R d r.0 j.entry.event j.entry.answer r.1.makes, run_asks R r.0 d' js r.3)
