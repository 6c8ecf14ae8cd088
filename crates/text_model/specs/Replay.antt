-- What a line of a scenario asks for of its device: which entries are made, and what is printed.
use Rattle.std.specs.Prelude.{◌≡◌, ℕ, List, [], ◌∷◌, map}
use Rattle.tcmu_types.specs.Dumps.{DumpData}
use Rattle.tcmu_types.specs.Events.{EventData, EntryData}
use Rattle.tcmu_model.specs.Device.{Device}
use Rattle.tcmu_model.specs.Steps.{HandlerRelation, Step}
use Rattle.tcmu_model.specs.Drain.{Drains}
use Rattle.text_model.specs.Journals.{Journaled, entries_of}
use Rattle.text_model.specs.Printed.{Printed, AnEntry, ADump}
use Rattle.text_model.specs.ScenarioData.{LineWhat, LineData}
use Rattle.text_model.specs.ScenarioData as line

-- the line that makes an event of the device of this number
abbrev pub made : ℕ → EventData → LineData
made at e = record { device = at; what = line.EventLine e }

-- the lines that make the events of these entries, each on its own device
abbrev pub lines_of : List EntryData → List LineData
lines_of es = map (λ e. made e.device e.event) es

-- what comes of a line on the device of a number: the device before, the line, a list of what comes, the device after
abbrev pub LineRelation : Type 0 → Type 1
LineRelation X = ℕ → Device → LineWhat → List X → Device → Type 0

-- the entries that a line asks for: its event, or the events of a drain; a dump makes none
abbrev pub Plays : HandlerRelation → LineRelation EntryData
Plays R device d (line.EventLine event) es d' =
    (e : EntryData) × (e.device ≡ device) × (e.event ≡ event) × Step R d e d' × (es ≡ e ∷ [])
Plays R device d line.DrainLine es d' = Drains R device d es d'
Plays R device d line.DumpLine es d' = (es ≡ []) × (d' ≡ d)

-- these are the entries that a line asks for, with some completions
pub record PrintsEntries (R : HandlerRelation) (device : ℕ) (d : Device) (what : LineWhat) (ps : List Printed) (d' : Device) : Type 0 where
  pub journal : List Journaled
  pub are : ps ≡ map AnEntry journal
  pub plays : Plays R device d what (entries_of journal) d'

-- this is some dump
pub record PrintsDump (device : ℕ) (d : Device) (ps : List Printed) (d' : Device) : Type 0 where
  pub dump : DumpData
  pub is : ps ≡ ADump device dump ∷ []
  pub same : d' ≡ d

-- what is printed for a line: the entries that it asks for, or a dump
abbrev pub Prints : HandlerRelation → LineRelation Printed
Prints R device d (line.EventLine event) ps d' = PrintsEntries R device d (line.EventLine event) ps d'
Prints R device d line.DrainLine ps d' = PrintsEntries R device d line.DrainLine ps d'
Prints R device d line.DumpLine ps d' = PrintsDump device d ps d'
