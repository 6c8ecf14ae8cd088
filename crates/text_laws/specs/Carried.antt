-- What a scenario that is read carries, within whichever limits it is read.
use Rattle.std.specs.Prelude.{◌≡◌, ℕ, List, Ok}
use Rattle.tcmu_types.specs.Lists.{Every}
use Rattle.text_model.specs.ScenarioData.{LineWhat, EventLine, DrainLine, DumpLine, ScenarioData}
use Rattle.text_model.specs.Scenario.{scenario_within}
use Rattle.text_model.specs.declared.limits.Limits.{Limits}
use Rattle.text_laws.specs.Lines.{CarriesBytes}
use Rattle.text_laws.specs.Devices.{IsSpelledDevice}

abbrev pub IsCarriedWhat : LineWhat → Type 0
IsCarriedWhat (EventLine e) = CarriesBytes e
IsCarriedWhat DrainLine = Unit {0}
IsCarriedWhat DumpLine = Unit {0}

-- The bytes of every command that is read are bytes, and its tag is a number of 32 bits.
abbrev pub CarriedRead : Type 0
CarriedRead = (limits : Limits) (bytes : List ℕ) (s : ScenarioData) → scenario_within limits bytes ≡ Ok s → Every (λ l. IsCarriedWhat l.what) s.lines

-- Every device line that is read has a spelling: its config is one that has a text.
abbrev pub SpelledRead : Type 0
SpelledRead = (limits : Limits) (bytes : List ℕ) (s : ScenarioData) → scenario_within limits bytes ≡ Ok s → Every IsSpelledDevice s.devices
