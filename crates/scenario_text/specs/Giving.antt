-- What a reader answers is what reading gives, but where memory was wanting.
use Rattle.std.specs.Prelude.{◌≡◌, ◌<◌, length, Result, Ok, Err}
use Rattle.text_model.specs.declared.faults.Why.{Why}
use Rattle.text_model.specs.ScenarioData.{ScenarioData}
use Rattle.text_model.specs.Said.{Said, SaysDevice, SaysLine}
use Rattle.text_model.specs.Scenario.{Bad}
use Rattle.scenario_text.specs.Counts.{IsNewName}
use Rattle.scenario_text.specs.declared.kinds.LineFault.{LineFault}
use Rattle.scenario_text.specs.declared.kinds.LineFault.TheVariants as line
use Rattle.scenario_text.specs.declared.kinds.ScenarioFault.{ScenarioFault}
use Rattle.scenario_text.specs.declared.kinds.ScenarioFault.TheVariants as whole
use Rattle.scenario_text.specs.declared.said.SaidLine.{SaidLine}
use Rattle.scenario_text.specs.declared.said.SaidLine.TheVariants as said

-- of one line
abbrev pub LineFails : {Y : Type 0} → LineFault → Result Y Why → Type 0
LineFails line.NoMemory read = Unit {0}
LineFails (line.Bad why) read = read ≡ Err why

abbrev pub LineGives : {X Y : Type 0} → (X → Y) → Result X LineFault → Result Y Why → Type 0
LineGives view (Ok x) read = read ≡ Ok (view x)
LineGives view (Err e) read = LineFails e read

-- of a whole text
abbrev pub Fails : {Y : Type 0} → ScenarioFault → Result Y Bad → Type 0
Fails whole.NoMemory read = Unit {0}
Fails (whole.Bad line why) read = read ≡ Err (record { line = line; why = why })

abbrev pub Gives : {Y : Type 0} → Result Y ScenarioFault → Result Y Bad → Type 0
Gives (Ok x) read = read ≡ Ok x
Gives (Err e) read = Fails e read

abbrev pub said_data : SaidLine → Said
said_data (said.Device d) = SaysDevice d
said_data (said.Line l) = SaysLine l

-- a device with a new name, or a line of a device that is there
abbrev pub HasPlace : ScenarioData → Said → Type 0
HasPlace s (SaysDevice d) = IsNewName s d
HasPlace s (SaysLine l) = l.device < length s.devices
