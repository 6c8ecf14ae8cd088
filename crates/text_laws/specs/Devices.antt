-- What is written of a device line is read again.
use Rattle.std.specs.Prelude.{◌≡◌, ℕ, ◌++◌, false, List, codes}
use Rattle.std.specs.List.{list_any}
use Rattle.text_model.specs.ScenarioData.{DeviceLineData, ScenarioData}
use Rattle.text_model.specs.ScenarioRules.{IsDeviceLine}
use Rattle.text_model.specs.Said.{has_name, same_file, SaysDevice}
use Rattle.text_model.specs.Scenario.{with_said, with_text}
use Rattle.text_model.specs.Text.{device_spelling}
use Rattle.text_model.specs.declared.limits.Limits.{Limits}
use Rattle.text_laws.specs.Configs.{FileLacks, IsSpelledConfig}

-- A device that has a line: its config has a text, in which no `#` stands.
pub record IsSpelledDevice (d : DeviceLineData) : Type 0 where
  pub line : IsDeviceLine d
  pub config : IsSpelledConfig d.config
  pub file : FileLacks 35 d.config.kind

-- a device with a name and a file of its own
pub record IsNew (s : ScenarioData) (d : DeviceLineData) : Type 0 where
  pub name : list_any (has_name d.name) s.devices ≡ false
  pub file : list_any (λ e. same_file e.config.kind d.config.kind) s.devices ≡ false

-- The line of a new device is the device's line; what stands behind it is a comment.
abbrev pub DevicesAgain : Type 0
DevicesAgain =
    (limits : Limits) (s : ScenarioData) (d : DeviceLineData) (answer : List ℕ)
    → IsSpelledDevice d → IsNew s d → with_text limits s (device_spelling d ++ (codes " # " ++ answer)) ≡ with_said limits s (SaysDevice d)
