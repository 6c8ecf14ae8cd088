-- What a scenario says: its devices, and then its lines.
use Rattle.std.specs.Prelude.{ℕ, List, Option, Some, None}
use Rattle.tcmu_types.specs.Data.{CommandData, SettingsData}
use Rattle.tcmu_types.specs.Events.{EventData}
use Rattle.tcmu_types.specs.Events as ev
use Rattle.tcmu_model.specs.MediumState.{MediumState}
use Rattle.tcmu_model.specs.Device.{Device, opening}
use Rattle.text_model.specs.Config.{ConfigData}

pub record DeviceLineData : Type 0 where
  pub name : List ℕ
  pub config : ConfigData
  pub settings : SettingsData

-- the device of a device line as it opens over a medium: by its name and its settings, with no commands
abbrev pub opened_as : DeviceLineData → MediumState → Device
opened_as l medium = opening l.settings l.name medium

pub data LineWhat : Type 0 where
  EventLine : EventData → LineWhat
  DrainLine : LineWhat
  DumpLine : LineWhat

-- a line that is no device line, with the number of its device
pub record LineData : Type 0 where
  pub device : ℕ
  pub what : LineWhat

pub record ScenarioData : Type 0 where
  pub devices : List DeviceLineData
  pub lines : List LineData

-- the command of a submit line
abbrev pub command_of : LineData → Option CommandData
command_of l = elim (l.what) [ EventLine e ↦ elim e [ ev.Submit c ↦ Some c | _ ↦ None ] | DrainLine ↦ None | DumpLine ↦ None ]
