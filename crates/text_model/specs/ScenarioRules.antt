-- What every config, every scenario and every script keeps that is read.
use Rattle.std.specs.Prelude.{◌≡◌, ◌≢◌, ℕ, ◌<◌, ◌≤◌, true, false, IsTrue, List, length}
use Rattle.std.specs.List.{All, AllPairs, count_by, sum_by}
use Rattle.tcmu_types.specs.Naming.{is_name}
use Rattle.tcmu_types.specs.Rules.{IsCommand, IsSettings}
use Rattle.tcmu_types.specs.Events.{EventData}
use Rattle.tcmu_types.specs.Events as ev
use Rattle.tcmu_types.specs.Decimals.{IsRisingTo, IsWithin}
use Rattle.text_model.specs.Config.{ConfigData, MediumData, InMemory, InFile, is_file_name}
use Rattle.text_model.specs.ScenarioData.{DeviceLineData, LineWhat, EventLine, DrainLine, DumpLine, LineData, ScenarioData}
use Rattle.text_model.specs.Said.{same_file}
use Rattle.text_model.specs.Scenario.{scenario_limits, is_dump, is_event, small_at, bytes_in, bytes_out, initiators}
use Rattle.text_model.specs.Script.{InitLineData, ScriptData, is_admin}
use Rattle.text_model.specs.declared.limits.Limits.{Limits}

-- ==== configs

-- logical blocks of memory, or the name of a file
abbrev pub IsMedium : MediumData → Type 0
IsMedium (InMemory blocks) = IsWithin 1 32768 blocks
IsMedium (InFile name) = IsTrue (is_file_name name)

pub record IsConfig (c : ConfigData) : Type 0 where
  pub hba : c.hba ≤ 65535
  pub name : IsTrue (is_name c.name)
  pub medium : IsMedium c.kind
  pub fails : IsRisingTo 1000000 c.fails

-- ==== scenarios

pub record IsDeviceLine (d : DeviceLineData) : Type 0 where
  pub name : IsTrue (is_name d.name)
  pub config : IsConfig d.config
  pub config_name : d.config.name ≡ d.name
  pub settings : IsSettings d.settings

-- a task management function of SAM-5 over rising serials
pub record IsNote (kind : ℕ) (serials : List ℕ) : Type 0 where
  pub known : IsWithin 1 7 kind
  pub rising : IsRisingTo 1000000000 serials

abbrev pub IsEvent : EventData → Type 0
IsEvent (ev.Submit command) = IsCommand command
IsEvent (ev.Handle serial) = IsWithin 1 1000000000 serial
IsEvent (ev.Respond serial) = IsWithin 1 1000000000 serial
IsEvent (ev.Tick n) = n ≤ 1000000
IsEvent (ev.Reset level) = IsWithin 1 2 level
IsEvent (ev.Tmr kind serials) = IsNote kind serials
IsEvent ev.Dispatch = Unit {0}
IsEvent ev.Publish = Unit {0}
IsEvent ev.Clean = Unit {0}
IsEvent ev.Block = Unit {0}
IsEvent ev.Unblock = Unit {0}
IsEvent ev.Restart = Unit {0}
IsEvent ev.Stat = Unit {0}
IsEvent ev.Enter = Unit {0}

abbrev pub IsWhat : LineWhat → Type 0
IsWhat (EventLine event) = IsEvent event
IsWhat DrainLine = Unit {0}
IsWhat DumpLine = Unit {0}

-- a line of one of these devices
pub record IsLine (ds : List DeviceLineData) (l : LineData) : Type 0 where
  pub device : l.device < length ds
  pub what : IsWhat l.what
  pub dumped : is_dump l ≡ true → small_at ds l.device ≡ true

pub record IsScenarioWithin (limits : Limits) (s : ScenarioData) : Type 0 where
  pub few_devices : length s.devices ≤ 16
  pub devices : All IsDeviceLine s.devices
  pub names : AllPairs (λ d e. d.name ≢ e.name) s.devices
  pub files : AllPairs (λ d e. same_file d.config.kind e.config.kind ≡ false) s.devices
  pub few_lines : length s.lines ≤ limits.lines
  pub few_events : count_by is_event s.lines ≤ limits.events
  pub lines : All (IsLine s.devices) s.lines
  pub few_initiators : (device : ℕ) → length (initiators device s.lines) ≤ 16
  pub few_dumps : count_by is_dump s.lines ≤ 16
  pub few_in : sum_by bytes_in s.lines ≤ 67108864
  pub few_out : sum_by bytes_out s.lines ≤ 67108864

abbrev pub IsScenario : ScenarioData → Type 0
IsScenario s = IsScenarioWithin scenario_limits s

-- an event within its limits, or a drain; dumps are not served yet
abbrev pub IsFit : LineWhat → Type 0
IsFit (EventLine event) = IsEvent event
IsFit DrainLine = Unit {0}
IsFit DumpLine = ⊥

-- a line that is served, of one of so many devices
pub record IsFitFor (devices : ℕ) (l : LineData) : Type 0 where
  pub device : l.device < devices
  pub what : IsFit l.what

-- What is served so far: no dumps.
pub record IsServed (s : ScenarioData) : Type 0 where
  pub no_dumps : All (λ l. is_dump l ≡ false) s.lines

-- ==== scripts

-- what one initiator sends, under its own name
pub record IsInitLine (i : InitLineData) : Type 0 where
  pub few : length i.commands ≤ 20000
  pub own : All (λ c. c.init ≡ i.name) i.commands
  pub commands : All IsCommand i.commands

-- what the administration does
pub record IsAdminEvent (e : EventData) : Type 0 where
  pub kind : is_admin e ≡ true
  pub event : IsEvent e

pub record IsScript (x : ScriptData) : Type 0 where
  pub few : length x.inits ≤ 16
  pub names : AllPairs (λ i j. i.name ≢ j.name) x.inits
  pub inits : All IsInitLine x.inits
  pub few_admin : length x.admin ≤ 20000
  pub admin : All IsAdminEvent x.admin
