-- What a line says, by its fields from left to right, behind the devices that are there.
use Rattle.std.specs.Prelude.{ℕ, ◌*◌, ◌%◌, Bool, false, ◌&&◌, not, List, [], Option, Some, None, Result, Ok, Err, nat_le, ◌==◌, bytes_eq}
use Rattle.std.specs.List.{list_any, position}
use Rattle.std.specs.Option.{option_and_then, option_map, ok_or}
use Rattle.tcmu_types.specs.Naming.{is_name}
use Rattle.tcmu_types.specs.Data.{SettingsData}
use Rattle.tcmu_types.specs.Rules.{is_directed}
use Rattle.tcmu_types.specs.Events.{EventData}
use Rattle.tcmu_types.specs.Events as ev
use Rattle.tcmu_types.specs.Reading.{◌>>=◌}
use Rattle.text_model.specs.Fields.{name_of, cdb_of, runs_of, flags_of, serials_of}
use Rattle.tcmu_types.specs.Decimals.{number_of}
use Rattle.tcmu_types.specs.Fields.{only_if}
use Rattle.text_model.specs.Config.{ConfigData, MediumData, InMemory, InFile, config_of}
use Rattle.text_model.specs.Lines.{one_field, two_fields, three_fields, submit_fields, PayloadField, NoPayload, InBytes, OutRuns, DeviceFields, device_fields}
use Rattle.text_model.specs.ScenarioData.{DeviceLineData, LineWhat, EventLine, DrainLine, DumpLine, LineData, ScenarioData}
use Rattle.text_model.specs.declared.faults.Why.{Why}
use Rattle.text_model.specs.declared.faults.Why.TheVariants as why
use Rattle.text_model.specs.declared.words.Verb.{Verb}
use Rattle.text_model.specs.declared.words.Verb.TheVariants as verb

-- ---- the devices that are there

abbrev pub has_name : List ℕ → DeviceLineData → Bool
has_name name d = bytes_eq d.name name

-- the number of the device of this name
abbrev pub device_at : ScenarioData → List ℕ → Option ℕ
device_at s name = position (has_name name) s.devices

-- the name of a device that is not there
unfoldable pub new_name : ScenarioData → List ℕ → Option (List ℕ)
new_name s text = only_if (λ name. is_name name && not (list_any (has_name name) s.devices)) text

-- both lie in one file
abbrev pub same_file : MediumData → MediumData → Bool
same_file (InFile a) (InFile b) = bytes_eq a b
same_file (InFile a) (InMemory n) = false
same_file (InMemory n) b = false

-- it has this name, and a file of its own
abbrev pub is_own : ScenarioData → List ℕ → ConfigData → Bool
is_own s name c = bytes_eq c.name name && not (list_any (λ d. same_file d.config.kind c.kind) s.devices)

-- the config of a device of this name
unfoldable pub device_config : ScenarioData → List ℕ → List ℕ → Option ConfigData
device_config s name text = elim (config_of text) [ Ok c ↦ only_if (is_own s name) c | Err e ↦ None ]

-- ---- the values of fields

unfoldable pub ring_of : List ℕ → Option ℕ
ring_of text = option_and_then (only_if (λ n. n % 4096 == 0)) (number_of 4096 4194304 text)

-- how long a submit waits for room: 0 where nothing is said
abbrev pub qfull_of : Option (List ℕ) → Option ℕ
qfull_of None = Some 0
qfull_of (Some text) = number_of 0 1000000 text

-- the pages of a block, of which a device has at most 4096: 1 where nothing is said
abbrev pub pages_of : ℕ → Option (List ℕ) → Option ℕ
pages_of blocks None = Some 1
pages_of blocks (Some text) = option_and_then (only_if (λ p. nat_le (blocks * p) 4096)) (number_of 1 16 text)

unfoldable pub settings_of : DeviceFields → Result SettingsData Why
settings_of f = do
  ring ← ok_or (ring_of f.ring) why.Number
  blocks ← ok_or (number_of 1 4096 f.blocks) why.Number
  flags ← ok_or (flags_of f.flags) why.Flags
  timeout ← ok_or (number_of 0 1000000 f.timeout) why.Number
  qfull ← ok_or (qfull_of f.last.qfull) why.Number
  pages ← ok_or (pages_of blocks f.last.pages) why.Number
  Ok (record { ring = ring; blocks = blocks; flags = flags; timeout = timeout; qfull = qfull; pages = pages })

-- the bytes that go out, and how many come in
abbrev pub payload_of : PayloadField → Result (List ℕ × ℕ) Why
payload_of NoPayload = Ok ([], 0)
payload_of (InBytes text) = ok_or (option_map (λ n. ([], n)) (number_of 0 1048576 text)) why.Number
payload_of (OutRuns text) = ok_or (option_map (λ bytes. (bytes, 0)) (runs_of text)) why.Runs

-- ---- what a line says, by its fields from left to right

pub data Said : Type 0 where
  SaysDevice : DeviceLineData → Said
  SaysLine : LineData → Said

unfoldable pub device_line : ScenarioData → List (List ℕ) → Result Said Why
device_line s fields = do
  f ← ok_or (device_fields fields) why.Fields
  name ← ok_or (new_name s f.name) why.Name
  config ← ok_or (device_config s name f.config) why.Config
  settings ← settings_of f
  Ok (SaysDevice (record { name = name; config = config; settings = settings }))

unfoldable pub submit_line : ScenarioData → List (List ℕ) → Result Said Why
submit_line s fields = do
  f ← ok_or (submit_fields fields) why.Fields
  at ← ok_or (device_at s f.name) why.Name
  init ← ok_or (name_of f.init) why.Init
  tag ← ok_or (number_of 0 4294967295 f.tag) why.Number
  cdb ← ok_or (cdb_of f.cdb) why.Cdb
  payload ← payload_of f.payload
  command ← ok_or (only_if is_directed (record { init = init; tag = tag; cdb = cdb; sent = payload.0; in_len = payload.1 })) why.Direction
  Ok (SaysLine (record { device = at; what = EventLine (ev.Submit command) }))

-- NAME alone
unfoldable pub plain_line : ScenarioData → LineWhat → List (List ℕ) → Result Said Why
plain_line s what fields = do
  name ← ok_or (one_field fields) why.Fields
  at ← ok_or (device_at s name) why.Name
  Ok (SaysLine (record { device = at; what = what }))

-- NAME and a number within its limits
unfoldable pub number_at : ScenarioData → ℕ → ℕ → List (List ℕ) → Result (ℕ × ℕ) Why
number_at s low high fields = do
  f ← ok_or (two_fields fields) why.Fields
  at ← ok_or (device_at s f.0) why.Name
  n ← ok_or (number_of low high f.1) why.Number
  Ok (at, n)

abbrev pub number_line : ScenarioData → ℕ → ℕ → (ℕ → EventData) → List (List ℕ) → Result Said Why
number_line s low high event fields = do
  x ← number_at s low high fields
  Ok (SaysLine (record { device = x.0; what = EventLine (event x.1) }))

unfoldable pub tmr_line : ScenarioData → List (List ℕ) → Result Said Why
tmr_line s fields = do
  f ← ok_or (three_fields fields) why.Fields
  at ← ok_or (device_at s f.0) why.Name
  kind ← ok_or (number_of 1 7 f.1) why.Number
  serials ← ok_or (serials_of f.2) why.Number
  Ok (SaysLine (record { device = at; what = EventLine (ev.Tmr kind serials) }))

unfoldable pub said_by : ScenarioData → Verb → List (List ℕ) → Result Said Why
said_by s verb.Device fields = device_line s fields
said_by s verb.Submit fields = submit_line s fields
said_by s verb.Dispatch fields = plain_line s (EventLine ev.Dispatch) fields
said_by s verb.Handle fields = number_line s 1 1000000000 ev.Handle fields
said_by s verb.Respond fields = number_line s 1 1000000000 ev.Respond fields
said_by s verb.Publish fields = plain_line s (EventLine ev.Publish) fields
said_by s verb.Clean fields = plain_line s (EventLine ev.Clean) fields
said_by s verb.Enter fields = plain_line s (EventLine ev.Enter) fields
said_by s verb.Tick fields = number_line s 0 1000000 ev.Tick fields
said_by s verb.Block fields = plain_line s (EventLine ev.Block) fields
said_by s verb.Unblock fields = plain_line s (EventLine ev.Unblock) fields
said_by s verb.Reset fields = number_line s 1 2 ev.Reset fields
said_by s verb.Restart fields = plain_line s (EventLine ev.Restart) fields
said_by s verb.Tmr fields = tmr_line s fields
said_by s verb.Stat fields = plain_line s (EventLine ev.Stat) fields
said_by s verb.Dump fields = plain_line s DumpLine fields
said_by s verb.Drain fields = plain_line s DrainLine fields
