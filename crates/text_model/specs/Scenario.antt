-- Which bytes are a scenario, what they say, and why others are none.
use Rattle.std.specs.Prelude.{ℕ, ◌+◌, ◌*◌, Bool, true, false, ◌&&◌, ◌||◌, not, List, [], ◌∷◌, ◌++◌, length, Some, None, Result, Ok, Err, nat_lt, nat_le, ◌==◌, if◌then◌else◌, bytes_eq, slice_get}
use Rattle.std.specs.Option.{ok_or}
use Rattle.std.specs.List.{list_any, list_all, sum_by, count_by}
use Rattle.tcmu_types.specs.Data.{SettingsData}
use Rattle.tcmu_types.specs.Reading.{◌>>=◌}
use Rattle.tcmu_types.specs.Fields.{line_feed, pieces, before_hash, fields_of, is_allowed}
use Rattle.text_model.specs.Words.{verb_of}
use Rattle.text_model.specs.ScenarioData.{DeviceLineData, EventLine, DrainLine, DumpLine, LineData, ScenarioData, command_of}
use Rattle.text_model.specs.Said.{Said, SaysDevice, SaysLine, said_by}
use Rattle.text_model.specs.declared.faults.Why.{Why}
use Rattle.text_model.specs.declared.faults.Why.TheVariants as why
use Rattle.text_model.specs.declared.limits.Limits.{Limits}

-- ---- the limits

-- the limits of scenarios: each line of an event is a line, so that events have no limit of their own
abbrev pub scenario_limits : Limits
scenario_limits = record { bytes = 4194304; lines = 20000; events = 20000 }

-- ---- what the limits count

abbrev pub is_dump : LineData → Bool
is_dump l = elim (l.what) [ DumpLine ↦ true | EventLine e ↦ false | DrainLine ↦ false ]

abbrev pub is_event : LineData → Bool
is_event l = elim (l.what) [ EventLine e ↦ true | DrainLine ↦ false | DumpLine ↦ false ]

abbrev pub bytes_in : LineData → ℕ
bytes_in l = elim (command_of l) [ Some c ↦ c.in_len | None ↦ 0 ]

abbrev pub bytes_out : LineData → ℕ
bytes_out l = elim (command_of l) [ Some c ↦ length c.sent | None ↦ 0 ]

-- these names, and this one where it is none of them
abbrev pub with_name : List (List ℕ) → List ℕ → List (List ℕ)
with_name names name = if list_any (λ n. bytes_eq n name) names then names else names ++ name ∷ []

-- and the initiator of this line, where it is a submit line of the device
abbrev pub with_initiator : ℕ → List (List ℕ) → LineData → List (List ℕ)
with_initiator device names l = elim (command_of l) [ Some c ↦ if l.device == device then with_name names c.init else names | None ↦ names ]

abbrev pub initiators_from : ℕ → List (List ℕ) → List LineData → List (List ℕ)
initiators_from device names [] = names
initiators_from device names (l ∷ ls) = initiators_from device (with_initiator device names l) ls

-- the initiators of a device, each once, in the order of their first submits
abbrev pub initiators : ℕ → List LineData → List (List ℕ)
initiators device ls = initiators_from device [] ls

-- a device that may be dumped
abbrev pub is_small : SettingsData → Bool
is_small t = nat_le t.ring 65536 && nat_le (t.blocks * t.pages) 64

abbrev pub small_at : List DeviceLineData → ℕ → Bool
small_at ds at = elim (slice_get ds at) [ Some d ↦ is_small d.settings | None ↦ false ]

-- ---- the rules on the whole line

unfoldable pub breaks_dump : ScenarioData → LineData → Bool
breaks_dump s l = is_dump l && (nat_lt 16 (count_by is_dump (s.lines ++ l ∷ [])) || not (small_at s.devices l.device))

unfoldable pub breaks_many : Limits → List LineData → ℕ → Bool
breaks_many limits ls device =
    nat_lt 16 (length (initiators device ls))
    || nat_lt limits.lines (length ls)
    || nat_lt limits.events (count_by is_event ls)
    || nat_lt 67108864 (sum_by bytes_in ls)
    || nat_lt 67108864 (sum_by bytes_out ls)

unfoldable pub with_line : Limits → ScenarioData → LineData → Result ScenarioData Why
with_line limits s l =
    if breaks_dump s l then Err why.Dump
    else (if breaks_many limits (s.lines ++ l ∷ []) l.device then Err why.Many
    else Ok (record s { lines = s.lines ++ l ∷ [] }))

unfoldable pub with_device : ScenarioData → DeviceLineData → Result ScenarioData Why
with_device s d =
    if nat_lt 0 (length s.lines) then Err why.Order
    else (if nat_lt 16 (length s.devices + 1) then Err why.Many
    else Ok (record s { devices = s.devices ++ d ∷ [] }))

abbrev pub with_rules : Limits → ScenarioData → Said → Result ScenarioData Why
with_rules limits s (SaysDevice d) = with_device s d
with_rules limits s (SaysLine l) = with_line limits s l

-- ---- the last rule: what is not served yet

-- dumps
unfoldable pub is_not_yet : ScenarioData → Said → Bool
is_not_yet s (SaysDevice d) = false
is_not_yet s (SaysLine l) = is_dump l

-- ---- lines

unfoldable pub with_said : Limits → ScenarioData → Said → Result ScenarioData Why
with_said limits s said = do
  t ← with_rules limits s said
  if is_not_yet s said then Err why.NotYet else Ok t

-- the scenario so far, with the line of these fields
unfoldable pub with_fields : Limits → ScenarioData → List (List ℕ) → Result ScenarioData Why
with_fields limits s [] = Ok s
with_fields limits s (word ∷ fields) = do
  verb ← ok_or (verb_of word) why.Verb
  said ← said_by s verb fields
  with_said limits s said

unfoldable pub with_text : Limits → ScenarioData → List ℕ → Result ScenarioData Why
with_text limits s text = if list_all is_allowed (before_hash text) then with_fields limits s (fields_of (before_hash text)) else Err why.Byte

-- where a fault is, and which
pub record Bad : Type 0 where
  pub line : ℕ
  pub why : Why

-- the scenario so far, with lines of which the first has this number
abbrev pub with_lines : Limits → ℕ → ScenarioData → List (List ℕ) → Result ScenarioData Bad
with_lines limits n s [] = Ok s
with_lines limits n s (text ∷ texts) =
    elim (with_text limits s text) [
      | Ok t ↦ with_lines limits (n + 1) t texts
      | Err e ↦ Err (record { line = n; why = e })
    ]

abbrev pub nothing_yet : ScenarioData
nothing_yet = record { devices = []; lines = [] }

-- the lines between line feeds; the piece behind the last line feed is a line without fields, or the last line
unfoldable pub scenario_within : Limits → List ℕ → Result ScenarioData Bad
scenario_within limits bytes =
    if nat_lt limits.bytes (length bytes) then Err (record { line = 0; why = why.TooLong })
    else with_lines limits 1 nothing_yet (pieces line_feed bytes)

abbrev pub scenario_of : List ℕ → Result ScenarioData Bad
scenario_of bytes = scenario_within scenario_limits bytes
