-- What is counted while lines are read.
use Rattle.std.specs.Prelude.{◌≡◌, ℕ, ◌<◌, ◌≤◌, Bool, false, IsTrue, map, ◌&&◌, ◌||◌, not, nat_lt, List, [], length, Option, Some, None, bytes_eq, if◌then◌else◌, slice_index_or, slice_set}
use Rattle.std.specs.List.{list_any, position, sum_by, count_by}
use Rattle.tcmu_types.specs.Naming.{is_name}
use Rattle.tcmu_types.specs.Lists.{Every}
use Rattle.text_model.specs.Said.{has_name}
use Rattle.text_model.specs.ScenarioData.{DeviceLineData, LineData, ScenarioData, command_of}
use Rattle.text_model.specs.Scenario.{with_name, initiators, is_dump, is_event, small_at, bytes_in, bytes_out}
use Rattle.text_model.specs.declared.limits.Limits.{Limits}

-- a name that no device of these has
pub record IsNewName (s : ScenarioData) (d : DeviceLineData) : Type 0 where
  pub name : IsTrue (is_name d.name)
  pub other : list_any (has_name d.name) s.devices ≡ false

-- the place of a text among these names, where it is a name
abbrev pub place_in : List (List ℕ) → List ℕ → Option ℕ
place_in names text = if is_name text then position (bytes_eq text) names else None

-- the names of these devices
pub record AreNames (ds : List DeviceLineData) (names : List (List ℕ)) : Type 0 where
  pub are : names ≡ map (λ d. d.name) ds
  pub each : Every (λ d. IsTrue (is_name d.name)) ds

-- names: the initiators of each device; as many lines as a limit may allow
pub record Counted (ds : List DeviceLineData) (ls : List LineData) (names : List (List (List ℕ))) (dumps events ins outs : ℕ) : Type 0 where
  pub names_are : (d : ℕ) → slice_index_or names d [] ≡ initiators d ls
  pub names_of_all : length names ≡ length ds
  pub dumps_are : dumps ≡ count_by is_dump ls
  pub events_are : events ≡ count_by is_event ls
  pub ins_are : ins ≡ sum_by bytes_in ls
  pub outs_are : outs ≡ sum_by bytes_out ls
  pub few_devices : length ds ≤ 16
  pub few_lines : length ls < 4294967296
  pub few_events : events ≤ length ls
  pub few_dumps : dumps ≤ 16
  pub few_in : ins ≤ 67108864
  pub few_out : outs ≤ 67108864

-- with the initiator of this line
abbrev pub noted : List (List (List ℕ)) → LineData → List (List (List ℕ))
noted names l = elim (command_of l) [ Some c ↦ slice_set names l.device (with_name (slice_index_or names l.device []) c.init) | None ↦ names ]

-- the rules on a line, by the counts

abbrev pub dump_by : List DeviceLineData → ℕ → LineData → Bool
dump_by ds dumps l = is_dump l && (nat_lt 16 dumps || not (small_at ds l.device))

abbrev pub many_by : Limits → List (List ℕ) → ℕ → ℕ → ℕ → ℕ → Bool
many_by limits names lines events ins outs =
    nat_lt 16 (length names) || nat_lt limits.lines lines || nat_lt limits.events events || nat_lt 67108864 ins || nat_lt 67108864 outs
