-- Journals of several devices: entries, each with the completions that it logged.
use Rattle.std.specs.Prelude.{◌≡◌, ℕ, Bool, ◌==◌, List, [], ◌∷◌, ◌++◌, map, slice_get, Some, None}
use Rattle.std.specs.List.{filter}
use Rattle.tcmu_types.specs.Data.{DoneData}
use Rattle.tcmu_types.specs.Events.{EntryData}
use Rattle.tcmu_model.specs.Device.{Device}
use Rattle.tcmu_model.specs.Steps.{HandlerRelation, Step}
use Rattle.text_model.specs.ScenarioData.{DeviceLineData}
use Rattle.text_model.specs.Text.{entry_text}

-- an entry with the completions that it logged
pub record Journaled : Type 0 where
  pub entry : EntryData
  pub completions : List DoneData

abbrev pub is_of : ℕ → Journaled → Bool
is_of device j = j.entry.device == device

abbrev pub entries_of : List Journaled → List EntryData
entries_of js = map (λ j. j.entry) js

-- the entries are made one after another, and the completions of each are what the log grew by
abbrev pub RunLogs : HandlerRelation → Device → List Journaled → Device → Type 0
RunLogs R d [] d' = d' ≡ d
RunLogs R d (j ∷ js) d' =
    (mid : Device) × Step R d j.entry mid × (mid.state.log ≡ d.state.log ++ j.completions) × RunLogs R mid js d'

-- each device is the end of the run of its own entries
abbrev pub IsLegalEach : HandlerRelation → List Device → List Journaled → List Device → Type 0
IsLegalEach R opened js ends =
    (at : ℕ) (d d' : Device) → slice_get opened at ≡ Some d → slice_get ends at ≡ Some d' → RunLogs R d (filter (is_of at) js) d'

-- the lines of an entry, under the name of its device
abbrev pub journaled_text : List DeviceLineData → Journaled → List ℕ
journaled_text ls j =
    elim (slice_get ls j.entry.device) [ Some l ↦ entry_text l.name l.settings.qfull j.entry j.completions | None ↦ [] ]
