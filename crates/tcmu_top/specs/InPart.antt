-- What lines and drains ask for, made in part: the entries up to any of them.
use Rattle.std.specs.Prelude.{◌≡◌, ◌⊎◌, ℕ, ◌+◌, List, [], ◌∷◌, ◌++◌, slice_get, slice_set, Some}
use Rattle.tcmu_types.specs.Events.{EntryData}
use Rattle.tcmu_model.specs.Device.{Device}
use Rattle.tcmu_model.specs.Steps.{HandlerRelation, Step}
use Rattle.tcmu_model.specs.Drain.{drain_event, Drains}
use Rattle.text_model.specs.ScenarioData.{LineData, LineWhat}
use Rattle.text_model.specs.ScenarioData as line
use Rattle.text_model.specs.Replay.{Plays}

-- each entry is the drain's choice; others may be left
abbrev pub DrainsInPart : HandlerRelation → ℕ → Device → List EntryData → Device → Type 0
DrainsInPart R device d [] d' = d' ≡ d
DrainsInPart R device d (e ∷ es) d' =
    (e.device ≡ device) × (drain_event d.state ≡ Some e.event) × (mid : Device) × Step R d e mid × DrainsInPart R device mid es d'

-- a line's event was made or not, or a part of its drain
abbrev pub PlaysInPart : HandlerRelation → ℕ → Device → LineWhat → List EntryData → Device → Type 0
PlaysInPart R device d (line.EventLine event) es d' = ((es ≡ []) × (d' ≡ d)) ⊎ Plays R device d (line.EventLine event) es d'
PlaysInPart R device d line.DrainLine es d' = DrainsInPart R device d es d'
PlaysInPart R device d line.DumpLine es d' = Plays R device d line.DumpLine es d'

-- one device is drained in part, those before it whole, and those behind it not yet
abbrev pub DrainsEachInPart : HandlerRelation → ℕ → List Device → List EntryData → List Device → Type 0
DrainsEachInPart R at [] es ds' = (es ≡ []) × (ds' ≡ [])
DrainsEachInPart R at (d ∷ ds) es ds' =
    ((d' : Device) × DrainsInPart R at d es d' × (ds' ≡ d' ∷ ds))
    ⊎ ((first rest : List EntryData) × (d' : Device) × (others : List Device)
    × (es ≡ first ++ rest) × (ds' ≡ d' ∷ others) × Drains R at d first d' × DrainsEachInPart R (at + 1) ds rest others)

-- one line is played in part, those before it whole, and those behind it not yet; the drains come behind the last line
abbrev pub ReplaysEachInPart : HandlerRelation → List Device → List LineData → List EntryData → List Device → Type 0
ReplaysEachInPart R ds [] es ds' = DrainsEachInPart R 0 ds es ds'
ReplaysEachInPart R ds (l ∷ ls) es ds' =
    ((d d' : Device) × (slice_get ds l.device ≡ Some d) × PlaysInPart R l.device d l.what es d' × (ds' ≡ slice_set ds l.device d'))
    ⊎ ((first rest : List EntryData) × (d mid : Device)
    × (es ≡ first ++ rest) × (slice_get ds l.device ≡ Some d) × Plays R l.device d l.what first mid
    × ReplaysEachInPart R (slice_set ds l.device mid) ls rest ds')
