-- A replay over several devices, whose lines stand mixed, and its text.
use Rattle.std.specs.Prelude.{◌≡◌, ℕ, ◌+◌, List, [], ◌∷◌, ◌++◌, slice_get, slice_set, Some}
use Rattle.std.specs.List.{flat_map}
use Rattle.tcmu_model.specs.Device.{Device}
use Rattle.tcmu_model.specs.Steps.{HandlerRelation}
use Rattle.tcmu_model.specs.Sound.{open_count}
use Rattle.text_model.specs.Printed.{Picture, Printed, printed_text, IsLegalPrint}
use Rattle.text_model.specs.Replay.{LineRelation, Prints}
use Rattle.text_model.specs.ScenarioData.{DeviceLineData, LineData, DrainLine}
use Rattle.text_model.specs.Text.{device_text, end_text}

-- ==== what the lines ask for, by what comes of one line

-- each device, from a number on, is drained
abbrev pub DrainsEach : {X : Type 0} → LineRelation X → ℕ → List Device → List X → List Device → Type 0
DrainsEach comes at [] xs ds' = (xs ≡ []) × (ds' ≡ [])
DrainsEach {X} comes at (d ∷ ds) xs ds' =
    (first rest : List X) × (d' : Device) × (others : List Device)
    × (xs ≡ first ++ rest) × (ds' ≡ d' ∷ others) × comes at d DrainLine first d' × DrainsEach comes (at + 1) ds rest others

-- each line in order comes to its own device, and behind the last each device is drained
abbrev pub ReplaysEach : {X : Type 0} → LineRelation X → List Device → List LineData → List X → List Device → Type 0
ReplaysEach comes ds [] xs ds' = DrainsEach comes 0 ds xs ds'
ReplaysEach {X} comes ds (l ∷ ls) xs ds' =
    (first rest : List X) × (d mid : Device)
    × (xs ≡ first ++ rest) × (slice_get ds l.device ≡ Some d) × comes l.device d l.what first mid
    × ReplaysEach comes (slice_set ds l.device mid) ls rest ds'

-- ==== text

abbrev pub ends_text : List DeviceLineData → List Device → List ℕ
ends_text [] ds = []
ends_text (l ∷ ls) [] = []
ends_text (l ∷ ls) (d ∷ ds) = end_text l.name (open_count d.state) ++ ends_text ls ds

-- The text of a replay: the device lines, what the lines ask for, which each device prints, and how many commands are open on each at its
-- end.
pub record IsReplayOf (R : HandlerRelation) (picture : Picture) (ls : List DeviceLineData) (opened : List Device) (lines : List LineData) (text : List ℕ) : Type 0 where
  pub printed : List Printed
  pub ends : List Device
  pub replays : ReplaysEach (Prints R) opened lines printed ends
  pub legal : IsLegalPrint R picture opened printed ends
  pub whole : text ≡ flat_map device_text ls ++ flat_map (printed_text ls) printed ++ ends_text ls ends
