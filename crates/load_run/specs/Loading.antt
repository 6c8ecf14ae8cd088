-- What a load's replay writes.
use Rattle.std.specs.Prelude.{◌≡◌, ℕ, ◌*◌, List, [], ◌∷◌, replicate}
use Rattle.tcmu_types.specs.Events.{EntryData}
use Rattle.scsi_model.specs.Medium.{memory_state}
use Rattle.scsi_model.specs.Scsi.{Serves}
use Rattle.tcmu_model.specs.Device.{Device}
use Rattle.tcmu_model.specs.Steps.{Run}
use Rattle.text_model.specs.ScenarioData.{DeviceLineData, opened_as}
use Rattle.text_model.specs.Replay.{Plays}
use Rattle.text_model.specs.Several.{ReplaysEach}
use Rattle.text_model.specs.Load.{load_device, load_lines, load_numbers, summary_text}

-- the device of a device line, as it opens over so many logical blocks of zeros
unfoldable pub opened_over : ℕ → DeviceLineData → Device
opened_over blocks l = opened_as l (memory_state blocks (replicate (512 * blocks) 0) 0)

-- that of a load
abbrev pub opened_load : Device
opened_load = opened_over 4096 load_device

-- The text is the line of a load: it sums up a replay of the load's lines on its device.
pub record IsLoadText (seed count : ℕ) (text : List ℕ) : Type 0 where
  pub entries : List EntryData
  pub end : Device
  pub replays : ReplaysEach (Plays Serves) (opened_load ∷ []) (load_lines seed count) entries (end ∷ [])
  pub legal : Run Serves opened_load entries end
  pub whole : text ≡ summary_text seed count (load_numbers entries end.state)
