-- When a submit comes to look for room.
use Rattle.std.specs.Prelude.{◌≡◌, ◌≤◌, ◌*◌, false}
use Rattle.tcmu_types.specs.Data.{CommandData}
use Rattle.tcmu_model.specs.Device.{DeviceState}
use Rattle.tcmu_model.specs.Events.{blocks_in, entry_length_in}

-- the device is not blocked, and would have room for the command if it were empty
pub record LooksForRoom (d : DeviceState) (c : CommandData) : Type 0 where
  pub unblocked : d.blocked ≡ false
  pub short : 2 * entry_length_in d c ≤ d.ring.size
  pub few : blocks_in d c ≤ d.settings.blocks
