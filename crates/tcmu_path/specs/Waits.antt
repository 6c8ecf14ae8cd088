-- Room for the delayed command that is next to enter.
use Rattle.std.specs.Prelude.{◌≡◌, ◌≤◌, ℕ}
use Rattle.tcmu_model.specs.RingState.{need, free}
use Rattle.tcmu_model.specs.Device.{Delayed, DeviceState}
use Rattle.tcmu_model.specs.Events.{entry_length_in, blocks_in, free_blocks}
use Rattle.delayed_commands.specs.Waits.{IsNext}

-- the first of them has room, for an entry of so many bytes and so many data blocks
pub record NextFits (d : DeviceState) (len blocks : ℕ) : Type 0 where
  pub first : Delayed
  pub next : IsNext d.delayed first
  pub length_is : len ≡ entry_length_in d first.command
  pub ring : need d.ring len ≤ free d.ring
  pub blocks_are : blocks ≡ blocks_in d first.command
  pub room : blocks ≤ free_blocks d
