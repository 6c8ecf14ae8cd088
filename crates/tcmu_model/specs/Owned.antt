-- What holds of the block lists of every device, beside the soundness of the device itself.
use Rattle.std.specs.Prelude.{◌≡◌, ℕ, ◌+◌, ◌*◌, ◌≤◌, ◌<◌, true, List, length, slice_get, Some}
use Rattle.tcmu_types.specs.Data.{CommandData}
use Rattle.tcmu_model.specs.Lengths.{blocks_of, entry_length}
use Rattle.tcmu_model.specs.RingState.{Cmd, need, free, serials_in}
use Rattle.tcmu_model.specs.Device.{DeviceState}
use Rattle.tcmu_model.specs.Events.{held_blocks}
use Rattle.tcmu_types.specs.Numbers.{is_among, Differ}
use Rattle.tcmu_model.specs.BlockLists.{Taken, list_of, held_by}
use Rattle.tcmu_types.specs.Lists.{Every}

pub record ListsSound (d : DeviceState) (lists : List Taken) : Type 0 where
  -- a list is of a command that is laid
  pub listed : Every (λ (t : Taken). is_among (serials_in d.ring.laid) t.serial ≡ true) lists
  -- no block stands twice in the lists of unfinished commands, and each is below the limit
  pub differ : Differ (held_by lists d.unfinished)
  pub below : Every (λ n. n < d.settings.blocks) (held_by lists d.unfinished)
  -- an unfinished command has as many as it needs
  pub sizes : Every (λ u. length (list_of lists u.serial) ≡ blocks_of d.settings.pages u.command) d.unfinished
  -- so has one whose entry is not cleared, since the entry's iovecs stand there until then
  pub spans : (i n s : ℕ) (c : CommandData) → d.ring.cleared ≤ i → slice_get d.ring.laid i ≡ Some (record { len = n; laid = Cmd s c })
      → length (list_of lists s) ≡ blocks_of d.settings.pages c

-- there is room for a command
pub record HasRoom (d : DeviceState) (c : CommandData) : Type 0 where
  pub small : 2 * entry_length d.settings.pages c ≤ d.ring.size
  pub fits : need d.ring (entry_length d.settings.pages c) ≤ free d.ring
  pub blocks : held_blocks d + blocks_of d.settings.pages c ≤ d.settings.blocks
