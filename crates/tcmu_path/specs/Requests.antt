-- The request that a command makes to its handler.
use Rattle.std.specs.Prelude.{◌≡◌, ℕ, Some}
use Rattle.tcmu_model.specs.Device.{Unfinished, DeviceState}
use Rattle.tcmu_model.specs.Events.{command_out}
use Rattle.tcmu_model.specs.Steps.{Asked, asked}

-- the request is what the command of this serial asks of its handler, and that command is out
pub record IsRequest (d : DeviceState) (s : ℕ) (r : Asked) : Type 0 where
  pub command : Unfinished
  pub found : command_out d s ≡ Some command
  pub asks : r ≡ asked command.command
