-- What contracts see of a path over a region, and what it shows.
use Rattle.std.specs.Prelude.{◌≡◌, List, Option, Some}
use Rattle.tcmu_types.specs.Dumps.{DumpData}
use Rattle.tcmu_model.specs.BlockLists.{Taken}
use Rattle.tcmu_model.specs.Device.{Device}
use Rattle.region_model.specs.Picture.{picture_of}

pub record RingView : Type 0 where
  pub device : Device
  pub lists : List Taken

-- this is the device's picture, with the block lists that its path tells
pub record Pictures (d : Device) (told : Option (List Taken)) (dump : DumpData) : Type 0 where
  pub lists : List Taken
  pub are : told ≡ Some lists
  pub is : dump ≡ picture_of d.state lists
