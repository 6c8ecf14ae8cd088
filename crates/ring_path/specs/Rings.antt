-- A region, both of its sides and the jobs in hand stand for a device with its block lists.
use Rattle.std.specs.Prelude.{◌≡◌, ℕ, ◌^◌, ◌≤◌, Bool, List, length}
use Rattle.tcmu_types.specs.Lists.{Every}
use Rattle.tcmu_model.specs.RingState.{Item, Laid, Pad, Cmd, Tmr}
use Rattle.region_model.specs.Regions.{RegionState}
use Rattle.region_model.specs.Sides.{InHand, TargetState, UserState}
use Rattle.user_lib.specs.OnDevice.{StandsFor}
use Rattle.ring_path.specs.Devices.{RingDevice}

-- a note names at most so many commands
abbrev pub IsShort : ℕ → Laid → Type 0
IsShort longest Pad = Unit {0}
IsShort longest (Cmd s c) = Unit {0}
IsShort longest (Tmr type_ ss) = length ss ≤ longest

abbrev pub NotesShort : ℕ → List Item → Type 0
NotesShort longest laid = Every (λ x. IsShort longest x.laid) laid

pub record IsRing (r : RegionState) (t : TargetState) (u : UserState) (hand : List InHand) (b : Bool) (longest : ℕ) (k : RingDevice) : Type 0 where
  pub stands : StandsFor r t u hand k.state k.lists
  pub attached : b ≡ k.state.attached
  pub notes : NotesShort longest k.state.ring.laid
  pub few : k.state.accepted ≤ 2 ^ 63
