-- An answer that is placed: what it rests on, whatever the states of the other commands, and the device behind it.
use Rattle.std.specs.Prelude.{◌≡◌, ℕ, ◌+◌, ◌%◌, ◌≤◌, ◌<◌, true, List, [], ◌∷◌, ◌++◌, length, take, drop, map, slice_get, Some, IfSome}
use Rattle.tcmu_model.specs.declared.state.CommandState.TheVariants.{Handled, Parked, Placed}
use Rattle.tcmu_types.specs.Rules.{IsCommand}
use Rattle.tcmu_model.specs.Lengths.{blocks_of}
use Rattle.tcmu_types.specs.Lists.{first_of, Every}
use Rattle.tcmu_model.specs.RingState.{RingState, Item, lengths, used, is_command, published_commands, dispatched_commands}
use Rattle.tcmu_model.specs.Device.{Unfinished, DeviceState, is_at}
use Rattle.tcmu_model.specs.Events.{turned}
use Rattle.tcmu_model.specs.Sound.{ReplyFits}
use Rattle.tcmu_types.specs.Numbers.{Differ}
use Rattle.tcmu_model.specs.BlockLists.{Taken, list_of, held_by}
use Rattle.region_model.specs.Regions.{RegionState}
use Rattle.region_model.specs.Picture.{place_of}
use Rattle.region_model.specs.Sides.{PendingRow, GivenJob, UserState}
use Rattle.region_model.specs.Sides as sides
use Rattle.region_model.specs.Represents.{IsJobOf, command_places}
use Rattle.region_model.specs.UserSteps.{Placing, placed_one}

-- the ring holds its items whole, and keeps a byte free
pub record HoldsItems (r : RingState) : Type 0 where
  pub size : 4096 ≤ r.size
  pub even : r.size % 8 ≡ 0
  pub aligned : lengths r.laid % 8 ≡ 0
  pub room : used r < r.size
  pub whole : (i : ℕ) (x : Item) → slice_get r.laid i ≡ Some x → place_of r i + x.len ≤ r.size
  pub some : (i : ℕ) (x : Item) → slice_get r.laid i ≡ Some x → 8 ≤ x.len

-- Answers find their entries. Every sound device keeps it, and so do the devices between two answers that one respond places.
pub record CanAnswer (d : DeviceState) : Type 0 where
  pub holds : HoldsItems d.ring
  pub cleared : d.ring.cleared ≤ d.ring.published
  pub published : d.ring.published ≤ d.ring.dispatched
  pub dispatched : d.ring.dispatched ≤ length d.ring.laid
  pub answered : published_commands d.ring ≤ length d.placed
  pub differ : Differ (map (λ u. u.serial) d.unfinished)
  pub long : (i : ℕ) (x : Item) → slice_get d.ring.laid i ≡ Some x → is_command x ≡ true → 112 ≤ x.len

-- the parked command of a serial is placed behind the others
abbrev pub placed_in : DeviceState → ℕ → DeviceState
placed_in d s = record d { placed = d.placed ++ s ∷ []; unfinished = turned s Parked Placed d.unfinished }

-- the handled command of a serial is parked
abbrev pub parked_in : DeviceState → ℕ → DeviceState
parked_in d s = record d { unfinished = turned s Handled Parked d.unfinished }

-- the user side has the job and the reply of a parked command, and an entry that is not yet used
pub record CanPlace (user : UserState) (rows : List PendingRow) (d : DeviceState) (lists : List Taken) (s : ℕ) (u : Unfinished) (p : sides.Parked) (parts : List (List ℕ)) : Type 0 where
  pub found : first_of (is_at s Parked) d.unfinished ≡ Some u
  pub replied : u.reply ≡ Some p.reply
  pub job : IsJobOf d.settings rows lists u p.job parts
  pub behind : length d.placed < dispatched_commands d.ring
  pub flags : user.flags ≡ d.settings.flags
  pub offsets : user.offsets ≡ drop (length d.placed) (command_places d.ring.size 0 (take d.ring.dispatched d.ring.laid))

-- What is answered fits into its blocks: also kept by every sound device with its lists, and between two answers.
pub record CanFill (d : DeviceState) (lists : List Taken) : Type 0 where
  pub pages : 1 ≤ d.settings.pages
  pub ring : d.ring.size ≡ d.settings.ring
  pub commands : Every (λ u. IsCommand u.command) d.unfinished
  pub replies : Every (λ u. IfSome u.reply (ReplyFits u.command)) d.unfinished
  pub differ : Differ (held_by lists d.unfinished)
  pub sizes : Every (λ u. length (list_of lists u.serial) ≡ blocks_of d.settings.pages u.command) d.unfinished

-- a region and its user side with an answer placed; the jobs that are left stand beside it
abbrev pub answer_placed : RegionState → UserState → sides.Parked → List GivenJob → Placing
answer_placed r user p rest = placed_one (record { region = r; user = user }) p rest
