-- What the calls are on a region that represents a device: they answer what the device answers, and represent the device behind the event.
use Rattle.std.specs.Prelude.{◌≡◌, ℕ, Bool, true, List, [], Some, Result, Ok, Err}
use Rattle.tcmu_types.specs.Data.{ReplyData}
use Rattle.tcmu_types.specs.declared.answer.Publish.{Publish}
use Rattle.tcmu_types.specs.declared.answer.Reset.TheVariants.{Reset}
use Rattle.tcmu_types.specs.declared.answer.Respond.{Respond}
use Rattle.tcmu_types.specs.Lists.{first_of}
use Rattle.tcmu_model.specs.BlockLists.{Taken}
use Rattle.tcmu_model.specs.Device.{DeviceState}
use Rattle.tcmu_model.specs.Events.{after_dispatch, after_publish, after_reset, after_respond, after_restart, dispatch_answer, publish_answer, reset_answer, respond_answer}
use Rattle.tcmu_model.specs.Owned.{ListsSound}
use Rattle.tcmu_model.specs.Sound.{IsSound}
use Rattle.region_model.specs.HandSteps.{hand_responded}
use Rattle.region_model.specs.Regions.{RegionState}
use Rattle.region_model.specs.Represents.{Represents}
use Rattle.region_model.specs.Sides.{InHand, JobState, TargetState, UserState}
use Rattle.region_model.specs.TargetCleans.{region_reset, target_reset}
use Rattle.ring_laws.specs.Attached.{attached_user}
use Rattle.ring_laws.specs.Dispatched.{AnswersDispatch, hand_dispatched}
use Rattle.ring_laws.specs.Handed.{is_answered}
use Rattle.ring_laws.specs.Restarted.{region_with_hand}
use Rattle.user_lib.specs.declared.next.Next.{Next}
use Rattle.user_lib.specs.declared.next.UserFault.{UserFault}
use Rattle.user_lib.specs.declared.next.UserFault.TheVariants as fault
use Rattle.user_lib.specs.Views.{next_data}

-- a region, with both sides' states and the jobs in hand, stands for a sound device with its block lists
pub record StandsFor (r : RegionState) (t : TargetState) (u : UserState) (hand : List InHand) (d : DeviceState) (lists : List Taken) : Type 0 where
  pub sound : IsSound d
  pub owned : ListsSound d lists
  pub represents : Represents r t u hand d lists

-- ==== attach

abbrev pub AttachesDevice : RegionState → UserState → Type 0
AttachesDevice r u = (t : TargetState) (was : UserState) (hand : List InHand) (d : DeviceState) (lists : List Taken) → StandsFor r t was hand d lists → u ≡ attached_user d

-- the device's mailbox is not refused
abbrev pub StandsForNone : RegionState → Type 0
StandsForNone r = (t : TargetState) (was : UserState) (hand : List InHand) (d : DeviceState) (lists : List Taken) → StandsFor r t was hand d lists → ⊥

-- ==== next

-- the answer is that of the device's dispatch, and the device behind it is represented
pub record Dispatches (t : TargetState) (hand : List InHand) (d : DeviceState) (lists : List Taken) (next : Next) (left : RegionState) (after : UserState) : Type 0 where
  pub answer : AnswersDispatch t.rows d lists (dispatch_answer d) (next_data next)
  pub stands : Represents left t after (hand_dispatched hand (dispatch_answer d) (next_data next)) (after_dispatch d) lists

abbrev pub ByDispatch : TargetState → RegionState → UserState → List InHand → DeviceState → List Taken → Result Next UserFault → RegionState → UserState → Type 0
ByDispatch t r u hand d lists (Ok next) left after = Dispatches t hand d lists next left after
ByDispatch t r u hand d lists (Err (fault.BadMailbox f)) left after = ⊥
ByDispatch t r u hand d lists (Err (fault.BadEntry at f)) left after = ⊥
ByDispatch t r u hand d lists (Err fault.NoMemory) left after = (left ≡ r) × (after ≡ u)

-- no fault comes but that memory is wanting, and then nothing has changed
abbrev pub DispatchesDevice : RegionState → UserState → Result Next UserFault → RegionState → UserState → Type 0
DispatchesDevice r u result left after =
    (t : TargetState) (hand : List InHand) (d : DeviceState) (lists : List Taken) → StandsFor r t u hand d lists → d.attached ≡ true → ByDispatch t r u hand d lists result left after

-- ==== respond

pub record Responds (t : TargetState) (hand : List InHand) (d : DeviceState) (lists : List Taken) (s : ℕ) (told : Respond) (left : RegionState) (after : UserState) : Type 0 where
  pub answer : told ≡ respond_answer d s
  pub stands : Represents left t after (hand_responded hand s) (after_respond d s) lists

-- the job in hand of a serial comes back with its reply
abbrev pub RespondsDevice : RegionState → UserState → JobState → ReplyData → Respond → RegionState → UserState → Type 0
RespondsDevice r u job reply answer left after =
    (t : TargetState) (hand : List InHand) (d : DeviceState) (lists : List Taken) (s : ℕ) → StandsFor r t u hand d lists →
    first_of (is_answered s) hand ≡ Some (record { serial = s; job = job; reply = Some reply }) → Responds t hand d lists s answer left after

-- ==== publish

pub record Publishes (t : TargetState) (hand : List InHand) (d : DeviceState) (lists : List Taken) (told : Publish) (left : RegionState) (after : UserState) : Type 0 where
  pub answer : told ≡ publish_answer d
  pub stands : Represents left t after hand (after_publish d) lists

abbrev pub PublishesDevice : RegionState → UserState → Publish → RegionState → UserState → Type 0
PublishesDevice r u answer left after =
    (t : TargetState) (hand : List InHand) (d : DeviceState) (lists : List Taken) → StandsFor r t u hand d lists → d.attached ≡ true → Publishes t hand d lists answer left after

-- ==== restart and reset

-- a region in which the jobs in hand were put back before
abbrev pub RestartsDevice : RegionState → UserState → RegionState → UserState → Type 0
RestartsDevice r u left after =
    (before : RegionState) (t : TargetState) (hand : List InHand) (d : DeviceState) (lists : List Taken) → StandsFor before t u hand d lists → r ≡ region_with_hand before hand →
    Represents left t after [] (after_restart d) lists

-- a region that the target has reset before
abbrev pub ResetsDevice : RegionState → UserState → Bool → RegionState → UserState → Type 0
ResetsDevice r u made left after =
    (before : RegionState) (t : TargetState) (hand : List InHand) (d : DeviceState) (lists : List Taken) (level n : ℕ) → StandsFor before t u hand d lists → reset_answer d level ≡ Reset n →
    r ≡ region_reset before → (made ≡ true) × Represents left (target_reset before t level) after [] (after_reset d level) []
