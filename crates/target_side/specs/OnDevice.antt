-- What the calls are on a region that represents a device: they answer what the device answers, and represent the device behind the event.
use Rattle.std.specs.Prelude.{◌≡◌, ℕ, Bool, List, Result, Ok}
use Rattle.tcmu_types.specs.Data.{CommandData}
use Rattle.tcmu_types.specs.Events as event
use Rattle.tcmu_types.specs.declared.answer.Submit.{Submit}
use Rattle.tcmu_types.specs.declared.answer.Enter.{Enter}
use Rattle.tcmu_types.specs.declared.answer.Reset.TheVariants.{Reset}
use Rattle.tcmu_types.specs.declared.answer.Tmr.{Tmr}
use Rattle.tcmu_model.specs.BlockLists.{Taken, kept_lists, lists_after}
use Rattle.tcmu_model.specs.Device.{DeviceState}
use Rattle.tcmu_model.specs.Events.{after_block, after_clean, after_enter, after_submit, after_tick, after_tmr, block_answer, clean_answer, enter_answer, reset_answer, submit_answer, tick_answer, tmr_answer}
use Rattle.tcmu_model.specs.Owned.{ListsSound}
use Rattle.tcmu_model.specs.Sound.{IsSound}
use Rattle.region_model.specs.Regions.{RegionState}
use Rattle.region_model.specs.Represents.{Represents}
use Rattle.region_model.specs.Sides.{InHand, TargetState, UserState}
use Rattle.target_side.specs.declared.fault.TargetFault.{TargetFault}

-- a region, with both sides' states and the jobs in hand, represents a sound device with its block lists
pub record RepresentsSound (r : RegionState) (t : TargetState) (u : UserState) (hand : List InHand) (d : DeviceState) (lists : List Taken) : Type 0 where
  pub sound : IsSound d
  pub owned : ListsSound d lists
  pub represents : Represents r t u hand d lists

-- whatever user side, jobs in hand, device and lists the region represents with the target
abbrev pub OfDevices : RegionState → TargetState → (UserState → List InHand → DeviceState → List Taken → Type 0) → Type 0
OfDevices r t P = (u : UserState) (hand : List InHand) (d : DeviceState) (lists : List Taken) → RepresentsSound r t u hand d lists → P u hand d lists

-- the device's answer, and what is left represents the device behind the event
pub record AnswersAs (A : Type 0) (told answer : A) (left : RegionState) (after : TargetState) (u : UserState) (hand : List InHand) (d : DeviceState) (lists : List Taken) : Type 0 where
  pub answer_is : told ≡ answer
  pub stands : Represents left after u hand d lists

abbrev pub SubmitsDevice : RegionState → TargetState → CommandData → Submit → RegionState → TargetState → Type 0
SubmitsDevice r t c a left after =
    OfDevices r t (λ u hand d lists. AnswersAs Submit a (submit_answer d c) left after u hand (after_submit d c a) (lists_after d lists (event.Submit c) (event.Submitted a) (after_submit d c a)))

abbrev pub EntersDevice : RegionState → TargetState → Enter → RegionState → TargetState → Type 0
EntersDevice r t a left after =
    OfDevices r t (λ u hand d lists. AnswersAs Enter a (enter_answer d) left after u hand (after_enter d a) (lists_after d lists event.Enter (event.Entered a) (after_enter d a)))

abbrev pub NotesDevice : RegionState → TargetState → ℕ → List ℕ → Tmr → RegionState → TargetState → Type 0
NotesDevice r t type_ ss a left after =
    OfDevices r t (λ u hand d lists. AnswersAs Tmr a (tmr_answer d ss) left after u hand (after_tmr d type_ ss a) (lists_after d lists (event.Tmr type_ ss) (event.Noted a) (after_tmr d type_ ss a)))

-- the region is not touched, whichever it is
abbrev pub TicksDevice : TargetState → ℕ → ℕ → TargetState → Type 0
TicksDevice t n told after =
    (r : RegionState) → OfDevices r t (λ u hand d lists. AnswersAs ℕ told (tick_answer d n) r after u hand (after_tick d n) (lists_after d lists (event.Tick n) (event.Logged told) (after_tick d n)))

abbrev pub TurnsDevice : TargetState → Bool → Bool → TargetState → Type 0
TurnsDevice t b told after =
    (r : RegionState) → OfDevices r t (λ u hand d lists. AnswersAs Bool told (block_answer d b) r after u hand (after_block d b) (kept_lists (after_block d b) lists))

-- no fault comes
abbrev pub CleansDevice : RegionState → TargetState → Result ℕ TargetFault → RegionState → TargetState → Type 0
CleansDevice r t told left after =
    OfDevices r t (λ u hand d lists. AnswersAs (Result ℕ TargetFault) told (Ok (clean_answer d)) left after u hand (after_clean d) (lists_after d lists event.Clean (event.Logged (clean_answer d)) (after_clean d)))

-- where the device is reset, it logs as many completions; the user side attaches again behind that
abbrev pub ResetsDevice : RegionState → TargetState → ℕ → ℕ → Type 0
ResetsDevice r t level told = OfDevices r t (λ u hand d lists. (n : ℕ) → reset_answer d level ≡ Reset n → told ≡ n)
