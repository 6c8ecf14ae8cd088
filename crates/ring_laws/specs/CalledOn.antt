-- The target's calls on one region: between two of them the user side writes any bytes and lends any blocks, and the target alone moves the area's end.
use Rattle.std.specs.Prelude.{◌≡◌, List, [], ◌∷◌, length}
use Rattle.region_model.specs.Regions.{RegionState}
use Rattle.region_model.specs.Sides.{TargetState}
use Rattle.region_model.specs.TargetSteps.{target_submit_answer, region_submitted, target_enter_answer, region_entered, target_tmr_answer, region_noted}
use Rattle.region_model.specs.TargetCleans.{region_cleaned, region_reset}
use Rattle.ring_laws.specs.Calls.{TargetCall, Submits, Enters, Notes, Ticks, Blocks, Cleans, Resets, CallMade, CanCall, target_called}

-- the area has as many blocks, of the same size, whatever they and the bytes before them hold
pub record SameArea (before after : RegionState) : Type 0 where
  pub pages : after.pages ≡ before.pages
  pub count : length after.blocks ≡ length before.blocks

-- the sizes of all its parts stay
pub record SameSizes (before after : RegionState) : Type 0 where
  pub front : length after.front ≡ length before.front
  pub area : SameArea before after

-- what a call makes of the region
abbrev pub region_called : RegionState → TargetState → TargetCall → RegionState
region_called r t (Submits c id) = region_submitted r t c id (target_submit_answer t c)
region_called r t (Enters id) = region_entered r t id (target_enter_answer t)
region_called r t (Notes type_ ss) = region_noted r t type_ ss (target_tmr_answer t ss)
region_called r t (Ticks n) = r
region_called r t (Blocks b) = r
region_called r t Cleans = region_cleaned r t
region_called r t (Resets level) = region_reset r

-- the calls in order lead from a region and a target to others
abbrev pub CalledOn : RegionState → TargetState → List CallMade → RegionState → TargetState → Type 0
CalledOn r t [] left after = SameSizes r left × (after ≡ t)
CalledOn r t (m ∷ ms) left after = SameSizes r m.region × CanCall t m.call × CalledOn (region_called m.region t m.call) (target_called m.region t m.call) ms left after
