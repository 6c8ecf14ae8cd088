-- What rows keep beside their commands: their serials rise, so one is found by bisection; and of the states that the drain asks
-- for, the least serial and the number of the commands are kept.
use Rattle.std.specs.Prelude.{◌≡◌, ℕ, ◌==◌, nat_lt, List, map, Option, None, Some, if◌then◌else◌}
use Rattle.std.specs.List.{count_by}
use Rattle.std.specs.Option.{option_map}
use Rattle.tcmu_model.specs.declared.state.CommandState.{CommandState}
use Rattle.tcmu_model.specs.declared.state.CommandState.TheVariants.{Out, Handled}
use Rattle.tcmu_types.specs.Lists.{first_of}
use Rattle.tcmu_types.specs.Numbers.{IsRising}
use Rattle.tcmu_model.specs.Device.{Unfinished, has_state}
use Rattle.tcmu_path.specs.declared.tally.Tally.{Tally}

-- the serials of these commands, in order
abbrev pub serials_of : List Unfinished → List ℕ
serials_of us = map (λ u. u.serial) us

-- the serial of the first command in a state
abbrev pub least_in : CommandState → List Unfinished → Option ℕ
least_in t us = option_map (λ u. u.serial) (first_of (has_state t) us)

-- the least of some serials, with one more
abbrev pub lesser : Option ℕ → ℕ → Option ℕ
lesser least s = elim (least) [ None ↦ Some s | Some m ↦ if nat_lt m s then Some m else Some s ]

-- the least of some serials, without this one: where it was the least, the next one
abbrev pub without : Option ℕ → ℕ → Option ℕ → Option ℕ
without least s next = elim (least) [ None ↦ None | Some m ↦ if m == s then next else Some m ]

-- the tally is that of the commands in a state
pub record IsTally (t : CommandState) (us : List Unfinished) (tally : Tally) : Type 0 where
  pub least_is : tally.least ≡ least_in t us
  pub count_is : tally.count ≡ count_by (has_state t) us

-- serials rise, and each tally is that of the commands in its state
pub record AreRows (us : List Unfinished) (out handled : Tally) : Type 0 where
  pub rising : IsRising (serials_of us)
  pub out_is : IsTally Out us out
  pub handled_is : IsTally Handled us handled
