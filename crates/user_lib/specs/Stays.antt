-- Which jobs may still be responded behind a call.
use Rattle.std.specs.Prelude.{◌≡◌, ◌≢◌, ℕ, true}
use Rattle.std.specs.List.{list_any}
use Rattle.region_model.specs.Sides.{UserState}
use Rattle.region_model.specs.UserSteps.{is_open_job}

-- those that may be before
abbrev pub StayOpen : UserState → UserState → Type 0
StayOpen u after = (id : ℕ) → list_any (is_open_job id) u.jobs ≡ true → list_any (is_open_job id) after.jobs ≡ true

-- those of other ids
abbrev pub OthersStayOpen : ℕ → UserState → UserState → Type 0
OthersStayOpen taken u after = (id : ℕ) → id ≢ taken → list_any (is_open_job id) u.jobs ≡ true → list_any (is_open_job id) after.jobs ≡ true

-- what was read at the attach stays, and so a whole job stays whole
pub record StaysAttached (u after : UserState) : Type 0 where
  pub ring : after.ring ≡ u.ring
  pub pages : after.pages ≡ u.pages
