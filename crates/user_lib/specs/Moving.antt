-- One item that the tail moves over.
use Rattle.std.specs.Prelude.{◌≡◌, ◌+◌, ◌%◌, ◌∷◌, true, if◌then◌else◌, ◌<◌}
use Rattle.region_model.specs.Sides.{Recorded, UserState}
use Rattle.region_model.specs.UserSteps.{is_cmd}

-- it is the first, and a command's only where an answer is not yet published
pub record Moves (u : UserState) (x : Recorded) (after : UserState) : Type 0 where
  pub items : u.items ≡ x ∷ after.items
  pub may : is_cmd x ≡ true → u.published < u.placed
  pub user : after ≡ record u {
    items = after.items;
    tail = (u.tail + x.len) % u.ring;
    published = u.published + (if is_cmd x then 1 else 0);
  }

abbrev pub MovesOne : UserState → UserState → Type 0
MovesOne u after = (x : Recorded) × Moves u x after
