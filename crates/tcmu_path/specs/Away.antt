-- Commands that a list of serials leaves alone.
use Rattle.std.specs.Prelude.{◌≡◌, ℕ, false, List}
use Rattle.tcmu_model.specs.Device.{Unfinished}
use Rattle.tcmu_types.specs.Numbers.{is_among}
use Rattle.tcmu_types.specs.Lists.{Every}

-- no command has a serial of the list
abbrev pub AreAway : List ℕ → List Unfinished → Type 0
AreAway gone us = Every (λ u. is_among gone u.serial ≡ false) us
