-- The jobs that were given, by what was done to them.
use Rattle.std.specs.Prelude.{List, [], ◌∷◌, ◌++◌, drop, None}
use Rattle.tcmu_types.specs.Lists.{without_first, with_first}
use Rattle.user_lib.specs.declared.past.Given.{Given}
use Rattle.user_lib.specs.declared.past.Change.{Change, Empty, Pushed', Removed', Parked', Popped'}
use Rattle.user_lib.specs.Given.{is_open, with_key}

abbrev pub given_behind : Change → List Given
given_behind Empty = []
given_behind (Pushed' id marker before) = given_behind before ++ record { id = id.value; key = None } ∷ []
given_behind (Removed' id marker before) = without_first (is_open id.value) (given_behind before)
given_behind (Parked' id key marker before) = with_first (is_open id.value) (with_key key.value) (given_behind before)
given_behind (Popped' marker before) = drop 1 (given_behind before)
