-- What a set is after one of its devices was lent.
use Rattle.std.specs.Prelude.{ℕ, List}
use Rattle.std.specs.Borrow.{RattleType, Lends, MutBor, Fml}
use Rattle.device_set.specs.Sets.{with_device}
use Rattle.device_set.specs.contracts.set.DeviceSet.{the_row}

-- the set ends with the device that was left behind r in the place of this number
abbrev pub LendsDevice : (P : RattleType) → MutBor (List (List ℕ × P.Denot)) → ℕ → MutBor P.Denot → Fml
LendsDevice P s at r = Lends (the_row P) P s r (with_device s.now at)
