-- The test of a ring size, and the sizes that pass it.
use Rattle.std.proofs.Common.{arith, false, not, ℕ, ◌≡◌}
use Rattle.std.proofs.lemmas.Bool.Decides.{nat_tests}
use Rattle.region_model.specs.MailboxReading.{is_ring_size}
use Rattle.tcmu_types.specs.Rules.{IsRingSize}

-- a size that passes the test is one of a ring
pub is_ring_sized : (n : ℕ) → not (is_ring_size n) ≡ false → IsRingSize n
is_ring_sized n test = record { least = grind (arith, nat_tests); most = grind (arith, nat_tests); pages = grind (arith, nat_tests) }
