use Rattle.std.proofs.Common.{arith}
use Rattle.target_table.proofs.Expiring.{expired-fits}
use Rattle.target_table.proofs.table.Table.expired.Goals as goal

pub overflow_cast-result : goal.overflow_cast-result
overflow_cast-result c = let f = expired-fits _ _ _ _ c.self.invariant.kept in omega arith
