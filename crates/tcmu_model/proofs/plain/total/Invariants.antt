use Rattle.std.proofs.Common.{◌≡◌, ◌≤◌, ◌*◌, take, sum}
use Rattle.tcmu_model.proofs.plain.total.Given as goal

abbrev pub invariant-loop-len : goal.invariant-loop-len
invariant-loop-len l = (l.sum ≡ sum (take l.len-index l.laid)) × (l.sum ≤ 4294967295 * l.len-index)
