use Rattle.std.proofs.Common.{arith}
use Rattle.tcmu_path.proofs.OpenCounts.{expired_within, delayed_few, open_counted}
use Rattle.tcmu_path.proofs.count.open_count.Goals as goal

pub overflow_sub-result : goal.overflow_sub-result
overflow_sub-result g c = omega (arith, expired_within (g.P.Path.device c.args.path.now).state c.stat-stat.result c.stat-stat.ensures.answer, c.in_ring.ensures.value, c.from.ensures)

pub overflow_add-result : goal.overflow_add-result
overflow_add-result g c =
    omega (arith, delayed_few (g.P.Path.device c.args.path.now).state c.stat-stat.result c.requires.sound c.stat-stat.ensures.answer, c.requires.few, c.in_ring.ensures.small)

pub returns : goal.returns
returns g c =
    rw (c.in_ring.ensures.value, c.from.ensures) (open_counted (g.P.Path.device c.args.path.now).state c.stat-stat.result c.stat-stat.ensures.answer)
