use Rattle.tcmu_path.proofs.Bounds.{few_rows}
use Rattle.tcmu_path.proofs.plain.PlainPathPath.stat.Goals as goal

pub stat-requires : goal.stat-requires
stat-requires g c = few_rows c.self.inside.state c.self.invariant
