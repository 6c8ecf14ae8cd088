use Rattle.iovec_scatter.proofs.Covering.{ends_along}
use Rattle.iovec_scatter.proofs.laws.ends_along.Goals as goal

pub returns : goal.returns
returns c = ends_along
