use Rattle.shm_region.proofs.Shown.{if_sized}
use Rattle.shm_region.proofs.region.Region.home_block.Goals as goal

pub returns-clause-size : goal.returns-clause-size
returns-clause-size c = if_sized c.args.self.now c.args.block c.home.result c.data_off.ensures.limits.sized c.home.ensures
