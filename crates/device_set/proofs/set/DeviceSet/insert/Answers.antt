use Rattle.device_set.proofs.Places.{added}
use Rattle.device_set.proofs.set.DeviceSet.insert.Goals as goal

pub returns-in-Ok-clause-added : goal.returns-in-Ok-clause-added
returns-in-Ok-clause-added g c = added _ _ _ _ _ c.in-Ok.ensures.entries c.self.view_is c.requires.new
