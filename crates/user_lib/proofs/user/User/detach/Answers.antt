use Rattle.std.proofs.Common.{refl}
use Rattle.region_model.specs.UserSteps.{user_abandoned}
use Rattle.user_lib.proofs.OnDevice.{restarts}
use Rattle.user_lib.proofs.user.User.detach.Goals as goal

pub returns-clause-device : goal.returns-clause-device
returns-clause-device c = restarts c.args.region.now c.abandon.new.region c.args.self (user_abandoned c.args.self) refl c.abandon.ensures.region
