use Rattle.region_model.proofs.ComputedSides.{waits_five, expire_once, cleans_one, answers_are}
use Rattle.region_model.proofs.worked.side_examples.Goals as goal

pub returns : goal.returns
returns c = record { waits = waits_five; expire = expire_once; cleans = cleans_one; answers = answers_are }
