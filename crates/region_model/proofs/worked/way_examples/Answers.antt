use Rattle.region_model.proofs.Showing.{clears, serves}
use Rattle.region_model.proofs.worked.way_examples.Goals as goal

pub returns : goal.returns
returns c = record { clears = clears; serves = serves }
