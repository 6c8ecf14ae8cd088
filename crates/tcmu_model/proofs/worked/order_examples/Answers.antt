use Rattle.tcmu_model.proofs.Computed.{out_of_order, logged_as_placed, in_order, logged_as_laid}
use Rattle.tcmu_model.proofs.worked.order_examples.Goals as goal

pub returns : goal.returns
returns c = record { out_of_order = out_of_order; logged_as_placed = logged_as_placed; in_order = in_order; logged_as_laid = logged_as_laid }
