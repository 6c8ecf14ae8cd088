use Rattle.std.proofs.Common.{◌∙◌}
use Rattle.tcmu_model.specs.Device.{is_at}
use Rattle.tcmu_path.proofs.Rising.{told_some}
use Rattle.tcmu_path.proofs.rows.Rows.has.Goals as goal

pub returns : goal.returns
returns c = c.is_some.ensures ∙ told_some (is_at c.args.serial c.args.state) c.args.self.now.items c.index_of.result c.index_of.ensures
