use Rattle.std.proofs.Common.{◌≤◌, length, subst, sym, arith}
use Rattle.tcmu_model.specs.Device.{DeviceState}
use Rattle.tcmu_path.proofs.Bounds.{few_rows}
use Rattle.tcmu_path.proofs.state.State.unfinished.Goals as goal

pub returns-clause-few : goal.returns-clause-few
returns-clause-few c =
    let few : length c.self.inside.rows.items ≤ 65536 = subst (λ (d : DeviceState). length d.unfinished ≤ 65536) (sym c.self.view_is) (few_rows c.args.self.now c.requires) in
    omega (arith, few)
