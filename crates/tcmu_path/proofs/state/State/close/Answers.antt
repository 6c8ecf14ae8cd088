use Rattle.std.proofs.Common.{◌≡◌, true, refl, subst}
use Rattle.tcmu_model.specs.Device.{DeviceState}
use Rattle.tcmu_model.specs.Events.{emptied}
use Rattle.tcmu_path.proofs.state.State.close.Goals as goal

pub returns-clause-after : goal.returns-clause-after
returns-clause-after c =
    let a = c.self.inside in
    let new : DeviceState = record { settings = a.settings; now = a.now; blocked = a.blocked; attached = true; ring = c.reset.new.self; accepted = a.accepted; unfinished = c.end_all.new.rows.items; delayed = c.end_all.new.delayed.items; placed = c.clear.new.self.items; log = c.end_all.new.log.items } in
    subst (λ (d : DeviceState). new ≡ emptied d c.args.level) c.self.view_is (rw (c.reset.ensures, c.end_all.ensures.rows, c.end_all.ensures.delayed, c.clear.ensures.items, c.end_all.ensures.log) refl)
