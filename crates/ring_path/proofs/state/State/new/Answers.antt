use Rattle.std.proofs.Common.{true, [], sym, subst}
use Rattle.tcmu_types.specs.Rules.{IsSettings}
use Rattle.tcmu_model.specs.Device.{opening_state}
use Rattle.region_model.specs.Regions.{RegionState}
use Rattle.region_model.specs.TargetSteps.{opening_target}
use Rattle.region_model.specs.UserSteps.{opening_user}
use Rattle.user_lib.specs.OnDevice.{StandsFor}
use Rattle.ring_path.specs.Devices.{RingDevice}
use Rattle.ring_path.specs.Rings.{IsRing}
use Rattle.ring_path.proofs.Opens.{ring_opening, stands_opening}
use Rattle.ring_path.proofs.state.State.new.Goals as goal

pub unreachable-requires : goal.unreachable-requires
unreachable-requires c =
    let s = c.args.settings in
    let rules : IsSettings s = search in
    c.in_default.ensures.no_device (opening_target s) (opening_user s) [] (opening_state s) []
    (subst (λ (x : RegionState). StandsFor x (opening_target s) (opening_user s) [] (opening_state s) []) (sym c.in_ok-region.ensures) (stands_opening s rules))

pub invariant_of-result : goal.invariant_of-result
invariant_of-result c =
    let s = c.args.settings in
    let rules : IsSettings s = search in
    subst (λ (k : RingDevice). IsRing c.in_ok-region.region c.in_ok-target.target c.in-Ok.user c.new-3.result.items true 0 k) (sym c.opened.ensures)
    (ring_opening s c.in_ok-region.region c.in_ok-target.target c.in-Ok.user c.new-3.result.items rules c.in_ok-region.ensures c.in_ok-target.ensures c.in-Ok.ensures.ok c.new-3.ensures)
