use Rattle.std.proofs.Common.{◌≡◌, false, List, sym, ap, ◌∙◌, subst}
use Rattle.tcmu_model.specs.Device.{DeviceState}
use Rattle.region_model.specs.Sides.{InHand}
use Rattle.ring_laws.specs.Restarted.{region_with_hand}
use Rattle.ring_path.specs.Backs.{AllGoBack}
use Rattle.ring_path.specs.Devices.{RingDevice}
use Rattle.ring_path.specs.Rings.{IsRing}
use Rattle.ring_path.proofs.Restarts.{accepted_restarted, all_go_back, pages_with_hand, restart_keeps, ring_with_hand}
use Rattle.ring_path.proofs.state.State.restart.Goals as goal

pub put_all_back-requires : goal.put_all_back-requires
put_all_back-requires c =
    let a = c.self.inside in
    subst (λ (hs : List InHand). AllGoBack a.region hs) (sym c.take_all-jobs.ensures.jobs) (all_go_back a.region a.target a.user a.hand.items a.told.state a.told.lists c.self.invariant.stands)

pub abandon-requires-clause-ring : goal.abandon-requires-clause-ring
abandon-requires-clause-ring c =
    let a = c.self.inside in
    ring_with_hand a.region c.put_all_back.new.region a.target a.user a.hand.items a.told.state a.told.lists c.self.invariant.stands (c.put_all_back.ensures ∙ ap (region_with_hand a.region) c.take_all-jobs.ensures.jobs)

pub abandon-requires-clause-pages : goal.abandon-requires-clause-pages
abandon-requires-clause-pages c =
    let a = c.self.inside in
    pages_with_hand a.region c.put_all_back.new.region a.target a.user a.hand.items a.told.state a.told.lists c.self.invariant.stands (c.put_all_back.ensures ∙ ap (region_with_hand a.region) c.take_all-jobs.ensures.jobs)

pub invariant_of-self : goal.invariant_of-self
invariant_of-self c =
    let a = c.self.inside in
    subst (λ (k : RingDevice). IsRing c.abandon.new.region a.target c.abandon.new.self c.take_all-jobs.new.self.items false a.longest k) (sym c.restarted.ensures.whole)
    (restart_keeps a.region c.put_all_back.new.region c.abandon.new.region a.target a.user c.abandon.new.self a.hand.items c.take_all-jobs.new.self.items a.attached a.longest a.told c.self.invariant
    (c.put_all_back.ensures ∙ ap (region_with_hand a.region) c.take_all-jobs.ensures.jobs) c.abandon.ensures.device c.take_all-jobs.ensures.rest)

pub returns-clause-accepted : goal.returns-clause-accepted
returns-clause-accepted c =
    let a = c.self.inside in
    subst (λ (k : RingDevice). c.restarted.new.self.state.accepted ≡ k.state.accepted) c.self.view_is (ap (λ (d : DeviceState). d.accepted) c.restarted.ensures.state ∙ accepted_restarted a.told.state)
