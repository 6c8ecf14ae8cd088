use Rattle.std.proofs.Common.{sym, subst}
use Rattle.ring_path.specs.Devices.{RingDevice}
use Rattle.ring_path.specs.Rings.{IsRing}
use Rattle.ring_path.proofs.Handles.{stay_keeps}
use Rattle.ring_path.proofs.state.State.stay.Goals as goal

pub invariant_of-self : goal.invariant_of-self
invariant_of-self c =
    let a = c.self.inside in
    subst (λ (k : RingDevice). IsRing a.region a.target a.user a.hand.items a.attached a.longest k) (sym c.kept.ensures.whole)
    (stay_keeps a.region a.target a.user a.hand.items a.attached a.longest a.told c.self.invariant)
