use Rattle.std.proofs.Common.{◌≡◌, ℕ, ◌+◌, ◌≤◌, ◌++◌, ◌∷◌, [], nat_lt, List, length, sym, ap, ◌∙◌, subst, arith}
use Rattle.tcmu_types.specs.Dumps.{HeldData}
use Rattle.tcmu_types.specs.Lists.{first_of}
use Rattle.tcmu_model.specs.Device.{Unfinished}
use Rattle.target_side.specs.declared.numbers.TargetNumbers.{TargetNumbers}
use Rattle.ring_path.specs.Devices.{RingDevice}
use Rattle.ring_path.specs.Rings.{IsRing}
use Rattle.ring_path.proofs.Holders.{Tells, behind, fewer_next, many, next_is, next_none, none_left, none_next, tells_all, tells_first, tells_init, tells_next}
use Rattle.ring_path.proofs.state.State.held.Goals as goal

pub loop-init : goal.loop-init
loop-init c =
    let a = c.self.inside in
    let r = subst (λ (k : RingDevice). IsRing a.region a.target a.user a.hand.items a.attached a.longest k) c.self.view_is c.self.invariant in
    let first = tells_first a.region a.target a.user a.hand.items a.attached a.longest c.args.self.now r in
    record {
      told = tells_init c.args.self.now c.new-held.result.items c.new-held.ensures first;
      left = omega (arith, ap (λ (us : List Unfinished). length us) first);
    }

pub returns-in-None : goal.returns-in-None
returns-in-None c =
    let k = c.args.self.now in
    let e = sym c.in-None.is ∙ c.in_ok-next.ensures in
    let none = next_none k.lists (first_of (λ (u : Unfinished). nat_lt c.loop.serial u.serial) k.state.unfinished) e in
    tells_all k c.loop.held.items c.loop.serial (none_next k c.loop.serial none) c.loop.invariant.told

pub loop-preserved : goal.loop-preserved
loop-preserved c =
    let a = c.self.inside in
    let k = c.args.self.now in
    let s = c.loop.serial in
    let x = c.in-Some.next in
    let r = subst (λ (k : RingDevice). IsRing a.region a.target a.user a.hand.items a.attached a.longest k) c.self.view_is c.self.invariant in
    let e = sym c.in-Some.is ∙ c.in_ok-next.ensures in
    let w = next_is k.lists (first_of (λ (u : Unfinished). nat_lt s u.serial) k.state.unfinished) x e in
    let serial : c.serial_of-serial.result ≡ w.it.serial = c.serial_of-serial.ensures ∙ ap (λ (h : HeldData). h.serial) w.same in
    let new = c.push.ensures.items ∙ ap (λ (xs : List HeldData). xs ++ x ∷ []) c.reserve.ensures.items in
    let told = tells_next a.region a.target a.user a.hand.items a.attached a.longest k s c.loop.held.items c.push.new.self.items x w.it r w.there w.same new c.loop.invariant.told in
    let fewer = fewer_next a.region a.target a.user a.hand.items a.attached a.longest k s w.it r w.there in
    let left : c.loop.counter + 1 + length (behind w.it.serial k.state.unfinished) ≤ length k.state.unfinished = omega (arith, fewer, c.loop.invariant.left) in
    record {
      told = subst (λ (n : ℕ). Tells k c.push.new.self.items n) (sym serial) told;
      left = subst (λ (n : ℕ). c.loop.counter + 1 + length (behind n k.state.unfinished) ≤ length k.state.unfinished) (sym serial) left;
    }

pub returns : goal.returns
returns c =
    let a = c.self.inside in
    let k = c.args.self.now in
    let r = subst (λ (k : RingDevice). IsRing a.region a.target a.user a.hand.items a.attached a.longest k) c.self.view_is c.self.invariant in
    let rows = many a.region a.target a.user a.hand.items a.attached a.longest k r in
    let pending = ap (λ (n : TargetNumbers). n.pending) c.numbers-end.ensures.value in
    let few : length (behind c.loop.serial k.state.unfinished) ≤ 0 = omega (arith, rows, pending, c.loop-test.false, c.loop.invariant.left) in
    tells_all k c.loop.held.items c.loop.serial (none_left (behind c.loop.serial k.state.unfinished) few) c.loop.invariant.told
