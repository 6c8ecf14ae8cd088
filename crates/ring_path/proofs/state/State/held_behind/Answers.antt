use Rattle.std.proofs.Common.{◌≡◌, nat_lt, Some, None, option_map, sym, ap, subst}
use Rattle.tcmu_types.specs.Lists.{first_of}
use Rattle.tcmu_model.specs.Device.{Unfinished}
use Rattle.region_model.specs.Picture.{shown_command}
use Rattle.ring_path.specs.Devices.{RingDevice}
use Rattle.ring_path.specs.Dumped.{HasLengths}
use Rattle.ring_path.proofs.Holding.{never_none, next_counted, next_held, next_shown, none_held}
use Rattle.ring_path.proofs.state.State.held_behind.Goals as goal

pub held_of-requires-clause-low : goal.held_of-requires-clause-low
held_of-requires-clause-low c =
    let a = c.self.inside in
    let l = subst (λ (k : RingDevice). HasLengths c.args.lengths.now k.state) (sym c.self.view_is) c.requires in
    let n = next_held c.args.lengths.now a.region a.target a.user a.hand.items a.attached a.longest a.told c.args.serial c.in-Some.id c.self.invariant l c.in-Some.ensures in
    (next_counted c.args.lengths.now a.region a.target a.user a.hand.items a.told c.args.serial c.in-Some.id c.in-Some-pending.pending.now n c.in-Some-pending.ensures).0

pub held_of-requires-clause-high : goal.held_of-requires-clause-high
held_of-requires-clause-high c =
    let a = c.self.inside in
    let l = subst (λ (k : RingDevice). HasLengths c.args.lengths.now k.state) (sym c.self.view_is) c.requires in
    let n = next_held c.args.lengths.now a.region a.target a.user a.hand.items a.attached a.longest a.told c.args.serial c.in-Some.id c.self.invariant l c.in-Some.ensures in
    (next_counted c.args.lengths.now a.region a.target a.user a.hand.items a.told c.args.serial c.in-Some.id c.in-Some-pending.pending.now n c.in-Some-pending.ensures).1

pub unreachable-requires : goal.unreachable-requires
unreachable-requires c =
    let a = c.self.inside in
    let l = subst (λ (k : RingDevice). HasLengths c.args.lengths.now k.state) (sym c.self.view_is) c.requires in
    let n = next_held c.args.lengths.now a.region a.target a.user a.hand.items a.attached a.longest a.told c.args.serial c.in-Some.id c.self.invariant l c.in-Some.ensures in
    never_none c.args.lengths.now a.region a.target a.user a.hand.items a.told c.args.serial c.in-Some.id n c.in-None-pending.ensures

pub returns-in_ok-held-in-Some-pending : goal.returns-in_ok-held-in-Some-pending
returns-in_ok-held-in-Some-pending c =
    let a = c.self.inside in
    let l = subst (λ (k : RingDevice). HasLengths c.args.lengths.now k.state) (sym c.self.view_is) c.requires in
    let n = next_held c.args.lengths.now a.region a.target a.user a.hand.items a.attached a.longest a.told c.args.serial c.in-Some.id c.self.invariant l c.in-Some.ensures in
    subst (λ (k : RingDevice). Some c.in_ok-held-in-Some-pending.held ≡ option_map (shown_command k.lists) (first_of (λ (u : Unfinished). nat_lt c.args.serial u.serial) k.state.unfinished)) c.self.view_is
    (next_shown c.args.lengths.now a.region a.target a.user a.hand.items a.told c.args.serial c.in-Some.id c.in-Some-pending.pending.now c.in_ok-held-in-Some-pending.held n c.in-Some-pending.ensures c.in_ok-held-in-Some-pending.ensures)

pub returns-in-None : goal.returns-in-None
returns-in-None c =
    let a = c.self.inside in
    subst (λ (k : RingDevice). None ≡ option_map (shown_command k.lists) (first_of (λ (u : Unfinished). nat_lt c.args.serial u.serial) k.state.unfinished)) c.self.view_is
    (sym (ap (option_map (shown_command a.told.lists)) (none_held a.region a.target a.user a.hand.items a.attached a.longest a.told c.args.serial c.self.invariant c.in-None.ensures)))
