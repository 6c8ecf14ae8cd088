use Rattle.std.proofs.Common.{◌≡◌, ◌+◌, ◌≤◌, length, ap, subst, arith}
use Rattle.tcmu_types.specs.Lists.{Every}
use Rattle.region_model.specs.Sides.{UserState}
use Rattle.user_lib.proofs.Keys.{at_none}
use Rattle.user_lib.proofs.Placings.{goes_back}
use Rattle.user_lib.proofs.books.UserBooks.place.Goals as goal

pub answer-requires-clause-inside : goal.answer-requires-clause-inside
answer-requires-clause-inside c =
    let o = subst (Every (λ x. x + 112 ≤ c.self.inside.ring)) c.in-Some.ensures.items c.self.invariant.sound.offsets in
    let r : c.self.inside.ring ≡ c.args.self.now.ring = ap (λ (x : UserState). x.ring) c.self.view_is in
    let f = c.requires.ring in
    omega (arith, o.0, r, f)

pub answer-requires-clause-back : goal.answer-requires-clause-back
answer-requires-clause-back c = goes_back c.args.region.now c.args.self.now c.args.parked.job c.requires.ring c.requires.pages c.requires.whole

pub unreachable-requires : goal.unreachable-requires
unreachable-requires c =
    let none = at_none _ _ c.pop_front.result c.in-None.is c.pop_front.ensures.cases in
    let n : length c.self.inside.offsets.items ≡ length c.args.self.now.offsets = ap (λ (x : UserState). length x.offsets) c.self.view_is in
    let l = c.self.inside.offsets.ok.0 in
    let d = c.requires.can.entry in
    omega (arith, none.0, n, l, d)
