use Rattle.std.proofs.Common.{◌≤◌, length, refl, sym, ap, ◌∙◌, arith}
use Rattle.region_model.specs.Sides.{UserState}
use Rattle.user_lib.specs.Answering.{TakesParked}
use Rattle.user_lib.proofs.Keys.{at_none, at_some}
use Rattle.user_lib.proofs.Placings.{front_end, front_kept, front_placed, front_step, front_taken, placed_kept}
use Rattle.user_lib.proofs.books.UserBooks.place_front.Goals as goal

pub loop-parked-init : goal.loop-parked-init
loop-parked-init c = record { same = refl; kept = front_kept c.args.region.now c.args.self.now c.requires.ring c.requires.pages c.requires.whole c.requires.counts }

pub place-requires : goal.place-requires
place-requires c =
    let t : TakesParked c.loop-parked.self c.in-Some.parked c.take_parked.new.self = at_some _ _ c.take_parked.result c.in-Some.parked c.in-Some.is c.take_parked.ensures in
    let k = front_taken c.loop-parked.region c.loop-parked.self c.take_parked.new.self c.in-Some.parked c.loop-parked.invariant.kept t in
    record { ring = k.ring; pages = k.pages; whole = k.whole; can = k.can }

pub loop-parked-preserved : goal.loop-parked-preserved
loop-parked-preserved c =
    let t : TakesParked c.loop-parked.self c.in-Some.parked c.take_parked.new.self = at_some _ _ c.take_parked.result c.in-Some.parked c.in-Some.is c.take_parked.ensures in
    let k = front_taken c.loop-parked.region c.loop-parked.self c.take_parked.new.self c.in-Some.parked c.loop-parked.invariant.kept t in
    let q = placed_kept c.loop-parked.region c.place.new.region c.take_parked.new.self c.place.new.self c.in-Some.parked k.can.entry c.place.ensures.value in
    let some : 1 ≤ length c.loop-parked.self.offsets = omega (arith, c.loop-parked.invariant.kept.owed, ap length t.jobs) in
    record {
      same = front_step c.loop-parked.region c.place.new.region c.loop-parked.self c.take_parked.new.self c.place.new.self c.in-Some.parked t some c.place.ensures.value q.jobs ∙ c.loop-parked.invariant.same;
      kept = front_placed c.loop-parked.region c.place.new.region c.loop-parked.self c.take_parked.new.self c.place.new.self c.in-Some.parked c.loop-parked.invariant.kept t c.place.ensures.value c.place.ensures.front c.place.ensures.pages;
    }

pub loop-parked-smaller : goal.loop-parked-smaller
loop-parked-smaller c =
    let t : TakesParked c.loop-parked.self c.in-Some.parked c.take_parked.new.self = at_some _ _ c.take_parked.result c.in-Some.parked c.in-Some.is c.take_parked.ensures in
    let k = front_taken c.loop-parked.region c.loop-parked.self c.take_parked.new.self c.in-Some.parked c.loop-parked.invariant.kept t in
    let q = placed_kept c.loop-parked.region c.place.new.region c.take_parked.new.self c.place.new.self c.in-Some.parked k.can.entry c.place.ensures.value in
    omega (arith, ap length t.jobs, ap length q.jobs)

pub returns : goal.returns
returns c =
    let n = at_none _ _ c.take_parked.result c.in_default.is c.take_parked.ensures in
    sym c.loop-parked.invariant.same
    ∙ (front_end (record { region = c.loop-parked.region; user = c.loop-parked.self }) c.loop-parked.self.jobs n.0
    ∙ ap (λ (x : UserState). record { region = c.loop-parked.region; user = x }) (sym n.1))
