use Rattle.std.proofs.Common.{◌∷◌, Option, List, length, sym, ap, ◌∙◌, subst, arith}
use Rattle.region_model.specs.Sides.{GivenJob, Parked}
use Rattle.user_lib.specs.declared.past.Given.{Given}
use Rattle.user_lib.specs.Given.{AreKeyed, awaited, jobs_of}
use Rattle.user_lib.proofs.Keys.{jobs_pop, keyed_pop, pop_room}
use Rattle.user_lib.proofs.jobs.Jobs.pop.Goals as goal

pub invariant_of-self-2 : goal.invariant_of-self-2
invariant_of-self-2 c =
    let s = c.self.inside.parked in
    let g = c.in_ok-given.given in
    let e = c.in_ok-given.ensures.given in
    let gs = c.pop.new.self.given in
    let h = subst (λ (xs : List Given). AreKeyed s xs) e c.self.invariant.keyed in
    record {
      keyed = keyed_pop s c.take_kept.new.parked g gs c.take_kept.ensures.rest h;
      room = λ n.
          let r = c.self.invariant.room (sym c.in_ok-given.ensures.order ∙ n) in
          let more = pop_room s c.take_kept.new.parked g.key c.take_kept.ensures.rest in
          omega (arith, r, more, ap length e, ap awaited c.in_ok-given.ensures.room);
    }

pub returns-clause-jobs : goal.returns-clause-jobs
returns-clause-jobs c =
    let s = c.self.inside.parked in
    let g = c.in_ok-given.given in
    let e = c.in_ok-given.ensures.given in
    let gs = c.pop.new.self.given in
    let h = subst (λ (xs : List Given). AreKeyed s xs) e c.self.invariant.keyed in
    sym (ap (λ v. v.jobs) c.self.view_is)
    ∙ (ap (λ (xs : List Given). jobs_of s xs) e
    ∙ (ap (λ (x : Option Parked). (record { id = g.id; parked = x }) ∷ jobs_of s gs) (sym c.take_kept.ensures.value)
    ∙ ap (λ (xs : List GivenJob). (record { id = g.id; parked = c.take_kept.result }) ∷ xs) (sym (jobs_pop s c.take_kept.new.parked g gs c.take_kept.ensures.rest h))))
