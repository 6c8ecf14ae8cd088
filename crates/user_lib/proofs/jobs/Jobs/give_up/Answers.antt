use Rattle.std.proofs.Common.{◌≡◌, ◌≤◌, true, [], List, length, sym, ap, ◌∙◌, subst, arith}
use Rattle.tcmu_types.specs.Lists.{Every}
use Rattle.region_model.specs.Sides.{GivenJob}
use Rattle.user_lib.specs.Given.{AreKept, keys_of}
use Rattle.user_lib.proofs.Keys.{none_kept}
use Rattle.user_lib.proofs.jobs.Jobs.give_up.Goals as goal

pub invariant_of-self : goal.invariant_of-self
invariant_of-self c =
    let none : keys_of c.self.inside.order.given ≡ [] = c.begin.ensures.none (ap (λ v. v.any_order) c.self.view_is ∙ c.requires) in
    subst (AreKept c.self.inside.parked) (sym c.begin.ensures.new) (record { keyed = record { apart = tt; count = c.self.invariant.keyed.count ∙ ap length none }; room = λ n. omega arith })

pub returns-clause-none : goal.returns-clause-none
returns-clause-none c =
    let none : keys_of c.self.inside.order.given ≡ [] = c.begin.ensures.none (ap (λ v. v.any_order) c.self.view_is ∙ c.requires) in
    subst (λ (jobs : List GivenJob). Every (λ g. g.parked ≡ Rattle.std.proofs.Common.None) jobs) (ap (λ v. v.jobs) c.self.view_is) (none_kept c.self.inside.parked c.self.inside.order.given none)
