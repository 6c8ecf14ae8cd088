use Rattle.std.proofs.Common.{sym, ap, ◌∙◌, subst}
use Rattle.std.specs.List.{list_any}
use Rattle.std.proofs.lemmas.Bool.{false≢true}
use Rattle.tcmu_types.specs.Lists.{without_first}
use Rattle.region_model.specs.UserSteps.{is_open_job}
use Rattle.user_lib.specs.Given.{AreKept, OrderState, jobs_of}
use Rattle.user_lib.proofs.Keys.{any_open, jobs_without, keyed_without}
use Rattle.user_lib.proofs.jobs.Jobs.remove.Goals as goal

pub remove-requires-clause-is_open : goal.remove-requires-clause-is_open
remove-requires-clause-is_open c =
    sym (any_open c.self.inside.parked c.args.id c.self.inside.order.given c.self.invariant.keyed.apart) ∙ (ap (λ v. list_any (is_open_job c.args.id) v.jobs) c.self.view_is ∙ c.requires.is_open)

pub invariant_of-self : goal.invariant_of-self
invariant_of-self c =
    let any = ap (λ v. v.any_order) c.self.view_is ∙ c.requires.order in
    subst (AreKept c.self.inside.parked) (sym c.remove.ensures)
    (record { keyed = keyed_without c.self.inside.parked c.args.id c.self.inside.order.given c.self.invariant.keyed; room = λ n. absurd (false≢true (sym n ∙ any)) })

pub returns-clause-jobs : goal.returns-clause-jobs
returns-clause-jobs c =
    ap (λ (o : OrderState). jobs_of c.self.inside.parked o.given) c.remove.ensures
    ∙ (jobs_without c.self.inside.parked c.args.id c.self.inside.order.given c.self.invariant.keyed.apart ∙ ap (λ v. without_first (is_open_job c.args.id) v.jobs) c.self.view_is)
