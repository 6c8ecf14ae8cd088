use Rattle.std.proofs.Common.{sym, ap, ◌∙◌}
use Rattle.std.specs.List.{list_any}
use Rattle.region_model.specs.UserSteps.{is_open_job}
use Rattle.user_lib.proofs.Keys.{any_open}
use Rattle.user_lib.proofs.jobs.Jobs.is_open.Goals as goal

pub returns : goal.returns
returns c =
    c.is_open.ensures ∙ (sym (any_open c.self.inside.parked c.args.id c.self.inside.order.given c.self.invariant.keyed.apart) ∙ ap (λ v. list_any (is_open_job c.args.id) v.jobs) c.self.view_is)
