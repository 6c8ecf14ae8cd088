use Rattle.std.proofs.Common.{Some, sym, ap, ◌∙◌}
use Rattle.std.specs.Option.{option_copied, option_map}
use Rattle.region_model.specs.Sides.{Parked}
use Rattle.user_lib.specs.Given.{kept_under, parked_job}
use Rattle.user_lib.proofs.Keys.{parked_same}
use Rattle.user_lib.proofs.jobs.Jobs.parked.Goals as goal

pub returns-in_err-parked : goal.returns-in_err-parked
returns-in_err-parked c =
    ap option_copied c.from_residual.ensures
    ∙ (ap (λ r. option_map (λ (p : Parked). p.job) (option_copied r)) (sym c.in_err-parked.was)
    ∙ (ap (λ o. option_map (λ (p : Parked). p.job) o) (c.kept.ensures ∙ ap (λ k. kept_under c.self.inside.parked k) c.key_of.ensures)
    ∙ (parked_same c.self.inside.parked c.args.id c.self.inside.order.given c.self.invariant.keyed.apart ∙ ap (λ v. parked_job c.args.id v.jobs) c.self.view_is)))

pub returns : goal.returns
returns c =
    ap (λ (p : Parked). Some p.job) c.parked.view_is
    ∙ (ap (λ r. option_map (λ (p : Parked). p.job) (option_copied r)) (sym c.in_ok-parked.was)
    ∙ (ap (λ o. option_map (λ (p : Parked). p.job) o) (c.kept.ensures ∙ ap (λ k. kept_under c.self.inside.parked k) c.key_of.ensures)
    ∙ (parked_same c.self.inside.parked c.args.id c.self.inside.order.given c.self.invariant.keyed.apart ∙ ap (λ v. parked_job c.args.id v.jobs) c.self.view_is)))
