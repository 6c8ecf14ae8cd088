use Rattle.std.proofs.Common.{◌≡◌, ◌∷◌, true, false, sym, ap, ◌∙◌, subst}
use Rattle.std.specs.Option.{MatchOption}
use Rattle.region_model.specs.Sides.{GivenJob, UserState}
use Rattle.user_lib.specs.Answering.{TakesParked}
use Rattle.user_lib.specs.Given.{first_parked}
use Rattle.user_lib.proofs.Keys.{at_some}
use Rattle.user_lib.proofs.Placings.{taken_told}
use Rattle.user_lib.proofs.books.UserBooks.take_parked.Goals as goal

pub returns : goal.returns
returns c =
    let u : UserState = c.args.self.now in
    let g : GivenJob = record { id = c.taken.inside.id; parked = c.taken.inside.parked } in
    let jobs = c.pop.new.self.jobs in
    let there = at_some _ _ c.pop.result c.in_ok-taken.taken c.in_ok-taken.was c.pop.ensures.jobs in
    let e = sym (ap (λ (v : UserState). v.jobs) c.self.view_is) ∙ (there ∙ ap (λ (x : GivenJob). x ∷ jobs) (sym c.taken.view_is)) in
    let first : first_parked u.jobs ≡ true = sym (ap (λ (v : UserState). first_parked v.jobs) c.self.view_is) ∙ (sym c.is_first_parked.ensures.value ∙ c.if-not-is_first_parked.false) in
    subst (λ (v : UserState). MatchOption g.parked ((first_parked u.jobs ≡ false) × (v ≡ u)) (λ p. TakesParked u p v)) (sym (ap (λ (v : UserState). record v { jobs = jobs }) c.self.view_is))
    (taken_told u g jobs e first)
