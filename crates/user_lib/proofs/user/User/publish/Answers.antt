use Rattle.std.proofs.Common.{length, sym, ap, ◌∙◌, subst}
use Rattle.region_model.specs.Regions.{RegionState}
use Rattle.region_model.specs.Sides.{UserState}
use Rattle.region_model.specs.UserSteps.{region_published, user_publish_answer, user_published}
use Rattle.ring_laws.proofs.user_over_any_bytes.AnyAnswers.{publish_sizes}
use Rattle.user_lib.specs.Users.{IsUser}
use Rattle.user_lib.proofs.Kept.{pages_stays, published_kept, published_stays, ring_stays}
use Rattle.user_lib.proofs.OnDevice.{publishes}
use Rattle.user_lib.proofs.user.User.publish.Goals as goal

pub invariant_of-self : goal.invariant_of-self
invariant_of-self c = subst IsUser (sym c.publish.ensures.user) (published_kept c.self.inside.books c.self.invariant)

pub returns-clause-jobs : goal.returns-clause-jobs
unfolding user_published
returns-clause-jobs c = ap (λ (x : UserState). x.jobs) (c.publish.ensures.user ∙ ap user_published c.self.view_is)

pub returns-clause-same : goal.returns-clause-same
returns-clause-same c = published_stays c.args.self.now c.publish.new.self (c.publish.ensures.user ∙ ap user_published c.self.view_is)

pub returns-clause-ring : goal.returns-clause-ring
returns-clause-ring c =
    let same = published_stays c.args.self.now c.publish.new.self (c.publish.ensures.user ∙ ap user_published c.self.view_is) in
    let left = c.publish.ensures.region ∙ ap (λ (u : UserState). region_published c.args.region.now u) c.self.view_is in
    let sizes = publish_sizes c.args.region.now c.args.self.now c.requires.ring in
    ring_stays c.args.region.now c.publish.new.region c.args.self.now c.publish.new.self (ap (λ (r : RegionState). length r.front) left ∙ sizes.front) same c.requires.ring

pub returns-clause-pages : goal.returns-clause-pages
returns-clause-pages c =
    let same = published_stays c.args.self.now c.publish.new.self (c.publish.ensures.user ∙ ap user_published c.self.view_is) in
    let left = c.publish.ensures.region ∙ ap (λ (u : UserState). region_published c.args.region.now u) c.self.view_is in
    let sizes = publish_sizes c.args.region.now c.args.self.now c.requires.ring in
    pages_stays c.args.region.now c.publish.new.region c.args.self.now c.publish.new.self (ap (λ (r : RegionState). r.pages) left ∙ sizes.area.pages) same c.requires.pages

pub returns-clause-device : goal.returns-clause-device
returns-clause-device c =
    publishes c.args.region.now c.publish.new.region c.args.self.now c.publish.new.self c.publish.result
    (c.publish.ensures.answer ∙ ap user_publish_answer c.self.view_is)
    (c.publish.ensures.user ∙ ap user_published c.self.view_is)
    (c.publish.ensures.region ∙ ap (λ (u : UserState). region_published c.args.region.now u) c.self.view_is)
