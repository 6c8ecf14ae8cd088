use Rattle.std.proofs.Common.{sym, ap, ◌∙◌, subst}
use Rattle.region_model.specs.Sides.{UserState}
use Rattle.region_model.specs.UserSteps.{region_abandoned, user_abandoned}
use Rattle.user_lib.specs.Users.{IsUser}
use Rattle.user_lib.proofs.Kept.{abandoned_kept, abandoned_pages, abandoned_ring}
use Rattle.user_lib.proofs.OnDevice.{restarts}
use Rattle.user_lib.proofs.user.User.abandon.Goals as goal

pub invariant_of-self : goal.invariant_of-self
invariant_of-self c = subst IsUser (sym c.abandon.ensures.user) (abandoned_kept c.self.inside.books c.self.invariant)

pub returns-clause-ring : goal.returns-clause-ring
returns-clause-ring c =
    abandoned_ring c.args.region.now c.abandon.new.region c.args.self.now c.abandon.new.self (c.abandon.ensures.user ∙ ap user_abandoned c.self.view_is)
    (c.abandon.ensures.region ∙ ap (λ (u : UserState). region_abandoned c.args.region.now u.jobs) c.self.view_is) c.requires.ring

pub returns-clause-pages : goal.returns-clause-pages
returns-clause-pages c =
    abandoned_pages c.args.region.now c.abandon.new.region c.args.self.now c.abandon.new.self (c.abandon.ensures.user ∙ ap user_abandoned c.self.view_is)
    (c.abandon.ensures.region ∙ ap (λ (u : UserState). region_abandoned c.args.region.now u.jobs) c.self.view_is) c.requires.pages

pub returns-clause-device : goal.returns-clause-device
returns-clause-device c =
    restarts c.args.region.now c.abandon.new.region c.args.self.now c.abandon.new.self (c.abandon.ensures.user ∙ ap user_abandoned c.self.view_is)
    (c.abandon.ensures.region ∙ ap (λ (u : UserState). region_abandoned c.args.region.now u.jobs) c.self.view_is)
