use Rattle.std.proofs.Common.{◌≡◌, Err, ap, ◌∙◌, subst}
use Rattle.std.specs.Prelude.{is_ok}
use Rattle.region_model.specs.Sides.{UserState}
use Rattle.region_model.specs.UserSteps.{region_reattached, user_attached}
use Rattle.user_lib.specs.Users.{IsUser}
use Rattle.user_lib.proofs.Kept.{reattached_kept, reattached_pages, reattached_ring}
use Rattle.user_lib.proofs.OnDevice.{resets}
use Rattle.user_lib.proofs.Reattached.{either, if_made, if_not}
use Rattle.user_lib.proofs.user.User.reattach.Goals as goal

pub invariant_of-self : goal.invariant_of-self
invariant_of-self c =
    reattached_kept c.args.region.now c.args.self.now c.reattach.new.self c.self.inside.books (either _ _ c.reattach.result c.reattach.ensures.ok c.reattach.ensures.unchanged) c.self.view_is (subst IsUser c.self.view_is c.self.invariant)

pub returns-clause-ring : goal.returns-clause-ring
returns-clause-ring c =
    reattached_ring c.args.region.now c.reattach.new.region c.args.self.now c.reattach.new.self c.self.inside.books
    (c.reattach.ensures.region ∙ ap (λ (u : UserState). region_reattached c.args.region.now u) c.self.view_is) (either _ _ c.reattach.result c.reattach.ensures.ok c.reattach.ensures.unchanged) c.self.view_is c.requires.ring

pub returns-clause-pages : goal.returns-clause-pages
returns-clause-pages c =
    reattached_pages c.args.region.now c.reattach.new.region c.args.self.now c.reattach.new.self c.self.inside.books
    (c.reattach.ensures.region ∙ ap (λ (u : UserState). region_reattached c.args.region.now u) c.self.view_is) (either _ _ c.reattach.result c.reattach.ensures.ok c.reattach.ensures.unchanged) c.self.view_is c.requires.pages

pub returns-clause-device : goal.returns-clause-device
returns-clause-device c =
    resets c.args.region.now c.reattach.new.region c.args.self.now c.reattach.new.self (is_ok c.reattach.result)
    (c.reattach.ensures.region ∙ ap (λ (u : UserState). region_reattached c.args.region.now u) c.self.view_is)
    (if_made _ c.reattach.result c.reattach.ensures.ok) (if_not (λ f. user_attached c.args.region.now ≡ Err f) c.reattach.result c.reattach.ensures.err)
