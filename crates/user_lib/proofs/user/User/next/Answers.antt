use Rattle.std.proofs.Common.{sym, ◌∙◌, subst}
use Rattle.region_model.specs.Sides.{UserState}
use Rattle.user_lib.specs.Told.{Told}
use Rattle.user_lib.specs.Users.{IsUser}
use Rattle.user_lib.proofs.Kept.{told_job, told_kept, told_stays}
use Rattle.user_lib.proofs.OnDevice.{dispatches}
use Rattle.user_lib.proofs.Stays.{told_open}
use Rattle.user_lib.proofs.user.User.next.Goals as goal

pub invariant_of-self : goal.invariant_of-self
invariant_of-self c =
    let told = subst (λ (u : UserState). Told c.args.region.now u c.next.result c.next.new.region c.next.new.self) c.self.view_is c.next.ensures.told in
    told_kept c.args.region.now c.next.new.region c.args.self.now c.next.new.self c.next.result told (subst IsUser c.self.view_is c.self.invariant) c.requires.ring c.requires.pages c.data_off.ensures.limits.sized

pub returns-clause-job : goal.returns-clause-job
returns-clause-job c =
    let told = subst (λ (u : UserState). Told c.args.region.now u c.next.result c.next.new.region c.next.new.self) c.self.view_is c.next.ensures.told in
    told_job c.args.region.now c.next.new.region c.args.self.now c.next.new.self c.next.result told (subst IsUser c.self.view_is c.self.invariant) c.requires.ring c.requires.pages c.data_off.ensures.limits.sized

pub returns-clause-open : goal.returns-clause-open
returns-clause-open c =
    let told = subst (λ (u : UserState). Told c.args.region.now u c.next.result c.next.new.region c.next.new.self) c.self.view_is c.next.ensures.told in
    told_open c.args.region.now c.next.new.region c.args.self.now c.next.new.self c.next.result told

pub returns-clause-same : goal.returns-clause-same
returns-clause-same c =
    let told = subst (λ (u : UserState). Told c.args.region.now u c.next.result c.next.new.region c.next.new.self) c.self.view_is c.next.ensures.told in
    told_stays c.args.region.now c.next.new.region c.args.self.now c.next.new.self c.next.result told (subst IsUser c.self.view_is c.self.invariant) c.requires.ring c.requires.pages

pub returns-clause-pages : goal.returns-clause-pages
returns-clause-pages c =
    let told = subst (λ (u : UserState). Told c.args.region.now u c.next.result c.next.new.region c.next.new.self) c.self.view_is c.next.ensures.told in
    let same = told_stays c.args.region.now c.next.new.region c.args.self.now c.next.new.self c.next.result told (subst IsUser c.self.view_is c.self.invariant) c.requires.ring c.requires.pages in
    c.next.ensures.pages ∙ (c.requires.pages ∙ sym same.pages)

pub returns-clause-device : goal.returns-clause-device
returns-clause-device c =
    let told = subst (λ (u : UserState). Told c.args.region.now u c.next.result c.next.new.region c.next.new.self) c.self.view_is c.next.ensures.told in
    dispatches c.args.region.now c.next.new.region c.args.self.now c.next.new.self c.next.result told
