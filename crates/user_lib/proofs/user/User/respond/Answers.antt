use Rattle.std.proofs.Common.{◌≡◌, length, sym, ap, ◌∙◌, subst}
use Rattle.region_model.specs.Sides.{Parked, UserState}
use Rattle.region_model.specs.UserSteps.{Placing, user_respond_answer, user_responded}
use Rattle.ring_laws.proofs.user_over_any_bytes.AnyAnswers.{respond_sizes}
use Rattle.user_lib.specs.Frames.{ChangesOnly}
use Rattle.user_lib.specs.Stays.{OthersStayOpen, StaysAttached}
use Rattle.user_lib.specs.Users.{IsUser}
use Rattle.user_lib.proofs.Frames.{respond_changes}
use Rattle.user_lib.proofs.Kept.{pages_stays, responded_kept, responded_stays, ring_stays}
use Rattle.user_lib.proofs.OnDevice.{responds}
use Rattle.user_lib.proofs.Stays.{respond_open}
use Rattle.user_lib.proofs.user.User.respond.Goals as goal

pub invariant_of-self : goal.invariant_of-self
invariant_of-self c =
    let p : Parked = record { job = c.args.job; reply = c.args.reply } in
    let e : user_responded c.args.region.now c.args.self.now p ≡ record { region = c.respond.new.region; user = c.respond.new.self } =
    sym (ap (λ (u : UserState). user_responded c.args.region.now u p) c.self.view_is) ∙ c.respond.ensures.value in
    subst IsUser (ap (λ (k : Placing). k.user) e)
    (responded_kept c.args.region.now c.args.self.now p (subst IsUser c.self.view_is c.self.invariant) c.requires.ring c.requires.is_open c.requires.whole)

pub returns-clause-region : goal.returns-clause-region
returns-clause-region c =
    let r = c.args.region.now in
    let u : UserState = c.args.self.now in
    let p : Parked = record { job = c.args.job; reply = c.args.reply } in
    let e : user_responded r u p ≡ record { region = c.respond.new.region; user = c.respond.new.self } = sym (ap (λ (x : UserState). user_responded r x p) c.self.view_is) ∙ c.respond.ensures.value in
    sym (ap (λ (k : Placing). k.region) e)

pub returns-clause-user : goal.returns-clause-user
returns-clause-user c =
    let r = c.args.region.now in
    let u : UserState = c.args.self.now in
    let p : Parked = record { job = c.args.job; reply = c.args.reply } in
    let e : user_responded r u p ≡ record { region = c.respond.new.region; user = c.respond.new.self } = sym (ap (λ (x : UserState). user_responded r x p) c.self.view_is) ∙ c.respond.ensures.value in
    sym (ap (λ (k : Placing). k.user) e)

pub returns-clause-open : goal.returns-clause-open
returns-clause-open c =
    let r = c.args.region.now in
    let u : UserState = c.args.self.now in
    let p : Parked = record { job = c.args.job; reply = c.args.reply } in
    let e : user_responded r u p ≡ record { region = c.respond.new.region; user = c.respond.new.self } = sym (ap (λ (x : UserState). user_responded r x p) c.self.view_is) ∙ c.respond.ensures.value in
    subst (OthersStayOpen c.args.job.id u) (ap (λ (k : Placing). k.user) e) (respond_open r u p)

pub returns-clause-same : goal.returns-clause-same
returns-clause-same c =
    let r = c.args.region.now in
    let u : UserState = c.args.self.now in
    let p : Parked = record { job = c.args.job; reply = c.args.reply } in
    let e : user_responded r u p ≡ record { region = c.respond.new.region; user = c.respond.new.self } = sym (ap (λ (x : UserState). user_responded r x p) c.self.view_is) ∙ c.respond.ensures.value in
    subst (StaysAttached u) (ap (λ (k : Placing). k.user) e) (responded_stays r u p (subst IsUser c.self.view_is c.self.invariant) c.requires.ring)

pub returns-clause-ring : goal.returns-clause-ring
returns-clause-ring c =
    let r = c.args.region.now in
    let u : UserState = c.args.self.now in
    let p : Parked = record { job = c.args.job; reply = c.args.reply } in
    let e : user_responded r u p ≡ record { region = c.respond.new.region; user = c.respond.new.self } = sym (ap (λ (x : UserState). user_responded r x p) c.self.view_is) ∙ c.respond.ensures.value in
    let h : IsUser u = subst IsUser c.self.view_is c.self.invariant in
    let same = subst (StaysAttached u) (ap (λ (k : Placing). k.user) e) (responded_stays r u p h c.requires.ring) in
    let sizes = respond_sizes r u p h.sound c.requires.ring in
    ring_stays r c.respond.new.region u c.respond.new.self (ap (λ (k : Placing). length k.region.front) (sym e) ∙ sizes.front) same c.requires.ring

pub returns-clause-pages : goal.returns-clause-pages
returns-clause-pages c =
    let r = c.args.region.now in
    let u : UserState = c.args.self.now in
    let p : Parked = record { job = c.args.job; reply = c.args.reply } in
    let e : user_responded r u p ≡ record { region = c.respond.new.region; user = c.respond.new.self } = sym (ap (λ (x : UserState). user_responded r x p) c.self.view_is) ∙ c.respond.ensures.value in
    let h : IsUser u = subst IsUser c.self.view_is c.self.invariant in
    let same = subst (StaysAttached u) (ap (λ (k : Placing). k.user) e) (responded_stays r u p h c.requires.ring) in
    let sizes = respond_sizes r u p h.sound c.requires.ring in
    pages_stays r c.respond.new.region u c.respond.new.self (ap (λ (k : Placing). k.region.pages) (sym e) ∙ sizes.area.pages) same c.requires.pages

pub returns-clause-only : goal.returns-clause-only
returns-clause-only c =
    let r = c.args.region.now in
    let u : UserState = c.args.self.now in
    let p : Parked = record { job = c.args.job; reply = c.args.reply } in
    let e : user_responded r u p ≡ record { region = c.respond.new.region; user = c.respond.new.self } = sym (ap (λ (x : UserState). user_responded r x p) c.self.view_is) ∙ c.respond.ensures.value in
    let h : IsUser u = subst IsUser c.self.view_is c.self.invariant in
    subst (ChangesOnly r u p) (ap (λ (k : Placing). k.region) e) (respond_changes r u p h.sound c.requires.ring c.data_off.ensures.limits.sized)

pub returns-clause-device : goal.returns-clause-device
returns-clause-device c =
    let r = c.args.region.now in
    let u : UserState = c.args.self.now in
    let p : Parked = record { job = c.args.job; reply = c.args.reply } in
    let e : user_responded r u p ≡ record { region = c.respond.new.region; user = c.respond.new.self } = sym (ap (λ (x : UserState). user_responded r x p) c.self.view_is) ∙ c.respond.ensures.value in
    responds r c.respond.new.region u c.respond.new.self c.args.job c.args.reply c.respond.result (c.respond.ensures.answer ∙ ap (λ (x : UserState). user_respond_answer x c.args.job.id) c.self.view_is)
    (sym (ap (λ (k : Placing). k.region) e)) (sym (ap (λ (k : Placing). k.user) e))
