use Rattle.std.proofs.Common.{Ok, sym, ap, ◌∙◌}
use Rattle.region_model.specs.Sides.{UserState}
use Rattle.region_model.specs.UserSteps.{user_abandoned, user_of}
use Rattle.user_lib.proofs.Reattached.{attach_made, attach_refused, reattach_made, reattach_refused}
use Rattle.user_lib.proofs.books.UserBooks.reattach.Goals as goal

pub returns-in-Err-clause-region : goal.returns-in-Err-clause-region
returns-in-Err-clause-region c = reattach_refused c.args.region.now c.args.self.now c.in-Err.fault (sym c.in-Err.ensures.value)

pub returns-in-Err-clause-err : goal.returns-in-Err-clause-err
returns-in-Err-clause-err c = attach_refused c.args.region.now c.in-Err.fault (sym c.in-Err.ensures.value)

pub begin-requires-clause-jobs : goal.begin-requires-clause-jobs
unfolding user_abandoned
begin-requires-clause-jobs c = ap (λ (x : UserState). x.jobs) c.abandon.ensures.user

pub returns-clause-region : goal.returns-clause-region
returns-clause-region c = c.abandon.ensures.region ∙ reattach_made c.args.region.now c.args.self.now c.in-Ok.mailbox (sym c.in-Ok.ensures.value)

pub returns-clause-ok : goal.returns-clause-ok
unfolding user_abandoned
returns-clause-ok c =
    let pages = c.requires.pages ∙ sym (ap (λ (x : UserState). x.pages) c.abandon.ensures.user) in
    attach_made c.args.region.now c.in-Ok.mailbox (sym c.in-Ok.ensures.value) ∙ ap Ok (ap (λ n. user_of n c.in-Ok.mailbox) pages ∙ sym c.begin.ensures)
