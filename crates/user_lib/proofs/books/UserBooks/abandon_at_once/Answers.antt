use Rattle.std.proofs.Common.{[], ap, ◌∙◌}
use Rattle.region_model.specs.Sides.{UserState}
use Rattle.region_model.specs.UserSteps.{user_abandoned}
use Rattle.user_lib.specs.Books.{books_of}
use Rattle.user_lib.proofs.books.UserBooks.abandon_at_once.Goals as goal

pub returns-clause-user : goal.returns-clause-user
unfolding user_abandoned
returns-clause-user c =
    let i = c.self.inside in
    let own : UserState = books_of i.ring i.pages i.flags i.place i.tail i.jobs i.offsets.items i.items.items i.dispatched i.placed i.published in
    ap (λ js. record own { jobs = js }) c.give_up.ensures.jobs ∙ ap (λ (x : UserState). record x { jobs = [] }) c.self.view_is
