use Rattle.std.proofs.Common.{List, sym, ap, ◌∙◌, subst}
use Rattle.std.specs.List.{list_any}
use Rattle.tcmu_types.specs.Lists.{without_first}
use Rattle.region_model.specs.Sides.{GivenJob, UserState}
use Rattle.region_model.specs.UserSteps.{Placing, is_open_job, placed_one}
use Rattle.ring_laws.specs.UserKept.{HasPages, HasRing, IsWholeJob}
use Rattle.user_lib.specs.Answering.{CanAnswer}
use Rattle.user_lib.specs.Books.{books_of}
use Rattle.user_lib.proofs.Placings.{can_open, placed_jobs}
use Rattle.user_lib.proofs.books.UserBooks.respond_at_once.Goals as goal

pub remove-requires : goal.remove-requires
remove-requires c =
    record {
      order = c.self.invariant.order ∙ (ap (λ (x : UserState). x.flags.ooo) c.self.view_is ∙ c.requires.flag);
      is_open = ap (λ (x : UserState). list_any (is_open_job c.args.id) x.jobs) c.self.view_is ∙ c.requires.is_open;
    }

pub place-requires : goal.place-requires
place-requires c =
    let jobs : List GivenJob = c.remove.new.self.jobs in
    let same = ap (λ (x : UserState). record x { jobs = jobs }) (sym c.self.view_is) in
    let can : CanAnswer c.args.self.now = can_open c.args.self.now c.args.id c.requires.counts c.requires.is_open in
    record {
      ring = subst (HasRing c.args.region.now) same c.requires.ring;
      pages = subst (HasPages c.args.region.now) same c.requires.pages;
      whole = subst (λ (x : UserState). IsWholeJob x c.args.parked.job) same c.requires.whole;
      can = subst CanAnswer same (record { entry = can.entry; counted = can.counted });
    }

pub returns : goal.returns
returns c =
    let r = c.args.region.now in
    let p = c.args.parked in
    let u = c.args.self.now in
    let can : CanAnswer u = can_open u c.args.id c.requires.counts c.requires.is_open in
    let f : List GivenJob → List GivenJob = λ js. without_first (is_open_job c.args.id) js in
    let i = c.self.inside in
    let own : UserState = books_of i.ring i.pages i.flags i.place i.tail i.jobs i.offsets.items i.items.items i.dispatched i.placed i.published in
    let whole : UserState → Placing = λ x. placed_one (record { region = r; user = record x { jobs = f x.jobs } }) p (f x.jobs) in
    ap (λ n. placed_one (record { region = r; user = u }) p (without_first (is_open_job n) u.jobs)) (sym c.requires.id)
    ∙ (placed_jobs r u p (f u.jobs) can.entry
    ∙ (sym (ap whole c.self.view_is)
    ∙ (ap (λ js. placed_one (record { region = r; user = record own { jobs = js } }) p js) (sym c.remove.ensures.jobs)
    ∙ c.place.ensures.value)))
