use Rattle.std.proofs.Common.{◌≡◌, ◌≤◌, List, length, sym, ap, ◌∙◌, subst, arith}
use Rattle.std.specs.List.{list_any}
use Rattle.std.specs.Option.{option_map}
use Rattle.tcmu_types.specs.Lists.{first_of, with_first}
use Rattle.tcmu_types.proofs.Firsts.{length-with_first}
use Rattle.region_model.specs.Sides.{GivenJob, UserState}
use Rattle.region_model.specs.UserSteps.{Placing, is_open_job, is_unanswered, placed_front, with_parked}
use Rattle.ring_laws.specs.UserKept.{AreWholeJobs, HasPages, HasRing, UserCounts}
use Rattle.user_lib.specs.Answering.{answer_by}
use Rattle.user_lib.specs.Books.{books_of}
use Rattle.user_lib.specs.Given.{first_parked}
use Rattle.user_lib.proofs.Placings.{answer_same, counts_jobs, parked_whole}
use Rattle.user_lib.proofs.books.UserBooks.respond_in_order.Goals as goal

pub park-requires : goal.park-requires
park-requires c =
    record {
      order = c.self.invariant.order ∙ (ap (λ (x : UserState). x.flags.ooo) c.self.view_is ∙ c.requires.flag);
      is_open = ap (λ (x : UserState). list_any (is_open_job c.args.id) x.jobs) c.self.view_is ∙ c.requires.is_open;
    }

pub first_open-first-requires : goal.first_open-first-requires
first_open-first-requires c =
    record {
      order = c.self.invariant.order ∙ (ap (λ (x : UserState). x.flags.ooo) c.self.view_is ∙ c.requires.flag);
      first = ap (λ (x : UserState). first_parked x.jobs) c.self.view_is ∙ c.requires.first;
    }

pub place_front-requires : goal.place_front-requires
place_front-requires c =
    let jobs : List GivenJob = c.park.new.self.jobs in
    let same = ap (λ (x : UserState). record x { jobs = jobs }) (sym c.self.view_is) in
    let kept : jobs ≡ with_first (is_open_job c.args.id) (with_parked c.args.parked) c.args.self.now.jobs =
    c.park.ensures.jobs ∙ ap (λ (x : UserState). with_first (is_open_job c.args.id) (with_parked c.args.parked) x.jobs) c.self.view_is in
    let few : length jobs ≤ length c.args.self.now.jobs = omega (arith, ap length kept, length-with_first (is_open_job c.args.id) (with_parked c.args.parked) c.args.self.now.jobs) in
    record {
      ring = subst (HasRing c.args.region.now) same c.requires.ring;
      pages = subst (HasPages c.args.region.now) same c.requires.pages;
      whole = subst AreWholeJobs same (parked_whole c.args.self.now c.args.id c.args.parked jobs kept c.requires.whole c.requires.jobs);
      counts = subst UserCounts same (counts_jobs c.args.self.now jobs few c.requires.counts);
    }

pub returns : goal.returns
returns c =
    let r = c.args.region.now in
    let p = c.args.parked in
    let f : List GivenJob → List GivenJob = λ js. with_first (is_open_job c.args.id) (with_parked p) js in
    let whole : UserState → Placing = λ x. placed_front (record { region = r; user = record x { jobs = f x.jobs } }) (f x.jobs) in
    let i = c.self.inside in
    let own : UserState = books_of i.ring i.pages i.flags i.place i.tail i.jobs i.offsets.items i.items.items i.dispatched i.placed i.published in
    record {
      answer =
          c.answer_for.ensures
          ∙ (ap (λ o. answer_by o c.args.id) (c.first_open-first.ensures ∙ ap (λ (x : UserState). option_map (λ g. g.id) (first_of is_unanswered x.jobs)) c.self.view_is)
          ∙ answer_same c.args.id (first_of is_unanswered c.args.self.now.jobs));
      value =
          ap (λ n. placed_front (record { region = r; user = record c.args.self.now { jobs = with_first (is_open_job n) (with_parked p) c.args.self.now.jobs } }) (with_first (is_open_job n) (with_parked p) c.args.self.now.jobs)) (sym c.requires.id)
          ∙ (sym (ap whole c.self.view_is)
          ∙ (ap (λ js. placed_front (record { region = r; user = record own { jobs = js } }) js) (sym c.park.ensures.jobs)
          ∙ c.place_front.ensures));
    }
