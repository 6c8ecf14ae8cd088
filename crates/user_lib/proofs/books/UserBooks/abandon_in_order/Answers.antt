use Rattle.std.proofs.Common.{length, refl, sym, ap, ◌∙◌, arith}
use Rattle.region_model.specs.Layout.{data_start}
use Rattle.region_model.specs.Sides.{UserState}
use Rattle.region_model.specs.UserSteps.{user_abandoned}
use Rattle.user_lib.proofs.Backs.{abandoned_end, abandoned_step, back_of, whole_rest}
use Rattle.user_lib.proofs.Keys.{at_none, at_some}
use Rattle.user_lib.proofs.books.UserBooks.abandon_in_order.Goals as goal

pub loop-taken-init : goal.loop-taken-init
loop-taken-init c = record { same = refl; user = refl; ring = c.requires.ring; pages = c.requires.pages; whole = c.requires.whole }

pub pop_job-requires : goal.pop_job-requires
pop_job-requires c = ap (λ (x : UserState). x.flags.ooo) c.loop-taken.invariant.user ∙ c.requires.flag

pub put_taken_back-requires : goal.put_taken_back-requires
put_taken_back-requires c =
    let t = at_some _ _ c.pop_job.result c.in-Some.taken c.in-Some.is c.pop_job.ensures in
    let i = c.loop-taken.invariant in
    back_of c.loop-taken.region c.loop-taken.self c.in-Some.taken c.pop_job.new.self.jobs t.0 i.ring i.pages i.whole

pub loop-taken-preserved : goal.loop-taken-preserved
loop-taken-preserved c =
    let t = at_some _ _ c.pop_job.result c.in-Some.taken c.in-Some.is c.pop_job.ensures in
    let i = c.loop-taken.invariant in
    let front = c.put_taken_back.ensures.front in
    let pages = c.put_taken_back.ensures.pages in
    record {
      same = abandoned_step c.loop-taken.region c.put_taken_back.new.region c.loop-taken.self.jobs c.pop_job.new.self.jobs c.in-Some.taken t.0 c.put_taken_back.ensures.value ∙ i.same;
      user = t.1 ∙ ap (λ (x : UserState). record x { jobs = c.pop_job.new.self.jobs }) i.user;
      ring = ap length front ∙ (i.ring ∙ ap (λ (x : UserState). data_start x.ring) (sym t.1));
      pages = pages ∙ (i.pages ∙ ap (λ (x : UserState). x.pages) (sym t.1));
      whole = whole_rest c.loop-taken.self c.pop_job.new.self c.in-Some.taken t.0 t.1 i.whole;
    }

pub loop-taken-smaller : goal.loop-taken-smaller
loop-taken-smaller c =
    let t = at_some _ _ c.pop_job.result c.in-Some.taken c.in-Some.is c.pop_job.ensures in
    omega (arith, ap length t.0)

pub returns : goal.returns
unfolding user_abandoned
returns c =
    let n = at_none _ _ c.pop_job.result c.in_default.is c.pop_job.ensures in
    let i = c.loop-taken.invariant in
    record {
      user = n.1 ∙ (i.user ∙ ap (λ js. record c.args.self.now { jobs = js }) n.0);
      region = sym (abandoned_end c.loop-taken.region c.loop-taken.self.jobs n.0) ∙ i.same;
    }
