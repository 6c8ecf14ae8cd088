use Rattle.std.proofs.Common.{◌≡◌, ◌<◌, ◌++◌, ◌∷◌, [], List, true, sym, ap, subst, arith}
use Rattle.std.specs.List.{list_any}
use Rattle.std.specs.Prelude.{IfSome}
use Rattle.region_model.specs.Sides.{JobState}
use Rattle.region_model.specs.UserSteps.{is_open_job}
use Rattle.ring_laws.specs.UserKept.{IsWholeJob}
use Rattle.user_bench.specs.Out.{IsBench}
use Rattle.user_bench.proofs.Out.{pushed_bench, stays_bench}
use Rattle.user_bench.proofs.bench.Bench.take.Goals as goal

pub invariant_of-self-in_default : goal.invariant_of-self-in_default
invariant_of-self-in_default c =
    stays_bench c.self.inside.region c.next_job.new.region c.self.inside.user c.next_job.new.user c.self.inside.jobs.items c.reserve.new.self.items c.self.inside.youngest c.self.invariant c.reserve.ensures.items c.next_job.ensures.open
    c.next_job.ensures.same c.next_job.ensures.ring c.next_job.ensures.pages

pub invariant_of-self-then-job-self : goal.invariant_of-self-then-job-self
invariant_of-self-then-job-self c =
    stays_bench c.self.inside.region c.next_job.new.region c.self.inside.user c.next_job.new.user c.self.inside.jobs.items c.reserve.new.self.items c.self.inside.youngest c.self.invariant c.reserve.ensures.items c.next_job.ensures.open
    c.next_job.ensures.same c.next_job.ensures.ring c.next_job.ensures.pages

pub invariant_of-self-2 : goal.invariant_of-self-2
invariant_of-self-2 c =
    let b =
    stays_bench c.self.inside.region c.next_job.new.region c.self.inside.user c.next_job.new.user c.self.inside.jobs.items c.reserve.new.self.items c.self.inside.youngest c.self.invariant c.reserve.ensures.items c.next_job.ensures.open
    c.next_job.ensures.same c.next_job.ensures.ring c.next_job.ensures.pages in
    let job : JobState = c.in-Some.job in
    let id = ap (λ (j : JobState). j.id) c.job.view_is in
    let above = c.if-job-self.false in
    let lt : c.self.inside.youngest < job.id = omega (arith, above, id) in
    let o = subst (λ r. IfSome r (λ (j : JobState). list_any (is_open_job j.id) c.next_job.new.user.jobs ≡ true)) c.in-Some.is c.next_job.ensures.is_open in
    let w = subst (λ r. IfSome r (λ (j : JobState). IsWholeJob c.next_job.new.user j)) c.in-Some.is c.next_job.ensures.whole in
    let p = pushed_bench c.next_job.new.region c.next_job.new.user c.reserve.new.self.items job c.self.inside.youngest b lt o w in
    subst (λ (js : List JobState). IsBench c.next_job.new.region c.next_job.new.user js c.job.inside.id) (sym c.push_back_reserved.ensures.items) (subst (λ n. IsBench c.next_job.new.region c.next_job.new.user (c.reserve.new.self.items ++ job ∷ []) n) (sym id) p)
