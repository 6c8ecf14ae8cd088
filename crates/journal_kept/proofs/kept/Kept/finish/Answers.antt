use Rattle.std.proofs.Common.{◌≡◌, ℕ, ◌<◌, length, None, ap, sym, ◌∙◌, subst, arith}
use Rattle.std.proofs.lemmas.Result.{on_ok_weaker}
use Rattle.journal_kept.specs.Asked.{PlanData, next_line}
use Rattle.journal_kept.proofs.Finish.{goes_on_then, finished, lines_used}
use Rattle.journal_kept.proofs.kept.Kept.finish.Goals as goal

pub loop-at-preserved : goal.loop-at-preserved
loop-at-preserved g c = (
  goes_on_then c.args.self.now c.loop-at.self c.use_up.new.self c.loop-at.invariant.0 c.use_up.ensures.goes_on,
  lines_used c.loop-at.self c.use_up.new.self c.loop-at.at c.use_up.ensures.goes_on c.loop-at.invariant.1 c.in_ok-use_up.ensures.none,
)

pub returns-clause-schedule : goal.returns-clause-schedule
returns-clause-schedule g c =
    let all : (at : ℕ) → at < length c.loop-at.self.plan.script.inits → next_line c.loop-at.self.plan.script c.loop-at.self.journal at ≡ None =
    λ at within. c.loop-at.invariant.1 at (omega (arith, within, c.loop-at-test.false, c.initiators-at-end.ensures.value, ap (λ (p : PlanData). length p.script.inits) c.loop-at.invariant.0.plan)) in
    on_ok_weaker c.drain.result (λ done. finished g.P.Path.relation c.loop-at.self c.use_up-2.new.self c.drain.new.self c.use_up-2.ensures.goes_on c.drain.ensures.goes_on all c.in_ok-use_up-2.ensures.none c.drain.ensures.front done) c.drain.ensures.done
