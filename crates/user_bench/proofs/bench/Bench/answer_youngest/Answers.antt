use Rattle.std.proofs.Common.{List, subst}
use Rattle.region_model.specs.Sides.{JobState}
use Rattle.user_bench.specs.Out.{AreOut}
use Rattle.user_bench.proofs.Out.{youngest, youngest_bench}
use Rattle.user_bench.proofs.bench.Bench.answer_youngest.Goals as goal

pub respond-requires-clause-is_open : goal.respond-requires-clause-is_open
respond-requires-clause-is_open c =
    (youngest c.self.inside.user c.pop_back.new.self.items c.in-Some.job (subst (λ (js : List JobState). AreOut c.self.inside.user js) c.in-Some.ensures.items c.self.invariant.out)).is_open

pub respond-requires-clause-whole : goal.respond-requires-clause-whole
respond-requires-clause-whole c = (youngest c.self.inside.user c.pop_back.new.self.items c.in-Some.job (subst (λ (js : List JobState). AreOut c.self.inside.user js) c.in-Some.ensures.items c.self.invariant.out)).whole

pub invariant_of-self-2 : goal.invariant_of-self-2
invariant_of-self-2 c =
    youngest_bench c.self.inside.region c.respond.new.region c.self.inside.user c.respond.new.self c.in-Some.job c.pop_back.new.self.items c.self.inside.jobs.items c.self.inside.youngest c.self.invariant c.in-Some.ensures.items c.respond.ensures.open
    c.respond.ensures.same c.respond.ensures.ring c.respond.ensures.pages
