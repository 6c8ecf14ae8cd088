use Rattle.user_bench.proofs.Out.{oldest_bench}
use Rattle.user_bench.proofs.bench.Bench.answer_oldest.Goals as goal

pub invariant_of-self-2 : goal.invariant_of-self-2
invariant_of-self-2 c =
    oldest_bench c.self.inside.region c.respond.new.region c.self.inside.user c.respond.new.self c.in-Some.job c.pop_front.new.self.items c.self.inside.jobs.items c.self.inside.youngest c.self.invariant c.in-Some.ensures.items c.respond.ensures.open
    c.respond.ensures.same c.respond.ensures.ring c.respond.ensures.pages
