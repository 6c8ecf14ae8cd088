use Rattle.std.proofs.Common.{sym, ap, ◌∙◌}
use Rattle.ring_laws.specs.Restarted.{count_parked}
use Rattle.user_lib.proofs.Keys.{count_keys}
use Rattle.user_lib.proofs.jobs.Jobs.parked_len.Goals as goal

pub returns : goal.returns
returns c = c.len.ensures ∙ (c.self.invariant.keyed.count ∙ (sym (count_keys c.self.inside.parked c.self.inside.order.given c.self.invariant.keyed.apart) ∙ ap (λ v. count_parked v.jobs) c.self.view_is))
