use Rattle.shm_region.proofs.Shown.{length-region}
use Rattle.shm_region.proofs.region.Region.area_len.Goals as goal
use Rattle.std.proofs.Common.{◌∙◌, ap, sym, ℕ, length, ◌+◌, rules}

pub returns-clause-value : goal.returns-clause-value
returns-clause-value c = search rules

pub returns-clause-end : goal.returns-clause-end
returns-clause-end c = length-region c.args.self.now c.data_off.ensures.limits ∙ ap (λ (n : ℕ). length c.args.self.now.front + n) (sym (returns-clause-value c))
