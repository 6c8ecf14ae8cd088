use Rattle.std.proofs.Common.{ℕ, ◌∙◌, ap, sym, replicate}
use Rattle.tcmu_types.specs.Overwriting.{zeros}
use Rattle.iovec_scatter.proofs.block.clear_bytes.Goals as goal

pub returns : goal.returns
unfolding zeros
returns c = c.fill.ensures.after (λ y e. e) ∙ ap (λ (n : ℕ). replicate n 0) (sym c.requires)
