use Rattle.std.proofs.Common.{◌++◌, replicate, ap, ◌∙◌}
use Rattle.tcmu_types.specs.Overwriting.{zeros}
use Rattle.target_side.proofs.entrant.zero_bytes.Goals as goal

pub returns : goal.returns
unfolding zeros
returns c = c.fill.ensures.items ∙ ap (λ xs. xs ++ replicate c.args.count 0) (c.in_ok-reserve.ensures.items ∙ c.new-bytes.ensures)
