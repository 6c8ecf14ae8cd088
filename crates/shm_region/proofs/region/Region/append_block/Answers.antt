use Rattle.std.proofs.Common.{◌∙◌, ℕ, List, ap, ◌++◌, min}
use Rattle.region_model.specs.Regions.{size_of, block_at}
use Rattle.shm_region.proofs.AlongBlocks.{take_lent}
use Rattle.shm_region.proofs.region.Region.append_block.Goals as goal

pub returns-in-None-clause-items : goal.returns-in-None-clause-items
returns-in-None-clause-items c =
    c.fill.ensures.items
    ∙ ap (λ (w : List ℕ). c.args.into.now.items ++ w)
    (take_lent (size_of c.args.self.now) c.args.left c.min-count.result (block_at c.args.self.now c.args.block) c.in-None.ensures.value
    (c.min-count.ensures ∙ ap (λ (n : ℕ). min n c.args.left) c.block_len.ensures.value))
