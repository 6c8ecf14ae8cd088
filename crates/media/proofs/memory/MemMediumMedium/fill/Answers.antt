use Rattle.std.proofs.Common.{◌≡◌, ◌+◌, ◌*◌, length, ap, ◌∙◌, arith, rules}
use Rattle.tcmu_types.specs.Overwriting.{overwritten}
use Rattle.tcmu_model.specs.MediumState.{MediumState}
use Rattle.scsi_model.specs.Medium.{repeated}
use Rattle.handler_trait.proofs.Repeating.{fill_more}
use Rattle.media.proofs.InMemory.{fills_here}
use Rattle.media.proofs.memory.MemMediumMedium.fill.Goals as goal

pub loop-k-preserved : goal.loop-k-preserved
loop-k-preserved c =
    let xs = c.self.inside.bytes.items in
    let block : length c.args.block.now ≡ 512 = search rules in
    let blocks : c.self.inside.blocks ≡ c.args.self.now.blocks = ap (λ (m : MediumState). m.blocks) c.self.view_is in
    record {
      bytes = c.overwrite_in.ensures.value
          ∙ ap (overwritten (c.args.at + 512 * c.loop-k.k) c.args.block.now) c.loop-k.invariant.bytes
          ∙ fill_more c.args.at c.loop-k.k c.args.block.now xs block (omega (arith, c.self.invariant.0, blocks, c.requires.inside, c.loop-k-test.true));
      blocks = c.loop-k.invariant.blocks;
      calls = c.loop-k.invariant.calls;
      long = c.overwrite_in.ensures.long ∙ c.loop-k.invariant.long;
      some = c.loop-k.invariant.some;
      most = c.loop-k.invariant.most;
    }

pub returns-clause-fills : goal.returns-clause-fills
returns-clause-fills c =
    let xs = c.self.inside.bytes.items in
    let end : c.loop-k.k ≡ c.args.count = omega (arith, c.loop-k-test.false, c.loop-k.auto.k-end) in
    fills_here c.args.at c.args.count c.self.inside.blocks _ c.self.inside.calls _ c.args.block.now xs _ c.args.self.now c.self.view_is c.loop-k.invariant.blocks
    (c.loop-k.invariant.calls ∙ c.saturating_add-self-inside.ensures)
    (c.loop-k.invariant.bytes ∙ ap (λ n. overwritten c.args.at (repeated n c.args.block.now) xs) end)
