use Rattle.std.proofs.Common.{◌≡◌, ◌∙◌, ◌-◌, ◌+◌, ℕ, ap, arith, sym, length, drop, take, min}
use Rattle.region_model.specs.Regions.{RegionState, size_of}
use Rattle.shm_region.proofs.AlongBlocks.{written_step}
use Rattle.shm_region.proofs.region.Region.write_blocks.Goals as goal

pub loop-block-preserved : goal.loop-block-preserved
loop-block-preserved c =
    let inv = c.loop-block.invariant in
    let left : ℕ = length c.args.bytes.now - c.loop-block.done in
    let same : size_of c.loop-block.self ≡ size_of c.args.self.now = ap (λ (r : RegionState). size_of r) inv.region in
    let count : c.min-count.result ≡ min left (size_of c.loop-block.self) = c.min-count.ensures ∙ ap (λ (n : ℕ). min left n) (c.block_len-size.ensures.value ∙ sym same) in
    let piece : c.loop-block.done + c.min-count.result - c.loop-block.done ≡ c.min-count.result = omega arith in
    record {
      region =
          written_step c.loop-block.self c.write_block.new.self c.as_slice-block-items.result.now c.loop-block.block-index 0 c.args.bytes.now c.loop-block.done c.min-count.result
          (take (c.loop-block.done + c.min-count.result - c.loop-block.done) (drop c.loop-block.done c.args.bytes.now)) c.loop-block-test.true inv.within count
          (ap (λ (n : ℕ). take n (drop c.loop-block.done c.args.bytes.now)) piece) c.write_block.ensures
          ∙ inv.region;
      within = omega (arith, count, inv.within);
    }
