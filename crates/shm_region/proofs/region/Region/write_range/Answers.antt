use Rattle.std.proofs.Common.{◌≡◌, ℕ, ◌+◌, ◌-◌, ◌*◌, ◌/◌, ◌%◌, ◌<◌, ◌≤◌, ◌⊎◌, length, min, ◌∙◌, ap, sym, subst, arith}
use Rattle.std.proofs.Math.ListN.{length-set}
use Rattle.region_model.specs.Regions.{RegionState, size_of}
use Rattle.shm_region.proofs.Over.{write_step}
use Rattle.shm_region.proofs.Shown.{write_begins, write_ends, past_end}
use Rattle.shm_region.proofs.region.Region.write_range.Goals as goal
use Rattle.region_model.proofs.Areas.{length-overlaid}

pub loop-index-init : goal.loop-index-init
loop-index-init c =
    let first : c.saturating_sub.result / c.block_len-size.result ≡ (c.args.at - length c.args.self.now.front) / size_of c.args.self.now =
    ap (λ (n : ℕ). n / c.block_len-size.result) (c.saturating_sub.ensures ∙ ap (λ (n : ℕ). c.args.at - n) c.data_off-start.ensures.value)
    ∙ ap (λ (n : ℕ). (c.args.at - length c.args.self.now.front) / n) c.block_len-size.ensures.value in (
      ap (λ (m : RegionState). length m.blocks) c.overlay_front.ensures,
      write_begins c.args.self.now c.overlay_front.new.self c.args.at c.args.bytes.now _ c.data_off-start.ensures.limits.sized first c.overlay_front.ensures,
    )

pub loop-index-preserved : goal.loop-index-preserved
loop-index-preserved c =
    let inv = c.loop-index.invariant in
    let same : length c.overlay_block.new.self.blocks ≡ length c.loop-index.self.blocks =
    ap (λ (m : RegionState). length m.blocks) c.overlay_block.ensures ∙ length-set c.loop-index.self.blocks c.loop-index.index _ in
    let inside : c.loop-index.index < length c.loop-index.self.blocks = below _ _ _ _ _ c.loop-index-test.true c.min-past.ensures (c.block_count.ensures ∙ sym inv.0) in
    (same ∙ inv.0, write_step c.loop-index.self c.overlay_block.new.self c.loop-index.index c.args.at c.args.bytes.now inside c.overlay_block.ensures ∙ inv.1)
  where
    below : (i past ceil count n : ℕ) → i < past → past ≡ min ceil count → count ≡ n → i < n
    below i past ceil count n h e f = omega (arith, h, e, f)

pub returns : goal.returns
returns c =
    let inv = c.loop-index.invariant in
    let front : length c.loop-index.self.front ≡ length c.args.self.now.front = ap (λ (m : RegionState). length m.front) inv.1 ∙ length-overlaid 0 c.args.at c.args.bytes.now c.args.self.now.front in
    let size : size_of c.loop-index.self ≡ size_of c.args.self.now = ap (λ (m : RegionState). size_of m) inv.1 in
    let past = past_end c.data_off-start.result c.block_len-size.result (c.args.at + length c.args.bytes.now) c.block_count.result c.min-past.result c.loop-index.index
    (omega (arith, c.block_len-size.ensures.least))
    (c.min-past.ensures ∙ ap (λ (n : ℕ). min n c.block_count.result) (c.div_ceil.ensures ∙ ap (λ (n : ℕ). n / c.block_len-size.result + min 1 (n % c.block_len-size.result)) c.saturating_sub-2.ensures))
    c.loop-index-test.false in
    let there : (c.args.at + length c.args.bytes.now ≤ length c.loop-index.self.front + size_of c.loop-index.self * c.loop-index.index) ⊎ (length c.loop-index.self.blocks ≤ c.loop-index.index) =
    moved past (c.data_off-start.ensures.value ∙ sym front) (c.block_len-size.ensures.value ∙ sym size) (c.block_count.ensures ∙ sym inv.0) in
    sym (write_ends c.loop-index.self c.args.at c.args.bytes.now c.loop-index.index there) ∙ inv.1
  where
    moved : {end f s n i f' s' n' : ℕ} → (end ≤ f + s * i) ⊎ (n ≤ i) → f ≡ f' → s ≡ s' → n ≡ n' → (end ≤ f' + s' * i) ⊎ (n' ≤ i)
    moved {end} {f} {s} {n} {i} {f'} {s'} {n'} h a b c =
        subst (λ (k : ℕ). (end ≤ f' + s' * i) ⊎ (k ≤ i)) c (subst (λ (k : ℕ). (end ≤ f' + k * i) ⊎ (n ≤ i)) b (subst (λ (k : ℕ). (end ≤ k + s * i) ⊎ (n ≤ i)) a h))
