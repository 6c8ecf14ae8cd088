use Rattle.std.proofs.Common.{◌≡◌, ℕ, ◌≤◌, ◌∙◌, ap, sym, arith, subst, length, take, List, ◌+◌, ◌-◌, get_or}
use Rattle.tcmu_types.specs.declared.iovec.Iov.{Iov}
use Rattle.region_model.specs.Regions.{size_of, numbers_of, first_block, block_count, returned, HaveSize}
use Rattle.std.proofs.lemmas.List.{length-take}
use Rattle.shm_region.proofs.Lent.{back_count, back_iov_step, have-take}
use Rattle.shm_region.proofs.region.Region.back_iovs.Goals as goal

abbrev none : Iov
none = record { base = 0; len = 0 }

pub back_range-requires-clause-count : goal.back_range-requires-clause-count
back_range-requires-clause-count c =
    let inv = c.loop-left.invariant in
    let whole : length c.loop-left.parts.items ≡ length (numbers_of c.data_off-start.result c.block_len-size.result (take (c.loop-left.left - 1) c.args.iovs.now)) + c.block_count.result =
    back_count c.data_off-start.result c.block_len-size.result c.loop-left.left c.args.iovs.now none c.first_block.result c.block_count.result c.loop-left.parts.items c.loop-left-test.true inv.2 c.first_block.ensures.value c.block_count.ensures.value
    (inv.3 ∙ ap (λ (n : ℕ). length (numbers_of n (size_of c.args.self.now) (take c.loop-left.left c.args.iovs.now))) (sym inv.0)
    ∙ ap (λ (n : ℕ). length (numbers_of c.data_off-start.result n (take c.loop-left.left c.args.iovs.now))) (sym inv.1)) in
    at_most _ _ _ whole
  where
    at_most : (a b k : ℕ) → a ≡ b + k → k ≤ a
    at_most a b k h = omega (arith, h)

pub loop-left-preserved : goal.loop-left-preserved
loop-left-preserved c =
    let inv = c.loop-left.invariant in
    let start : ℕ = length c.args.self.now.front in
    let size : ℕ = size_of c.args.self.now in
    let first : c.first_block.result ≡ first_block start size (get_or c.args.iovs.now (c.loop-left.left - 1) none) =
    c.first_block.ensures.value ∙ ap (λ (n : ℕ). first_block n c.block_len-size.result (get_or c.args.iovs.now (c.loop-left.left - 1) none)) inv.0
    ∙ ap (λ (n : ℕ). first_block start n (get_or c.args.iovs.now (c.loop-left.left - 1) none)) inv.1 in
    let count : c.block_count.result ≡ block_count size (get_or c.args.iovs.now (c.loop-left.left - 1) none) =
    c.block_count.ensures.value ∙ ap (λ (n : ℕ). block_count n (get_or c.args.iovs.now (c.loop-left.left - 1) none)) inv.1 in
    let parts : List (List ℕ) = c.loop-left.parts.items in
    let k : ℕ = c.block_count.result in
    let whole = back_count start size c.loop-left.left c.args.iovs.now none c.first_block.result k parts c.loop-left-test.true inv.2 first count inv.3 in
    let left : c.back_range.new.parts.items ≡ take (length parts - k) parts = c.back_range.ensures.parts in (
      inv.0,
      inv.1,
      omega (arith, inv.2),
      ap length left ∙ length-take (length parts - k) parts ∙ omega (arith, whole),
      subst (λ (ps : List (List ℕ)). HaveSize size ps) (sym left) (have-take size (length parts - k) parts inv.4),
      ap (λ (ps : List (List ℕ)). record c.back_range.new.self { blocks = returned c.back_range.new.self.blocks (numbers_of start size (take (c.loop-left.left - 1) c.args.iovs.now)) ps }) left
          ∙ back_iov_step c.loop-left.self c.back_range.new.self start size c.loop-left.left c.args.iovs.now none c.first_block.result k parts c.loop-left-test.true inv.2 first count inv.3 c.back_range.ensures.region
          ∙ inv.5,
      omega (arith, whole, c.back_range.ensures.spare, inv.6, ap length left ∙ length-take (length parts - k) parts),
    )
