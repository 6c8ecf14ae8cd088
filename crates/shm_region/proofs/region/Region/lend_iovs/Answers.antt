use Rattle.std.proofs.Common.{◌≡◌, ℕ, ◌≤◌, ◌∙◌, ap, sym, arith, rules, subst, length, take, drop, List, ◌+◌, ◌++◌, true, false, length-append, get_or}
use Rattle.std.specs.List.{range_with_len}
use Rattle.tcmu_types.specs.declared.iovec.Iov.{Iov}
use Rattle.region_model.specs.Regions.{size_of, RegionState, numbers_of, first_block, block_count, returned, without, taken, can_take, HaveSize}
use Rattle.std.proofs.lemmas.List.FromFn.{length-range_with_len}
use Rattle.shm_region.proofs.Lent.{split_first, split_more, first_room, range_step, cannot_range}
use Rattle.shm_region.proofs.region.Region.lend_iovs.Goals as goal
use Rattle.region_model.proofs.Areas.{length-taken}

abbrev none : Iov
none = record { base = 0; len = 0 }

first_is : (f start size start' size' : ℕ) (iov : Iov) → f ≡ first_block start size iov → start ≡ start' → size ≡ size' → f ≡ first_block start' size' iov
first_is f start size start' size' iov h a b = h ∙ ap (λ (n : ℕ). first_block n size iov) a ∙ ap (λ (n : ℕ). first_block start' n iov) b

count_is : (k size size' : ℕ) (iov : Iov) → k ≡ block_count size iov → size ≡ size' → k ≡ block_count size' iov
count_is k size size' iov h b = h ∙ ap (λ (n : ℕ). block_count n iov) b

pub lend_range-requires-clause-room : goal.lend_range-requires-clause-room
lend_range-requires-clause-room c =
    let inv = c.loop-done.invariant in
    let room = first_room (length c.args.self.now.front) (size_of c.args.self.now) c.loop-done.done c.args.iovs.now none c.first_block.result c.block_count.result c.loop-done-test.true
    (first_is _ _ _ _ _ (get_or c.args.iovs.now c.loop-done.done none) c.first_block.ensures.value inv.0 inv.1) (count_is _ _ _ (get_or c.args.iovs.now c.loop-done.done none) c.block_count.ensures.value inv.1) in
    fits _ _ _ _ room inv.4
  where
    fits : (a b k s : ℕ) → a ≡ k + b → a ≤ s → k ≤ s
    fits a b k s e h = omega (arith, e, h)

pub returns-then-not-lend_range-clause-answer : goal.returns-then-not-lend_range-clause-answer
returns-then-not-lend_range-clause-answer c =
    let inv = c.loop-done.invariant in
    let split = split_first (length c.args.self.now.front) (size_of c.args.self.now) c.loop-done.done c.args.iovs.now none c.first_block.result c.block_count.result c.loop-done-test.true
    (first_is _ _ _ _ _ (get_or c.args.iovs.now c.loop-done.done none) c.first_block.ensures.value inv.0 inv.1) (count_is _ _ _ (get_or c.args.iovs.now c.loop-done.done none) c.block_count.ensures.value inv.1) in
    let cannot : c.lend_range.result ≡ false = search rules in
    sym (cannot_range c.loop-done.self.blocks (range_with_len c.first_block.result c.block_count.result) (numbers_of (length c.args.self.now.front) (size_of c.args.self.now) (drop (c.loop-done.done + 1) c.args.iovs.now)) (sym c.lend_range.ensures.answer ∙ cannot))
    ∙ ap (can_take c.loop-done.self.blocks) (sym split)
    ∙ inv.6

pub loop-done-preserved : goal.loop-done-preserved
loop-done-preserved c =
    let inv = c.loop-done.invariant in
    let start : ℕ = length c.args.self.now.front in
    let size : ℕ = size_of c.args.self.now in
    let iovs : List Iov = c.args.iovs.now in
    let i : ℕ = c.loop-done.done in
    let f : ℕ = c.first_block.result in
    let k : ℕ = c.block_count.result in
    let ms : List ℕ = range_with_len f k in
    let rest : List ℕ = numbers_of start size (drop (i + 1) iovs) in
    let front : List ℕ = numbers_of start size (take i iovs) in
    let first = first_is _ _ _ _ _ (get_or c.args.iovs.now c.loop-done.done none) c.first_block.ensures.value inv.0 inv.1 in
    let count = count_is _ _ _ (get_or c.args.iovs.now c.loop-done.done none) c.block_count.ensures.value inv.1 in
    let split = split_first start size i iovs none f k c.loop-done-test.true first count in
    let more = split_more start size i iovs none f k c.loop-done-test.true first count in
    let room = first_room start size i iovs none f k c.loop-done-test.true first count in
    let can : c.lend_range.result ≡ true = search rules in
    let takes : can_take c.loop-done.self.blocks ms ≡ true = sym c.lend_range.ensures.answer ∙ can in
    let step = range_step c.loop-done.self c.lend_range.new.self front ms rest c.loop-done.into.items c.lend_range.new.into.items (sym inv.3) takes c.if-not-lend_range.ensures.lent c.if-not-lend_range.ensures.parts in
    let pages : size_of c.loop-done.self ≡ size = ap (λ (r : RegionState). size_of r) inv.9 in
    let longer : length c.lend_range.new.into.items ≡ length c.loop-done.into.items + k =
    ap length c.if-not-lend_range.ensures.parts ∙ length-append c.loop-done.into.items (taken c.loop-done.self.blocks ms)
    ∙ ap (λ (n : ℕ). length c.loop-done.into.items + n) (length-taken c.loop-done.self.blocks ms ∙ length-range_with_len f k) in (
      inv.0,
      inv.1,
      omega arith,
      ap length c.if-not-lend_range.ensures.parts ∙ length-append c.loop-done.into.items (taken c.loop-done.self.blocks ms)
          ∙ ap (λ (n : ℕ). length c.loop-done.into.items + n) (length-taken c.loop-done.self.blocks ms)
          ∙ ap (λ (n : ℕ). n + length ms) inv.3 ∙ sym (ap length more ∙ length-append front ms),
      omega (arith, room, inv.4, c.if-not-lend_range.ensures.spare),
      subst (λ (s : ℕ). HaveSize s c.lend_range.new.into.items) pages c.if-not-lend_range.ensures.size,
      step.can ∙ ap (can_take c.loop-done.self.blocks) (sym split) ∙ inv.6,
      step.parts ∙ ap (λ (ns : List ℕ). c.loop-done.into.items ++ taken c.loop-done.self.blocks ns) (sym split) ∙ inv.7,
      step.gone ∙ ap (λ (ns : List ℕ). record c.loop-done.self { blocks = without c.loop-done.self.blocks ns }) (sym split) ∙ inv.8,
      ap (λ (ns : List ℕ). record c.lend_range.new.self { blocks = returned c.lend_range.new.self.blocks ns c.lend_range.new.into.items }) more ∙ step.back ∙ inv.9,
      omega (arith, inv.10, c.if-not-lend_range.ensures.spare, longer),
    )
