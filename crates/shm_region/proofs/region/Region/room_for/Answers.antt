use Rattle.std.proofs.Common.{◌≡◌, ℕ, ◌<◌, List, [], length, drop, get_or, ◌∙◌, ap, arith, refl}
use Rattle.std.proofs.lemmas.List.{drop_all}
use Rattle.tcmu_types.specs.declared.iovec.Iov.{Iov}
use Rattle.region_model.specs.Regions.{size_of, numbers_of, first_block, block_count}
use Rattle.region_model.proofs.Areas.{lent-none}
use Rattle.shm_region.proofs.Lent.{first_room, told_few, told_none}
use Rattle.shm_region.proofs.region.Region.room_for.Goals as goal

abbrev none : Iov
none = record { base = 0; len = 0 }

pub loop-iov-preserved : goal.loop-iov-preserved
loop-iov-preserved c =
    let inv = c.loop-iov.invariant in
    let start : ℕ = length c.args.self.now.front in
    let size : ℕ = size_of c.args.self.now in
    let items : List Iov = c.as_slice-iov-items.result.now in
    let count : c.block_count-total.result ≡ block_count size (get_or items c.loop-iov.iov-index none) = c.block_count-total.ensures.value ∙ ap (λ (n : ℕ). block_count n (get_or items c.loop-iov.iov-index none)) inv.size in
    let left = first_room start size c.loop-iov.iov-index items none (first_block start size (get_or items c.loop-iov.iov-index none)) c.block_count-total.result c.loop-iov-test.true refl count in
    record { size = inv.size; named = omega (arith, left, inv.named); few = omega (arith, c.block_count-most.ensures, c.if-total-most.false) }

pub returns-then-total-most : goal.returns-then-total-most
returns-then-total-most c =
    let inv = c.loop-iov.invariant in
    let start : ℕ = length c.args.self.now.front in
    let size : ℕ = size_of c.args.self.now in
    let items : List Iov = c.as_slice-iov-items.result.now in
    let count : c.block_count-total.result ≡ block_count size (get_or items c.loop-iov.iov-index none) = c.block_count-total.ensures.value ∙ ap (λ (n : ℕ). block_count n (get_or items c.loop-iov.iov-index none)) inv.size in
    let left = first_room start size c.loop-iov.iov-index items none (first_block start size (get_or items c.loop-iov.iov-index none)) c.block_count-total.result c.loop-iov-test.true refl count in
    let more : length c.args.self.now.blocks < length (numbers_of start size c.args.iovs.now.items) = omega (arith, left, inv.named, c.block_count-most.ensures, c.if-total-most.true) in
    record {
      value = told_none (length (numbers_of start size c.args.iovs.now.items)) (length c.args.self.now.blocks) more;
      most = tt;
      none = lent-none c.args.self.now c.args.iovs.now.items more;
    }

pub returns : goal.returns
returns c =
    let inv = c.loop-iov.invariant in
    let start : ℕ = length c.args.self.now.front in
    let size : ℕ = size_of c.args.self.now in
    let items : List Iov = c.as_slice-iov-items.result.now in
    let all : numbers_of start size (drop c.loop-iov.iov-index items) ≡ numbers_of start size [] = ap (numbers_of start size) (drop_all c.loop-iov.iov-index items c.loop-iov-test.false) in
    let whole : c.loop-iov.total ≡ length (numbers_of start size c.args.iovs.now.items) = omega (arith, ap length all, inv.named) in
    record { value = told_few (length (numbers_of start size c.args.iovs.now.items)) c.loop-iov.total (length c.args.self.now.blocks) whole inv.few; most = inv.few; none = tt }
