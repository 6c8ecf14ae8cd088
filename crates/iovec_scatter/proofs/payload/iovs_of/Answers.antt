use Rattle.std.proofs.Common.{ℕ, ◌+◌, ◌^◌, ◌<◌, ◌++◌, List, drop, Some, None, refl, sym, ap, ◌∙◌, arith, subst}
use Rattle.tcmu_types.specs.declared.iovec.Iov.{Iov}
use Rattle.tcmu_model.specs.Lengths.{block_size}
use Rattle.region_model.specs.Iovecs.{merged, iovs_along, Covers, EndBelow}
use Rattle.iovec_scatter.specs.Growing.{before}
use Rattle.iovec_scatter.proofs.Covering.{covers, piece_ends, one_more, all_done}
use Rattle.std.proofs.lemmas.List.{append-nil}
use Rattle.iovec_scatter.proofs.payload.iovs_of.Goals as goal

pub piece-next-requires-clause-ends : goal.piece-next-requires-clause-ends
piece-next-requires-clause-ends c =
    (piece_ends _ _ c.loop-block.grows c.args.data_off (block_size c.args.pages) c.loop-block.left c.loop-block.block-index _ c.loop-block-test.true c.loop-block.invariant.2
    (subst (λ (xs : List ℕ). EndBelow (iovs_along c.args.data_off (block_size c.args.pages) xs c.args.len)) (sym c.as_slice-block-items.ensures) c.requires.ends)).1

pub grow-requires-clause-ends : goal.grow-requires-clause-ends
grow-requires-clause-ends c =
    (piece_ends _ _ c.loop-block.grows c.args.data_off (block_size c.args.pages) c.loop-block.left c.loop-block.block-index _ c.loop-block-test.true c.loop-block.invariant.2
    (subst (λ (xs : List ℕ). EndBelow (iovs_along c.args.data_off (block_size c.args.pages) xs c.args.len)) (sym c.as_slice-block-items.ensures) c.requires.ends)).0

pub grow-requires-clause-next_ends : goal.grow-requires-clause-next_ends
grow-requires-clause-next_ends c =
    subst (λ (e : Iov). e.base + e.len < 2 ^ 64) (sym c.piece-next.ensures)
    (piece_ends _ _ c.loop-block.grows c.args.data_off (block_size c.args.pages) c.loop-block.left c.loop-block.block-index _ c.loop-block-test.true c.loop-block.invariant.2
    (subst (λ (xs : List ℕ). EndBelow (iovs_along c.args.data_off (block_size c.args.pages) xs c.args.len)) (sym c.as_slice-block-items.ensures) c.requires.ends)).1

pub loop-block-preserved : goal.loop-block-preserved
loop-block-preserved c =
    let inv = c.loop-block.invariant in (
      refl,
      inv.1,
      one_more _ _ _ c.loop-block.grows c.piece-next.result c.grow.result c.args.data_off (block_size c.args.pages) c.loop-block.left c.saturating_sub-left.result c.loop-block.block-index _
          c.loop-block-test.true inv.2 c.piece-next.ensures (omega arith) c.grow.ensures.list c.grow.ensures.grown,
      omega arith,
    )

pub returns-in-Some-clause-value : goal.returns-in-Some-clause-value
unfolding merged
returns-in-Some-clause-value c =
    c.push.ensures.items
    ∙ all_done _ _ (Some c.in-Some.last) c.args.data_off (block_size c.args.pages) c.loop-block.left c.loop-block.block-index _ (omega arith)
    (ap (λ g. c.loop-block.into.items ++ before g (iovs_along c.args.data_off (block_size c.args.pages) (drop c.loop-block.block-index c.as_slice-block-items.result.now) c.loop-block.left)) (sym c.in-Some.is) ∙ c.loop-block.invariant.2)
    ∙ ap (λ (xs : List ℕ). iovs_along c.args.data_off (block_size c.args.pages) xs c.args.len) c.as_slice-block-items.ensures

pub returns-in-Some-clause-covers : goal.returns-in-Some-clause-covers
returns-in-Some-clause-covers c =
    subst (λ (xs : List Iov). Covers c.args.data_off (block_size c.args.pages) c.args.blocks.now.items c.args.len xs) (sym (returns-in-Some-clause-value c))
    (covers c.args.data_off (block_size c.args.pages) c.args.len c.args.blocks.now.items (omega (arith, c.requires.least)) c.requires.count)

pub returns-in_default-clause-value : goal.returns-in_default-clause-value
returns-in_default-clause-value c =
    sym (append-nil c.loop-block.into.items)
    ∙ all_done _ _ None c.args.data_off (block_size c.args.pages) c.loop-block.left c.loop-block.block-index _ c.loop-block-test.false
    (ap (λ g. c.loop-block.into.items ++ before g (iovs_along c.args.data_off (block_size c.args.pages) (drop c.loop-block.block-index c.as_slice-block-items.result.now) c.loop-block.left)) (sym c.in_default.is) ∙ c.loop-block.invariant.2)
    ∙ ap (λ (xs : List ℕ). iovs_along c.args.data_off (block_size c.args.pages) xs c.args.len) c.as_slice-block-items.ensures

pub returns-in_default-clause-covers : goal.returns-in_default-clause-covers
returns-in_default-clause-covers c =
    subst (λ (xs : List Iov). Covers c.args.data_off (block_size c.args.pages) c.args.blocks.now.items c.args.len xs) (sym (returns-in_default-clause-value c))
    (covers c.args.data_off (block_size c.args.pages) c.args.len c.args.blocks.now.items (omega (arith, c.requires.least)) c.requires.count)
