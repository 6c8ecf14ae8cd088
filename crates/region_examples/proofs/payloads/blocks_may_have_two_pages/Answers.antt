use Rattle.std.proofs.Common.{ℕ, List, subst, sym, arith}
use Rattle.iovec_scatter.specs.Ends.{EachBelow}
use Rattle.iovec_scatter.proofs.Covering.{ends_along}
use Rattle.region_examples.proofs.payloads.blocks_may_have_two_pages.Goals as goal

pub iovs_of-requires-clause-ends : goal.iovs_of-requires-clause-ends
iovs_of-requires-clause-ends g c =
    ends_along 8192 8192 8 8193 c.in_ok-blocks.blocks.items (omega arith)
    (subst (λ (xs : List ℕ). EachBelow 8 xs) (sym c.in_ok-blocks.ensures) (omega arith, (omega arith, tt)))
