use Rattle.std.proofs.Common.{ℕ, List, subst, sym, arith}
use Rattle.iovec_scatter.specs.Ends.{EachBelow}
use Rattle.iovec_scatter.proofs.Covering.{ends_along}
use Rattle.region_examples.proofs.payloads.neighbours_are_merged_and_the_last_is_cut.Goals as goal

pub iovs_of-requires-clause-ends : goal.iovs_of-requires-clause-ends
iovs_of-requires-clause-ends g c =
    ends_along 8192 4096 8 12800 c.in_ok-blocks.blocks.items (omega arith)
    (subst (λ (xs : List ℕ). EachBelow 8 xs) (sym c.in_ok-blocks.ensures) (omega arith, (omega arith, (omega arith, (omega arith, tt)))))
