use Rattle.std.proofs.Common.{ℕ, List, refl, ap, ◌∙◌, sym, take, drop, length, ◌++◌}
use Rattle.iovec_scatter.proofs.block.Block.as_mut_slice.Goals as goal

pub returns : goal.returns
returns c = (
  (
    refl,
    (λ w.
        ap (λ (n : ℕ). take n (w ++ drop (length w) c.self.inside.bytes.items)) (sym c.as_mut_slice.ensures.len ∙ ap length c.as_mut_slice.ensures.value)
        ∙ ap (λ (m : List ℕ). take (length m) (w ++ drop (length w) m)) c.self.view_is),
  ),
  record { writes_back = tt; value = c.as_mut_slice.ensures.value ∙ c.self.view_is },
)
