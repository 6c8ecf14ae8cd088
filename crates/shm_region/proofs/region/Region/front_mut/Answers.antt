use Rattle.std.proofs.Common.{ℕ, refl, ap, ◌∙◌, sym, take, drop, length, ◌++◌}
use Rattle.region_model.specs.Regions.{RegionState, fitted}
use Rattle.shm_region.proofs.region.Region.front_mut.Goals as goal

pub returns : goal.returns
returns c = (
  (
    refl,
    (λ w.
        ap (λ (n : ℕ). record { front = take n (w ++ drop (length w) c.self.inside.front.items); blocks = c.self.inside.blocks.items; pages = c.self.inside.pages }) (sym c.as_mut_slice.ensures.len ∙ ap length c.as_mut_slice.ensures.value)
        ∙ ap (λ (m : RegionState). record m { front = fitted m.front w }) c.self.view_is),
  ),
  record { writes_back = tt; value = c.as_mut_slice.ensures.value ∙ ap (λ (m : RegionState). m.front) c.self.view_is },
)
