use Rattle.std.proofs.Common.{◌≡◌, sym, subst, arith}
use Rattle.region_model.specs.Regions.{RegionState}
use Rattle.target_side.specs.Kept.{Fits}
use Rattle.target_side.proofs.Keeps.{fits_put}
use Rattle.target_bench.proofs.bench.Bench.put.Goals as goal

pub invariant_of-self : goal.invariant_of-self
invariant_of-self c =
    subst (λ (r : RegionState). Fits r c.self.inside.target) (sym c.write_front.ensures)
    (fits_put c.self.inside.region c.self.inside.target c.args.at c.args.bytes.now c.self.invariant (omega (arith, c.data_off.ensures.value)))
