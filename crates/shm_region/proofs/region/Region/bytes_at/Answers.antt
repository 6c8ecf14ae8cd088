use Rattle.std.proofs.Common.{◌≡◌, ◌<◌, ◌*◌, Option, List, ℕ, ◌∙◌, ap, sym, refl, length, arith, set}
use Rattle.std.specs.Prelude.{option_map}
use Rattle.std.proofs.Math.ListN.{length-set}
use Rattle.region_model.specs.Regions.{RegionState, block_at, fitted}
use Rattle.shm_region.specs.Lends.{with_bytes}
use Rattle.shm_region.proofs.Sized.{with_blocks}
use Rattle.shm_region.proofs.Area.{sized-fitted, home-got, home-inside}
use Rattle.shm_region.proofs.region.Region.bytes_at.Goals as goal

pub invariant_of-self-lent : goal.invariant_of-self-lent
invariant_of-self-lent c w =
    let xs = c.self.inside.blocks.items in
    let same : length xs ≡ length c.args.self.now.blocks = ap (λ (m : RegionState). length m.blocks) c.self.view_is in
    let there : c.args.block < length xs = omega (arith, same, home-inside c.args.self.now.blocks c.args.block c.requires) in
    with_blocks c.self.inside.front.items xs _ c.self.inside.pages c.self.invariant
    (omega (arith, length-set xs c.args.block (option_map (λ old. fitted old w) c.index_mut.result.now), c.self.invariant.count))
    (sized-fitted (4096 * c.self.inside.pages) c.args.block w xs c.index_mut.result.now _ c.self.invariant.sized there (sym c.index_mut.ensures.value))

pub returns : goal.returns
returns c =
    let xs = c.self.inside.blocks.items in
    let same : length xs ≡ length c.args.self.now.blocks = ap (λ (m : RegionState). length m.blocks) c.self.view_is in
    let there : c.args.block < length xs = omega (arith, same, home-inside c.args.self.now.blocks c.args.block c.requires) in
    let got = home-got xs c.args.block c.index_mut.result.now _ there (sym c.index_mut.ensures.value) in (
      (
        refl,
        (λ w.
            ap (λ (o : Option (List ℕ)). record { front = c.self.inside.front.items; blocks = set xs c.args.block (option_map (λ old. fitted old w) o); pages = c.self.inside.pages }) (sym got)
            ∙ ap (λ (m : RegionState). with_bytes m c.args.block w) c.self.view_is),
      ),
      record { writes_back = tt; value = sym (ap (λ (m : RegionState). block_at m c.args.block) c.self.view_is) ∙ got ∙ c.bytes_in.ensures.value },
    )
