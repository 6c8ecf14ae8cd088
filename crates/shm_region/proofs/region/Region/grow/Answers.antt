use Rattle.std.proofs.Common.{◌≡◌, ℕ, ◌∙◌, ap, arith, length, Some, ◌-◌, ◌++◌, replicate}
use Rattle.tcmu_types.specs.Overwriting.{zeros}
use Rattle.region_model.specs.Regions.{size_of}
use Rattle.shm_region.proofs.region.Region.grow.Goals as goal

pub returns-clause-ok : goal.returns-clause-ok
returns-clause-ok c =
    let inv = c.loop.invariant in
    let before : c.len-before.result ≡ length c.args.self.now.blocks = inv.0 in
    let count : c.loop.counter - c.len-before.result ≡ c.args.blocks - length c.args.self.now.blocks = omega arith in
    inv.1 ∙ ap (λ (n : ℕ). record c.args.self.now { blocks = c.args.self.now.blocks ++ replicate n (Some (zeros (size_of c.args.self.now))) }) count
