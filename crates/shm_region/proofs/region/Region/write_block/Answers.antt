use Rattle.std.proofs.Common.{◌∙◌, ap, sym, length, arith}
use Rattle.std.specs.Prelude.{slice_get}
use Rattle.tcmu_types.proofs.ByteFields.{length-put}
use Rattle.region_model.specs.Regions.{size_of, RegionState}
use Rattle.shm_region.proofs.AlongBlocks.{write_is}
use Rattle.shm_region.proofs.Lent.{home_some}
use Rattle.shm_region.proofs.region.Region.write_block.Goals as goal

pub put_block-requires-clause-size : goal.put_block-requires-clause-size
put_block-requires-clause-size c =
    ap length c.put.ensures ∙ length-put c.in-Some.found 0 c.args.bytes.now (omega (arith, c.in-Some.ensures.size, c.requires))
    ∙ c.in-Some.ensures.size ∙ sym (ap (λ (r : RegionState). size_of r) c.take_home.ensures.region)

pub returns-in-Some : goal.returns-in-Some
returns-in-Some c =
    write_is c.args.self.now c.take_home.new.self c.put_block.new.self c.args.block c.in-Some.found c.put.new.self c.args.bytes.now
    c.take_home.ensures.region c.put_block.ensures.region (home_some (slice_get c.args.self.now.blocks c.args.block) c.in-Some.found (sym c.in-Some.ensures.block)) c.put.ensures
