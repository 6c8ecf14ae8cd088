use Rattle.std.proofs.Common.{length, ap, ◌∙◌, arith}
use Rattle.tcmu_types.proofs.ByteFields.{length-put}
use Rattle.region_model.specs.Regions.{RegionState}
use Rattle.user_lib.proofs.next.set_unknown.Goals as goal

pub returns-clause-front : goal.returns-clause-front
returns-clause-front c =
    let h = c.requires in
    ap (λ (r : RegionState). length r.front) c.write_front.ensures ∙ length-put c.args.region.now.front _ _ (omega (arith, h))
