use Rattle.std.proofs.Common.{◌≡◌, ◌+◌, ◌%◌, ◌≤◌, ℕ, Option, IfSome, length, ap, subst, ◌∙◌, arith}
use Rattle.tcmu_types.proofs.ByteFields.{length-put}
use Rattle.region_model.specs.Layout.{pad_bytes, ring_start}
use Rattle.region_model.specs.Regions.{RegionState}
use Rattle.region_model.proofs.PartLengths.{length-pad}
use Rattle.target_side.proofs.writing.put_padding.Goals as goal

pub returns-in-Some-clause-front : goal.returns-in-Some-clause-front
returns-in-Some-clause-front c =
    let words = subst (λ (o : Option ℕ). IfSome o (λ pad. (8 ≤ pad) × (pad % 8 ≡ 0))) c.in-Some.is c.requires.words in
    let inside = subst (λ (o : Option ℕ). IfSome o (λ pad. ring_start + c.args.place.pad_at + pad ≤ length c.args.region.now.front)) c.in-Some.is c.requires.inside in
    let len = length-pad c.in-Some.pad words.0 in
    ap (λ (r : RegionState). length r.front) c.put_pad.ensures ∙ length-put c.args.region.now.front (ring_start + c.args.place.pad_at) (pad_bytes c.in-Some.pad) (omega (arith, len, inside))
