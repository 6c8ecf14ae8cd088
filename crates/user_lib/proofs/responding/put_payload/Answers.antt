use Rattle.std.proofs.Common.{length, sym, ap, ◌∙◌, subst}
use Rattle.region_model.specs.Regions.{HaveSize, RegionState, size_of}
use Rattle.ring_laws.proofs.placed.AnswerData.{length-scattered, sizes-scattered}
use Rattle.user_lib.specs.Carrying.{carried_of}
use Rattle.user_lib.proofs.Entries.{lies_in_region}
use Rattle.user_lib.proofs.Placings.{inside_front, inside_pages}
use Rattle.user_lib.proofs.responding.put_payload.Goals as goal

pub back-requires-clause-count : goal.back-requires-clause-count
back-requires-clause-count c =
    let k = c.requires c.in-Moved.parts.items (ap carried_of c.in-Moved.is) in
    ap length c.scatter.ensures.items ∙ (length-scattered c.in-Moved.parts.items c.args.payload.now ∙ k.1)

pub back-requires-clause-size : goal.back-requires-clause-size
back-requires-clause-size c =
    let k = c.requires c.in-Moved.parts.items (ap carried_of c.in-Moved.is) in
    subst (HaveSize (size_of c.args.region.now)) (sym c.scatter.ensures.items) (sizes-scattered (size_of c.args.region.now) c.in-Moved.parts.items c.args.payload.now k.0)

pub copy_in-requires : goal.copy_in-requires
copy_in-requires c = lies_in_region c.args.region.now c.args.iovs.now.items (sym c.lie_in_area.ensures ∙ c.if-lie_in_area.true)

pub returns-then-lie_in_area-clause-front : goal.returns-then-lie_in_area-clause-front
returns-then-lie_in_area-clause-front c =
    ap (λ (r : RegionState). r.front) c.copy_in.ensures.region ∙ inside_front c.args.region.now c.args.iovs.now.items c.args.payload.now (sym c.lie_in_area.ensures ∙ c.if-lie_in_area.true)

pub returns-then-lie_in_area-clause-pages : goal.returns-then-lie_in_area-clause-pages
returns-then-lie_in_area-clause-pages c = ap (λ (r : RegionState). r.pages) c.copy_in.ensures.region ∙ inside_pages c.args.region.now c.args.iovs.now.items c.args.payload.now
