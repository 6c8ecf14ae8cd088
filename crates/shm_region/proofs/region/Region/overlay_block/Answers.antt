use Rattle.std.proofs.Common.{◌≡◌, ℕ, ◌∙◌, ap, sym, length, ◌*◌, ◌+◌}
use Rattle.region_model.specs.Regions.{size_of, RegionState, overlaid}
use Rattle.shm_region.proofs.Over.{change_is}
use Rattle.shm_region.proofs.region.Region.overlay_block.Goals as goal
use Rattle.region_model.proofs.Areas.{length-overlaid}

pub put_block-requires-clause-size : goal.put_block-requires-clause-size
put_block-requires-clause-size c =
    ap length c.overlay_of.ensures ∙ length-overlaid _ c.args.at c.args.bytes.now c.in-Some.found ∙ c.in-Some.ensures.size ∙ sym (ap (λ (r : RegionState). size_of r) c.take_block.ensures.region)

pub returns-in-Some : goal.returns-in-Some
returns-in-Some c =
    let pages : c.self.inside.pages ≡ c.args.self.now.pages = ap (λ (m : RegionState). m.pages) c.self.view_is in
    let place : c.data_off.result + 4096 * c.self.inside.pages * c.args.block ≡ length c.args.self.now.front + size_of c.args.self.now * c.args.block =
    ap (λ (n : ℕ). n + 4096 * c.self.inside.pages * c.args.block) c.data_off.ensures.value ∙ ap (λ (n : ℕ). length c.args.self.now.front + 4096 * n * c.args.block) pages in
    change_is (overlaid (length c.args.self.now.front + size_of c.args.self.now * c.args.block) c.args.at c.args.bytes.now)
    c.args.self.now c.take_block.new.self c.put_block.new.self c.args.block c.in-Some.found c.overlay_of.new.block
    c.take_block.ensures.region c.put_block.ensures.region c.in-Some.ensures.block
    (c.overlay_of.ensures ∙ ap (λ (p : ℕ). overlaid p c.args.at c.args.bytes.now c.in-Some.found) place)
