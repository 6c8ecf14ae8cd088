use Rattle.std.proofs.Common.{ℕ, List, length, sym, ap, subst, ◌∙◌, arith}
use Rattle.tcmu_types.specs.declared.iovec.Iov.{Iov}
use Rattle.tcmu_model.specs.Lengths.{block_size}
use Rattle.region_model.specs.Iovecs.{EndBelow, iovs_along}
use Rattle.region_model.specs.Pending.{PendingData}
use Rattle.region_model.specs.Regions.{RegionState}
use Rattle.region_model.proofs.PartLengths.{length-iovs}
use Rattle.iovec_scatter.proofs.Covering.{ends_along}
use Rattle.target_side.specs.Laid.{as_target}
use Rattle.target_side.proofs.Placing.{area_ends, own_list}
use Rattle.target_side.proofs.entries.Entries.write_command.Goals as goal

pub iovs_of-requires-clause-ends : goal.iovs_of-requires-clause-ends
iovs_of-requires-clause-ends c =
    let t = as_target c.args.self.now in
    let blocks = ap (λ (p : PendingData). p.blocks) c.pending.view_is ∙ own_list t c.args.id c.args.command.now c.requires.row c.in-Some.pending.now c.in-Some.ensures in
    let start = c.data_off-start.ensures.value ∙ (ap (λ (r : RegionState). length r.front) c.put_data.ensures ∙ c.requires.region.front) in
    subst (λ (bs : List ℕ). EndBelow (iovs_along c.data_off-start.result (block_size c.args.self.now.pages) bs c.payload_length.result)) (sym blocks)
    (ends_along c.data_off-start.result (block_size c.args.self.now.pages) c.args.self.now.commands.limit c.payload_length.result c.requires.row.0 (area_ends t.settings c.data_off-start.result c.requires.settings start) c.requires.row.1.below)

pub put_request-requires-clause-slots : goal.put_request-requires-clause-slots
put_request-requires-clause-slots c =
    let t = as_target c.args.self.now in
    let blocks = ap (λ (p : PendingData). length p.blocks) c.pending.view_is ∙ ap length (own_list t c.args.id c.args.command.now c.requires.row c.in-Some.pending.now c.in-Some.ensures) in
    let few = length-iovs c.data_off-start.result (block_size c.args.self.now.pages) c.pending.inside.blocks.items c.payload_length.result in
    omega (arith, few, blocks, ap (λ (xs : List Iov). length xs) c.iovs_of.ensures.value, c.requires.row.1.count, c.blocks_for-slots.ensures.value)
