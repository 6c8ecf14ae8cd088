use Rattle.std.proofs.Common.{length, sym, ap, ◌∙◌}
use Rattle.tcmu_types.specs.declared.dump.ItemKind.TheVariants as kind
use Rattle.tcmu_types.proofs.ByteFields.{length-zeros}
use Rattle.region_model.specs.Regions.{RegionState}
use Rattle.region_model.specs.TargetSteps.{blocks_given, blocks_wanted, length_in}
use Rattle.target_side.specs.Laid.{as_target, region_written}
use Rattle.target_side.proofs.Placing.{adds, adds_blocks, is_entrant, laid_as, lays}
use Rattle.target_side.proofs.entries.Entries.lay.Goals as goal

pub add-requires-clause-buffer : goal.add-requires-clause-buffer
add-requires-clause-buffer c = ap length c.in_ok-entrant.ensures.buffer ∙ (length-zeros c.args.command.now.in_len ∙ sym c.in_ok-entrant.ensures.in_len)

pub write_command-requires-clause-row : goal.write_command-requires-clause-row
write_command-requires-clause-row c =
    let more = adds c.args.self.now c.add.new.self c.lay-place.new.self c.in_ok-entrant.entrant c.in_ok-id.id c.lay-place.result c.args.command.now c.in_ok-id.ensures.added
    (lays c.args.self.now.places.ring c.reserve.new.self.ring c.lay-place.new.self.ring kind.Cmd (length_in (as_target c.args.self.now) c.args.command.now) c.length_of-len.result c.lay-place.result c.in_ok-reserve.ensures.ring c.length_of-len.ensures.value c.lay-place.ensures.place c.lay-place.ensures.items c.lay-place.ensures.head) in (
      blocks_given (as_target c.args.self.now) c.args.command.now,
      adds_blocks c.args.self.now _ c.in_ok-entrant.entrant c.in_ok-id.id c.lay-place.result c.args.serial c.args.deadline c.args.command.now more
          (is_entrant c.in_ok-entrant.entrant c.args.serial c.args.command.now c.args.deadline c.blocks_for-count.result (blocks_wanted (as_target c.args.self.now) c.args.command.now) c.blocks_for-count.ensures.value c.in_ok-entrant.ensures) c.requires.blocks c.requires.held,
    )

pub returns-clause-laid : goal.returns-clause-laid
returns-clause-laid c =
    let more = adds c.args.self.now c.add.new.self c.lay-place.new.self c.in_ok-entrant.entrant c.in_ok-id.id c.lay-place.result c.args.command.now c.in_ok-id.ensures.added
    (lays c.args.self.now.places.ring c.reserve.new.self.ring c.lay-place.new.self.ring kind.Cmd (length_in (as_target c.args.self.now) c.args.command.now) c.length_of-len.result c.lay-place.result c.in_ok-reserve.ensures.ring c.length_of-len.ensures.value c.lay-place.ensures.place c.lay-place.ensures.items c.lay-place.ensures.head) in
    laid_as c.args.region.now c.write_command.new.region c.args.self.now _ c.in_ok-entrant.entrant c.in_ok-id.id c.lay-place.result c.args.serial c.args.deadline c.args.command.now c.requires.region more
    (is_entrant c.in_ok-entrant.entrant c.args.serial c.args.command.now c.args.deadline c.blocks_for-count.result (blocks_wanted (as_target c.args.self.now) c.args.command.now) c.blocks_for-count.ensures.value c.in_ok-entrant.ensures) c.requires.blocks c.requires.held
    (λ bs row. c.write_command.ensures bs row ∙ ap (λ (r : RegionState). region_written r (as_target (record { pages = c.args.self.now.pages; commands = c.add.new.self; places = c.lay-place.new.self })) c.lay-place.result c.in_ok-id.id c.args.command.now bs) c.in_ok-id.ensures.region)
