use Rattle.std.proofs.Common.{ℕ, List, length, ap, ◌∙◌, arith}
use Rattle.tcmu_types.specs.declared.dump.ItemKind.TheVariants as kind
use Rattle.tcmu_model.specs.Lengths.{tmr_length}
use Rattle.target_side.proofs.Notes.{length-ids}
use Rattle.target_side.proofs.Placing.{lays, noted_as}
use Rattle.target_side.proofs.entries.Entries.note.Goals as goal

pub overflow_cast-len : goal.overflow_cast-len
overflow_cast-len c =
    let len = c.len.ensures ∙ (ap (λ (xs : List ℕ). length xs) c.in_ok-ids.ensures ∙ length-ids c.args.self.now.commands.rows c.args.serials.now.items) in
    omega (arith, len, c.requires.length.most, c.requires.settings.ring.most)

pub tmr_length-requires : goal.tmr_length-requires
tmr_length-requires c =
    let len = c.len.ensures ∙ (ap (λ (xs : List ℕ). length xs) c.in_ok-ids.ensures ∙ length-ids c.args.self.now.commands.rows c.args.serials.now.items) in
    omega (arith, len, c.requires.length.most, c.requires.settings.ring.most)

pub returns-clause-noted : goal.returns-clause-noted
returns-clause-noted c =
    let len = c.len.ensures ∙ (ap (λ (xs : List ℕ). length xs) c.in_ok-ids.ensures ∙ length-ids c.args.self.now.commands.rows c.args.serials.now.items) in
    noted_as c.args.region.now c.put_padding.new.region c.put_tmr.new.region c.set_head.new.self c.args.self.now c.lay-place.new.self c.lay-place.result c.args.kind c.in_ok-ids.ids.items c.args.serials.now.items c.head.result
    (lays c.args.self.now.places.ring c.reserve.new.self.ring c.lay-place.new.self.ring kind.Tmr (tmr_length (length c.args.serials.now.items)) c.tmr_length.result c.lay-place.result c.in_ok-reserve.ensures.ring (c.tmr_length.ensures ∙ ap tmr_length len) c.lay-place.ensures.place c.lay-place.ensures.items c.lay-place.ensures.head)
    c.put_padding.ensures.value c.put_tmr.ensures c.set_head.ensures c.head.ensures.value c.in_ok-ids.ensures
