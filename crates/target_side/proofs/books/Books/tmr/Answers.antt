use Rattle.std.proofs.Common.{◌≡◌, length, refl, sym, subst, arith}
use Rattle.tcmu_types.specs.declared.answer.Tmr.TheVariants as tmr
use Rattle.region_model.specs.Sides.{TargetState}
use Rattle.region_model.specs.TargetSteps.{region_noted}
use Rattle.ring_laws.proofs.target_over_any_bytes.AnyRows.{rows_few}
use Rattle.target_side.specs.Kept.{Kept}
use Rattle.target_side.proofs.Counts.{settings_laid}
use Rattle.target_side.proofs.Laying.{noted_region}
use Rattle.target_side.proofs.Notes.{known_few, note_length}
use Rattle.target_side.proofs.books.Books.tmr.Goals as goal

pub overflow_cast-len : goal.overflow_cast-len
overflow_cast-len c =
    let k = subst Kept (sym c.self.view_is) c.requires.kept in
    let known = known_few c.self.inside.entries.commands.rows c.args.serials.now.items c.requires.rising (sym c.in_default.ensures) in
    let few = rows_few _ k.settings k.ring k.rows in
    omega (arith, c.len.ensures, known, few)

pub tmr_length-requires : goal.tmr_length-requires
tmr_length-requires c =
    let k = subst Kept (sym c.self.view_is) c.requires.kept in
    let known = known_few c.self.inside.entries.commands.rows c.args.serials.now.items c.requires.rising (sym c.in_default.ensures) in
    let few = rows_few _ k.settings k.ring k.rows in
    omega (arith, c.len.ensures, known, few)

pub need-need-requires : goal.need-need-requires
need-need-requires c =
    let k = subst Kept (sym c.self.view_is) c.requires.kept in
    let known = known_few c.self.inside.entries.commands.rows c.args.serials.now.items c.requires.rising (sym c.in_default.ensures) in
    let few = rows_few _ k.settings k.ring k.rows in
    omega (arith, c.tmr_length.ensures, c.len.ensures, known, few)

pub note-requires-clause-settings : goal.note-requires-clause-settings
note-requires-clause-settings c = settings_laid c.self.inside.entries _ c.self.invariant.settings refl refl refl

pub note-requires-clause-length : goal.note-requires-clause-length
note-requires-clause-length c =
    let k = subst Kept (sym c.self.view_is) c.requires.kept in
    note_length _ (length c.args.serials.now.items) k.settings k.ring k.rows (known_few c.self.inside.entries.commands.rows c.args.serials.now.items c.requires.rising (sym c.in_default.ensures))

pub returns-clause-written : goal.returns-clause-written
returns-clause-written c =
    let b = c.self.inside in
    subst (λ (t : TargetState). c.note.new.region ≡ region_noted c.args.region.now t c.args.kind c.args.serials.now.items tmr.Noted) c.self.view_is
    (noted_region c.args.region.now c.note.new.region b.flags b.timeout b.qfull b.now b.blocked b.accepted b.delayed.items b.laid b.cleared b.broken b.log.items b.entries _ c.args.kind c.args.serials.now.items c.in_ok-note.ensures.noted)
