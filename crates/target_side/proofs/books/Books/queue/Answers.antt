use Rattle.std.proofs.Common.{◌≡◌, ◌+◌, ◌*◌, ◌≤◌, true, refl, sym, ap, ◌∙◌, subst}
use Rattle.region_model.specs.Sides.{TargetState}
use Rattle.region_model.specs.TargetSteps.{blocks_free, blocks_wanted, deadline_in, fits_in, length_in}
use Rattle.ring_laws.proofs.target_over_any_bytes.AnyRows.{rows_few}
use Rattle.target_side.specs.Books.{books_of}
use Rattle.target_side.specs.Kept.{Fits, Kept}
use Rattle.target_side.specs.Submits.{Queues}
use Rattle.target_side.proofs.Laying.{next_last, queues}
use Rattle.target_side.proofs.Counts.{settings_laid}
use Rattle.target_side.proofs.books.Books.queue.Goals as goal

pub lay-requires-clause-region : goal.lay-requires-clause-region
lay-requires-clause-region c = let f = subst (Fits c.args.region.now) (sym c.self.view_is) c.requires.region in record { front = f.front; pages = f.pages }

pub lay-requires-clause-settings : goal.lay-requires-clause-settings
lay-requires-clause-settings c = settings_laid c.self.inside.entries _ c.self.invariant.settings refl refl refl

pub lay-requires-clause-few : goal.lay-requires-clause-few
lay-requires-clause-few c = let k = subst Kept (sym c.self.view_is) c.requires.kept in rows_few _ k.settings k.ring k.rows

pub lay-requires-clause-small : goal.lay-requires-clause-small
lay-requires-clause-small c = subst (λ (t : TargetState). 2 * length_in t c.args.command.now ≤ t.settings.ring) (sym c.self.view_is) c.requires.small

pub lay-requires-clause-ring : goal.lay-requires-clause-ring
lay-requires-clause-ring c = subst (λ (t : TargetState). fits_in t (length_in t c.args.command.now) ≡ true) (sym c.self.view_is) c.requires.ring

pub lay-requires-clause-blocks : goal.lay-requires-clause-blocks
lay-requires-clause-blocks c = subst (λ (t : TargetState). blocks_wanted t c.args.command.now ≤ blocks_free t) (sym c.self.view_is) c.requires.blocks

pub lay-requires-clause-held : goal.lay-requires-clause-held
lay-requires-clause-held c = let k = subst Kept (sym c.self.view_is) c.requires.kept in k.sound.rows.room

pub lay-requires-clause-last : goal.lay-requires-clause-last
lay-requires-clause-last c = let k = subst Kept (sym c.self.view_is) c.requires.kept in next_last _ _ k refl (c.deadline-due.ensures ∙ ap deadline_in (sym c.self.view_is))

pub returns-clause-queued : goal.returns-clause-queued
returns-clause-queued c =
    let b = c.self.inside in
    subst
    (λ (t : TargetState). Queues c.args.region.now t c.args.command.now (b.accepted + 1) c.lay.new.region (books_of b.flags b.timeout b.qfull b.now b.blocked (b.accepted + 1) c.lay.new.self b.delayed.items (b.laid + 1) b.cleared b.broken c.reserve.new.self.items))
    c.self.view_is
    (queues c.args.region.now c.lay.new.region b.flags b.timeout b.qfull b.now b.blocked b.accepted b.delayed.items b.laid b.cleared b.broken b.log.items c.reserve.new.self.items b.entries c.lay.new.self c.args.command.now c.in_ok-lay.field-0 c.deadline-due.result
    (c.deadline-due.ensures ∙ ap deadline_in (sym c.self.view_is)) c.in_ok-reserve.ensures.items c.in_ok-lay.ensures.laid)
