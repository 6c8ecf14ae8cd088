use Rattle.std.proofs.Common.{length, refl, ap, ◌∙◌, arith, not}
use Rattle.std.proofs.lemmas.List.{length-map}
use Rattle.std.proofs.lemmas.List.Filters.{length-filter_both}
use Rattle.tcmu_model.specs.Device.{Delayed}
use Rattle.tcmu_model.specs.Events.{has_left}
use Rattle.region_model.specs.TargetSteps.{expired_at}
use Rattle.target_side.specs.HeldRows.{HeldRows}
use Rattle.target_side.proofs.Counts.{books_ticked}
use Rattle.target_side.proofs.books.Books.tick.Goals as goal

pub invariant_of-self : goal.invariant_of-self
invariant_of-self c =
    let now = c.later-self-inside.result in
    let waits = length-filter_both (λ (w : Delayed). not (has_left now w)) (λ w. not (not (has_left now w))) (λ w. refl) c.self.inside.delayed.items in
    books_ticked now _ _ c.self.inside.log.spare c.let_go_due.new.log.spare c.self.invariant
    (record {
      settings = ap (λ (h : HeldRows). record { ring = c.self.inside.entries.places.ring.size; blocks = h.limit; flags = c.self.inside.flags; timeout = c.self.inside.timeout; qfull = c.self.inside.qfull; pages = c.self.inside.entries.pages }) c.expire_due.ensures.rows;
      now = refl;
      moment = c.later-self-inside.ensures.most;
      laid = refl;
      cleared = refl;
      rows = ap (λ (h : HeldRows). length h.rows) c.expire_due.ensures.rows ∙ length-map c.self.inside.entries.commands.rows (expired_at now);
      delayed = omega (arith, waits, ap length c.let_go_due.ensures.items);
      accepted = refl;
    })
    (omega (arith, c.expire_due.ensures.room, c.let_go_due.ensures.room, c.self.invariant.room))
