use Rattle.std.proofs.Common.{◌≡◌, ◌+◌, ◌-◌, ap, length, arith, length-append, refl, ◌∙◌, ◌++◌, ◌∷◌, [], sym, subst}
use Rattle.tcmu_types.specs.Views.{event_data, answer_data}
use Rattle.tcmu_model.proofs.Logs.{makes_grows}
use Rattle.journal_kept.proofs.Keep.{makes_entry}
use Rattle.journal_kept.proofs.Notes.{answer_short}
use Rattle.journal_kept.specs.Keeping.{EntriesData, NotesName}
use Rattle.journal_kept.proofs.entries.Entries.make.Goals as goal

pub overflow_sub-logged : goal.overflow_sub-logged
overflow_sub-logged g c =
    let m = makes_grows g.P.Path.relation (g.P.Path.device c.args.path.now) (g.P.Path.device c.make_event.new.path) (event_data c.args.event) (answer_data c.in_ok-answer.answer) c.in_ok-answer.ensures.makes in
    omega (arith, ap (λ l. length l) m.1, length-append (g.P.Path.device c.args.path.now).state.log m.0, ap (λ l. length l) c.log-before.ensures, ap (λ l. length l) c.log.ensures)

pub copy_answer-told-requires : goal.copy_answer-told-requires
copy_answer-told-requires g c =
    let notes = subst (λ (e : EntriesData). NotesName e.longest (g.P.Path.device c.args.path.now).state) (sym c.self.view_is) c.requires.notes in
    let h = answer_short g.P.Path.relation c.self.inside.longest (g.P.Path.device c.args.path.now) (g.P.Path.device c.make_event.new.path) (event_data c.args.event) (answer_data c.in_ok-answer.answer) c.requires.sound notes c.in_ok-answer.ensures.makes in
    record {
      bytes_fit = omega (arith, h.bytes, c.in_ok-reserve-2.ensures.room.0);
      serials_fit = omega (arith, h.serials, c.in_ok-reserve-2.ensures.room.1);
    }

pub returns-clause-makes : goal.returns-clause-makes
returns-clause-makes g c =
    let m = makes_grows g.P.Path.relation (g.P.Path.device c.args.path.now) (g.P.Path.device c.make_event.new.path) (event_data c.args.event) (answer_data c.in_ok-answer.answer) c.in_ok-answer.ensures.makes in
    let logs : length (g.P.Path.device c.make_event.new.path).state.log ≡ length (g.P.Path.device c.args.path.now).state.log + (length c.log.result.now - length c.log-before.result.now) =
    omega (arith, ap (λ l. length l) m.1, length-append (g.P.Path.device c.args.path.now).state.log m.0, ap (λ l. length l) c.log-before.ensures, ap (λ l. length l) c.log.ensures) in
    let was : EntriesData = record { device = c.self.inside.device; longest = c.self.inside.longest; items = c.self.inside.items.items } in
    rw (← c.self.view_is)
    (makes_entry g.P.Path.relation was (g.P.Path.device c.args.path.now) (g.P.Path.device c.make_event.new.path) (event_data c.args.event) (answer_data c.in_ok-answer.answer) c.copy_answer-told.result (length c.log.result.now - length c.log-before.result.now) _ _
    c.push_reserved.ensures.items c.reserve.ensures.items c.copy_answer-told.ensures c.in_ok-answer.ensures.makes logs)
