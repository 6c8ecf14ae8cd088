use Rattle.std.proofs.Common.{◌≡◌, [], Some, None, ap, sym, ◌∙◌, subst}
use Rattle.std.specs.Option.{option_map}
use Rattle.tcmu_types.specs.Views.{event_data}
use Rattle.tcmu_model.specs.Drain.{todo_of, chosen}
use Rattle.journal_kept.specs.Answering.{TellsOn}
use Rattle.journal_kept.specs.Asked.{work_event}
use Rattle.journal_kept.specs.Counted.{AllCounted}
use Rattle.journal_kept.specs.Keeping.{KeptData}
use Rattle.journal_kept.specs.declared.asking.Ask.TheVariants as asks
use Rattle.journal_kept.specs.declared.asking.Told.{Told}
use Rattle.journal_kept.proofs.Tell.{told_idle_lines, told_idle_drain, told_ended}
use Rattle.journal_kept.proofs.kept.Kept.told_at_rest.Goals as goal
use Rattle.journal_kept.proofs.kept.Kept.told_at_rest.Goals.{in-Some, in-None}

pub returns-then-not-is_all : goal.returns-then-not-is_all
returns-then-not-is_all g c =
    let none = ap (λ (k : KeptData). work_event k.device.state) c.self.view_is ∙ c.requires in
    rw (← c.self.view_is) (told_idle_lines g.P.Path.relation _ _ _ _ c.self.invariant none (λ all. c.if-not-is_all.ensures (subst (λ x. AllCounted x.plan.script x.counts) (sym c.self-inside.view_is) all)))

pub returns : goal.returns
returns g c =
    let none = ap (λ (k : KeptData). work_event k.device.state) c.self.view_is ∙ c.requires in
    let all = subst (λ x. AllCounted x.plan.script x.counts) c.self-inside.view_is c.if-not-is_all.ensures in
    let todo = c.todo.ensures ∙ ap (λ x. todo_of (g.P.Path.device x.path).state) c.self-inside.view_is in
    rw (← c.self.view_is) (elim c.match-next_event.branch [
      | in-Some w ↦ rw w.result-is (told_idle_drain g.P.Path.relation c.self.inside.plan c.self.inside.entries.items (g.P.Path.device c.self.inside.path) c.todo.result _ none todo (sym (ap (option_map event_data) w.in-Some.is) ∙ c.next_event.ensures.value))
      | in-None w ↦ rw w.result-is (told_ended g.P.Path.relation _ _ _ _ c.todo.result c.self.invariant all todo (sym (ap (option_map event_data) w.in-None.is) ∙ c.next_event.ensures.value))
    ])
