use Rattle.std.proofs.Common.{◌≡◌, Option, Some, ap, sym, ◌∙◌}
use Rattle.tcmu_types.specs.Events.{EventData}
use Rattle.tcmu_types.specs.Views.{event_data}
use Rattle.journal_kept.specs.Asked.{asked_event}
use Rattle.journal_kept.specs.Keeping.{KeptData, CountsData, IsKeptFront}
use Rattle.journal_kept.proofs.Keep.{kept_few, kept_sound, asked_can, keep_made, can_count}
use Rattle.journal_kept.proofs.kept.Kept.make.Goals as goal

pub make-requires-clause-few : goal.make-requires-clause-few
make-requires-clause-few g c = kept_few g.P.Path.relation _ _ _ _ c.self.invariant

pub make-requires-clause-can : goal.make-requires-clause-can
make-requires-clause-can g c =
    let is = ap (λ (k : KeptData). asked_event k.plan.script k.journal k.device.state c.args.ask.now) c.self.view_is ∙ c.requires in
    asked_can c.self.inside.plan.script c.self.inside.entries.items (g.P.Path.device c.self.inside.path).state c.args.ask.now (event_data c.args.event) c.self.invariant.front.plan.script is

pub make-requires-clause-sound : goal.make-requires-clause-sound
make-requires-clause-sound g c = kept_sound g.P.Path.relation _ _ _ _ c.self.invariant

pub count-requires : goal.count-requires
count-requires g c =
    let is = ap (λ (k : KeptData). asked_event k.plan.script k.journal k.device.state c.args.ask.now) c.self.view_is ∙ c.requires in
    can_count g.P.Path.relation _ _ _ _ c.args.ask.now (event_data c.args.event) c.self.invariant is

pub invariant_of-self-2 : goal.invariant_of-self-2
invariant_of-self-2 g c =
    let is = ap (λ (k : KeptData). asked_event k.plan.script k.journal k.device.state c.args.ask.now) c.self.view_is ∙ c.requires in
    rw c.count.ensures (keep_made g.P.Path.relation _ _ _ _ _ _ c.args.ask.now (event_data c.args.event) c.in_ok-answer.answer c.self.invariant c.in_ok-answer.ensures.makes c.make.ensures.accepts is)

pub returns-clause-front : goal.returns-clause-front
returns-clause-front g c =
    let is = ap (λ (k : KeptData). asked_event k.plan.script k.journal k.device.state c.args.ask.now) c.self.view_is ∙ c.requires in
    (keep_made g.P.Path.relation _ _ _ _ _ _ c.args.ask.now (event_data c.args.event) c.in_ok-answer.answer c.self.invariant c.in_ok-answer.ensures.makes c.make.ensures.accepts is).front
