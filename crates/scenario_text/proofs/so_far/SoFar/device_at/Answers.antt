use Rattle.std.proofs.Common.{◌∙◌, ap, sym}
use Rattle.text_model.specs.ScenarioData.{ScenarioData}
use Rattle.text_model.specs.Said.{device_at}
use Rattle.scenario_text.proofs.Naming.{place_told}
use Rattle.scenario_text.proofs.so_far.SoFar.device_at.Goals as goal

pub returns-in-Some : goal.returns-in-Some
returns-in-Some c = sym c.in-Some.is ∙ c.place_of.ensures.value ∙ place_told c.self.inside.devices.items c.self.inside.names c.args.name.now c.self.invariant.1 ∙ ap (λ (s : ScenarioData). device_at s c.args.name.now) c.self.view_is

pub returns-in-None : goal.returns-in-None
returns-in-None c = sym c.in-None.is ∙ c.place_of.ensures.value ∙ place_told c.self.inside.devices.items c.self.inside.names c.args.name.now c.self.invariant.1 ∙ ap (λ (s : ScenarioData). device_at s c.args.name.now) c.self.view_is
