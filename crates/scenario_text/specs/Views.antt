-- What lines say, without the room of their lists.
use Rattle.std.specs.Prelude.{List, [], ◌∷◌, Option, Some, None}
use Rattle.tcmu_types.specs.Views.{event_data}
use Rattle.text_model.specs.ScenarioData.{LineWhat, EventLine, DrainLine, DumpLine}
use Rattle.scenario_text.specs.declared.kinds.LineKind.{LineKind}
use Rattle.scenario_text.specs.declared.kinds.LineKind.TheVariants as kind

abbrev pub kind_data : LineKind → LineWhat
kind_data (kind.Event e) = EventLine (event_data e)
kind_data kind.Drain = DrainLine
kind_data kind.Dump = DumpLine

abbrev pub as_list : {A : Type 0} → Option A → List A
as_list (Some x) = x ∷ []
as_list None = []
