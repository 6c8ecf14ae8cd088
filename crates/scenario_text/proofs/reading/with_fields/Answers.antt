use Rattle.scenario_text.proofs.Limits.{has_place}
use Rattle.scenario_text.specs.Giving.{said_data}
use Rattle.text_model.proofs.SaidLaws.{said_is}
use Rattle.tcmu_types.specs.Fields.{fields_of}
use Rattle.scenario_text.proofs.reading.with_fields.Goals as goal

pub with_said-requires : goal.with_said-requires
with_said-requires c = has_place c.args.so_far (said_data c.in_ok-said.said) (said_is c.args.so_far c.in_ok-verb.verb (fields_of c.in-Some.rest.now) (said_data c.in_ok-said.said) c.in_ok-said.ensures)
