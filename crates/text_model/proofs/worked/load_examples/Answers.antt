use Rattle.text_model.proofs.Generated.{first_number, first_command, first_line, device_line, drain_behind_sixteen, empty_summary, one_summary}
use Rattle.text_model.proofs.worked.load_examples.Goals as goal

pub returns : goal.returns
returns c = record { number = first_number; command = first_command; line = first_line; device = device_line; drains = drain_behind_sixteen; empty = empty_summary; one = one_summary }
