use Rattle.ring_laws.proofs.target_over_any_bytes.AnyRows.{rows_of_opening, rows_called, rows_few, rows_few_of_all}
use Rattle.ring_laws.proofs.any_bytes.any_rows_law.Goals as goal

pub returns : goal.returns
returns c = record { all = rows_of_opening; each = rows_called; few = rows_few; few_of_all = rows_few_of_all }
