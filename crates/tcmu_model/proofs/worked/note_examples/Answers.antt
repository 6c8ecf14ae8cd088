use Rattle.tcmu_model.proofs.Computed.{notes, notes_pass, notes_off}
use Rattle.tcmu_model.proofs.worked.note_examples.Goals as goal

pub returns : goal.returns
returns c = record { notes = notes; notes_pass = notes_pass; notes_off = notes_off }
