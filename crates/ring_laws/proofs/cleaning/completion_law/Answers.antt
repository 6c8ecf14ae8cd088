use Rattle.ring_laws.proofs.cleaned.Completing.{response_of_entry, response_read, completed-log}
use Rattle.ring_laws.proofs.cleaning.completion_law.Goals as goal

pub returns : goal.returns
returns c = record { entry = response_of_entry; read = response_read; logged = completed-log }
