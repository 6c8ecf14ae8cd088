use Rattle.order_laws.proofs.Refused.{note_busy, note_off, note_unknown}
use Rattle.order_laws.proofs.refusing.note_order.Goals as goal

pub returns : goal.returns
returns c = record { off_first = note_off; busy_first = note_busy; unknown_first = note_unknown }
