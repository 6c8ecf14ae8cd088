use Rattle.std.proofs.Common.{sym}
use Rattle.turn_lock.proofs.Received.{FitsAt-longer}
use Rattle.turn_lock.proofs.laws.receipts_last.Goals as goal

pub returns : goal.returns
returns g c script history longer r begins fits = FitsAt-longer g.K.Stepped.makes_entry g.K.Stepped.fits script history longer begins.0 r (sym begins.1) fits
