use Rattle.ring_laws.proofs.target_over_any_bytes.AnyDates.{dates_opened, dates_of_opening, dates_called}
use Rattle.ring_laws.proofs.any_bytes.any_dates_law.Goals as goal

pub returns : goal.returns
returns c = record { opening = dates_opened; all = dates_of_opening; each = dates_called }
