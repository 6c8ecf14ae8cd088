use Rattle.std.proofs.Common.{◌≡◌, ℕ, ◌<◌, ◌≤◌, length, slice_get, Some}
use Rattle.text_model.specs.Script.{InitLineData}
use Rattle.journal_kept.proofs.counts.are_all_sent.Given as goal

abbrev pub invariant-loop-at : goal.invariant-loop-at
invariant-loop-at l = (k : ℕ) (i : InitLineData) → k < l.at → slice_get l.fn.inits k ≡ Some i → (n : ℕ) × (slice_get l.fn.sent k ≡ Some n) × (length i.commands ≤ n)
