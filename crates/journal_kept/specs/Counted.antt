-- The lists of a script by how far they are made.
use Rattle.std.specs.Prelude.{◌≡◌, ℕ, ◌+◌, ◌^◌, ◌<◌, ◌≤◌, List, length, Option, Some, slice_get, slice_set, slice_index}
use Rattle.std.specs.Option.{option_and_then}
use Rattle.tcmu_types.specs.Events.{EventData}
use Rattle.text_model.specs.Script.{InitLineData, ScriptData}
use Rattle.journal_kept.specs.Asked.{line_at}
use Rattle.journal_kept.specs.Keeping.{CountsData}
use Rattle.journal_kept.specs.declared.asking.Ask.{Ask}
use Rattle.journal_kept.specs.declared.asking.Ask.TheVariants as ask

-- the next line of the initiator of this number, by these counts
abbrev pub line_in : List InitLineData → List ℕ → ℕ → Option EventData
line_in is counts at = option_and_then (λ i. option_and_then (line_at i) (slice_get counts at)) (slice_get is at)

-- the counts with the one that an ask makes
abbrev pub counted_with : Ask → CountsData → CountsData
counted_with (ask.Line at) c = record c { lines = slice_set c.lines at (slice_index c.lines at + 1) }
counted_with ask.Admin c = record c { admin = c.admin + 1 }
counted_with ask.Work c = c
counted_with (ask.Handle s) c = c
counted_with (ask.Respond s) c = c

-- the ask has a count, and it can rise
abbrev pub CanCount : Ask → CountsData → Type 0
CanCount (ask.Line at) c = (at < length c.lines) × (slice_index c.lines at < 2 ^ 63)
CanCount ask.Admin c = c.admin + 1 < 2 ^ 64
CanCount ask.Work c = Unit {0}
CanCount (ask.Handle s) c = Unit {0}
CanCount (ask.Respond s) c = Unit {0}

-- each initiator has a count, and it is that of all its commands
abbrev pub LinesCounted : List InitLineData → List ℕ → Type 0
LinesCounted is counts = (at : ℕ) (i : InitLineData) → slice_get is at ≡ Some i → (n : ℕ) × (slice_get counts at ≡ Some n) × (length i.commands ≤ n)

-- all lists are made, by these counts
pub record AllCounted (x : ScriptData) (c : CountsData) : Type 0 where
  pub lines : LinesCounted x.inits c.lines
  pub admin : length x.admin ≤ c.admin
