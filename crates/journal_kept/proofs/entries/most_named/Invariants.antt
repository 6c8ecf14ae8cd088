use Rattle.std.proofs.Common.{◌≡◌, max, map, drop}
use Rattle.tcmu_types.specs.Views.{event_data}
use Rattle.journal_kept.specs.Keeping.{most_named}
use Rattle.journal_kept.proofs.entries.most_named.Given as goal

abbrev pub invariant-loop-event : goal.invariant-loop-event
invariant-loop-event l = max l.most (most_named (map event_data (drop l.event-index l.fn.events))) ≡ most_named (map event_data l.fn.events)
