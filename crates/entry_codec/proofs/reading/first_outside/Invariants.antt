use Rattle.std.proofs.Common.{◌≡◌, ◌+◌, ◌-◌}
use Rattle.region_model.specs.EntryReading.{first_outside}
use Rattle.entry_codec.proofs.reading.first_outside.Given as goal

abbrev pub invariant-loop-index : goal.invariant-loop-index
invariant-loop-index l =
    first_outside l.front (128 + l.at) l.low (l.low + l.area) l.index (l.count - l.index)
    ≡ first_outside l.front (128 + l.at) l.low (l.low + l.area) 0 l.count
