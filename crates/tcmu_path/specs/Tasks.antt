-- What can be asked of a device.
use Rattle.std.specs.Prelude.{◌≤◌}
use Rattle.tcmu_types.specs.Events.{EventData}
use Rattle.tcmu_types.specs.Events as ev
use Rattle.tcmu_types.specs.Numbers.{IsRising}

-- a reset is of level 1 or 2, and a note of kind 1 to 7 on rising serials
abbrev pub CanBeMade : EventData → Type 0
CanBeMade (ev.Reset level) = (1 ≤ level) × (level ≤ 2)
CanBeMade (ev.Tmr kind serials) = (1 ≤ kind) × (kind ≤ 7) × IsRising serials
CanBeMade _ = Unit {0}
