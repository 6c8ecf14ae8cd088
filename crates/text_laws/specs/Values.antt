-- What the types of the code keep of every event: its numbers are below 2^64, and its bytes are bytes.
use Rattle.std.specs.Prelude.{ℕ, ◌^◌, ◌<◌, List}
use Rattle.tcmu_types.specs.Events.{EventData}
use Rattle.tcmu_types.specs.Events as ev
use Rattle.tcmu_types.specs.Lists.{Every}
use Rattle.text_laws.specs.Lines.{IsCarried}

-- a number of at most 64 bits
abbrev pub IsNumber : ℕ → Type 0
IsNumber n = n < 2 ^ 64

abbrev pub AreNumbers : List ℕ → Type 0
AreNumbers ns = Every IsNumber ns

abbrev pub IsEventValue : EventData → Type 0
IsEventValue (ev.Submit c) = IsCarried c
IsEventValue (ev.Handle s) = IsNumber s
IsEventValue (ev.Respond s) = IsNumber s
IsEventValue (ev.Tick n) = IsNumber n
IsEventValue (ev.Reset level) = IsNumber level
IsEventValue (ev.Tmr kind serials) = IsNumber kind × AreNumbers serials
IsEventValue _ = Unit {0}
