-- How much a drain has to do, a number that falls at each event that it chooses; and what lets it go on.
use Rattle.std.specs.Prelude.{ℕ, ◌+◌, ◌-◌, ◌*◌, ◌≤◌, List, ◌++◌, length}
use Rattle.std.specs.List.{sum_by}
use Rattle.tcmu_types.specs.Data.{CommandData, ReplyData}
use Rattle.tcmu_types.specs.Rules.{IsCommand, IsReply}
use Rattle.tcmu_model.specs.declared.state.CommandState.TheVariants.{Waiting, Out, Handled, Parked, Placed, Lost}
use Rattle.tcmu_model.specs.RingState.{RingState}
use Rattle.tcmu_model.specs.MediumState.{MediumState}
use Rattle.tcmu_model.specs.Device.{Unfinished, DeviceState, Device}
use Rattle.tcmu_model.specs.Steps.{HandlerRelation, Asked, asked}
use Rattle.tcmu_model.specs.Drain.{Drains}
use Rattle.tcmu_types.specs.Events.{EntryData}

-- a command is still to be handled and responded to
abbrev pub weight : Unfinished → ℕ
weight u = elim (u.state) [ Waiting ↦ 2 | Out ↦ 2 | Handled ↦ 1 | Parked ↦ 0 | Placed ↦ 0 | Lost ↦ 0 ]

-- each item is still to be dispatched, published and cleared
abbrev pub ring_work : RingState → ℕ
ring_work r = (length r.laid - r.dispatched) + (length r.laid - r.published) + (length r.laid - r.cleared)

-- a delayed command is to enter with padding, as an item that waits
abbrev pub work : DeviceState → ℕ
work d = 9 * length d.delayed + sum_by weight d.unfinished + ring_work d.ring

-- what a handler can answer to a request
pub record HasOutcome (R : HandlerRelation) (name : List ℕ) (medium : MediumState) (request : Asked) : Type 0 where
  pub reply : ReplyData
  pub after : MediumState
  pub relation : R name medium request reply after
  pub rules : IsReply reply
  pub payload : length reply.payload ≤ request.in_len

-- the handler can answer each request
abbrev pub HasOutcomes : HandlerRelation → Type 0
HasOutcomes R = (name : List ℕ) (medium : MediumState) (c : CommandData) → IsCommand c → HasOutcome R name medium (asked c)

-- these entries lead a drain from one device to another, from which it can go on
abbrev pub DrainGoesOn : HandlerRelation → ℕ → Device → List EntryData → Device → Type 0
DrainGoesOn R device start sofar d = (rest : List EntryData) (end : Device) → Drains R device d rest end → Drains R device start (sofar ++ rest) end

-- a drain from here has an end
pub record DrainEnds (R : HandlerRelation) (device : ℕ) (d : Device) : Type 0 where
  pub entries : List EntryData
  pub end : Device
  pub drain : Drains R device d entries end
