-- What holds of every device that its events lead to: the soundness of its ring, of its serials, of its answers and of its room.
use Rattle.std.specs.Prelude.{◌≡◌, ℕ, ◌+◌, ◌*◌, ◌^◌, ◌%◌, ◌<◌, ◌≤◌, ◌⊎◌, ◌==◌, ◌||◌, ◌&&◌, not, nat_lt, nat_le, Bool, true, false, List, [], ◌∷◌, ◌++◌, length, take, map, IfSome, None, Some, if◌then◌else◌}
use Rattle.std.specs.List.{list_any, count_by, filter}
use Rattle.std.specs.Option.{is_some}
use Rattle.tcmu_types.specs.Data.{CommandData, ReplyData, DoneData, SettingsData}
use Rattle.tcmu_types.specs.Rules.{IsCommand, IsReply, IsSettings}
use Rattle.tcmu_model.specs.declared.state.CommandState.{CommandState}
use Rattle.tcmu_model.specs.declared.state.CommandState.TheVariants.{Waiting, Out, Handled, Parked, Placed, Lost}
use Rattle.tcmu_types.specs.Lists.{first_of, Every}
use Rattle.tcmu_model.specs.Lengths.{entry_length, tmr_length, blocks_of}
use Rattle.tcmu_model.specs.RingState.{RingState, Item, Laid, Pad, Cmd, Tmr, used, is_pad, serials_in, cleared_commands, published_commands}
use Rattle.tcmu_model.specs.Device.{Unfinished, Delayed, DeviceState, has_state}
use Rattle.tcmu_model.specs.Events.{is_open, is_in_hand, answered, held_blocks}
use Rattle.tcmu_types.specs.Numbers.{is_among, Begins, Differ, Rise}

-- ==== lists

-- ==== the ring

-- P holds of each item, with the bytes laid before it
abbrev pub Along : (ℕ → Item → Type 0) → ℕ → List Item → Type 0
Along P start [] = Unit {0}
Along P start (i ∷ is) = P start i × Along P (start + i.len) is

-- the last item is no padding
abbrev pub EndsInAnItem : List Item → Type 0
EndsInAnItem [] = Unit {0}
EndsInAnItem (i ∷ []) = is_pad i ≡ false
EndsInAnItem (i ∷ j ∷ is) = EndsInAnItem (j ∷ is)

-- the length of each kind of item: padding ends with the ring
abbrev pub HasLength : SettingsData → ℕ → ℕ → Laid → Type 0
HasLength s start n Pad = start % s.ring + n ≡ s.ring
HasLength s start n (Cmd k c) = (n ≡ entry_length s.pages c) × IsCommand c
HasLength s start n (Tmr kind ss) = n ≡ tmr_length (length ss)

-- an item stands whole before the ring's end
pub record IsItem (s : SettingsData) (start : ℕ) (i : Item) : Type 0 where
  pub some : 8 ≤ i.len
  pub even : i.len % 8 ≡ 0
  pub whole : start % s.ring + i.len ≤ s.ring
  pub kind : HasLength s start i.len i.laid

pub record RingSound (s : SettingsData) (r : RingState) : Type 0 where
  pub size : r.size ≡ s.ring
  pub cleared : r.cleared ≤ r.published
  pub published : r.published ≤ r.dispatched
  pub dispatched : r.dispatched ≤ length r.laid
  pub room : used r < r.size
  pub items : Along (IsItem s) 0 r.laid
  pub ends : EndsInAnItem r.laid

-- ==== serials

abbrev pub delayed_serials : List Delayed → List ℕ
delayed_serials ws = map (λ w. w.serial) ws

-- the answers that are cleared: their commands are finished
abbrev pub finished : DeviceState → List ℕ
finished d = take (cleared_commands d.ring) d.placed

-- this command is laid under this serial
abbrev pub IsLaid : List Item → ℕ → CommandData → Type 0
IsLaid [] s c = ⊥
IsLaid (i ∷ is) s c = (i.laid ≡ Cmd s c) ⊎ IsLaid is s c

abbrev pub is_delayed_at : ℕ → Delayed → Bool
is_delayed_at s w = w.serial == s

-- the command of this serial is not finished and has not expired
abbrev pub is_open_at : ℕ → Unfinished → Bool
is_open_at s u = (u.serial == s) && is_open u

abbrev pub times_open : DeviceState → ℕ → ℕ
times_open d s = count_by (is_open_at s) d.unfinished + count_by (is_delayed_at s) d.delayed

abbrev pub times_logged : List DoneData → ℕ → ℕ
times_logged log s = count_by (λ e. e.serial == s) log

-- serials are given from 1 on
abbrev pub is_accepted : DeviceState → ℕ → Bool
is_accepted d s = nat_lt 0 s && nat_le s d.accepted

pub record SerialsSound (d : DeviceState) : Type 0 where
  -- those laid rise, then those delayed, each above all that are laid
  pub rise : Rise 0 (serials_in d.ring.laid ++ delayed_serials d.delayed) d.accepted
  -- the unfinished commands are those laid and not finished, in the order of laying
  pub order : map (λ u. u.serial) d.unfinished ≡ filter (λ s. not (is_among (finished d) s)) (serials_in d.ring.laid)
  pub laid : Every (λ u. IsLaid d.ring.laid u.serial u.command) d.unfinished
  -- each accepted serial is once in the log or open, and no other is
  pub accounted : (s : ℕ) → times_logged d.log s + times_open d s ≡ (if is_accepted d s then 1 else 0)

-- ==== answers

abbrev pub dispatched_serials : RingState → List ℕ
dispatched_serials r = serials_in (take r.dispatched r.laid)

-- The state of an unfinished command, and whether it has a reply, by whether it is dispatched, whether its answer is placed,
-- whether that answer is published, and whether the user side is attached.
abbrev pub state_fits : Bool → Bool → Bool → Bool → CommandState → Bool → Bool
state_fits dispatched placed published attached Waiting has_reply = not dispatched && not has_reply
state_fits dispatched placed published attached Out has_reply = dispatched && not placed && attached && not has_reply
state_fits dispatched placed published attached Handled has_reply = dispatched && not placed && attached && has_reply
state_fits dispatched placed published attached Parked has_reply = dispatched && not placed && attached && has_reply
state_fits dispatched placed published attached Placed has_reply = dispatched && placed && (attached || published) && has_reply
state_fits dispatched placed published attached Lost has_reply =
    dispatched && not attached && not published && (if placed then has_reply else not has_reply)

abbrev pub is_right : DeviceState → Unfinished → Bool
is_right d u =
    state_fits (is_among (dispatched_serials d.ring) u.serial) (is_among d.placed u.serial) (is_among (answered d) u.serial) d.attached u.state (is_some u.reply)

-- dispatched, and not yet used for an answer
abbrev pub awaits_answer : Unfinished → Bool
awaits_answer u = is_in_hand u || (has_state Lost u && not (is_some u.reply))

-- a reply that its command can carry
pub record ReplyFits (c : CommandData) (reply : ReplyData) : Type 0 where
  pub rules : IsReply reply
  pub payload : length reply.payload ≤ c.in_len

-- Out of order no answer is parked; in order one is parked only behind a command whose answer is not placed.
abbrev pub parked_rightly : Bool → List Unfinished → Bool
parked_rightly ooo us =
    if ooo then not (list_any (has_state Parked) us)
    else elim (first_of (λ u. not (has_state Placed u)) us) [ None ↦ true | Some u ↦ not (has_state Parked u) ]

pub record AnswersSound (d : DeviceState) : Type 0 where
  -- no more answers are published than placed
  pub published : published_commands d.ring ≤ length d.placed
  -- answers are placed once, and for commands that are dispatched
  pub differ : Differ d.placed
  pub dispatched : Every (λ s. is_among (dispatched_serials d.ring) s ≡ true) d.placed
  pub states : Every (λ u. is_right d u ≡ true) d.unfinished
  pub replies : Every (λ u. IfSome u.reply (ReplyFits u.command)) d.unfinished
  pub parked : parked_rightly d.settings.flags.ooo d.unfinished ≡ true
  -- in order, answers are placed as their commands were laid
  pub in_order : d.settings.flags.ooo ≡ false → Begins d.placed (serials_in d.ring.laid)

-- ==== room

-- a command that waits for room finds it in an empty ring and an empty data area
pub record CanWait (s : SettingsData) (c : CommandData) : Type 0 where
  pub command : IsCommand c
  pub ring : 2 * entry_length s.pages c ≤ s.ring
  pub blocks : blocks_of s.pages c ≤ s.blocks

pub record RoomSound (d : DeviceState) : Type 0 where
  pub blocks : held_blocks d ≤ d.settings.blocks
  pub delayed : Every (λ w. CanWait d.settings w.command) d.delayed
  -- a device with qfull 0 lets no command wait
  pub none : d.settings.qfull ≡ 0 → d.delayed ≡ []
  pub now : d.now ≤ 2 ^ 63

pub record IsSound (d : DeviceState) : Type 0 where
  pub settings : IsSettings d.settings
  pub ring : RingSound d.settings d.ring
  pub serials : SerialsSound d
  pub answers : AnswersSound d
  pub room : RoomSound d

-- the accepted commands that have no completion
abbrev pub open_count : DeviceState → ℕ
open_count d = count_by is_open d.unfinished + length d.delayed
