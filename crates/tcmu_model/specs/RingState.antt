-- The command ring: all items that were laid in it since the last reset, and three places in their list, up to which they are
-- cleared, published and dispatched. No offset is kept: each is a sum of lengths (the kernel's tcmu-design, "Command ring").
use Rattle.std.specs.Prelude.{ℕ, ◌+◌, ◌-◌, ◌%◌, ◌==◌, nat_lt, nat_le, Bool, true, false, List, [], ◌∷◌, ◌++◌, take, drop, map, if◌then◌else◌}
use Rattle.std.specs.List.{sum_by, count_by, prefix_len, flat_map}
use Rattle.tcmu_types.specs.Data.{CommandData}

-- what is laid: padding, a command under its serial, or a task management note of a kind on these serials
pub data Laid : Type 0 where
  Pad : Laid
  Cmd : ℕ → CommandData → Laid
  Tmr : ℕ → List ℕ → Laid

-- an item, with its length in bytes
pub record Item : Type 0 where
  pub len : ℕ
  pub laid : Laid

pub record RingState : Type 0 where
  pub size : ℕ
  pub laid : List Item
  pub cleared : ℕ
  pub published : ℕ
  pub dispatched : ℕ

abbrev pub empty_ring : ℕ → RingState
empty_ring size = record { size = size; laid = []; cleared = 0; published = 0; dispatched = 0 }

-- items of these lengths; for the ring's room they are as good as padding
abbrev pub items_of : List ℕ → List Item
items_of lens = map (λ n. record { len = n; laid = Pad }) lens

-- a ring of a size in which items of these lengths were laid, of which so many are cleared
abbrev pub ring_of : ℕ → List ℕ → ℕ → RingState
ring_of size lens cleared = record { size = size; laid = items_of lens; cleared = cleared; published = cleared; dispatched = cleared }

-- ==== room

abbrev pub lengths : List Item → ℕ
lengths items = sum_by (λ i. i.len) items

-- where the next item begins
abbrev pub head : RingState → ℕ
head r = lengths r.laid % r.size

-- the bytes of the items that are not cleared
abbrev pub used : RingState → ℕ
used r = lengths (drop r.cleared r.laid)

-- a byte is never used, so that a full ring differs from an empty one
abbrev pub free : RingState → ℕ
free r = r.size - used r - 1

-- what is left before the ring's end, where an item of n bytes does not fit there
abbrev pub pad : RingState → ℕ → ℕ
pad r n = if nat_lt (r.size - head r) n then r.size - head r else 0

abbrev pub need : RingState → ℕ → ℕ
need r n = pad r n + n

abbrev pub fits : RingState → ℕ → Bool
fits r n = nat_le (need r n) (free r)

-- ==== laying

abbrev pub pads : ℕ → List Item
pads n = if n == 0 then [] else record { len = n; laid = Pad } ∷ []

-- the item is laid, behind padding where it would pass the ring's end
abbrev pub with_item : RingState → Item → RingState
with_item r item = record r { laid = r.laid ++ pads (pad r item.len) ++ item ∷ [] }

-- ==== items

abbrev pub is_pad : Item → Bool
is_pad i = elim (i.laid) [ Pad ↦ true | Cmd s c ↦ false | Tmr k s ↦ false ]

abbrev pub is_command : Item → Bool
is_command i = elim (i.laid) [ Pad ↦ false | Cmd s c ↦ true | Tmr k s ↦ false ]

-- how many commands stand in a list of items
abbrev pub commands_in : List Item → ℕ
commands_in items = count_by is_command items

abbrev pub serial_in : Item → List ℕ
serial_in i = elim (i.laid) [ Pad ↦ [] | Cmd s c ↦ s ∷ [] | Tmr k s ↦ [] ]

-- the serials of the commands, in the order in which they were laid
abbrev pub serials_in : List Item → List ℕ
serials_in items = flat_map serial_in items

-- the place of the first item that is not dispatched and no padding
abbrev pub next_place : RingState → ℕ
next_place r = r.dispatched + prefix_len is_pad (drop r.dispatched r.laid)

-- the length of the longest front with no more than n commands
abbrev pub front_with : ℕ → List Item → ℕ
front_with n [] = 0
front_with n (i ∷ is) =
    if is_command i then (if n == 0 then 0 else front_with (n - 1) is + 1) else front_with n is + 1

-- commands among the items that are cleared, published or dispatched
abbrev pub cleared_commands : RingState → ℕ
cleared_commands r = commands_in (take r.cleared r.laid)

abbrev pub published_commands : RingState → ℕ
published_commands r = commands_in (take r.published r.laid)

abbrev pub dispatched_commands : RingState → ℕ
dispatched_commands r = commands_in (take r.dispatched r.laid)
