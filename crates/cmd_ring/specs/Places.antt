-- What the target keeps of its command ring: the size and three places, in bytes. The bytes from `cleaned` on are in use, `used` of
-- them, round the ring's end; the next item begins at the head, behind them.
use Rattle.std.specs.Prelude.{◌≡◌, ℕ, ◌+◌, ◌-◌, ◌*◌, ◌%◌, ◌≤◌, ◌<◌, ◌==◌, nat_lt, nat_le, Bool, take, Some, None, if◌then◌else◌}
use Rattle.tcmu_types.specs.Rules.{IsRingSize}
use Rattle.cmd_ring.specs.declared.ring.Room.{Room}
use Rattle.cmd_ring.specs.declared.ring.Room.TheVariants.{Fits, FitsAfterPad, Lacks}
use Rattle.cmd_ring.specs.declared.ring.Place.{Place}
use Rattle.tcmu_model.specs.RingState.{RingState, lengths}
use Rattle.tcmu_model.specs.RingState as ring

pub record RingPlaces : Type 0 where
  pub size : ℕ
  pub head : ℕ
  pub cleaned : ℕ
  pub used : ℕ

-- the lengths that an item can have: whole words of 8 bytes, up to half the ring
pub record IsItemLength (size n : ℕ) : Type 0 where
  pub least : 8 ≤ n
  pub most : 2 * n ≤ size
  pub words : n % 8 ≡ 0

-- what the numbers of every ring keep
pub record IsRing (p : RingPlaces) : Type 0 where
  pub ring_size : IsRingSize p.size
  pub cleaned_within : p.cleaned < p.size
  pub one_unused : p.used < p.size
  pub head_behind : p.head ≡ (p.cleaned + p.used) % p.size
  pub cleaned_words : p.cleaned % 8 ≡ 0
  pub used_words : p.used % 8 ≡ 0

-- ==== room

-- a byte is never used, so that a full ring differs from an empty one
abbrev pub free : RingPlaces → ℕ
free p = p.size - p.used - 1

-- what is left before the ring's end, where an item of n bytes does not fit there
abbrev pub pad : RingPlaces → ℕ → ℕ
pad p n = if nat_lt (p.size - p.head) n then p.size - p.head else 0

abbrev pub need : RingPlaces → ℕ → ℕ
need p n = pad p n + n

abbrev pub fits : RingPlaces → ℕ → Bool
fits p n = nat_le (need p n) (free p)

abbrev pub room_of : RingPlaces → ℕ → Room
room_of p n =
    if fits p n then (if pad p n == 0 then Fits else FitsAfterPad (pad p n)) else Lacks (need p n) (free p)

-- ==== calls

-- a ring with nothing in it
abbrev pub opened : ℕ → RingPlaces
opened size = record { size = size; head = 0; cleaned = 0; used = 0 }

-- where an item of n bytes comes to lie: at the head, or behind padding at the ring's start
abbrev pub place_of : RingPlaces → ℕ → Place
place_of p n =
    record {
      pad = if pad p n == 0 then None else Some (pad p n);
      pad_at = p.head;
      at = if pad p n == 0 then p.head else 0;
    }

-- an item of n bytes is laid, with its padding
abbrev pub placed : RingPlaces → ℕ → RingPlaces
placed p n = record p { head = (p.head + need p n) % p.size; used = p.used + need p n }

-- the n oldest bytes are given back
abbrev pub advanced : RingPlaces → ℕ → RingPlaces
advanced p n = record p { cleaned = (p.cleaned + n) % p.size; used = p.used - n }

-- ==== the ring state

-- the numbers of a ring state
abbrev pub places_of : RingState → RingPlaces
places_of r =
    record {
      size = r.size;
      head = ring.head r;
      cleaned = lengths (take r.cleared r.laid) % r.size;
      used = ring.used r;
    }
