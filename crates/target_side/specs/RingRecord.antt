-- The target's record of its ring: the size, the place of the first item that is not cleared, and the items from there on.
use Rattle.std.specs.Prelude.{◌≡◌, ℕ, ◌+◌, ◌-◌, ◌%◌, ◌==◌, nat_lt, nat_le, Bool, false, List, [], ◌∷◌, take, slice_get, Option, Some, None, if◌then◌else◌}
use Rattle.std.specs.List.{sum_by}
use Rattle.std.specs.Option.{option_map}
use Rattle.tcmu_types.specs.Lists.{Every}
use Rattle.region_model.specs.Sides.{Recorded}
use Rattle.region_model.specs.UserSteps.{is_cmd}
use Rattle.cmd_ring.specs.declared.ring.Place.{Place}
use Rattle.cmd_ring.specs.Places.{RingPlaces}
use Rattle.target_side.specs.declared.item.RingItem.{RingItem}

pub record RingRecord : Type 0 where
  pub size : ℕ
  pub cleaned : ℕ
  pub items : List Recorded

-- with the room for more items
pub record SparedRing : Type 0 where
  pub ring : RingRecord
  pub spare : ℕ

-- ==== room

abbrev pub used_of : RingRecord → ℕ
used_of p = sum_by (λ x. x.len) p.items

abbrev pub head_of : RingRecord → ℕ
head_of p = (p.cleaned + used_of p) % p.size

abbrev pub free_of : RingRecord → ℕ
free_of p = p.size - used_of p - 1

abbrev pub pad_of : RingRecord → ℕ → ℕ
pad_of p n = if nat_lt (p.size - head_of p) n then p.size - head_of p else 0

abbrev pub need_of : RingRecord → ℕ → ℕ
need_of p n = pad_of p n + n

abbrev pub fits_of : RingRecord → ℕ → Bool
fits_of p n = nat_le (need_of p n) (free_of p)

-- where an item of n bytes comes to lie: at the head, or behind padding at the ring's start
abbrev pub place_in_record : RingRecord → ℕ → Place
place_in_record p n =
    record {
      pad = if pad_of p n == 0 then None else Some (pad_of p n);
      pad_at = head_of p;
      at = (head_of p + pad_of p n) % p.size;
    }

-- ==== items

abbrev pub begins_with_command : List Recorded → Bool
begins_with_command [] = false
begins_with_command (x ∷ xs) = is_cmd x

-- the item at an index, with the place where it begins
abbrev pub item_at : RingRecord → ℕ → Option RingItem
item_at p index =
    option_map (λ x. record { at = (p.cleaned + sum_by (λ y. y.len) (take index p.items)) % p.size; kind = x.kind; len = x.len }) (slice_get p.items index)

abbrev pub passed_of : RingRecord → List Recorded → RingRecord
passed_of p [] = p
passed_of p (x ∷ xs) = record p { cleaned = (p.cleaned + x.len) % p.size; items = xs }

-- the first item is cleared
abbrev pub passed : RingRecord → RingRecord
passed p = passed_of p p.items

-- the bytes in use are those of the items, which are whole words
pub record KeepsItems (ring : RingPlaces) (items : List Recorded) : Type 0 where
  pub used : ring.used ≡ sum_by (λ x. x.len) items
  pub words : Every (λ x. x.len % 8 ≡ 0) items
