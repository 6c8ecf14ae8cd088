-- Fields: numbers, names, hexadecimal digits, runs, lists.
use Rattle.std.specs.Prelude.{◌≡◌, ℕ, ◌<◌, Bool, true, false, ◌&&◌, not, List, [], ◌∷◌, length, drop, replicate, slice_index, Option, Some, None, nat_lt, nat_le, ◌==◌, if◌then◌else◌, codes, bytes_eq}
use Rattle.std.specs.List.{flat_map, list_all}
use Rattle.std.specs.Option.{option_and_then, option_map}
use Rattle.tcmu_types.specs.Naming.{is_name}
use Rattle.tcmu_types.specs.Rules.{group_length}
use Rattle.tcmu_types.specs.declared.settings.Flags.{Flags}
use Rattle.tcmu_types.specs.Reading.{each}
use Rattle.tcmu_types.specs.Fields.{comma, hash, only_if, pieces, star}
use Rattle.tcmu_types.specs.Decimals.{number_of, rising_of}
use Rattle.tcmu_types.specs.Hex.{bytes_of_hex, hex_pair}

-- ---- characters

-- a byte of a field
abbrev pub is_field_byte : ℕ → Bool
is_field_byte c = nat_le 33 c && nat_le c 126 && not (c == hash)

-- ---- texts

-- a text that may be a field
pub record IsWord (w : List ℕ) : Type 0 where
  pub some : 0 < length w
  pub bytes : list_all is_field_byte w ≡ true

abbrev pub AreWords : List (List ℕ) → Type 0
AreWords [] = Unit {0}
AreWords (w ∷ ws) = IsWord w × AreWords ws

abbrev pub name_of : List ℕ → Option (List ℕ)
name_of text = only_if is_name text

-- ---- numbers

-- ---- bytes

abbrev pub is_cdb : List ℕ → Bool
is_cdb bytes = nat_lt 0 (length bytes) && (length bytes == group_length (slice_index bytes 0))

unfoldable pub cdb_of : List ℕ → Option (List ℕ)
cdb_of text = option_and_then (only_if is_cdb) (bytes_of_hex text)

-- one run of equal bytes, from 1 to 1,048,576 of them
abbrev pub run_of : List ℕ → Option (List ℕ)
run_of text =
    if nat_lt (length text) 3 then None
    else (if slice_index text 2 == star then option_and_then (λ x. option_map (λ n. replicate n x) (number_of 1 1048576 (drop 3 text))) (hex_pair (slice_index text 0) (slice_index text 1)) else None)

-- runs joined by commas, at most 1,048,576 bytes in all
unfoldable pub runs_of : List ℕ → Option (List ℕ)
runs_of text = option_and_then (λ runs. only_if (λ bytes. nat_le (length bytes) 1048576) (flat_map (λ r. r) runs)) (each run_of (pieces comma text))

-- ---- flags

abbrev pub no_flags : Flags
no_flags = record { ooo = false; read_len = false; tmr = false }

-- each word once
abbrev pub with_flag : Flags → List ℕ → Option Flags
with_flag f word =
    if bytes_eq word (codes "ooo") then (if f.ooo then None else Some (record f { ooo = true }))
    else (if bytes_eq word (codes "len") then (if f.read_len then None else Some (record f { read_len = true }))
    else (if bytes_eq word (codes "tmr") then (if f.tmr then None else Some (record f { tmr = true })) else None))

abbrev pub with_flags : Flags → List (List ℕ) → Option Flags
with_flags f [] = Some f
with_flags f (word ∷ words) = option_and_then (λ g. with_flags g words) (with_flag f word)

unfoldable pub flags_of : List ℕ → Option Flags
flags_of text = if bytes_eq text (codes "none") then Some no_flags else with_flags no_flags (pieces comma text)

-- `none`, or rising serials
unfoldable pub serials_of : List ℕ → Option (List ℕ)
serials_of text = if bytes_eq text (codes "none") then Some [] else rising_of comma 1000000000 text
