-- What a medium shows, logical blocks of 512 bytes (SBC-3) of which some bytes are told, and what the store below it holds; over calls of
-- which some fail.
use Rattle.std.specs.Prelude.{ℕ, Bool, List, Option}
use Rattle.tcmu_types.specs.Numbered.{Numbered}

-- the places from `start` up to `end`, in bytes
pub record Span : Type 0 where
  pub start : ℕ
  pub end : ℕ

-- a logical block that is not yet in the store: its number, and its bytes
pub record Dirty : Type 0 where
  pub block : ℕ
  pub bytes : List ℕ

-- what bears the bytes: memory, a store, a copy over a store, or so many slots of blocks that are not yet in the store, of
-- which these are dirty, by rising numbers
pub data Layer : Type 0 where
  memory : Layer
  file : Layer
  overlay : Layer
  write_back : ℕ → List Dirty → Layer

-- What the store below a medium holds: so many bytes, these where they are told, how its calls come out, and how many of them were syncs.
-- What stands in the free blocks (by their numbers) is not known, since failed calls may have spoiled it: they are shown as zeros.
pub record Base : Type 0 where
  pub size : ℕ
  pub bytes : Option (List ℕ)
  pub free : List ℕ
  pub calls : Numbered
  pub syncs : ℕ

-- What lies below the medium's own list of failing calls: the bytes that the medium shows, and its store. Where the bytes are told, those
-- of the lost range are shown as zeros: what stands there is not known.
pub record Below : Type 0 where
  pub bytes : Option (List ℕ)
  pub lost : Span
  pub layer : Layer
  pub store : Base

pub record MediumState : Type 0 where
  pub blocks : ℕ
  pub protected : Bool
  pub own : Numbered
  pub below : Below
