-- What is laid in the ring, as a target in which nothing else stands.
use Rattle.std.specs.Prelude.{◌≡◌, ℕ, ◌+◌, ◌%◌, ◌≤◌, false, List, [], ◌∷◌, ◌++◌, Option, Some, None, IfSome, length}
use Rattle.std.specs.Option.{option_map}
use Rattle.tcmu_types.specs.Data.{CommandData}
use Rattle.tcmu_types.specs.ByteFields.{le, put}
use Rattle.tcmu_types.specs.Overwriting.{zeros}
use Rattle.tcmu_types.specs.declared.dump.ItemKind.{ItemKind}
use Rattle.tcmu_types.specs.declared.dump.ItemKind.TheVariants as kind
use Rattle.tcmu_model.specs.Lengths.{tmr_length}
use Rattle.cmd_ring.specs.declared.ring.Place.{Place}
use Rattle.iovec_scatter.specs.Ends.{EachBelow}
use Rattle.region_model.specs.Areas.{written_along}
use Rattle.region_model.specs.Layout.{head_place, ring_start, tmr_bytes}
use Rattle.region_model.specs.Picture.{request_of}
use Rattle.region_model.specs.Regions.{RegionState, size_of}
use Rattle.region_model.specs.Pending.{PendingData}
use Rattle.region_model.specs.Sides.{Recorded, TargetState}
use Rattle.region_model.specs.TargetSteps.{blocks_given, blocks_wanted, front_with, head_in, ids_of, length_in, pad_in, pads_of, region_laid}
use Rattle.ring_laws.specs.Calls.{IsFreeId}
use Rattle.target_table.specs.Rows.{command_of}
use Rattle.target_side.specs.Writing.{data_for, with_padding}
use Rattle.target_side.specs.declared.entries.Entries.{Entries}

abbrev pub as_target : Entries → TargetState
as_target e =
    record {
      settings = record {
        ring = e.places.ring.size;
        blocks = e.commands.limit;
        flags = record { ooo = false; read_len = false; tmr = false };
        timeout = 0;
        qfull = 0;
        pages = e.pages;
      };
      now = 0;
      blocked = false;
      accepted = 0;
      rows = e.commands.rows;
      delayed = [];
      items = e.places.ring.items;
      cleaned = e.places.ring.cleaned;
      laid = 0;
      cleared = 0;
      broken = None;
      log = [];
    }

-- what the target keeps of a command that is laid now
abbrev pub pending_for : TargetState → ℕ → Option ℕ → CommandData → PendingData
pending_for t serial deadline c =
    record {
      serial = serial;
      init = c.init;
      tag = c.tag;
      in_len = c.in_len;
      blocks = blocks_given t c;
      deadline = deadline;
      expired = false;
      buffer = zeros c.in_len;
    }

abbrev pub items_with : TargetState → ItemKind → ℕ → List Recorded
items_with t k n = t.items ++ pads_of (pad_in t n) ++ record { kind = k; len = n } ∷ []

-- a command is laid under an id: an item more, with padding before it where that is needed, and a row more
pub record LaidAs (r : RegionState) (t : TargetState) (serial : ℕ) (deadline : Option ℕ) (c : CommandData) (id : ℕ) (r' : RegionState) (t' : TargetState) : Type 0 where
  pub target : t' ≡ record t {
    rows = t.rows ++ record { id = id; pending = pending_for t serial deadline c } ∷ [];
    items = items_with t kind.Cmd (length_in t c);
  }
  pub region : r' ≡ region_laid r t c id
  pub free : IsFreeId t id

-- a note is laid
pub record NotedAs (r : RegionState) (t : TargetState) (type_ : ℕ) (ss : List ℕ) (r' : RegionState) (t' : TargetState) : Type 0 where
  pub target : t' ≡ record t { items = items_with t kind.Tmr (tmr_length (length ss)) }
  pub region : r' ≡ record r { front = front_with r.front t (tmr_length (length ss)) (tmr_bytes type_ (ids_of t.rows ss)) }

-- ==== what is written of a command that is laid

-- an item comes to lie at a place, with whole words of padding before it
pub record CanWrite (t : TargetState) (place : Place) (n : ℕ) : Type 0 where
  pub inside : place.at + n ≤ t.settings.ring
  pub words : IfSome place.pad (λ pad. (8 ≤ pad) × (pad % 8 ≡ 0))
  pub to_the_end : IfSome place.pad (λ pad. place.pad_at + pad ≡ t.settings.ring)

-- the command of an id has as many blocks as it needs, each below the limit
pub record HasBlocks (t : TargetState) (id : ℕ) (c : CommandData) (blocks : List ℕ) : Type 0 where
  pub row : option_map (λ p. p.blocks) (command_of t.rows id) ≡ Some blocks
  pub count : length blocks ≡ blocks_wanted t c
  pub below : EachBelow t.settings.blocks blocks

abbrev pub entry_written : RegionState → TargetState → Place → ℕ → CommandData → List ℕ → List ℕ
entry_written r t place id c blocks =
    put (put (with_padding r.front place) (ring_start + place.at) (request_of t.settings blocks place.at id c)) head_place (le 4 (head_in t))

-- its data along its blocks, its entry at its place, and the head behind it
abbrev pub region_written : RegionState → TargetState → Place → ℕ → CommandData → List ℕ → RegionState
region_written r t place id c blocks =
    record r {
      front = entry_written r t place id c blocks;
      blocks = written_along (size_of r) r.blocks blocks (data_for (size_of r) c (length blocks));
    }

abbrev pub HasOwnBlocks : TargetState → ℕ → CommandData → Type 0
HasOwnBlocks t id c = (blocks : List ℕ) × HasBlocks t id c blocks

-- P holds of the blocks of the command of an id
abbrev pub IfHasBlocks : TargetState → ℕ → (List ℕ → Type 0) → Type 0
IfHasBlocks t id P = (blocks : List ℕ) → option_map (λ p. p.blocks) (command_of t.rows id) ≡ Some blocks → P blocks
