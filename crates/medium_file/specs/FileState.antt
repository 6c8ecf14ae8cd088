-- What a medium over a store shows.
use Rattle.std.specs.Prelude.{◌≡◌, ℕ, ◌+◌, ◌*◌, ◌^◌, ◌<◌, ◌≤◌, false, List, Option, Some, []}
use Rattle.std.specs.Option.{option_map}
use Rattle.tcmu_model.specs.MediumState.{Span, Below, MediumState, file}
use Rattle.scsi_model.specs.Medium.{blanked, repeated}
use Rattle.edge.specs.Stores.{StoreState, Puts, Spoils}
use Rattle.handler_trait.specs.OverStore.{base_of}
use Rattle.medium_file.specs.declared.file.Lost.{Lost}

-- the range that is lost
abbrev pub lost_span : Lost → Span
lost_span l = record { start = l.start; end = l.end }

-- what the store shows below: the bytes of the lost range are not known to the medium, and in the store those of the free blocks
abbrev pub below_file : StoreState → Span → List ℕ → Below
below_file s lost free = record { bytes = option_map (blanked lost) s.bytes; lost = lost; layer = file; store = base_of s free }

-- of so many blocks over a store, behind so many calls, of which the medium itself lets none fail
abbrev pub file_state : ℕ → StoreState → Span → List ℕ → ℕ → MediumState
file_state blocks s lost free calls =
    record { blocks = blocks; protected = false; own = record { fails = Some []; calls = calls }; below = below_file s lost free }

-- what contracts see of a medium over a store: what it shows, and the store
pub record FileData (S : Type 0) : Type 0 where
  pub medium : MediumState
  pub store : S

-- the blocks are those of the store, and what is lost lies in it
pub record IsFile (blocks : ℕ) (s : StoreState) (lost : Span) : Type 0 where
  pub long : s.size ≡ 512 * blocks
  pub some : 1 ≤ blocks
  pub most : blocks ≤ 2 ^ 35
  pub ordered : lost.start ≤ lost.end
  pub inside : lost.end ≤ s.size

-- copies of a block were put from a place on, in order, up to the one whose call failed
pub record PutsInPart (at : ℕ) (block : List ℕ) (count : ℕ) (old new : Option (List ℕ)) : Type 0 where
  pub done : ℕ
  pub fewer : done < count
  pub middle : Option (List ℕ)
  pub put : Puts at (repeated done block) old middle
  pub spoiled : Spoils (at + 512 * done) 512 middle new
