-- The picture of a device, as it is read from its region along the target's record of the items.
use Rattle.std.specs.Prelude.{ℕ, ◌+◌, ◌*◌, ◌%◌, List, [], ◌∷◌}
use Rattle.tcmu_types.specs.ByteFields.{field, le, put}
use Rattle.tcmu_types.specs.Overwriting.{zeros}
use Rattle.tcmu_types.specs.Dumps.{ItemData}
use Rattle.tcmu_types.specs.declared.dump.ItemKind.{ItemKind}
use Rattle.tcmu_types.specs.declared.dump.ItemKind.TheVariants as kind
use Rattle.region_model.specs.Represents.{entry_at}
use Rattle.region_model.specs.Sides.{Recorded}

-- an entry with its ids as zero: a command's own, and those that a note names, as many as it says
abbrev pub without_ids : ItemKind → List ℕ → List ℕ
without_ids kind.Pad entry = entry
without_ids kind.Cmd entry = put entry 4 (le 2 0)
without_ids kind.Tmr entry = put entry 32 (zeros (2 * field 4 12 entry))

-- items in ring order, of which the first begins at a ring offset
abbrev pub items_read : List ℕ → ℕ → ℕ → List Recorded → List ItemData
items_read front ring at [] = []
items_read front ring at (x ∷ xs) =
    record { at = at; kind = x.kind; bytes = without_ids x.kind (entry_at front at x.len) } ∷ items_read front ring ((at + x.len) % ring) xs
