-- What is written of an item before its entry.
use Rattle.std.specs.Prelude.{ℕ, ◌+◌, ◌*◌, List, if◌then◌else◌, Option, Some, None}
use Rattle.tcmu_types.specs.ByteFields.{put}
use Rattle.tcmu_types.specs.Overwriting.{zeros}
use Rattle.tcmu_types.specs.Data.{CommandData}
use Rattle.tcmu_types.specs.Rules.{takes_payload}
use Rattle.cmd_ring.specs.declared.ring.Place.{Place}
use Rattle.region_model.specs.Layout.{ring_start, pad_bytes}

abbrev pub padded_at : List ℕ → ℕ → Option ℕ → List ℕ
padded_at front at None = front
padded_at front at (Some pad) = put front (ring_start + at) (pad_bytes pad)

abbrev pub with_padding : List ℕ → Place → List ℕ
with_padding front place = padded_at front place.pad_at place.pad

-- what stands in the blocks of a command that is laid
abbrev pub data_for : ℕ → CommandData → ℕ → List ℕ
data_for size c count = if takes_payload c.cdb then c.sent else zeros (size * count)
