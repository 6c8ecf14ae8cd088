-- What the target reads of an answered entry when it cleans, and what a clean rests on.
use Rattle.std.specs.Prelude.{◌≡◌, ℕ, List, Option, unwrap_or}
use Rattle.tcmu_types.specs.Data.{ReplyData}
use Rattle.region_model.specs.declared.entry.Response.{Response}
use Rattle.tcmu_model.specs.Device.{DeviceState}
use Rattle.tcmu_model.specs.Sound.{IsSound}
use Rattle.tcmu_model.specs.BlockLists.{Taken}
use Rattle.region_model.specs.Layout.{sense_buffer, length_flag}
use Rattle.tcmu_types.specs.ByteFields.{padded}
use Rattle.region_model.specs.Regions.{RegionState}
use Rattle.region_model.specs.Sides.{TargetState}
use Rattle.region_model.specs.Represents.{RingStands, IdsStand, BlocksStand, TargetKeeps}
use Rattle.tcmu_model.specs.Owned.{ListsSound}

-- the response of a reply, with the id in its entry and the length that it tells
abbrev pub response_of : ℕ → ReplyData → Option ℕ → Response
response_of id reply read_len =
    record { id = id; uflags = length_flag read_len; status = reply.status; read_len = unwrap_or read_len 0; sense = padded 96 (sense_buffer reply.sense) }

-- a target with its region, and the sound device that they stand for: of the points, those that a clean reads
pub record CanClean (r : RegionState) (t : TargetState) (d : DeviceState) (lists : List Taken) : Type 0 where
  pub sound : IsSound d
  pub owned : ListsSound d lists
  pub ring : RingStands r.front t.items d lists
  pub ids : IdsStand r.front t.rows d
  pub blocks : BlocksStand r.blocks d lists
  pub target : TargetKeeps t d lists
  pub pages : r.pages ≡ d.settings.pages
