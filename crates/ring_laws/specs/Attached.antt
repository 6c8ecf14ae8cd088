-- The user side of a device, as it is attached.
use Rattle.std.specs.Prelude.{[]}
use Rattle.tcmu_model.specs.Device.{DeviceState}
use Rattle.region_model.specs.Picture.{tail}
use Rattle.region_model.specs.Sides.{UserState}

-- the device's ring, pages and flags; the next entry is the first that is not published, and no job is given
abbrev pub attached_user : DeviceState → UserState
attached_user d =
    record {
      ring = d.settings.ring;
      pages = d.settings.pages;
      flags = d.settings.flags;
      place = tail d.ring;
      tail = tail d.ring;
      jobs = [];
      offsets = [];
      items = [];
      dispatched = 0;
      placed = 0;
      published = 0;
    }
