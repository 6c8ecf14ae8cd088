-- A dump's text has one reading.
use Rattle.std.specs.Prelude.{◌≡◌, ℕ, IsTrue, List, length}
use Rattle.tcmu_types.specs.Naming.{is_name}
use Rattle.tcmu_types.specs.Dumps.{ItemData, HeldData, DumpData}
use Rattle.tcmu_model.specs.BlockLists.{Taken}
use Rattle.tcmu_model.specs.Device.{DeviceState}
use Rattle.tcmu_model.specs.Owned.{ListsSound}
use Rattle.region_model.specs.Picture.{picture_of}
use Rattle.tcmu_model.specs.Sound.{IsSound}
use Rattle.tcmu_types.specs.Lists.{Every}
use Rattle.text_model.specs.Text.{dump_text}
use Rattle.text_laws.specs.Values.{IsNumber, AreNumbers}

-- ==== what the types of the code keep of every dump: its numbers, and the lengths of its bytes, are numbers of 64 bits

pub record IsItemValue (i : ItemData) : Type 0 where
  pub at : IsNumber i.at
  pub bytes : IsNumber (length i.bytes)

pub record IsHeldValue (h : HeldData) : Type 0 where
  pub serial : IsNumber h.serial
  pub blocks : AreNumbers h.blocks
  pub payload : IsNumber (length h.payload)

pub record IsDumpValue (d : DumpData) : Type 0 where
  pub mailbox : IsNumber (length d.mailbox)
  pub items : Every IsItemValue d.items
  pub held : Every IsHeldValue d.held

-- ==== the law

-- dumps that have one text are of the same device, and show the same mailbox, items and commands
abbrev pub DumpsTold : Type 0
DumpsTold =
    (name other : List ℕ) (d e : DumpData) → IsTrue (is_name name) → IsTrue (is_name other) → IsDumpValue d → IsDumpValue e
    → dump_text name d ≡ dump_text other e → (name ≡ other) × (d ≡ e)

-- a picture of a sound device, with block lists that are sound for it, is such a dump, where the device has accepted fewer than 2^64
-- commands
abbrev pub PicturesWhole : Type 0
PicturesWhole = (d : DeviceState) (lists : List Taken) → IsSound d → ListsSound d lists → IsNumber d.accepted → IsDumpValue (picture_of d lists)
