-- A picture is put together of what is read.
use Rattle.std.proofs.Common.{◌≡◌, ℕ, Bool, List, take, ◌∙◌}
use Rattle.tcmu_types.specs.Dumps.{DumpData, HeldData, ItemData}
use Rattle.region_model.specs.Layout.{ring_start}
use Rattle.region_model.specs.Picture.{picture_of}
use Rattle.region_model.specs.Regions.{RegionState}
use Rattle.region_model.specs.Sides.{InHand, TargetState, UserState}
use Rattle.ring_laws.specs.PictureRead.{items_read}
use Rattle.ring_laws.proofs.shown.PictureShown.{picture_items, picture_mailbox}
use Rattle.ring_path.specs.Devices.{RingDevice}
use Rattle.ring_path.specs.Dumped.{HaveCounts}
use Rattle.ring_path.specs.Rings.{IsRing}
use Rattle.ring_path.proofs.Items.{counts_shown}

-- the notes of the ring have their counts
pub counts_told : (r : RegionState) (t : TargetState) (u : UserState) (hand : List InHand) (b : Bool) (most : ℕ) (k : RingDevice) → IsRing r t u hand b most k → HaveCounts r.front t.settings.ring t.cleaned t.items
counts_told r t u hand b most k h = let p = h.stands.represents in counts_shown r.front t k.state k.lists h.stands.sound p.ring p.target

abbrev pub dump_of : List ℕ → List ItemData → List HeldData → DumpData
dump_of mailbox items held = record { mailbox = mailbox; items = items; held = held }

-- mailbox, items, and what commands hold
pub picture_told : (r : RegionState) (t : TargetState) (u : UserState) (hand : List InHand) (b : Bool) (most : ℕ) (k : RingDevice) (mailbox : List ℕ) (items : List ItemData) (held : List HeldData) → IsRing r t u hand b most k →
    mailbox ≡ take ring_start r.front → items ≡ items_read r.front t.settings.ring t.cleaned t.items → held ≡ (picture_of k.state k.lists).held → dump_of mailbox items held ≡ picture_of k.state k.lists
picture_told r t u hand b most k mailbox items held h m i e =
    let p = h.stands.represents in
    same (m ∙ picture_mailbox r.front t.items k.state k.lists p.ring) (i ∙ picture_items r.front t k.state k.lists h.stands.sound p.ring p.target) e
  where
    same : {m m' : List ℕ} {i i' : List ItemData} {e e' : List HeldData} → m ≡ m' → i ≡ i' → e ≡ e' → dump_of m i e ≡ dump_of m' i' e'
    same x y z = cc
