-- The user side is attached to a region that represents a device.
use Rattle.std.proofs.Common.{◌≡◌, List, ap, ◌∙◌, Ok}
use Rattle.tcmu_types.specs.declared.settings.Flags.{Flags}
use Rattle.region_model.specs.declared.mailbox.Mailbox.{Mailbox}
use Rattle.tcmu_model.specs.Device.{DeviceState}
use Rattle.tcmu_model.specs.Sound.{IsSound}
use Rattle.tcmu_model.specs.BlockLists.{Taken}
use Rattle.region_model.specs.Regions.{RegionState}
use Rattle.region_model.specs.Sides.{Recorded, UserState}
use Rattle.region_model.specs.Represents.{RingStands}
use Rattle.region_model.specs.UserSteps.{attached_to, or_refused, region_abandoned, region_reattached, user_attached, user_of}
use Rattle.ring_laws.specs.Attached.{attached_user}
use Rattle.ring_laws.proofs.attached.MailboxThere.{device_mailbox_there, mailbox_of}
use Rattle.ring_laws.proofs.opened.Opened.{flags-again}

pub attached_same : (r : RegionState) (items : List Recorded) (d : DeviceState) (lists : List Taken) → IsSound d → RingStands r.front items d lists → r.pages ≡ d.settings.pages → user_attached r ≡ Ok (attached_user d)
unfolding user_attached
attached_same r items d lists sound h pages =
    let m : Mailbox = mailbox_of d in
    ap (attached_to r.pages) (device_mailbox_there r items d lists sound h) ∙ ap (λ n. Ok (user_of n m)) pages
    ∙ ap (λ (f : Flags). Ok (record (user_of d.settings.pages m) { flags = f })) (flags-again d.settings.flags)
    ∙ ap (λ n. Ok (record (attached_user d) { ring = n })) sound.ring.size

pub reattached_same : (r : RegionState) (user : UserState) (items : List Recorded) (d : DeviceState) (lists : List Taken) → IsSound d → RingStands r.front items d lists → r.pages ≡ d.settings.pages →
    region_reattached r user ≡ region_abandoned r user.jobs
unfolding region_reattached
reattached_same r user items d lists sound h pages = ap (or_refused r user.jobs) (attached_same r items d lists sound h pages)
