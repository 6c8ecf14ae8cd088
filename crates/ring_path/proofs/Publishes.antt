-- A publish on a region that stands for a device.
use Rattle.std.proofs.Common.{◌≡◌, ℕ, Bool, true, false, List, refl, sym, ◌∙◌, subst}
use Rattle.tcmu_types.specs.declared.answer.Publish.{Publish}
use Rattle.tcmu_types.specs.declared.answer.Publish.TheVariants as publish
use Rattle.tcmu_model.specs.BlockLists.{kept_lists}
use Rattle.tcmu_model.specs.Device.{DeviceState}
use Rattle.tcmu_model.specs.Events.{after_publish, publish_answer}
use Rattle.tcmu_model.proofs.HoldersKept.{lists_published}
use Rattle.tcmu_model.proofs.LaidAfter.{laid_published}
use Rattle.tcmu_model.proofs.SoundEvents.{sound_after_publish}
use Rattle.tcmu_model.proofs.Unnamed.{publish_kept}
use Rattle.region_model.specs.Regions.{RegionState}
use Rattle.region_model.specs.Sides.{InHand, TargetState, UserState}
use Rattle.user_lib.specs.OnDevice.{PublishesDevice}
use Rattle.ring_path.specs.Devices.{RingDevice, device_kept, device_published}
use Rattle.ring_path.specs.Rings.{IsRing}
use Rattle.ring_path.proofs.Notes.{short_same}
use Rattle.ring_path.proofs.Standing.{few_same, kept_stands, stands_left}

attached_published : (d : DeviceState) → (after_publish d).attached ≡ d.attached
attached_published d = publish_kept (λ (x : DeviceState). x.attached) d refl

pub accepted_published : (d : DeviceState) → (after_publish d).accepted ≡ d.accepted
accepted_published d = publish_kept (λ (x : DeviceState). x.accepted) d refl

pub publish_keeps : (r left : RegionState) (t : TargetState) (u after : UserState) (hand : List InHand) (b : Bool) (most : ℕ) (k : RingDevice) (answer : Publish) → IsRing r t u hand b most k → b ≡ true → PublishesDevice r u answer left after → IsRing left t after hand b most (device_published k)
publish_keeps r left t u after hand b most k answer h on w =
    let d : DeviceState = k.state in
    record {
      stands = stands_left left t after hand (after_publish d) k.lists (sound_after_publish d h.stands.sound) (lists_published d k.lists h.stands.owned) (w t hand d k.lists h.stands (sym h.attached ∙ on)).stands;
      attached = h.attached ∙ sym (attached_published d);
      notes = short_same most d.ring.laid (after_publish d).ring.laid (laid_published d) h.notes;
      few = few_same d.accepted (after_publish d).accepted (accepted_published d) h.few;
    }

pub publish_answered : (r left : RegionState) (t : TargetState) (u after : UserState) (hand : List InHand) (b : Bool) (most : ℕ) (k : RingDevice) (answer : Publish) → IsRing r t u hand b most k → b ≡ true → PublishesDevice r u answer left after → answer ≡ publish_answer k.state
publish_answered r left t u after hand b most k answer h on w = (w t hand k.state k.lists h.stands (sym h.attached ∙ on)).answer

-- ==== where no user side is attached

pub detached_answer : (d : DeviceState) → d.attached ≡ false → publish.Detached ≡ publish_answer d
unfolding publish_answer
detached_answer d a = rw a refl

detached_same : (d : DeviceState) → d.attached ≡ false → after_publish d ≡ d
unfolding after_publish
detached_same d a = rw a refl

pub detached_keeps : (r : RegionState) (t : TargetState) (u : UserState) (hand : List InHand) (b : Bool) (most : ℕ) (k : RingDevice) → IsRing r t u hand b most k → b ≡ false → IsRing r t u hand b most (device_published k)
detached_keeps r t u hand b most k h off =
    let kept : IsRing r t u hand b most (device_kept k) = record { stands = kept_stands r t u hand k.state k.lists h.stands; attached = h.attached; notes = h.notes; few = h.few } in
    subst (λ (d : DeviceState). IsRing r t u hand b most (record { state = d; lists = kept_lists d k.lists })) (sym (detached_same k.state (sym h.attached ∙ off))) kept
