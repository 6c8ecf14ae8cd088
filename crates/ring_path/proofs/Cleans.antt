-- A clean on a region that stands for a device.
use Rattle.std.proofs.Common.{◌≡◌, ℕ, Bool, List, Result, Ok, Err, refl, sym, ap, ◌∙◌}
use Rattle.tcmu_model.specs.BlockLists.{Taken}
use Rattle.tcmu_model.specs.Device.{DeviceState}
use Rattle.tcmu_model.specs.Events.{after_clean, clean_answer}
use Rattle.tcmu_model.proofs.LaidAfter.{laid_cleaned}
use Rattle.tcmu_model.proofs.ListsCleaned.{lists_cleaned}
use Rattle.tcmu_model.proofs.SoundClean.{sound_after_clean}
use Rattle.region_model.specs.Regions.{RegionState}
use Rattle.region_model.specs.Sides.{InHand, TargetState, UserState}
use Rattle.region_model.specs.TargetCleans.{region_cleaned, target_clean_answer, target_cleaned}
use Rattle.ring_laws.specs.Cleaned.{CanClean}
use Rattle.ring_laws.proofs.cleaned.CleanedAll.{answer_cleaned}
use Rattle.ring_laws.proofs.cleaned.CleanedJobs.{blocks_cleaned, jobs_cleaned}
use Rattle.ring_laws.proofs.cleaned.CleanedRecords.{pages_cleaned, side_cleaned, target_cleaned_keeps}
use Rattle.ring_laws.proofs.cleaned.CleanedRing.{ids_cleaned, notes_cleaned, ring_cleaned}
use Rattle.target_side.specs.Cleaning.{clean_result}
use Rattle.target_side.specs.declared.fault.TargetFault.{TargetFault}
use Rattle.user_lib.specs.OnDevice.{StandsFor}
use Rattle.ring_path.specs.Devices.{RingDevice, device_cleaned}
use Rattle.ring_path.specs.Rings.{IsRing}
use Rattle.ring_path.proofs.Notes.{short_same}
use Rattle.ring_path.proofs.Standing.{few_same, same_represents, stands_left}

pub can_clean : (r : RegionState) (t : TargetState) (u : UserState) (hand : List InHand) (d : DeviceState) (lists : List Taken) → StandsFor r t u hand d lists → CanClean r t d lists
can_clean r t u hand d lists s =
    let p = s.represents in
    record { sound = s.sound; owned = s.owned; ring = p.ring; ids = p.ids; blocks = p.blocks; target = p.target; pages = p.pages }

attached_cleaned : (d : DeviceState) → (after_clean d).attached ≡ d.attached
unfolding after_clean
attached_cleaned d = refl

pub accepted_cleaned : (d : DeviceState) → (after_clean d).accepted ≡ d.accepted
unfolding after_clean
accepted_cleaned d = refl

pub clean_keeps : (r left : RegionState) (t after : TargetState) (u : UserState) (hand : List InHand) (b : Bool) (most : ℕ) (k : RingDevice) → IsRing r t u hand b most k → after ≡ target_cleaned r t → left ≡ region_cleaned r t → IsRing left after u hand b most (device_cleaned k)
clean_keeps r left t after u hand b most k h e f =
    let d : DeviceState = k.state in
    let p = h.stands.represents in
    let c : CanClean r t d k.lists = can_clean r t u hand d k.lists h.stands in
    record {
      stands = stands_left left after u hand (after_clean d) k.lists (sound_after_clean d h.stands.sound) (lists_cleaned d k.lists h.stands.sound h.stands.owned)
          (same_represents (region_cleaned r t) left (target_cleaned r t) after u u hand hand (after_clean d) k.lists f e refl refl
          (record {
            ring = ring_cleaned r t d k.lists c;
            ids = ids_cleaned r t d k.lists c;
            notes = notes_cleaned r t d k.lists c p.notes;
            blocks = blocks_cleaned r t d k.lists c;
            jobs = jobs_cleaned r t u hand d k.lists c p.jobs;
            target = target_cleaned_keeps r t d k.lists c;
            side = side_cleaned u d p.side;
            pages = pages_cleaned r t d p.pages;
          }));
      attached = h.attached ∙ sym (attached_cleaned d);
      notes = short_same most d.ring.laid (after_clean d).ring.laid (laid_cleaned d) h.notes;
      few = few_same d.accepted (after_clean d).accepted (accepted_cleaned d) h.few;
    }

-- no fault comes, and as many completions are logged
pub clean_answered : (r : RegionState) (t : TargetState) (u : UserState) (hand : List InHand) (b : Bool) (most : ℕ) (k : RingDevice) → IsRing r t u hand b most k → clean_result (target_clean_answer r t) ≡ Ok (clean_answer k.state)
clean_answered r t u hand b most k h = ap clean_result (answer_cleaned r t k.state k.lists (can_clean r t u hand k.state k.lists h.stands))

pub no_fault : (n : ℕ) (f : TargetFault) → ◌≡◌ {A = Result ℕ TargetFault} (Err f) (Ok n) → ⊥
no_fault n f e = cc

pub same_count : (n m : ℕ) → ◌≡◌ {A = Result ℕ TargetFault} (Ok n) (Ok m) → n ≡ m
same_count n m e = cc
