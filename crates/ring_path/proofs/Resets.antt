-- A reset on a region that stands for a device.
use Rattle.std.proofs.Common.{◌≡◌, ℕ, ◌+◌, ◌<◌, Bool, true, false, eqb, List, [], length, refl, sym, ap, ◌∙◌, subst, arith, ⊎_elim}
use Rattle.std.proofs.lemmas.Bool.{cases_Bool, eqb-true}
use Rattle.tcmu_types.specs.Data.{SettingsData}
use Rattle.tcmu_types.specs.declared.answer.Reset.TheVariants as reset
use Rattle.tcmu_model.specs.BlockLists.{Taken, kept_lists}
use Rattle.tcmu_model.specs.Device.{DeviceState}
use Rattle.tcmu_model.specs.Events.{after_clean, after_reset, clean_answer, count_in_hand, reset_answer, reset_completions}
use Rattle.tcmu_model.proofs.LaidAfter.{laid_reset}
use Rattle.tcmu_model.proofs.ResetMade.{by_reset, handlers_out_same, not_blocked_same}
use Rattle.tcmu_model.proofs.SoundEvents.{sound_after_reset}
use Rattle.tcmu_model.proofs.Unnamed.{reset_kept}
use Rattle.region_model.specs.Layout.{data_start}
use Rattle.region_model.specs.Regions.{RegionState}
use Rattle.region_model.specs.Sides.{InHand, TargetState, UserState}
use Rattle.region_model.specs.TargetCleans.{region_reset, target_reset, target_reset_answer}
use Rattle.ring_laws.specs.Restarted.{count_jobs}
use Rattle.ring_laws.specs.UserKept.{HasPages, HasRing}
use Rattle.ring_laws.proofs.emptied.EmptiedKept.{hand_reset, kept_reset, lists_reset, logged_reset, pages_reset, ring_reset}
use Rattle.ring_laws.proofs.restarted.RestartedAnswer.{jobs_counted}
use Rattle.user_lib.specs.OnDevice.{ResetsDevice, StandsFor}
use Rattle.ring_path.specs.Devices.{RingDevice, device_kept, device_reset}
use Rattle.ring_path.specs.Rings.{IsRing, NotesShort}
use Rattle.ring_path.proofs.Cleans.{can_clean}
use Rattle.ring_path.proofs.Standing.{few_same, kept_stands}

pub accepted_reset : (d : DeviceState) (level : ℕ) → (after_reset d level).accepted ≡ d.accepted
unfolding after_clean
accepted_reset d level = reset_kept (λ (x : DeviceState). x.accepted) d level refl

-- ==== who asks

pub jobs_out : (r : RegionState) (t : TargetState) (u : UserState) (hand : List InHand) (d : DeviceState) (lists : List Taken) → StandsFor r t u hand d lists → count_jobs hand u ≡ count_in_hand d
jobs_out r t u hand d lists k = jobs_counted u hand t.rows d lists k.represents.jobs

pub unblocked_answer : (d : DeviceState) (level : ℕ) → d.blocked ≡ false → reset.NotBlocked ≡ reset_answer d level
unfolding reset_answer
unblocked_answer d level b = rw b refl

pub out_answer : (d : DeviceState) (level n : ℕ) → d.blocked ≡ true → n ≡ count_in_hand d → 0 < n → reset.HandlersOut n ≡ reset_answer d level
unfolding reset_answer
out_answer d level n b e some =
    ap reset.HandlersOut e ∙ (rw b (⊎_elim
    (λ (k : eqb (count_in_hand d) 0 ≡ true). let z : count_in_hand d ≡ 0 = eqb-true (count_in_hand d) 0 k in absurd (omega arith))
    (λ (k : eqb (count_in_hand d) 0 ≡ false). rw k refl)
    (cases_Bool (eqb (count_in_hand d) 0))))

abbrev logged_by : DeviceState → ℕ → ℕ
logged_by d level = clean_answer d + length (reset_completions (after_clean d) level)

made_answer : (d : DeviceState) (level : ℕ) → d.blocked ≡ true → count_in_hand d ≡ 0 → reset_answer d level ≡ reset.Reset (logged_by d level)
unfolding reset_answer
made_answer d level b n = rw (b, n) refl

-- ==== where nothing changes

same_keeps : (r : RegionState) (t : TargetState) (u : UserState) (hand : List InHand) (b : Bool) (most : ℕ) (k : RingDevice) (level : ℕ) → IsRing r t u hand b most k → after_reset k.state level ≡ k.state → IsRing r t u hand b most (device_reset k level)
same_keeps r t u hand b most k level h e =
    let kept : IsRing r t u hand b most (device_kept k) = record { stands = kept_stands r t u hand k.state k.lists h.stands; attached = h.attached; notes = h.notes; few = h.few } in
    subst (λ (d : DeviceState). IsRing r t u hand b most (record { state = d; lists = kept_lists d k.lists })) (sym e) kept

pub unblocked_keeps : (r : RegionState) (t : TargetState) (u : UserState) (hand : List InHand) (b : Bool) (most : ℕ) (k : RingDevice) (level : ℕ) → IsRing r t u hand b most k → k.state.blocked ≡ false → IsRing r t u hand b most (device_reset k level)
unblocked_keeps r t u hand b most k level h e = same_keeps r t u hand b most k level h (not_blocked_same k.state level (sym (unblocked_answer k.state level e)))

pub out_keeps : (r : RegionState) (t : TargetState) (u : UserState) (hand : List InHand) (b : Bool) (most : ℕ) (k : RingDevice) (level n : ℕ) → IsRing r t u hand b most k → k.state.blocked ≡ true → n ≡ count_in_hand k.state → 0 < n →
    IsRing r t u hand b most (device_reset k level)
out_keeps r t u hand b most k level n h e c some = same_keeps r t u hand b most k level h (handlers_out_same k.state level n (sym (out_answer k.state level n e c some)))

-- ==== where all is ended

settings_reset : (d : DeviceState) (level : ℕ) → (after_reset d level).settings ≡ d.settings
unfolding after_clean
settings_reset d level = reset_kept (λ (x : DeviceState). x.settings) d level refl

pub ring_emptied : (r left : RegionState) (t : TargetState) (u : UserState) (hand : List InHand) (d : DeviceState) (lists : List Taken) (level : ℕ) → StandsFor r t u hand d lists → d.blocked ≡ true → count_in_hand d ≡ 0 → left ≡ region_reset r → HasRing left u
ring_emptied r left t u hand d lists level k b n e =
    let a = made_answer d level b n in
    let long = (ring_reset r t d lists level (logged_by d level) k.sound k.represents.ring a).long in
    let size = (sound_after_reset d level k.sound).ring.size in
    ap (λ (x : RegionState). length x.front) e ∙ long ∙ ap data_start (size ∙ ap (λ (s : SettingsData). s.ring) (settings_reset d level) ∙ sym k.represents.side.ring)

pub pages_emptied : (r left : RegionState) (t : TargetState) (u : UserState) (hand : List InHand) (d : DeviceState) (lists : List Taken) (level : ℕ) → StandsFor r t u hand d lists → d.blocked ≡ true → count_in_hand d ≡ 0 → left ≡ region_reset r → HasPages left u
pages_emptied r left t u hand d lists level k b n e =
    let a = made_answer d level b n in
    ap (λ (x : RegionState). x.pages) e ∙ pages_reset r d level (logged_by d level) k.represents.pages a ∙ ap (λ (s : SettingsData). s.pages) (settings_reset d level) ∙ sym k.represents.side.pages

-- the mailbox is the device's, so no attach is refused
pub attaches : (r between left : RegionState) (t : TargetState) (u after : UserState) (hand : List InHand) (d : DeviceState) (lists : List Taken) (level : ℕ) (made : Bool) → StandsFor r t u hand d lists → d.blocked ≡ true → count_in_hand d ≡ 0 → between ≡ region_reset r →
    ResetsDevice between u made left after → made ≡ true
attaches r between left t u after hand d lists level made k b n e w = (w r t hand d lists level (logged_by d level) k (made_answer d level b n) e).0

pub reset_keeps : (r between left : RegionState) (t after : TargetState) (u user : UserState) (hand : List InHand) (b : Bool) (most : ℕ) (k : RingDevice) (level : ℕ) (made : Bool) → IsRing r t u hand b most k → k.state.blocked ≡ true → count_in_hand k.state ≡ 0 →
    after ≡ target_reset r t level → between ≡ region_reset r → ResetsDevice between u made left user → IsRing left after user hand true 0 (device_reset k level)
reset_keeps r between left t after u user hand b most k level made h blocked none e f w =
    let d : DeviceState = k.state in
    let n : ℕ = logged_by d level in
    let a = made_answer d level blocked none in
    let empty : hand ≡ [] = hand_reset u hand t.rows d k.lists level n a h.stands.represents.jobs in
    let lists : kept_lists (after_reset d level) k.lists ≡ [] = kept_reset d k.lists level n a in
    let p = (w r t hand d k.lists level n h.stands a f).1 in
    subst (λ (x : TargetState). IsRing left x user hand true 0 (device_reset k level)) (sym e)
    (subst (λ (xs : List InHand). IsRing left (target_reset r t level) user xs true 0 (device_reset k level)) (sym empty)
    (record {
      stands = subst (λ (ls : List Taken). StandsFor left (target_reset r t level) user [] (after_reset d level) ls) (sym lists)
          (record { sound = sound_after_reset d level h.stands.sound; owned = lists_reset d level n a; represents = p });
      attached = sym (by_reset (λ (x : DeviceState). x.attached ≡ true) d level n a refl);
      notes = subst (NotesShort 0) (sym (laid_reset d level n a)) tt;
      few = few_same d.accepted (after_reset d level).accepted (accepted_reset d level) h.few;
    }))

pub reset_answered : (r : RegionState) (t : TargetState) (u : UserState) (hand : List InHand) (b : Bool) (most : ℕ) (k : RingDevice) (level n : ℕ) → IsRing r t u hand b most k → k.state.blocked ≡ true → count_in_hand k.state ≡ 0 → n ≡ target_reset_answer r t level →
    reset.Reset n ≡ reset_answer k.state level
reset_answered r t u hand b most k level n h blocked none e =
    let a = made_answer k.state level blocked none in
    ap reset.Reset (e ∙ logged_reset r t k.state k.lists level (logged_by k.state level) (can_clean r t u hand k.state k.lists h.stands) a) ∙ sym a
