-- A note on task management, on a region that stands for a device.
use Rattle.std.proofs.Common.{◌≡◌, ℕ, ◌≤◌, ◌<◌, max, Bool, true, List, length, refl, sym, ap, ◌∙◌, subst, arith}
use Rattle.tcmu_types.specs.declared.answer.Tmr.{Tmr}
use Rattle.tcmu_types.specs.declared.answer.Tmr.TheVariants as tmr
use Rattle.tcmu_model.specs.BlockLists.{Taken, kept_lists}
use Rattle.tcmu_model.specs.Device.{DeviceState}
use Rattle.tcmu_model.specs.Events.{after_tmr, tmr_answer, tmr_length_of, with_note}
use Rattle.tcmu_model.specs.RingState.{Item}
use Rattle.tcmu_model.specs.RingState as ring
use Rattle.tcmu_model.specs.Sound.{IsSound}
use Rattle.tcmu_model.proofs.LaidAfter.{laid_noted}
use Rattle.tcmu_model.proofs.ListsRun.{lists_noted}
use Rattle.tcmu_model.proofs.SoundEvents.{sound_after_tmr}
use Rattle.tcmu_model.proofs.Unnamed.{tmr_kept}
use Rattle.region_model.specs.Regions.{RegionState}
use Rattle.region_model.specs.Sides.{InHand, TargetState, UserState}
use Rattle.region_model.specs.TargetSteps.{region_noted, target_noted, target_tmr_answer}
use Rattle.ring_laws.specs.Refused.{is_unnoted}
use Rattle.ring_laws.proofs.notes.Noted.{ring_noted, ids_noted, notes_noted, blocks_noted, jobs_noted, target_noted_keeps, side_noted, pages_noted, tmr_same, unnoted_same}
use Rattle.user_lib.specs.OnDevice.{StandsFor}
use Rattle.ring_path.specs.Devices.{RingDevice, device_noted}
use Rattle.ring_path.specs.Rings.{IsRing, NotesShort}
use Rattle.ring_path.proofs.Notes.{short_laid, short_more, short_same}
use Rattle.ring_path.proofs.Standing.{few_same, kept_stands, same_stands, stands_left}

attached_noted : (d : DeviceState) (type_ : ℕ) (ss : List ℕ) (a : Tmr) → (after_tmr d type_ ss a).attached ≡ d.attached
unfolding with_note
attached_noted d type_ ss a = tmr_kept (λ (x : DeviceState). x.attached) d type_ ss a refl

pub accepted_noted : (d : DeviceState) (type_ : ℕ) (ss : List ℕ) (a : Tmr) → (after_tmr d type_ ss a).accepted ≡ d.accepted
unfolding with_note
accepted_noted d type_ ss a = tmr_kept (λ (x : DeviceState). x.accepted) d type_ ss a refl

noted : (r : RegionState) (t : TargetState) (u : UserState) (hand : List InHand) (d : DeviceState) (lists : List Taken) (type_ : ℕ) (ss : List ℕ) → StandsFor r t u hand d lists → type_ < 256 → tmr_answer d ss ≡ tmr.Noted →
    StandsFor (region_noted r t type_ ss tmr.Noted) (target_noted t ss tmr.Noted) u hand (after_tmr d type_ ss tmr.Noted) (kept_lists (after_tmr d type_ ss tmr.Noted) lists)
noted r t u hand d lists type_ ss h byte e =
    let p = h.represents in
    let after : DeviceState = after_tmr d type_ ss tmr.Noted in
    stands_left (region_noted r t type_ ss tmr.Noted) (target_noted t ss tmr.Noted) u hand after lists (subst (λ (a : Tmr). IsSound (after_tmr d type_ ss a)) e (sound_after_tmr d type_ ss h.sound)) (lists_noted d lists type_ ss h.owned)
    (record {
      ring = ring_noted r t d lists type_ ss h.sound p.ring p.ids p.target e;
      ids = ids_noted r t d lists type_ ss h.sound p.ring p.ids p.target e;
      notes = notes_noted r t d lists type_ ss h.sound p.ring p.ids p.notes p.target byte e;
      blocks = blocks_noted r t d lists type_ ss p.blocks;
      jobs = jobs_noted u hand t d lists type_ ss h.sound p.jobs;
      target = target_noted_keeps t d lists type_ ss h.sound p.target;
      side = side_noted u d type_ ss h.sound p.side;
      pages = pages_noted r t d type_ ss p.pages;
    })

pub tmr_keeps : (r left : RegionState) (t after : TargetState) (u : UserState) (hand : List InHand) (b : Bool) (n m : ℕ) (k : RingDevice) (type_ : ℕ) (ss : List ℕ) (a : Tmr) → IsRing r t u hand b n k → type_ < 256 → m ≡ max n (length ss) →
    a ≡ target_tmr_answer t ss → after ≡ target_noted t ss a → left ≡ region_noted r t type_ ss a → IsRing left after u hand b m (device_noted k type_ ss a)
tmr_keeps r left t after u hand b n m k type_ ss a h byte most e f g =
    subst (λ (x : RegionState). IsRing x after u hand b m (device_noted k type_ ss a)) (sym g)
    (subst (λ (x : TargetState). IsRing (region_noted r t type_ ss a) x u hand b m (device_noted k type_ ss a)) (sym f) (go a (sym (e ∙ tmr_same r.front t k.state k.lists ss h.stands.sound h.stands.owned h.stands.represents.ring h.stands.represents.target))))
  where
    more : NotesShort m k.state.ring.laid
    more = short_more n m k.state.ring.laid (omega arith) h.notes

    same : (x : Tmr) → is_unnoted x ≡ true → IsRing (region_noted r t type_ ss x) (target_noted t ss x) u hand b m (device_noted k type_ ss x)
    same x y =
        let q = unnoted_same r t k.state type_ ss x y in
        let d : DeviceState = k.state in
        record {
          stands = subst (λ (z : DeviceState). StandsFor (region_noted r t type_ ss x) (target_noted t ss x) u hand z (kept_lists z k.lists)) (sym q.0)
              (same_stands r (region_noted r t type_ ss x) t (target_noted t ss x) u hand d d (kept_lists d k.lists) q.2 q.1 refl (kept_stands r t u hand d k.lists h.stands));
          attached = h.attached ∙ sym (attached_noted d type_ ss x);
          notes = short_same m d.ring.laid (after_tmr d type_ ss x).ring.laid (ap (λ (z : DeviceState). z.ring.laid) q.0) more;
          few = few_same d.accepted (after_tmr d type_ ss x).accepted (accepted_noted d type_ ss x) h.few;
        }

    go : (x : Tmr) → tmr_answer k.state ss ≡ x → IsRing (region_noted r t type_ ss x) (target_noted t ss x) u hand b m (device_noted k type_ ss x)
    go tmr.Noted q =
        let x : Item = record { len = tmr_length_of ss; laid = ring.Tmr type_ ss } in
        let most_named : length ss ≤ m = omega arith in
        record {
          stands = noted r t u hand k.state k.lists type_ ss h.stands byte q;
          attached = h.attached ∙ sym (attached_noted k.state type_ ss tmr.Noted);
          notes = subst (NotesShort m) (sym (laid_noted k.state type_ ss)) (short_laid m k.state.ring x more most_named);
          few = few_same k.state.accepted (after_tmr k.state type_ ss tmr.Noted).accepted (accepted_noted k.state type_ ss tmr.Noted) h.few;
        }
    go tmr.Off q = same tmr.Off refl
    go tmr.Busy q = same tmr.Busy refl
    go (tmr.Unknown s) q = same (tmr.Unknown s) refl
    go (tmr.FullRing need free) q = same (tmr.FullRing need free) refl

pub tmr_answered : (r : RegionState) (t : TargetState) (u : UserState) (hand : List InHand) (b : Bool) (n : ℕ) (k : RingDevice) (ss : List ℕ) (a : Tmr) → IsRing r t u hand b n k → a ≡ target_tmr_answer t ss → a ≡ tmr_answer k.state ss
tmr_answered r t u hand b n k ss a h e = e ∙ tmr_same r.front t k.state k.lists ss h.stands.sound h.stands.owned h.stands.represents.ring h.stands.represents.target
