-- An enter on a region that stands for a device.
use Rattle.std.proofs.Common.{◌≡◌, ℕ, Bool, true, List, [], ◌∷◌, refl, sym, ap, ◌∙◌, subst}
use Rattle.tcmu_types.specs.Events as ev
use Rattle.tcmu_types.specs.declared.answer.Enter.{Enter}
use Rattle.tcmu_types.specs.declared.answer.Enter.TheVariants as enter
use Rattle.tcmu_model.specs.BlockLists.{Taken, kept_lists, lists_after, with_taken}
use Rattle.tcmu_model.specs.Device.{Delayed, DeviceState}
use Rattle.tcmu_model.specs.Events.{after_enter, enter_answer, entered_or_full, entry_length_in, with_command}
use Rattle.tcmu_model.specs.RingState.{Cmd, Item}
use Rattle.tcmu_model.specs.Sound.{IsSound}
use Rattle.tcmu_model.proofs.LaidAfter.{laid_entered}
use Rattle.tcmu_model.proofs.ListsLaid.{lists_entered}
use Rattle.tcmu_model.proofs.SoundSubmit.{sound_after_enter}
use Rattle.tcmu_model.proofs.Unnamed.{enter_kept}
use Rattle.region_model.specs.Regions.{RegionState}
use Rattle.region_model.specs.Sides.{InHand, TargetState, UserState}
use Rattle.region_model.specs.TargetSteps.{region_entered, target_enter_answer, target_entered}
use Rattle.ring_laws.specs.Calls.{IsFreeId}
use Rattle.ring_laws.specs.Refused.{enters_none}
use Rattle.ring_laws.specs.Sizes.{IsSized}
use Rattle.ring_laws.proofs.answers.TargetAnswers.{enter_same}
use Rattle.ring_laws.proofs.entered.Entered.{serial_entered, ring_entered, ids_entered, notes_entered, blocks_entered, jobs_entered, target_entered_keeps, side_entered, pages_entered}
use Rattle.ring_laws.proofs.refused.RefusedSame.{entered_none_same}
use Rattle.target_side.specs.Submits.{Entered}
use Rattle.user_lib.specs.OnDevice.{StandsFor}
use Rattle.ring_path.specs.Devices.{RingDevice, device_entered}
use Rattle.ring_path.specs.Rings.{IsRing, NotesShort}
use Rattle.ring_path.proofs.Notes.{short_laid, short_same}
use Rattle.ring_path.proofs.Standing.{few_same, kept_stands, same_stands}

attached_entered : (d : DeviceState) (a : Enter) → (after_enter d a).attached ≡ d.attached
unfolding with_command
attached_entered d a = enter_kept (λ (x : DeviceState). x.attached) d a (λ w ws. refl)

pub accepted_entered : (d : DeviceState) (a : Enter) → (after_enter d a).accepted ≡ d.accepted
unfolding with_command
accepted_entered d a = enter_kept (λ (x : DeviceState). x.accepted) d a (λ w ws. refl)

-- where a command enters one was delayed
entering : (d : DeviceState) (s : ℕ) → enter_answer d ≡ enter.Entered s → (w : Delayed) × (ws : List Delayed) × (d.delayed ≡ w ∷ ws)
unfolding enter_answer
entering d s e = go d.delayed refl
  where
    go : (ws : List Delayed) → d.delayed ≡ ws → (w : Delayed) × (rest : List Delayed) × (d.delayed ≡ w ∷ rest)
    go [] q = let f : entered_or_full d [] ≡ enter.Entered s = ap (entered_or_full d) (sym q) ∙ e in absurd (cc)
    go (w ∷ ws) q = (w, ws, q)

entered : (r : RegionState) (t : TargetState) (u : UserState) (hand : List InHand) (d : DeviceState) (lists : List Taken) (w : Delayed) (ws : List Delayed) (s id : ℕ) → StandsFor r t u hand d lists → IsSized r → d.delayed ≡ w ∷ ws →
    enter_answer d ≡ enter.Entered s → IsFreeId t id →
    StandsFor (region_entered r t id (enter.Entered s)) (target_entered t id (enter.Entered s)) u hand (after_enter d (enter.Entered s)) (with_taken d lists w.serial w.command)
entered r t u hand d lists w ws s id h z q e f =
    let p = h.represents in
    record {
      sound = subst (λ (a : Enter). IsSound (after_enter d a)) e (sound_after_enter d h.sound);
      owned = lists_entered d lists w ws s h.sound h.owned q e;
      represents = record {
        ring = ring_entered r t d lists w ws s id h.sound h.owned p.ring p.target f.range q e;
        ids = ids_entered r t d lists w ws s id h.sound h.owned p.ring p.ids p.target f.range f.free q e;
        notes = notes_entered r t d lists w ws s id h.sound h.owned p.ring p.notes p.target f.range q e;
        blocks = blocks_entered r t d lists w ws s id h.sound h.owned z p.pages p.blocks p.target q e;
        jobs = jobs_entered u hand t d lists w ws s id h.sound h.owned p.jobs p.target q e;
        target = target_entered_keeps t d lists w ws s id h.sound h.owned p.target q e;
        side = side_entered u d w ws s h.sound p.side q;
        pages = pages_entered r t d lists w ws s id p.target q p.pages;
      };
    }

-- the lists behind an enter
lists_of : (d : DeviceState) (lists : List Taken) (w : Delayed) (ws : List Delayed) (s : ℕ) (after : DeviceState) → d.delayed ≡ w ∷ ws → s ≡ w.serial → with_taken d lists w.serial w.command ≡ lists_after d lists ev.Enter (ev.Entered (enter.Entered s)) after
lists_of d lists w ws s after q e = go d.delayed q
  where
    go : (xs : List Delayed) → xs ≡ w ∷ ws → with_taken d lists w.serial w.command ≡ elim xs as (λ y. List Taken) [ [] ↦ lists | v ∷ vs ↦ with_taken d lists s v.command ]
    go [] p = absurd (cc)
    go (v ∷ vs) p = let same : w ≡ v = cc in ap (λ (x : Delayed). with_taken d lists w.serial x.command) same ∙ ap (λ (n : ℕ). with_taken d lists n v.command) (sym e)

pub enter_keeps : (r left : RegionState) (t after : TargetState) (u : UserState) (hand : List InHand) (b : Bool) (n : ℕ) (k : RingDevice) (a : Enter) → IsRing r t u hand b n k → IsSized r →
    a ≡ target_enter_answer t → Entered r t a left after → IsRing left after u hand b n (device_entered k a)
enter_keeps r left t after u hand b n k a h z e s =
    subst (λ (x : RegionState). IsRing x after u hand b n (device_entered k a)) (sym s.region)
    (subst (λ (x : TargetState). IsRing (region_entered r t s.id a) x u hand b n (device_entered k a)) (sym s.target) (go a s.free (sym (e ∙ enter_same r.front t k.state k.lists h.stands.sound h.stands.owned h.stands.represents.ring h.stands.represents.target))))
  where
    same : (x : Enter) → enters_none x ≡ true → IsRing (region_entered r t s.id x) (target_entered t s.id x) u hand b n (record { state = after_enter k.state x; lists = kept_lists (after_enter k.state x) k.lists })
    same x f =
        let q = entered_none_same r t k.state s.id x f in
        let d : DeviceState = k.state in
        record {
          stands = subst (λ (y : DeviceState). StandsFor (region_entered r t s.id x) (target_entered t s.id x) u hand y (kept_lists y k.lists)) (sym q.0)
              (same_stands r (region_entered r t s.id x) t (target_entered t s.id x) u hand d d (kept_lists d k.lists) q.2 q.1 refl (kept_stands r t u hand d k.lists h.stands));
          attached = h.attached ∙ sym (attached_entered d x);
          notes = short_same n d.ring.laid (after_enter d x).ring.laid (ap (λ (y : DeviceState). y.ring.laid) q.0) h.notes;
          few = few_same d.accepted (after_enter d x).accepted (accepted_entered d x) h.few;
        }

    go : (x : Enter) → ((m : ℕ) → x ≡ enter.Entered m → IsFreeId t s.id) → enter_answer k.state ≡ x → IsRing (region_entered r t s.id x) (target_entered t s.id x) u hand b n (device_entered k x)
    go (enter.Entered m) f q =
        let d : DeviceState = k.state in
        let y = entering d m q in
        let x : Item = record { len = entry_length_in d y.0.command; laid = Cmd y.0.serial y.0.command } in
        record {
          stands = subst (StandsFor (region_entered r t s.id (enter.Entered m)) (target_entered t s.id (enter.Entered m)) u hand (after_enter d (enter.Entered m))) (lists_of d k.lists y.0 y.1 m (after_enter d (enter.Entered m)) y.2 (serial_entered d y.0 y.1 m h.stands.sound y.2 q))
              (entered r t u hand d k.lists y.0 y.1 m s.id h.stands z y.2 q (f m refl));
          attached = h.attached ∙ sym (attached_entered d (enter.Entered m));
          notes = subst (NotesShort n) (sym (laid_entered d y.0 y.1 m y.2)) (short_laid n d.ring x h.notes tt);
          few = few_same d.accepted (after_enter d (enter.Entered m)).accepted (accepted_entered d (enter.Entered m)) h.few;
        }
    go enter.Empty f q = same enter.Empty refl
    go (enter.FullRing need free) f q = same (enter.FullRing need free) refl
    go (enter.FullBlocks need free) f q = same (enter.FullBlocks need free) refl

pub enter_answered : (r : RegionState) (t : TargetState) (u : UserState) (hand : List InHand) (b : Bool) (n : ℕ) (k : RingDevice) (a : Enter) → IsRing r t u hand b n k → a ≡ target_enter_answer t → a ≡ enter_answer k.state
enter_answered r t u hand b n k a h e = e ∙ enter_same r.front t k.state k.lists h.stands.sound h.stands.owned h.stands.represents.ring h.stands.represents.target
