-- A submit on a region that stands for a device.
use Rattle.std.proofs.Common.{◌≡◌, ℕ, ◌+◌, ◌^◌, ◌<◌, ◌≤◌, Bool, true, List, refl, sym, ap, ◌∙◌, subst, arith}
use Rattle.tcmu_types.specs.Data.{CommandData}
use Rattle.tcmu_types.specs.Rules.{IsCommand}
use Rattle.tcmu_types.specs.declared.answer.Submit.{Submit}
use Rattle.tcmu_types.specs.declared.answer.Submit.TheVariants as submit
use Rattle.tcmu_model.specs.BlockLists.{Taken, kept_lists, with_taken}
use Rattle.tcmu_model.specs.Device.{DeviceState}
use Rattle.tcmu_model.specs.RingState.{Cmd, Item}
use Rattle.tcmu_model.specs.Events.{after_submit, entry_length_in, submit_answer, with_command, with_delayed}
use Rattle.tcmu_model.specs.Sound.{IsSound}
use Rattle.tcmu_model.proofs.HoldersKept.{lists_delayed}
use Rattle.tcmu_model.proofs.LaidAfter.{laid_delayed, laid_queued}
use Rattle.tcmu_model.proofs.ListsLaid.{lists_submitted}
use Rattle.tcmu_model.proofs.SoundSubmit.{sound_after_submit}
use Rattle.region_model.specs.Regions.{RegionState}
use Rattle.region_model.specs.Sides.{InHand, TargetState, UserState}
use Rattle.region_model.specs.TargetSteps.{region_submitted, target_submit_answer, target_submitted}
use Rattle.ring_laws.specs.Calls.{IsFreeId}
use Rattle.ring_laws.specs.Refused.{is_refusal}
use Rattle.ring_laws.specs.Sizes.{IsSized}
use Rattle.ring_laws.proofs.answers.TargetAnswers.{submit_same}
use Rattle.ring_laws.proofs.delayed.DelayedKept.{ring_delayed, ids_delayed, notes_delayed, blocks_delayed, jobs_delayed, target_delayed, side_delayed, pages_delayed}
use Rattle.ring_laws.proofs.refused.RefusedSame.{refused_same}
use Rattle.ring_laws.proofs.submitted.Submitted.{ring_submitted, ids_submitted, notes_submitted, blocks_submitted, jobs_submitted, target_submitted_keeps, side_submitted, pages_submitted}
use Rattle.target_side.specs.Submits.{Submitted}
use Rattle.user_lib.specs.OnDevice.{StandsFor}
use Rattle.ring_path.specs.Devices.{RingDevice, device_submitted}
use Rattle.ring_path.specs.Rings.{IsRing, NotesShort}
use Rattle.ring_path.proofs.Notes.{short_laid, short_same}
use Rattle.ring_path.proofs.Standing.{kept_stands, same_stands, stands_left}

attached_submitted : (d : DeviceState) (c : CommandData) (a : Submit) → (after_submit d c a).attached ≡ d.attached
unfolding after_submit with_command with_delayed
attached_submitted d c (submit.Queued s) = refl
attached_submitted d c (submit.Delayed s) = refl
attached_submitted d c submit.Busy = refl
attached_submitted d c (submit.TooBig have limit) = refl
attached_submitted d c (submit.FullRing need free) = refl
attached_submitted d c (submit.FullBlocks need free) = refl

-- at most one command is accepted
pub record AcceptsOne (d after : DeviceState) : Type 0 where
  pub least : d.accepted ≤ after.accepted
  pub most : after.accepted ≤ d.accepted + 1

pub accepts_one : (d : DeviceState) (c : CommandData) (a : Submit) → AcceptsOne d (after_submit d c a)
unfolding after_submit with_command with_delayed
accepts_one d c (submit.Queued s) = record { least = omega arith; most = omega arith }
accepts_one d c (submit.Delayed s) = record { least = omega arith; most = omega arith }
accepts_one d c submit.Busy = record { least = omega arith; most = omega arith }
accepts_one d c (submit.TooBig have limit) = record { least = omega arith; most = omega arith }
accepts_one d c (submit.FullRing need free) = record { least = omega arith; most = omega arith }
accepts_one d c (submit.FullBlocks need free) = record { least = omega arith; most = omega arith }

-- ==== what stands

queued : (r : RegionState) (t : TargetState) (u : UserState) (hand : List InHand) (d : DeviceState) (lists : List Taken) (c : CommandData) (s id : ℕ) → StandsFor r t u hand d lists → IsSized r → IsCommand c →
    submit_answer d c ≡ submit.Queued s → IsFreeId t id →
    StandsFor (region_submitted r t c id (submit.Queued s)) (target_submitted t c id (submit.Queued s)) u hand (after_submit d c (submit.Queued s)) (with_taken d lists s c)
queued r t u hand d lists c s id h z w e f =
    let p = h.represents in
    record {
      sound = subst (λ (a : Submit). IsSound (after_submit d c a)) e (sound_after_submit d c h.sound w);
      owned = lists_submitted d lists s c h.sound h.owned e;
      represents = record {
        ring = ring_submitted r t d lists s c id h.sound h.owned p.ring p.target f.range e;
        ids = ids_submitted r t d lists s c id h.sound h.owned p.ring p.ids p.target f.range f.free e;
        notes = notes_submitted r t d lists s c id h.sound h.owned p.ring p.notes p.target f.range e;
        blocks = blocks_submitted r t d lists s c id h.sound h.owned z p.pages p.blocks p.target e;
        jobs = jobs_submitted u hand t d lists s c id h.sound h.owned p.jobs e;
        target = target_submitted_keeps t d lists s c id h.sound h.owned p.target e;
        side = side_submitted u d s c h.sound p.side;
        pages = pages_submitted r t d s c id p.pages;
      };
    }

delayed : (r : RegionState) (t : TargetState) (u : UserState) (hand : List InHand) (d : DeviceState) (lists : List Taken) (c : CommandData) (s id : ℕ) → StandsFor r t u hand d lists → IsCommand c → submit_answer d c ≡ submit.Delayed s →
    StandsFor (region_submitted r t c id (submit.Delayed s)) (target_submitted t c id (submit.Delayed s)) u hand (after_submit d c (submit.Delayed s)) (kept_lists (after_submit d c (submit.Delayed s)) lists)
unfolding region_submitted target_submitted
delayed r t u hand d lists c s id h w e =
    let p = h.represents in
    let after : DeviceState = after_submit d c (submit.Delayed s) in
    stands_left r (target_submitted t c id (submit.Delayed s)) u hand after lists (subst (λ (a : Submit). IsSound (after_submit d c a)) e (sound_after_submit d c h.sound w)) (lists_delayed d lists c s h.owned)
    (record {
      ring = ring_delayed r.front t.items d lists c s p.ring;
      ids = ids_delayed r.front t.rows d c s p.ids;
      notes = notes_delayed r.front t.rows d c s p.notes;
      blocks = blocks_delayed r.blocks d lists c s p.blocks;
      jobs = jobs_delayed u hand t.rows d lists c s p.jobs;
      target = target_delayed t d lists c s id p.target;
      side = side_delayed u d c s p.side;
      pages = pages_delayed r d c s p.pages;
    })

-- ==== the ring

-- a submit keeps all of it, whatever it answers
pub submit_kept : (r left : RegionState) (t after : TargetState) (u : UserState) (hand : List InHand) (b : Bool) (n : ℕ) (k : RingDevice) (c : CommandData) (a : Submit) → IsRing r t u hand b n k → k.state.accepted < 2 ^ 63 → IsSized r → IsCommand c →
    a ≡ target_submit_answer t c → Submitted r t c a left after → IsRing left after u hand b n (device_submitted k c a)
submit_kept r left t after u hand b n k c a h low z w e s =
    subst (λ (x : RegionState). IsRing x after u hand b n (device_submitted k c a)) (sym s.region)
    (subst (λ (x : TargetState). IsRing (region_submitted r t c s.id a) x u hand b n (device_submitted k c a)) (sym s.target) (go a s.free (sym (e ∙ submit_same r.front t k.state k.lists c h.stands.sound h.stands.owned h.stands.represents.ring h.stands.represents.target))))
  where
    few_after : (x : Submit) → (after_submit k.state c x).accepted ≤ 2 ^ 63
    few_after x = let one = (accepts_one k.state c x).most in omega (arith, one, low)

    same : (x : Submit) → is_refusal x ≡ true → IsRing (region_submitted r t c s.id x) (target_submitted t c s.id x) u hand b n (record { state = after_submit k.state c x; lists = kept_lists (after_submit k.state c x) k.lists })
    same x f =
        let q = refused_same r t k.state c s.id x f in
        let d : DeviceState = k.state in
        record {
          stands = subst (λ (y : DeviceState). StandsFor (region_submitted r t c s.id x) (target_submitted t c s.id x) u hand y (kept_lists y k.lists)) (sym q.0)
              (same_stands r (region_submitted r t c s.id x) t (target_submitted t c s.id x) u hand d d (kept_lists d k.lists) q.2 q.1 refl (kept_stands r t u hand d k.lists h.stands));
          attached = h.attached ∙ sym (attached_submitted d c x);
          notes = short_same n d.ring.laid (after_submit d c x).ring.laid (ap (λ (y : DeviceState). y.ring.laid) q.0) h.notes;
          few = few_after x;
        }

    go : (x : Submit) → ((m : ℕ) → x ≡ submit.Queued m → IsFreeId t s.id) → submit_answer k.state c ≡ x → IsRing (region_submitted r t c s.id x) (target_submitted t c s.id x) u hand b n (device_submitted k c x)
    go (submit.Queued m) f q =
        let x : Item = record { len = entry_length_in k.state c; laid = Cmd m c } in
        record {
          stands = queued r t u hand k.state k.lists c m s.id h.stands z w q (f m refl);
          attached = h.attached ∙ sym (attached_submitted k.state c (submit.Queued m));
          notes = subst (NotesShort n) (sym (laid_queued k.state c m)) (short_laid n k.state.ring x h.notes tt);
          few = few_after (submit.Queued m);
        }
    go (submit.Delayed m) f q =
        record {
          stands = delayed r t u hand k.state k.lists c m s.id h.stands w q;
          attached = h.attached ∙ sym (attached_submitted k.state c (submit.Delayed m));
          notes = short_same n k.state.ring.laid (after_submit k.state c (submit.Delayed m)).ring.laid (laid_delayed k.state c m) h.notes;
          few = few_after (submit.Delayed m);
        }
    go submit.Busy f q = same submit.Busy refl
    go (submit.TooBig have limit) f q = same (submit.TooBig have limit) refl
    go (submit.FullRing need free) f q = same (submit.FullRing need free) refl
    go (submit.FullBlocks need free) f q = same (submit.FullBlocks need free) refl

pub submit_answered : (r : RegionState) (t : TargetState) (u : UserState) (hand : List InHand) (b : Bool) (n : ℕ) (k : RingDevice) (c : CommandData) (a : Submit) → IsRing r t u hand b n k → a ≡ target_submit_answer t c → a ≡ submit_answer k.state c
submit_answered r t u hand b n k c a h e = e ∙ submit_same r.front t k.state k.lists c h.stands.sound h.stands.owned h.stands.represents.ring h.stands.represents.target
