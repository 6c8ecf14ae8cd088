-- A respond on a region that stands for a device.
use Rattle.std.proofs.Common.{◌≡◌, ℕ, Bool, true, false, List, Option, Some, None, option_and_then, refl, sym, ap, ◌∙◌, subst}
use Rattle.std.specs.List.{list_any}
use Rattle.std.specs.Option.{is_some, option_map}
use Rattle.std.proofs.lemmas.Bool.{and_parts, false≢true}
use Rattle.tcmu_types.specs.Data.{ReplyData}
use Rattle.tcmu_types.proofs.Firsts.{first-passes}
use Rattle.tcmu_types.specs.Lists.{first_of}
use Rattle.tcmu_types.specs.declared.answer.Respond.{Respond}
use Rattle.tcmu_types.specs.declared.answer.Respond.TheVariants as respond
use Rattle.tcmu_model.specs.BlockLists.{Taken, kept_lists}
use Rattle.tcmu_model.specs.Device.{DeviceState}
use Rattle.tcmu_model.specs.Events.{after_respond, respond_answer}
use Rattle.tcmu_model.proofs.HoldersKept.{lists_responded}
use Rattle.tcmu_model.proofs.LaidAfter.{laid_responded}
use Rattle.tcmu_model.proofs.SoundRespond.{sound_after_respond}
use Rattle.tcmu_model.proofs.Unnamed.{respond_kept}
use Rattle.region_model.specs.HandSteps.{hand_has, hand_responded}
use Rattle.region_model.specs.Regions.{RegionState}
use Rattle.region_model.specs.Sides.{InHand, JobState, Parked, TargetState, UserState}
use Rattle.region_model.specs.UserSteps.{is_open_job}
use Rattle.ring_laws.specs.Handed.{is_answered}
use Rattle.ring_laws.specs.UserKept.{IsWholeJob}
use Rattle.ring_laws.proofs.jobs_in_hand.HandTells.{answered_handled, can_respond, not_handled, some_first}
use Rattle.ring_laws.proofs.responded.RespondsWhole.{job_open, job_whole}
use Rattle.user_lib.specs.OnDevice.{RespondsDevice, StandsFor}
use Rattle.ring_path.specs.Devices.{RingDevice, device_kept, device_responded}
use Rattle.ring_path.specs.Hands.{owed_at, with_its_reply}
use Rattle.ring_path.specs.Rings.{IsRing}
use Rattle.ring_path.proofs.InHands.{at_serial}
use Rattle.ring_path.proofs.Notes.{short_same}
use Rattle.ring_path.proofs.Standing.{few_same, kept_stands, stands_left}

attached_responded : (d : DeviceState) (s : ℕ) → (after_respond d s).attached ≡ d.attached
attached_responded d s = respond_kept (λ (x : DeviceState). x.attached) d s refl

pub accepted_responded : (d : DeviceState) (s : ℕ) → (after_respond d s).accepted ≡ d.accepted
accepted_responded d s = respond_kept (λ (x : DeviceState). x.accepted) d s refl

-- the job of a serial with its reply
abbrev pub replied_job : ℕ → JobState → ReplyData → InHand
replied_job s job reply = record { serial = s; job = job; reply = Some reply }

-- ==== what comes out of hand

reply_of : (o : Option ReplyData) → is_some o ≡ true → (r : ReplyData) × (o ≡ Some r)
reply_of None e = absurd (false≢true e)
reply_of (Some r) e = (r, refl)

answered_is : (s : ℕ) (hand : List InHand) (h : InHand) → first_of (is_answered s) hand ≡ Some h → (r : ReplyData) × (h.reply ≡ Some r) × (h.serial ≡ s)
answered_is s hand h f =
    let w : owed_at true s h ≡ true = first-passes (is_answered s) hand h f in
    let r = reply_of h.reply (and_parts (hand_has s h) (is_some h.reply) w).1 in
    (r.0, r.1, at_serial true s h w)

-- it is the first of its serial that has its reply
pub some_answered : (s : ℕ) (hand : List InHand) (p : Parked) → Some p ≡ option_and_then with_its_reply (first_of (is_answered s) hand) → first_of (is_answered s) hand ≡ Some (replied_job s p.job p.reply)
some_answered s hand p e = go (first_of (is_answered s) hand) refl
  where
    go : (o : Option InHand) → first_of (is_answered s) hand ≡ o → first_of (is_answered s) hand ≡ Some (replied_job s p.job p.reply)
    go None f = let z : Some p ≡ None = e ∙ ap (option_and_then with_its_reply) f in absurd (cc)
    go (Some h) f =
        let w = answered_is s hand h f in
        let q : Parked = record { job = h.job; reply = w.0 } in
        let z : Some p ≡ Some q = e ∙ ap (option_and_then with_its_reply) f ∙ ap (option_map (λ (r : ReplyData). let x : Parked = record { job = h.job; reply = r } in x)) w.1 in
        let y : p ≡ q = cc in
        let job : h.job ≡ p.job = sym (ap (λ (x : Parked). x.job) y) in
        let reply : h.reply ≡ Some p.reply = w.1 ∙ ap Some (sym (ap (λ (x : Parked). x.reply) y)) in
        f ∙ ap Some (same w.2 job reply)
      where
        same : {n n' : ℕ} {j j' : JobState} {o o' : Option ReplyData} → n ≡ n' → j ≡ j' → o ≡ o' → ◌≡◌ {A = InHand} (record { serial = n; job = j; reply = o }) (record { serial = n'; job = j'; reply = o' })
        same a b c = cc

pub none_answered : (s : ℕ) (hand : List InHand) → None ≡ option_and_then with_its_reply (first_of (is_answered s) hand) → list_any (is_answered s) hand ≡ false
none_answered s hand e = some_first (is_answered s) hand ∙ go (first_of (is_answered s) hand) refl
  where
    go : (o : Option InHand) → first_of (is_answered s) hand ≡ o → is_some (first_of (is_answered s) hand) ≡ false
    go None f = ap is_some f
    go (Some h) f =
        let w = answered_is s hand h f in
        let q : Parked = record { job = h.job; reply = w.0 } in
        let z : None ≡ Some q = e ∙ ap (option_and_then with_its_reply) f ∙ ap (option_map (λ (r : ReplyData). let x : Parked = record { job = h.job; reply = r } in x)) w.1 in
        absurd (cc)

pub any_answered : (s : ℕ) (hand : List InHand) (h : InHand) → first_of (is_answered s) hand ≡ Some h → list_any (is_answered s) hand ≡ true
any_answered s hand h f = some_first (is_answered s) hand ∙ ap is_some f

-- ==== what a respond asks for

pub job_is_open : (r : RegionState) (t : TargetState) (u : UserState) (hand : List InHand) (d : DeviceState) (lists : List Taken) (s : ℕ) (job : JobState) (reply : ReplyData) → StandsFor r t u hand d lists →
    first_of (is_answered s) hand ≡ Some (replied_job s job reply) → list_any (is_open_job job.id) u.jobs ≡ true
job_is_open r t u hand d lists s job reply k f =
    let p = k.represents in
    let c = can_respond r.front u hand t.rows d lists s (replied_job s job reply) reply k.sound k.owned p.ids p.jobs p.side f refl in
    job_open u t.rows d lists s c.0 (record { job = job; reply = reply }) c.1 c.2

pub job_is_whole : (r : RegionState) (t : TargetState) (u : UserState) (hand : List InHand) (d : DeviceState) (lists : List Taken) (s : ℕ) (job : JobState) (reply : ReplyData) → StandsFor r t u hand d lists →
    first_of (is_answered s) hand ≡ Some (replied_job s job reply) → IsWholeJob u job
job_is_whole r t u hand d lists s job reply k f =
    let p = k.represents in
    let c = can_respond r.front u hand t.rows d lists s (replied_job s job reply) reply k.sound k.owned p.ids p.jobs p.side f refl in
    job_whole u t.rows d lists s c.0 (record { job = job; reply = reply }) c.1 c.2 p.side

pub respond_keeps : (r left : RegionState) (t : TargetState) (u after : UserState) (hand hand' : List InHand) (b : Bool) (most : ℕ) (k : RingDevice) (s : ℕ) (job : JobState) (reply : ReplyData) (answer : Respond) → IsRing r t u hand b most k →
    first_of (is_answered s) hand ≡ Some (replied_job s job reply) → RespondsDevice r u job reply answer left after → hand' ≡ hand_responded hand s → IsRing left t after hand' b most (device_responded k s)
respond_keeps r left t u after hand hand' b most k s job reply answer h f w e =
    let d : DeviceState = k.state in
    subst (λ (xs : List InHand). IsRing left t after xs b most (device_responded k s)) (sym e)
    (record {
      stands = stands_left left t after (hand_responded hand s) (after_respond d s) k.lists (sound_after_respond d s h.stands.sound) (lists_responded d k.lists s h.stands.owned) (w t hand d k.lists s h.stands f).stands;
      attached = h.attached ∙ sym (attached_responded d s);
      notes = short_same most d.ring.laid (after_respond d s).ring.laid (laid_responded d s) h.notes;
      few = few_same d.accepted (after_respond d s).accepted (accepted_responded d s) h.few;
    })

-- ==== where no job of the serial has its reply

none_handled : (r : RegionState) (t : TargetState) (u : UserState) (hand : List InHand) (d : DeviceState) (lists : List Taken) (s : ℕ) → StandsFor r t u hand d lists → list_any (is_answered s) hand ≡ false → (respond_answer d s ≡ respond.NotHandled s) × (after_respond d s ≡ d)
none_handled r t u hand d lists s k n = not_handled d s (sym (answered_handled u hand t.rows d lists s k.sound k.represents.jobs) ∙ n)

pub refused_answer : (r : RegionState) (t : TargetState) (u : UserState) (hand : List InHand) (b : Bool) (most : ℕ) (k : RingDevice) (s : ℕ) → IsRing r t u hand b most k → list_any (is_answered s) hand ≡ false → respond.NotHandled s ≡ respond_answer k.state s
refused_answer r t u hand b most k s h n = sym (none_handled r t u hand k.state k.lists s h.stands n).0

pub refused_keeps : (r : RegionState) (t : TargetState) (u : UserState) (hand hand' : List InHand) (b : Bool) (most : ℕ) (k : RingDevice) (s : ℕ) → IsRing r t u hand b most k → list_any (is_answered s) hand ≡ false → hand' ≡ hand → IsRing r t u hand' b most (device_responded k s)
refused_keeps r t u hand hand' b most k s h n e =
    let same = (none_handled r t u hand k.state k.lists s h.stands n).1 in
    let kept : IsRing r t u hand b most (device_kept k) = record { stands = kept_stands r t u hand k.state k.lists h.stands; attached = h.attached; notes = h.notes; few = h.few } in
    subst (λ (xs : List InHand). IsRing r t u xs b most (device_responded k s)) (sym e)
    (subst (λ (d : DeviceState). IsRing r t u hand b most (record { state = d; lists = kept_lists d k.lists })) (sym same) kept)
