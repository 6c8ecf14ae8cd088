-- A handler's request and its reply, on a region that stands for a device.
use Rattle.std.proofs.Common.{◌≡◌, ℕ, ◌≤◌, ◌==◌, Bool, true, false, cond, List, [], length, take, map, Option, Some, None, IsSome, refl, sym, ap, ◌∙◌, subst, ⊎_elim}
use Rattle.std.specs.List.{list_any}
use Rattle.std.specs.Option.{is_some}
use Rattle.std.proofs.lemmas.Bool.{and_parts, cases_Bool, eqb-true, false≢true}
use Rattle.tcmu_types.specs.Data.{ReplyData}
use Rattle.tcmu_types.proofs.Firsts.{first-passes}
use Rattle.tcmu_types.specs.Lists.{first_of}
use Rattle.tcmu_types.specs.Rules.{IsReply, takes_payload}
use Rattle.tcmu_types.specs.Numbers.{Differ}
use Rattle.tcmu_types.proofs.Everies.{every-first}
use Rattle.tcmu_types.proofs.Rises.{rise_differ}
use Rattle.tcmu_model.specs.declared.state.CommandState.TheVariants.{Out}
use Rattle.tcmu_model.specs.BlockLists.{Taken}
use Rattle.tcmu_model.specs.Device.{DeviceState, Unfinished, has_serial, is_at}
use Rattle.tcmu_model.specs.Events.{after_handle, command_out}
use Rattle.tcmu_model.specs.Owned.{ListsSound}
use Rattle.tcmu_model.specs.Sound.{IsSound}
use Rattle.tcmu_model.specs.States.{same_state}
use Rattle.tcmu_model.specs.Steps.{Asked}
use Rattle.tcmu_model.proofs.Basics.{rows_rise}
use Rattle.tcmu_model.proofs.HoldersKept.{lists_handled}
use Rattle.tcmu_model.proofs.LaidAfter.{laid_handled}
use Rattle.tcmu_model.proofs.SentNone.{sent_none}
use Rattle.tcmu_model.proofs.SoundTurning.{sound_after_handle}
use Rattle.region_model.specs.HandSteps.{hand_answered}
use Rattle.region_model.specs.Iovecs.{gathered}
use Rattle.region_model.specs.Regions.{RegionState}
use Rattle.region_model.specs.Represents.{IsJobOf}
use Rattle.region_model.specs.Sides.{InHand, JobState, TargetState, UserState}
use Rattle.region_model.specs.UserNext.{data_length}
use Rattle.ring_laws.specs.Handed.{is_asked}
use Rattle.ring_laws.proofs.handled.HandledJobs.{jobs_handled}
use Rattle.ring_laws.proofs.handled.HandledKept.{ring_handled, ids_handled, notes_handled, blocks_handled, target_handled, side_handled, pages_handled}
use Rattle.ring_laws.proofs.jobs_in_hand.HandTells.{asked_data, asked_out, job_asked, some_first}
use Rattle.ring_laws.proofs.placed.AnswerBytes.{found-serial}
use Rattle.tcmu_path.specs.Requests.{IsRequest}
use Rattle.user_lib.specs.OnDevice.{StandsFor}
use Rattle.ring_path.specs.Devices.{RingDevice, device_handled, device_kept}
use Rattle.ring_path.specs.Requested.{HasData, data_in_blocks, data_sent}
use Rattle.ring_path.specs.Rings.{IsRing}
use Rattle.ring_path.proofs.Notes.{short_same}
use Rattle.ring_path.proofs.Standing.{few_same, kept_stands, stands_left}

-- the one that is out is the one of its serial
out_found : (d : DeviceState) (s : ℕ) (u : Unfinished) → IsSound d → command_out d s ≡ Some u → first_of (has_serial u.serial) d.unfinished ≡ Some u
out_found d s u sound f =
    let w : is_at s Out u ≡ true = first-passes (is_at s Out) d.unfinished u f in
    let x : u.serial ≡ s = eqb-true u.serial s (and_parts (u.serial == s) (same_state u.state Out) w).0 in
    let differ : Differ (map (λ (v : Unfinished). v.serial) d.unfinished) = rise_differ 0 (map (λ (v : Unfinished). v.serial) d.unfinished) d.accepted (rows_rise d sound.serials) in
    subst (λ (n : ℕ). first_of (has_serial n) d.unfinished ≡ Some u) (sym x) (found-serial s Out d.unfinished u differ f)

-- ==== the request

-- the job's bytes are what was sent
data_is : (t : TargetState) (d : DeviceState) (lists : List Taken) (s : ℕ) (u : Unfinished) (job : JobState) (parts : List (List ℕ)) → IsSound d → ListsSound d lists → command_out d s ≡ Some u → IsJobOf d.settings t.rows lists u job parts → data_sent job ≡ u.command.sent
data_is t d lists s u job parts sound owned f j =
    let g = out_found d s u sound f in
    let blocks : data_in_blocks (data_length job.iovs) job.carried ≡ take (data_length job.iovs) (gathered parts) = ap (data_in_blocks (data_length job.iovs)) j.carried in
    ap (λ (b : Bool). cond b (data_in_blocks (data_length job.iovs) job.carried) []) (ap takes_payload j.cdb) ∙
    ⊎_elim
    (λ (y : takes_payload u.command.cdb ≡ true). rw y (blocks ∙ asked_data t.rows d lists u job parts sound owned g y j))
    (λ (n : takes_payload u.command.cdb ≡ false). rw n (sym (every-first (has_serial u.serial) (λ (v : Unfinished). takes_payload v.command.cdb ≡ false → v.command.sent ≡ []) d.unfinished u (sent_none d sound) g n)))
    (cases_Bool (takes_payload u.command.cdb))

pub has_data : (r : RegionState) (t : TargetState) (u : UserState) (hand : List InHand) (d : DeviceState) (lists : List Taken) (s : ℕ) (h : InHand) → StandsFor r t u hand d lists → first_of (is_asked s) hand ≡ Some h → HasData h.job
has_data r t u hand d lists s h k f = let j = job_asked u hand t.rows d lists s h k.sound k.represents.jobs f in (j.2, j.3.carried)

pub is_request : (r : RegionState) (t : TargetState) (u : UserState) (hand : List InHand) (d : DeviceState) (lists : List Taken) (s : ℕ) (h : InHand) (cdb sent : List ℕ) (in_len : ℕ) → StandsFor r t u hand d lists → first_of (is_asked s) hand ≡ Some h →
    cdb ≡ h.job.cdb → sent ≡ data_sent h.job → in_len ≡ h.job.in_len → IsRequest d s (record { cdb = cdb; sent = sent; in_len = in_len })
is_request r t u hand d lists s h cdb sent in_len k f a b c =
    let j = job_asked u hand t.rows d lists s h k.sound k.represents.jobs f in
    let e1 : cdb ≡ j.0.command.cdb = a ∙ j.3.cdb in
    let e2 : sent ≡ j.0.command.sent = b ∙ data_is t d lists s j.0 h.job j.2 k.sound k.owned j.1 j.3 in
    let e3 : in_len ≡ j.0.command.in_len = c ∙ j.3.in_len in
    record { command = j.0; found = j.1; asks = same e1 e2 e3 }
  where
    same : {x x' y y' : List ℕ} {z z' : ℕ} → x ≡ x' → y ≡ y' → z ≡ z' → ◌≡◌ {A = Asked} (record { cdb = x; sent = y; in_len = z }) (record { cdb = x'; sent = y'; in_len = z' })
    same p q r = cc

-- none is out where no job is without its reply
pub none_out : (r : RegionState) (t : TargetState) (u : UserState) (hand : List InHand) (d : DeviceState) (lists : List Taken) (s : ℕ) → StandsFor r t u hand d lists → first_of (is_asked s) hand ≡ None → command_out d s ≡ None
none_out r t u hand d lists s k f =
    let e : is_some (command_out d s) ≡ false = sym (asked_out u hand t.rows d lists s k.sound k.represents.jobs) ∙ some_first (is_asked s) hand ∙ ap is_some f in
    go (command_out d s) e
  where
    go : (o : Option Unfinished) → is_some o ≡ false → o ≡ None
    go None e = refl
    go (Some v) e = absurd (false≢true (sym e))

-- ==== the reply

pub is_asked_for : (r : RegionState) (t : TargetState) (u : UserState) (hand : List InHand) (d : DeviceState) (lists : List Taken) (s : ℕ) → StandsFor r t u hand d lists → IsSome (command_out d s) → list_any (is_asked s) hand ≡ true
is_asked_for r t u hand d lists s k e = asked_out u hand t.rows d lists s k.sound k.represents.jobs ∙ e

pub reply_fits : (r : RegionState) (t : TargetState) (u : UserState) (hand : List InHand) (d : DeviceState) (lists : List Taken) (s n : ℕ) → StandsFor r t u hand d lists → ((v : Unfinished) → command_out d s ≡ Some v → n ≤ v.command.in_len) →
    (h : InHand) → first_of (is_asked s) hand ≡ Some h → n ≤ h.job.in_len
reply_fits r t u hand d lists s n k e h f = let j = job_asked u hand t.rows d lists s h k.sound k.represents.jobs f in subst (λ (x : ℕ). n ≤ x) (sym j.3.in_len) (e j.0 j.1)

attached_handled : (d : DeviceState) (s : ℕ) (reply : ReplyData) → (after_handle d s reply).attached ≡ d.attached
unfolding after_handle
attached_handled d s reply = refl

pub accepted_handled : (d : DeviceState) (s : ℕ) (reply : ReplyData) → (after_handle d s reply).accepted ≡ d.accepted
unfolding after_handle
accepted_handled d s reply = refl

pub handle_keeps : (r : RegionState) (t : TargetState) (u : UserState) (hand hand' : List InHand) (b : Bool) (most : ℕ) (k : RingDevice) (s : ℕ) (reply : ReplyData) → IsRing r t u hand b most k → IsReply reply → IsSome (command_out k.state s) →
    ((v : Unfinished) → command_out k.state s ≡ Some v → length reply.payload ≤ v.command.in_len) → hand' ≡ hand_answered hand s reply → IsRing r t u hand' b most (device_handled k s reply)
handle_keeps r t u hand hand' b most k s reply h rules there fits e =
    subst (λ (xs : List InHand). IsRing r t u xs b most (device_handled k s reply)) (sym e) (go (command_out k.state s) refl)
  where
    go : (o : Option Unfinished) → command_out k.state s ≡ o → IsRing r t u (hand_answered hand s reply) b most (device_handled k s reply)
    go None f = absurd (false≢true (sym (ap is_some f) ∙ there))
    go (Some v) f =
        let d : DeviceState = k.state in
        let p = h.stands.represents in
        record {
          stands = stands_left r t u (hand_answered hand s reply) (after_handle d s reply) k.lists (sound_after_handle d s reply v h.stands.sound f (record { rules = rules; payload = fits v f })) (lists_handled d k.lists s reply h.stands.owned)
              (record {
                ring = ring_handled r.front t.items d k.lists s v reply h.stands.sound f p.ring;
                ids = ids_handled r.front t.rows d s reply p.ids;
                notes = notes_handled r.front t.rows d s reply p.notes;
                blocks = blocks_handled r.blocks d k.lists s reply p.blocks;
                jobs = jobs_handled u hand t.rows d k.lists s v reply h.stands.sound f p.jobs;
                target = target_handled t d k.lists s reply p.target;
                side = side_handled u d s reply p.side;
                pages = pages_handled r d s reply p.pages;
              });
          attached = h.attached ∙ sym (attached_handled d s reply);
          notes = short_same most d.ring.laid (after_handle d s reply).ring.laid (laid_handled d s reply) h.notes;
          few = few_same d.accepted (after_handle d s reply).accepted (accepted_handled d s reply) h.few;
        }

-- where no job was asked for, the lists are those that are kept
pub stay_keeps : (r : RegionState) (t : TargetState) (u : UserState) (hand : List InHand) (b : Bool) (most : ℕ) (k : RingDevice) → IsRing r t u hand b most k → IsRing r t u hand b most (device_kept k)
stay_keeps r t u hand b most k h = record { stands = kept_stands r t u hand k.state k.lists h.stands; attached = h.attached; notes = h.notes; few = h.few }
