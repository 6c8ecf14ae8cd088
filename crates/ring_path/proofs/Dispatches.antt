-- A dispatch on a region that stands for a device.
use Rattle.std.proofs.Common.{◌≡◌, ℕ, suc, ◌≤◌, ◌==◌, Bool, true, false, List, [], ◌∷◌, length, map, filter, Option, Some, None, IsSome, refl, sym, ap, ◌∙◌, subst, arith, ⊎_elim}
use Rattle.std.specs.Option.{is_some}
use Rattle.std.proofs.lemmas.Bool.{and_parts, cases_Bool, eqb-true}
use Rattle.tcmu_types.specs.Data.{Spared}
use Rattle.tcmu_types.specs.Events.{DispatchData}
use Rattle.tcmu_types.specs.Events as device
use Rattle.tcmu_types.proofs.Firsts.{first-passes}
use Rattle.tcmu_types.specs.Lists.{Every}
use Rattle.tcmu_types.specs.Numbers.{Differ, IsRising}
use Rattle.tcmu_types.specs.Views.{dispatch_data}
use Rattle.tcmu_types.specs.declared.answer.Dispatch.{Dispatch}
use Rattle.tcmu_types.proofs.Everies.{every_at}
use Rattle.tcmu_model.specs.declared.state.CommandState.TheVariants.{Out}
use Rattle.tcmu_model.specs.BlockLists.{Taken, kept_lists}
use Rattle.tcmu_model.specs.Device.{DeviceState, is_at}
use Rattle.tcmu_model.specs.Events.{after_dispatch, dispatch_answer, is_running, item_answer, next_item}
use Rattle.tcmu_model.specs.RingState.{Cmd, Item, Laid, Pad, Tmr, next_place}
use Rattle.tcmu_model.specs.States.{same_state}
use Rattle.tcmu_model.proofs.HoldersKept.{lists_dispatched}
use Rattle.tcmu_model.proofs.LaidAfter.{laid_dispatched}
use Rattle.tcmu_model.proofs.SoundTurning.{sound_after_dispatch}
use Rattle.tcmu_model.proofs.Unnamed.{dispatch_kept}
use Rattle.region_model.specs.Regions.{RegionState}
use Rattle.region_model.specs.Represents.{id_of, serial_with}
use Rattle.region_model.specs.Sides.{InHand, JobState, PendingRow, TargetState, UserState}
use Rattle.region_model.specs.UserNext.{Job}
use Rattle.ring_laws.specs.Dispatched.{AnswersDispatch, hand_dispatched}
use Rattle.ring_laws.proofs.jobs_in_hand.HandRises.{hand_rises}
use Rattle.ring_laws.proofs.notes.NoteIds.{serial_under}
use Rattle.user_lib.specs.OnDevice.{Dispatches}
use Rattle.user_lib.specs.Views.{next_data}
use Rattle.user_lib.specs.declared.next.Next.{Next}
use Rattle.user_lib.specs.declared.next.Next.TheVariants as next
use Rattle.ring_path.specs.Devices.{RingDevice, device_dispatched, device_kept}
use Rattle.ring_path.specs.Given.{CanBeGiven, IsGivenOut}
use Rattle.ring_path.specs.Hands.{serials_in_hand}
use Rattle.ring_path.specs.Rings.{IsRing, IsShort, NotesShort}
use Rattle.ring_path.proofs.Notes.{short_same}
use Rattle.ring_path.proofs.Standing.{few_same, kept_stands, stands_left}

attached_dispatched : (d : DeviceState) → (after_dispatch d).attached ≡ d.attached
attached_dispatched d = dispatch_kept (λ (x : DeviceState). x.attached) d (λ i. refl)

pub accepted_dispatched : (d : DeviceState) → (after_dispatch d).accepted ≡ d.accepted
accepted_dispatched d = dispatch_kept (λ (x : DeviceState). x.accepted) d (λ i. refl)

abbrev Ids : List PendingRow → List ℕ
Ids rows = map (λ (e : PendingRow). e.id) rows

-- ==== what is told of a job

-- a job's serial stands under its id
job_there : (rows : List PendingRow) (d : DeviceState) (lists : List Taken) (a : DispatchData) (job : JobState) → Differ (Ids rows) → AnswersDispatch rows d lists a (Job job) → (s : ℕ) × (serial_with rows job.id ≡ Some s)
job_there rows d lists (device.Job n) job f (u, parts, found, j) = (u.serial, serial_under rows u.serial job.id f j.id)
job_there rows d lists (device.Note n ss) job f g = absurd g
job_there rows d lists device.Nothing job f g = absurd g
job_there rows d lists device.Detached job f g = absurd g

-- it is the device's answer
job_told : (rows : List PendingRow) (d : DeviceState) (lists : List Taken) (a : DispatchData) (job : JobState) (s : ℕ) → Differ (Ids rows) → AnswersDispatch rows d lists a (Job job) → serial_with rows job.id ≡ Some s → a ≡ device.Job s
job_told rows d lists (device.Job n) job s f (u, parts, found, j) e =
    let q : Some u.serial ≡ Some s = sym (serial_under rows u.serial job.id f j.id) ∙ e in
    let w : is_at n Out u ≡ true = first-passes (is_at n Out) (after_dispatch d).unfinished u found in
    let x : u.serial ≡ n = eqb-true u.serial n (and_parts (u.serial == n) (same_state u.state Out) w).0 in
    let y : u.serial ≡ s = cc in
    ap device.Job (sym x ∙ y)
job_told rows d lists (device.Note n ss) job s f g e = absurd g
job_told rows d lists device.Nothing job s f g e = absurd g
job_told rows d lists device.Detached job s f g e = absurd g

-- ==== what is told of a note

-- the ids are those of the serials
abbrev Under : List PendingRow → List ℕ → List ℕ → Type 0
Under rows ids ss = map Some ids ≡ map (id_of rows) ss

note_count : (rows : List PendingRow) (ids ss : List ℕ) → Under rows ids ss → length ids ≡ length ss
note_count rows [] [] h = refl
note_count rows [] (s ∷ ss) h = absurd (cc)
note_count rows (id ∷ ids) [] h = absurd (cc)
note_count rows (id ∷ ids) (s ∷ ss) h =
    let rest : Under rows ids ss = cc in ap suc (note_count rows ids ss rest)

note_there : (rows : List PendingRow) (ids ss : List ℕ) → Differ (Ids rows) → Under rows ids ss → Every (λ id. IsSome (serial_with rows id)) ids
note_there rows [] ss f h = tt
note_there rows (id ∷ ids) [] f h = absurd (cc)
note_there rows (id ∷ ids) (s ∷ ss) f h =
    let here : id_of rows s ≡ Some id = cc in
    let rest : Under rows ids ss = cc in
    (ap is_some (serial_under rows s id f here), note_there rows ids ss f rest)

note_same : (rows : List PendingRow) (ids ss told : List ℕ) → Differ (Ids rows) → Under rows ids ss → map Some told ≡ map (serial_with rows) ids → told ≡ ss
note_same rows [] [] [] f h k = refl
note_same rows [] [] (q ∷ qs) f h k = absurd (cc)
note_same rows [] (s ∷ ss) told f h k = absurd (cc)
note_same rows (id ∷ ids) [] told f h k = absurd (cc)
note_same rows (id ∷ ids) (s ∷ ss) [] f h k = absurd (cc)
note_same rows (id ∷ ids) (s ∷ ss) (q ∷ qs) f h k =
    let here : id_of rows s ≡ Some id = cc in
    let rest : Under rows ids ss = cc in
    let mine : Some q ≡ serial_with rows id = cc in
    let others : map Some qs ≡ map (serial_with rows) ids = cc in
    let e : Some q ≡ Some s = mine ∙ serial_under rows s id f here in
    let same : q ≡ s = cc in
    let tail : qs ≡ ss = note_same rows ids ss qs f rest others in
    cc

filter_few : (p : ℕ → Bool) (xs : List ℕ) → length (filter p xs) ≤ length xs
filter_few p [] = omega arith
filter_few p (x ∷ xs) =
    let rest : length (filter p xs) ≤ length xs = filter_few p xs in
    ⊎_elim
    (λ (e : p x ≡ true). rw e (omega arith))
    (λ (e : p x ≡ false). rw e (omega arith))
    (cases_Bool (p x))

-- a note of the device names no more commands than one in the ring
note_short : (d : DeviceState) (n type_ : ℕ) (ss : List ℕ) → NotesShort n d.ring.laid → dispatch_answer d ≡ device.Note type_ ss → length ss ≤ n
unfolding dispatch_answer
note_short d n type_ ss h e = by_bit d.attached refl
  where
    by_laid : (x : Laid) → IsShort n x → item_answer d.unfinished (record { len = 0; laid = x }) ≡ device.Note type_ ss → length ss ≤ n
    by_laid Pad k q = absurd (cc)
    by_laid (Cmd s c) k q = absurd (cc)
    by_laid (Tmr t ts) k q =
        let same : filter (is_running d.unfinished) ts ≡ ss = cc in
        let few : length (filter (is_running d.unfinished) ts) ≤ length ts = filter_few (is_running d.unfinished) ts in
        omega (arith, few, ap length same)

    by_item : (o : Option Item) → next_item d ≡ o → elim o as (λ x. DispatchData) [ None ↦ device.Nothing | Some i ↦ item_answer d.unfinished i ] ≡ device.Note type_ ss → length ss ≤ n
    by_item None g q = absurd (cc)
    by_item (Some i) g q = by_laid i.laid (every_at (λ (x : Item). IsShort n x.laid) d.ring.laid (next_place d.ring) i h g) q

    by_bit : (b : Bool) → d.attached ≡ b → length ss ≤ n
    by_bit true a = let q : elim (next_item d) [ None ↦ device.Nothing | Some i ↦ item_answer d.unfinished i ] ≡ device.Note type_ ss = rw a at e in by_item (next_item d) refl q
    by_bit false a = let q : device.Detached ≡ device.Note type_ ss = rw a at e in absurd (cc)

-- ==== the entry can be given out

can_give : (rows : List PendingRow) (u : UserState) (hand : Spared InHand) (room n : ℕ) (d : DeviceState) (lists : List Taken) (a : DispatchData) (x : Next) → Differ (Ids rows) → dispatch_answer d ≡ a → AnswersDispatch rows d lists a (next_data x) →
    NotesShort n d.ring.laid → n ≤ room → 1 ≤ hand.spare → IsRising (serials_in_hand (hand_dispatched hand.items a (next_data x))) → CanBeGiven rows hand room x
can_give rows u hand room n d lists a (next.Job job) f e h notes most spare rises =
    let s = job_there rows d lists a job f h in
    let q : a ≡ device.Job s.0 = job_told rows d lists a job s.0 f h s.1 in
    (s.0, s.1, spare, subst (λ (y : DispatchData). IsRising (serials_in_hand (hand_dispatched hand.items y (Job job)))) q rises)
can_give rows u hand room n d lists (device.Note type_ ss) (next.Note read ids) f e h notes most spare rises =
    let few = note_short d n type_ ss notes e in
    (omega (arith, few, note_count rows ids.items ss h.1), note_there rows ids.items ss f h.1)
can_give rows u hand room n d lists (device.Job s) (next.Note read ids) f e h notes most spare rises = absurd h
can_give rows u hand room n d lists device.Nothing (next.Note read ids) f e h notes most spare rises = absurd h
can_give rows u hand room n d lists device.Detached (next.Note read ids) f e h notes most spare rises = absurd h
can_give rows u hand room n d lists a next.Nothing f e h notes most spare rises = tt

pub gives : (r left : RegionState) (t : TargetState) (u after : UserState) (hand reserved : Spared InHand) (b : Bool) (room n : ℕ) (k : RingDevice) (x : Next) → IsRing r t u hand.items b n k → Dispatches t hand.items k.state k.lists x left after →
    n ≤ room → reserved.items ≡ hand.items → 1 ≤ reserved.spare → CanBeGiven t.rows reserved room x
gives r left t u after hand reserved b room n k x h w most same spare =
    let d : DeviceState = k.state in
    let hand' : List InHand = hand_dispatched hand.items (dispatch_answer d) (next_data x) in
    let rises : IsRising (serials_in_hand hand') = hand_rises after hand' t.rows (after_dispatch d) k.lists (sound_after_dispatch d h.stands.sound) w.stands.jobs in
    can_give t.rows u reserved room n d k.lists (dispatch_answer d) x h.stands.represents.ids.differ refl w.answer h.notes most spare
    (subst (λ (ys : List InHand). IsRising (serials_in_hand (hand_dispatched ys (dispatch_answer d) (next_data x)))) (sym same) rises)

-- ==== what was given out is the device's answer

-- the answer, and the hand behind it
record GivenAs (a : DispatchData) (answer : Dispatch) (hand after : List InHand) (x : Next) : Type 0 where
  pub answer_is : dispatch_data answer ≡ a
  pub hand_is : after ≡ hand_dispatched hand a (next_data x)

given_as : (rows : List PendingRow) (hand hand' : List InHand) (d : DeviceState) (lists : List Taken) (a : DispatchData) (x : Next) (answer : Dispatch) → Differ (Ids rows) → AnswersDispatch rows d lists a (next_data x) → IsGivenOut rows hand x answer hand' → GivenAs a answer hand hand' x
given_as rows hand hand' d lists a (next.Job job) answer f h g =
    let q : a ≡ device.Job g.0 = job_told rows d lists a job g.0 f h g.1 in
    record { answer_is = g.2 ∙ sym q; hand_is = g.3 ∙ ap (λ (y : DispatchData). hand_dispatched hand y (Job job)) (sym q) }
given_as rows hand hand' d lists (device.Note type_ ss) (next.Note read ids) answer f h g =
    let same : g.0 ≡ ss = note_same rows ids.items ss g.0 f h.1 g.1 in
    record { answer_is = g.2 ∙ ap (λ (y : ℕ). device.Note y g.0) h.0 ∙ ap (λ (ys : List ℕ). device.Note type_ ys) same; hand_is = g.3 }
given_as rows hand hand' d lists (device.Job s) (next.Note read ids) answer f h g = absurd h
given_as rows hand hand' d lists device.Nothing (next.Note read ids) answer f h g = absurd h
given_as rows hand hand' d lists device.Detached (next.Note read ids) answer f h g = absurd h
given_as rows hand hand' d lists device.Nothing next.Nothing answer f h g = record { answer_is = g.0; hand_is = g.1 }
given_as rows hand hand' d lists (device.Job s) next.Nothing answer f h g = absurd h
given_as rows hand hand' d lists (device.Note type_ ss) next.Nothing answer f h g = absurd h
given_as rows hand hand' d lists device.Detached next.Nothing answer f h g = absurd h

pub dispatch_keeps : (r left : RegionState) (t : TargetState) (u after : UserState) (hand hand' : List InHand) (b : Bool) (n : ℕ) (k : RingDevice) (x : Next) (answer : Dispatch) → IsRing r t u hand b n k → Dispatches t hand k.state k.lists x left after →
    IsGivenOut t.rows hand x answer hand' → IsRing left t after hand' b n (device_dispatched k)
dispatch_keeps r left t u after hand hand' b n k x answer h w g =
    let d : DeviceState = k.state in
    let e = given_as t.rows hand hand' d k.lists (dispatch_answer d) x answer h.stands.represents.ids.differ w.answer g in
    subst (λ (ys : List InHand). IsRing left t after ys b n (device_dispatched k)) (sym e.hand_is)
    (record {
      stands = stands_left left t after (hand_dispatched hand (dispatch_answer d) (next_data x)) (after_dispatch d) k.lists (sound_after_dispatch d h.stands.sound) (lists_dispatched d k.lists h.stands.owned) w.stands;
      attached = h.attached ∙ sym (attached_dispatched d);
      notes = short_same n d.ring.laid (after_dispatch d).ring.laid (laid_dispatched d) h.notes;
      few = few_same d.accepted (after_dispatch d).accepted (accepted_dispatched d) h.few;
    })

pub dispatch_answered : (r left : RegionState) (t : TargetState) (u after : UserState) (hand hand' : List InHand) (b : Bool) (n : ℕ) (k : RingDevice) (x : Next) (answer : Dispatch) → IsRing r t u hand b n k → Dispatches t hand k.state k.lists x left after →
    IsGivenOut t.rows hand x answer hand' → dispatch_data answer ≡ dispatch_answer k.state
dispatch_answered r left t u after hand hand' b n k x answer h w g =
    (given_as t.rows hand hand' k.state k.lists (dispatch_answer k.state) x answer h.stands.represents.ids.differ w.answer g).answer_is

-- ==== where no user side is attached

pub detached_answer : (d : DeviceState) → d.attached ≡ false → device.Detached ≡ dispatch_answer d
unfolding dispatch_answer
detached_answer d a = rw a refl

detached_same : (d : DeviceState) → d.attached ≡ false → after_dispatch d ≡ d
unfolding after_dispatch
detached_same d a = rw a refl

pub detached_keeps : (r : RegionState) (t : TargetState) (u : UserState) (hand : List InHand) (b : Bool) (most : ℕ) (k : RingDevice) → IsRing r t u hand b most k → b ≡ false → IsRing r t u hand b most (device_dispatched k)
detached_keeps r t u hand b most k h off =
    let kept : IsRing r t u hand b most (device_kept k) = record { stands = kept_stands r t u hand k.state k.lists h.stands; attached = h.attached; notes = h.notes; few = h.few } in
    subst (λ (d : DeviceState). IsRing r t u hand b most (record { state = d; lists = kept_lists d k.lists })) (sym (detached_same k.state (sym h.attached ∙ off))) kept
