-- Where a next finds nothing, it leaves the region as it was: it has passed padding alone.
use Rattle.std.proofs.Common.{◌≡◌, ℕ, ◌+◌, ◌-◌, ◌%◌, ◌≤◌, ◌<◌, true, List, length, drop, refl, sym, ap, ◌∙◌, arith, suc, Option, Some, None, Result, Ok, slice_get, subst, ⊎_elim, eqb}
use Rattle.std.specs.List.{prefix_len}
use Rattle.std.proofs.lemmas.Bool.{cases_lt, eq-eqb}
use Rattle.std.proofs.lemmas.List.{take_all}
use Rattle.region_model.specs.declared.mailbox.Mailbox.{Mailbox}
use Rattle.region_model.specs.declared.mailbox.MailboxFault.{MailboxFault}
use Rattle.tcmu_model.specs.RingState.{Item, Laid, head, is_pad, lengths, next_place}
use Rattle.tcmu_model.specs.RingState as ring
use Rattle.tcmu_model.specs.Device.{DeviceState}
use Rattle.tcmu_model.specs.Events.{next_item}
use Rattle.tcmu_model.specs.BlockLists.{Taken}
use Rattle.region_model.specs.Picture.{place_of}
use Rattle.region_model.specs.Regions.{RegionState}
use Rattle.region_model.specs.Sides.{InHand, JobState, TargetState, UserState}
use Rattle.region_model.specs.UserNext.{NextAnswer, Job, Note, Nexted, Nothing, next_within}
use Rattle.region_model.specs.UserSteps.{user_mailbox}
use Rattle.ring_laws.specs.Dispatched.{CanDispatch}
use Rattle.ring_laws.proofs.attached.MailboxThere.{device_mailbox_there, mailbox_of}
use Rattle.ring_laws.proofs.dispatched.NextCases.{next_no_pad}
use Rattle.ring_laws.proofs.dispatched.Nexts.{NoteStep, can_pass, command_step, note_step}
use Rattle.ring_laws.proofs.Places.{get-dropped}
use Rattle.ring_laws.proofs.PassedItems.{nothing_left, pads_front, pads_passed, passed_to, user_from}

-- what is to be shown of a step
abbrev LeavesRegion : RegionState → Nexted → Type 0
LeavesRegion r k = k.answer ≡ Nothing → k.region ≡ r

not_job : (a : NextAnswer) (job : JobState) → a ≡ Nothing → a ≡ Job job → ⊥
not_job a job p q = cc

not_note : (a : NextAnswer) (type_ : ℕ) (ids : List ℕ) → a ≡ Nothing → a ≡ Note type_ ids → ⊥
not_note a type_ ids p q = cc

at_next : (r : RegionState) (t : TargetState) (user : UserState) (hand : List InHand) (d : DeviceState) (lists : List Taken) (before : UserState) (n : ℕ) → CanDispatch r t user hand d lists →
    LeavesRegion r (next_within (suc n) (mailbox_of d) before r (passed_to user d (next_place d.ring)))
at_next r t user hand d lists before n h = by_item (next_item d) refl
  where
    by_laid : (len : ℕ) (l : Laid) → next_item d ≡ Some (record { len = len; laid = l }) → LeavesRegion r (next_within (suc n) (mailbox_of d) before r (passed_to user d (next_place d.ring)))
    by_laid len ring.Pad g = absurd (next_no_pad d len g)
    by_laid len (ring.Cmd s c) g = λ a. absurd (not_job _ _ a (ap (λ (x : Nexted). x.answer) (command_step r t user hand d lists len s c before n h g)))
    by_laid len (ring.Tmr type_ ss) g = λ a. let k : NoteStep r user d len type_ ss = note_step r t user hand d lists len type_ ss h g in absurd (not_note _ _ _ a (ap (λ (x : Nexted). x.answer) (k.is before n)))

    by_item : (o : Option Item) → next_item d ≡ o → LeavesRegion r (next_within (suc n) (mailbox_of d) before r (passed_to user d (next_place d.ring)))
    by_item None e = λ a.
        let all : d.ring.dispatched ≡ length d.ring.laid = nothing_left d h.sound e in
        let at : place_of d.ring (next_place d.ring) ≡ head d.ring = ap (λ (xs : List Item). lengths xs % d.ring.size) (take_all (next_place d.ring) d.ring.laid (omega arith)) in
        let z : eqb (place_of d.ring (next_place d.ring)) (head d.ring) ≡ true = eq-eqb (place_of d.ring (next_place d.ring)) (head d.ring) at in
        rw z refl
    by_item (Some x) e = by_laid x.len x.laid e

-- through so many entries
through : (r : RegionState) (t : TargetState) (user : UserState) (hand : List InHand) (d : DeviceState) (lists : List Taken) (before : UserState) (k : ℕ) → CanDispatch r t user hand d lists →
    LeavesRegion r (next_within k (mailbox_of d) before r (passed_to user d d.ring.dispatched))
through r t user hand d lists before k h =
    let p : ℕ = prefix_len is_pad (drop d.ring.dispatched d.ring.laid) in
    ⊎_elim
    (λ (l : p < k).
    let n : ℕ = k - suc p in
    let e : k ≡ p + suc n = omega arith in
    let on : next_within k (mailbox_of d) before r (passed_to user d d.ring.dispatched) ≡ next_within (suc n) (mailbox_of d) before r (passed_to user d (next_place d.ring)) =
    ap (λ m. next_within m (mailbox_of d) before r (passed_to user d d.ring.dispatched)) e
    ∙ pads_passed r t.items user d lists before (suc n) p d.ring.dispatched (can_pass r t user hand d lists h) (omega arith) (λ j m. pad_at j m) in
    subst (LeavesRegion r) (sym on) (at_next r t user hand d lists before n h))
    (λ (l : k ≤ p).
    let e : k ≡ k + 0 = omega arith in
    let on = ap (λ m. next_within m (mailbox_of d) before r (passed_to user d d.ring.dispatched)) e
    ∙ pads_passed r t.items user d lists before 0 k d.ring.dispatched (can_pass r t user hand d lists h) (omega arith) (λ j m. pad_at j (omega arith)) in
    λ a. ap (λ (x : Nexted). x.region) on)
    (cases_lt (prefix_len is_pad (drop d.ring.dispatched d.ring.laid)) k)
  where
    pad_at : (j : ℕ) → j < prefix_len is_pad (drop d.ring.dispatched d.ring.laid) → (len : ℕ) × (slice_get d.ring.laid (d.ring.dispatched + j) ≡ Some (record { len = len; laid = ring.Pad }))
    pad_at j m = let f = pads_front (drop d.ring.dispatched d.ring.laid) j m in (f.0, get-dropped d.ring.laid d.ring.dispatched j ∙ f.1)

pub next_nothing : (r : RegionState) (t : TargetState) (user : UserState) (hand : List InHand) (d : DeviceState) (lists : List Taken) (m : Mailbox) (before : UserState) (k : ℕ) →
    CanDispatch r t user hand d lists → user_mailbox r ≡ Ok m → (next_within k m before r user).answer ≡ Nothing → (next_within k m before r user).region ≡ r
next_nothing r t user hand d lists m before k h e =
    let q : m ≡ mailbox_of d = same (sym e ∙ device_mailbox_there r t.items d lists h.sound h.ring) in
    let u : user ≡ passed_to user d d.ring.dispatched = user_from user d h.attached h.side in
    subst (λ (x : Mailbox). LeavesRegion r (next_within k x before r user)) (sym q)
    (subst (λ (x : UserState). LeavesRegion r (next_within k (mailbox_of d) before r x)) (sym u) (through r t user hand d lists before k h))
  where
    same : ◌≡◌ {A = Result Mailbox MailboxFault} (Ok m) (Ok (mailbox_of d)) → m ≡ mailbox_of d
    same q = cc
