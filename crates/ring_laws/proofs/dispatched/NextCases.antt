-- What holds of a dispatch, by its next item: none, a command, or a note.
use Rattle.std.proofs.Common.{◌≡◌, ℕ, ◌+◌, ◌<◌, Bool, true, false, cond, List, [], ◌∷◌, drop, filter, refl, sym, ap, ◌∙◌, arith, suc, zero, Option, Some, None, slice_get, subst, ⊎_elim}
use Rattle.std.specs.List.{prefix_len}
use Rattle.std.proofs.lemmas.Bool.{cases_Bool, true≢false}
use Rattle.tcmu_types.specs.Data.{CommandData}
use Rattle.tcmu_types.specs.Events.{DispatchData}
use Rattle.tcmu_types.specs.Events as device
use Rattle.tcmu_model.specs.declared.state.CommandState.TheVariants.{Waiting, Out}
use Rattle.tcmu_model.specs.RingState.{Item, Laid, is_pad}
use Rattle.tcmu_model.specs.RingState as ring
use Rattle.tcmu_model.specs.Device.{DeviceState}
use Rattle.tcmu_model.specs.Events.{after_dispatch, dispatch_answer, item_answer, is_running, next_item, passed, turned}
use Rattle.tcmu_model.specs.BlockLists.{Taken}
use Rattle.region_model.specs.Regions.{RegionState}
use Rattle.region_model.specs.Sides.{InHand, TargetState, UserState}
use Rattle.region_model.specs.UserNext.{Nothing, Nexted, nexted}
use Rattle.ring_laws.specs.Dispatched.{CanDispatch}
use Rattle.ring_laws.proofs.dispatched.Nexts.{NoteComes, can_pass, job_comes, job_nexted, note_comes, note_nexted}
use Rattle.ring_laws.proofs.PassedItems.{comes_to_head}
use Rattle.ring_laws.proofs.Places.{get-dropped}
use Rattle.tcmu_model.proofs.Unnamed.{found_item}

-- the device behind a command that is sent out, and behind a note
abbrev pub sent_in : DeviceState → ℕ → DeviceState
sent_in d s = record d { ring = passed d.ring; unfinished = turned s Waiting Out d.unfinished }

abbrev pub noted_in : DeviceState → DeviceState
noted_in d = record d { ring = passed d.ring }

-- ==== the next item is no padding

behind_front : (p : Item → Bool) (xs : List Item) (k : ℕ) (x : Item) → k ≡ prefix_len p xs → slice_get xs k ≡ Some x → p x ≡ false
behind_front p [] k x e g = absurd (cc)
behind_front p (y ∷ xs) k x e g =
    ⊎_elim
    (λ (t : p y ≡ true). let q : k ≡ 1 + prefix_len p xs = rw t at e in further k q g (λ j a b. behind_front p xs j x a b))
    (λ (t : p y ≡ false). let q : k ≡ 0 = rw t at e in here k q g t)
    (cases_Bool (p y))
  where
    here : (k : ℕ) → k ≡ 0 → slice_get (y ∷ xs) k ≡ Some x → p y ≡ false → p x ≡ false
    here zero e g t = let q : y ≡ x = cc in ap p (sym q) ∙ t
    here (suc k) e g t = absurd (omega (arith, e))

    further : (k : ℕ) → k ≡ 1 + prefix_len p xs → slice_get (y ∷ xs) k ≡ Some x → ((j : ℕ) → j ≡ prefix_len p xs → slice_get xs j ≡ Some x → p x ≡ false) → p x ≡ false
    further zero e g more = absurd (omega (arith, e))
    further (suc k) e g more = more k (omega (arith, e)) g

pub next_no_pad : (d : DeviceState) (n : ℕ) → next_item d ≡ Some (record { len = n; laid = ring.Pad }) → ⊥
next_no_pad d n g =
    let xs : List Item = drop d.ring.dispatched d.ring.laid in
    true≢false (behind_front is_pad xs (prefix_len is_pad xs) (record { len = n; laid = ring.Pad }) refl (sym (get-dropped d.ring.laid d.ring.dispatched (prefix_len is_pad xs)) ∙ g))

-- ==== the device's part

abbrev answer_of : DeviceState → Option Item → DispatchData
answer_of d o = elim o as (λ x. DispatchData) [ None ↦ device.Nothing | Some i ↦ item_answer d.unfinished i ]

pub after_at : (d : DeviceState) (o : Option Item) → d.attached ≡ true → next_item d ≡ o → after_dispatch d ≡ found_item d o
unfolding after_dispatch
after_at d o a e = ap (λ b. cond b (found_item d (next_item d)) d) a ∙ ap (found_item d) e

pub after_detached : (d : DeviceState) → d.attached ≡ false → after_dispatch d ≡ d
unfolding after_dispatch
after_detached d a = ap (λ b. cond b (found_item d (next_item d)) d) a

answer_at : (d : DeviceState) (o : Option Item) → d.attached ≡ true → next_item d ≡ o → dispatch_answer d ≡ answer_of d o
unfolding dispatch_answer
answer_at d o a e = ap (λ b. cond b (answer_of d (next_item d)) device.Detached) a ∙ ap (answer_of d) e

-- ==== both sides

-- what is to be shown of each next item
pub record Cases (P : Nexted → DispatchData → DeviceState → Type 0) (r : RegionState) (user : UserState) (d : DeviceState) (lists : List Taken) : Type 0 where
  pub none : next_item d ≡ None → P (record { answer = Nothing; region = r; user = user }) device.Nothing d
  pub job : (n s : ℕ) (c : CommandData) → next_item d ≡ Some (record { len = n; laid = ring.Cmd s c }) → P (job_nexted r user d lists s c) (device.Job s) (sent_in d s)
  pub note : (n type_ read : ℕ) (ss : List ℕ) → next_item d ≡ Some (record { len = n; laid = ring.Tmr type_ ss }) → (type_ < 256 → read ≡ type_) →
      P (note_nexted r user d n read ss) (device.Note type_ (filter (is_running d.unfinished) ss)) (noted_in d)

shown_by : (P : Nexted → DispatchData → DeviceState → Type 0) {z y : Nexted} {a b : DispatchData} {d e : DeviceState} → z ≡ y → a ≡ b → d ≡ e → P y b e → P z a d
shown_by P {z} {y} {a} {b} {d} {e} p q s h = subst (λ (x : DeviceState). P z a x) (sym s) (subst (λ (x : DispatchData). P z x e) (sym q) (subst (λ (x : Nexted). P x b e) (sym p) h))

pub by_next : (P : Nexted → DispatchData → DeviceState → Type 0) (r : RegionState) (t : TargetState) (user : UserState) (hand : List InHand) (d : DeviceState) (lists : List Taken) →
    CanDispatch r t user hand d lists → Cases P r user d lists → P (nexted r user) (dispatch_answer d) (after_dispatch d)
by_next P r t user hand d lists h cases = by_item (next_item d) refl
  where
    by_laid : (n : ℕ) (l : Laid) → next_item d ≡ Some (record { len = n; laid = l }) → P (nexted r user) (dispatch_answer d) (after_dispatch d)
    by_laid n ring.Pad g = absurd (next_no_pad d n g)
    by_laid n (ring.Cmd s c) g =
        shown_by P (job_comes r t user hand d lists n s c h g) (answer_at d (Some (record { len = n; laid = ring.Cmd s c })) h.attached g) (after_at d (Some (record { len = n; laid = ring.Cmd s c })) h.attached g) (cases.job n s c g)
    by_laid n (ring.Tmr type_ ss) g =
        let k : NoteComes r user d n type_ ss = note_comes r t user hand d lists n type_ ss h g in
        shown_by P k.is (answer_at d (Some (record { len = n; laid = ring.Tmr type_ ss })) h.attached g) (after_at d (Some (record { len = n; laid = ring.Tmr type_ ss })) h.attached g) (cases.note n type_ k.read ss g k.byte)

    by_item : (o : Option Item) → next_item d ≡ o → P (nexted r user) (dispatch_answer d) (after_dispatch d)
    by_item None e = shown_by P (comes_to_head r t.items user d lists (can_pass r t user hand d lists h) e) (answer_at d None h.attached e) (after_at d None h.attached e) (cases.none e)
    by_item (Some x) e = by_laid x.len x.laid e
