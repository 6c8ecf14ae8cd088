-- A handler answers: the command has its reply, which no entry has yet.
use Rattle.std.proofs.Common.{◌≡◌, ◌≢◌, ℕ, Bool, true, false, List, [], ◌∷◌, ◌++◌, map, filter, refl, sym, ap, ◌∙◌, Option, Some, subst, ⊎_elim}
use Rattle.std.specs.Option.{is_some}
use Rattle.std.proofs.lemmas.Bool.{cases_Bool, ne_eqb, false≢true}
use Rattle.tcmu_types.specs.Data.{ReplyData}
use Rattle.tcmu_model.specs.declared.state.CommandState.{CommandState}
use Rattle.tcmu_model.specs.declared.state.CommandState.TheVariants.{Out}
use Rattle.tcmu_types.specs.Lists.{first_of, with_first, Every}
use Rattle.tcmu_model.specs.Lengths.{block_size}
use Rattle.tcmu_model.specs.Device.{Unfinished, DeviceState, has_serial, is_at}
use Rattle.tcmu_model.specs.Events.{after_handle, with_reply, command_out, is_in_hand, answered}
use Rattle.tcmu_types.specs.Numbers.{is_among}
use Rattle.tcmu_model.specs.Sound.{IsSound, is_right, state_fits, dispatched_serials}
use Rattle.tcmu_model.specs.BlockLists.{Taken, list_of, held_by}
use Rattle.tcmu_model.proofs.CommandStates.{state_at, serial_at}
use Rattle.tcmu_types.proofs.Everies.{every-first, every-with_first}
use Rattle.region_model.specs.Areas.{IsLent}
use Rattle.region_model.specs.Regions.{RegionState}
use Rattle.region_model.specs.Sides.{Recorded, PendingRow, TargetState, UserState}
use Rattle.region_model.specs.Represents.{RingStands, IdsStand, NotesStand, BlocksOf, BlocksStand, TargetKeeps, UserKeeps, pending_of}
use Rattle.region_model.specs.Picture.{with_answer}
use Rattle.tcmu_types.proofs.Firsts.{first-passes}
use Rattle.ring_laws.proofs.ticked.Ticked.{ring_by, ids_by}
use Rattle.ring_laws.proofs.cleaned.CleanedAll.{not_there}

-- the command is out, and so its answer is not placed
out_fits : (dispatched placed published attached has_reply : Bool) → state_fits dispatched placed published attached Out has_reply ≡ true → placed ≡ false
out_fits true false published attached has_reply h = refl
out_fits true true published attached has_reply h = absurd (false≢true h)
out_fits false placed published attached has_reply h = absurd (false≢true h)

out_unplaced : (d : DeviceState) (s : ℕ) (u : Unfinished) → IsSound d → command_out d s ≡ Some u → is_among d.placed s ≡ false
out_unplaced d s u sound f =
    let at : is_at s Out u ≡ true = first-passes (is_at s Out) d.unfinished u f in
    let st : u.state ≡ Out = state_at s Out u at in
    let q : u.serial ≡ s = serial_at s Out u at in
    let r : is_right d u ≡ true = every-first (is_at s Out) (λ (v : Unfinished). is_right d v ≡ true) d.unfinished u sound.answers.states f in
    let z : state_fits (is_among (dispatched_serials d.ring) u.serial) (is_among d.placed u.serial) (is_among (answered d) u.serial) d.attached Out (is_some u.reply) ≡ true =
    subst (λ (t : CommandState). state_fits (is_among (dispatched_serials d.ring) u.serial) (is_among d.placed u.serial) (is_among (answered d) u.serial) d.attached t (is_some u.reply) ≡ true) st r in
    subst (λ k. is_among d.placed k ≡ false) q (out_fits (is_among (dispatched_serials d.ring) u.serial) (is_among d.placed u.serial) (is_among (answered d) u.serial) d.attached (is_some u.reply) z)

-- another command is found as before
found_other : (s q : ℕ) (reply : ReplyData) (us : List Unfinished) → q ≢ s → first_of (has_serial q) (with_first (is_at s Out) (with_reply reply) us) ≡ first_of (has_serial q) us
found_other s q reply [] n = refl
found_other s q reply (u ∷ us) n =
    ⊎_elim
    (λ (k : is_at s Out u ≡ true).
    let e : u.serial ≡ s = serial_at s Out u k in
    let m : has_serial q u ≡ false = ne_eqb u.serial q (λ z. n (sym z ∙ e)) in
    rw (k, m) refl)
    (λ (k : is_at s Out u ≡ false).
    ⊎_elim
    (λ (m : has_serial q u ≡ true). rw (k, m) refl)
    (λ (m : has_serial q u ≡ false). rw (k, m) (found_other s q reply us n))
    (cases_Bool (has_serial q u)))
    (cases_Bool (is_at s Out u))

pub ring_handled : (front : List ℕ) (items : List Recorded) (d : DeviceState) (lists : List Taken) (s : ℕ) (u : Unfinished) (reply : ReplyData) → IsSound d → command_out d s ≡ Some u → RingStands front items d lists →
    RingStands front items (after_handle d s reply) lists
unfolding after_handle
ring_handled front items d lists s u reply sound f h =
    ring_by front items d d.now d.blocked d.attached (with_first (is_at s Out) (with_reply reply) d.unfinished) d.delayed d.log lists
    (λ k q g rl id r. ap (with_answer rl id r) (found_other s q reply d.unfinished (not_there d.placed s k q (out_unplaced d s u sound f) g))) h

pub ids_handled : (front : List ℕ) (rows : List PendingRow) (d : DeviceState) (s : ℕ) (reply : ReplyData) → IdsStand front rows d → IdsStand front rows (after_handle d s reply)
unfolding after_handle
ids_handled front rows d s reply h = ids_by front rows d d.now d.blocked d.attached (with_first (is_at s Out) (with_reply reply) d.unfinished) d.delayed d.log h

pub notes_handled : (front : List ℕ) (rows : List PendingRow) (d : DeviceState) (s : ℕ) (reply : ReplyData) → NotesStand front rows d → NotesStand front rows (after_handle d s reply)
unfolding after_handle
notes_handled front rows d s reply h = h

-- ==== blocks and lists

out_in_hand : (s : ℕ) (u : Unfinished) → is_at s Out u ≡ true → is_in_hand u ≡ true
out_in_hand s u k = let st : u.state ≡ Out = state_at s Out u k in rw st refl

hand_handled : (lists : List Taken) (s : ℕ) (reply : ReplyData) (us : List Unfinished) → held_by lists (filter is_in_hand (with_first (is_at s Out) (with_reply reply) us)) ≡ held_by lists (filter is_in_hand us)
hand_handled lists s reply [] = refl
hand_handled lists s reply (u ∷ us) =
    ⊎_elim
    (λ (k : is_at s Out u ≡ true). let m : is_in_hand u ≡ true = out_in_hand s u k in rw (k, m) refl)
    (λ (k : is_at s Out u ≡ false).
    ⊎_elim
    (λ (m : is_in_hand u ≡ true). rw (k, m) (ap (λ bs. list_of lists u.serial ++ bs) (hand_handled lists s reply us)))
    (λ (m : is_in_hand u ≡ false). rw (k, m) (hand_handled lists s reply us))
    (cases_Bool (is_in_hand u)))
    (cases_Bool (is_at s Out u))

held_handled : (lists : List Taken) (s : ℕ) (reply : ReplyData) (us : List Unfinished) → held_by lists (with_first (is_at s Out) (with_reply reply) us) ≡ held_by lists us
held_handled lists s reply [] = refl
held_handled lists s reply (u ∷ us) =
    ⊎_elim
    (λ (k : is_at s Out u ≡ true). rw k refl)
    (λ (k : is_at s Out u ≡ false). rw k (ap (λ bs. list_of lists u.serial ++ bs) (held_handled lists s reply us)))
    (cases_Bool (is_at s Out u))

pub blocks_handled : (area : List (Option (List ℕ))) (d : DeviceState) (lists : List Taken) (s : ℕ) (reply : ReplyData) → BlocksStand area d lists → BlocksStand area (after_handle d s reply) lists
unfolding after_handle
blocks_handled area d lists s reply h =
    let size : ℕ = block_size d.settings.pages in
    record {
      all = every-with_first (is_at s Out) (with_reply reply) (BlocksOf size area lists) d.unfinished
          (λ u k p. let m : is_in_hand u ≡ true = out_in_hand s u k in let q : Every (IsLent area) (list_of lists u.serial) = rw m at p in q) h.all;
      just = λ b l. ap (λ bs. is_among bs b) (hand_handled lists s reply d.unfinished) ∙ h.just b l;
    }

pending_handled : (lists : List Taken) (s : ℕ) (reply : ReplyData) (us : List Unfinished) → map (pending_of lists) (with_first (is_at s Out) (with_reply reply) us) ≡ map (pending_of lists) us
pending_handled lists s reply [] = refl
pending_handled lists s reply (u ∷ us) =
    ⊎_elim
    (λ (k : is_at s Out u ≡ true). rw k refl)
    (λ (k : is_at s Out u ≡ false). rw k (ap (λ ps. pending_of lists u ∷ ps) (pending_handled lists s reply us)))
    (cases_Bool (is_at s Out u))

pub target_handled : (t : TargetState) (d : DeviceState) (lists : List Taken) (s : ℕ) (reply : ReplyData) → TargetKeeps t d lists → TargetKeeps t (after_handle d s reply) lists
unfolding after_handle
target_handled t d lists s reply h =
    record {
      settings = h.settings;
      now = h.now;
      blocked = h.blocked;
      accepted = h.accepted;
      rows = h.rows ∙ sym (pending_handled lists s reply d.unfinished);
      delayed = h.delayed;
      cleaned = h.cleaned;
      laid = h.laid;
      cleared = h.cleared;
      broken = h.broken;
      log = h.log;
    }

pub side_handled : (user : UserState) (d : DeviceState) (s : ℕ) (reply : ReplyData) → UserKeeps user d → UserKeeps user (after_handle d s reply)
unfolding after_handle
side_handled user d s reply h =
    record { ring = h.ring; pages = h.pages; flags = h.flags; tail = h.tail; dispatched = h.dispatched; placed = h.placed; published = h.published; place = h.place; items = h.items }

pub pages_handled : (r : RegionState) (d : DeviceState) (s : ℕ) (reply : ReplyData) → r.pages ≡ d.settings.pages → r.pages ≡ (after_handle d s reply).settings.pages
unfolding after_handle
pages_handled r d s reply h = h
