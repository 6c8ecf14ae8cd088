-- A respond out of order: the command is parked and placed at once.
use Rattle.std.proofs.Common.{◌≡◌, ℕ, ◌+◌, ◌<◌, ◌≤◌, Bool, true, false, cond, List, [], ◌∷◌, length, refl, sym, ap, ◌∙◌, arith, Option, Some, None, subst, ⊎_elim}
use Rattle.std.specs.List.{count_by}
use Rattle.std.proofs.lemmas.Bool.{cases_Bool}
use Rattle.std.proofs.lemmas.List.Sums.{sum_by-cons}
use Rattle.tcmu_types.specs.Data.{ReplyData, SettingsData}
use Rattle.tcmu_types.specs.declared.settings.Flags.{Flags}
use Rattle.tcmu_model.specs.declared.state.CommandState.{CommandState}
use Rattle.tcmu_model.specs.declared.state.CommandState.TheVariants.{Handled, Parked}
use Rattle.tcmu_types.specs.Lists.{first_of, without_first}
use Rattle.tcmu_model.specs.RingState.{dispatched_commands, serials_in}
use Rattle.tcmu_model.specs.Device.{Unfinished, DeviceState, is_at}
use Rattle.tcmu_model.specs.Events.{Placing, after_respond, in_state, is_handled, is_in_hand, placed_by, turned}
use Rattle.tcmu_model.specs.Events as events
use Rattle.tcmu_model.specs.Sound.{IsSound, awaits_answer}
use Rattle.tcmu_model.specs.BlockLists.{Taken}
use Rattle.region_model.specs.Regions.{RegionState}
use Rattle.tcmu_model.proofs.CommandStates.{state_at}
use Rattle.tcmu_model.proofs.Standing.{awaiting}
use Rattle.tcmu_types.specs.Rules.{takes_payload}
use Rattle.region_model.specs.Picture.{data_in, payload_of}
use Rattle.region_model.specs.Sides.{GivenJob, InHand, PendingRow, Recorded, TargetState, UserState}
use Rattle.region_model.specs.Sides as sides
use Rattle.region_model.specs.Represents.{BlocksStand, IdsStand, IsJobOf, NotesStand, RingStands, TargetKeeps, UserKeeps}
use Rattle.region_model.specs.UserSteps.{is_open_job, placed_at, placed_one, placing_by, user_responded, with_payload}
use Rattle.region_model.specs.UserSteps as steps
use Rattle.ring_laws.specs.Placed.{CanAnswer, CanPlace, answer_placed, parked_in, placed_in}
use Rattle.ring_laws.specs.Responded.{CanRespond}
use Rattle.ring_laws.proofs.placed.PlacedAnswers.{Into, goes_into, placing_of, ring_placed, ids_placed, notes_placed, target_placed, user_placed}
use Rattle.ring_laws.proofs.placed.AnswerBlocks.{blocks_placed}
use Rattle.ring_laws.proofs.parked.ParkedKept.{ring_parked, ids_parked, notes_parked, blocks_parked, target_parked, side_parked, can_answer_parked, can_fill_parked, found_parked}
use Rattle.tcmu_types.proofs.Firsts.{any_first}

-- ==== both sides place the one answer

device_responds : (d : DeviceState) (s : ℕ) → is_handled d s ≡ true → d.settings.flags.ooo ≡ true → after_respond d s ≡ placed_in (parked_in d s) s
unfolding after_respond
device_responds d s handled ooo =
    let start : Placing = record { placed = d.placed; unfinished = events.with_parked d s } in
    let laid : List ℕ = serials_in d.ring.laid in
    ap (λ b. cond b (record d { unfinished = (events.placing d s).unfinished; placed = (events.placing d s).placed }) d) handled
    ∙ ap (λ b. record d { unfinished = (placed_by b start s laid).unfinished; placed = (placed_by b start s laid).placed }) ooo

user_responds : (r : RegionState) (user : UserState) (p : sides.Parked) → user.flags.ooo ≡ true → user_responded r user p ≡ answer_placed r user p (without_first (is_open_job p.job.id) user.jobs)
unfolding user_responded
user_responds r user p ooo = ap (λ b. placing_by b r user p) ooo

-- ==== an entry is left for it

counted : (p q : Unfinished → Bool) (us : List Unfinished) (u : Unfinished) → first_of p us ≡ Some u → ((v : Unfinished) → p v ≡ true → q v ≡ true) → 1 ≤ count_by q us
counted p q [] u f h = absurd (cc)
counted p q (v ∷ us) u f h =
    let s : count_by q (v ∷ us) ≡ cond (q v) 1 0 + count_by q us = sum_by-cons (λ (y : Unfinished). cond {A = ℕ} (q y) 1 0) v us in
    ⊎_elim
    (λ (k : p v ≡ true). let one : ◌≡◌ {A = ℕ} (cond (q v) 1 0) 1 = ap (λ b. cond b 1 0) (h v k) in omega (arith, s, one))
    (λ (k : p v ≡ false). let g : first_of p us ≡ Some u = rw k at f in omega (arith, s, counted p q us u g h))
    (cases_Bool (p v))

handled_awaits : (s : ℕ) (v : Unfinished) → is_at s Handled v ≡ true → awaits_answer v ≡ true
handled_awaits s v k = let st : v.state ≡ Handled = state_at s Handled v k in rw st refl

still_behind : (d : DeviceState) (s : ℕ) (u : Unfinished) → IsSound d → first_of (is_at s Handled) d.unfinished ≡ Some u → length d.placed < dispatched_commands d.ring
still_behind d s u sound f =
    let one : 1 ≤ count_by awaits_answer d.unfinished = counted (is_at s Handled) awaits_answer d.unfinished u f (handled_awaits s) in
    omega (arith, one, awaiting d sound)

pub found-state : (s : ℕ) (t : CommandState) (us : List Unfinished) (u : Unfinished) → first_of (is_at s t) us ≡ Some u → is_at s t u ≡ true
found-state s t [] u f = absurd (cc)
found-state s t (v ∷ us) u f =
    ⊎_elim
    (λ (k : is_at s t v ≡ true). let g : Some v ≡ Some u = rw k at f in let q : v ≡ u = cc in subst (λ (z : Unfinished). is_at s t z ≡ true) q k)
    (λ (k : is_at s t v ≡ false). let g : first_of (is_at s t) us ≡ Some u = rw k at f in found-state s t us u g)
    (cases_Bool (is_at s t v))

pub job_parked : (s : SettingsData) (rows : List PendingRow) (lists : List Taken) (u : Unfinished) (job : sides.JobState) (parts : List (List ℕ)) → u.state ≡ Handled → IsJobOf s rows lists u job parts → IsJobOf s rows lists (in_state Parked u) job parts
job_parked s rows lists u job parts st h =
    record { id = h.id; cdb = h.cdb; iovs = h.iovs; in_len = h.in_len; carried = h.carried; count = h.count; size = h.size; payload = h.payload ∙ payload_parked u st }
  where
    payload_parked : (u : Unfinished) → u.state ≡ Handled → payload_of u ≡ payload_of (in_state Parked u)
    payload_parked u st = ap (λ xs. cond (takes_payload u.command.cdb) u.command.sent xs) (ap (λ t. data_in u.command.in_len t u.reply) st ∙ by_reply u.command.in_len u.reply)
      where
        by_reply : (n : ℕ) (o : Option ReplyData) → data_in n Handled o ≡ data_in n Parked o
        by_reply n None = refl
        by_reply n (Some reply) = refl

pub can_place : (user : UserState) (rows : List PendingRow) (d : DeviceState) (lists : List Taken) (s : ℕ) (u : Unfinished) (p : sides.Parked) (parts : List (List ℕ)) →
    CanRespond user rows d lists s u p parts → CanPlace user rows (parked_in d s) lists s (in_state Parked u) p parts
can_place user rows d lists s u p parts h =
    let st : u.state ≡ Handled = state_at s Handled u (found-state s Handled d.unfinished u h.found) in
    record {
      found = found_parked d s u h.sound h.found;
      replied = h.replied;
      job = job_parked d.settings rows lists u p.job parts st h.job;
      behind = still_behind d s u h.sound h.found;
      flags = h.flags;
      offsets = h.offsets;
    }

-- ==== the points

-- what both sides come to
pub record Responds (r : RegionState) (user : UserState) (d : DeviceState) (s : ℕ) (p : sides.Parked) : Type 0 where
  pub device : after_respond d s ≡ placed_in (parked_in d s) s
  pub side : user_responded r user p ≡ answer_placed r user p (without_first (is_open_job p.job.id) user.jobs)

pub responds : (r : RegionState) (user : UserState) (rows : List PendingRow) (d : DeviceState) (lists : List Taken) (s : ℕ) (u : Unfinished) (p : sides.Parked) (parts : List (List ℕ)) → CanRespond user rows d lists s u p parts → d.settings.flags.ooo ≡ true → Responds r user d s p
responds r user rows d lists s u p parts h o =
    record {
      device = device_responds d s (any_first (is_at s Handled) d.unfinished u h.found) o;
      side = user_responds r user p (ap (λ (f : Flags). f.ooo) h.flags ∙ o);
    }

pub ring_responded : (r : RegionState) (user : UserState) (items : List Recorded) (rows : List PendingRow) (d : DeviceState) (lists : List Taken) (s : ℕ) (u : Unfinished) (p : sides.Parked) (parts : List (List ℕ)) →
    CanRespond user rows d lists s u p parts → d.settings.flags.ooo ≡ true → RingStands r.front items d lists → IdsStand r.front rows d → RingStands (user_responded r user p).region.front items (after_respond d s) lists
ring_responded r user items rows d lists s u p parts h o ring ids =
    let e = responds r user rows d lists s u p parts h o in
    let k = ring_placed r user items rows (parked_in d s) lists s (in_state Parked u) p parts (without_first (is_open_job p.job.id) user.jobs) (can_answer_parked d s h.sound) (ring_parked r.front items d lists s ring) (ids_parked r.front rows d s ids) (can_place user rows d lists s u p parts h) in
    subst (λ (z : DeviceState). RingStands (user_responded r user p).region.front items z lists) (sym e.device)
    (subst (λ (z : steps.Placing). RingStands z.region.front items (placed_in (parked_in d s) s) lists) (sym e.side) k)

pub ids_responded : (r : RegionState) (user : UserState) (items : List Recorded) (rows : List PendingRow) (d : DeviceState) (lists : List Taken) (s : ℕ) (u : Unfinished) (p : sides.Parked) (parts : List (List ℕ)) →
    CanRespond user rows d lists s u p parts → d.settings.flags.ooo ≡ true → RingStands r.front items d lists → IdsStand r.front rows d → IdsStand (user_responded r user p).region.front rows (after_respond d s)
ids_responded r user items rows d lists s u p parts h o ring ids =
    let e = responds r user rows d lists s u p parts h o in
    let k = ids_placed r user items rows (parked_in d s) lists s (in_state Parked u) p parts (without_first (is_open_job p.job.id) user.jobs) (can_answer_parked d s h.sound) (ring_parked r.front items d lists s ring) (ids_parked r.front rows d s ids) (can_place user rows d lists s u p parts h) in
    subst (λ (z : DeviceState). IdsStand (user_responded r user p).region.front rows z) (sym e.device)
    (subst (λ (z : steps.Placing). IdsStand z.region.front rows (placed_in (parked_in d s) s)) (sym e.side) k)

pub notes_responded : (r : RegionState) (user : UserState) (items : List Recorded) (rows : List PendingRow) (d : DeviceState) (lists : List Taken) (s : ℕ) (u : Unfinished) (p : sides.Parked) (parts : List (List ℕ)) →
    CanRespond user rows d lists s u p parts → d.settings.flags.ooo ≡ true → RingStands r.front items d lists → NotesStand r.front rows d → NotesStand (user_responded r user p).region.front rows (after_respond d s)
notes_responded r user items rows d lists s u p parts h o ring notes =
    let e = responds r user rows d lists s u p parts h o in
    let k = notes_placed r user items rows (parked_in d s) lists s (in_state Parked u) p parts (without_first (is_open_job p.job.id) user.jobs) (can_answer_parked d s h.sound) (ring_parked r.front items d lists s ring) (can_place user rows d lists s u p parts h) (notes_parked r.front rows d s notes) in
    subst (λ (z : DeviceState). NotesStand (user_responded r user p).region.front rows z) (sym e.device)
    (subst (λ (z : steps.Placing). NotesStand z.region.front rows (placed_in (parked_in d s) s)) (sym e.side) k)

pub blocks_responded : (r : RegionState) (user : UserState) (items : List Recorded) (rows : List PendingRow) (d : DeviceState) (lists : List Taken) (s : ℕ) (u : Unfinished) (p : sides.Parked) (parts : List (List ℕ)) →
    CanRespond user rows d lists s u p parts → d.settings.flags.ooo ≡ true → RingStands r.front items d lists → r.pages ≡ d.settings.pages → BlocksStand r.blocks d lists → BlocksStand (user_responded r user p).region.blocks (after_respond d s) lists
blocks_responded r user items rows d lists s u p parts h o ring pages blocks =
    let e = responds r user rows d lists s u p parts h o in
    let k = blocks_placed r user items rows (parked_in d s) lists s (in_state Parked u) p parts (without_first (is_open_job p.job.id) user.jobs) (can_answer_parked d s h.sound) (can_fill_parked d lists s h.sound h.owned) (ring_parked r.front items d lists s ring) pages (blocks_parked r.blocks d lists s blocks) (can_place user rows d lists s u p parts h) in
    subst (λ (z : DeviceState). BlocksStand (user_responded r user p).region.blocks z lists) (sym e.device)
    (subst (λ (z : steps.Placing). BlocksStand z.region.blocks (placed_in (parked_in d s) s) lists) (sym e.side) k)

-- the pages stay
pub pages_placed : (r : RegionState) (user : UserState) (rows : List PendingRow) (d : DeviceState) (lists : List Taken) (s : ℕ) (u : Unfinished) (p : sides.Parked) (parts : List (List ℕ)) (rest : List GivenJob) →
    CanAnswer d → CanPlace user rows d lists s u p parts → (placed_one (placing_of r user) p rest).region.pages ≡ r.pages
pages_placed r user rows d lists s u p parts rest can place =
    let into : Into user d = goes_into user rows d lists s u p parts can place in
    ap (λ ats. (placed_at (placing_of r user) p rest ats).region.pages) into.first
    ∙ ap (λ (c : sides.Carried). (with_payload r p.job.iovs c p.reply.payload).pages) place.job.carried

pub pages_responded : (r : RegionState) (user : UserState) (rows : List PendingRow) (d : DeviceState) (lists : List Taken) (s : ℕ) (u : Unfinished) (p : sides.Parked) (parts : List (List ℕ)) →
    CanRespond user rows d lists s u p parts → d.settings.flags.ooo ≡ true → r.pages ≡ d.settings.pages → (user_responded r user p).region.pages ≡ (after_respond d s).settings.pages
pages_responded r user rows d lists s u p parts h o pages =
    let e = responds r user rows d lists s u p parts h o in
    ap (λ (z : steps.Placing). z.region.pages) e.side
    ∙ pages_placed r user rows (parked_in d s) lists s (in_state Parked u) p parts (without_first (is_open_job p.job.id) user.jobs) (can_answer_parked d s h.sound) (can_place user rows d lists s u p parts h)
    ∙ pages ∙ ap (λ (z : DeviceState). z.settings.pages) (sym e.device)

pub target_responded : (user : UserState) (t : TargetState) (rows : List PendingRow) (d : DeviceState) (lists : List Taken) (s : ℕ) (u : Unfinished) (p : sides.Parked) (parts : List (List ℕ)) →
    CanRespond user rows d lists s u p parts → d.settings.flags.ooo ≡ true → TargetKeeps t d lists → TargetKeeps t (after_respond d s) lists
target_responded user t rows d lists s u p parts h o keeps =
    subst (λ (z : DeviceState). TargetKeeps t z lists) (sym (device_responds d s (any_first (is_at s Handled) d.unfinished u h.found) o)) (target_placed t (parked_in d s) lists s (target_parked t d lists s keeps))

pub side_responded : (r : RegionState) (user : UserState) (rows : List PendingRow) (d : DeviceState) (lists : List Taken) (s : ℕ) (u : Unfinished) (p : sides.Parked) (parts : List (List ℕ)) →
    CanRespond user rows d lists s u p parts → d.settings.flags.ooo ≡ true → UserKeeps user d → UserKeeps (user_responded r user p).user (after_respond d s)
side_responded r user rows d lists s u p parts h o keeps =
    let e = responds r user rows d lists s u p parts h o in
    let k = user_placed r user rows (parked_in d s) lists s (in_state Parked u) p parts (without_first (is_open_job p.job.id) user.jobs) (can_answer_parked d s h.sound) (side_parked user d s keeps) (can_place user rows d lists s u p parts h) in
    subst (λ (z : DeviceState). UserKeeps (user_responded r user p).user z) (sym e.device)
    (subst (λ (z : steps.Placing). UserKeeps z.user (placed_in (parked_in d s) s)) (sym e.side) k)
