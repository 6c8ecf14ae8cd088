-- A respond in order: the command is parked, and then all are placed whose turn it is.
use Rattle.std.proofs.Common.{◌≡◌, ℕ, ◌+◌, ◌≤◌, ◌||◌, Bool, true, false, cond, List, [], ◌∷◌, length, map, filter, refl, sym, ap, ◌∙◌, arith, suc, Some, subst, ⊎_elim}
use Rattle.std.specs.List.{count_by}
use Rattle.std.specs.Option.{is_some}
use Rattle.std.proofs.lemmas.Bool.{cases_Bool}
use Rattle.std.proofs.lemmas.List.Sums.{length-filter, sum_by-le-sum_by}
use Rattle.tcmu_types.specs.Data.{SettingsData}
use Rattle.tcmu_types.specs.declared.settings.Flags.{Flags}
use Rattle.tcmu_model.specs.declared.state.CommandState.{CommandState}
use Rattle.tcmu_model.specs.declared.state.CommandState.TheVariants.{Handled, Parked, Placed}
use Rattle.tcmu_types.specs.Lists.{first_of, with_first}
use Rattle.tcmu_model.specs.RingState.{dispatched_commands, serials_in}
use Rattle.tcmu_model.specs.Device.{Unfinished, DeviceState, is_at}
use Rattle.tcmu_model.specs.Events.{after_respond, answered, is_handled, is_in_hand, placed_by, turned}
use Rattle.tcmu_types.specs.Numbers.{is_among}
use Rattle.tcmu_model.specs.Events as events
use Rattle.tcmu_model.specs.Sound.{IsSound, awaits_answer, dispatched_serials, is_right, state_fits}
use Rattle.tcmu_model.specs.BlockLists.{Taken}
use Rattle.region_model.specs.Regions.{RegionState}
use Rattle.tcmu_model.proofs.CommandStates.{serial_at, state_at}
use Rattle.tcmu_types.proofs.Everies.{every-first}
use Rattle.tcmu_types.proofs.Firsts.{length-with_first, any_first}
use Rattle.tcmu_model.proofs.SoundRespond.{handled_attached}
use Rattle.tcmu_model.proofs.Standing.{awaiting}
use Rattle.region_model.specs.Sides.{GivenJob, InHand, PendingRow, Recorded, TargetState, UserState}
use Rattle.region_model.specs.Sides as sides
use Rattle.region_model.specs.Represents.{AreGiven, AreOut, BlocksStand, IdsStand, JobsStand, NotesStand, RingStands, TargetKeeps, UserKeeps, id_of, is_out}
use Rattle.region_model.specs.UserSteps.{Placing, is_open_job, placed_front, placing_by, user_responded, with_jobs, with_parked}
use Rattle.region_model.specs.HandSteps.{hand_responded}
use Rattle.ring_laws.specs.Placed.{parked_in}
use Rattle.ring_laws.specs.Responded.{CanRespond}
use Rattle.ring_laws.proofs.placed.AnswerBlocks.{blocks_placed}
use Rattle.ring_laws.proofs.placed.Numbered.{can_answer}
use Rattle.ring_laws.proofs.responded.OrderedRows.{InOrder, in_order, in_order_parked}
use Rattle.ring_laws.proofs.parked.ParkedJobs.{given_parked, jobs_parked}
use Rattle.ring_laws.proofs.parked.ParkedKept.{blocks_parked, can_answer_parked, can_fill_parked, ids_parked, notes_parked, ring_parked, side_parked, target_parked}
use Rattle.ring_laws.proofs.placed.PlacedAnswers.{ids_placed, notes_placed, placing_of, ring_placed, target_placed, user_placed}
use Rattle.ring_laws.proofs.responded.PlacedRun.{Between, Keeps, Ran, in_hand_behind, ran, ran_laid, runs}
use Rattle.ring_laws.proofs.responded.RespondedKept.{found-state, pages_placed}

-- ==== what both sides begin with

-- a handled command is there on an attached device alone
pub attached : (d : DeviceState) (s : ℕ) (u : Unfinished) → IsSound d → first_of (is_at s Handled) d.unfinished ≡ Some u → d.attached ≡ true
attached d s u sound f =
    let r : is_right d u ≡ true = every-first (is_at s Handled) (λ v. is_right d v ≡ true) d.unfinished u sound.answers.states f in
    let st : u.state ≡ Handled = state_at s Handled u (found-state s Handled d.unfinished u f) in
    let D : Bool = is_among (dispatched_serials d.ring) u.serial in
    let P : Bool = is_among d.placed u.serial in
    let A : Bool = is_among (answered d) u.serial in
    handled_attached D P A d.attached (is_some u.reply) (subst (λ (t : CommandState). state_fits D P A d.attached t (is_some u.reply) ≡ true) st r)

length-given : (st : SettingsData) (rows : List PendingRow) (lists : List Taken) (gs : List GivenJob) (us : List Unfinished) → AreGiven st rows lists gs us → length gs ≡ length us
length-given st rows lists [] [] h = refl
length-given st rows lists (g ∷ gs) (u ∷ us) h = ap suc (length-given st rows lists gs us h.1)
length-given st rows lists [] (u ∷ us) h = absurd h
length-given st rows lists (g ∷ gs) [] h = absurd h

-- an entry is left for each command in hand
hand_waits : (d : DeviceState) → IsSound d → length d.placed + length (filter is_in_hand d.unfinished) ≤ dispatched_commands d.ring
hand_waits d sound =
    let a : length (filter is_in_hand d.unfinished) ≡ count_by is_in_hand d.unfinished = length-filter is_in_hand d.unfinished in
    let b : count_by is_in_hand d.unfinished ≤ count_by awaits_answer d.unfinished = sum_by-le-sum_by (λ u. cond {A = ℕ} (is_in_hand u) 1 0) (λ u. cond (awaits_answer u) 1 0) d.unfinished (λ u. less (is_in_hand u) _) in
    omega (arith, a, b, awaiting d sound)
  where
    less : (x y : Bool) → cond {A = ℕ} x 1 0 ≤ cond (x || y) 1 0
    less true y = omega arith
    less false true = omega arith
    less false false = omega arith

-- the jobs with this one parked
abbrev pub jobs_with : UserState → sides.Parked → List GivenJob
jobs_with user p = with_first (is_open_job p.job.id) (with_parked p) user.jobs

abbrev pub begins_with : RegionState → UserState → sides.Parked → Placing
begins_with r user p = placing_of r (with_jobs user (jobs_with user p))

-- the commands behind those that are placed, as the respond finds them, and as it goes along them
pub record Begun (user : UserState) (rows : List PendingRow) (d : DeviceState) (lists : List Taken) (s : ℕ) (p : sides.Parked) : Type 0 where
  pub more : List Unfinished
  pub order : InOrder d more
  pub between : Between rows lists (with_jobs user (jobs_with user p)) (jobs_with user p) (parked_in d s) (turned s Handled Parked more)

pub begins : (user : UserState) (rows : List PendingRow) (d : DeviceState) (lists : List Taken) (s : ℕ) (u : Unfinished) (p : sides.Parked) (parts : List (List ℕ)) → CanRespond user rows d lists s u p parts → d.settings.flags.ooo ≡ false → Begun user rows d lists s p
begins user rows d lists s u p parts h o =
    let b = in_order d h.sound (attached d s u h.sound h.found) o in
    let more : List Unfinished = b.0 in
    let order : InOrder (parked_in d s) (turned s Handled Parked more) = in_order_parked d s more b.1 in
    let q : u.serial ≡ s = serial_at s Handled u (found-state s Handled d.unfinished u h.found) in
    let i : id_of rows s ≡ Some p.job.id = ap (id_of rows) (sym q) ∙ h.job.id in
    let given : AreGiven d.settings rows lists (jobs_with user p) (filter is_in_hand (turned s Handled Parked d.unfinished)) =
    given_parked d.settings rows lists s p.job.id user.jobs d.unfinished u p parts h.replied h.job h.differ i (can_answer d h.sound).differ h.found h.given in
    let many : length (jobs_with user p) ≡ length user.jobs = length-with_first (is_open_job p.job.id) (with_parked p) user.jobs in
    let same : length user.jobs ≡ length (filter is_in_hand d.unfinished) = length-given d.settings rows lists user.jobs (filter is_in_hand d.unfinished) h.given in
    record {
      more = more;
      order = b.1;
      between = record {
        can = can_answer_parked d s h.sound;
        fill = can_fill_parked d lists s h.sound h.owned;
        order = order;
        known = refl;
        given = subst (AreGiven d.settings rows lists (jobs_with user p)) (in_hand_behind (parked_in d s) (turned s Handled Parked more) order) given;
        room = omega (arith, many, same, hand_waits d h.sound);
        flags = h.flags;
        offsets = h.offsets;
      };
    }

pub device_runs : (d : DeviceState) (s : ℕ) → is_handled d s ≡ true → d.settings.flags.ooo ≡ false → after_respond d s ≡ ran (parked_in d s) (serials_in d.ring.laid)
unfolding after_respond
device_runs d s handled ooo =
    let start : events.Placing = record { placed = d.placed; unfinished = events.with_parked d s } in
    let laid : List ℕ = serials_in d.ring.laid in
    ap (λ b. cond b (record d { unfinished = (events.placing d s).unfinished; placed = (events.placing d s).placed }) d) handled
    ∙ ap (λ b. record d { unfinished = (placed_by b start s laid).unfinished; placed = (placed_by b start s laid).placed }) ooo

user_runs : (r : RegionState) (user : UserState) (p : sides.Parked) → user.flags.ooo ≡ false → user_responded r user p ≡ placed_front (begins_with r user p) (jobs_with user p)
unfolding user_responded
user_runs r user p ooo = ap (λ b. placing_by b r user p) ooo

-- what placing keeps, a respond keeps
pub keeps_responded : (P : Placing → DeviceState → Type 0) (r : RegionState) (user : UserState) (rows : List PendingRow) (d : DeviceState) (lists : List Taken) (s : ℕ) (u : Unfinished) (p : sides.Parked) (parts : List (List ℕ)) →
    Keeps rows lists P → CanRespond user rows d lists s u p parts → d.settings.flags.ooo ≡ false → P (begins_with r user p) (parked_in d s) → Ran rows lists P (user_responded r user p) (after_respond d s)
keeps_responded P r user rows d lists s u p parts keeps h o start =
    let b : Begun user rows d lists s p = begins user rows d lists s u p parts h o in
    let more : List Unfinished = turned s Handled Parked b.more in
    let device : after_respond d s ≡ ran (parked_in d s) (map (λ v. v.serial) more) =
    device_runs d s (any_first (is_at s Handled) d.unfinished u h.found) o ∙ ran_laid (parked_in d s) more b.between.order in
    let side : user_responded r user p ≡ placed_front (begins_with r user p) (jobs_with user p) = user_runs r user p (ap (λ (f : Flags). f.ooo) h.flags ∙ o) in
    subst (λ (z : DeviceState). Ran rows lists P (user_responded r user p) z) (sym device)
    (subst (λ (z : Placing). Ran rows lists P z (ran (parked_in d s) (map (λ v. v.serial) more))) (sym side)
    (runs rows lists P keeps (begins_with r user p) (parked_in d s) (jobs_with user p) more b.between start))

-- ==== the points

abbrev RingAnd : List Recorded → List PendingRow → List Taken → Placing → DeviceState → Type 0
RingAnd items rows lists k d = RingStands k.region.front items d lists × IdsStand k.region.front rows d

ring_keeps : (items : List Recorded) (rows : List PendingRow) (lists : List Taken) → Keeps rows lists (RingAnd items rows lists)
ring_keeps items rows lists = λ r user d s u p parts rest can fill place k.
    (ring_placed r user items rows d lists s u p parts rest can k.0 k.1 place, ids_placed r user items rows d lists s u p parts rest can k.0 k.1 place)

ring_run : (r : RegionState) (user : UserState) (items : List Recorded) (rows : List PendingRow) (d : DeviceState) (lists : List Taken) (s : ℕ) (u : Unfinished) (p : sides.Parked) (parts : List (List ℕ)) →
    CanRespond user rows d lists s u p parts → d.settings.flags.ooo ≡ false → RingStands r.front items d lists → IdsStand r.front rows d → RingAnd items rows lists (user_responded r user p) (after_respond d s)
ring_run r user items rows d lists s u p parts h o ring ids =
    (keeps_responded (RingAnd items rows lists) r user rows d lists s u p parts (ring_keeps items rows lists) h o (ring_parked r.front items d lists s ring, ids_parked r.front rows d s ids)).kept

pub ring_in_order : (r : RegionState) (user : UserState) (items : List Recorded) (rows : List PendingRow) (d : DeviceState) (lists : List Taken) (s : ℕ) (u : Unfinished) (p : sides.Parked) (parts : List (List ℕ)) →
    CanRespond user rows d lists s u p parts → d.settings.flags.ooo ≡ false → RingStands r.front items d lists → IdsStand r.front rows d → RingStands (user_responded r user p).region.front items (after_respond d s) lists
ring_in_order r user items rows d lists s u p parts h o ring ids = (ring_run r user items rows d lists s u p parts h o ring ids).0

pub ids_in_order : (r : RegionState) (user : UserState) (items : List Recorded) (rows : List PendingRow) (d : DeviceState) (lists : List Taken) (s : ℕ) (u : Unfinished) (p : sides.Parked) (parts : List (List ℕ)) →
    CanRespond user rows d lists s u p parts → d.settings.flags.ooo ≡ false → RingStands r.front items d lists → IdsStand r.front rows d → IdsStand (user_responded r user p).region.front rows (after_respond d s)
ids_in_order r user items rows d lists s u p parts h o ring ids = (ring_run r user items rows d lists s u p parts h o ring ids).1

pub notes_in_order : (r : RegionState) (user : UserState) (items : List Recorded) (rows : List PendingRow) (d : DeviceState) (lists : List Taken) (s : ℕ) (u : Unfinished) (p : sides.Parked) (parts : List (List ℕ)) →
    CanRespond user rows d lists s u p parts → d.settings.flags.ooo ≡ false → RingStands r.front items d lists → IdsStand r.front rows d → NotesStand r.front rows d → NotesStand (user_responded r user p).region.front rows (after_respond d s)
notes_in_order r user items rows d lists s u p parts h o ring ids notes =
    (keeps_responded (λ k e. RingAnd items rows lists k e × NotesStand k.region.front rows e) r user rows d lists s u p parts
    (λ r user d s u p parts rest can fill place k. (ring_keeps items rows lists r user d s u p parts rest can fill place k.0, notes_placed r user items rows d lists s u p parts rest can k.0.0 place k.1))
    h o ((ring_parked r.front items d lists s ring, ids_parked r.front rows d s ids), notes_parked r.front rows d s notes)).kept.1

pub pages_in_order : (r : RegionState) (user : UserState) (rows : List PendingRow) (d : DeviceState) (lists : List Taken) (s : ℕ) (u : Unfinished) (p : sides.Parked) (parts : List (List ℕ)) →
    CanRespond user rows d lists s u p parts → d.settings.flags.ooo ≡ false → r.pages ≡ d.settings.pages → (user_responded r user p).region.pages ≡ (after_respond d s).settings.pages
pages_in_order r user rows d lists s u p parts h o pages =
    (keeps_responded (λ k e. k.region.pages ≡ e.settings.pages) r user rows d lists s u p parts
    (λ r user d s u p parts rest can fill place k. pages_placed r user rows d lists s u p parts rest can place ∙ k) h o pages).kept

pub blocks_in_order : (r : RegionState) (user : UserState) (items : List Recorded) (rows : List PendingRow) (d : DeviceState) (lists : List Taken) (s : ℕ) (u : Unfinished) (p : sides.Parked) (parts : List (List ℕ)) →
    CanRespond user rows d lists s u p parts → d.settings.flags.ooo ≡ false → RingStands r.front items d lists → IdsStand r.front rows d → r.pages ≡ d.settings.pages → BlocksStand r.blocks d lists →
    BlocksStand (user_responded r user p).region.blocks (after_respond d s) lists
blocks_in_order r user items rows d lists s u p parts h o ring ids pages blocks =
    (keeps_responded (λ k e. RingAnd items rows lists k e × (k.region.pages ≡ e.settings.pages) × BlocksStand k.region.blocks e lists) r user rows d lists s u p parts
    (λ r user d s u p parts rest can fill place k. (
      ring_keeps items rows lists r user d s u p parts rest can fill place k.0,
      pages_placed r user rows d lists s u p parts rest can place ∙ k.1,
      blocks_placed r user items rows d lists s u p parts rest can fill k.0.0 k.1 k.2 place,
    ))
    h o ((ring_parked r.front items d lists s ring, ids_parked r.front rows d s ids), pages, blocks_parked r.blocks d lists s blocks)).kept.2

pub target_in_order : (user : UserState) (t : TargetState) (rows : List PendingRow) (d : DeviceState) (lists : List Taken) (s : ℕ) (u : Unfinished) (p : sides.Parked) (parts : List (List ℕ)) →
    CanRespond user rows d lists s u p parts → d.settings.flags.ooo ≡ false → TargetKeeps t d lists → TargetKeeps t (after_respond d s) lists
target_in_order user t rows d lists s u p parts h o keeps =
    (keeps_responded (λ k e. TargetKeeps t e lists) no_region user rows d lists s u p parts (λ r user d s u p parts rest can fill place k. target_placed t d lists s k) h o (target_parked t d lists s keeps)).kept
  where
    no_region : RegionState
    no_region = record { front = []; blocks = []; pages = 0 }

pub side_in_order : (r : RegionState) (user : UserState) (rows : List PendingRow) (d : DeviceState) (lists : List Taken) (s : ℕ) (u : Unfinished) (p : sides.Parked) (parts : List (List ℕ)) →
    CanRespond user rows d lists s u p parts → d.settings.flags.ooo ≡ false → UserKeeps user d → UserKeeps (user_responded r user p).user (after_respond d s)
side_in_order r user rows d lists s u p parts h o keeps =
    let start : UserKeeps user (parked_in d s) = side_parked user d s keeps in
    (keeps_responded (λ k e. UserKeeps k.user e) r user rows d lists s u p parts (λ r user d s u p parts rest can fill place k. user_placed r user rows d lists s u p parts rest can k place) h o
    (record { ring = start.ring; pages = start.pages; flags = start.flags; tail = start.tail; dispatched = start.dispatched; placed = start.placed; published = start.published; place = start.place; items = start.items })).kept

-- ==== the jobs

-- an answer that is placed changes no job that is out
outs_placed : (s : ℕ) (us : List Unfinished) → filter is_out (turned s Parked Placed us) ≡ filter is_out us
outs_placed s [] = refl
outs_placed s (u ∷ us) =
    ⊎_elim
    (λ (k : is_at s Parked u ≡ true). let st : u.state ≡ Parked = state_at s Parked u k in let n : is_out u ≡ false = rw st refl in rw (k, n) refl)
    (λ (k : is_at s Parked u ≡ false). rw k (ap (λ vs. cond (is_out u) (u ∷ vs) vs) (outs_placed s us)))
    (cases_Bool (is_at s Parked u))

pub jobs_in_order : (r : RegionState) (user : UserState) (hand : List InHand) (rows : List PendingRow) (d : DeviceState) (lists : List Taken) (s : ℕ) (u : Unfinished) (p : sides.Parked) (parts : List (List ℕ)) →
    CanRespond user rows d lists s u p parts → d.settings.flags.ooo ≡ false → IdsStand r.front rows d → JobsStand user hand rows d lists → JobsStand (user_responded r user p).user (hand_responded hand s) rows (after_respond d s) lists
jobs_in_order r user hand rows d lists s u p parts h o ids jobs =
    let parked = jobs_parked r.front user hand rows d lists s u p parts h.sound h.found h.replied h.job ids jobs in
    let left : List InHand = hand_responded hand s in
    let end = keeps_responded (λ k e. AreOut e.settings rows lists left (filter is_out e.unfinished)) r user rows d lists s u p parts
    (λ r user d s u p parts rest can fill place k. subst (AreOut d.settings rows lists left) (sym (outs_placed s d.unfinished)) k) h o parked.out in
    let e : DeviceState = after_respond d s in
    record {
      given = subst (AreGiven e.settings rows lists (user_responded r user p).user.jobs) (sym (in_hand_behind e end.more end.between.order)) end.between.given;
      out = end.kept;
      offsets = end.between.offsets;
    }
