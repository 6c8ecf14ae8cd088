-- A reset of a blocked device with nothing in hand: what is published is cleaned, all that is open is logged, and nothing is left.
use Rattle.std.proofs.Common.{◌≡◌, ℕ, ◌+◌, ◌%◌, ◌≤◌, not, Bool, cond, List, [], ◌∷◌, ◌++◌, length, take, map, filter, refl, sym, ap, ◌∙◌, arith, Ok, length-append, subst, eqb}
use Rattle.std.specs.List.{count_by}
use Rattle.std.proofs.lemmas.List.{nil_from_length}
use Rattle.std.proofs.lemmas.Simd.{map-map}
use Rattle.std.proofs.lemmas.List.Sums.{length-filter}
use Rattle.tcmu_types.specs.Data.{DoneData, SettingsData}
use Rattle.tcmu_types.specs.declared.settings.Flags.{Flags}
use Rattle.tcmu_types.specs.declared.answer.Reset.TheVariants as reset
use Rattle.tcmu_model.specs.RingState.{head}
use Rattle.tcmu_model.specs.Device.{Unfinished, Delayed, DeviceState}
use Rattle.tcmu_model.specs.Events.{after_clean, after_reset, clean_answer, count_in_hand, emptied, is_in_hand, is_open, reset_answer, reset_completion, reset_completions}
use Rattle.tcmu_model.specs.Sound.{IsSound}
use Rattle.tcmu_model.specs.BlockLists.{Taken, kept_lists}
use Rattle.region_model.specs.Layout.{ring_start, head_place, tail_place, mailbox_bytes, device_mailbox}
use Rattle.tcmu_types.specs.ByteFields.{le, put}
use Rattle.region_model.specs.Regions.{RegionState}
use Rattle.region_model.specs.Pending.{PendingData}
use Rattle.tcmu_model.proofs.DrainEnds.{clean_logs}
use Rattle.tcmu_model.proofs.ResetMade.{reset_made, by_reset}
use Rattle.tcmu_types.proofs.Everies.{map_filter}
use Rattle.tcmu_model.proofs.SoundEvents.{sound_after_reset}
use Rattle.tcmu_types.proofs.ByteFields.{length-le, length-put}
use Rattle.region_model.specs.Picture.{tail}
use Rattle.region_model.specs.Sides.{GivenJob, InHand, PendingRow, Recorded, TargetState, UserState}
use Rattle.region_model.specs.Represents.{AreGiven, BlocksStand, IdsStand, JobsStand, NotesStand, RingStands, TargetKeeps, UserKeeps, pending_of}
use Rattle.region_model.specs.TargetCleans.{region_reset, reset_log, reset_logs, target_cleaned, target_reset, target_reset_answer}
use Rattle.region_model.specs.UserSteps.{opening_user, region_abandoned, region_reattached, user_attached}
use Rattle.tcmu_model.specs.Owned.{ListsSound}
use Rattle.ring_laws.specs.Attached.{attached_user}
use Rattle.ring_laws.specs.Cleaned.{CanClean}
use Rattle.ring_laws.specs.Emptied.{reset_answered}
use Rattle.ring_laws.specs.Restarted.{count_jobs, count_parked}
use Rattle.ring_laws.proofs.Layouts.{take-written_inside, mailbox_moved}
use Rattle.ring_laws.proofs.published.TailMoved.{tail_moved}
use Rattle.ring_laws.proofs.opened.Opened.{flags-again}
use Rattle.ring_laws.proofs.cleaned.CleanedRecords.{target_cleaned_keeps}
use Rattle.ring_laws.proofs.attached.AttachedUser.{attached_same, reattached_same}
use Rattle.ring_laws.proofs.restarted.RestartedAnswer.{jobs_counted}
use Rattle.tcmu_model.proofs.ListsKept.{lists_emptied, none_kept}

-- ==== the log

-- a command without its block list, as far as a completion goes
reset_same : (lists : List Taken) (level : ℕ) (u : Unfinished) → reset_log level (pending_of lists u) ≡ reset_completion level u.serial u.command
reset_same lists level u = refl

rows_reset : (lists : List Taken) (level : ℕ) (rows : List PendingRow) (us : List Unfinished) → map (λ e. e.pending) rows ≡ map (pending_of lists) us →
    map (λ e. reset_log level e.pending) (filter (λ e. not e.pending.expired) rows) ≡ map (λ u. reset_completion level u.serial u.command) (filter is_open us)
rows_reset lists level rows us h =
    let p : PendingData → Bool = λ q. not q.expired in
    let f : PendingRow → PendingData = λ e. e.pending in
    sym (map-map (reset_log level) f (filter (λ e. p (f e)) rows)) ∙ ap (map (reset_log level)) (map_filter f p rows) ∙ ap (λ qs. map (reset_log level) (filter p qs)) h
    ∙ ap (map (reset_log level)) (sym (map_filter (pending_of lists) p us)) ∙ map-map (reset_log level) (pending_of lists) (filter is_open us)

logs_reset : (t : TargetState) (d : DeviceState) (lists : List Taken) (level : ℕ) → TargetKeeps t d lists → reset_logs t level ≡ reset_completions d level
logs_reset t d lists level k =
    let delayed : List Delayed → List DoneData = λ ws. map (λ w. reset_completion level w.serial w.command) ws in
    ap (λ es. es ++ delayed t.delayed) (rows_reset lists level t.rows d.unfinished k.rows) ∙ ap (λ ws. map (λ u. reset_completion level u.serial u.command) (filter is_open d.unfinished) ++ delayed ws) k.delayed

log_reset : (r : RegionState) (t : TargetState) (d : DeviceState) (lists : List Taken) (level : ℕ) → CanClean r t d lists → (target_reset r t level).log ≡ (after_clean d).log ++ reset_completions (after_clean d) level
unfolding target_reset
log_reset r t d lists level h =
    let k = target_cleaned_keeps r t d lists h in
    ap (λ es. es ++ reset_logs (target_cleaned r t) level) k.log ∙ ap (λ es. (after_clean d).log ++ es) (logs_reset (target_cleaned r t) (after_clean d) lists level k)

number_reset : (r : RegionState) (t : TargetState) (d : DeviceState) (lists : List Taken) (level : ℕ) → CanClean r t d lists → target_reset_answer r t level ≡ clean_answer d + length (reset_completions (after_clean d) level)
unfolding target_reset_answer
number_reset r t d lists level h =
    let a : length (target_reset r t level).log ≡ length ((after_clean d).log ++ reset_completions (after_clean d) level) = ap length (log_reset r t d lists level h) in
    let b : length ((after_clean d).log ++ reset_completions (after_clean d) level) ≡ length (after_clean d).log + length (reset_completions (after_clean d) level) = length-append (after_clean d).log (reset_completions (after_clean d) level) in
    let c : length t.log ≡ length d.log = ap length h.target.log in
    omega (arith, a, b, c, clean_logs d)

-- ==== the answers

pub logged_reset : (r : RegionState) (t : TargetState) (d : DeviceState) (lists : List Taken) (level n : ℕ) → CanClean r t d lists → reset_answer d level ≡ reset.Reset n → target_reset_answer r t level ≡ n
logged_reset r t d lists level n h a = let k = reset_made d level n a in number_reset r t d lists level h ∙ sym k.number

pub answer_reset : (r : RegionState) (t : TargetState) (user : UserState) (hand : List InHand) (d : DeviceState) (lists : List Taken) (level : ℕ) → CanClean r t d lists → JobsStand user hand t.rows d lists →
    reset_answered r t hand user level ≡ reset_answer d level
unfolding reset_answered reset_answer
answer_reset r t user hand d lists level h jobs =
    let c : count_jobs hand user ≡ count_in_hand d = jobs_counted user hand t.rows d lists jobs in
    ap (λ b. cond b (cond (eqb (count_jobs hand user) 0) (reset.Reset (target_reset_answer r t level)) (reset.HandlersOut (count_jobs hand user))) reset.NotBlocked) h.target.blocked
    ∙ ap (λ m. cond d.blocked (cond (eqb m 0) (reset.Reset (target_reset_answer r t level)) (reset.HandlersOut m)) reset.NotBlocked) c
    ∙ ap (λ m. cond d.blocked (cond (eqb (count_in_hand d) 0) (reset.Reset m) (reset.HandlersOut (count_in_hand d))) reset.NotBlocked) (number_reset r t d lists level h)

-- ==== the jobs that are left: none

no-jobs : (user : UserState) (hand : List InHand) (rows : List PendingRow) (d : DeviceState) (lists : List Taken) (level n : ℕ) → reset_answer d level ≡ reset.Reset n → JobsStand user hand rows d lists → user.jobs ≡ []
no-jobs user hand rows d lists level n a h =
    let k = reset_made d level n a in
    let l : length (filter is_in_hand d.unfinished) ≡ count_by is_in_hand d.unfinished = length-filter is_in_hand d.unfinished in
    let e : filter is_in_hand d.unfinished ≡ [] = nil_from_length (filter is_in_hand d.unfinished) (l ∙ k.none) in
    none_given user.jobs (subst (AreGiven d.settings rows lists user.jobs) e h.given)
  where
    none_given : (gs : List GivenJob) → AreGiven d.settings rows lists gs [] → gs ≡ []
    none_given [] g = refl
    none_given (x ∷ gs) g = absurd g

pub hand_reset : (user : UserState) (hand : List InHand) (rows : List PendingRow) (d : DeviceState) (lists : List Taken) (level n : ℕ) → reset_answer d level ≡ reset.Reset n → JobsStand user hand rows d lists → hand ≡ []
hand_reset user hand rows d lists level n a h =
    let k = reset_made d level n a in
    let c : length hand + count_parked user.jobs ≡ count_in_hand d = jobs_counted user hand rows d lists h in
    let z : count_in_hand d ≡ 0 = k.none in
    nil_from_length hand (omega (arith, c, z))

-- ==== the target

zero_place : (d : DeviceState) → IsSound d → 0 % d.ring.size ≡ 0
zero_place d sound = let size : d.ring.size ≡ d.settings.ring = sound.ring.size in let low : 4096 ≤ d.settings.ring = sound.settings.ring.least in omega arith

clean_place : (d : DeviceState) → IsSound d → 0 ≡ 0 % (after_clean d).ring.size
unfolding after_clean
clean_place d sound = sym (zero_place d sound)

target_emptied : (r : RegionState) (t : TargetState) (d : DeviceState) (lists : List Taken) (level : ℕ) → CanClean r t d lists → TargetKeeps (target_reset r t level) (emptied (after_clean d) level) []
unfolding target_reset
target_emptied r t d lists level h =
    let k = target_cleaned_keeps r t d lists h in
    record {
      settings = k.settings;
      now = k.now;
      blocked = k.blocked;
      accepted = k.accepted;
      rows = refl;
      delayed = refl;
      cleaned = clean_place d h.sound;
      laid = refl;
      cleared = refl;
      broken = refl;
      log = log_reset r t d lists level h;
    }

pub target_reset_keeps : (r : RegionState) (t : TargetState) (d : DeviceState) (lists : List Taken) (level n : ℕ) → CanClean r t d lists → reset_answer d level ≡ reset.Reset n → TargetKeeps (target_reset r t level) (after_reset d level) []
target_reset_keeps r t d lists level n h a = by_reset (λ e. TargetKeeps (target_reset r t level) e []) d level n a (target_emptied r t d lists level h)

-- ==== the region

empty_mailbox : (front : List ℕ) (items : List Recorded) (d : DeviceState) (lists : List Taken) → RingStands front items d lists →
    take ring_start (put (put front head_place (le 4 0)) tail_place (le 4 0)) ≡ mailbox_bytes (device_mailbox d.settings.flags d.ring.size 0 0)
empty_mailbox front items d lists h =
    let long : length front ≡ 4096 + d.ring.size = h.long in
    let l4 : length (le 4 0) ≡ 4 = length-le 4 0 in
    let front1 : List ℕ = put front head_place (le 4 0) in
    let long1 : length front1 ≡ length front = length-put front head_place (le 4 0) (omega arith) in
    take-written_inside front1 tail_place (le 4 0) ring_start (omega arith) (omega arith)
    ∙ ap (λ m. put m tail_place (le 4 0)) (take-written_inside front head_place (le 4 0) ring_start (omega arith) (omega arith) ∙ ap (λ m. put m head_place (le 4 0)) h.mailbox
    ∙ mailbox_moved d.settings.flags d.ring.size (head d.ring) (tail d.ring) 0)
    ∙ tail_moved d.settings.flags d.ring.size 0 (tail d.ring) 0

ring_emptied : (r : RegionState) (t : TargetState) (d : DeviceState) (lists : List Taken) (level : ℕ) → IsSound d → RingStands r.front t.items d lists → RingStands (region_reset r).front (target_reset r t level).items (emptied (after_clean d) level) []
unfolding region_reset target_reset after_clean
ring_emptied r t d lists level sound h =
    let long : length r.front ≡ 4096 + d.ring.size = h.long in
    let l4 : length (le 4 0) ≡ 4 = length-le 4 0 in
    let front1 : List ℕ = put r.front head_place (le 4 0) in
    let long1 : length front1 ≡ length r.front = length-put r.front head_place (le 4 0) (omega arith) in
    let z : 0 ≡ 0 % d.ring.size = sym (zero_place d sound) in
    record {
      long = length-put front1 tail_place (le 4 0) (omega arith) ∙ long1 ∙ h.long;
      mailbox = empty_mailbox r.front t.items d lists h ∙ ap (λ y. mailbox_bytes (device_mailbox d.settings.flags d.ring.size y 0)) z
          ∙ ap (λ y. mailbox_bytes (device_mailbox d.settings.flags d.ring.size (0 % d.ring.size) y)) z;
      stands = λ i x c g. absurd (cc);
      recorded = refl;
    }

pub ring_reset : (r : RegionState) (t : TargetState) (d : DeviceState) (lists : List Taken) (level n : ℕ) → IsSound d → RingStands r.front t.items d lists → reset_answer d level ≡ reset.Reset n →
    RingStands (region_reset r).front (target_reset r t level).items (after_reset d level) []
ring_reset r t d lists level n sound h a = by_reset (λ e. RingStands (region_reset r).front (target_reset r t level).items e []) d level n a (ring_emptied r t d lists level sound h)

ids_emptied : (r : RegionState) (t : TargetState) (d : DeviceState) (level : ℕ) → IdsStand (region_reset r).front (target_reset r t level).rows (emptied (after_clean d) level)
unfolding target_reset
ids_emptied r t d level = record { range = tt; differ = tt; answered = λ i x q c g k p. absurd (cc); own = λ i m q c l g. absurd (cc) }

pub ids_reset : (r : RegionState) (t : TargetState) (d : DeviceState) (level n : ℕ) → reset_answer d level ≡ reset.Reset n → IdsStand (region_reset r).front (target_reset r t level).rows (after_reset d level)
ids_reset r t d level n a = by_reset (λ e. IdsStand (region_reset r).front (target_reset r t level).rows e) d level n a (ids_emptied r t d level)

pub notes_reset : (r : RegionState) (t : TargetState) (d : DeviceState) (level n : ℕ) → reset_answer d level ≡ reset.Reset n → NotesStand (region_reset r).front (target_reset r t level).rows (after_reset d level)
notes_reset r t d level n a = by_reset (λ e. NotesStand (region_reset r).front (target_reset r t level).rows e) d level n a (λ i m k ss l g. absurd (cc))

blocks_emptied : (r : RegionState) (d : DeviceState) (level : ℕ) → BlocksStand (region_reset r).blocks (emptied (after_clean d) level) []
unfolding region_reset
blocks_emptied r d level = record { all = tt; just = λ b g. absurd (cc) }

pub blocks_reset : (r : RegionState) (d : DeviceState) (level n : ℕ) → reset_answer d level ≡ reset.Reset n → BlocksStand (region_reset r).blocks (after_reset d level) []
blocks_reset r d level n a = by_reset (λ e. BlocksStand (region_reset r).blocks e []) d level n a (blocks_emptied r d level)

pages_emptied : (r : RegionState) (d : DeviceState) (level : ℕ) → r.pages ≡ d.settings.pages → (region_reset r).pages ≡ (emptied (after_clean d) level).settings.pages
unfolding region_reset after_clean
pages_emptied r d level h = h

pub pages_reset : (r : RegionState) (d : DeviceState) (level n : ℕ) → r.pages ≡ d.settings.pages → reset_answer d level ≡ reset.Reset n → (region_reset r).pages ≡ (after_reset d level).settings.pages
pages_reset r d level n h a = by_reset (λ e. (region_reset r).pages ≡ e.settings.pages) d level n a (pages_emptied r d level h)

-- ==== the lists

pub kept_reset : (d : DeviceState) (lists : List Taken) (level n : ℕ) → reset_answer d level ≡ reset.Reset n → kept_lists (after_reset d level) lists ≡ []
kept_reset d lists level n a = by_reset (λ e. kept_lists e lists ≡ []) d level n a (none_kept (after_clean d) level lists)

pub lists_reset : (d : DeviceState) (level n : ℕ) → reset_answer d level ≡ reset.Reset n → ListsSound (after_reset d level) []
lists_reset d level n a = by_reset (λ e. ListsSound e []) d level n a (lists_emptied (after_clean d) level)

-- ==== the user side

jobs_emptied : (r : RegionState) (t : TargetState) (d : DeviceState) (level : ℕ) → JobsStand (opening_user d.settings) [] (target_reset r t level).rows (emptied (after_clean d) level) []
unfolding opening_user
jobs_emptied r t d level = record { given = tt; out = tt; offsets = refl }

pub jobs_reset : (r : RegionState) (t : TargetState) (d : DeviceState) (level n : ℕ) → reset_answer d level ≡ reset.Reset n → JobsStand (opening_user d.settings) [] (target_reset r t level).rows (after_reset d level) []
jobs_reset r t d level n a = by_reset (λ e. JobsStand (opening_user d.settings) [] (target_reset r t level).rows e []) d level n a (jobs_emptied r t d level)

side_emptied : (d : DeviceState) (level : ℕ) → IsSound d → UserKeeps (opening_user d.settings) (emptied (after_clean d) level)
unfolding opening_user after_clean
side_emptied d level sound =
    let z : 0 ≡ 0 % d.ring.size = sym (zero_place d sound) in
    record { ring = refl; pages = refl; flags = flags-again d.settings.flags; tail = z; dispatched = refl; placed = refl; published = refl; place = λ p. z; items = λ p. refl }

pub side_reset : (d : DeviceState) (level n : ℕ) → IsSound d → reset_answer d level ≡ reset.Reset n → UserKeeps (opening_user d.settings) (after_reset d level)
side_reset d level n sound a = by_reset (λ e. UserKeeps (opening_user d.settings) e) d level n a (side_emptied d level sound)

opened : (d : DeviceState) (level : ℕ) → IsSound d → attached_user (emptied (after_clean d) level) ≡ opening_user d.settings
unfolding opening_user after_clean
opened d level sound =
    let s : SettingsData = d.settings in
    ap (λ n. record (attached_user (emptied (after_clean d) level)) { place = n; tail = n }) (zero_place d sound)
    ∙ ap (λ (f : Flags). record (opening_user s) { flags = f }) (sym (flags-again s.flags))

pub attached_reset : (r : RegionState) (t : TargetState) (d : DeviceState) (lists : List Taken) (level n : ℕ) → IsSound d → RingStands r.front t.items d lists → r.pages ≡ d.settings.pages → reset_answer d level ≡ reset.Reset n →
    user_attached (region_reset r) ≡ Ok (opening_user d.settings)
attached_reset r t d lists level n sound h pages a =
    let k = reset_made d level n a in
    attached_same (region_reset r) (target_reset r t level).items (after_reset d level) [] (sound_after_reset d level sound) (ring_reset r t d lists level n sound h a) (pages_reset r d level n pages a)
    ∙ ap (λ e. Ok (attached_user e)) k.after ∙ ap Ok (opened d level sound)

pub reattached_reset : (r : RegionState) (t : TargetState) (user : UserState) (hand : List InHand) (rows : List PendingRow) (d : DeviceState) (lists : List Taken) (level n : ℕ) → IsSound d → RingStands r.front t.items d lists → r.pages ≡ d.settings.pages →
    JobsStand user hand rows d lists → reset_answer d level ≡ reset.Reset n → region_reattached (region_reset r) user ≡ region_reset r
unfolding region_abandoned
reattached_reset r t user hand rows d lists level n sound h pages jobs a =
    reattached_same (region_reset r) user (target_reset r t level).items (after_reset d level) [] (sound_after_reset d level sound) (ring_reset r t d lists level n sound h a) (pages_reset r d level n pages a)
    ∙ ap (region_abandoned (region_reset r)) (no-jobs user hand rows d lists level n a jobs)
