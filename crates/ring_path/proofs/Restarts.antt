-- A restart on a region that stands for a device.
use Rattle.std.proofs.Common.{◌≡◌, ℕ, ◌+◌, ◌-◌, ◌*◌, ◌/◌, ◌≤◌, Bool, true, false, cond, List, [], ◌∷◌, length, filter, refl, sym, ap, ◌∙◌, subst, arith}
use Rattle.tcmu_types.specs.Data.{SettingsData}
use Rattle.tcmu_types.specs.Lists.{Every}
use Rattle.tcmu_types.specs.Rules.{payload_length}
use Rattle.tcmu_types.proofs.Everies.{every-filter}
use Rattle.tcmu_model.specs.BlockLists.{Taken, list_of}
use Rattle.tcmu_model.specs.Device.{DeviceState, Unfinished}
use Rattle.tcmu_model.specs.Events.{after_restart, restart_answer}
use Rattle.tcmu_model.specs.Lengths.{block_size, blocks_of}
use Rattle.tcmu_model.proofs.HoldersKept.{lists_restarted}
use Rattle.tcmu_model.proofs.LaidAfter.{laid_restarted}
use Rattle.tcmu_model.proofs.SoundEvents.{sound_after_restart}
use Rattle.region_model.specs.Iovecs.{iovs_along}
use Rattle.region_model.specs.Layout.{data_start}
use Rattle.region_model.specs.Regions.{HaveSize, RegionState, named_by, numbers_of, size_of}
use Rattle.region_model.specs.Represents.{AreOut, IsJobOf, is_out}
use Rattle.region_model.specs.Sides.{Carried, Copied, InHand, JobState, Moved, PendingRow, TargetState, UserState}
use Rattle.region_model.specs.UserSteps.{with_job_back}
use Rattle.ring_laws.specs.Restarted.{count_jobs, count_parked, region_with_hand, restarted_answer}
use Rattle.ring_laws.specs.UserKept.{HasPages, HasRing}
use Rattle.ring_laws.proofs.placed.AnswerData.{iovs-numbers}
use Rattle.ring_laws.proofs.restarted.RestartedAnswer.{answer_restarted}
use Rattle.user_lib.specs.Answering.{GoesBack}
use Rattle.user_lib.specs.OnDevice.{RestartsDevice, StandsFor}
use Rattle.ring_path.specs.Backs.{AllGoBack}
use Rattle.ring_path.specs.Devices.{RingDevice, device_restarted}
use Rattle.ring_path.specs.Rings.{IsRing}
use Rattle.ring_path.proofs.Notes.{short_same}
use Rattle.ring_path.proofs.Standing.{few_same, has_ring, stands_left}

-- ==== jobs go back

-- the front and the pages of a region, and what its jobs need of it
record IsOf (r : RegionState) (s : SettingsData) : Type 0 where
  pub low : 1 ≤ s.pages
  pub long : length r.front ≡ data_start s.ring
  pub pages : r.pages ≡ s.pages

job_goes : (r : RegionState) (s : SettingsData) (rows : List PendingRow) (lists : List Taken) (u : Unfinished) (job : JobState) (parts : List (List ℕ)) → IsOf r s → length (list_of lists u.serial) ≡ blocks_of s.pages u.command → IsJobOf s rows lists u job parts →
    GoesBack r job.iovs job.carried
job_goes r s rows lists u job parts h sz j others e =
    let size : ℕ = block_size s.pages in
    let start : ℕ = data_start s.ring in
    let bs : List ℕ = list_of lists u.serial in
    let n : ℕ = payload_length u.command in
    let same : parts ≡ others = moved parts others (sym j.carried ∙ e) in
    let room : size * length bs ≡ size * ((n + (size - 1)) / size) = ap (λ y. size * y) sz in
    let low : 1 ≤ s.pages = h.low in
    let numbers : numbers_of start size (iovs_along start size bs n) ≡ bs = iovs-numbers start size bs n (omega arith) (omega arith) (omega arith) in
    let named : named_by r job.iovs ≡ bs = ap (λ y. numbers_of y (size_of r) job.iovs) h.long ∙ ap (λ y. numbers_of start (block_size y) job.iovs) h.pages ∙ ap (numbers_of start size) j.iovs ∙ numbers in (
      subst (λ y. HaveSize (block_size y) others) (sym h.pages) (subst (HaveSize size) same j.size),
      ap length (sym same) ∙ j.count ∙ ap length (sym named),
    )
  where
    moved : (xs ys : List (List ℕ)) → Moved xs ≡ Moved ys → xs ≡ ys
    moved xs ys q = cc

-- a job that goes back leaves the front and the pages
of_back : (r : RegionState) (s : SettingsData) (job : JobState) → IsOf r s → IsOf (with_job_back r job) s
of_back r s job h = go job.carried
  where
    go : (c : Carried) → IsOf (with_job_back r (record job { carried = c })) s
    go (Moved parts) = record { low = h.low; long = h.long; pages = h.pages }
    go (Copied bytes) = h

all_go : (r : RegionState) (s : SettingsData) (rows : List PendingRow) (lists : List Taken) (hs : List InHand) (us : List Unfinished) → IsOf r s → Every (λ (u : Unfinished). length (list_of lists u.serial) ≡ blocks_of s.pages u.command) us → AreOut s rows lists hs us → AllGoBack r hs
all_go r s rows lists [] us h sz a = tt
all_go r s rows lists (x ∷ hs) [] h sz a = absurd a
all_go r s rows lists (x ∷ hs) (u ∷ us) h sz a = (job_goes r s rows lists u x.job a.0.2.0 h sz.0 a.0.2.1, all_go (with_job_back r x.job) s rows lists hs us (of_back r s x.job h) sz.1 a.1)

is_of : (r : RegionState) (t : TargetState) (u : UserState) (hand : List InHand) (d : DeviceState) (lists : List Taken) → StandsFor r t u hand d lists → IsOf r d.settings
is_of r t u hand d lists k =
    record {
      low = k.sound.settings.pages_low;
      long = has_ring r t u hand d lists k ∙ ap data_start k.represents.side.ring;
      pages = k.represents.pages;
    }

pub all_go_back : (r : RegionState) (t : TargetState) (u : UserState) (hand : List InHand) (d : DeviceState) (lists : List Taken) → StandsFor r t u hand d lists → AllGoBack r hand
all_go_back r t u hand d lists k =
    all_go r d.settings t.rows lists hand (filter is_out d.unfinished) (is_of r t u hand d lists k) (every-filter is_out (λ (v : Unfinished). length (list_of lists v.serial) ≡ blocks_of d.settings.pages v.command) d.unfinished k.owned.sizes) k.represents.jobs.out

-- with the jobs back the region is still that of the user side
of_hand : (r : RegionState) (s : SettingsData) (hs : List InHand) → IsOf r s → IsOf (region_with_hand r hs) s
of_hand r s [] h = h
of_hand r s (x ∷ hs) h = of_hand (with_job_back r x.job) s hs (of_back r s x.job h)

pub ring_with_hand : (r left : RegionState) (t : TargetState) (u : UserState) (hand : List InHand) (d : DeviceState) (lists : List Taken) → StandsFor r t u hand d lists → left ≡ region_with_hand r hand → HasRing left u
ring_with_hand r left t u hand d lists k e =
    let o = of_hand r d.settings hand (is_of r t u hand d lists k) in
    ap (λ (x : RegionState). length x.front) e ∙ o.long ∙ ap data_start (sym k.represents.side.ring)

pub pages_with_hand : (r left : RegionState) (t : TargetState) (u : UserState) (hand : List InHand) (d : DeviceState) (lists : List Taken) → StandsFor r t u hand d lists → left ≡ region_with_hand r hand → HasPages left u
pages_with_hand r left t u hand d lists k e =
    let o = of_hand r d.settings hand (is_of r t u hand d lists k) in
    ap (λ (x : RegionState). x.pages) e ∙ o.pages ∙ sym k.represents.side.pages

-- ==== what stands

attached_restarted : (d : DeviceState) → (after_restart d).attached ≡ false
unfolding after_restart
attached_restarted d = refl

pub accepted_restarted : (d : DeviceState) → (after_restart d).accepted ≡ d.accepted
unfolding after_restart
accepted_restarted d = refl

pub restart_keeps : (r between left : RegionState) (t : TargetState) (u after : UserState) (hand none : List InHand) (b : Bool) (most : ℕ) (k : RingDevice) → IsRing r t u hand b most k → between ≡ region_with_hand r hand → RestartsDevice between u left after → none ≡ [] →
    IsRing left t after none false most (device_restarted k)
restart_keeps r between left t u after hand none b most k h e w g =
    let d : DeviceState = k.state in
    subst (λ (xs : List InHand). IsRing left t after xs false most (device_restarted k)) (sym g)
    (record {
      stands = stands_left left t after [] (after_restart d) k.lists (sound_after_restart d h.stands.sound) (lists_restarted d k.lists h.stands.owned) (w r t hand d k.lists h.stands e);
      attached = sym (attached_restarted d);
      notes = short_same most d.ring.laid (after_restart d).ring.laid (laid_restarted d) h.notes;
      few = few_same d.accepted (after_restart d).accepted (accepted_restarted d) h.few;
    })

-- ==== the answers

-- the commands that turn Lost, by what both sides count
pub losing_attached : (r : RegionState) (t : TargetState) (u : UserState) (hand : List InHand) (b : Bool) (most : ℕ) (k : RingDevice) (n : ℕ) → IsRing r t u hand b most k → b ≡ true → n ≡ (length hand + count_parked u.jobs) + (u.placed - u.published) → n ≡ restart_answer k.state
unfolding restarted_answer
losing_attached r t u hand b most k n h a e =
    let p = h.stands.represents in
    let q : restarted_answer k.state.attached hand u ≡ restart_answer k.state = answer_restarted u hand t.rows k.state k.lists h.stands.sound p.jobs p.side in
    e ∙ ap (λ (x : Bool). cond x (count_jobs hand u + (u.placed - u.published)) 0) (sym a ∙ h.attached) ∙ q

pub losing_detached : (r : RegionState) (t : TargetState) (u : UserState) (hand : List InHand) (b : Bool) (most : ℕ) (k : RingDevice) → IsRing r t u hand b most k → b ≡ false → 0 ≡ restart_answer k.state
unfolding restarted_answer
losing_detached r t u hand b most k h a =
    let p = h.stands.represents in
    let q : restarted_answer k.state.attached hand u ≡ restart_answer k.state = answer_restarted u hand t.rows k.state k.lists h.stands.sound p.jobs p.side in
    ap (λ (x : Bool). cond x (count_jobs hand u + (u.placed - u.published)) 0) (sym a ∙ h.attached) ∙ q
