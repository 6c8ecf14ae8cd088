-- A respond, whichever way answers are placed.
use Rattle.std.proofs.Common.{◌≡◌, ℕ, true, false, List, ⊎_elim}
use Rattle.std.proofs.lemmas.Bool.{cases_Bool}
use Rattle.tcmu_model.specs.Device.{Unfinished, DeviceState}
use Rattle.tcmu_model.specs.Events.{after_respond, respond_answer}
use Rattle.tcmu_model.specs.BlockLists.{Taken}
use Rattle.region_model.specs.Regions.{RegionState}
use Rattle.region_model.specs.Sides.{InHand, PendingRow, Recorded, TargetState, UserState}
use Rattle.region_model.specs.Sides as sides
use Rattle.region_model.specs.Represents.{BlocksStand, IdsStand, JobsStand, NotesStand, RingStands, TargetKeeps, UserKeeps}
use Rattle.region_model.specs.UserSteps.{user_respond_answer, user_responded}
use Rattle.region_model.specs.HandSteps.{hand_responded}
use Rattle.ring_laws.specs.Responded.{CanRespond}
use Rattle.ring_laws.proofs.responded.InOrderAnswer.{answer_in_order}
use Rattle.ring_laws.proofs.responded.InOrderKept.{blocks_in_order, ids_in_order, jobs_in_order, notes_in_order, pages_in_order, ring_in_order, side_in_order, target_in_order}
use Rattle.ring_laws.proofs.responded.RespondedJobs.{answer_responded, jobs_responded}
use Rattle.ring_laws.proofs.responded.RespondedKept.{blocks_responded, ids_responded, notes_responded, pages_responded, ring_responded, side_responded, target_responded}

pub answer_same : (user : UserState) (rows : List PendingRow) (d : DeviceState) (lists : List Taken) (s : ℕ) (u : Unfinished) (p : sides.Parked) (parts : List (List ℕ)) →
    CanRespond user rows d lists s u p parts → user_respond_answer user p.job.id ≡ respond_answer d s
answer_same user rows d lists s u p parts h =
    ⊎_elim
    (λ (o : d.settings.flags.ooo ≡ true). answer_responded user rows d lists s u p parts h o)
    (λ (o : d.settings.flags.ooo ≡ false). answer_in_order user rows d lists s u p parts h o)
    (cases_Bool d.settings.flags.ooo)

pub ring_kept : (r : RegionState) (user : UserState) (items : List Recorded) (rows : List PendingRow) (d : DeviceState) (lists : List Taken) (s : ℕ) (u : Unfinished) (p : sides.Parked) (parts : List (List ℕ)) →
    CanRespond user rows d lists s u p parts → RingStands r.front items d lists → IdsStand r.front rows d → RingStands (user_responded r user p).region.front items (after_respond d s) lists
ring_kept r user items rows d lists s u p parts h ring ids =
    ⊎_elim
    (λ (o : d.settings.flags.ooo ≡ true). ring_responded r user items rows d lists s u p parts h o ring ids)
    (λ (o : d.settings.flags.ooo ≡ false). ring_in_order r user items rows d lists s u p parts h o ring ids)
    (cases_Bool d.settings.flags.ooo)

pub ids_kept : (r : RegionState) (user : UserState) (items : List Recorded) (rows : List PendingRow) (d : DeviceState) (lists : List Taken) (s : ℕ) (u : Unfinished) (p : sides.Parked) (parts : List (List ℕ)) →
    CanRespond user rows d lists s u p parts → RingStands r.front items d lists → IdsStand r.front rows d → IdsStand (user_responded r user p).region.front rows (after_respond d s)
ids_kept r user items rows d lists s u p parts h ring ids =
    ⊎_elim
    (λ (o : d.settings.flags.ooo ≡ true). ids_responded r user items rows d lists s u p parts h o ring ids)
    (λ (o : d.settings.flags.ooo ≡ false). ids_in_order r user items rows d lists s u p parts h o ring ids)
    (cases_Bool d.settings.flags.ooo)

pub notes_kept : (r : RegionState) (user : UserState) (items : List Recorded) (rows : List PendingRow) (d : DeviceState) (lists : List Taken) (s : ℕ) (u : Unfinished) (p : sides.Parked) (parts : List (List ℕ)) →
    CanRespond user rows d lists s u p parts → RingStands r.front items d lists → IdsStand r.front rows d → NotesStand r.front rows d → NotesStand (user_responded r user p).region.front rows (after_respond d s)
notes_kept r user items rows d lists s u p parts h ring ids notes =
    ⊎_elim
    (λ (o : d.settings.flags.ooo ≡ true). notes_responded r user items rows d lists s u p parts h o ring notes)
    (λ (o : d.settings.flags.ooo ≡ false). notes_in_order r user items rows d lists s u p parts h o ring ids notes)
    (cases_Bool d.settings.flags.ooo)

pub blocks_kept : (r : RegionState) (user : UserState) (items : List Recorded) (rows : List PendingRow) (d : DeviceState) (lists : List Taken) (s : ℕ) (u : Unfinished) (p : sides.Parked) (parts : List (List ℕ)) →
    CanRespond user rows d lists s u p parts → RingStands r.front items d lists → IdsStand r.front rows d → r.pages ≡ d.settings.pages → BlocksStand r.blocks d lists → BlocksStand (user_responded r user p).region.blocks (after_respond d s) lists
blocks_kept r user items rows d lists s u p parts h ring ids pages blocks =
    ⊎_elim
    (λ (o : d.settings.flags.ooo ≡ true). blocks_responded r user items rows d lists s u p parts h o ring pages blocks)
    (λ (o : d.settings.flags.ooo ≡ false). blocks_in_order r user items rows d lists s u p parts h o ring ids pages blocks)
    (cases_Bool d.settings.flags.ooo)

pub jobs_kept : (r : RegionState) (user : UserState) (hand : List InHand) (rows : List PendingRow) (d : DeviceState) (lists : List Taken) (s : ℕ) (u : Unfinished) (p : sides.Parked) (parts : List (List ℕ)) →
    CanRespond user rows d lists s u p parts → IdsStand r.front rows d → JobsStand user hand rows d lists → JobsStand (user_responded r user p).user (hand_responded hand s) rows (after_respond d s) lists
jobs_kept r user hand rows d lists s u p parts h ids jobs =
    ⊎_elim
    (λ (o : d.settings.flags.ooo ≡ true). jobs_responded r user hand rows d lists s u p parts h o ids jobs)
    (λ (o : d.settings.flags.ooo ≡ false). jobs_in_order r user hand rows d lists s u p parts h o ids jobs)
    (cases_Bool d.settings.flags.ooo)

pub target_kept : (user : UserState) (t : TargetState) (rows : List PendingRow) (d : DeviceState) (lists : List Taken) (s : ℕ) (u : Unfinished) (p : sides.Parked) (parts : List (List ℕ)) →
    CanRespond user rows d lists s u p parts → TargetKeeps t d lists → TargetKeeps t (after_respond d s) lists
target_kept user t rows d lists s u p parts h keeps =
    ⊎_elim
    (λ (o : d.settings.flags.ooo ≡ true). target_responded user t rows d lists s u p parts h o keeps)
    (λ (o : d.settings.flags.ooo ≡ false). target_in_order user t rows d lists s u p parts h o keeps)
    (cases_Bool d.settings.flags.ooo)

pub side_kept : (r : RegionState) (user : UserState) (rows : List PendingRow) (d : DeviceState) (lists : List Taken) (s : ℕ) (u : Unfinished) (p : sides.Parked) (parts : List (List ℕ)) →
    CanRespond user rows d lists s u p parts → UserKeeps user d → UserKeeps (user_responded r user p).user (after_respond d s)
side_kept r user rows d lists s u p parts h keeps =
    ⊎_elim
    (λ (o : d.settings.flags.ooo ≡ true). side_responded r user rows d lists s u p parts h o keeps)
    (λ (o : d.settings.flags.ooo ≡ false). side_in_order r user rows d lists s u p parts h o keeps)
    (cases_Bool d.settings.flags.ooo)

pub pages_kept : (r : RegionState) (user : UserState) (rows : List PendingRow) (d : DeviceState) (lists : List Taken) (s : ℕ) (u : Unfinished) (p : sides.Parked) (parts : List (List ℕ)) →
    CanRespond user rows d lists s u p parts → r.pages ≡ d.settings.pages → (user_responded r user p).region.pages ≡ (after_respond d s).settings.pages
pages_kept r user rows d lists s u p parts h pages =
    ⊎_elim
    (λ (o : d.settings.flags.ooo ≡ true). pages_responded r user rows d lists s u p parts h o pages)
    (λ (o : d.settings.flags.ooo ≡ false). pages_in_order r user rows d lists s u p parts h o pages)
    (cases_Bool d.settings.flags.ooo)
