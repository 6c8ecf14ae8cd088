-- A submit that queues a command.
use Rattle.std.proofs.Common.{◌≡◌, ℕ, ◌+◌, false, List, map, refl, ap}
use Rattle.tcmu_types.specs.Data.{CommandData}
use Rattle.tcmu_model.specs.Lengths.{block_size}
use Rattle.tcmu_model.specs.Device.{DeviceState}
use Rattle.tcmu_model.specs.BlockLists.{Taken, with_taken}
use Rattle.region_model.specs.Sides.{InHand, Recorded, TargetState, UserState}
use Rattle.region_model.specs.Represents.{RingStands, TargetKeeps, IsId, IdsStand, BlocksStand, JobsStand, NotesStand, UserKeeps}
use Rattle.region_model.specs.TargetSteps.{region_laid, target_laid, region_submitted, target_submitted}
use Rattle.tcmu_types.specs.declared.answer.Submit.TheVariants as submit
use Rattle.tcmu_model.specs.Events.{with_command, after_submit, submit_answer}
use Rattle.tcmu_types.specs.Numbers.{is_among}
use Rattle.region_model.specs.Regions.{RegionState, AreSized}
use Rattle.tcmu_model.specs.Sound.{IsSound}
use Rattle.tcmu_model.specs.Owned.{ListsSound}
use Rattle.ring_laws.proofs.laid.RingLaid.{stands-by}
use Rattle.ring_laws.proofs.laid.LaidBlocks.{blocks_stand_laid}
use Rattle.ring_laws.proofs.laid.LaidCommands.{notes_stand_laid, jobs_stand_laid, side_stands_laid, pages_laid, sized_laid}
use Rattle.ring_laws.proofs.laid.LaidIds.{stands_laid, ids_stand_laid, target_stands_laid}
use Rattle.tcmu_model.proofs.AnsweredRoom.{queued_room, above_accepted}

-- the ring does not look at how many are accepted
ring_accepted : (front : List ℕ) (items : List Recorded) (d : DeviceState) (lists : List Taken) (a : ℕ) → RingStands front items d lists → RingStands front items (record d { accepted = a }) lists
ring_accepted front items d lists a h =
    record {
      long = h.long;
      mailbox = h.mailbox;
      stands = λ i x cl g. stands-by front front d (record d { accepted = a }) lists lists i x
          (record { settings = refl; size = refl; placed = refl; found = λ k s q. refl; listed = λ i n s c l q. refl }) refl cl g refl (h.stands i x cl g);
      recorded = h.recorded;
    }

pub ring_submitted : (r : RegionState) (t : TargetState) (d : DeviceState) (lists : List Taken) (s : ℕ) (c : CommandData) (id : ℕ) →
    IsSound d → ListsSound d lists → RingStands r.front t.items d lists → TargetKeeps t d lists → IsId id → submit_answer d c ≡ submit.Queued s →
    RingStands (region_submitted r t c id (submit.Queued s)).front (target_submitted t c id (submit.Queued s)).items (after_submit d c (submit.Queued s)) (with_taken d lists s c)
unfolding region_submitted target_submitted after_submit with_command target_laid
ring_submitted r t d lists s c id sound owned shape keeps is_id h =
    let q = queued_room d c s sound h in
    ring_accepted (region_laid r t c id).front (target_laid t s c id).items (with_command d s c) (with_taken d lists s c) (d.accepted + 1)
    (stands_laid r t d lists s c id sound owned shape keeps q.0 is_id (above_accepted d s sound q.1))

pub target_submitted_keeps : (t : TargetState) (d : DeviceState) (lists : List Taken) (s : ℕ) (c : CommandData) (id : ℕ) →
    IsSound d → ListsSound d lists → TargetKeeps t d lists → submit_answer d c ≡ submit.Queued s →
    TargetKeeps (target_submitted t c id (submit.Queued s)) (after_submit d c (submit.Queued s)) (with_taken d lists s c)
unfolding target_submitted after_submit with_command target_laid
target_submitted_keeps t d lists s c id sound owned keeps h =
    let q = queued_room d c s sound h in
    let k : TargetKeeps (target_laid t s c id) (with_command d s c) (with_taken d lists s c) = target_stands_laid t d lists s c id sound owned keeps (above_accepted d s sound q.1) in
    record {
      settings = k.settings;
      now = k.now;
      blocked = k.blocked;
      accepted = ap (λ z. z + 1) keeps.accepted;
      rows = k.rows;
      delayed = k.delayed;
      cleaned = k.cleaned;
      laid = k.laid;
      cleared = k.cleared;
      broken = k.broken;
      log = k.log;
    }

pub ids_submitted : (r : RegionState) (t : TargetState) (d : DeviceState) (lists : List Taken) (s : ℕ) (c : CommandData) (id : ℕ) →
    IsSound d → ListsSound d lists → RingStands r.front t.items d lists → IdsStand r.front t.rows d → TargetKeeps t d lists → IsId id → is_among (map (λ e. e.id) t.rows) id ≡ false → submit_answer d c ≡ submit.Queued s →
    IdsStand (region_submitted r t c id (submit.Queued s)).front (target_submitted t c id (submit.Queued s)).rows (after_submit d c (submit.Queued s))
unfolding region_submitted target_submitted after_submit with_command target_laid
ids_submitted r t d lists s c id sound owned shape ids keeps is_id unused h =
    let q = queued_room d c s sound h in
    let k : IdsStand (region_laid r t c id).front (target_laid t s c id).rows (with_command d s c) = ids_stand_laid r t d lists s c id sound owned shape ids keeps q.0 is_id unused (above_accepted d s sound q.1) in
    record { range = k.range; differ = k.differ; answered = k.answered; own = k.own }

pub blocks_submitted : (r : RegionState) (t : TargetState) (d : DeviceState) (lists : List Taken) (s : ℕ) (c : CommandData) (id : ℕ) →
    IsSound d → ListsSound d lists → AreSized (block_size r.pages) r.blocks → r.pages ≡ d.settings.pages → BlocksStand r.blocks d lists → TargetKeeps t d lists → submit_answer d c ≡ submit.Queued s →
    BlocksStand (region_submitted r t c id (submit.Queued s)).blocks (after_submit d c (submit.Queued s)) (with_taken d lists s c)
unfolding region_submitted after_submit with_command
blocks_submitted r t d lists s c id sound owned sized pages stand keeps h =
    let q = queued_room d c s sound h in
    let k : BlocksStand (region_laid r t c id).blocks (with_command d s c) (with_taken d lists s c) = blocks_stand_laid r t d lists s c id sound owned sized pages stand keeps q.0 (above_accepted d s sound q.1) in
    record { all = k.all; just = k.just }

pub notes_submitted : (r : RegionState) (t : TargetState) (d : DeviceState) (lists : List Taken) (s : ℕ) (c : CommandData) (id : ℕ) →
    IsSound d → ListsSound d lists → RingStands r.front t.items d lists → NotesStand r.front t.rows d → TargetKeeps t d lists → IsId id → submit_answer d c ≡ submit.Queued s →
    NotesStand (region_submitted r t c id (submit.Queued s)).front (target_submitted t c id (submit.Queued s)).rows (after_submit d c (submit.Queued s))
unfolding region_submitted target_submitted after_submit with_command target_laid
notes_submitted r t d lists s c id sound owned shape notes keeps is_id h =
    let q = queued_room d c s sound h in
    notes_stand_laid r t d lists s c id sound owned shape notes keeps q.0 is_id (above_accepted d s sound q.1)

pub jobs_submitted : (user : UserState) (hand : List InHand) (t : TargetState) (d : DeviceState) (lists : List Taken) (s : ℕ) (c : CommandData) (id : ℕ) →
    IsSound d → ListsSound d lists → JobsStand user hand t.rows d lists → submit_answer d c ≡ submit.Queued s →
    JobsStand user hand (target_submitted t c id (submit.Queued s)).rows (after_submit d c (submit.Queued s)) (with_taken d lists s c)
unfolding target_submitted after_submit with_command target_laid
jobs_submitted user hand t d lists s c id sound owned jobs h =
    let q = queued_room d c s sound h in
    let k : JobsStand user hand (target_laid t s c id).rows (with_command d s c) (with_taken d lists s c) = jobs_stand_laid user hand t d lists s c id sound owned jobs (above_accepted d s sound q.1) in
    record { given = k.given; out = k.out; offsets = k.offsets }

pub side_submitted : (user : UserState) (d : DeviceState) (s : ℕ) (c : CommandData) → IsSound d → UserKeeps user d → UserKeeps user (after_submit d c (submit.Queued s))
unfolding after_submit with_command
side_submitted user d s c sound keeps =
    let k : UserKeeps user (with_command d s c) = side_stands_laid user d s c sound keeps in
    record { ring = k.ring; pages = k.pages; flags = k.flags; tail = k.tail; dispatched = k.dispatched; placed = k.placed; published = k.published; place = k.place; items = k.items }

pub pages_submitted : (r : RegionState) (t : TargetState) (d : DeviceState) (s : ℕ) (c : CommandData) (id : ℕ) → r.pages ≡ d.settings.pages → (region_submitted r t c id (submit.Queued s)).pages ≡ (after_submit d c (submit.Queued s)).settings.pages
unfolding region_submitted after_submit with_command
pages_submitted r t d s c id h = pages_laid r t d s c id h

pub sized_submitted : (r : RegionState) (t : TargetState) (s : ℕ) (c : CommandData) (id : ℕ) → AreSized (block_size r.pages) r.blocks →
    AreSized (block_size (region_submitted r t c id (submit.Queued s)).pages) (region_submitted r t c id (submit.Queued s)).blocks
unfolding region_submitted
sized_submitted r t s c id h = sized_laid r t c id h
