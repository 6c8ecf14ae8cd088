-- A command that is accepted and delayed: the region stays as it is.
use Rattle.std.proofs.Common.{◌≡◌, ℕ, ◌+◌, List, [], ◌∷◌, ◌++◌, refl, ap, ◌∙◌, Option}
use Rattle.tcmu_types.specs.Data.{CommandData, SettingsData}
use Rattle.tcmu_types.specs.declared.answer.Submit.TheVariants as submit
use Rattle.tcmu_model.specs.Device.{Delayed, DeviceState}
use Rattle.tcmu_model.specs.Events.{after_submit, with_delayed}
use Rattle.tcmu_model.specs.BlockLists.{Taken}
use Rattle.region_model.specs.Regions.{RegionState}
use Rattle.region_model.specs.Sides.{Recorded, PendingRow, InHand, TargetState, UserState}
use Rattle.region_model.specs.Represents.{RingStands, IdsStand, NotesStand, BlocksStand, JobsStand, TargetKeeps, UserKeeps}
use Rattle.region_model.specs.TargetSteps.{target_submitted, region_submitted}
use Rattle.ring_laws.proofs.laid.RingLaid.{stands-by}

pub ring_delayed : (front : List ℕ) (items : List Recorded) (d : DeviceState) (lists : List Taken) (c : CommandData) (s : ℕ) → RingStands front items d lists → RingStands front items (after_submit d c (submit.Delayed s)) lists
unfolding after_submit with_delayed
ring_delayed front items d lists c s h =
    let ws : List Delayed = d.delayed ++ record { serial = s; command = c; leaves = d.now + d.settings.qfull } ∷ [] in
    record {
      long = h.long;
      mailbox = h.mailbox;
      stands = λ i x cl g. stands-by front front d (record d { accepted = d.accepted + 1; delayed = ws }) lists lists i x
          (record { settings = refl; size = refl; placed = refl; found = λ k q z. refl; listed = λ i n q c l z. refl }) refl cl g refl (h.stands i x cl g);
      recorded = h.recorded;
    }

pub ids_delayed : (front : List ℕ) (rows : List PendingRow) (d : DeviceState) (c : CommandData) (s : ℕ) → IdsStand front rows d → IdsStand front rows (after_submit d c (submit.Delayed s))
unfolding after_submit with_delayed
ids_delayed front rows d c s h = record { range = h.range; differ = h.differ; answered = h.answered; own = h.own }

pub notes_delayed : (front : List ℕ) (rows : List PendingRow) (d : DeviceState) (c : CommandData) (s : ℕ) → NotesStand front rows d → NotesStand front rows (after_submit d c (submit.Delayed s))
unfolding after_submit with_delayed
notes_delayed front rows d c s h = h

pub blocks_delayed : (area : List (Option (List ℕ))) (d : DeviceState) (lists : List Taken) (c : CommandData) (s : ℕ) → BlocksStand area d lists → BlocksStand area (after_submit d c (submit.Delayed s)) lists
unfolding after_submit with_delayed
blocks_delayed area d lists c s h = record { all = h.all; just = h.just }

pub jobs_delayed : (user : UserState) (hand : List InHand) (rows : List PendingRow) (d : DeviceState) (lists : List Taken) (c : CommandData) (s : ℕ) → JobsStand user hand rows d lists → JobsStand user hand rows (after_submit d c (submit.Delayed s)) lists
unfolding after_submit with_delayed
jobs_delayed user hand rows d lists c s h = record { given = h.given; out = h.out; offsets = h.offsets }

pub target_delayed : (t : TargetState) (d : DeviceState) (lists : List Taken) (c : CommandData) (s id : ℕ) → TargetKeeps t d lists → TargetKeeps (target_submitted t c id (submit.Delayed s)) (after_submit d c (submit.Delayed s)) lists
unfolding after_submit with_delayed target_submitted
target_delayed t d lists c s id h =
    record {
      settings = h.settings;
      now = h.now;
      blocked = h.blocked;
      accepted = ap (λ n. n + 1) h.accepted;
      rows = h.rows;
      delayed = ap (λ (ws : List Delayed). ws ++ record { serial = s; command = c; leaves = t.now + t.settings.qfull } ∷ []) h.delayed
          ∙ ap (λ n. d.delayed ++ record { serial = s; command = c; leaves = n + t.settings.qfull } ∷ []) h.now
          ∙ ap (λ (z : SettingsData). d.delayed ++ record { serial = s; command = c; leaves = d.now + z.qfull } ∷ []) h.settings;
      cleaned = h.cleaned;
      laid = h.laid;
      cleared = h.cleared;
      broken = h.broken;
      log = h.log;
    }

pub side_delayed : (user : UserState) (d : DeviceState) (c : CommandData) (s : ℕ) → UserKeeps user d → UserKeeps user (after_submit d c (submit.Delayed s))
unfolding after_submit with_delayed
side_delayed user d c s h =
    record { ring = h.ring; pages = h.pages; flags = h.flags; tail = h.tail; dispatched = h.dispatched; placed = h.placed; published = h.published; place = h.place; items = h.items }

-- nothing is written
pub region_delayed : (r : RegionState) (t : TargetState) (c : CommandData) (id s : ℕ) → region_submitted r t c id (submit.Delayed s) ≡ r
unfolding region_submitted
region_delayed r t c id s = refl

pub pages_delayed : (r : RegionState) (d : DeviceState) (c : CommandData) (s : ℕ) → r.pages ≡ d.settings.pages → r.pages ≡ (after_submit d c (submit.Delayed s)).settings.pages
unfolding after_submit with_delayed
pages_delayed r d c s h = h
