-- A tick, a block and an unblock on a region that stands for a device.
use Rattle.std.proofs.Common.{◌≡◌, ℕ, Bool, List, map, refl, sym, ap, ◌∙◌, subst}
use Rattle.tcmu_model.specs.Device.{DeviceState}
use Rattle.tcmu_model.specs.Events.{after_block, after_tick, block_answer, later, tick_answer}
use Rattle.tcmu_model.proofs.HoldersKept.{lists_blocked, lists_ticked}
use Rattle.tcmu_model.proofs.LaidAfter.{laid_blocked, laid_ticked}
use Rattle.tcmu_model.proofs.SoundEvents.{sound_after_block, sound_after_tick}
use Rattle.region_model.specs.Regions.{RegionState}
use Rattle.region_model.specs.Represents.{IdsStand, JobsStand, NotesStand, RingStands}
use Rattle.region_model.specs.Sides.{InHand, PendingRow, Recorded, TargetState, UserState}
use Rattle.region_model.specs.TargetSteps.{expired_at, target_block_answer, target_blocked, target_tick_answer, target_ticked}
use Rattle.ring_laws.proofs.answers.TargetAnswers.{block_same}
use Rattle.ring_laws.proofs.ticked.Ticked.{ring_ticked, ids_ticked, notes_ticked, blocks_ticked, jobs_ticked, target_ticked_keeps, side_ticked, pages_ticked, tick_same, ring_blocked, ids_blocked, notes_blocked, blocks_blocked, jobs_blocked, target_blocked_keeps, side_blocked, pages_blocked}
use Rattle.ring_path.specs.Devices.{RingDevice, device_blocked, device_ticked}
use Rattle.ring_path.specs.Rings.{IsRing}
use Rattle.ring_path.proofs.Notes.{short_same}
use Rattle.ring_path.proofs.Standing.{few_same, stands_left}

-- ==== tick

attached_ticked : (d : DeviceState) (n : ℕ) → (after_tick d n).attached ≡ d.attached
unfolding after_tick
attached_ticked d n = refl

pub accepted_ticked : (d : DeviceState) (n : ℕ) → (after_tick d n).accepted ≡ d.accepted
unfolding after_tick
accepted_ticked d n = refl

-- the target's moment is the device's
rows_ticked : (t : TargetState) (d : DeviceState) (n : ℕ) → t.now ≡ d.now → (target_ticked t n).rows ≡ map (expired_at (later d.now n)) t.rows
unfolding target_ticked
rows_ticked t d n e = ap (λ (now : ℕ). map (expired_at (later now n)) t.rows) e

items_ticked : (t : TargetState) (n : ℕ) → (target_ticked t n).items ≡ t.items
unfolding target_ticked
items_ticked t n = refl

pub tick_keeps : (r : RegionState) (t after : TargetState) (u : UserState) (hand : List InHand) (b : Bool) (most : ℕ) (k : RingDevice) (n : ℕ) → IsRing r t u hand b most k → after ≡ target_ticked t n → IsRing r after u hand b most (device_ticked k n)
tick_keeps r t after u hand b most k n h e =
    let d : DeviceState = k.state in
    let p = h.stands.represents in
    let rows = sym (rows_ticked t d n p.target.now) in
    subst (λ (x : TargetState). IsRing r x u hand b most (device_ticked k n)) (sym e)
    (record {
      stands = stands_left r (target_ticked t n) u hand (after_tick d n) k.lists (sound_after_tick d n h.stands.sound) (lists_ticked d k.lists n h.stands.owned)
          (record {
            ring = subst (λ (xs : List Recorded). RingStands r.front xs (after_tick d n) k.lists) (sym (items_ticked t n)) (ring_ticked r.front t.items d k.lists n p.ring);
            ids = subst (λ (xs : List PendingRow). IdsStand r.front xs (after_tick d n)) rows (ids_ticked r.front t.rows d n p.ids);
            notes = subst (λ (xs : List PendingRow). NotesStand r.front xs (after_tick d n)) rows (notes_ticked r.front t.rows d n p.notes);
            blocks = blocks_ticked r.blocks d k.lists n p.blocks;
            jobs = subst (λ (xs : List PendingRow). JobsStand u hand xs (after_tick d n) k.lists) rows (jobs_ticked u hand t.rows d k.lists n p.jobs);
            target = target_ticked_keeps t d k.lists n p.target;
            side = side_ticked u d n p.side;
            pages = pages_ticked r d n p.pages;
          });
      attached = h.attached ∙ sym (attached_ticked d n);
      notes = short_same most d.ring.laid (after_tick d n).ring.laid (laid_ticked d n) h.notes;
      few = few_same d.accepted (after_tick d n).accepted (accepted_ticked d n) h.few;
    })

pub tick_answered : (r : RegionState) (t : TargetState) (u : UserState) (hand : List InHand) (b : Bool) (most : ℕ) (k : RingDevice) (n a : ℕ) → IsRing r t u hand b most k → a ≡ target_tick_answer t n → a ≡ tick_answer k.state n
tick_answered r t u hand b most k n a h e = e ∙ tick_same t k.state k.lists n h.stands.represents.target

-- ==== block

attached_blocked : (d : DeviceState) (b : Bool) → (after_block d b).attached ≡ d.attached
unfolding after_block
attached_blocked d b = refl

pub accepted_blocked : (d : DeviceState) (b : Bool) → (after_block d b).accepted ≡ d.accepted
unfolding after_block
accepted_blocked d b = refl

blocked_kept : (r : RegionState) (t : TargetState) (u : UserState) (hand : List InHand) (b : Bool) (most : ℕ) (k : RingDevice) (y : Bool) → IsRing r t u hand b most k → IsRing r (target_blocked t y) u hand b most (device_blocked k y)
unfolding target_blocked
blocked_kept r t u hand b most k y h =
    let d : DeviceState = k.state in
    let p = h.stands.represents in
    record {
      stands = stands_left r (target_blocked t y) u hand (after_block d y) k.lists (sound_after_block d y h.stands.sound) (lists_blocked d k.lists y h.stands.owned)
          (record {
            ring = ring_blocked r.front t.items d k.lists y p.ring;
            ids = ids_blocked r.front t.rows d y p.ids;
            notes = notes_blocked r.front t.rows d y p.notes;
            blocks = blocks_blocked r.blocks d k.lists y p.blocks;
            jobs = jobs_blocked u hand t.rows d k.lists y p.jobs;
            target = target_blocked_keeps t d k.lists y p.target;
            side = side_blocked u d y p.side;
            pages = pages_blocked r d y p.pages;
          });
      attached = h.attached ∙ sym (attached_blocked d y);
      notes = short_same most d.ring.laid (after_block d y).ring.laid (laid_blocked d y) h.notes;
      few = few_same d.accepted (after_block d y).accepted (accepted_blocked d y) h.few;
    }

pub block_keeps : (r : RegionState) (t after : TargetState) (u : UserState) (hand : List InHand) (b : Bool) (most : ℕ) (k : RingDevice) (y : Bool) → IsRing r t u hand b most k → after ≡ target_blocked t y → IsRing r after u hand b most (device_blocked k y)
block_keeps r t after u hand b most k y h e = subst (λ (x : TargetState). IsRing r x u hand b most (device_blocked k y)) (sym e) (blocked_kept r t u hand b most k y h)

pub block_answered : (r : RegionState) (t : TargetState) (u : UserState) (hand : List InHand) (b : Bool) (most : ℕ) (k : RingDevice) (y a : Bool) → IsRing r t u hand b most k → a ≡ target_block_answer t y → a ≡ block_answer k.state y
block_answered r t u hand b most k y a h e = e ∙ block_same t k.state k.lists y h.stands.represents.target
