-- A delayed command that enters the ring.
use Rattle.std.proofs.Common.{◌≡◌, ℕ, false, List, [], ◌∷◌, map, refl, sym, ◌∙◌, subst}
use Rattle.tcmu_model.specs.Device.{DeviceState, Delayed}
use Rattle.tcmu_model.specs.BlockLists.{Taken, with_taken}
use Rattle.region_model.specs.Sides.{InHand, Recorded, TargetState, UserState}
use Rattle.region_model.specs.Represents.{BlocksStand, IdsStand, IsId, JobsStand, NotesStand, RingStands, TargetKeeps, UserKeeps}
use Rattle.region_model.specs.TargetSteps.{region_laid, target_laid, region_entered, target_entered, region_with_first, first_entered}
use Rattle.tcmu_types.specs.declared.answer.Enter.TheVariants as enter
use Rattle.tcmu_model.specs.Events.{with_command, enter_answer, after_enter, after_entering}
use Rattle.tcmu_types.specs.Numbers.{is_among}
use Rattle.region_model.specs.Regions.{AreSized, RegionState}
use Rattle.tcmu_model.specs.Sound.{IsSound}
use Rattle.tcmu_model.specs.Owned.{ListsSound}
use Rattle.ring_laws.proofs.laid.RingLaid.{stands-by}
use Rattle.tcmu_model.specs.Lengths.{block_size}
use Rattle.ring_laws.proofs.laid.LaidIds.{stands_laid, ids_stand_laid, target_stands_laid}
use Rattle.ring_laws.proofs.laid.LaidBlocks.{blocks_stand_laid}
use Rattle.ring_laws.proofs.laid.LaidCommands.{notes_stand_laid, jobs_stand_laid, side_stands_laid, pages_laid, sized_laid}
use Rattle.tcmu_model.proofs.AnsweredRoom.{room_answered, above_laid}

-- the first one that waits is laid, and waits no more
abbrev entering : DeviceState → Delayed → List Delayed → DeviceState
entering d w ws = record (with_command d w.serial w.command) { delayed = ws }

abbrev entered_first : TargetState → Delayed → List Delayed → ℕ → TargetState
entered_first t w ws id = record (target_laid t w.serial w.command id) { delayed = ws }

-- what holds behind the laying of the first one that waits holds behind the step
by_first : (r : RegionState) (t : TargetState) (d : DeviceState) (w : Delayed) (ws : List Delayed) (s id : ℕ) (P : RegionState → TargetState → DeviceState → Type 0) → t.delayed ≡ d.delayed → d.delayed ≡ w ∷ ws →
    P (region_laid r t w.command id) (entered_first t w ws id) (entering d w ws) → P (region_entered r t id (enter.Entered s)) (target_entered t id (enter.Entered s)) (after_enter d (enter.Entered s))
unfolding region_entered target_entered after_enter
by_first r t d w ws s id P te e p =
    let td : t.delayed ≡ w ∷ ws = te ∙ e in
    subst (λ (xs : List Delayed). P (region_with_first r t id t.delayed) (first_entered t id t.delayed) (after_entering d xs)) (sym e)
    (subst (λ (xs : List Delayed). P (region_with_first r t id xs) (first_entered t id xs) (after_entering d (w ∷ ws))) (sym td) p)

by_target : (t : TargetState) (d : DeviceState) (w : Delayed) (ws : List Delayed) (s id : ℕ) (P : TargetState → DeviceState → Type 0) → t.delayed ≡ d.delayed → d.delayed ≡ w ∷ ws →
    P (entered_first t w ws id) (entering d w ws) → P (target_entered t id (enter.Entered s)) (after_enter d (enter.Entered s))
unfolding target_entered after_enter
by_target t d w ws s id P te e p =
    let td : t.delayed ≡ w ∷ ws = te ∙ e in
    subst (λ (xs : List Delayed). P (first_entered t id t.delayed) (after_entering d xs)) (sym e)
    (subst (λ (xs : List Delayed). P (first_entered t id xs) (after_entering d (w ∷ ws))) (sym td) p)

pub serial_entered : (d : DeviceState) (w : Delayed) (ws : List Delayed) (s : ℕ) → IsSound d → d.delayed ≡ w ∷ ws → enter_answer d ≡ enter.Entered s → s ≡ w.serial
serial_entered d w ws s sound e h = (room_answered d w ws s sound e h).1

-- ==== the points

-- the ring does not look at what waits
ring_delayed : (front : List ℕ) (items : List Recorded) (d : DeviceState) (lists : List Taken) (ws : List Delayed) → RingStands front items d lists → RingStands front items (record d { delayed = ws }) lists
ring_delayed front items d lists ws h =
    record {
      long = h.long;
      mailbox = h.mailbox;
      stands = λ i x cl g. stands-by front front d (record d { delayed = ws }) lists lists i x
          (record { settings = refl; size = refl; placed = refl; found = λ k s q. refl; listed = λ i n s c l q. refl }) refl cl g refl (h.stands i x cl g);
      recorded = h.recorded;
    }

pub ring_entered : (r : RegionState) (t : TargetState) (d : DeviceState) (lists : List Taken) (w : Delayed) (ws : List Delayed) (s id : ℕ) →
    IsSound d → ListsSound d lists → RingStands r.front t.items d lists → TargetKeeps t d lists → IsId id → d.delayed ≡ w ∷ ws → enter_answer d ≡ enter.Entered s →
    RingStands (region_entered r t id (enter.Entered s)).front (target_entered t id (enter.Entered s)).items (after_enter d (enter.Entered s)) (with_taken d lists w.serial w.command)
ring_entered r t d lists w ws s id sound owned shape keeps is_id e h =
    by_first r t d w ws s id (λ r' t' d'. RingStands r'.front t'.items d' (with_taken d lists w.serial w.command)) keeps.delayed e
    (ring_delayed (region_laid r t w.command id).front (target_laid t w.serial w.command id).items (with_command d w.serial w.command) (with_taken d lists w.serial w.command) ws
    (stands_laid r t d lists w.serial w.command id sound owned shape keeps (room_answered d w ws s sound e h).0 is_id (above_laid d w ws sound e)))

pub ids_entered : (r : RegionState) (t : TargetState) (d : DeviceState) (lists : List Taken) (w : Delayed) (ws : List Delayed) (s id : ℕ) →
    IsSound d → ListsSound d lists → RingStands r.front t.items d lists → IdsStand r.front t.rows d → TargetKeeps t d lists → IsId id → is_among (map (λ e. e.id) t.rows) id ≡ false → d.delayed ≡ w ∷ ws → enter_answer d ≡ enter.Entered s →
    IdsStand (region_entered r t id (enter.Entered s)).front (target_entered t id (enter.Entered s)).rows (after_enter d (enter.Entered s))
ids_entered r t d lists w ws s id sound owned shape ids keeps is_id unused e h =
    let k : IdsStand (region_laid r t w.command id).front (target_laid t w.serial w.command id).rows (with_command d w.serial w.command) =
    ids_stand_laid r t d lists w.serial w.command id sound owned shape ids keeps (room_answered d w ws s sound e h).0 is_id unused (above_laid d w ws sound e) in
    by_first r t d w ws s id (λ r' t' d'. IdsStand r'.front t'.rows d') keeps.delayed e (record { range = k.range; differ = k.differ; answered = k.answered; own = k.own })

pub notes_entered : (r : RegionState) (t : TargetState) (d : DeviceState) (lists : List Taken) (w : Delayed) (ws : List Delayed) (s id : ℕ) →
    IsSound d → ListsSound d lists → RingStands r.front t.items d lists → NotesStand r.front t.rows d → TargetKeeps t d lists → IsId id → d.delayed ≡ w ∷ ws → enter_answer d ≡ enter.Entered s →
    NotesStand (region_entered r t id (enter.Entered s)).front (target_entered t id (enter.Entered s)).rows (after_enter d (enter.Entered s))
notes_entered r t d lists w ws s id sound owned shape notes keeps is_id e h =
    by_first r t d w ws s id (λ r' t' d'. NotesStand r'.front t'.rows d') keeps.delayed e
    (notes_stand_laid r t d lists w.serial w.command id sound owned shape notes keeps (room_answered d w ws s sound e h).0 is_id (above_laid d w ws sound e))

pub blocks_entered : (r : RegionState) (t : TargetState) (d : DeviceState) (lists : List Taken) (w : Delayed) (ws : List Delayed) (s id : ℕ) →
    IsSound d → ListsSound d lists → AreSized (block_size r.pages) r.blocks → r.pages ≡ d.settings.pages → BlocksStand r.blocks d lists → TargetKeeps t d lists → d.delayed ≡ w ∷ ws → enter_answer d ≡ enter.Entered s →
    BlocksStand (region_entered r t id (enter.Entered s)).blocks (after_enter d (enter.Entered s)) (with_taken d lists w.serial w.command)
blocks_entered r t d lists w ws s id sound owned sized pages stand keeps e h =
    let k : BlocksStand (region_laid r t w.command id).blocks (with_command d w.serial w.command) (with_taken d lists w.serial w.command) =
    blocks_stand_laid r t d lists w.serial w.command id sound owned sized pages stand keeps (room_answered d w ws s sound e h).0 (above_laid d w ws sound e) in
    by_first r t d w ws s id (λ r' t' d'. BlocksStand r'.blocks d' (with_taken d lists w.serial w.command)) keeps.delayed e (record { all = k.all; just = k.just })

pub jobs_entered : (user : UserState) (hand : List InHand) (t : TargetState) (d : DeviceState) (lists : List Taken) (w : Delayed) (ws : List Delayed) (s id : ℕ) →
    IsSound d → ListsSound d lists → JobsStand user hand t.rows d lists → TargetKeeps t d lists → d.delayed ≡ w ∷ ws → enter_answer d ≡ enter.Entered s →
    JobsStand user hand (target_entered t id (enter.Entered s)).rows (after_enter d (enter.Entered s)) (with_taken d lists w.serial w.command)
jobs_entered user hand t d lists w ws s id sound owned jobs keeps e h =
    let k : JobsStand user hand (target_laid t w.serial w.command id).rows (with_command d w.serial w.command) (with_taken d lists w.serial w.command) = jobs_stand_laid user hand t d lists w.serial w.command id sound owned jobs (above_laid d w ws sound e) in
    by_target t d w ws s id (λ t' d'. JobsStand user hand t'.rows d' (with_taken d lists w.serial w.command)) keeps.delayed e (record { given = k.given; out = k.out; offsets = k.offsets })

pub target_entered_keeps : (t : TargetState) (d : DeviceState) (lists : List Taken) (w : Delayed) (ws : List Delayed) (s id : ℕ) →
    IsSound d → ListsSound d lists → TargetKeeps t d lists → d.delayed ≡ w ∷ ws → enter_answer d ≡ enter.Entered s →
    TargetKeeps (target_entered t id (enter.Entered s)) (after_enter d (enter.Entered s)) (with_taken d lists w.serial w.command)
target_entered_keeps t d lists w ws s id sound owned keeps e h =
    let k : TargetKeeps (target_laid t w.serial w.command id) (with_command d w.serial w.command) (with_taken d lists w.serial w.command) = target_stands_laid t d lists w.serial w.command id sound owned keeps (above_laid d w ws sound e) in
    by_target t d w ws s id (λ t' d'. TargetKeeps t' d' (with_taken d lists w.serial w.command)) keeps.delayed e
    (record { settings = k.settings; now = k.now; blocked = k.blocked; accepted = k.accepted; rows = k.rows; delayed = refl; cleaned = k.cleaned; laid = k.laid; cleared = k.cleared; broken = k.broken; log = k.log })

-- ==== what the device alone says

by_device : (d : DeviceState) (w : Delayed) (ws : List Delayed) (s : ℕ) (P : DeviceState → Type 0) → d.delayed ≡ w ∷ ws → P (entering d w ws) → P (after_enter d (enter.Entered s))
unfolding after_enter
by_device d w ws s P e p = subst (λ (xs : List Delayed). P (after_entering d xs)) (sym e) p

pub side_entered : (user : UserState) (d : DeviceState) (w : Delayed) (ws : List Delayed) (s : ℕ) → IsSound d → UserKeeps user d → d.delayed ≡ w ∷ ws → UserKeeps user (after_enter d (enter.Entered s))
side_entered user d w ws s sound keeps e =
    let k : UserKeeps user (with_command d w.serial w.command) = side_stands_laid user d w.serial w.command sound keeps in
    by_device d w ws s (UserKeeps user) e
    (record { ring = k.ring; pages = k.pages; flags = k.flags; tail = k.tail; dispatched = k.dispatched; placed = k.placed; published = k.published; place = k.place; items = k.items })

-- ==== the area

pub pages_entered : (r : RegionState) (t : TargetState) (d : DeviceState) (lists : List Taken) (w : Delayed) (ws : List Delayed) (s id : ℕ) → TargetKeeps t d lists → d.delayed ≡ w ∷ ws → r.pages ≡ d.settings.pages →
    (region_entered r t id (enter.Entered s)).pages ≡ (after_enter d (enter.Entered s)).settings.pages
pages_entered r t d lists w ws s id keeps e h = by_first r t d w ws s id (λ r' t' d'. r'.pages ≡ d'.settings.pages) keeps.delayed e (pages_laid r t d w.serial w.command id h)

pub sized_entered : (r : RegionState) (t : TargetState) (s id : ℕ) → AreSized (block_size r.pages) r.blocks → AreSized (block_size (region_entered r t id (enter.Entered s)).pages) (region_entered r t id (enter.Entered s)).blocks
unfolding region_entered
sized_entered r t s id h = by_list t.delayed
  where
    by_list : (ws : List Delayed) → AreSized (block_size (region_with_first r t id ws).pages) (region_with_first r t id ws).blocks
    by_list [] = h
    by_list (w ∷ ws) = sized_laid r t w.command id h
