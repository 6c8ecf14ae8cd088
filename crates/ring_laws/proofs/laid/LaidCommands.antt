-- A command is laid: the notes, the jobs, the user side, and the sizes of the blocks.
use Rattle.std.proofs.Common.{◌≡◌, ℕ, ◌-◌, ◌≤◌, ◌<◌, inl, inr, true, false, List, [], ◌∷◌, ◌++◌, length, replicate, filter, refl, sym, ap, ◌∙◌, arith, Option, Some, None, append-nil, ⊎_elim, eqb}
use Rattle.std.specs.Option.{option_map}
use Rattle.std.proofs.lemmas.Bool.{cases_Bool, false≢true, or_left}
use Rattle.std.proofs.lemmas.List.Elements.{filter-append}
use Rattle.tcmu_types.specs.Data.{CommandData}
use Rattle.tcmu_types.specs.Lists.{first_of, Every}
use Rattle.tcmu_types.specs.Numbers.{above_all, is_among}
use Rattle.tcmu_model.specs.Lengths.{block_size, blocks_of}
use Rattle.tcmu_model.specs.RingState.{is_command, serials_in}
use Rattle.tcmu_model.specs.Device.{Unfinished, DeviceState}
use Rattle.tcmu_model.specs.Events.{is_in_hand, waiting, with_command}
use Rattle.tcmu_model.specs.Sound.{IsSound}
use Rattle.tcmu_model.specs.BlockLists.{Taken, blocks_taken, held_by, least_free, with_taken}
use Rattle.tcmu_types.specs.Overwriting.{zeros}
use Rattle.region_model.specs.Regions.{AreSized, RegionState}
use Rattle.tcmu_types.proofs.Everies.{every-weaker}
use Rattle.tcmu_types.proofs.Rises.{among-append, among_every, among-here}
use Rattle.region_model.specs.Sides.{InHand, PendingRow, TargetState, UserState}
use Rattle.region_model.specs.Represents.{IsId, IsLeftOver, IsNoteId, JobsStand, NotesStand, RingStands, TargetKeeps, UserKeeps, has_id, id_of, is_out, row_has, serial_with}
use Rattle.region_model.specs.TargetSteps.{block_data, blocks_given, region_laid, row_of, target_laid}
use Rattle.tcmu_model.specs.Owned.{HasRoom, ListsSound}
use Rattle.ring_laws.proofs.laid.LaidRing.{laid_command}
use Rattle.tcmu_model.proofs.ListsLaid.{not_below, cmd_item, with_waiting, lists_below, rows_below}
use Rattle.tcmu_types.proofs.Firsts.{first-append, first-here}
use Rattle.ring_laws.proofs.laid.LaidIds.{entries_laid}
use Rattle.ring_laws.proofs.laid.LaidPoints.{jobs_laid, notes_laid, side_laid}
use Rattle.ring_laws.proofs.SameJobs.{HasSame}
use Rattle.ring_laws.proofs.sized.Sized.{sized_along, sized_grown}

-- ==== the notes

none_first : (o : Option PendingRow) → option_map (λ (e : PendingRow). e.pending.serial) o ≡ None → o ≡ None
none_first None h = refl
none_first (Some e) h = absurd (cc)

serial-more : (rows : List PendingRow) (new : PendingRow) (id k : ℕ) → serial_with rows id ≡ Some k → serial_with (rows ++ new ∷ []) id ≡ Some k
serial-more [] new id k h = absurd (cc)
serial-more (e ∷ es) new id k h =
    ⊎_elim
    (λ (z : has_id id e ≡ true). let g : Some e.pending.serial ≡ Some k = rw z at h in rw z g)
    (λ (z : has_id id e ≡ false). let g : serial_with es id ≡ Some k = rw z at h in rw z (serial-more es new id k g))
    (cases_Bool (has_id id e))

-- an id that is left over may now be the new command's, which is laid behind the note
left_over_kept : (rows : List PendingRow) (new : PendingRow) (behind : List ℕ) (id : ℕ) → IsLeftOver rows behind id → IsLeftOver (rows ++ new ∷ []) (behind ++ new.pending.serial ∷ []) id
left_over_kept rows new behind id h =
    ⊎_elim
    (λ (n : serial_with rows id ≡ None).
    let f : first_of (has_id id) rows ≡ None = none_first (first_of (has_id id) rows) n in
    ⊎_elim
    (λ (e : has_id id new ≡ true). inr (new.pending.serial, ap (option_map (λ (x : PendingRow). x.pending.serial)) (first-here (has_id id) rows new e f), among-here behind new.pending.serial []))
    (λ (e : has_id id new ≡ false). inl (ap (option_map (λ (x : PendingRow). x.pending.serial)) (first-append (has_id id) rows new e) ∙ n))
    (cases_Bool (has_id id new)))
    (λ (q : (t : ℕ) × (serial_with rows id ≡ Some t) × (is_among behind t ≡ true)).
    inr (q.0, serial-more rows new id q.0 q.1, among-append behind (new.pending.serial ∷ []) q.0 ∙ or_left (is_among behind q.0) (is_among (new.pending.serial ∷ []) q.0) q.2))
    h

-- the id of another serial is as before
note_kept : (rows : List PendingRow) (new : PendingRow) (behind : List ℕ) (k id : ℕ) → row_has k new ≡ false → IsNoteId rows behind k id → IsNoteId (rows ++ new ∷ []) (behind ++ new.pending.serial ∷ []) k id
note_kept rows new behind k id other h =
    let same : id_of (rows ++ new ∷ []) k ≡ id_of rows k = ap (option_map (λ (e : PendingRow). e.id)) (first-append (row_has k) rows new other) in
    ⊎_elim
    (λ (e : id_of rows k ≡ Some id). inl (same ∙ e))
    (λ (e : (id_of rows k ≡ None) × IsLeftOver rows behind id). inr (same ∙ e.0, left_over_kept rows new behind id e.1))
    h

pub notes_stand_laid : (r : RegionState) (t : TargetState) (d : DeviceState) (lists : List Taken) (s : ℕ) (c : CommandData) (id : ℕ) →
    IsSound d → ListsSound d lists → RingStands r.front t.items d lists → NotesStand r.front t.rows d → TargetKeeps t d lists → HasRoom d c → IsId id → Every (λ k. k < s) (serials_in d.ring.laid) →
    NotesStand (region_laid r t c id).front (target_laid t s c id).rows (with_command d s c)
unfolding with_command target_laid
notes_stand_laid r t d lists s c id sound owned shape notes keeps room is_id above =
    let q = laid_command r t d lists s c id sound owned shape keeps room (let h : id ≤ 65535 = is_id.high in omega arith) above (lists_below d lists s owned above) in
    notes_laid r.front (region_laid r t c id).front t.rows (t.rows ++ row_of t s c id ∷ []) d (cmd_item d s c) (with_waiting d s c) sound (entries_laid r t d lists s c id sound shape room q)
    (λ behind k i a z. note_kept t.rows (row_of t s c id) behind k i (not_below s k (among_every (λ (y : ℕ). y < s) (serials_in d.ring.laid) k above a)) z)
    (λ i n type_ ss a e. absurd (false≢true (ap is_command (sym e)))) notes

-- ==== the jobs

pub jobs_stand_laid : (user : UserState) (hand : List InHand) (t : TargetState) (d : DeviceState) (lists : List Taken) (s : ℕ) (c : CommandData) (id : ℕ) →
    IsSound d → ListsSound d lists → JobsStand user hand t.rows d lists → Every (λ k. k < s) (serials_in d.ring.laid) →
    JobsStand user hand (target_laid t s c id).rows (with_command d s c) (with_taken d lists s c)
unfolding with_command target_laid
jobs_stand_laid user hand t d lists s c id sound owned jobs above =
    let new : Taken = record { serial = s; blocks = least_free d.settings.blocks (held_by lists d.unfinished) (blocks_of d.settings.pages c) } in
    let rows' : List PendingRow = t.rows ++ row_of t s c id ∷ [] in
    let lists' : List Taken = with_taken d lists s c in
    jobs_laid user hand t.rows rows' d lists lists' (cmd_item d s c) (with_waiting d s c) sound
    (filter-append is_in_hand d.unfinished (waiting d s c ∷ []) ∙ append-nil (filter is_in_hand d.unfinished))
    (filter-append is_out d.unfinished (waiting d s c ∷ []) ∙ append-nil (filter is_out d.unfinished))
    (every-weaker (λ (u : Unfinished). u.serial < s) (HasSame t.rows rows' lists lists') d.unfinished
    (λ u l. (
      ap (option_map (λ (e : PendingRow). e.id)) (first-append (row_has u.serial) t.rows (row_of t s c id) (not_below s u.serial l)),
      ap blocks_taken (first-append (λ (k : Taken). eqb k.serial u.serial) lists new (not_below s u.serial l)),
    ))
    (rows_below d s sound above))
    jobs

pub side_stands_laid : (user : UserState) (d : DeviceState) (s : ℕ) (c : CommandData) → IsSound d → UserKeeps user d → UserKeeps user (with_command d s c)
unfolding with_command
side_stands_laid user d s c sound keeps = side_laid user d (cmd_item d s c) (with_waiting d s c) sound keeps

-- ==== the sizes of the blocks

pub sized_laid : (r : RegionState) (t : TargetState) (c : CommandData) (id : ℕ) → AreSized (block_size r.pages) r.blocks → AreSized (block_size (region_laid r t c id).pages) (region_laid r t c id).blocks
unfolding region_laid
sized_laid r t c id h =
    let bs : List ℕ = blocks_given t c in
    let n : ℕ = above_all bs - length r.blocks in
    sized_along (block_size r.pages) (r.blocks ++ replicate n (Some (zeros (block_size r.pages)))) bs (block_data t.settings c (length bs)) (sized_grown (block_size r.pages) r.blocks n h)

pub pages_laid : (r : RegionState) (t : TargetState) (d : DeviceState) (s : ℕ) (c : CommandData) (id : ℕ) → r.pages ≡ d.settings.pages → (region_laid r t c id).pages ≡ (with_command d s c).settings.pages
unfolding region_laid with_command
pages_laid r t d s c id h = h
