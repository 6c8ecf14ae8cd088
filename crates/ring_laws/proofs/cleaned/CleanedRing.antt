-- What a clean keeps of the ring, of the ids and of the notes.
use Rattle.std.proofs.Common.{◌≡◌, ℕ, ◌+◌, ◌-◌, ◌≤◌, true, false, List, ◌++◌, length, take, drop, map, refl, sym, ap, ◌∙◌, arith, Some, slice_get, subst, ⊎_elim, eqb}
use Rattle.std.proofs.lemmas.Bool.{cases_Bool, true≢false}
use Rattle.tcmu_types.specs.Data.{CommandData}
use Rattle.tcmu_model.specs.RingState.{Item, Laid, commands_in, serials_in}
use Rattle.tcmu_model.specs.RingState as ring
use Rattle.tcmu_model.specs.Device.{Unfinished, DeviceState}
use Rattle.tcmu_model.specs.Events.{after_clean, answered, cleaned_books}
use Rattle.tcmu_types.specs.Numbers.{is_among, Differ}
use Rattle.tcmu_model.specs.Sound.{IsSound, dispatched_serials}
use Rattle.tcmu_model.specs.BlockLists.{Taken, list_of}
use Rattle.region_model.specs.Regions.{RegionState}
use Rattle.tcmu_model.proofs.Basics.{laid_rise, rows_rise, serials_split}
use Rattle.tcmu_types.proofs.Rises.{among-take, among_every, every-among, rise_differ}
use Rattle.tcmu_model.proofs.Fronts.{commands_more}
use Rattle.region_model.specs.Picture.{place_of, item_bytes, request_of, ids_named}
use Rattle.region_model.specs.Sides.{PendingRow, TargetState}
use Rattle.region_model.specs.Represents.{RingStands, IdsStand, NotesStand, entry_at, id_in, ids_in, pending_of}
use Rattle.region_model.specs.TargetCleans.{region_cleaned, target_cleaned}
use Rattle.ring_laws.specs.Cleaned.{CanClean}
use Rattle.ring_laws.proofs.laid.RingLaid.{entry_same}
use Rattle.tcmu_model.proofs.LaidItems.{serial_at}
use Rattle.ring_laws.proofs.cleaned.CleanedOne.{CleanAt}
use Rattle.ring_laws.proofs.cleaned.CleanedAll.{cleaned-at, not-before}
use Rattle.ring_laws.proofs.notes.NoteIds.{RowsDiffer, note_id_fewer, note_stands_by, serials_of_rows}
use Rattle.ring_laws.proofs.placed.AnswerBlocks.{differ-split}
use Rattle.ring_laws.proofs.Places.{get-dropped}

-- the area may end earlier, and nothing else of the region changes
pub front_cleaned : (r : RegionState) (t : TargetState) → (region_cleaned r t).front ≡ r.front
unfolding region_cleaned
front_cleaned r t =
    ⊎_elim
    (λ (k : eqb (length (target_cleaned r t).rows) (length t.rows) ≡ true). rw k refl)
    (λ (k : eqb (length (target_cleaned r t).rows) (length t.rows) ≡ false). rw k refl)
    (cases_Bool (eqb (length (target_cleaned r t).rows) (length t.rows)))

-- ==== the ring

-- an answer that stands behind the published items is of none that was finished
unanswered : (d : DeviceState) (i s : ℕ) → IsSound d → d.ring.published ≤ i → slice_get d.placed (commands_in (take i d.ring.laid)) ≡ Some s → is_among (answered d) s ≡ false
unanswered d i s sound l g =
    not-before d.placed (commands_in (take d.ring.published d.ring.laid)) (commands_in (take i d.ring.laid)) s sound.answers.differ g (commands_more d.ring.published i d.ring.laid l)

item_cleaned : (rows : List PendingRow) (k : TargetState) (d : DeviceState) (lists : List Taken) (i n : ℕ) (l : Laid) (id : ℕ) (ids : List ℕ) → IsSound d → d.ring.published ≤ i →
    CleanAt rows d lists d.ring.published (cleaned_books d).unfinished (cleaned_books d).log k →
    item_bytes (after_clean d) lists i id ids (record { len = n; laid = l }) ≡ item_bytes d lists i id ids (record { len = n; laid = l })
unfolding after_clean
item_cleaned rows k d lists i n ring.Pad id ids sound h at = refl
item_cleaned rows k d lists i n (ring.Tmr kind ss) id ids sound h at = refl
item_cleaned rows k d lists i n (ring.Cmd q c) id ids sound h at =
    entry_same d (after_clean d) id (request_of d.settings (list_of lists q) (place_of d.ring i) id c) (slice_get d.placed (commands_in (take i d.ring.laid))) refl
    (λ s g. at.found s (unanswered d i s sound h g))

pub ring_cleaned : (r : RegionState) (t : TargetState) (d : DeviceState) (lists : List Taken) → CanClean r t d lists → RingStands (region_cleaned r t).front (target_cleaned r t).items (after_clean d) lists
unfolding after_clean
ring_cleaned r t d lists h =
    let at = cleaned-at r t d lists h in
    let cp : d.ring.cleared ≤ d.ring.published = h.sound.ring.cleared in
    let k : RingStands r.front (target_cleaned r t).items (after_clean d) lists = record {
      long = h.ring.long;
      mailbox = h.ring.mailbox;
      stands = λ i x c g.
          let l : d.ring.published ≤ i = c in
          let e : List ℕ = entry_at r.front (place_of d.ring i) x.len in
          h.ring.stands i x (omega arith) g ∙ sym (item_cleaned t.rows (target_cleaned r t) d lists i x.len x.laid (id_in e) (ids_in (ids_named x) 32 e) h.sound l at);
      recorded = at.items;
    } in
    subst (λ (f : List ℕ). RingStands f (target_cleaned r t).items (after_clean d) lists) (sym (front_cleaned r t)) k

-- ==== the ids

-- a command that is not dispatched has no answer
undispatched : (d : DeviceState) (i n s : ℕ) (c : CommandData) → IsSound d → d.ring.dispatched ≤ i → slice_get d.ring.laid i ≡ Some (record { len = n; laid = ring.Cmd s c }) → is_among (answered d) s ≡ false
undispatched d i n s c sound l g =
    let front : List ℕ = dispatched_serials d.ring in
    let back : List ℕ = serials_in (drop d.ring.dispatched d.ring.laid) in
    let place : d.ring.dispatched + (i - d.ring.dispatched) ≡ i = omega arith in
    let g' : slice_get (drop d.ring.dispatched d.ring.laid) (i - d.ring.dispatched) ≡ Some (record { len = n; laid = ring.Cmd s c }) =
    sym (get-dropped d.ring.laid d.ring.dispatched (i - d.ring.dispatched)) ∙ ap (slice_get d.ring.laid) place ∙ g in
    let here : is_among back s ≡ true = serial_at (λ k. is_among back k ≡ true) (drop d.ring.dispatched d.ring.laid) (i - d.ring.dispatched) n s c (every-among back) g' in
    let df : Differ (front ++ back) = subst Differ (sym (serials_split d.ring.dispatched d.ring.laid)) (rise_differ 0 (serials_in d.ring.laid) d.accepted (laid_rise d sound.serials)) in
    let no : is_among front s ≡ false = differ-split front back s df here in
    let none : is_among d.placed s ≡ false =
    ⊎_elim
    (λ (k : is_among d.placed s ≡ true). absurd (true≢false (sym (among_every (λ q. is_among front q ≡ true) d.placed s sound.answers.dispatched k) ∙ no)))
    (λ (k : is_among d.placed s ≡ false). k)
    (cases_Bool (is_among d.placed s)) in
    among-take (commands_in (take d.ring.published d.ring.laid)) d.placed s none

pub ids_cleaned : (r : RegionState) (t : TargetState) (d : DeviceState) (lists : List Taken) → CanClean r t d lists → IdsStand (region_cleaned r t).front (target_cleaned r t).rows (after_clean d)
unfolding after_clean
ids_cleaned r t d lists h =
    let at = cleaned-at r t d lists h in
    let cp : d.ring.cleared ≤ d.ring.published = h.sound.ring.cleared in
    let k : IdsStand r.front (target_cleaned r t).rows (after_clean d) = record {
      range = at.range;
      differ = at.ids;
      answered = λ i x s l g c p. let m : d.ring.published ≤ i = l in at.kept s (unanswered d i s h.sound m p) ∙ h.ids.answered i x s (omega arith) g c p;
      own = λ i n s c l g. at.kept s (undispatched d i n s c h.sound l g) ∙ h.ids.own i n s c l g;
    } in
    subst (λ (f : List ℕ). IdsStand f (target_cleaned r t).rows (after_clean d)) (sym (front_cleaned r t)) k

-- ==== the notes

rows_differ : (lists : List Taken) (rows : List PendingRow) (us : List Unfinished) → map (λ (e : PendingRow). e.pending) rows ≡ map (pending_of lists) us → Differ (map (λ (e : PendingRow). e.id) rows) → Differ (map (λ (u : Unfinished). u.serial) us) → RowsDiffer rows
rows_differ lists rows us h ids serials = record { ids = ids; serials = subst Differ (serials_of_rows lists rows us h) serials }

pub notes_cleaned : (r : RegionState) (t : TargetState) (d : DeviceState) (lists : List Taken) → CanClean r t d lists → NotesStand r.front t.rows d → NotesStand (region_cleaned r t).front (target_cleaned r t).rows (after_clean d)
unfolding after_clean
notes_cleaned r t d lists h notes =
    let at = cleaned-at r t d lists h in
    let rows' : List PendingRow = (target_cleaned r t).rows in
    let was : RowsDiffer t.rows = rows_differ lists t.rows d.unfinished h.target.rows h.ids.differ (rise_differ 0 (map (λ (u : Unfinished). u.serial) d.unfinished) d.accepted (rows_rise d h.sound.serials)) in
    let is : RowsDiffer rows' = rows_differ lists rows' (cleaned_books d).unfinished at.pending at.ids at.differ in
    let k : NotesStand r.front rows' (after_clean d) = λ i n type_ ss l g.
    let behind : List ℕ = serials_in (drop i d.ring.laid) in
    note_stands_by t.rows rows' (serials_in (take i d.ring.laid)) behind behind type_ ss (ids_in (length ss) 32 (entry_at r.front (place_of d.ring i) n))
    (λ s id b z. note_id_fewer t.rows rows' behind s id was is at.notes z) (notes i n type_ ss l g) in
    subst (λ (f : List ℕ). NotesStand f (target_cleaned r t).rows (after_clean d)) (sym (front_cleaned r t)) k
