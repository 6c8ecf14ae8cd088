-- An item is laid: what is kept of the notes, of the jobs and of the user side, whatever the item is.
use Rattle.std.proofs.Common.{◌≡◌, ℕ, ◌%◌, ◌≤◌, List, [], ◌∷◌, ◌++◌, length, take, drop, map, filter, sym, ap, ◌∙◌, arith, true, Some, slice_get, append-nil, subst}
use Rattle.std.proofs.lemmas.Bool.{false≢true}
use Rattle.tcmu_model.specs.RingState.{RingState, Item, Laid, lengths, pads, with_item, is_pad, commands_in, serials_in, serial_in}
use Rattle.tcmu_model.specs.RingState as ring
use Rattle.tcmu_model.specs.Device.{Unfinished, DeviceState}
use Rattle.tcmu_model.specs.Events.{is_in_hand}
use Rattle.tcmu_types.specs.Numbers.{is_among}
use Rattle.tcmu_model.specs.Sound.{IsSound}
use Rattle.tcmu_types.specs.Lists.{Every}
use Rattle.tcmu_model.specs.BlockLists.{Taken}
use Rattle.region_model.specs.Picture.{place_of}
use Rattle.tcmu_model.proofs.Basics.{among_more}
use Rattle.tcmu_types.proofs.Everies.{every-filter}
use Rattle.tcmu_model.proofs.Laying.{drop_laid, serials-append, serials-pads}
use Rattle.region_model.specs.Sides.{InHand, PendingRow, UserState}
use Rattle.region_model.specs.Represents.{AreGiven, AreOut, IsNoteId, JobsStand, NoteStands, NotesStand, UserKeeps, command_places, entry_at, ids_in, is_out, recorded}
use Rattle.tcmu_model.proofs.LaidItems.{laid_with, LaidCase, laid_case, Old, Padding, New, take-laid}
use Rattle.ring_laws.proofs.laid.LaidEntry.{laid_in}
use Rattle.ring_laws.proofs.notes.NoteIds.{note_stands_by}
use Rattle.ring_laws.proofs.SameJobs.{HasSame, given_same, outs_same}

-- ==== the notes

-- the entries that are not cleared stay as they are
abbrev pub SameEntries : List ℕ → List ℕ → DeviceState → Type 0
SameEntries front front' d = (i : ℕ) (x : Item) → d.ring.cleared ≤ i → slice_get d.ring.laid i ≡ Some x → entry_at front' (place_of d.ring i) x.len ≡ entry_at front (place_of d.ring i) x.len

-- the serials behind an item that was there
serials_behind : (r : RingState) (it : Item) (i : ℕ) → i ≤ length r.laid → serials_in (drop i (laid_with r it)) ≡ serials_in (drop i r.laid) ++ serial_in it
serials_behind r it i h =
    let p = pads (ring.pad r it.len) in
    ap serials_in (drop_laid r it i h)
    ∙ serials-append (drop i r.laid ++ p) (it ∷ [])
    ∙ ap (λ xs. xs ++ serials_in (it ∷ [])) (serials-append (drop i r.laid) p ∙ ap (λ xs. serials_in (drop i r.laid) ++ xs) (serials-pads (ring.pad r it.len)) ∙ append-nil (serials_in (drop i r.laid)))
    ∙ ap (λ xs. serials_in (drop i r.laid) ++ xs) (append-nil (serial_in it))

-- the notes stay right where the ids of all serials laid do; a note that is laid is to be right
pub notes_laid : (front front' : List ℕ) (rows rows' : List PendingRow) (d : DeviceState) (it : Item) (us : List Unfinished) → IsSound d → SameEntries front front' d →
    ((behind : List ℕ) (s id : ℕ) → is_among (serials_in d.ring.laid) s ≡ true → IsNoteId rows behind s id → IsNoteId rows' (behind ++ serial_in it) s id) →
    ((i n type_ : ℕ) (ss : List ℕ) → i ≡ length (d.ring.laid ++ pads (ring.pad d.ring it.len)) → it ≡ record { len = n; laid = ring.Tmr type_ ss } →
    NoteStands rows' (serials_in (take i (laid_with d.ring it))) (serials_in (drop i (laid_with d.ring it))) type_ ss (ids_in (length ss) 32 (entry_at front' (place_of (with_item d.ring it) i) n))) →
    NotesStand front rows d → NotesStand front' rows' (laid_in d it us)
notes_laid front front' rows rows' d it us sound same old new h =
    λ i n type_ ss dp g. by_case i n type_ ss dp (laid_case d.ring it i (record { len = n; laid = ring.Tmr type_ ss }) g)
  where
    by_case : (i n type_ : ℕ) (ss : List ℕ) → d.ring.dispatched ≤ i → LaidCase d.ring it i (record { len = n; laid = ring.Tmr type_ ss }) →
        NoteStands rows' (serials_in (take i (laid_with d.ring it))) (serials_in (drop i (laid_with d.ring it))) type_ ss (ids_in (length ss) 32 (entry_at front' (place_of (with_item d.ring it) i) n))
    by_case i n type_ ss dp (Old l g) =
        let c0 : d.ring.cleared ≤ d.ring.published = sound.ring.cleared in
        let c1 : d.ring.published ≤ d.ring.dispatched = sound.ring.published in
        let b : serials_in (drop i (laid_with d.ring it)) ≡ serials_in (drop i d.ring.laid) ++ serial_in it = serials_behind d.ring it i (omega arith) in
        let at : place_of (with_item d.ring it) i ≡ place_of d.ring i = ap (λ xs. lengths xs % d.ring.size) (take-laid d.ring it i (omega arith)) in
        let e : entry_at front' (place_of (with_item d.ring it) i) n ≡ entry_at front (place_of d.ring i) n = ap (λ z. entry_at front' z n) at ∙ same i (record { len = n; laid = ring.Tmr type_ ss }) (omega (arith, c0, c1, dp)) g in
        let before : List ℕ = serials_in (take i d.ring.laid) in
        let behind : List ℕ = serials_in (drop i d.ring.laid) in
        let ids : List ℕ → List ℕ = ids_in (length ss) 32 in
        let all : NoteStands rows' before (behind ++ serial_in it) type_ ss (ids (entry_at front (place_of d.ring i) n)) =
        note_stands_by rows rows' before behind (behind ++ serial_in it) type_ ss (ids (entry_at front (place_of d.ring i) n)) (λ s id a k. old behind s id (among_more i d.ring.laid s a) k) (h i n type_ ss dp g) in
        subst (λ (xs : List ℕ). NoteStands rows' xs (serials_in (drop i (laid_with d.ring it))) type_ ss (ids (entry_at front' (place_of (with_item d.ring it) i) n))) (sym (ap serials_in (take-laid d.ring it i (omega arith))))
        (subst (λ (xs : List ℕ). NoteStands rows' before xs type_ ss (ids (entry_at front' (place_of (with_item d.ring it) i) n))) (sym b)
        (subst (λ (y : List ℕ). NoteStands rows' before (behind ++ serial_in it) type_ ss (ids y)) (sym e) all))
    by_case i n type_ ss dp (Padding a b e) = absurd (false≢true (ap is_pad e))
    by_case i n type_ ss dp (New a e) = new i n type_ ss a (sym e)

-- ==== the jobs

pub jobs_laid : (user : UserState) (hand : List InHand) (rows rows' : List PendingRow) (d : DeviceState) (lists lists' : List Taken) (it : Item) (us : List Unfinished) → IsSound d →
    filter is_in_hand us ≡ filter is_in_hand d.unfinished → filter is_out us ≡ filter is_out d.unfinished → Every (HasSame rows rows' lists lists') d.unfinished →
    JobsStand user hand rows d lists → JobsStand user hand rows' (laid_in d it us) lists'
jobs_laid user hand rows rows' d lists lists' it us sound hs os same h =
    record {
      given = subst (AreGiven d.settings rows' lists' user.jobs) (sym hs) (given_same d.settings rows rows' lists lists' user.jobs (filter is_in_hand d.unfinished) (every-filter is_in_hand (HasSame rows rows' lists lists') d.unfinished same) h.given);
      out = subst (AreOut d.settings rows' lists' hand) (sym os) (outs_same d.settings rows rows' lists lists' hand (filter is_out d.unfinished) (every-filter is_out (HasSame rows rows' lists lists') d.unfinished same) h.out);
      offsets = h.offsets ∙ ap (λ (xs : List Item). drop (length d.placed) (command_places d.ring.size 0 xs)) (sym (take-laid d.ring it d.ring.dispatched sound.ring.dispatched));
    }

-- ==== the user side

pub side_laid : (user : UserState) (d : DeviceState) (it : Item) (us : List Unfinished) → IsSound d → UserKeeps user d → UserKeeps user (laid_in d it us)
side_laid user d it us sound h =
    let c1 : d.ring.published ≤ d.ring.dispatched = sound.ring.published in
    let c2 : d.ring.dispatched ≤ length d.ring.laid = sound.ring.dispatched in
    let tp : take d.ring.published d.ring.laid ≡ take d.ring.published (laid_with d.ring it) = sym (take-laid d.ring it d.ring.published (omega arith)) in
    let td : take d.ring.dispatched d.ring.laid ≡ take d.ring.dispatched (laid_with d.ring it) = sym (take-laid d.ring it d.ring.dispatched c2) in
    record {
      ring = h.ring;
      pages = h.pages;
      flags = h.flags;
      tail = h.tail ∙ ap (λ xs. lengths xs % d.ring.size) tp;
      dispatched = h.dispatched ∙ ap commands_in td;
      placed = h.placed;
      published = h.published ∙ ap commands_in tp;
      place = λ a. h.place a ∙ ap (λ xs. lengths xs % d.ring.size) td;
      items = λ a. h.items a ∙ ap (λ (xs : List Item). map recorded (drop d.ring.published xs)) td;
    }
