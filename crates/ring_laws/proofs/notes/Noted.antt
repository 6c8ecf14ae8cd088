-- A note is laid, and the target answers as the device.
use Rattle.std.proofs.Common.{◌≡◌, ℕ, ◌+◌, ◌%◌, ◌^◌, ◌≤◌, ◌<◌, inl, Bool, true, false, not, cond, List, [], ◌∷◌, ◌++◌, length, take, drop, map, refl, sym, ap, ◌∙◌, arith, Option, Some, None, slice_get, append-nil, subst, ⊎_elim, eqb}
use Rattle.std.specs.Prelude.{nat_le}
use Rattle.std.specs.Option.{option_map}
use Rattle.std.specs.List.{list_any}
use Rattle.std.proofs.lemmas.Bool.{cases_Bool, eqb-true, false≢true, leb-true}
use Rattle.std.proofs.lemmas.List.{length-map}
use Rattle.std.proofs.Math.Seq.{take-append_seam}
use Rattle.tcmu_types.specs.Data.{SettingsData}
use Rattle.tcmu_types.specs.declared.answer.Tmr.{Tmr}
use Rattle.tcmu_types.specs.declared.answer.Tmr.TheVariants as tmr
use Rattle.tcmu_types.specs.Lists.{first_of, Every}
use Rattle.tcmu_model.specs.Lengths.{block_size, tmr_length}
use Rattle.tcmu_model.specs.RingState.{RingState, Item, Laid, lengths, head, used, free, need, pads, with_item, commands_in, is_command, serials_in}
use Rattle.tcmu_model.specs.RingState as ring
use Rattle.tcmu_model.specs.Device.{Unfinished, DeviceState, has_serial}
use Rattle.tcmu_model.specs.Events.{after_tmr, tmr_answer, tmr_length_of, unknown_serial, with_note}
use Rattle.tcmu_types.specs.Numbers.{is_among}
use Rattle.tcmu_model.specs.Sound.{IsSound}
use Rattle.tcmu_model.specs.BlockLists.{Taken}
use Rattle.region_model.specs.Pending.{PendingData}
use Rattle.region_model.specs.Layout.{tmr_bytes}
use Rattle.region_model.specs.Picture.{place_of}
use Rattle.region_model.specs.Regions.{AreSized, RegionState}
use Rattle.tcmu_model.proofs.Basics.{rows_among}
use Rattle.tcmu_types.proofs.Everies.{every-all, every-first, every-map}
use Rattle.tcmu_model.proofs.Laying.{serials-append, serials-pads}
use Rattle.tcmu_types.proofs.Rises.{among_every}
use Rattle.tcmu_model.proofs.SoundLaying.{tmr_sizes}
use Rattle.tcmu_model.proofs.Standing.{any_among}
use Rattle.region_model.specs.Sides.{InHand, PendingRow, TargetState, UserState}
use Rattle.region_model.specs.Represents.{AreNoteIds, BlocksStand, IdsStand, IsId, IsNoteId, JobsStand, NoteStands, NotesStand, RingStands, TargetKeeps, UserKeeps, entry_at, entry_id_at, id_of, ids_in, pending_of, recorded, row_has}
use Rattle.region_model.specs.TargetSteps.{fits_in, free_in, id_or_zero, ids_of, need_in, pad_in, pads_of, region_noted, target_noted, target_tmr_answer, unknown_in}
use Rattle.tcmu_model.specs.Owned.{ListsSound}
use Rattle.ring_laws.specs.Refused.{is_unnoted}
use Rattle.ring_laws.proofs.Agree.{Agrees, agrees}
use Rattle.ring_laws.proofs.SoundRing.{holds}
use Rattle.tcmu_model.proofs.LaidItems.{laid_with, LaidCase, laid_case, Old, Padding, New, take-laid}
use Rattle.ring_laws.proofs.laid.LaidEntry.{entered, laid_in}
use Rattle.ring_laws.proofs.laid.LaidPoints.{SameEntries, jobs_laid, notes_laid, side_laid}
use Rattle.ring_laws.proofs.SameJobs.{HasSame}
use Rattle.ring_laws.proofs.laid.RingLaid.{SameItems, new-entry, old-entry, ring-laid}
use Rattle.ring_laws.proofs.laid.LaidRing.{commands-append, front_same}
use Rattle.ring_laws.proofs.laid.LaidIds.{command_long, commands-pads, id-same}
use Rattle.ring_laws.proofs.notes.NoteBytes.{ids_again}
use Rattle.ring_laws.proofs.answers.TargetAnswers.{Rooms, rooms}
use Rattle.region_model.proofs.PartLengths.{length-note}
use Rattle.tcmu_model.proofs.ListsRun.{note_item}

-- ==== which serials are known

any_rows : (lists : List Taken) (s : ℕ) (es : List PendingRow) (us : List Unfinished) → map (λ (e : PendingRow). e.pending) es ≡ map (pending_of lists) us → list_any (row_has s) es ≡ list_any (has_serial s) us
any_rows lists s es us h = rows es ∙ ap (list_any (λ (p : PendingData). eqb p.serial s)) h ∙ sym (commands us)
  where
    rows : (es : List PendingRow) → list_any (row_has s) es ≡ list_any (λ (p : PendingData). eqb p.serial s) (map (λ (e : PendingRow). e.pending) es)
    rows [] = refl
    rows (e ∷ es) =
        ⊎_elim
        (λ (z : eqb e.pending.serial s ≡ true). rw z refl)
        (λ (z : eqb e.pending.serial s ≡ false). rw z (rows es))
        (cases_Bool (eqb e.pending.serial s))

    commands : (us : List Unfinished) → list_any (has_serial s) us ≡ list_any (λ (p : PendingData). eqb p.serial s) (map (pending_of lists) us)
    commands [] = refl
    commands (u ∷ us) =
        ⊎_elim
        (λ (z : eqb u.serial s ≡ true). rw z refl)
        (λ (z : eqb u.serial s ≡ false). rw z (commands us))
        (cases_Bool (eqb u.serial s))

unknown_same : (lists : List Taken) (es : List PendingRow) (us : List Unfinished) (ss : List ℕ) → map (λ (e : PendingRow). e.pending) es ≡ map (pending_of lists) us → unknown_in es ss ≡ unknown_serial us ss
unknown_same lists es us [] h = refl
unknown_same lists es us (s ∷ ss) h =
    let a : list_any (row_has s) es ≡ list_any (has_serial s) us = any_rows lists s es us h in
    ap (λ b. cond (not b) (Some s) (unknown_in es ss)) a ∙ ap (λ o. cond (not (list_any (has_serial s) us)) (Some s) o) (unknown_same lists es us ss h)

-- ==== the answer

answer_by : Bool → Bool → Option ℕ → Bool → ℕ → ℕ → Tmr
answer_by flag blocked unknown fits need free =
    cond (not flag) tmr.Off (cond blocked tmr.Busy (elim unknown [ Some s ↦ tmr.Unknown s | None ↦ cond fits tmr.Noted (tmr.FullRing need free) ]))

pub tmr_same : (front : List ℕ) (t : TargetState) (d : DeviceState) (lists : List Taken) (ss : List ℕ) → IsSound d → ListsSound d lists → RingStands front t.items d lists → TargetKeeps t d lists → target_tmr_answer t ss ≡ tmr_answer d ss
unfolding target_tmr_answer tmr_answer answer_by
tmr_same front t d lists ss sound owned shape keeps =
    let r : Rooms t d = rooms front t d lists sound owned shape keeps in
    let n : ℕ = tmr_length (length ss) in
    let f : fits_in t n ≡ ring.fits d.ring n = ap (λ z. nat_le z (free_in t)) (r.need n) ∙ ap (nat_le (need d.ring n)) r.free in
    ap (λ (z : SettingsData). answer_by z.flags.tmr t.blocked (unknown_in t.rows ss) (fits_in t n) (need_in t n) (free_in t)) keeps.settings
    ∙ ap (λ z. answer_by d.settings.flags.tmr z (unknown_in t.rows ss) (fits_in t n) (need_in t n) (free_in t)) keeps.blocked
    ∙ ap (λ z. answer_by d.settings.flags.tmr d.blocked z (fits_in t n) (need_in t n) (free_in t)) (unknown_same lists t.rows d.unfinished ss keeps.rows)
    ∙ ap (λ z. answer_by d.settings.flags.tmr d.blocked (unknown_serial d.unfinished ss) z (need_in t n) (free_in t)) f
    ∙ ap (λ z. answer_by d.settings.flags.tmr d.blocked (unknown_serial d.unfinished ss) (ring.fits d.ring n) z (free_in t)) (r.need n)
    ∙ ap (λ z. answer_by d.settings.flags.tmr d.blocked (unknown_serial d.unfinished ss) (ring.fits d.ring n) (need d.ring n) z) r.free

-- what the answer says: each serial is known, and there is room
noted_says : (flag blocked fits : Bool) (unknown : Option ℕ) (need free : ℕ) → answer_by flag blocked unknown fits need free ≡ tmr.Noted → (unknown ≡ None) × (fits ≡ true)
unfolding answer_by
noted_says false blocked fits unknown need free h = absurd (cc)
noted_says true true fits unknown need free h = absurd (cc)
noted_says true false fits (Some s) need free h = absurd (cc)
noted_says true false true None need free h = (refl, refl)
noted_says true false false None need free h = absurd (cc)

noted_room : (d : DeviceState) (ss : List ℕ) → tmr_answer d ss ≡ tmr.Noted → (unknown_serial d.unfinished ss ≡ None) × (need d.ring (tmr_length_of ss) ≤ free d.ring)
unfolding tmr_answer answer_by
noted_room d ss h =
    let q = noted_says d.settings.flags.tmr d.blocked (ring.fits d.ring (tmr_length_of ss)) (unknown_serial d.unfinished ss) (need d.ring (tmr_length_of ss)) (free d.ring) h in
    (q.0, leb-true _ _ q.1)

-- ==== the ids of a note

first_there : (rows : List PendingRow) (s : ℕ) → list_any (row_has s) rows ≡ true → (e : PendingRow) × (first_of (row_has s) rows ≡ Some e) × (e.pending.serial ≡ s)
first_there [] s h = absurd (false≢true h)
first_there (e ∷ es) s h =
    ⊎_elim
    (λ (z : eqb e.pending.serial s ≡ true). (e, rw z refl, eqb-true e.pending.serial s z))
    (λ (z : eqb e.pending.serial s ≡ false). let g : list_any (row_has s) es ≡ true = rw z at h in let q = first_there es s g in (q.0, rw z q.1, q.2))
    (cases_Bool (eqb e.pending.serial s))

-- each serial of a new note has the id that it is named by
own_ids : (rows : List PendingRow) (behind ss : List ℕ) → unknown_in rows ss ≡ None → AreNoteIds rows behind ss (ids_of rows ss)
own_ids rows behind [] h = tt
own_ids rows behind (s ∷ ss) h =
    ⊎_elim
    (λ (z : list_any (row_has s) rows ≡ true).
    let g : unknown_in rows ss ≡ None = rw z at h in
    let q = first_there rows s z in
    let own : id_of rows s ≡ Some (id_or_zero (first_of (row_has s) rows)) = ap (option_map (λ (x : PendingRow). x.id)) q.1 ∙ sym (ap (λ o. Some (id_or_zero o)) q.1) in
    (inl own, own_ids rows behind ss g))
    (λ (z : list_any (row_has s) rows ≡ false). let g : Some s ≡ None = rw z at h in absurd (cc))
    (cases_Bool (list_any (row_has s) rows))

-- each serial of a new note is laid
known_laid : (t : TargetState) (d : DeviceState) (lists : List Taken) (ss : List ℕ) → IsSound d → TargetKeeps t d lists → unknown_in t.rows ss ≡ None → Every (λ s. is_among (serials_in d.ring.laid) s ≡ true) ss
known_laid t d lists [] sound keeps h = tt
known_laid t d lists (s ∷ ss) sound keeps h =
    ⊎_elim
    (λ (z : list_any (row_has s) t.rows ≡ true).
    let g : unknown_in t.rows ss ≡ None = rw z at h in
    let there : is_among (map (λ (u : Unfinished). u.serial) d.unfinished) s ≡ true = sym (any_among s d.unfinished) ∙ sym (any_rows lists s t.rows d.unfinished keeps.rows) ∙ z in
    let laid : Every (λ k. is_among (serials_in d.ring.laid) k ≡ true) (map (λ (u : Unfinished). u.serial) d.unfinished) =
    every-map (λ (u : Unfinished). u.serial) (λ (u : Unfinished). is_among (serials_in d.ring.laid) u.serial ≡ true) (λ k. is_among (serials_in d.ring.laid) k ≡ true) d.unfinished (λ u k. k) (rows_among d sound.serials) in
    (among_every (λ k. is_among (serials_in d.ring.laid) k ≡ true) (map (λ (u : Unfinished). u.serial) d.unfinished) s laid there, known_laid t d lists ss sound keeps g))
    (λ (z : list_any (row_has s) t.rows ≡ false). let g : Some s ≡ None = rw z at h in absurd (cc))
    (cases_Bool (list_any (row_has s) t.rows))

ids_small : (rows : List PendingRow) (ss : List ℕ) → Every (λ (e : PendingRow). IsId e.id) rows → Every (λ id. id < 2 ^ 16) (ids_of rows ss)
ids_small rows [] h = tt
ids_small rows (s ∷ ss) h = (one (first_of (row_has s) rows) refl, ids_small rows ss h)
  where
    one : (o : Option PendingRow) → first_of (row_has s) rows ≡ o → id_or_zero o < 2 ^ 16
    one None e = omega arith
    one (Some x) e = let k : x.id ≤ 65535 = (every-first (row_has s) (λ (y : PendingRow). IsId y.id) rows x h e).high in omega arith

-- ==== the ring

-- what laying a note writes
record LaidNote (r : RegionState) (t : TargetState) (d : DeviceState) (lists : List Taken) (kind : ℕ) (ss : List ℕ) : Type 0 where
  within : tmr_length_of ss ≤ d.ring.size
  room : need d.ring (tmr_length_of ss) ≤ free d.ring
  known : unknown_in t.rows ss ≡ None
  bytes : List ℕ
  len : length bytes ≡ tmr_length_of ss
  is : bytes ≡ tmr_bytes kind (ids_of t.rows ss)
  ids : ids_in (length ss) 32 bytes ≡ ids_of t.rows ss
  front : (region_noted r t kind ss tmr.Noted).front ≡ entered r.front (head d.ring) (ring.pad d.ring (tmr_length_of ss)) ((lengths d.ring.laid + ring.pad d.ring (tmr_length_of ss)) % d.ring.size) ((lengths d.ring.laid + ring.pad d.ring (tmr_length_of ss) + tmr_length_of ss) % d.ring.size) bytes

laid_note : (r : RegionState) (t : TargetState) (d : DeviceState) (lists : List Taken) (kind : ℕ) (ss : List ℕ) →
    IsSound d → RingStands r.front t.items d lists → Every (λ (e : PendingRow). IsId e.id) t.rows → TargetKeeps t d lists → tmr_answer d ss ≡ tmr.Noted → LaidNote r t d lists kind ss
unfolding region_noted
laid_note r t d lists kind ss sound shape range keeps h =
    let q = noted_room d ss h in
    let g : Agrees t d = agrees r.front t d lists shape keeps sound.ring.size in
    let fit : need d.ring (tmr_length_of ss) ≤ free d.ring = q.1 in
    let ids : List ℕ = ids_of t.rows ss in
    let many : length ids ≡ length ss = length-map ss (λ s. id_or_zero (first_of (row_has s) t.rows)) in
    record {
      within = omega (arith, fit);
      room = fit;
      known = unknown_same lists t.rows d.unfinished ss keeps.rows ∙ q.0;
      bytes = tmr_bytes kind ids;
      len = length-note kind ids ∙ ap tmr_length many;
      is = refl;
      ids = ap (λ n. ids_in n 32 (tmr_bytes kind ids)) (sym many) ∙ ids_again kind ids (ids_small t.rows ss range);
      front = front_same r.front t d (tmr_length_of ss) (tmr_bytes kind ids) g;
    }

pub ring_noted : (r : RegionState) (t : TargetState) (d : DeviceState) (lists : List Taken) (kind : ℕ) (ss : List ℕ) →
    IsSound d → RingStands r.front t.items d lists → IdsStand r.front t.rows d → TargetKeeps t d lists → tmr_answer d ss ≡ tmr.Noted →
    RingStands (region_noted r t kind ss tmr.Noted).front (target_noted t ss tmr.Noted).items (after_tmr d kind ss tmr.Noted) lists
unfolding target_noted after_tmr with_note
ring_noted r t d lists kind ss sound shape ids keeps h =
    let q : LaidNote r t d lists kind ss = laid_note r t d lists kind ss sound shape ids.range keeps h in
    let g : Agrees t d = agrees r.front t d lists shape keeps sound.ring.size in
    let it : Item = note_item kind ss in
    let n : ℕ = tmr_length_of ss in
    let p : ℕ = ring.pad d.ring n in
    let e : DeviceState = laid_in d it d.unfinished in
    let c0 : d.ring.cleared ≤ d.ring.published = sound.ring.cleared in
    let c1 : d.ring.published ≤ d.ring.dispatched = sound.ring.published in
    let c2 : d.ring.dispatched ≤ length d.ring.laid = sound.ring.dispatched in
    let new : q.bytes ≡ tmr_bytes kind (ids_in (length ss) 32 q.bytes) = q.is ∙ ap (tmr_bytes kind) (sym q.ids) in
    let same : SameItems d e lists lists = record { settings = refl; size = refl; placed = refl; found = λ k s z. refl; listed = λ i m s c l z. refl } in
    let front' : List ℕ = entered r.front (head d.ring) p ((lengths d.ring.laid + p) % d.ring.size) ((lengths d.ring.laid + p + n) % d.ring.size) q.bytes in
    let all : RingStands front' (t.items ++ pads_of p ++ recorded it ∷ []) e lists =
    ring-laid r.front t.items d lists lists it d.unfinished q.bytes shape (holds d sound) (omega (arith, c0, c1, c2)) (omega (arith, c1, c2)) q.room q.within (tmr_sizes (length ss)).0 same q.len new in
    subst (λ (f : List ℕ). RingStands f (t.items ++ pads_of (pad_in t n) ++ recorded it ∷ []) e lists) (sym q.front)
    (subst (λ k. RingStands front' (t.items ++ pads_of k ++ recorded it ∷ []) e lists) (sym (g.pad n)) all)

entries_noted : (r : RegionState) (t : TargetState) (d : DeviceState) (lists : List Taken) (kind : ℕ) (ss : List ℕ) → IsSound d → RingStands r.front t.items d lists → LaidNote r t d lists kind ss →
    SameEntries r.front (region_noted r t kind ss tmr.Noted).front d
entries_noted r t d lists kind ss sound shape q =
    λ i x cl g. ap (λ f. entry_at f (place_of d.ring i) x.len) q.front ∙ old-entry r.front d (note_item kind ss) q.bytes i x shape.long (holds d sound) q.room q.within q.len cl g

-- ==== the ids

pub ids_noted : (r : RegionState) (t : TargetState) (d : DeviceState) (lists : List Taken) (kind : ℕ) (ss : List ℕ) →
    IsSound d → RingStands r.front t.items d lists → IdsStand r.front t.rows d → TargetKeeps t d lists → tmr_answer d ss ≡ tmr.Noted →
    IdsStand (region_noted r t kind ss tmr.Noted).front (target_noted t ss tmr.Noted).rows (after_tmr d kind ss tmr.Noted)
unfolding target_noted after_tmr with_note
ids_noted r t d lists kind ss sound shape ids keeps h =
    let q : LaidNote r t d lists kind ss = laid_note r t d lists kind ss sound shape ids.range keeps h in
    let it : Item = note_item kind ss in
    record {
      range = ids.range;
      differ = ids.differ;
      answered = λ i x s cl g c p. old_id q i x s cl c (laid_case d.ring it i x g) (λ l z. ids.answered i x s cl z c (ap (λ xs. slice_get d.placed (commands_in xs)) (sym (take-laid d.ring it i l)) ∙ p));
      own = λ i n s c dp g.
          let c0 : d.ring.cleared ≤ d.ring.published = sound.ring.cleared in
          let c1 : d.ring.published ≤ d.ring.dispatched = sound.ring.published in
          old_id q i (record { len = n; laid = ring.Cmd s c }) s (omega (arith, c0, c1, dp)) refl (laid_case d.ring it i (record { len = n; laid = ring.Cmd s c }) g) (λ l z. ids.own i n s c dp z);
    }
  where
    old_id : LaidNote r t d lists kind ss → (i : ℕ) (x : Item) (s : ℕ) → d.ring.cleared ≤ i → is_command x ≡ true → LaidCase d.ring (note_item kind ss) i x →
        (i ≤ length d.ring.laid → slice_get d.ring.laid i ≡ Some x → id_of t.rows s ≡ Some (entry_id_at r.front (place_of d.ring i))) →
        id_of t.rows s ≡ Some (entry_id_at (region_noted r t kind ss tmr.Noted).front (place_of (with_item d.ring (note_item kind ss)) i))
    old_id q i x s cl c (Old l g) f =
        let front' : List ℕ = (region_noted r t kind ss tmr.Noted).front in
        let near : i ≤ length d.ring.laid = omega arith in
        f near g
        ∙ ap Some (sym (id-same r.front front' (place_of d.ring i) x.len (command_long d i x sound g c) (entries_noted r t d lists kind ss sound shape q i x cl g)))
        ∙ ap (λ xs. Some (entry_id_at front' (lengths xs % d.ring.size))) (sym (take-laid d.ring (note_item kind ss) i near))
    old_id q i x s cl c (Padding a b e) f = absurd (false≢true (ap is_command (sym e) ∙ c))
    old_id q i x s cl c (New a e) f = absurd (false≢true (ap is_command (sym e) ∙ c))

-- ==== the notes

-- the commands before a new item are all that are laid
serials_before : (r : RingState) (it : Item) → serials_in (take (length (r.laid ++ pads (ring.pad r it.len))) (laid_with r it)) ≡ serials_in r.laid
serials_before r it =
    let p : List Item = pads (ring.pad r it.len) in
    ap serials_in (take-append_seam (r.laid ++ p) (it ∷ [])) ∙ serials-append r.laid p ∙ ap (λ xs. serials_in r.laid ++ xs) (serials-pads (ring.pad r it.len)) ∙ append-nil (serials_in r.laid)

pub notes_noted : (r : RegionState) (t : TargetState) (d : DeviceState) (lists : List Taken) (type_ : ℕ) (ss : List ℕ) →
    IsSound d → RingStands r.front t.items d lists → IdsStand r.front t.rows d → NotesStand r.front t.rows d → TargetKeeps t d lists → type_ < 256 → tmr_answer d ss ≡ tmr.Noted →
    NotesStand (region_noted r t type_ ss tmr.Noted).front (target_noted t ss tmr.Noted).rows (after_tmr d type_ ss tmr.Noted)
unfolding target_noted after_tmr with_note
notes_noted r t d lists type_ ss sound shape ids notes keeps byte h =
    let q : LaidNote r t d lists type_ ss = laid_note r t d lists type_ ss sound shape ids.range keeps h in
    notes_laid r.front (region_noted r t type_ ss tmr.Noted).front t.rows t.rows d (note_item type_ ss) d.unfinished sound (entries_noted r t d lists type_ ss sound shape q)
    (λ behind s id a k. subst (λ (xs : List ℕ). IsNoteId t.rows xs s id) (sym (append-nil behind)) k) (new_note q) notes
  where
    new_note : LaidNote r t d lists type_ ss → (i n k : ℕ) (zs : List ℕ) → i ≡ length (d.ring.laid ++ pads (ring.pad d.ring (tmr_length_of ss))) → note_item type_ ss ≡ record { len = n; laid = ring.Tmr k zs } →
        NoteStands t.rows (serials_in (take i (laid_with d.ring (note_item type_ ss)))) (serials_in (drop i (laid_with d.ring (note_item type_ ss)))) k zs
        (ids_in (length zs) 32 (entry_at (region_noted r t type_ ss tmr.Noted).front (place_of (with_item d.ring (note_item type_ ss)) i) n))
    new_note q i n k zs a e =
        let it : Item = note_item type_ ss in
        let front' : List ℕ = (region_noted r t type_ ss tmr.Noted).front in
        let j : ℕ = length (d.ring.laid ++ pads (ring.pad d.ring (tmr_length_of ss))) in
        let there : entry_at front' (place_of (with_item d.ring it) j) (tmr_length_of ss) ≡ q.bytes =
        ap (λ f. entry_at f (place_of (with_item d.ring it) j) (tmr_length_of ss)) q.front ∙ new-entry r.front d it q.bytes shape.long (holds d sound) q.within q.len in
        let before : List ℕ = serials_in (take i (laid_with d.ring it)) in
        let behind : List ℕ = serials_in (drop i (laid_with d.ring it)) in
        let all : before ≡ serials_in d.ring.laid = ap (λ z. serials_in (take z (laid_with d.ring it))) a ∙ serials_before d.ring it in
        let read : ids_in (length ss) 32 (entry_at front' (place_of (with_item d.ring it) i) (tmr_length_of ss)) ≡ ids_of t.rows ss =
        ap (λ z. ids_in (length ss) 32 (entry_at front' (place_of (with_item d.ring it) z) (tmr_length_of ss))) a ∙ ap (ids_in (length ss) 32) there ∙ q.ids in
        let mine : NoteStands t.rows before behind type_ ss (ids_in (length ss) 32 (entry_at front' (place_of (with_item d.ring it) i) (tmr_length_of ss))) = record {
          byte = byte;
          earlier = subst (λ (xs : List ℕ). Every (λ s. is_among xs s ≡ true) ss) (sym all) (known_laid t d lists ss sound keeps q.known);
          named = subst (AreNoteIds t.rows behind ss) (sym read) (own_ids t.rows behind ss q.known);
        } in
        let l : tmr_length_of ss ≡ n = ap (λ (y : Item). y.len) e in
        let z : ring.Tmr type_ ss ≡ ring.Tmr k zs = ap (λ (y : Item). y.laid) e in
        let s : ss ≡ zs = cc in
        let kind : type_ ≡ k = cc in
        subst (λ m. NoteStands t.rows before behind k zs (ids_in (length zs) 32 (entry_at front' (place_of (with_item d.ring it) i) m))) l
        (subst (λ (ys : List ℕ). NoteStands t.rows before behind k ys (ids_in (length ys) 32 (entry_at front' (place_of (with_item d.ring it) i) (tmr_length_of ss)))) s
        (subst (λ (y : ℕ). NoteStands t.rows before behind y ss (ids_in (length ss) 32 (entry_at front' (place_of (with_item d.ring it) i) (tmr_length_of ss)))) kind mine))

-- ==== what the region's front does not say

pub blocks_noted : (r : RegionState) (t : TargetState) (d : DeviceState) (lists : List Taken) (kind : ℕ) (ss : List ℕ) → BlocksStand r.blocks d lists → BlocksStand (region_noted r t kind ss tmr.Noted).blocks (after_tmr d kind ss tmr.Noted) lists
unfolding region_noted after_tmr with_note
blocks_noted r t d lists kind ss h = record { all = h.all; just = h.just }

pub jobs_noted : (user : UserState) (hand : List InHand) (t : TargetState) (d : DeviceState) (lists : List Taken) (kind : ℕ) (ss : List ℕ) → IsSound d → JobsStand user hand t.rows d lists →
    JobsStand user hand (target_noted t ss tmr.Noted).rows (after_tmr d kind ss tmr.Noted) lists
unfolding target_noted after_tmr with_note
jobs_noted user hand t d lists kind ss sound h =
    jobs_laid user hand t.rows t.rows d lists lists (note_item kind ss) d.unfinished sound refl refl (every-all (HasSame t.rows t.rows lists lists) d.unfinished (λ u. (refl, refl))) h

pub target_noted_keeps : (t : TargetState) (d : DeviceState) (lists : List Taken) (kind : ℕ) (ss : List ℕ) → IsSound d → TargetKeeps t d lists → TargetKeeps (target_noted t ss tmr.Noted) (after_tmr d kind ss tmr.Noted) lists
unfolding target_noted after_tmr with_note
target_noted_keeps t d lists kind ss sound keeps =
    let it : Item = note_item kind ss in
    let p : ℕ = ring.pad d.ring (tmr_length_of ss) in
    let c0 : d.ring.cleared ≤ d.ring.published = sound.ring.cleared in
    let c1 : d.ring.published ≤ d.ring.dispatched = sound.ring.published in
    let c2 : d.ring.dispatched ≤ length d.ring.laid = sound.ring.dispatched in
    let tk : take d.ring.cleared (laid_with d.ring it) ≡ take d.ring.cleared d.ring.laid = take-laid d.ring it d.ring.cleared (omega (arith, c0, c1, c2)) in
    record {
      settings = keeps.settings;
      now = keeps.now;
      blocked = keeps.blocked;
      accepted = keeps.accepted;
      rows = keeps.rows;
      delayed = keeps.delayed;
      cleaned = keeps.cleaned ∙ ap (λ xs. lengths xs % d.ring.size) (sym tk);
      laid =
          let a : commands_in (laid_with d.ring it) ≡ commands_in (d.ring.laid ++ pads p) + commands_in (it ∷ []) = commands-append (d.ring.laid ++ pads p) (it ∷ []) in
          let b : commands_in (d.ring.laid ++ pads p) ≡ commands_in d.ring.laid + commands_in (pads p) = commands-append d.ring.laid (pads p) in
          let c : commands_in (pads p) ≡ 0 = commands-pads p in
          let none : ◌≡◌ {A = ℕ} (commands_in (it ∷ [])) 0 = refl in
          let k : t.laid ≡ commands_in d.ring.laid = keeps.laid in
          omega arith;
      cleared = keeps.cleared ∙ ap commands_in (sym tk);
      broken = keeps.broken;
      log = keeps.log;
    }

pub side_noted : (user : UserState) (d : DeviceState) (kind : ℕ) (ss : List ℕ) → IsSound d → UserKeeps user d → UserKeeps user (after_tmr d kind ss tmr.Noted)
unfolding after_tmr with_note
side_noted user d kind ss sound h = side_laid user d (note_item kind ss) d.unfinished sound h

pub pages_noted : (r : RegionState) (t : TargetState) (d : DeviceState) (kind : ℕ) (ss : List ℕ) → r.pages ≡ d.settings.pages → (region_noted r t kind ss tmr.Noted).pages ≡ (after_tmr d kind ss tmr.Noted).settings.pages
unfolding region_noted after_tmr with_note
pages_noted r t d kind ss h = h

pub sized_noted : (r : RegionState) (t : TargetState) (kind : ℕ) (ss : List ℕ) → AreSized (block_size r.pages) r.blocks → AreSized (block_size (region_noted r t kind ss tmr.Noted).pages) (region_noted r t kind ss tmr.Noted).blocks
unfolding region_noted
sized_noted r t kind ss h = h

-- ==== nothing changes

pub unnoted_same : (r : RegionState) (t : TargetState) (d : DeviceState) (kind : ℕ) (ss : List ℕ) (a : Tmr) → is_unnoted a ≡ true → (after_tmr d kind ss a ≡ d) × (target_noted t ss a ≡ t) × (region_noted r t kind ss a ≡ r)
unfolding after_tmr target_noted region_noted
unnoted_same r t d kind ss tmr.Noted h = absurd (false≢true h)
unnoted_same r t d kind ss tmr.Off h = (refl, refl, refl)
unnoted_same r t d kind ss tmr.Busy h = (refl, refl, refl)
unnoted_same r t d kind ss (tmr.Unknown s) h = (refl, refl, refl)
unnoted_same r t d kind ss (tmr.FullRing need free) h = (refl, refl, refl)
