-- The ids that a note names its commands by, and what keeps them right.
use Rattle.std.proofs.Common.{◌≡◌, ℕ, ◌⊎◌, inl, inr, Bool, true, List, [], ◌∷◌, map, refl, sym, ap, ◌∙◌, Option, Some, None, subst, ⊎_elim, eqb}
use Rattle.std.specs.Option.{option_map}
use Rattle.std.proofs.lemmas.Bool.{eqb-true}
use Rattle.std.proofs.lemmas.Simd.{map-map}
use Rattle.tcmu_types.specs.Lists.{first_of, Every}
use Rattle.tcmu_model.specs.Device.{Unfinished}
use Rattle.tcmu_types.specs.Numbers.{is_among, Differ}
use Rattle.tcmu_model.specs.BlockLists.{Taken}
use Rattle.region_model.specs.Pending.{PendingData}
use Rattle.region_model.specs.Sides.{PendingRow}
use Rattle.region_model.specs.Represents.{AreNoteIds, IsLeftOver, IsNoteId, NoteStands, has_id, id_of, pending_of, row_has, serial_with}
use Rattle.ring_laws.proofs.Found.{found_by}
use Rattle.tcmu_types.proofs.Firsts.{first-passes}

-- ==== a serial and its id

-- a row with a number
record RowWith (p : PendingRow → Bool) (f : PendingRow → ℕ) (rows : List PendingRow) (n : ℕ) : Type 0 where
  row : PendingRow
  found : first_of p rows ≡ Some row
  is : f row ≡ n

row_with : (p : PendingRow → Bool) (f : PendingRow → ℕ) (rows : List PendingRow) (n : ℕ) → option_map f (first_of p rows) ≡ Some n → RowWith p f rows n
row_with p f rows n h = by_row (first_of p rows) refl h
  where
    by_row : (o : Option PendingRow) → first_of p rows ≡ o → option_map f o ≡ Some n → RowWith p f rows n
    by_row None e h = absurd (cc)
    by_row (Some x) e h = record { row = x; found = e; is = cc }

own_number : (f : PendingRow → ℕ) (n : ℕ) (rows : List PendingRow) (e : PendingRow) → first_of (λ x. eqb (f x) n) rows ≡ Some e → f e ≡ n
own_number f n rows e h = eqb-true (f e) n (first-passes (λ x. eqb (f x) n) rows e h)

abbrev id_in_row : PendingRow → ℕ
id_in_row e = e.id

abbrev serial_in_row : PendingRow → ℕ
serial_in_row e = e.pending.serial

-- the serial under the id of a serial is that serial, since ids differ
pub serial_under : (rows : List PendingRow) (q id : ℕ) → Differ (map (λ (e : PendingRow). e.id) rows) → id_of rows q ≡ Some id → serial_with rows id ≡ Some q
serial_under rows q id d h =
    let w : RowWith (row_has q) id_in_row rows id = row_with (row_has q) id_in_row rows id h in
    let f : first_of (has_id w.row.id) rows ≡ Some w.row = found_by (row_has q) id_in_row rows w.row d w.found in
    ap (serial_with rows) (sym w.is) ∙ ap (option_map serial_in_row) f ∙ ap Some (own_number serial_in_row q rows w.row w.found)

-- and the other way round, since serials do
id_under : (rows : List PendingRow) (q id : ℕ) → Differ (map (λ (e : PendingRow). e.pending.serial) rows) → serial_with rows id ≡ Some q → id_of rows q ≡ Some id
id_under rows q id d h =
    let w : RowWith (has_id id) serial_in_row rows q = row_with (has_id id) serial_in_row rows q h in
    let f : first_of (row_has w.row.pending.serial) rows ≡ Some w.row = found_by (has_id id) serial_in_row rows w.row d w.found in
    ap (id_of rows) (sym w.is) ∙ ap (option_map id_in_row) f ∙ ap Some (own_number id_in_row id rows w.row w.found)

pub serials_of_rows : (lists : List Taken) (rows : List PendingRow) (us : List Unfinished) → map (λ (e : PendingRow). e.pending) rows ≡ map (pending_of lists) us →
    map (λ (u : Unfinished). u.serial) us ≡ map (λ (e : PendingRow). e.pending.serial) rows
serials_of_rows lists rows us h =
    sym (map-map (λ (p : PendingData). p.serial) (pending_of lists) us) ∙ ap (map (λ (p : PendingData). p.serial)) (sym h) ∙ map-map (λ (p : PendingData). p.serial) (λ (e : PendingRow). e.pending) rows

-- ==== each id of a note

-- a note stays right where each of its ids does
pub note_stands_by : (rows rows' : List PendingRow) (before behind behind' : List ℕ) (type_ : ℕ) (ss ids : List ℕ) → ((s id : ℕ) → is_among before s ≡ true → IsNoteId rows behind s id → IsNoteId rows' behind' s id) →
    NoteStands rows before behind type_ ss ids → NoteStands rows' before behind' type_ ss ids
note_stands_by rows rows' before behind behind' type_ ss ids f h = record { byte = h.byte; earlier = h.earlier; named = all ss ids h.earlier h.named }
  where
    all : (ss ids : List ℕ) → Every (λ s. is_among before s ≡ true) ss → AreNoteIds rows behind ss ids → AreNoteIds rows' behind' ss ids
    all [] [] e h = h
    all [] (id ∷ ids) e h = absurd h
    all (s ∷ ss) [] e h = absurd h
    all (s ∷ ss) (id ∷ ids) e h = (f s id e.0 h.0, all ss ids e.1 h.1)

-- an id does where its serial and what stands under it stay
pub note_id_same : (rows rows' : List PendingRow) (behind : List ℕ) (s id : ℕ) → id_of rows' s ≡ id_of rows s → serial_with rows' id ≡ serial_with rows id → IsNoteId rows behind s id → IsNoteId rows' behind s id
note_id_same rows rows' behind s id a b h =
    subst (λ (o : Option ℕ). (o ≡ Some id) ⊎ ((o ≡ None) × IsLeftOver rows' behind id)) (sym a)
    (subst (λ (o : Option ℕ). (id_of rows s ≡ Some id) ⊎ ((id_of rows s ≡ None) × ((o ≡ None) ⊎ ((t : ℕ) × (o ≡ Some t) × (is_among behind t ≡ true))))) (sym b) h)

-- ==== rows of which some are gone

-- under an id stands the same serial, or none
abbrev pub FewerSerials : List PendingRow → List PendingRow → Type 0
FewerSerials rows rows' = (id : ℕ) → (serial_with rows' id ≡ None) ⊎ (serial_with rows' id ≡ serial_with rows id)

-- ids differ, and so do serials
pub record RowsDiffer (rows : List PendingRow) : Type 0 where
  pub ids : Differ (map (λ (e : PendingRow). e.id) rows)
  pub serials : Differ (map (λ (e : PendingRow). e.pending.serial) rows)

-- a serial has the same id, or none
fewer_ids : (rows rows' : List PendingRow) → RowsDiffer rows → RowsDiffer rows' → FewerSerials rows rows' → (s : ℕ) → (id_of rows' s ≡ None) ⊎ (id_of rows' s ≡ id_of rows s)
fewer_ids rows rows' d d' m s = by_id (id_of rows' s) refl
  where
    by_id : (o : Option ℕ) → id_of rows' s ≡ o → (id_of rows' s ≡ None) ⊎ (id_of rows' s ≡ id_of rows s)
    by_id None e = inl e
    by_id (Some id) e =
        let u : serial_with rows' id ≡ Some s = serial_under rows' s id d'.ids e in
        ⊎_elim
        (λ (z : serial_with rows' id ≡ None). let w : None ≡ Some s = sym z ∙ u in absurd (cc))
        (λ (z : serial_with rows' id ≡ serial_with rows id). inr (e ∙ sym (id_under rows s id d.serials (sym z ∙ u))))
        (m id)

left_over_fewer : (rows rows' : List PendingRow) (behind : List ℕ) (id : ℕ) → FewerSerials rows rows' → IsLeftOver rows behind id → IsLeftOver rows' behind id
left_over_fewer rows rows' behind id m h =
    ⊎_elim
    (λ (z : serial_with rows' id ≡ None). inl z)
    (λ (z : serial_with rows' id ≡ serial_with rows id). subst (λ (o : Option ℕ). (o ≡ None) ⊎ ((t : ℕ) × (o ≡ Some t) × (is_among behind t ≡ true))) (sym z) h)
    (m id)

-- the id of a command that is gone is left over
pub note_id_fewer : (rows rows' : List PendingRow) (behind : List ℕ) (s id : ℕ) → RowsDiffer rows → RowsDiffer rows' → FewerSerials rows rows' → IsNoteId rows behind s id → IsNoteId rows' behind s id
note_id_fewer rows rows' behind s id d d' m h =
    ⊎_elim
    (λ (k : id_of rows s ≡ Some id).
    ⊎_elim
    (λ (n : id_of rows' s ≡ None). inr (n, inl (gone n k)))
    (λ (n : id_of rows' s ≡ id_of rows s). inl (n ∙ k))
    (fewer_ids rows rows' d d' m s))
    (λ (k : (id_of rows s ≡ None) × IsLeftOver rows behind id). inr (still_none k.0, left_over_fewer rows rows' behind id m k.1))
    h
  where
    still_none : id_of rows s ≡ None → id_of rows' s ≡ None
    still_none k = ⊎_elim (λ (n : id_of rows' s ≡ None). n) (λ (n : id_of rows' s ≡ id_of rows s). n ∙ k) (fewer_ids rows rows' d d' m s)

    gone : id_of rows' s ≡ None → id_of rows s ≡ Some id → serial_with rows' id ≡ None
    gone n k =
        ⊎_elim
        (λ (z : serial_with rows' id ≡ None). z)
        (λ (z : serial_with rows' id ≡ serial_with rows id).
        let w : None ≡ Some id = sym n ∙ id_under rows' s id d'.serials (z ∙ serial_under rows s id d.ids k) in
        absurd (cc))
        (m id)
