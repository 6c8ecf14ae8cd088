-- A command is laid: the ids, and the target's own records.
use Rattle.std.proofs.Common.{◌≡◌, ℕ, ◌+◌, ◌%◌, ◌≤◌, ◌<◌, true, false, cond, List, [], ◌∷◌, ◌++◌, length, take, drop, map, refl, sym, ap, ◌∙◌, arith, Option, Some, None, slice_get, subst, ⊎_elim, eqb}
use Rattle.std.proofs.lemmas.Bool.{cases_Bool, eq-eqb, ne_eqb, false≢true}
use Rattle.std.proofs.lemmas.List.{take-append-drop, take-take, length-take-le, map-append}
use Rattle.tcmu_types.specs.Data.{CommandData, SettingsData}
use Rattle.tcmu_types.specs.Lists.{first_of, Every}
use Rattle.tcmu_model.specs.Lengths.{blocks_of, entry_length}
use Rattle.tcmu_model.specs.RingState.{RingState, Item, Laid, lengths, head, used, free, need, pads, with_item, commands_in, is_command, serials_in, serial_in, dispatched_commands, cleared_commands}
use Rattle.tcmu_model.specs.RingState as ring
use Rattle.tcmu_model.specs.Device.{Unfinished, DeviceState}
use Rattle.tcmu_model.specs.BlockLists.{Taken, list_of, held_by, least_free, blocks_taken, with_taken}
use Rattle.region_model.specs.Layout.{ring_start}
use Rattle.tcmu_types.specs.ByteFields.{field}
use Rattle.tcmu_types.specs.Overwriting.{zeros}
use Rattle.region_model.specs.Pending.{PendingData}
use Rattle.region_model.specs.Picture.{place_of}
use Rattle.region_model.specs.Sides.{PendingRow, TargetState}
use Rattle.region_model.specs.Represents.{RingStands, entry_at, id_in, TargetKeeps, pending_of, entry_id_at, id_of, row_has, IsId, IdsStand}
use Rattle.region_model.specs.TargetSteps.{blocks_given, deadline_in, region_laid, target_laid, row_of}
use Rattle.std.specs.Option.{option_map}
use Rattle.tcmu_model.specs.Events.{waiting, with_command, deadline_at}
use Rattle.tcmu_types.specs.Numbers.{is_among, Differ}
use Rattle.region_model.specs.Regions.{RegionState}
use Rattle.tcmu_model.specs.Sound.{IsSound, HasLength}
use Rattle.tcmu_types.proofs.ByteFields.{field-front}
use Rattle.tcmu_model.proofs.Basics.{placed_every}
use Rattle.tcmu_types.proofs.Rises.{differ-push}
use Rattle.tcmu_types.proofs.Everies.{every-map, every-append, every-mapped, every_at}
use Rattle.tcmu_model.proofs.Indexed.{item_at}
use Rattle.tcmu_model.specs.Owned.{ListsSound, HasRoom}
use Rattle.ring_laws.proofs.SoundRing.{holds}
use Rattle.tcmu_model.proofs.LaidItems.{laid_with, LaidCase, laid_case, Old, Padding, New, take-laid, serial_at}
use Rattle.ring_laws.proofs.laid.LaidEntry.{laid_in}
use Rattle.ring_laws.proofs.laid.RingLaid.{old-entry, new-entry}
use Rattle.ring_laws.proofs.laid.LaidPoints.{SameEntries}
use Rattle.ring_laws.proofs.Agree.{blocks-same}
use Rattle.ring_laws.proofs.laid.LaidRing.{commands-append, LaidCommand, laid_command, within_ring}
use Rattle.tcmu_model.proofs.ListsLaid.{not_below, unlisted, cmd_item, with_waiting, rows_below, lists_below}
use Rattle.tcmu_types.proofs.Firsts.{first-append, first-here}
use Rattle.tcmu_model.proofs.SoundLaying.{entry_least}

-- ==== what is below the new serial

pub pending_below : (t : TargetState) (d : DeviceState) (lists : List Taken) (s : ℕ) → TargetKeeps t d lists → Every (λ (u : Unfinished). u.serial < s) d.unfinished → Every (λ (e : PendingRow). e.pending.serial < s) t.rows
pending_below t d lists s keeps h =
    every-mapped (λ (e : PendingRow). e.pending) (λ (p : PendingData). p.serial < s) t.rows
    (subst (Every (λ (p : PendingData). p.serial < s)) (sym keeps.rows) (every-map (pending_of lists) (λ (u : Unfinished). u.serial < s) (λ (p : PendingData). p.serial < s) d.unfinished (λ u k. k) h))

unheld : (rows : List PendingRow) (s : ℕ) → Every (λ (e : PendingRow). e.pending.serial < s) rows → first_of (row_has s) rows ≡ None
unheld [] s h = refl
unheld (e ∷ es) s h = let k : eqb e.pending.serial s ≡ false = ne_eqb e.pending.serial s (λ q. let l : e.pending.serial < s = h.0 in absurd (omega arith)) in rw k (unheld es s h.1)

-- ==== the target's records

pending_same : (lists : List Taken) (new : Taken) (us : List Unfinished) (s : ℕ) → new.serial ≡ s → Every (λ (u : Unfinished). u.serial < s) us → map (pending_of (lists ++ new ∷ [])) us ≡ map (pending_of lists) us
pending_same lists new [] s e h = refl
pending_same lists new (u ∷ us) s e h =
    let l : u.serial < s = h.0 in
    let q : first_of (λ (t : Taken). eqb t.serial u.serial) (lists ++ new ∷ []) ≡ first_of (λ (t : Taken). eqb t.serial u.serial) lists =
    first-append (λ (t : Taken). eqb t.serial u.serial) lists new (ne_eqb new.serial u.serial (λ k. absurd (omega arith))) in
    ap (λ (o : Option Taken). (record { serial = u.serial; init = u.command.init; tag = u.command.tag; in_len = u.command.in_len; blocks = blocks_taken o; deadline = u.deadline; expired = u.expired; buffer = zeros u.command.in_len }) ∷ map (pending_of (lists ++ new ∷ [])) us) q
    ∙ ap (λ (ps : List PendingData). pending_of lists u ∷ ps) (pending_same lists new us s e h.1)

pub commands-pads : (n : ℕ) → commands_in (pads n) ≡ 0
commands-pads n =
    ⊎_elim
    (λ (z : eqb n 0 ≡ true). rw z refl)
    (λ (z : eqb n 0 ≡ false). rw z refl)
    (cases_Bool (eqb n 0))

pub keeps_laid : (t : TargetState) (d : DeviceState) (lists : List Taken) (s : ℕ) (c : CommandData) (id : ℕ) →
    IsSound d → ListsSound d lists → TargetKeeps t d lists → Every (λ k. k < s) (serials_in d.ring.laid) →
    TargetKeeps (target_laid t s c id) (laid_in d (cmd_item d s c) (with_waiting d s c)) (with_taken d lists s c)
unfolding target_laid
keeps_laid t d lists s c id sound owned keeps above =
    let it : Item = cmd_item d s c in
    let p : ℕ = ring.pad d.ring (entry_length d.settings.pages c) in
    let free0 : List ℕ = least_free d.settings.blocks (held_by lists d.unfinished) (blocks_of d.settings.pages c) in
    let new : Taken = record { serial = s; blocks = free0 } in
    let lists' = with_taken d lists s c in
    let lb : list_of lists' s ≡ free0 = ap blocks_taken (first-here (λ (l : Taken). eqb l.serial s) lists new (eq-eqb s s refl) (unlisted lists s (lists_below d lists s owned above))) in
    let b : blocks_given t c ≡ list_of lists' s = blocks-same t d lists c keeps ∙ sym lb in
    let dl : deadline_in t ≡ deadline_at d = ap (λ (z : SettingsData). cond (eqb z.timeout 0) None (Some (t.now + z.timeout))) keeps.settings ∙ ap (λ z. cond (eqb d.settings.timeout 0) None (Some (z + d.settings.timeout))) keeps.now in
    let row : (row_of t s c id).pending ≡ pending_of lists' (waiting d s c) =
    ap (λ (z : List ℕ). record { serial = s; init = c.init; tag = c.tag; in_len = c.in_len; blocks = z; deadline = deadline_in t; expired = false; buffer = zeros c.in_len }) b
    ∙ ap (λ (z : Option ℕ). record { serial = s; init = c.init; tag = c.tag; in_len = c.in_len; blocks = list_of lists' s; deadline = z; expired = false; buffer = zeros c.in_len }) dl in
    let cl : d.ring.cleared ≤ length d.ring.laid = let a : d.ring.cleared ≤ d.ring.published = sound.ring.cleared in let b : d.ring.published ≤ d.ring.dispatched = sound.ring.published in let c : d.ring.dispatched ≤ length d.ring.laid = sound.ring.dispatched in omega arith in
    let tk : take d.ring.cleared (laid_with d.ring it) ≡ take d.ring.cleared d.ring.laid = take-laid d.ring it d.ring.cleared cl in
    record {
      settings = keeps.settings;
      now = keeps.now;
      blocked = keeps.blocked;
      accepted = keeps.accepted;
      rows = map-append (λ (e : PendingRow). e.pending) t.rows (row_of t s c id ∷ [])
          ∙ ap (λ (ps : List PendingData). ps ++ (row_of t s c id).pending ∷ []) (keeps.rows ∙ sym (pending_same lists new d.unfinished s refl (rows_below d s sound above)))
          ∙ ap (λ (q : PendingData). map (pending_of lists') d.unfinished ++ q ∷ []) row
          ∙ sym (map-append (pending_of lists') d.unfinished (waiting d s c ∷ []));
      delayed = keeps.delayed;
      cleaned = keeps.cleaned ∙ ap (λ xs. lengths xs % d.ring.size) (sym tk);
      laid =
          let a : commands_in (laid_with d.ring it) ≡ commands_in (d.ring.laid ++ pads p) + commands_in (it ∷ []) = commands-append (d.ring.laid ++ pads p) (it ∷ []) in
          let b : commands_in (d.ring.laid ++ pads p) ≡ commands_in d.ring.laid + commands_in (pads p) = commands-append d.ring.laid (pads p) in
          let c : commands_in (pads p) ≡ 0 = commands-pads p in
          let one : ◌≡◌ {A = ℕ} (commands_in (it ∷ [])) 1 = refl in
          let k : t.laid ≡ commands_in d.ring.laid = keeps.laid in
          omega arith;
      cleared = keeps.cleared ∙ ap commands_in (sym tk);
      broken = keeps.broken;
      log = keeps.log;
    }

-- ==== ids

pub every-push : {X : Type 0} (P : X → Type 0) (xs : List X) (y : X) → Every P xs → P y → Every P (xs ++ y ∷ [])
every-push P xs y h k = every-append P xs (y ∷ []) h (k, tt)

-- the same entry has the same id, which stands in its first 112 bytes
pub id-same : (front front' : List ℕ) (at n : ℕ) → 112 ≤ n → entry_at front' at n ≡ entry_at front at n → entry_id_at front' at ≡ entry_id_at front at
id-same front front' at n h e =
    let f : (zs : List ℕ) → take 112 (take n (drop (ring_start + at) zs)) ≡ take 112 (drop (ring_start + at) zs) = λ zs. take-take 112 n (drop (ring_start + at) zs) h in
    ap id_in (sym (f front') ∙ ap (take 112) e ∙ f front)

pub id_front : (bytes : List ℕ) → 112 ≤ length bytes → id_in (take 112 bytes) ≡ id_in bytes
id_front bytes h = sym (field-front 2 4 (take 112 bytes) (drop 112 bytes) (omega (arith, length-take-le 112 bytes h))) ∙ ap (field 2 4) (take-append-drop 112 bytes)

long_of : (s : SettingsData) (start n : ℕ) (l : Laid) → is_command (record { len = n; laid = l }) ≡ true → HasLength s start n l → 112 ≤ n
long_of s start n ring.Pad h k = absurd (false≢true h)
long_of s start n (ring.Cmd q c) h k = let e : n ≡ entry_length s.pages c = k.0 in omega (arith, e, entry_least s.pages c)
long_of s start n (ring.Tmr kind ss) h k = absurd (false≢true h)

pub command_long : (d : DeviceState) (i : ℕ) (x : Item) → IsSound d → slice_get d.ring.laid i ≡ Some x → is_command x ≡ true → 112 ≤ x.len
command_long d i x sound g h = long_of d.settings (lengths (take i d.ring.laid)) x.len x.laid h (item_at d i x sound g).kind

-- what laying writes and gives, as the ids read it
record Gives (front front' : List ℕ) (rows rows' : List PendingRow) (d : DeviceState) (s : ℕ) (c : CommandData) (id : ℕ) : Type 0 where
  old : (i : ℕ) (x : Item) → d.ring.cleared ≤ i → slice_get d.ring.laid i ≡ Some x → is_command x ≡ true → entry_id_at front' (place_of d.ring i) ≡ entry_id_at front (place_of d.ring i)
  other : (q : ℕ) → q < s → id_of rows' q ≡ id_of rows q
  mine : id_of rows' s ≡ Some id
  new : entry_id_at front' (place_of (with_item d.ring (cmd_item d s c)) (length (d.ring.laid ++ pads (ring.pad d.ring (entry_length d.settings.pages c))))) ≡ id
  none : slice_get d.placed (commands_in (take (length (d.ring.laid ++ pads (ring.pad d.ring (entry_length d.settings.pages c)))) (laid_with d.ring (cmd_item d s c)))) ≡ None

answered_case : (front front' : List ℕ) (rows rows' : List PendingRow) (d : DeviceState) (s : ℕ) (c : CommandData) (id : ℕ) → IsSound d → Every (λ k. k < s) (serials_in d.ring.laid) → IdsStand front rows d → Gives front front' rows rows' d s c id →
    (i : ℕ) (x : Item) (q : ℕ) → d.ring.cleared ≤ i → is_command x ≡ true → LaidCase d.ring (cmd_item d s c) i x → slice_get d.placed (commands_in (take i (laid_with d.ring (cmd_item d s c)))) ≡ Some q →
    id_of rows' q ≡ Some (entry_id_at front' (place_of (with_item d.ring (cmd_item d s c)) i))
answered_case front front' rows rows' d s c id sound above ids w i x q cl k (Old l g) p =
    let tk : take i (laid_with d.ring (cmd_item d s c)) ≡ take i d.ring.laid = take-laid d.ring (cmd_item d s c) i (omega arith) in
    let p' : slice_get d.placed (commands_in (take i d.ring.laid)) ≡ Some q = ap (λ xs. slice_get d.placed (commands_in xs)) (sym tk) ∙ p in
    let qs : q < s = every_at (λ (n : ℕ). n < s) d.placed (commands_in (take i d.ring.laid)) q (placed_every (λ (n : ℕ). n < s) d sound.answers above) p' in
    w.other q qs ∙ ids.answered i x q cl g k p' ∙ ap Some (sym (w.old i x cl g k)) ∙ ap (λ xs. Some (entry_id_at front' (lengths xs % d.ring.size))) (sym tk)
answered_case front front' rows rows' d s c id sound above ids w i x q cl k (Padding a b e) p = absurd (false≢true (ap is_command (sym e) ∙ k))
answered_case front front' rows rows' d s c id sound above ids w i x q cl k (New a e) p =
    let p' = subst (λ (z : ℕ). slice_get d.placed (commands_in (take z (laid_with d.ring (cmd_item d s c)))) ≡ Some q) a p in
    let no : None ≡ Some q = sym w.none ∙ p' in absurd (cc)

own_case : (front front' : List ℕ) (rows rows' : List PendingRow) (d : DeviceState) (s : ℕ) (c : CommandData) (id : ℕ) → IsSound d → Every (λ k. k < s) (serials_in d.ring.laid) → IdsStand front rows d → Gives front front' rows rows' d s c id →
    (i n q : ℕ) (c' : CommandData) → d.ring.dispatched ≤ i → LaidCase d.ring (cmd_item d s c) i (record { len = n; laid = ring.Cmd q c' }) →
    id_of rows' q ≡ Some (entry_id_at front' (place_of (with_item d.ring (cmd_item d s c)) i))
own_case front front' rows rows' d s c id sound above ids w i n q c' dp (Old l g) =
    let tk : take i (laid_with d.ring (cmd_item d s c)) ≡ take i d.ring.laid = take-laid d.ring (cmd_item d s c) i (omega arith) in
    let c0 : d.ring.cleared ≤ d.ring.published = sound.ring.cleared in
    let c1 : d.ring.published ≤ d.ring.dispatched = sound.ring.published in
    let cl : d.ring.cleared ≤ i = omega (arith, c0, c1, dp) in
    w.other q (serial_at (λ (k : ℕ). k < s) d.ring.laid i n q c' above g) ∙ ids.own i n q c' dp g ∙ ap Some (sym (w.old i (record { len = n; laid = ring.Cmd q c' }) cl g refl))
    ∙ ap (λ xs. Some (entry_id_at front' (lengths xs % d.ring.size))) (sym tk)
own_case front front' rows rows' d s c id sound above ids w i n q c' dp (Padding a b e) = absurd (false≢true (ap is_command (sym e)))
own_case front front' rows rows' d s c id sound above ids w i n q c' dp (New a e) =
    let l : ring.Cmd q c' ≡ ring.Cmd s c = ap (λ (y : Item). y.laid) e in
    let s0 : q ≡ s = cc in
    ap (id_of rows') s0 ∙ w.mine ∙ ap Some (sym w.new) ∙ ap (λ z. Some (entry_id_at front' (place_of (with_item d.ring (cmd_item d s c)) z))) (sym a)

-- the entries that are not cleared stay
pub entries_laid : (r : RegionState) (t : TargetState) (d : DeviceState) (lists : List Taken) (s : ℕ) (c : CommandData) (id : ℕ) →
    IsSound d → RingStands r.front t.items d lists → HasRoom d c → LaidCommand r t d lists s c id → SameEntries r.front (region_laid r t c id).front d
entries_laid r t d lists s c id sound shape room q =
    λ i x cl g. ap (λ f. entry_at f (place_of d.ring i) x.len) q.front ∙ old-entry r.front d (cmd_item d s c) q.bytes i x shape.long (holds d sound) room.fits (within_ring d c room) q.len cl g

gives : (r : RegionState) (t : TargetState) (d : DeviceState) (lists : List Taken) (s : ℕ) (c : CommandData) (id : ℕ) →
    IsSound d → RingStands r.front t.items d lists → TargetKeeps t d lists → HasRoom d c → Every (λ k. k < s) (serials_in d.ring.laid) → LaidCommand r t d lists s c id →
    Gives r.front (region_laid r t c id).front t.rows (t.rows ++ row_of t s c id ∷ []) d s c id
gives r t d lists s c id sound shape keeps room above q =
    let it : Item = cmd_item d s c in
    let n : ℕ = entry_length d.settings.pages c in
    let front' : List ℕ = (region_laid r t c id).front in
    let at : ℕ = place_of (with_item d.ring it) (length (d.ring.laid ++ pads (ring.pad d.ring n))) in
    let b : entry_at front' at n ≡ q.bytes = ap (λ z. entry_at z at n) q.front ∙ new-entry r.front d it q.bytes shape.long (holds d sound) (within_ring d c room) q.len in
    let u : take 112 (entry_at front' at n) ≡ entry_at front' at 112 = take-take 112 n (drop (ring_start + at) front') (entry_least d.settings.pages c) in
    record {
      old = λ i x cl g k. id-same r.front front' (place_of d.ring i) x.len (command_long d i x sound g k)
          (entries_laid r t d lists s c id sound shape room q i x cl g);
      other = λ k h. ap (option_map (λ (e : PendingRow). e.id)) (first-append (row_has k) t.rows (row_of t s c id) (not_below s k h));
      mine = ap (option_map (λ (e : PendingRow). e.id)) (first-here (row_has s) t.rows (row_of t s c id) (eq-eqb s s refl) (unheld t.rows s (pending_below t d lists s keeps (rows_below d s sound above))));
      new = ap id_in (sym u ∙ ap (take 112) b) ∙ id_front q.bytes (omega (arith, q.len, entry_least d.settings.pages c)) ∙ q.id_is;
      none = q.none;
    }

-- ==== the law

pub stands_laid : (r : RegionState) (t : TargetState) (d : DeviceState) (lists : List Taken) (s : ℕ) (c : CommandData) (id : ℕ) →
    IsSound d → ListsSound d lists → RingStands r.front t.items d lists → TargetKeeps t d lists → HasRoom d c → IsId id → Every (λ k. k < s) (serials_in d.ring.laid) →
    RingStands (region_laid r t c id).front (target_laid t s c id).items (with_command d s c) (with_taken d lists s c)
unfolding with_command
stands_laid r t d lists s c id sound owned shape keeps room is_id above =
    (laid_command r t d lists s c id sound owned shape keeps room (let h : id ≤ 65535 = is_id.high in omega arith) above (lists_below d lists s owned above)).stands

pub target_stands_laid : (t : TargetState) (d : DeviceState) (lists : List Taken) (s : ℕ) (c : CommandData) (id : ℕ) →
    IsSound d → ListsSound d lists → TargetKeeps t d lists → Every (λ k. k < s) (serials_in d.ring.laid) →
    TargetKeeps (target_laid t s c id) (with_command d s c) (with_taken d lists s c)
unfolding with_command
target_stands_laid t d lists s c id sound owned keeps above = keeps_laid t d lists s c id sound owned keeps above

pub ids_stand_laid : (r : RegionState) (t : TargetState) (d : DeviceState) (lists : List Taken) (s : ℕ) (c : CommandData) (id : ℕ) →
    IsSound d → ListsSound d lists → RingStands r.front t.items d lists → IdsStand r.front t.rows d → TargetKeeps t d lists → HasRoom d c → IsId id → is_among (map (λ e. e.id) t.rows) id ≡ false → Every (λ k. k < s) (serials_in d.ring.laid) →
    IdsStand (region_laid r t c id).front (target_laid t s c id).rows (with_command d s c)
unfolding with_command target_laid
ids_stand_laid r t d lists s c id sound owned shape ids keeps room is_id unused above =
    let q : LaidCommand r t d lists s c id = laid_command r t d lists s c id sound owned shape keeps room (let h : id ≤ 65535 = is_id.high in omega arith) above (lists_below d lists s owned above) in
    let w = gives r t d lists s c id sound shape keeps room above q in
    let front' : List ℕ = (region_laid r t c id).front in
    let rows' : List PendingRow = t.rows ++ row_of t s c id ∷ [] in
    record {
      range = every-push (λ (e : PendingRow). IsId e.id) t.rows (row_of t s c id) ids.range is_id;
      differ = subst Differ (sym (map-append (λ (e : PendingRow). e.id) t.rows (row_of t s c id ∷ []))) (differ-push (map (λ (e : PendingRow). e.id) t.rows) id ids.differ unused);
      answered = λ i x k cl g h p. answered_case r.front front' t.rows rows' d s c id sound above ids w i x k cl h (laid_case d.ring (cmd_item d s c) i x g) p;
      own = λ i n k c' dp g. own_case r.front front' t.rows rows' d s c id sound above ids w i n k c' dp (laid_case d.ring (cmd_item d s c) i (record { len = n; laid = ring.Cmd k c' }) g);
    }
