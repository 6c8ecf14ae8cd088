-- The shape of the ring is kept when an item is laid.
use Rattle.std.proofs.Common.{◌≡◌, ℕ, ◌+◌, ◌-◌, ◌%◌, ◌≤◌, ◌<◌, ◌⊎◌, true, false, List, [], ◌∷◌, ◌++◌, length, take, drop, map, refl, sym, ap, ◌∙◌, arith, Option, Some, None, slice_get, length-append, subst, ⊎_elim, eqb}
use Rattle.std.proofs.lemmas.Bool.{cases_Bool}
use Rattle.std.proofs.lemmas.List.{drop-append-le, take_all, map-append}
use Rattle.tcmu_types.specs.Data.{CommandData, SettingsData}
use Rattle.tcmu_types.specs.Lists.{first_of}
use Rattle.tcmu_model.specs.RingState.{RingState, Item, Laid, lengths, head, used, free, need, pads, with_item, commands_in, is_command}
use Rattle.tcmu_model.specs.RingState as ring
use Rattle.tcmu_model.specs.Device.{Unfinished, DeviceState, has_serial}
use Rattle.tcmu_model.specs.BlockLists.{Taken, list_of}
use Rattle.region_model.specs.Layout.{ring_start, data_start, head_place, pad_bytes, mailbox_bytes, device_mailbox}
use Rattle.tcmu_types.specs.ByteFields.{le, put}
use Rattle.region_model.specs.Picture.{place_of, tail, item_bytes, entry_of, with_answer, request_of, ids_named}
use Rattle.region_model.specs.Sides.{Recorded}
use Rattle.region_model.specs.Represents.{RingStands, StandsAt, recorded, entry_at, id_in, ids_in}
use Rattle.region_model.specs.TargetSteps.{pads_of}
use Rattle.ring_laws.proofs.Bytes.{part}
use Rattle.ring_laws.proofs.Layouts.{mailbox_moved}
use Rattle.ring_laws.specs.Placed.{HoldsItems}
use Rattle.ring_laws.proofs.Places.{apart_in_ring, lengths_to_new, ends_within, used_is, lengths_more}
use Rattle.tcmu_model.proofs.LaidItems.{laid_with, LaidCase, laid_case, Old, Padding, New, take-laid}
use Rattle.ring_laws.proofs.laid.LaidEntry.{laid_in, entered, Room, has_room, entered_part, entered_new, entered_pad, length-entered, take-entered}
use Rattle.tcmu_model.proofs.Laying.{lengths-pads, lengths-append}

-- an entry has the same bytes where the answer that stands in it is the same
pub entry_same : (d e : DeviceState) (id : ℕ) (request : List ℕ) (o : Option ℕ) → e.settings ≡ d.settings → ((s : ℕ) → o ≡ Some s → first_of (has_serial s) e.unfinished ≡ first_of (has_serial s) d.unfinished)
    → entry_of e id request o ≡ entry_of d id request o
entry_same d e id request None h f = refl
entry_same d e id request (Some s) h f =
    ap (λ o. with_answer e.settings.flags.read_len id request o) (f s refl)
    ∙ ap (λ (z : SettingsData). with_answer z.flags.read_len id request (first_of (has_serial s) d.unfinished)) h

-- what is the same for the items that were there
pub record SameItems (d e : DeviceState) (lists lists' : List Taken) : Type 0 where
  pub settings : e.settings ≡ d.settings
  pub size : e.ring.size ≡ d.ring.size
  pub placed : e.placed ≡ d.placed
  pub found : (k s : ℕ) → slice_get d.placed k ≡ Some s → first_of (has_serial s) e.unfinished ≡ first_of (has_serial s) d.unfinished
  pub listed : (i n s : ℕ) (c : CommandData) → d.ring.cleared ≤ i → slice_get d.ring.laid i ≡ Some (record { len = n; laid = ring.Cmd s c }) → list_of lists' s ≡ list_of lists s

pub item_same : (d e : DeviceState) (lists lists' : List Taken) (i n : ℕ) (l : Laid) (id : ℕ) (ids : List ℕ) → SameItems d e lists lists' → take i e.ring.laid ≡ take i d.ring.laid → d.ring.cleared ≤ i → slice_get d.ring.laid i ≡ Some (record { len = n; laid = l }) →
    item_bytes e lists' i id ids (record { len = n; laid = l }) ≡ item_bytes d lists i id ids (record { len = n; laid = l })
item_same d e lists lists' i n ring.Pad id ids h t cl g = refl
item_same d e lists lists' i n (ring.Tmr k ss) id ids h t cl g = refl
item_same d e lists lists' i n (ring.Cmd s c) id ids h t cl g =
    let at : place_of e.ring i ≡ place_of d.ring i = ap (λ xs. lengths xs % e.ring.size) t ∙ ap (λ z. lengths (take i d.ring.laid) % z) h.size in
    let o : slice_get e.placed (commands_in (take i e.ring.laid)) ≡ slice_get d.placed (commands_in (take i d.ring.laid)) = ap (λ xs. slice_get e.placed (commands_in xs)) t ∙ ap (λ ps. slice_get ps (commands_in (take i d.ring.laid))) h.placed in
    let q : request_of e.settings (list_of lists' s) (place_of e.ring i) id c ≡ request_of d.settings (list_of lists s) (place_of d.ring i) id c =
    ap (λ z. request_of z (list_of lists' s) (place_of e.ring i) id c) h.settings ∙ ap (λ z. request_of d.settings z (place_of e.ring i) id c) (h.listed i n s c cl g)
    ∙ ap (λ z. request_of d.settings (list_of lists s) z id c) at in
    ap (λ z. entry_of e id z (slice_get e.placed (commands_in (take i e.ring.laid)))) q
    ∙ ap (λ z. entry_of e id (request_of d.settings (list_of lists s) (place_of d.ring i) id c) z) o
    ∙ entry_same d e id (request_of d.settings (list_of lists s) (place_of d.ring i) id c) (slice_get d.placed (commands_in (take i d.ring.laid))) h.settings (λ p q. h.found (commands_in (take i d.ring.laid)) p q)

pub stands-by : (front front' : List ℕ) (d e : DeviceState) (lists lists' : List Taken) (i : ℕ) (x : Item) → SameItems d e lists lists' → take i e.ring.laid ≡ take i d.ring.laid → d.ring.cleared ≤ i → slice_get d.ring.laid i ≡ Some x →
    entry_at front' (place_of d.ring i) x.len ≡ entry_at front (place_of d.ring i) x.len → StandsAt front d lists i x → StandsAt front' e lists' i x
stands-by front front' d e lists lists' i x h t cl g same st =
    let at : place_of e.ring i ≡ place_of d.ring i = ap (λ xs. lengths xs % e.ring.size) t ∙ ap (λ z. lengths (take i d.ring.laid) % z) h.size in
    let b : entry_at front' (place_of e.ring i) x.len ≡ entry_at front (place_of d.ring i) x.len = ap (λ z. entry_at front' z x.len) at ∙ same in
    let P : List ℕ → Type 0 = λ entry. entry ≡ item_bytes e lists' i (id_in entry) (ids_in (ids_named x) 32 entry) x in
    let old = entry_at front (place_of d.ring i) x.len in
    subst P (sym b) (st ∙ sym (item_same d e lists lists' i x.len x.laid (id_in old) (ids_in (ids_named x) 32 old) h t cl g))

records-pads : (n : ℕ) → map recorded (pads n) ≡ pads_of n
records-pads n =
    ⊎_elim
    (λ (z : eqb n 0 ≡ true). rw z refl)
    (λ (z : eqb n 0 ≡ false). rw z refl)
    (cases_Bool (eqb n 0))

-- what the writes of a laying leave and give
pub old-entry : (front : List ℕ) (d : DeviceState) (it : Item) (bytes : List ℕ) (i : ℕ) (x : Item) → length front ≡ data_start d.ring.size → HoldsItems d.ring →
    need d.ring it.len ≤ free d.ring → it.len ≤ d.ring.size → length bytes ≡ it.len → d.ring.cleared ≤ i → slice_get d.ring.laid i ≡ Some x →
    entry_at (entered front (head d.ring) (ring.pad d.ring it.len) ((lengths d.ring.laid + ring.pad d.ring it.len) % d.ring.size) ((lengths d.ring.laid + ring.pad d.ring it.len + it.len) % d.ring.size) bytes) (place_of d.ring i) x.len
    ≡ entry_at front (place_of d.ring i) x.len
old-entry front d it bytes i x long holds fit small lb c g =
    let r = d.ring in
    let p : ℕ = lengths (take i r.laid) in
    let pad : ℕ = ring.pad r it.len in
    let room : Room r it.len = has_room r it.len holds small in
    let rp : head r + pad ≤ r.size = room.pad in
    let rw0 : (lengths r.laid + pad) % r.size + it.len ≤ r.size = room.whole in
    let big : 4096 ≤ r.size = holds.size in
    let us0 : used r < r.size = holds.room in
    let ui : lengths (take r.cleared r.laid) + used r ≡ lengths r.laid = used_is r in
    let more : lengths (take r.cleared r.laid) ≤ p = lengths_more r.laid r.cleared i c in
    let ends : p + x.len ≤ lengths r.laid = ends_within r.laid i x g in
    let fit0 : pad + it.len ≤ r.size - used r - 1 = fit in
    let wh : p % r.size + x.len ≤ r.size = holds.whole i x g in
    let fits : (lengths r.laid + pad) % r.size + length bytes ≤ r.size = omega (arith, lb, rw0) in
    let apart_pad : (p % r.size + x.len ≤ head r) ⊎ (head r + pad ≤ p % r.size) =
    apart_in_ring r.size p x.len (lengths r.laid) pad (omega arith) (omega arith) (omega (arith, ui, more, fit0, us0)) wh rp in
    let apart : (p % r.size + x.len ≤ (lengths r.laid + pad) % r.size) ⊎ ((lengths r.laid + pad) % r.size + length bytes ≤ p % r.size) =
    apart_in_ring r.size p x.len (lengths r.laid + pad) (length bytes) (omega arith) (omega arith) (omega (arith, ui, more, fit0, us0, lb)) wh fits in
    entered_part front r.size (head r) pad ((lengths r.laid + pad) % r.size) ((lengths r.laid + pad + it.len) % r.size) bytes (p % r.size) x.len long room.least rp fits (λ q. apart_pad) apart

pub new-entry : (front : List ℕ) (d : DeviceState) (it : Item) (bytes : List ℕ) → length front ≡ data_start d.ring.size → HoldsItems d.ring → it.len ≤ d.ring.size → length bytes ≡ it.len →
    entry_at (entered front (head d.ring) (ring.pad d.ring it.len) ((lengths d.ring.laid + ring.pad d.ring it.len) % d.ring.size) ((lengths d.ring.laid + ring.pad d.ring it.len + it.len) % d.ring.size) bytes)
    (place_of (with_item d.ring it) (length (d.ring.laid ++ pads (ring.pad d.ring it.len)))) it.len ≡ bytes
new-entry front d it bytes long holds small lb =
    let r = d.ring in
    let pad : ℕ = ring.pad r it.len in
    let at : ℕ = (lengths r.laid + pad) % r.size in
    let front' = entered front (head r) pad at ((lengths r.laid + pad + it.len) % r.size) bytes in
    let room : Room r it.len = has_room r it.len holds small in
    let rp : head r + pad ≤ r.size = room.pad in
    let rw0 : at + it.len ≤ r.size = room.whole in
    let fits : at + length bytes ≤ r.size = omega (arith, lb, rw0) in
    let j : ℕ = length (r.laid ++ pads pad) in
    let pl0 : place_of (with_item r it) j ≡ at = ap (λ n. n % r.size) (lengths_to_new r it) in
    let w : part front' (ring_start + at) (length bytes) ≡ bytes = entered_new front r.size (head r) pad at ((lengths r.laid + pad + it.len) % r.size) bytes long room.least rp fits in
    ap (λ z. part front' (ring_start + z) it.len) pl0 ∙ ap (part front' (ring_start + at)) (sym lb) ∙ w

pub ring-laid : (front : List ℕ) (items : List Recorded) (d : DeviceState) (lists lists' : List Taken) (it : Item) (us : List Unfinished) (bytes : List ℕ) →
    RingStands front items d lists → HoldsItems d.ring → d.ring.cleared ≤ length d.ring.laid → d.ring.published ≤ length d.ring.laid →
    need d.ring it.len ≤ free d.ring → it.len ≤ d.ring.size → 8 ≤ it.len →
    SameItems d (laid_in d it us) lists lists' → length bytes ≡ it.len →
    bytes ≡ item_bytes (laid_in d it us) lists' (length (d.ring.laid ++ pads (ring.pad d.ring it.len))) (id_in bytes) (ids_in (ids_named it) 32 bytes) it →
    RingStands (entered front (head d.ring) (ring.pad d.ring it.len) ((lengths d.ring.laid + ring.pad d.ring it.len) % d.ring.size) ((lengths d.ring.laid + ring.pad d.ring it.len + it.len) % d.ring.size) bytes)
    (items ++ pads_of (ring.pad d.ring it.len) ++ recorded it ∷ []) (laid_in d it us) lists'
ring-laid front items d lists lists' it us bytes shape holds cl pl fit small least same lb new =
    let r = d.ring in
    let e = laid_in d it us in
    let size : ℕ = r.size in
    let pad : ℕ = ring.pad r it.len in
    let hd : ℕ = head r in
    let at : ℕ = (lengths r.laid + pad) % size in
    let head' : ℕ = (lengths r.laid + pad + it.len) % size in
    let front' = entered front hd pad at head' bytes in
    let room : Room r it.len = has_room r it.len holds small in
    let rp : hd + pad ≤ size = room.pad in
    let rw0 : at + it.len ≤ size = room.whole in
    let fits : at + length bytes ≤ size = omega (arith, lb, rw0) in
    let big : 4096 ≤ size = holds.size in
    let us0 : used r < size = holds.room in
    let ui : lengths (take r.cleared r.laid) + used r ≡ lengths r.laid = used_is r in
    let sum_all : lengths (laid_with r it) ≡ lengths r.laid + pad + it.len = sum_laid in
    record {
      long = length-entered front size hd pad at head' bytes shape.long room.least rp fits ∙ shape.long;
      mailbox =
          let m : put (take ring_start front) head_place (le 4 head') ≡ mailbox_bytes (device_mailbox d.settings.flags size head' (tail r)) =
          ap (λ xs. put xs head_place (le 4 head')) shape.mailbox ∙ mailbox_moved d.settings.flags size hd (tail r) head' in
          let h' : head' ≡ head e.ring = ap (λ t. t % size) (sym sum_all) in
          let t' : tail r ≡ tail e.ring = ap (λ xs. lengths xs % size) (sym (take-laid r it r.published pl)) in
          take-entered front size hd pad at head' bytes shape.long room.least rp fits ∙ m ∙ ap (λ z. mailbox_bytes (device_mailbox d.settings.flags size z (tail r))) h' ∙ ap (λ z. mailbox_bytes (device_mailbox d.settings.flags size (head e.ring) z)) t';
      stands = λ i x c g. by_case i x c (laid_case r it i x g);
      recorded =
          let dr : drop r.cleared (laid_with r it) ≡ drop r.cleared r.laid ++ pads pad ++ it ∷ [] =
          drop-append-le r.cleared (r.laid ++ pads pad) (it ∷ []) (let q : length (r.laid ++ pads pad) ≡ length r.laid + length (pads pad) = length-append r.laid (pads pad) in omega arith)
          ∙ ap (λ xs. xs ++ it ∷ []) (drop-append-le r.cleared r.laid (pads pad) cl) in
          ap (λ xs. xs ++ pads_of pad ++ recorded it ∷ []) shape.recorded
          ∙ ap (λ xs. map recorded (drop r.cleared r.laid) ++ xs ++ recorded it ∷ []) (sym (records-pads pad))
          ∙ ap (λ xs. xs ++ recorded it ∷ []) (sym (map-append recorded (drop r.cleared r.laid) (pads pad)))
          ∙ sym (map-append recorded (drop r.cleared r.laid ++ pads pad) (it ∷ [])) ∙ ap (map recorded) (sym dr);
    }
  where
    sum_laid : lengths (laid_with d.ring it) ≡ lengths d.ring.laid + ring.pad d.ring it.len + it.len
    sum_laid =
        let r = d.ring in
        let n : ℕ = ring.pad r it.len in
        let a : lengths (r.laid ++ pads n ++ it ∷ []) ≡ lengths (r.laid ++ pads n) + lengths (it ∷ []) = lengths-append (r.laid ++ pads n) (it ∷ []) in
        let b : lengths (r.laid ++ pads n) ≡ lengths r.laid + lengths (pads n) = lengths-append r.laid (pads n) in
        let c : lengths (pads n) ≡ n = lengths-pads n in
        let z : lengths (it ∷ []) ≡ 0 + it.len = refl in
        omega arith

    by_case : (i : ℕ) (x : Item) → d.ring.cleared ≤ i → LaidCase d.ring it i x → StandsAt (entered front (head d.ring) (ring.pad d.ring it.len) ((lengths d.ring.laid + ring.pad d.ring it.len) % d.ring.size) ((lengths d.ring.laid + ring.pad d.ring it.len + it.len) % d.ring.size) bytes) (laid_in d it us) lists' i x
    by_case i x c (Old l g) =
        stands-by front (entered front (head d.ring) (ring.pad d.ring it.len) ((lengths d.ring.laid + ring.pad d.ring it.len) % d.ring.size) ((lengths d.ring.laid + ring.pad d.ring it.len + it.len) % d.ring.size) bytes) d (laid_in d it us) lists lists' i x same
        (take-laid d.ring it i (omega arith)) c g (old-entry front d it bytes i x shape.long holds fit small lb c g) (shape.stands i x c g)
    by_case i x c (Padding a b e) =
        let r = d.ring in
        let pad : ℕ = ring.pad r it.len in
        let front' = entered front (head r) pad ((lengths r.laid + pad) % r.size) ((lengths r.laid + pad + it.len) % r.size) bytes in
        let room : Room r it.len = has_room r it.len holds small in
        let rp : head r + pad ≤ r.size = room.pad in
        let rw0 : (lengths r.laid + pad) % r.size + it.len ≤ r.size = room.whole in
        let big : 4096 ≤ r.size = holds.size in
        let us0 : used r < r.size = holds.room in
        let ui : lengths (take r.cleared r.laid) + used r ≡ lengths r.laid = used_is r in
        let fit0 : pad + it.len ≤ r.size - used r - 1 = fit in
        let fits : (lengths r.laid + pad) % r.size + length bytes ≤ r.size = omega (arith, lb, rw0) in
        let apart : (head r + pad ≤ (lengths r.laid + pad) % r.size) ⊎ ((lengths r.laid + pad) % r.size + length bytes ≤ head r) =
        apart_in_ring r.size (lengths r.laid) pad (lengths r.laid + pad) (length bytes) (omega arith) (omega arith) (omega (arith, fit0, us0, lb)) rp fits in
        let at : place_of (with_item r it) i ≡ head r = ap (λ j. lengths (take j (laid_with r it)) % r.size) a ∙ ap (λ xs. lengths xs % r.size) (take-laid r it (length r.laid) (omega arith)) ∙ ap (λ xs. lengths xs % r.size) (take_all (length r.laid) r.laid (omega arith)) in
        let w : part front' (ring_start + head r) pad ≡ pad_bytes pad = entered_pad front r.size (head r) pad ((lengths r.laid + pad) % r.size) ((lengths r.laid + pad + it.len) % r.size) bytes shape.long b (room.least b) rp fits apart in
        subst (λ (y : Item). StandsAt front' (laid_in d it us) lists' i y) (sym e) (ap (λ z. part front' (ring_start + z) pad) at ∙ w)
    by_case i x c (New a e) =
        let r = d.ring in
        let front' = entered front (head r) (ring.pad r it.len) ((lengths r.laid + ring.pad r it.len) % r.size) ((lengths r.laid + ring.pad r it.len + it.len) % r.size) bytes in
        let j : ℕ = length (r.laid ++ pads (ring.pad r it.len)) in
        let P : List ℕ → Type 0 = λ entry. entry ≡ item_bytes (laid_in d it us) lists' j (id_in entry) (ids_in (ids_named it) 32 entry) it in
        let s : StandsAt front' (laid_in d it us) lists' j it = subst P (sym (new-entry front d it bytes shape.long holds small lb)) new in
        subst (λ (y : Item). StandsAt front' (laid_in d it us) lists' i y) (sym e) (subst (λ (k : ℕ). StandsAt front' (laid_in d it us) lists' k it) (sym a) s)
