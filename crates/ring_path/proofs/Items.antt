-- The items of a ring are read one after the other along the target's record.
use Rattle.std.proofs.Common.{◌≡◌, ℕ, suc, ◌+◌, ◌-◌, ◌%◌, ◌≤◌, List, [], ◌∷◌, ◌++◌, length, take, drop, map, replicate, Option, None, Some, option_map, slice_get, refl, sym, ap, ◌∙◌, subst, arith}
use Rattle.std.proofs.lemmas.List.{append-nil, append_assoc, drop-drop, drop_all, length-drop, length-replicate, length-take-le}
use Rattle.std.proofs.lemmas.List.Sums.{sum_by_push, sum_by-cons}
use Rattle.std.specs.List.{sum_by}
use Rattle.tcmu_types.specs.Data.{SettingsData}
use Rattle.tcmu_types.specs.ByteFields.{le, put}
use Rattle.tcmu_types.specs.Dumps.{ItemData}
use Rattle.tcmu_types.specs.Overwriting.{zeros}
use Rattle.tcmu_types.specs.declared.dump.ItemKind.{ItemKind}
use Rattle.tcmu_types.proofs.Places.{drop_from, get_none}
use Rattle.tcmu_model.specs.BlockLists.{Taken}
use Rattle.tcmu_model.specs.Device.{DeviceState}
use Rattle.tcmu_model.specs.Lengths.{tmr_length}
use Rattle.tcmu_model.specs.RingState.{Item, Laid}
use Rattle.tcmu_model.specs.RingState as ring
use Rattle.tcmu_model.specs.Sound.{IsSound}
use Rattle.tcmu_model.proofs.Indexed.{item_at}
use Rattle.region_model.specs.Layout.{data_start, ring_start}
use Rattle.region_model.specs.Picture.{kind_of, place_of}
use Rattle.region_model.specs.Represents.{RingStands, TargetKeeps, entry_at, recorded}
use Rattle.region_model.specs.Sides.{Recorded, TargetState}
use Rattle.ring_laws.specs.PictureRead.{items_read, without_ids}
use Rattle.ring_laws.proofs.Layouts.{add-mod}
use Rattle.ring_laws.proofs.PassedItems.{Within, item_within}
use Rattle.ring_laws.proofs.Places.{get-dropped}
use Rattle.ring_laws.proofs.cleaned.CleanedOne.{next-place, take-next}
use Rattle.target_side.specs.RingRecord.{item_at as item_in}
use Rattle.target_side.specs.Showing.{ring_of}
use Rattle.target_side.specs.declared.item.RingItem.{RingItem}
use Rattle.ring_path.specs.Dumped.{HasCount, HaveCounts}

-- an entry that lies in the front has its item's length
length-entry : (front : List ℕ) (size at n : ℕ) → length front ≡ data_start size → at + n ≤ size → length (entry_at front at n) ≡ n
length-entry front size at n e h =
    let rest : List ℕ = drop (ring_start + at) front in
    let long : length rest ≡ length front - (ring_start + at) = length-drop (ring_start + at) front in
    length-take-le n rest (omega (arith, long, e, h))

has_count : (front : List ℕ) (items : List Recorded) (d : DeviceState) (lists : List Taken) (i n : ℕ) (l : Laid) → IsSound d → RingStands front items d lists → d.ring.cleared ≤ i → slice_get d.ring.laid i ≡ Some (record { len = n; laid = l }) →
    HasCount (kind_of l) (entry_at front (place_of d.ring i) n)
has_count front items d lists i n ring.Pad sound h c g = tt
has_count front items d lists i n (ring.Cmd s x) sound h c g = tt
has_count front items d lists i n (ring.Tmr kind ss) sound h c g =
    let w : Within d i (record { len = n; laid = ring.Tmr kind ss }) = item_within d i (record { len = n; laid = ring.Tmr kind ss }) sound c g in
    let size : n ≡ tmr_length (length ss) = (item_at d i (record { len = n; laid = ring.Tmr kind ss }) sound g).kind in
    let long : length (entry_at front (place_of d.ring i) n) ≡ n = length-entry front d.ring.size (place_of d.ring i) n h.long w.whole in
    omega (arith, size, long)

counts_from : (front : List ℕ) (items : List Recorded) (d : DeviceState) (lists : List Taken) (i : ℕ) (xs : List Item) → IsSound d → RingStands front items d lists → d.ring.cleared ≤ i → drop i d.ring.laid ≡ xs →
    HaveCounts front d.ring.size (place_of d.ring i) (map recorded xs)
counts_from front items d lists i [] sound h c e = tt
counts_from front items d lists i (x ∷ xs) sound h c e =
    let start : i + 0 ≡ i = omega arith in
    let g : slice_get d.ring.laid i ≡ Some x = ap (slice_get d.ring.laid) (sym start) ∙ get-dropped d.ring.laid i 0 ∙ ap (λ ys. slice_get ys 0) e in
    let next : suc i ≡ i + 1 = omega arith in
    let at : (place_of d.ring i + x.len) % d.ring.size ≡ place_of d.ring (i + 1) = next-place d.ring i x g ∙ ap (place_of d.ring) next in
    let rest : drop (i + 1) d.ring.laid ≡ xs = sym (drop-drop 1 i d.ring.laid) ∙ ap (drop 1) e in
    let w : Within d i x = item_within d i x sound c g in
    let some : 1 ≤ x.len = omega (arith, w.least) in
    (some, has_count front items d lists i x.len x.laid sound h c g, subst (λ (k : ℕ). HaveCounts front d.ring.size k (map recorded xs)) (sym at) (counts_from front items d lists (i + 1) xs sound h (omega arith) rest))

-- each note of the ring has its count
pub counts_shown : (front : List ℕ) (t : TargetState) (d : DeviceState) (lists : List Taken) → IsSound d → RingStands front t.items d lists → TargetKeeps t d lists → HaveCounts front t.settings.ring t.cleaned t.items
counts_shown front t d lists sound h keeps =
    let size : d.ring.size ≡ t.settings.ring = sound.ring.size ∙ sym (ap (λ (s : SettingsData). s.ring) keeps.settings) in
    subst (λ (n : ℕ). HaveCounts front n t.cleaned t.items) size
    (subst (λ (k : ℕ). HaveCounts front d.ring.size k t.items) (sym keeps.cleaned)
    (subst (λ (xs : List Recorded). HaveCounts front d.ring.size (place_of d.ring d.ring.cleared) xs) (sym h.recorded)
    (counts_from front t.items d lists d.ring.cleared (drop d.ring.cleared d.ring.laid) sound h (omega arith) refl)))

-- ==== one after the other

-- where the item at an index begins
abbrev pub offset : TargetState → ℕ → ℕ
offset t i = (t.cleaned + sum_by (λ (y : Recorded). y.len) (take i t.items)) % t.settings.ring

abbrev pub ring_item : TargetState → ℕ → Recorded → RingItem
ring_item t i x = record { at = offset t i; kind = x.kind; len = x.len }

record Found (t : TargetState) (i : ℕ) (item : RingItem) : Type 0 where
  it : Recorded
  there : slice_get t.items i ≡ Some it
  same : item ≡ ring_item t i it

found : (t : TargetState) (i : ℕ) (item : RingItem) → Some item ≡ item_in (ring_of t) i → Found t i item
found t i item e = go (slice_get t.items i) refl
  where
    go : (o : Option Recorded) → slice_get t.items i ≡ o → Found t i item
    go None g = let z : Some item ≡ None = e ∙ ap (option_map (ring_item t i)) g in absurd (cc)
    go (Some x) g = let z : Some item ≡ Some (ring_item t i x) = e ∙ ap (option_map (ring_item t i)) g in record { it = x; there = g; same = cc }

next-offset : (t : TargetState) (i : ℕ) (x : Recorded) → slice_get t.items i ≡ Some x → (offset t i + x.len) % t.settings.ring ≡ offset t (i + 1)
next-offset t i x g =
    let next : suc i ≡ i + 1 = omega arith in
    let more : sum_by (λ (y : Recorded). y.len) (take (suc i) t.items) ≡ sum_by (λ (y : Recorded). y.len) (take i t.items) + x.len =
    ap (sum_by (λ (y : Recorded). y.len)) (take-next t.items i x g) ∙ sum_by_push (λ (y : Recorded). y.len) (take i t.items) x in
    let all : t.cleaned + sum_by (λ (y : Recorded). y.len) (take i t.items) + x.len ≡ t.cleaned + sum_by (λ (y : Recorded). y.len) (take (suc i) t.items) = omega (arith, more) in
    add-mod (t.cleaned + sum_by (λ (y : Recorded). y.len) (take i t.items)) x.len t.settings.ring ∙ ap (λ (n : ℕ). n % t.settings.ring) all ∙ ap (offset t) next

behind : (t : TargetState) (i : ℕ) (x : Recorded) → slice_get t.items i ≡ Some x → drop i t.items ≡ x ∷ drop (i + 1) t.items
behind t i x g = let next : suc i ≡ i + 1 = omega arith in drop_from t.items i x g ∙ ap (λ (n : ℕ). x ∷ drop n t.items) next

here : (front : List ℕ) (t : TargetState) (i : ℕ) (x : Recorded) → slice_get t.items i ≡ Some x → HaveCounts front t.settings.ring (offset t i) (drop i t.items) →
    HaveCounts front t.settings.ring (offset t i) (x ∷ drop (i + 1) t.items)
here front t i x g h = subst (λ (xs : List Recorded). HaveCounts front t.settings.ring (offset t i) xs) (behind t i x g) h

pub count_next : (front : List ℕ) (t : TargetState) (i : ℕ) (item : RingItem) → Some item ≡ item_in (ring_of t) i → HaveCounts front t.settings.ring (offset t i) (drop i t.items) → HasCount item.kind (entry_at front item.at item.len)
count_next front t i item e h =
    let f = found t i item e in
    subst (λ (y : RingItem). HasCount y.kind (entry_at front y.at y.len)) (sym f.same) (here front t i f.it f.there h).1

pub counts_next : (front : List ℕ) (t : TargetState) (i : ℕ) (item : RingItem) → Some item ≡ item_in (ring_of t) i → HaveCounts front t.settings.ring (offset t i) (drop i t.items) →
    HaveCounts front t.settings.ring (offset t (i + 1)) (drop (i + 1) t.items)
counts_next front t i item e h =
    let f = found t i item e in
    subst (λ (k : ℕ). HaveCounts front t.settings.ring k (drop (i + 1) t.items)) (next-offset t i f.it f.there) (here front t i f.it f.there h).2

abbrev pub item_read : List ℕ → RingItem → ItemData
item_read front item = record { at = item.at; kind = item.kind; bytes = without_ids item.kind (entry_at front item.at item.len) }

pub told_next : (front : List ℕ) (t : TargetState) (i : ℕ) (item : RingItem) (items new : List ItemData) (y : ItemData) → Some item ≡ item_in (ring_of t) i →
    items ++ items_read front t.settings.ring (offset t i) (drop i t.items) ≡ items_read front t.settings.ring t.cleaned t.items →
    new ≡ items ++ y ∷ [] → y ≡ item_read front item →
    new ++ items_read front t.settings.ring (offset t (i + 1)) (drop (i + 1) t.items) ≡ items_read front t.settings.ring t.cleaned t.items
told_next front t i item items new y e h n q =
    let f = found t i item e in
    let rest : List ItemData = items_read front t.settings.ring (offset t (i + 1)) (drop (i + 1) t.items) in
    let step : items_read front t.settings.ring (offset t i) (drop i t.items) ≡ y ∷ rest =
    ap (items_read front t.settings.ring (offset t i)) (behind t i f.it f.there)
    ∙ ap (λ (k : ℕ). item_read front (ring_item t i f.it) ∷ items_read front t.settings.ring k (drop (i + 1) t.items)) (next-offset t i f.it f.there)
    ∙ ap (λ (z : RingItem). item_read front z ∷ rest) (sym f.same) ∙ ap (λ (z : ItemData). z ∷ rest) (sym q) in
    ap (λ (xs : List ItemData). xs ++ rest) n ∙ append_assoc items (y ∷ []) rest ∙ ap (λ (xs : List ItemData). items ++ xs) (sym step) ∙ h

pub same_item : {at at' : ℕ} {k k' : ItemKind} {bs bs' : List ℕ} → at ≡ at' → k ≡ k' → bs ≡ bs' → ◌≡◌ {A = ItemData} (record { at = at; kind = k; bytes = bs }) (record { at = at'; kind = k'; bytes = bs' })
same_item p q r = cc

-- ==== the end

ended : (front : List ℕ) (ring at : ℕ) (items all : List ItemData) (xs : List Recorded) → xs ≡ [] → items ++ items_read front ring at xs ≡ all → items ≡ all
ended front ring at items all xs e h = sym (append-nil items) ∙ ap (λ (ys : List Recorded). items ++ items_read front ring at ys) (sym e) ∙ h

none_there : (t : TargetState) (i : ℕ) → None ≡ item_in (ring_of t) i → length t.items ≤ i
none_there t i e = get_none t.items i (go (slice_get t.items i) refl)
  where
    go : (o : Option Recorded) → slice_get t.items i ≡ o → slice_get t.items i ≡ None
    go None g = g
    go (Some x) g = let z : None ≡ Some (ring_item t i x) = e ∙ ap (option_map (ring_item t i)) g in absurd (cc)

pub told_all : (front : List ℕ) (t : TargetState) (i : ℕ) (items : List ItemData) → None ≡ item_in (ring_of t) i →
    items ++ items_read front t.settings.ring (offset t i) (drop i t.items) ≡ items_read front t.settings.ring t.cleaned t.items → items ≡ items_read front t.settings.ring t.cleaned t.items
told_all front t i items e h = ended front t.settings.ring (offset t i) items (items_read front t.settings.ring t.cleaned t.items) (drop i t.items) (drop_all i t.items (none_there t i e)) h

few_items : (front : List ℕ) (ring at : ℕ) (xs : List Recorded) → HaveCounts front ring at xs → length xs ≤ sum_by (λ (y : Recorded). y.len) xs
few_items front ring at [] h = omega arith
few_items front ring at (x ∷ xs) h = omega (arith, h.0, few_items front ring ((at + x.len) % ring) xs h.2, sum_by-cons (λ (y : Recorded). y.len) x xs)

-- behind as many items as bytes in use there is none
pub told_whole : (front : List ℕ) (t : TargetState) (i : ℕ) (items : List ItemData) → HaveCounts front t.settings.ring t.cleaned t.items → sum_by (λ (y : Recorded). y.len) t.items ≤ i →
    items ++ items_read front t.settings.ring (offset t i) (drop i t.items) ≡ items_read front t.settings.ring t.cleaned t.items → items ≡ items_read front t.settings.ring t.cleaned t.items
told_whole front t i items c k h =
    let few : length t.items ≤ i = omega (arith, few_items front t.settings.ring t.cleaned t.items c, k) in
    ended front t.settings.ring (offset t i) items (items_read front t.settings.ring t.cleaned t.items) (drop i t.items) (drop_all i t.items few) h

-- ==== bytes over others

pub zero_word : le 2 0 ≡ zeros 2
unfolding le zeros
zero_word = refl

put_parts : (xs : List ℕ) (at count : ℕ) → take at xs ++ replicate count 0 ++ drop (at + count) xs ≡ put xs at (zeros count)
unfolding put zeros
put_parts xs at count = ap (λ (n : ℕ). take at xs ++ replicate count 0 ++ drop (at + n) xs) (sym (length-replicate count 0))

pub put_told : (xs none one two three front rest : List ℕ) (at count : ℕ) → none ≡ [] → one ≡ none ++ front → two ≡ one ++ replicate count 0 → three ≡ two ++ rest → front ≡ take at xs → rest ≡ drop (at + count) xs → three ≡ put xs at (zeros count)
put_told xs none one two three front rest at count e f g h p q =
    let first : one ≡ take at xs = f ∙ ap (λ (ys : List ℕ). ys ++ front) e ∙ p in
    let second : two ≡ take at xs ++ replicate count 0 = g ∙ ap (λ (ys : List ℕ). ys ++ replicate count 0) first in
    h ∙ ap (λ (ys : List ℕ). ys ++ rest) second ∙ ap (λ (ys : List ℕ). take at xs ++ replicate count 0 ++ ys) q ∙ put_parts xs at count
