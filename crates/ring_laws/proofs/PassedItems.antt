-- The user side goes from its place over the items that are not dispatched: padding is passed, up to an item or to the head.
use Rattle.std.proofs.Common.{◌≡◌, ◌≢◌, ℕ, ◌+◌, ◌-◌, ◌*◌, ◌/◌, ◌%◌, ◌^◌, ◌≤◌, ◌<◌, true, false, List, [], ◌∷◌, ◌++◌, length, take, drop, map, refl, sym, ap, ◌∙◌, arith, suc, zero, Some, None, Ok, slice_get, subst, ⊎_elim, eqb, nat_lt}
use Rattle.std.specs.List.{prefix_len}
use Rattle.std.proofs.Math.Nat.{mul-le-mul_left}
use Rattle.std.proofs.lemmas.Bool.{cases_Bool, cases_lt, ne_eqb, eq-eqb, ltb-true, false≢true}
use Rattle.std.proofs.lemmas.List.{take-append-drop, drop-append-le, map-append, length-take-le, take_all, length-drop}
use Rattle.std.proofs.lemmas.List.Sums.{sum_by-cons}
use Rattle.tcmu_types.specs.Data.{SettingsData}
use Rattle.tcmu_types.specs.declared.dump.ItemKind.TheVariants as kind
use Rattle.region_model.specs.declared.entry.EntryRef.TheVariants as entry
use Rattle.tcmu_model.specs.RingState.{RingState, Item, Laid, lengths, head, used, is_pad, next_place}
use Rattle.tcmu_model.specs.RingState as ring
use Rattle.tcmu_model.specs.Device.{DeviceState}
use Rattle.tcmu_model.specs.Events.{next_item}
use Rattle.tcmu_model.specs.Sound.{Along, IsItem, IsSound}
use Rattle.tcmu_types.specs.Lists.{Every}
use Rattle.tcmu_model.specs.BlockLists.{Taken}
use Rattle.region_model.specs.Layout.{ring_start, data_start, pad_bytes}
use Rattle.region_model.specs.EntryReading.{limit_of, entry_read}
use Rattle.region_model.specs.Picture.{place_of, kind_of}
use Rattle.region_model.specs.Regions.{RegionState, size_of}
use Rattle.region_model.specs.Sides.{Recorded, UserState}
use Rattle.region_model.specs.Represents.{RingStands, UserKeeps, entry_at, recorded}
use Rattle.region_model.specs.UserNext.{Nothing, next_within, next_of, nexted, with_passed}
use Rattle.tcmu_types.proofs.Everies.{every-drop}
use Rattle.tcmu_model.proofs.Indexed.{item_at}
use Rattle.tcmu_model.proofs.Places.{next_within as next_inside}
use Rattle.tcmu_types.proofs.Places.{within, get_none}
use Rattle.ring_laws.specs.Placed.{HoldsItems}
use Rattle.ring_laws.proofs.cleaned.CleanedOne.{take-next, next-place}
use Rattle.ring_laws.proofs.SoundRing.{holds}
use Rattle.ring_laws.proofs.attached.MailboxThere.{mailbox_of, device_mailbox_there}
use Rattle.ring_laws.proofs.Places.{ends_within, used_is, lengths_more, get-dropped}
use Rattle.region_model.proofs.EntriesThere.{IsThere, pad_there}
use Rattle.tcmu_model.proofs.Laying.{lengths-append}

-- ==== how far an item may reach

-- a stretch that ends no further than one ring ahead, before the head
ahead : (n p a l : ℕ) → 0 < n → p + a ≤ l → l < p + n → p % n < l % n → p % n + a ≤ l % n
ahead n p a l z h k v =
    ⊎_elim
    (λ (m : p / n < l / n). let t : n * (p / n + 1) ≤ n * (l / n) = mul-le-mul_left n (omega arith) in absurd (omega arith))
    (λ (m : l / n ≤ p / n). let t : n * (l / n) ≤ n * (p / n) = mul-le-mul_left n m in omega arith)
    (cases_lt (p / n) (l / n))

pub apart_from_head : (n p a l : ℕ) → 0 < n → 0 < a → p + a ≤ l → l < p + n → p % n ≢ l % n
apart_from_head n p a l z s h k = λ v.
    ⊎_elim
    (λ (m : p / n < l / n). let t : n * (p / n + 1) ≤ n * (l / n) = mul-le-mul_left n (omega arith) in absurd (omega arith))
    (λ (m : l / n ≤ p / n). let t : n * (l / n) ≤ n * (p / n) = mul-le-mul_left n m in absurd (omega arith))
    (cases_lt (p / n) (l / n))

-- an item that is not cleared: it is not at the head, and reaches no further than the head or the ring's end
pub record Within (d : DeviceState) (i : ℕ) (x : Item) : Type 0 where
  pub away : place_of d.ring i ≢ head d.ring
  pub limit : x.len ≤ limit_of (mailbox_of d) (place_of d.ring i)
  pub small : ring_start + place_of d.ring i + x.len + 8 < 2 ^ 32
  pub least : 8 ≤ x.len
  pub even : x.len % 8 ≡ 0
  pub whole : place_of d.ring i + x.len ≤ d.ring.size

pub item_within : (d : DeviceState) (i : ℕ) (x : Item) → IsSound d → d.ring.cleared ≤ i → slice_get d.ring.laid i ≡ Some x → Within d i x
unfolding limit_of
item_within d i x sound c g =
    let r = d.ring in
    let hold : HoldsItems r = holds d sound in
    let p : ℕ = lengths (take i r.laid) in
    let l : ℕ = lengths r.laid in
    let big : 4096 ≤ r.size = hold.size in
    let us : used r < r.size = hold.room in
    let ui : lengths (take r.cleared r.laid) + used r ≡ l = used_is r in
    let more : lengths (take r.cleared r.laid) ≤ p = lengths_more r.laid r.cleared i c in
    let ends : p + x.len ≤ l = ends_within r.laid i x g in
    let low : 8 ≤ x.len = hold.some i x g in
    let wh : p % r.size + x.len ≤ r.size = hold.whole i x g in
    let size : r.size ≡ d.settings.ring = sound.ring.size in
    let high : d.settings.ring ≤ 4194304 = sound.settings.ring.most in
    record {
      away = apart_from_head r.size p x.len l (omega arith) (omega arith) ends (omega arith);
      limit =
          ⊎_elim
          (λ (e : nat_lt (p % r.size) (l % r.size) ≡ true).
          let t : p % r.size < l % r.size = ltb-true _ _ e in
          let k : p % r.size + x.len ≤ l % r.size = ahead r.size p x.len l (omega arith) ends (omega arith) t in
          rw e (omega arith))
          (λ (e : nat_lt (p % r.size) (l % r.size) ≡ false). rw e (omega arith))
          (cases_Bool (nat_lt (p % r.size) (l % r.size)));
      small = omega arith;
      least = low;
      even = (item_at d i x sound g).even;
      whole = wh;
    }

-- its bytes stand at its place
pub item_there : (front : List ℕ) (d : DeviceState) (i : ℕ) (x : Item) (text : List ℕ) → length front ≡ data_start d.ring.size → Within d i x → entry_at front (place_of d.ring i) x.len ≡ text →
    (length text ≡ x.len) × IsThere front (128 + place_of d.ring i) text
item_there front d i x text long w h =
    let b : ℕ = 128 + place_of d.ring i in
    let wh : place_of d.ring i + x.len ≤ d.ring.size = w.whole in
    let ld : length (drop b front) ≡ length front - b = length-drop b front in
    let lt : length (take x.len (drop b front)) ≡ x.len = length-take-le x.len (drop b front) (omega arith) in
    let len : length text ≡ x.len = sym (ap length h) ∙ lt in
    (len, ap (λ k. take k (drop b front)) len ∙ h)

-- ==== one item passed

-- the user side behind the items up to an index
abbrev pub passed_to : UserState → DeviceState → ℕ → UserState
passed_to user d i = record user { place = place_of d.ring i; items = map recorded (drop d.ring.published (take i d.ring.laid)) }

pub user_from : (user : UserState) (d : DeviceState) → d.attached ≡ true → UserKeeps user d → user ≡ passed_to user d d.ring.dispatched
user_from user d a h =
    ap (λ (k : ℕ). record user { place = k; items = user.items }) (h.place a) ∙ ap (λ (xs : List Recorded). record user { place = place_of d.ring d.ring.dispatched; items = xs }) (h.items a)

pub passed_one : (user : UserState) (d : DeviceState) (i : ℕ) (x : Item) → user.ring ≡ d.ring.size → d.ring.published ≤ i → slice_get d.ring.laid i ≡ Some x →
    with_passed (passed_to user d i) (kind_of x.laid) x.len ≡ passed_to user d (suc i)
passed_one user d i x size pub_ g =
    let r = d.ring in
    let inside : i < length r.laid = within r.laid i x g in
    let p : (place_of r i + x.len) % user.ring ≡ place_of r (suc i) = ap (λ n. (place_of r i + x.len) % n) size ∙ next-place r i x g in
    let lt : length (take i r.laid) ≡ i = length-take-le i r.laid (omega arith) in
    let t : drop r.published (take (suc i) r.laid) ≡ drop r.published (take i r.laid) ++ x ∷ [] =
    ap (drop r.published) (take-next r.laid i x g) ∙ drop-append-le r.published (take i r.laid) (x ∷ []) (omega arith) in
    let q : map recorded (drop r.published (take i r.laid)) ++ recorded x ∷ [] ≡ map recorded (drop r.published (take (suc i) r.laid)) =
    sym (map-append recorded (drop r.published (take i r.laid)) (x ∷ [])) ∙ ap (map recorded) (sym t) in
    ap (λ (k : ℕ). record user { place = k; items = map recorded (drop r.published (take i r.laid)) ++ recorded x ∷ [] }) p
    ∙ ap (λ (xs : List Recorded). record user { place = place_of r (suc i); items = xs }) q

-- ==== padding

-- what the steps over items rest on
pub record CanPass (r : RegionState) (items : List Recorded) (user : UserState) (d : DeviceState) (lists : List Taken) : Type 0 where
  pub sound : IsSound d
  pub attached : d.attached ≡ true
  pub ring : RingStands r.front items d lists
  pub side : UserKeeps user d

pub ring_is : (r : RegionState) (items : List Recorded) (user : UserState) (d : DeviceState) (lists : List Taken) → CanPass r items user d lists → user.ring ≡ d.ring.size
ring_is r items user d lists h = h.side.ring ∙ sym h.sound.ring.size

pad_passed : (r : RegionState) (items : List Recorded) (user : UserState) (d : DeviceState) (lists : List Taken) (before : UserState) (n i len : ℕ) → CanPass r items user d lists → d.ring.dispatched ≤ i →
    slice_get d.ring.laid i ≡ Some (record { len = len; laid = ring.Pad }) →
    next_within (suc n) (mailbox_of d) before r (passed_to user d i) ≡ next_within n (mailbox_of d) before r (passed_to user d (suc i))
pad_passed r items user d lists before n i len h l g =
    let c1 : d.ring.cleared ≤ d.ring.published = h.sound.ring.cleared in
    let c2 : d.ring.published ≤ d.ring.dispatched = h.sound.ring.published in
    let x : Item = record { len = len; laid = ring.Pad } in
    let w : Within d i x = item_within d i x h.sound (omega arith) g in
    let ne : eqb (place_of d.ring i) (head d.ring) ≡ false = ne_eqb (place_of d.ring i) (head d.ring) w.away in
    let th = item_there r.front d i x (pad_bytes len) h.ring.long w (h.ring.stands i x (omega arith) g) in
    let sm : ring_start + place_of d.ring i + len + 8 < 2 ^ 32 = w.small in
    let read : entry_read r.front (size_of r * length r.blocks) (mailbox_of d) (place_of d.ring i) ≡ Ok (entry.Pad len) =
    pad_there r.front (size_of r * length r.blocks) (mailbox_of d) (place_of d.ring i) len w.least w.even (omega arith) w.limit th.1 in
    let on : with_passed (passed_to user d i) kind.Pad len ≡ passed_to user d (suc i) = passed_one user d i x (ring_is r items user d lists h) (omega arith) g in
    rw (ne, read) (ap (λ (u : UserState). next_within n (mailbox_of d) before r u) on)

-- ==== all padding in front of an item

abbrev IsPadAt : DeviceState → ℕ → Type 0
IsPadAt d i = (len : ℕ) × (slice_get d.ring.laid i ≡ Some (record { len = len; laid = ring.Pad }))

pub pads_passed : (r : RegionState) (items : List Recorded) (user : UserState) (d : DeviceState) (lists : List Taken) (before : UserState) (n k i : ℕ) → CanPass r items user d lists → d.ring.dispatched ≤ i →
    ((j : ℕ) → j < k → IsPadAt d (i + j)) →
    next_within (k + n) (mailbox_of d) before r (passed_to user d i) ≡ next_within n (mailbox_of d) before r (passed_to user d (i + k))
pads_passed r items user d lists before n zero i h l pads =
    let a : 0 + n ≡ n = omega arith in
    let b : i ≡ i + 0 = omega arith in
    ap (λ m. next_within m (mailbox_of d) before r (passed_to user d i)) a ∙ ap (λ m. next_within n (mailbox_of d) before r (passed_to user d m)) b
pads_passed r items user d lists before n (suc k) i h l pads =
    let a : suc k + n ≡ suc (k + n) = omega arith in
    let b : suc i + k ≡ i + suc k = omega arith in
    let z : i + 0 ≡ i = omega arith in
    let first : IsPadAt d i = subst (IsPadAt d) z (pads 0 (omega arith)) in
    let rest : (j : ℕ) → j < k → IsPadAt d (suc i + j) = λ j m. let q : i + suc j ≡ suc i + j = omega arith in subst (IsPadAt d) q (pads (suc j) (omega arith)) in
    ap (λ m. next_within m (mailbox_of d) before r (passed_to user d i)) a
    ∙ pad_passed r items user d lists before (k + n) i first.0 h l first.1
    ∙ pads_passed r items user d lists before n k (suc i) h (omega arith) rest
    ∙ ap (λ m. next_within n (mailbox_of d) before r (passed_to user d m)) b

pad_is : (n : ℕ) (l : Laid) → is_pad (record { len = n; laid = l }) ≡ true → l ≡ ring.Pad
pad_is n ring.Pad h = refl
pad_is n (ring.Cmd s c) h = absurd (false≢true h)
pad_is n (ring.Tmr k ss) h = absurd (false≢true h)

pub pads_front : (xs : List Item) (j : ℕ) → j < prefix_len is_pad xs → (len : ℕ) × (slice_get xs j ≡ Some (record { len = len; laid = ring.Pad }))
pads_front [] j h = absurd (omega arith)
pads_front (x ∷ xs) j h =
    ⊎_elim
    (λ (e : is_pad x ≡ true). let k : j < 1 + prefix_len is_pad xs = rw e at h in first j k (pad_is x.len x.laid e) (λ i l. pads_front xs i l))
    (λ (e : is_pad x ≡ false). let k : j < 0 = rw e at h in absurd (omega arith))
    (cases_Bool (is_pad x))
  where
    first : (j : ℕ) → j < 1 + prefix_len is_pad xs → x.laid ≡ ring.Pad → ((i : ℕ) → i < prefix_len is_pad xs → (len : ℕ) × (slice_get xs i ≡ Some (record { len = len; laid = ring.Pad }))) →
        (len : ℕ) × (slice_get (x ∷ xs) j ≡ Some (record { len = len; laid = ring.Pad }))
    first zero h p more = (x.len, ap (λ (l : Laid). Some (record { len = x.len; laid = l })) p)
    first (suc j) h p more = more j (omega arith)

eights : (s : SettingsData) (start : ℕ) (is : List Item) → Along (IsItem s) start is → Every (λ (x : Item). 8 ≤ x.len) is
eights s start [] h = tt
eights s start (i ∷ is) h = (h.0.some, eights s (start + i.len) is h.1)

pads_long : (xs : List Item) → Every (λ (x : Item). 8 ≤ x.len) xs → 8 * prefix_len is_pad xs ≤ lengths xs
pads_long [] e = omega arith
pads_long (x ∷ xs) e =
    let s : lengths (x ∷ xs) ≡ x.len + lengths xs = sum_by-cons (λ (y : Item). y.len) x xs in
    let k : 8 * prefix_len is_pad xs ≤ lengths xs = pads_long xs e.1 in
    let a : 8 ≤ x.len = e.0 in
    ⊎_elim
    (λ (p : is_pad x ≡ true). rw p (omega arith))
    (λ (p : is_pad x ≡ false). rw p (omega arith))
    (cases_Bool (is_pad x))

-- no more than the eighths of the ring
few_pads : (d : DeviceState) → IsSound d → prefix_len is_pad (drop d.ring.dispatched d.ring.laid) ≤ d.ring.size / 8
few_pads d sound =
    let r = d.ring in
    let c1 : r.cleared ≤ r.published = sound.ring.cleared in
    let c2 : r.published ≤ r.dispatched = sound.ring.published in
    let us : used r < r.size = (holds d sound).room in
    let ui : lengths (take r.cleared r.laid) + used r ≡ lengths r.laid = used_is r in
    let more : lengths (take r.cleared r.laid) ≤ lengths (take r.dispatched r.laid) = lengths_more r.laid r.cleared r.dispatched (omega arith) in
    let sum : lengths r.laid ≡ lengths (take r.dispatched r.laid) + lengths (drop r.dispatched r.laid) =
    ap lengths (sym (take-append-drop r.dispatched r.laid)) ∙ lengths-append (take r.dispatched r.laid) (drop r.dispatched r.laid) in
    let k : 8 * prefix_len is_pad (drop r.dispatched r.laid) ≤ lengths (drop r.dispatched r.laid) =
    pads_long (drop r.dispatched r.laid) (every-drop (λ (x : Item). 8 ≤ x.len) r.dispatched r.laid (eights d.settings 0 r.laid sound.ring.items)) in
    omega arith

-- ==== up to the next item, or the head

-- next looks at the mailbox, and passes the padding
pub record Comes (r : RegionState) (user : UserState) (d : DeviceState) (i : ℕ) : Type 0 where
  pub left : ℕ
  pub is : nexted r user ≡ next_within (suc left) (mailbox_of d) user r (passed_to user d i)

nexted_read : (r : RegionState) (items : List Recorded) (user : UserState) (d : DeviceState) (lists : List Taken) → CanPass r items user d lists →
    nexted r user ≡ next_within (d.ring.size / 8 + 1) (mailbox_of d) user r (passed_to user d d.ring.dispatched)
unfolding nexted
nexted_read r items user d lists h =
    ap (next_of r user) (device_mailbox_there r items d lists h.sound h.ring)
    ∙ ap (λ n. next_within (n / 8 + 1) (mailbox_of d) user r user) (ring_is r items user d lists h)
    ∙ ap (λ (u : UserState). next_within (d.ring.size / 8 + 1) (mailbox_of d) user r u) (user_from user d h.attached h.side)

pub comes_to : (r : RegionState) (items : List Recorded) (user : UserState) (d : DeviceState) (lists : List Taken) → CanPass r items user d lists → Comes r user d (next_place d.ring)
comes_to r items user d lists h =
    let k : ℕ = prefix_len is_pad (drop d.ring.dispatched d.ring.laid) in
    let few : k ≤ d.ring.size / 8 = few_pads d h.sound in
    let e : d.ring.size / 8 + 1 ≡ k + suc (d.ring.size / 8 - k) = omega arith in
    record {
      left = d.ring.size / 8 - k;
      is =
          nexted_read r items user d lists h
          ∙ ap (λ n. next_within n (mailbox_of d) user r (passed_to user d d.ring.dispatched)) e
          ∙ pads_passed r items user d lists user (suc (d.ring.size / 8 - k)) k d.ring.dispatched h (omega arith)
          (λ j l. let f = pads_front (drop d.ring.dispatched d.ring.laid) j l in (f.0, get-dropped d.ring.laid d.ring.dispatched j ∙ f.1));
    }

-- all items are dispatched
pub nothing_left : (d : DeviceState) → IsSound d → next_item d ≡ None → d.ring.dispatched ≡ length d.ring.laid
nothing_left d sound e =
    let past : length d.ring.laid ≤ next_place d.ring = get_none d.ring.laid (next_place d.ring) e in
    let most : d.ring.dispatched ≤ length d.ring.laid = sound.ring.dispatched in
    ⊎_elim
    (λ (l : d.ring.dispatched < length d.ring.laid). let k : next_place d.ring < length d.ring.laid = next_inside d.ring sound.ring.ends l in absurd (omega arith))
    (λ (l : length d.ring.laid ≤ d.ring.dispatched). omega arith)
    (cases_lt d.ring.dispatched (length d.ring.laid))

pub comes_to_head : (r : RegionState) (items : List Recorded) (user : UserState) (d : DeviceState) (lists : List Taken) → CanPass r items user d lists → next_item d ≡ None →
    nexted r user ≡ record { answer = Nothing; region = r; user = user }
comes_to_head r items user d lists h e =
    let all : d.ring.dispatched ≡ length d.ring.laid = nothing_left d h.sound e in
    let at : place_of d.ring d.ring.dispatched ≡ head d.ring = ap (λ xs. lengths xs % d.ring.size) (take_all d.ring.dispatched d.ring.laid (omega arith)) in
    let t : eqb (place_of d.ring d.ring.dispatched) (head d.ring) ≡ true = eq-eqb (place_of d.ring d.ring.dispatched) (head d.ring) at in
    let n : d.ring.size / 8 + 1 ≡ suc (d.ring.size / 8) = omega arith in
    let stop : next_within (suc (d.ring.size / 8)) (mailbox_of d) user r (passed_to user d d.ring.dispatched) ≡ record { answer = Nothing; region = r; user = passed_to user d d.ring.dispatched } = rw t refl in
    nexted_read r items user d lists h
    ∙ ap (λ m. next_within m (mailbox_of d) user r (passed_to user d d.ring.dispatched)) n
    ∙ stop ∙ ap (λ (u : UserState). record { answer = Nothing; region = r; user = u }) (sym (user_from user d h.attached h.side))
