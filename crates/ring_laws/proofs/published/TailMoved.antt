-- The user side publishes: the tail is moved over the answers that are placed, and nothing else changes.
use Rattle.std.proofs.Common.{◌≡◌, ℕ, ◌+◌, ◌-◌, ◌%◌, ◌≤◌, Bool, true, false, cond, List, [], ◌∷◌, ◌++◌, length, take, drop, map, refl, sym, ap, ◌∙◌, arith, suc, zero, Option, Some, subst, ⊎_elim, eqb}
use Rattle.std.specs.List.{sum_by, count_by}
use Rattle.std.proofs.lemmas.Bool.{cases_Bool, eqb-true, ne_eqb}
use Rattle.std.proofs.lemmas.List.{take-append-drop, take-take, length-take-le, drop-drop, drop-take, take-map, drop-map}
use Rattle.std.proofs.lemmas.List.Sums.{sum_by-cons}
use Rattle.tcmu_types.specs.declared.answer.Publish.TheVariants as publish
use Rattle.tcmu_types.specs.declared.settings.Flags.{Flags}
use Rattle.tcmu_model.specs.RingState.{RingState, Item, Laid, lengths, head, commands_in, is_command, front_with, serials_in, published_commands}
use Rattle.tcmu_model.specs.RingState as ring
use Rattle.tcmu_model.specs.Device.{DeviceState}
use Rattle.tcmu_model.specs.Events.{publishable, publish_answer, after_publish}
use Rattle.tcmu_model.specs.Sound.{IsSound}
use Rattle.tcmu_model.specs.BlockLists.{Taken}
use Rattle.region_model.specs.Layout.{ring_start, data_start, tail_place, mailbox_bytes, device_mailbox}
use Rattle.tcmu_types.specs.ByteFields.{le, put}
use Rattle.tcmu_types.specs.Overwriting.{zeros}
use Rattle.region_model.specs.Regions.{RegionState}
use Rattle.tcmu_types.proofs.ByteFields.{length-le, length-put}
use Rattle.tcmu_model.proofs.Facts.{publishable_fits}
use Rattle.region_model.specs.Picture.{place_of, tail}
use Rattle.region_model.specs.Sides.{Recorded, PendingRow, TargetState, UserState, InHand}
use Rattle.region_model.specs.Represents.{RingStands, IdsStand, NotesStand, BlocksStand, JobsStand, TargetKeeps, UserKeeps, recorded, entry_at, entry_id_at, ids_in, NoteStands}
use Rattle.region_model.specs.UserSteps.{is_cmd, movable, moving, moving_items, user_publish_answer, user_published, region_published}
use Rattle.ring_laws.proofs.Bytes.{part-written_behind}
use Rattle.ring_laws.proofs.Layouts.{take-written_inside, add-mod}
use Rattle.ring_laws.proofs.laid.RingLaid.{stands-by}
use Rattle.ring_laws.proofs.laid.LaidRing.{commands-append}
use Rattle.ring_laws.proofs.Agree.{sum-recorded}
use Rattle.ring_laws.proofs.laid.LaidIds.{id-same}
use Rattle.tcmu_model.proofs.Laying.{lengths-append}

-- the device with its items published up to an index
abbrev pub published_to : DeviceState → ℕ → DeviceState
published_to d k = record d { ring = record d.ring { published = k } }

-- ==== how many items move

cmd_same : (x : Item) → is_cmd (recorded x) ≡ is_command x
cmd_same x = by_laid x.laid
  where
    by_laid : (l : Laid) → is_cmd (recorded (record { len = x.len; laid = l })) ≡ is_command (record { len = x.len; laid = l })
    by_laid ring.Pad = refl
    by_laid (ring.Cmd s c) = refl
    by_laid (ring.Tmr k ss) = refl

movable_front : (n : ℕ) (xs : List Item) → movable n (map recorded xs) ≡ front_with n xs
movable_front n [] = refl
movable_front n (x ∷ xs) =
    ap (λ b. cond b (cond (eqb n 0) 0 (movable (n - 1) (map recorded xs) + 1)) (movable n (map recorded xs) + 1)) (cmd_same x)
    ∙ ap (λ m. cond (is_command x) (cond (eqb n 0) 0 (m + 1)) (movable n (map recorded xs) + 1)) (movable_front (n - 1) xs)
    ∙ ap (λ m. cond (is_command x) (cond (eqb n 0) 0 (front_with (n - 1) xs + 1)) (m + 1)) (movable_front n xs)

front_split : (n : ℕ) (xs ys : List Item) → commands_in xs ≤ n → front_with n (xs ++ ys) ≡ length xs + front_with (n - commands_in xs) ys
front_split n [] ys h =
    let z : ◌≡◌ {A = ℕ} (commands_in []) 0 = refl in
    let e : n ≡ n - commands_in [] = omega (arith, z) in
    let q : front_with (n - commands_in []) ys ≡ 0 + front_with (n - commands_in []) ys = omega arith in
    ap (λ m. front_with m ys) e ∙ q
front_split n (x ∷ xs) ys h =
    let c : commands_in (x ∷ xs) ≡ cond (is_command x) 1 0 + commands_in xs = sum_by-cons (λ y. cond (is_command y) 1 0) x xs in
    ⊎_elim
    (λ (k : is_command x ≡ true).
    let one : ◌≡◌ {A = ℕ} (cond (is_command x) 1 0) 1 = ap (λ b. cond b 1 0) k in
    let nz : eqb n 0 ≡ false = ne_eqb n 0 (λ z. absurd (omega (arith, c, one, z, h))) in
    let ih : front_with (n - 1) (xs ++ ys) ≡ length xs + front_with (n - 1 - commands_in xs) ys = front_split (n - 1) xs ys (omega (arith, c, one, h)) in
    let e : n - 1 - commands_in xs ≡ n - commands_in (x ∷ xs) = omega (arith, c, one) in
    let g : front_with (n - 1 - commands_in xs) ys ≡ front_with (n - commands_in (x ∷ xs)) ys = ap (λ m. front_with m ys) e in
    let q : front_with (n - 1) (xs ++ ys) + 1 ≡ length (x ∷ xs) + front_with (n - commands_in (x ∷ xs)) ys = omega (arith, ih, g) in
    ap (λ b. cond b (cond (eqb n 0) 0 (front_with (n - 1) (xs ++ ys) + 1)) (front_with n (xs ++ ys) + 1)) k
    ∙ ap (λ b. cond b 0 (front_with (n - 1) (xs ++ ys) + 1)) nz ∙ q)
    (λ (k : is_command x ≡ false).
    let none : ◌≡◌ {A = ℕ} (cond (is_command x) 1 0) 0 = ap (λ b. cond b 1 0) k in
    let ih : front_with n (xs ++ ys) ≡ length xs + front_with (n - commands_in xs) ys = front_split n xs ys (omega (arith, c, none, h)) in
    let e : n - commands_in xs ≡ n - commands_in (x ∷ xs) = omega (arith, c, none) in
    let g : front_with (n - commands_in xs) ys ≡ front_with (n - commands_in (x ∷ xs)) ys = ap (λ m. front_with m ys) e in
    let q : front_with n (xs ++ ys) + 1 ≡ length (x ∷ xs) + front_with (n - commands_in (x ∷ xs)) ys = omega (arith, ih, g) in
    ap (λ b. cond b (cond (eqb n 0) 0 (front_with (n - 1) (xs ++ ys) + 1)) (front_with n (xs ++ ys) + 1)) k ∙ q)
    (cases_Bool (is_command x))

count_recorded : (xs : List Item) → count_by is_cmd (map recorded xs) ≡ commands_in xs
count_recorded [] = refl
count_recorded (x ∷ xs) =
    let a : count_by is_cmd (recorded x ∷ map recorded xs) ≡ cond (is_cmd (recorded x)) 1 0 + count_by is_cmd (map recorded xs) = sum_by-cons (λ (y : Recorded). cond (is_cmd y) 1 0) (recorded x) (map recorded xs) in
    let b : commands_in (x ∷ xs) ≡ cond (is_command x) 1 0 + commands_in xs = sum_by-cons (λ y. cond (is_command y) 1 0) x xs in
    let c : ◌≡◌ {A = ℕ} (cond (is_cmd (recorded x)) 1 0) (cond (is_command x) 1 0) = ap (λ z. cond z 1 0) (cmd_same x) in
    omega (arith, a, b, c, count_recorded xs)

take_nil : {X : Type 0} (n : ℕ) → ◌≡◌ {A = List X} (take n []) []
take_nil zero = refl
take_nil (suc n) = refl

pub take_more : {X : Type 0} (j m : ℕ) (xs : List X) → take (j + m) xs ≡ take j xs ++ take m (drop j xs)
take_more zero m xs = let z : 0 + m ≡ m = omega arith in ap (λ n. take n xs) z
take_more (suc j) m [] = take_nil (suc j + m) ∙ sym (take_nil m)
take_more (suc j) m (x ∷ xs) = let k : suc j + m ≡ suc (j + m) = omega arith in ap (λ n. take n (x ∷ xs)) k ∙ ap (λ ys. x ∷ ys) (take_more j m xs)

-- what moves, by the device and by the user side
pub record Moves (user : UserState) (d : DeviceState) : Type 0 where
  pub count : ℕ
  pub device : publishable d ≡ d.ring.published + count
  pub side : moving user ≡ count
  pub items : moving_items user ≡ map recorded (take count (drop d.ring.published d.ring.laid))
  pub rest : drop count user.items ≡ map recorded (drop (d.ring.published + count) (take d.ring.dispatched d.ring.laid))

pub moves : (user : UserState) (d : DeviceState) → IsSound d → d.attached ≡ true → UserKeeps user d → Moves user d
moves user d sound att keeps =
    let f : List Item = take d.ring.dispatched d.ring.laid in
    let p : ℕ = d.ring.published in
    let rest : List Item = drop p f in
    let n : ℕ = length d.placed in
    let a : ℕ = published_commands d.ring in
    let m : ℕ = front_with (n - a) rest in
    let pd : p ≤ d.ring.dispatched = sound.ring.published in
    let dl : d.ring.dispatched ≤ length d.ring.laid = sound.ring.dispatched in
    let an : a ≤ n = sound.answers.published in
    let tk : take p f ≡ take p d.ring.laid = take-take p d.ring.dispatched d.ring.laid pd in
    let lt : length (take p d.ring.laid) ≡ p = length-take-le p d.ring.laid (omega arith) in
    let sp : f ≡ take p d.ring.laid ++ rest = sym (take-append-drop p f) ∙ ap (λ xs. xs ++ rest) tk in
    let dv : publishable d ≡ p + m = ap (front_with n) sp ∙ front_split n (take p d.ring.laid) rest an ∙ ap (λ z. z + m) lt in
    let sd : moving user ≡ m = ap (λ xs. movable (user.placed - user.published) xs) (keeps.items att) ∙ movable_front (user.placed - user.published) rest
    ∙ ap (λ z. front_with (z - user.published) rest) keeps.placed ∙ ap (λ z. front_with (n - z) rest) keeps.published in
    let fit : publishable d ≤ d.ring.dispatched = (publishable_fits d sound).0 in
    let k : d.ring.dispatched ≡ p + (d.ring.dispatched - p) = omega arith in
    let dr : rest ≡ take (d.ring.dispatched - p) (drop p d.ring.laid) = ap (λ z. drop p (take z d.ring.laid)) k ∙ drop-take p (d.ring.dispatched - p) d.ring.laid in
    let fr : take m rest ≡ take m (drop p d.ring.laid) = ap (take m) dr ∙ take-take m (d.ring.dispatched - p) (drop p d.ring.laid) (omega (arith, dv, fit)) in
    record {
      count = m;
      device = dv;
      side = sd;
      items = ap (λ z. take z user.items) sd ∙ ap (take m) (keeps.items att) ∙ take-map recorded m rest ∙ ap (map recorded) fr;
      rest = ap (drop m) (keeps.items att) ∙ drop-map recorded m rest ∙ ap (map recorded) (drop-drop m p f);
    }

-- ==== the ring

pub tail_moved : (f : Flags) (size head tail tail' : ℕ) → put (mailbox_bytes (device_mailbox f size head tail)) tail_place (le 4 tail') ≡ mailbox_bytes (device_mailbox f size head tail')
unfolding put le zeros mailbox_bytes
tail_moved f size head tail tail' = refl

-- an entry lies behind the mailbox
entry_kept : (front : List ℕ) (size k at n : ℕ) → length front ≡ data_start size → entry_at (put front tail_place (le 4 k)) at n ≡ entry_at front at n
entry_kept front size k at n long = part-written_behind front tail_place (le 4 k) (ring_start + at) n (omega (arith, length-le 4 k)) (omega (arith, long))

pub ring_tail : (front : List ℕ) (items : List Recorded) (d : DeviceState) (lists : List Taken) (k : ℕ) → RingStands front items d lists →
    RingStands (put front tail_place (le 4 (place_of d.ring k))) items (published_to d k) lists
ring_tail front items d lists k h =
    let t : ℕ = place_of d.ring k in
    let front' : List ℕ = put front tail_place (le 4 t) in
    let l4 : length (le 4 t) ≡ 4 = length-le 4 t in
    let long : length front ≡ data_start d.ring.size = h.long in
    record {
      long = length-put front tail_place (le 4 t) (omega arith) ∙ h.long;
      mailbox = take-written_inside front tail_place (le 4 t) ring_start (omega arith) (omega arith) ∙ ap (λ m. put m tail_place (le 4 t)) h.mailbox
          ∙ tail_moved d.settings.flags d.ring.size (head d.ring) (tail d.ring) t;
      stands = λ i x c g. stands-by front front' d (published_to d k) lists lists i x
          (record { settings = refl; size = refl; placed = refl; found = λ j s q. refl; listed = λ j n s l q z. refl }) refl c g
          (entry_kept front d.ring.size t (place_of d.ring i) x.len h.long) (h.stands i x c g);
      recorded = h.recorded;
    }

pub ids_tail : (front : List ℕ) (items : List Recorded) (rows : List PendingRow) (d : DeviceState) (lists : List Taken) (k : ℕ) → RingStands front items d lists → IdsStand front rows d →
    IdsStand (put front tail_place (le 4 (place_of d.ring k))) rows (published_to d k)
ids_tail front items rows d lists k h ids =
    let t : ℕ = place_of d.ring k in
    let same : (at : ℕ) → entry_id_at (put front tail_place (le 4 t)) at ≡ entry_id_at front at = λ at. id-same front (put front tail_place (le 4 t)) at 112 (omega arith) (entry_kept front d.ring.size t at 112 h.long) in
    record {
      range = ids.range;
      differ = ids.differ;
      answered = λ i x s c g q p. ids.answered i x s c g q p ∙ ap Some (sym (same (place_of d.ring i)));
      own = λ i n s c l g. ids.own i n s c l g ∙ ap Some (sym (same (place_of d.ring i)));
    }

pub notes_tail : (front : List ℕ) (items : List Recorded) (rows : List PendingRow) (d : DeviceState) (lists : List Taken) (k : ℕ) → RingStands front items d lists → NotesStand front rows d →
    NotesStand (put front tail_place (le 4 (place_of d.ring k))) rows (published_to d k)
notes_tail front items rows d lists k h notes = λ i n type_ ss l g.
    subst (λ (e : List ℕ). NoteStands rows (serials_in (take i d.ring.laid)) (serials_in (drop i d.ring.laid)) type_ ss (ids_in (length ss) 32 e))
    (sym (entry_kept front d.ring.size (place_of d.ring k) (place_of d.ring i) n h.long)) (notes i n type_ ss l g)

-- ==== the two sides

blocks_tail : (area : List (Option (List ℕ))) (d : DeviceState) (lists : List Taken) (k : ℕ) → BlocksStand area d lists → BlocksStand area (published_to d k) lists
blocks_tail area d lists k h = record { all = h.all; just = h.just }

target_tail : (t : TargetState) (d : DeviceState) (lists : List Taken) (k : ℕ) → TargetKeeps t d lists → TargetKeeps t (published_to d k) lists
target_tail t d lists k h =
    record {
      settings = h.settings;
      now = h.now;
      blocked = h.blocked;
      accepted = h.accepted;
      rows = h.rows;
      delayed = h.delayed;
      cleaned = h.cleaned;
      laid = h.laid;
      cleared = h.cleared;
      broken = h.broken;
      log = h.log;
    }

-- how far the tail comes
tail_there : (user : UserState) (d : DeviceState) → d.ring.size ≡ d.settings.ring → UserKeeps user d → (m : Moves user d) → (user_published user).tail ≡ place_of d.ring (d.ring.published + m.count)
unfolding user_published
tail_there user d size keeps m =
    let moved : List Item = take m.count (drop d.ring.published d.ring.laid) in
    let all : take (d.ring.published + m.count) d.ring.laid ≡ take d.ring.published d.ring.laid ++ moved = take_more d.ring.published m.count d.ring.laid in
    ap (λ (xs : List Recorded). (user.tail + sum_by (λ (x : Recorded). x.len) xs) % user.ring) m.items
    ∙ ap (λ n. (user.tail + n) % user.ring) (sum-recorded moved)
    ∙ ap (λ n. (n + lengths moved) % user.ring) keeps.tail
    ∙ ap (λ n. (place_of d.ring d.ring.published + lengths moved) % n) (keeps.ring ∙ sym size)
    ∙ add-mod (lengths (take d.ring.published d.ring.laid)) (lengths moved) d.ring.size
    ∙ ap (λ n. n % d.ring.size) (sym (ap lengths all ∙ lengths-append (take d.ring.published d.ring.laid) moved))

commands_there : (user : UserState) (d : DeviceState) → (m : Moves user d) → published_commands d.ring + count_by is_cmd (moving_items user) ≡ commands_in (take (d.ring.published + m.count) d.ring.laid)
commands_there user d m =
    let moved : List Item = take m.count (drop d.ring.published d.ring.laid) in
    let all : take (d.ring.published + m.count) d.ring.laid ≡ take d.ring.published d.ring.laid ++ moved = take_more d.ring.published m.count d.ring.laid in
    ap (λ (xs : List Recorded). published_commands d.ring + count_by is_cmd xs) m.items
    ∙ ap (λ n. published_commands d.ring + n) (count_recorded moved)
    ∙ sym (ap commands_in all ∙ commands-append (take d.ring.published d.ring.laid) moved)

side_tail : (user : UserState) (d : DeviceState) → d.ring.size ≡ d.settings.ring → UserKeeps user d → (m : Moves user d) → UserKeeps (user_published user) (published_to d (d.ring.published + m.count))
unfolding user_published
side_tail user d size keeps m =
    record {
      ring = keeps.ring;
      pages = keeps.pages;
      flags = keeps.flags;
      tail = tail_there user d size keeps m;
      dispatched = keeps.dispatched;
      placed = keeps.placed;
      published = ap (λ n. n + count_by is_cmd (moving_items user)) keeps.published ∙ commands_there user d m;
      place = keeps.place;
      items = λ a. ap (λ n. drop n user.items) m.side ∙ m.rest;
    }

-- ==== the laws

after_is : (user : UserState) (d : DeviceState) → d.attached ≡ true → (m : Moves user d) → published_to d (d.ring.published + m.count) ≡ after_publish d
unfolding after_publish
after_is user d att m = ap (published_to d) (sym m.device) ∙ sym (ap (λ b. cond b (published_to d (publishable d)) d) att)

front_published : (r : RegionState) (user : UserState) → (region_published r user).front ≡ cond (eqb (moving user) 0) r.front (put r.front tail_place (le 4 (user_published user).tail))
unfolding region_published
front_published r user = by_count (eqb (moving user) 0)
  where
    by_count : (b : Bool) → (cond b r (record r { front = put r.front tail_place (le 4 (user_published user).tail) })).front ≡ cond b r.front (put r.front tail_place (le 4 (user_published user).tail))
    by_count true = refl
    by_count false = refl

-- what holds behind the tail's move holds of the region that is published
moved_front : (P : List ℕ → DeviceState → Type 0) (r : RegionState) (user : UserState) (d : DeviceState) → IsSound d → d.attached ≡ true → UserKeeps user d →
    P r.front (published_to d d.ring.published) → ((k : ℕ) → P (put r.front tail_place (le 4 (place_of d.ring k))) (published_to d k)) → P (region_published r user).front (after_publish d)
moved_front P r user d sound att keeps still moved =
    let m : Moves user d = moves user d sound att keeps in
    let k : ℕ = d.ring.published + m.count in
    let f : List ℕ = put r.front tail_place (le 4 (user_published user).tail) in
    let e : (region_published r user).front ≡ cond (eqb m.count 0) r.front f = front_published r user ∙ ap (λ n. cond (eqb n 0) r.front f) m.side in
    subst (P (region_published r user).front) (after_is user d att m)
    (⊎_elim
    (λ (z : eqb m.count 0 ≡ true).
    let n : m.count ≡ 0 = eqb-true m.count 0 z in
    let q : d.ring.published ≡ k = omega arith in
    subst (λ (g : List ℕ). P g (published_to d k)) (sym (e ∙ ap (λ b. cond b r.front f) z)) (subst (λ j. P r.front (published_to d j)) q still))
    (λ (z : eqb m.count 0 ≡ false).
    let t : f ≡ put r.front tail_place (le 4 (place_of d.ring k)) = ap (λ y. put r.front tail_place (le 4 y)) (tail_there user d sound.ring.size keeps m) in
    subst (λ (g : List ℕ). P g (published_to d k)) (sym (e ∙ ap (λ b. cond b r.front f) z ∙ t)) (moved k))
    (cases_Bool (eqb m.count 0)))

pub ring_published : (r : RegionState) (user : UserState) (items : List Recorded) (d : DeviceState) (lists : List Taken) → IsSound d → d.attached ≡ true → RingStands r.front items d lists → UserKeeps user d →
    RingStands (region_published r user).front items (after_publish d) lists
ring_published r user items d lists sound att h keeps = moved_front (λ front e. RingStands front items e lists) r user d sound att keeps h (λ k. ring_tail r.front items d lists k h)

pub ids_published : (r : RegionState) (user : UserState) (items : List Recorded) (rows : List PendingRow) (d : DeviceState) (lists : List Taken) → IsSound d → d.attached ≡ true → RingStands r.front items d lists → IdsStand r.front rows d → UserKeeps user d →
    IdsStand (region_published r user).front rows (after_publish d)
ids_published r user items rows d lists sound att h ids keeps = moved_front (λ front e. IdsStand front rows e) r user d sound att keeps ids (λ k. ids_tail r.front items rows d lists k h ids)

pub notes_published : (r : RegionState) (user : UserState) (items : List Recorded) (rows : List PendingRow) (d : DeviceState) (lists : List Taken) → IsSound d → d.attached ≡ true → RingStands r.front items d lists → NotesStand r.front rows d → UserKeeps user d →
    NotesStand (region_published r user).front rows (after_publish d)
notes_published r user items rows d lists sound att h notes keeps = moved_front (λ front e. NotesStand front rows e) r user d sound att keeps notes (λ k. notes_tail r.front items rows d lists k h notes)

pub blocks_published : (r : RegionState) (user : UserState) (d : DeviceState) (lists : List Taken) → IsSound d → d.attached ≡ true → BlocksStand r.blocks d lists → UserKeeps user d →
    BlocksStand (region_published r user).blocks (after_publish d) lists
unfolding region_published
blocks_published r user d lists sound att h keeps =
    let m : Moves user d = moves user d sound att keeps in
    subst (λ (e : DeviceState). BlocksStand (region_published r user).blocks e lists) (after_is user d att m)
    (subst (λ (area : List (Option (List ℕ))). BlocksStand area (published_to d (d.ring.published + m.count)) lists) (by_count (eqb (moving user) 0)) (blocks_tail r.blocks d lists (d.ring.published + m.count) h))
  where
    by_count : (b : Bool) → r.blocks ≡ (cond b r (record r { front = put r.front tail_place (le 4 (user_published user).tail) })).blocks
    by_count true = refl
    by_count false = refl

pub jobs_published : (user : UserState) (hand : List InHand) (rows : List PendingRow) (d : DeviceState) (lists : List Taken) → IsSound d → d.attached ≡ true → JobsStand user hand rows d lists → UserKeeps user d →
    JobsStand (user_published user) hand rows (after_publish d) lists
unfolding user_published
jobs_published user hand rows d lists sound att h keeps =
    subst (λ (e : DeviceState). JobsStand (user_published user) hand rows e lists) (after_is user d att (moves user d sound att keeps))
    (record { given = h.given; out = h.out; offsets = h.offsets })

pub target_published : (t : TargetState) (user : UserState) (d : DeviceState) (lists : List Taken) → IsSound d → d.attached ≡ true → TargetKeeps t d lists → UserKeeps user d → TargetKeeps t (after_publish d) lists
target_published t user d lists sound att h keeps =
    let m : Moves user d = moves user d sound att keeps in
    subst (λ (e : DeviceState). TargetKeeps t e lists) (after_is user d att m) (target_tail t d lists (d.ring.published + m.count) h)

pub side_published : (user : UserState) (d : DeviceState) → IsSound d → d.attached ≡ true → UserKeeps user d → UserKeeps (user_published user) (after_publish d)
side_published user d sound att keeps =
    let m : Moves user d = moves user d sound att keeps in
    subst (UserKeeps (user_published user)) (after_is user d att m) (side_tail user d sound.ring.size keeps m)

pub publish_same : (user : UserState) (d : DeviceState) → IsSound d → d.attached ≡ true → UserKeeps user d → user_publish_answer user ≡ publish_answer d
unfolding user_publish_answer publish_answer
publish_same user d sound att keeps =
    let m : Moves user d = moves user d sound att keeps in
    let a : moving user ≡ publishable d - d.ring.published = m.side ∙ (let z : m.count ≡ publishable d - d.ring.published = omega (arith, m.device) in z) in
    let w : commands_in (take (d.ring.published + m.count) d.ring.laid) ≡ commands_in (take (publishable d) d.ring.laid) = ap (λ n. commands_in (take n d.ring.laid)) (sym m.device) in
    let b : count_by is_cmd (moving_items user) ≡ commands_in (take (publishable d) d.ring.laid) - published_commands d.ring = omega (arith, commands_there user d m, w) in
    ap (λ n. publish.Moved n (count_by is_cmd (moving_items user))) a ∙ ap (publish.Moved (publishable d - d.ring.published)) b
    ∙ sym (ap (λ x. cond x (publish.Moved (publishable d - d.ring.published) (commands_in (take (publishable d) d.ring.laid) - published_commands d.ring)) publish.Detached) att)

pub pages_published : (r : RegionState) (user : UserState) (d : DeviceState) → r.pages ≡ d.settings.pages → (region_published r user).pages ≡ (after_publish d).settings.pages
unfolding after_publish region_published
pages_published r user d h = region ∙ h ∙ sym device
  where
    region : (region_published r user).pages ≡ r.pages
    region =
        ⊎_elim
        (λ (e : eqb (moving user) 0 ≡ true). rw e refl)
        (λ (e : eqb (moving user) 0 ≡ false). rw e refl)
        (cases_Bool (eqb (moving user) 0))

    device : (after_publish d).settings.pages ≡ d.settings.pages
    device =
        ⊎_elim
        (λ (a : d.attached ≡ true). rw a refl)
        (λ (a : d.attached ≡ false). rw a refl)
        (cases_Bool d.attached)
