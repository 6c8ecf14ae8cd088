-- What is read of a region that represents a device is the device's picture.
use Rattle.std.proofs.Common.{◌≡◌, ℕ, ◌+◌, ◌-◌, ◌^◌, ◌%◌, ◌<◌, ◌≤◌, false, List, [], ◌∷◌, ◌++◌, length, take, drop, map, replicate, slice_get, IfSome, Option, Some, None, suc, refl, sym, ap, ◌∙◌, arith, length-append}
use Rattle.std.proofs.lemmas.List.{drop-drop}
use Rattle.tcmu_types.specs.Data.{CommandData, ReplyData, SettingsData}
use Rattle.tcmu_types.specs.Lists.{Every, first_of}
use Rattle.tcmu_types.specs.Rules.{payload_length}
use Rattle.tcmu_types.specs.declared.iovec.Iov.{Iov}
use Rattle.tcmu_types.specs.ByteFields.{le, padded, put}
use Rattle.tcmu_types.specs.Overwriting.{zeros}
use Rattle.tcmu_types.proofs.ByteFields.{length-le, length-put}
use Rattle.tcmu_types.proofs.Everies.{every-both, every-weaker}
use Rattle.tcmu_model.specs.BlockLists.{Taken, list_of}
use Rattle.tcmu_model.specs.Device.{DeviceState, Unfinished, has_serial}
use Rattle.tcmu_model.specs.Events.{is_in_hand}
use Rattle.tcmu_model.specs.Lengths.{block_size, blocks_of, round_up, tmr_length}
use Rattle.tcmu_model.specs.RingState.{Item, Laid}
use Rattle.tcmu_model.specs.RingState as ring
use Rattle.tcmu_model.specs.Sound.{IsSound, ReplyFits}
use Rattle.tcmu_model.proofs.Indexed.{item_at}
use Rattle.region_model.specs.Areas.{bytes_along}
use Rattle.region_model.specs.Layout.{cdb_place, command_bytes, command_head, command_length, entry_header, iovs_bytes, response_bytes, ring_start}
use Rattle.region_model.specs.Picture.{answer_at, answered_entry, command_iovs, entry_of, ids_named, item_bytes, kind_of, payload_of, picture_of, place_of, request_of, shown_items, with_answer, with_reply}
use Rattle.region_model.specs.Represents.{BlocksOf, BlocksStand, RingStands, TargetKeeps, entry_at, id_in, ids_in, recorded}
use Rattle.region_model.specs.Sides.{Recorded, TargetState}
use Rattle.region_model.proofs.EntriesThere.{length-ids_in}
use Rattle.region_model.proofs.HeaderLengths.{length-command_head}
use Rattle.region_model.proofs.PartLengths.{length-payload}
use Rattle.ring_laws.specs.PictureRead.{items_read, without_ids}
use Rattle.ring_laws.proofs.Bytes.{put-again, put-apart}
use Rattle.ring_laws.proofs.cleaned.CleanedOne.{next-place}
use Rattle.ring_laws.proofs.Matched.{unmatched}
use Rattle.ring_laws.proofs.notes.NoteBytes.{ids_cleared}
use Rattle.ring_laws.proofs.PassedItems.{Within, item_within}
use Rattle.ring_laws.proofs.Places.{get-dropped}

-- ==== an entry without its ids

request_zero : (s : SettingsData) (blocks : List ℕ) (at id : ℕ) (c : CommandData) → put (request_of s blocks at id c) 4 (le 2 0) ≡ request_of s blocks at 0 c
unfolding put le zeros padded entry_header command_head command_bytes
request_zero s blocks at id c = refl

request_long : (s : SettingsData) (blocks : List ℕ) (at id : ℕ) (c : CommandData) → 48 ≤ length (request_of s blocks at id c)
unfolding command_bytes padded
request_long s blocks at id c =
    let slots : ℕ = blocks_of s.pages c in
    let iovs : List Iov = command_iovs s blocks c in
    let head : List ℕ = command_head (command_length slots (length c.cdb)) id (length iovs) (ring_start + at + cdb_place slots) in
    let front : List ℕ = (head ++ iovs_bytes iovs) ++ zeros (cdb_place slots - length (head ++ iovs_bytes iovs)) in
    let back : List ℕ = c.cdb ++ zeros (round_up (length c.cdb) - length c.cdb) in
    omega (
      arith,
      length-command_head (command_length slots (length c.cdb)) id (length iovs) (ring_start + at + cdb_place slots),
      length-append head (iovs_bytes iovs),
      length-append (head ++ iovs_bytes iovs) (zeros (cdb_place slots - length (head ++ iovs_bytes iovs))),
      length-append front back,
    )

answered_zero : (s : SettingsData) (blocks : List ℕ) (at id : ℕ) (c : CommandData) (reply : ReplyData) (n : Option ℕ) →
    put (answered_entry (request_of s blocks at id c) id reply n) 4 (le 2 0) ≡ answered_entry (request_of s blocks at 0 c) 0 reply n
answered_zero s blocks at id c reply n =
    let e : List ℕ = request_of s blocks at id c in
    let r : List ℕ = response_bytes reply n in
    let long : 48 ≤ length e = request_long s blocks at id c in
    let two : (x : ℕ) → length (le 2 x) ≡ 2 = λ x. length-le 2 x in
    let kept : length (put e 4 (le 2 id)) ≡ length e = length-put e 4 (le 2 id) (omega (arith, two id)) in
    put-apart (put e 4 (le 2 id)) 4 7 (le 2 0) r (omega (arith, two 0)) (omega arith)
    ∙ ap (λ (w : List ℕ). put w 7 r) (put-again e 4 (le 2 id) (le 2 0) (two id ∙ sym (two 0)) (omega arith) ∙ request_zero s blocks at id c ∙ sym (request_zero s blocks at 0 c))

entry_zero : (d : DeviceState) (blocks : List ℕ) (at id : ℕ) (c : CommandData) (o : Option ℕ) →
    put (entry_of d id (request_of d.settings blocks at id c) o) 4 (le 2 0) ≡ entry_of d 0 (request_of d.settings blocks at 0 c) o
entry_zero d blocks at id c None = request_zero d.settings blocks at id c
entry_zero d blocks at id c (Some s) = by_found (first_of (has_serial s) d.unfinished)
  where
    by_reply : (cdb : List ℕ) (o : Option ReplyData) →
        put (with_reply d.settings.flags.read_len id (request_of d.settings blocks at id c) cdb o) 4 (le 2 0) ≡ with_reply d.settings.flags.read_len 0 (request_of d.settings blocks at 0 c) cdb o
    by_reply cdb None = request_zero d.settings blocks at id c
    by_reply cdb (Some reply) = answered_zero d.settings blocks at id c reply _

    by_found : (o : Option Unfinished) → put (with_answer d.settings.flags.read_len id (request_of d.settings blocks at id c) o) 4 (le 2 0) ≡ with_answer d.settings.flags.read_len 0 (request_of d.settings blocks at 0 c) o
    by_found None = request_zero d.settings blocks at id c
    by_found (Some u) = by_reply u.command.cdb u.reply

bytes_zero : (d : DeviceState) (lists : List Taken) (i n id : ℕ) (ids : List ℕ) (l : Laid) → length ids ≡ ids_named (record { len = n; laid = l }) → length ids < 2 ^ 32 →
    without_ids (kind_of l) (item_bytes d lists i id ids (record { len = n; laid = l })) ≡ item_bytes d lists i 0 (replicate (ids_named (record { len = n; laid = l })) 0) (record { len = n; laid = l })
bytes_zero d lists i n id ids ring.Pad h small = refl
bytes_zero d lists i n id ids (ring.Cmd s c) h small = entry_zero d (list_of lists s) (place_of d.ring i) id c (answer_at d i)
bytes_zero d lists i n id ids (ring.Tmr kind ss) h small = ids_cleared kind ids small ∙ ap (λ k. tmr_of kind k) h
  where
    tmr_of : ℕ → ℕ → List ℕ
    tmr_of kind k = item_bytes d lists i 0 (replicate k 0) (record { len = n; laid = ring.Tmr kind ss })

few_named : (d : DeviceState) (i n : ℕ) (l : Laid) → IsSound d → d.ring.cleared ≤ i → slice_get d.ring.laid i ≡ Some (record { len = n; laid = l }) → ids_named (record { len = n; laid = l }) < 2 ^ 32
few_named d i n ring.Pad sound c g = omega arith
few_named d i n (ring.Cmd s x) sound c g = omega arith
few_named d i n (ring.Tmr kind ss) sound c g =
    let w : Within d i (record { len = n; laid = ring.Tmr kind ss }) = item_within d i (record { len = n; laid = ring.Tmr kind ss }) sound c g in
    let small = w.small in
    let size : n ≡ tmr_length (length ss) = (item_at d i (record { len = n; laid = ring.Tmr kind ss }) sound g).kind in
    omega arith

item_shown : (front : List ℕ) (items : List Recorded) (d : DeviceState) (lists : List Taken) (i : ℕ) (x : Item) → IsSound d → RingStands front items d lists → d.ring.cleared ≤ i → slice_get d.ring.laid i ≡ Some x →
    without_ids (kind_of x.laid) (entry_at front (place_of d.ring i) x.len) ≡ item_bytes d lists i 0 (replicate (ids_named x) 0) x
item_shown front items d lists i x sound h c g =
    let entry : List ℕ = entry_at front (place_of d.ring i) x.len in
    let ids : List ℕ = ids_in (ids_named x) 32 entry in
    let many : length ids ≡ ids_named x = length-ids_in (ids_named x) 32 entry in
    let few : ids_named x < 2 ^ 32 = few_named d i x.len x.laid sound c g in
    ap (without_ids (kind_of x.laid)) (h.stands i x c g) ∙ bytes_zero d lists i x.len (id_in entry) ids x.laid many (omega arith)

-- ==== the items

items_shown : (front : List ℕ) (items : List Recorded) (d : DeviceState) (lists : List Taken) (i : ℕ) (xs : List Item) → IsSound d → RingStands front items d lists → d.ring.cleared ≤ i → drop i d.ring.laid ≡ xs →
    items_read front d.ring.size (place_of d.ring i) (map recorded xs) ≡ shown_items d lists i xs
items_shown front items d lists i [] sound h c e = refl
items_shown front items d lists i (x ∷ xs) sound h c e =
    let start : i + 0 ≡ i = omega arith in
    let g : slice_get d.ring.laid i ≡ Some x = ap (slice_get d.ring.laid) (sym start) ∙ get-dropped d.ring.laid i 0 ∙ ap (λ ys. slice_get ys 0) e in
    let next : suc i ≡ i + 1 = omega arith in
    let at : (place_of d.ring i + x.len) % d.ring.size ≡ place_of d.ring (i + 1) = next-place d.ring i x g ∙ ap (place_of d.ring) next in
    let rest : drop (i + 1) d.ring.laid ≡ xs = sym (drop-drop 1 i d.ring.laid) ∙ ap (drop 1) e in
    ap (λ bs. record { at = place_of d.ring i; kind = kind_of x.laid; bytes = bs } ∷ items_read front d.ring.size ((place_of d.ring i + x.len) % d.ring.size) (map recorded xs)) (item_shown front items d lists i x sound h c g)
    ∙ ap (λ ys. record { at = place_of d.ring i; kind = kind_of x.laid; bytes = item_bytes d lists i 0 (replicate (ids_named x) 0) x } ∷ ys)
    (ap (λ k. items_read front d.ring.size k (map recorded xs)) at ∙ items_shown front items d lists (i + 1) xs sound h (omega arith) rest)

pub picture_mailbox : (front : List ℕ) (items : List Recorded) (d : DeviceState) (lists : List Taken) → RingStands front items d lists → take ring_start front ≡ (picture_of d lists).mailbox
unfolding picture_of
picture_mailbox front items d lists h = h.mailbox

pub picture_items : (front : List ℕ) (t : TargetState) (d : DeviceState) (lists : List Taken) → IsSound d → RingStands front t.items d lists → TargetKeeps t d lists →
    items_read front t.settings.ring t.cleaned t.items ≡ (picture_of d lists).items
unfolding picture_of
picture_items front t d lists sound h keeps =
    let size : t.settings.ring ≡ d.ring.size = ap (λ (s : SettingsData). s.ring) keeps.settings ∙ sym sound.ring.size in
    ap (λ n. items_read front n t.cleaned t.items) size
    ∙ ap (λ n. items_read front d.ring.size n t.items) keeps.cleaned
    ∙ ap (items_read front d.ring.size (place_of d.ring d.ring.cleared)) h.recorded
    ∙ items_shown front t.items d lists d.ring.cleared (drop d.ring.cleared d.ring.laid) sound h (omega arith) refl

-- ==== the payloads

pub payload_lengths : (d : DeviceState) → IsSound d → Every (λ u. length (payload_of u) ≡ payload_length u.command) d.unfinished
payload_lengths d sound = every-weaker (λ u. IfSome u.reply (ReplyFits u.command)) (λ u. length (payload_of u) ≡ payload_length u.command) d.unfinished (λ u h. length-payload u h) sound.answers.replies

pub payloads_home : (area : List (Option (List ℕ))) (d : DeviceState) (lists : List Taken) → IsSound d → BlocksStand area d lists →
    Every (λ u. is_in_hand u ≡ false → take (payload_length u.command) (bytes_along (block_size d.settings.pages) area (list_of lists u.serial)) ≡ payload_of u) d.unfinished
payloads_home area d lists sound blocks =
    let size : ℕ = block_size d.settings.pages in
    every-weaker (λ u. (length (payload_of u) ≡ payload_length u.command) × BlocksOf size area lists u)
    (λ u. is_in_hand u ≡ false → take (payload_length u.command) (bytes_along size area (list_of lists u.serial)) ≡ payload_of u) d.unfinished
    (λ u h out. ap (λ n. take n (bytes_along size area (list_of lists u.serial))) (sym h.0) ∙ (unmatched (is_in_hand u) _ _ out h.1).begin_)
    (every-both (λ u. length (payload_of u) ≡ payload_length u.command) (BlocksOf size area lists) d.unfinished (payload_lengths d sound) blocks.all)
