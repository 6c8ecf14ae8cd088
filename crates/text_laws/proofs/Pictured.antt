-- A picture of a sound device, with block lists that are sound or those of a run, is a dump of the code: its numbers, and the lengths of
-- its bytes, are numbers of 64 bits.
use Rattle.std.proofs.Common.{◌≡◌, ℕ, suc, ◌+◌, ◌*◌, ◌<◌, ◌≤◌, Bool, true, false, cond, List, [], ◌∷◌, length, take, drop, map, replicate, slice_get, IfSome, Option, Some, None, refl, sym, ap, ◌∙◌, arith, length-append, length-drop, ◌-◌, ◌++◌}
use Rattle.std.proofs.lemmas.List.{length-take, length-replicate}
use Rattle.std.proofs.Math.Nat.{mod-lt}
use Rattle.tcmu_types.specs.Data.{CommandData, ReplyData, SettingsData}
use Rattle.tcmu_types.specs.Rules.{IsCommand, IsSettings, takes_payload, payload_length}
use Rattle.tcmu_types.proofs.Places.{get_drop}
use Rattle.tcmu_model.specs.BlockLists.{Taken, list_of, held_by}
use Rattle.tcmu_model.specs.Device.{Unfinished, DeviceState, has_serial}
use Rattle.tcmu_types.specs.declared.iovec.Iov.{Iov}
use Rattle.region_model.specs.Layout.{iovs_bytes, cdb_place, command_length, command_head, ring_start, data_start, command_bytes, response_bytes}
use Rattle.tcmu_types.specs.ByteFields.{le, put, padded}
use Rattle.tcmu_types.specs.Overwriting.{zeros}
use Rattle.tcmu_model.specs.Lengths.{round_up, blocks_of, block_size}
use Rattle.tcmu_types.specs.Lists.{first_of, Every}
use Rattle.tcmu_model.specs.Owned.{ListsSound}
use Rattle.region_model.specs.Picture.{place_of, payload_of, command_iovs, request_of, told_length, with_reply, with_answer, entry_of, answer_at, item_bytes, ids_named, shown_item, shown_items, shown_command, shown_mailbox, picture_of}
use Rattle.tcmu_model.specs.RingState.{Item, Laid, Pad, Cmd, Tmr, lengths}
use Rattle.tcmu_model.specs.Sound.{IsItem, IsSound, ReplyFits}
use Rattle.tcmu_model.proofs.Basics.{rows_rise}
use Rattle.tcmu_model.proofs.DrainEnds.{rows_commands}
use Rattle.tcmu_types.proofs.Everies.{every-front, every-back, every-weaker, every-mapped}
use Rattle.tcmu_model.proofs.Indexed.{item_at}
use Rattle.tcmu_types.proofs.Rises.{rise_within}
use Rattle.tcmu_types.proofs.ByteFields.{length-le, length-zeros}
use Rattle.text_laws.specs.Dumps.{IsItemValue, IsHeldValue, PicturesWhole, IsDumpValue}
use Rattle.region_model.proofs.HeaderLengths.{length-command_head}
use Rattle.text_laws.specs.Values.{IsNumber}
use Rattle.text_laws.proofs.Devices.{blocks_few}
use Rattle.region_model.proofs.PartLengths.{length-iovs, length-iovs_bytes, length-mailbox, length-note, length-pad, length-payload, length-response}

-- ---- how many bytes are written

put_most : (xs : List ℕ) (at : ℕ) (bytes : List ℕ) → length (put xs at bytes) ≤ 2 * length xs + length bytes
unfolding put
put_most xs at bytes = simp (length-append, length-take, length-drop) (omega arith)

mailbox_few : (d : DeviceState) → IsNumber (length (shown_mailbox d))
mailbox_few d = let l : length (shown_mailbox d) ≡ 128 = length-mailbox _ in omega arith

padded_most : (n : ℕ) (xs : List ℕ) → length (padded n xs) ≤ n + length xs
unfolding padded
padded_most n xs = omega (arith, length-append xs (zeros (n - length xs)), length-zeros (n - length xs))

-- of a command, however many iovecs it names
command_most : (at id slots : ℕ) (iovs : List Iov) (cdb : List ℕ) → length (command_bytes at id slots iovs cdb) ≤ cdb_place slots + 48 + 16 * length iovs + round_up (length cdb) + length cdb
unfolding command_bytes
command_most at id slots iovs cdb =
    let h : List ℕ = command_head (command_length slots (length cdb)) id (length iovs) (ring_start + at + cdb_place slots) in
    let front : length (h ++ iovs_bytes iovs) ≡ length h + length (iovs_bytes iovs) = length-append h (iovs_bytes iovs) in
    let first : length h ≡ 48 = length-command_head (command_length slots (length cdb)) id (length iovs) (ring_start + at + cdb_place slots) in
    let a = padded_most (cdb_place slots) (h ++ iovs_bytes iovs) in
    let b = padded_most (round_up (length cdb)) cdb in
    omega (arith, front, first, a, b, length-iovs_bytes iovs, length-append (padded (cdb_place slots) (h ++ iovs_bytes iovs)) (padded (round_up (length cdb)) cdb))

-- an entry with an answer, or without one
reply_most : (read_len : Bool) (id : ℕ) (entry cdb : List ℕ) (o : Option ReplyData) → length (with_reply read_len id entry cdb o) ≤ 4 * length entry + 200
reply_most read_len id entry cdb None = omega arith
reply_most read_len id entry cdb (Some reply) =
    let told = told_length read_len cdb reply in
    omega (arith, put_most entry 4 (le 2 id), length-le 2 id, put_most (put entry 4 (le 2 id)) 7 (response_bytes reply told), length-response reply told)

answer_most : (read_len : Bool) (id : ℕ) (entry : List ℕ) (o : Option Unfinished) → length (with_answer read_len id entry o) ≤ 4 * length entry + 200
answer_most read_len id entry None = omega arith
answer_most read_len id entry (Some u) = reply_most read_len id entry u.command.cdb u.reply

entry_most : (d : DeviceState) (id : ℕ) (entry : List ℕ) (o : Option ℕ) → length (entry_of d id entry o) ≤ 4 * length entry + 200
entry_most d id entry None = omega arith
entry_most d id entry (Some s) = answer_most d.settings.flags.read_len id entry (first_of (has_serial s) d.unfinished)

-- ---- items

-- what is asked of block lists: they are not long, and their blocks are numbers of 64 bits
pub record AreFew (d : DeviceState) (lists : List Taken) : Type 0 where
  pub spans : (i n s : ℕ) (c : CommandData) → d.ring.cleared ≤ i → slice_get d.ring.laid i ≡ Some (record { len = n; laid = Cmd s c }) → length (list_of lists s) ≤ blocks_of d.settings.pages c + 4096
  pub held : Every IsNumber (held_by lists d.unfinished)

item_few : (d : DeviceState) (lists : List Taken) (i n : ℕ) (l : Laid) → IsSound d → AreFew d lists → d.ring.cleared ≤ i → slice_get d.ring.laid i ≡ Some (record { len = n; laid = l }) → IsItem d.settings (lengths (take i d.ring.laid)) (record { len = n; laid = l })
    → IsNumber (length (item_bytes d lists i 0 (replicate (ids_named (record { len = n; laid = l })) 0) (record { len = n; laid = l })))
item_few d lists i n Pad sound owned behind found is = omega (arith, length-pad n is.some, is.whole, sound.settings.ring.most)
item_few d lists i n (Cmd s c) sound owned behind found is =
    let iovs = command_iovs d.settings (list_of lists s) c in
    let few = length-iovs (data_start d.settings.ring) (block_size d.settings.pages) (list_of lists s) (payload_length c) in
    let slots = owned.spans i n s c behind found in
    let entry = command_most (place_of d.ring i) 0 (blocks_of d.settings.pages c) iovs c.cdb in
    let whole = entry_most d 0 (request_of d.settings (list_of lists s) (place_of d.ring i) 0 c) (answer_at d i) in
    omega (arith, few, slots, entry, whole, is.kind.0, is.whole, sound.settings.ring.most)
item_few d lists i n (Tmr kind ss) sound owned behind found is =
    let ids : List ℕ = replicate (length ss) 0 in
    let many : length ids ≡ length ss = length-replicate {A = ℕ} (length ss) 0 in
    omega (arith, length-note kind ids, many, is.kind, is.whole, sound.settings.ring.most)

item_value : (d : DeviceState) (lists : List Taken) (i : ℕ) (x : Item) → IsSound d → AreFew d lists → d.ring.cleared ≤ i → slice_get d.ring.laid i ≡ Some x → IsItemValue (shown_item d lists i x)
item_value d lists i x sound owned behind found =
    let some : 0 < d.ring.size = omega (arith, sound.ring.size, sound.settings.ring.least) in
    let place : place_of d.ring i < d.ring.size = mod-lt (lengths (take i d.ring.laid)) some in
    record { at = omega (arith, place, sound.ring.size, sound.settings.ring.most); bytes = item_few d lists i x.len x.laid sound owned behind found (item_at d i x sound found) }

items_value : (d : DeviceState) (lists : List Taken) (i : ℕ) (xs : List Item) → IsSound d → AreFew d lists → d.ring.cleared ≤ i → ((k : ℕ) (x : Item) → slice_get xs k ≡ Some x → slice_get d.ring.laid (i + k) ≡ Some x) → Every IsItemValue (shown_items d lists i xs)
items_value d lists i [] sound owned behind at = tt
items_value d lists i (x ∷ xs) sound owned behind at =
    let here : i ≡ i + 0 = omega arith in
    (item_value d lists i x sound owned behind (ap (slice_get d.ring.laid) here ∙ at 0 x refl), items_value d lists (i + 1) xs sound owned (omega (arith, behind)) (λ k y e. ap (slice_get d.ring.laid) (next i k) ∙ at (suc k) y e))
  where
    next : (m k : ℕ) → m + 1 + k ≡ m + suc k
    next m k = omega arith

-- ---- commands

payload_few : (u : Unfinished) → IsCommand u.command → IfSome u.reply (ReplyFits u.command) → IsNumber (length (payload_of u))
payload_few u is fits = omega (arith, length-payload u fits, few (takes_payload u.command.cdb))
  where
    few : (b : Bool) → cond b (length u.command.sent) u.command.in_len ≤ 1048576
    few true = is.sent
    few false = is.in_len

held_values : (s : SettingsData) (lists : List Taken) (us : List Unfinished) (most : ℕ) → IsSettings s → IsNumber most → Every (λ u. IsCommand u.command) us → Every (λ u. IfSome u.reply (ReplyFits u.command)) us
    → Every (λ u. (0 < u.serial) × (u.serial ≤ most)) us → Every IsNumber (held_by lists us) → Every IsHeldValue (map (shown_command lists) us)
held_values s lists [] most is lt commands replies serials below = tt
held_values s lists (u ∷ us) most is lt commands replies serials below = (
  record {
    serial = omega (arith, serials.0.1, lt);
    blocks = every-front IsNumber (list_of lists u.serial) (held_by lists us) below;
    payload = payload_few u commands.0 replies.0;
  },
  held_values s lists us most is lt commands.1 replies.1 serials.1 (every-back IsNumber (list_of lists u.serial) (held_by lists us) below),
)

-- ---- the whole

pub picture_few : (d : DeviceState) (lists : List Taken) → IsSound d → AreFew d lists → IsNumber d.accepted → IsDumpValue (picture_of d lists)
unfolding picture_of
picture_few d lists sound owned lt =
    record {
      mailbox = mailbox_few d;
      items = items_value d lists d.ring.cleared (drop d.ring.cleared d.ring.laid) sound owned (omega arith) (λ k x e. sym (get_drop d.ring.cleared d.ring.laid k) ∙ e);
      held = held_values d.settings lists d.unfinished d.accepted sound.settings lt (rows_commands d sound) sound.answers.replies
          (every-mapped (λ (u : Unfinished). u.serial) (λ s. (0 < s) × (s ≤ d.accepted)) d.unfinished (rise_within 0 (map (λ u. u.serial) d.unfinished) d.accepted (rows_rise d sound.serials))) owned.held;
    }

sound_few : (d : DeviceState) (lists : List Taken) → IsSound d → ListsSound d lists → AreFew d lists
sound_few d lists sound owned =
    record {
      spans = λ i n s c behind found. omega (arith, owned.spans i n s c behind found);
      held = every-weaker (λ n. n < d.settings.blocks) IsNumber (held_by lists d.unfinished) (λ n h. omega (arith, h, blocks_few d.settings sound.settings)) owned.below;
    }

pub picture_value : PicturesWhole
picture_value d lists sound owned lt = picture_few d lists sound (sound_few d lists sound owned) lt
