-- The entry of the command that is dispatched is read as its request, and its job has its blocks.
use Rattle.std.proofs.Common.{◌≡◌, ℕ, ◌+◌, ◌-◌, ◌*◌, ◌^◌, ◌≤◌, ◌<◌, min, true, false, List, [], ◌∷◌, length, take, drop, refl, sym, ap, ◌∙◌, arith, Option, Some, None, Ok, slice_get, subst, ⊎_elim, eqb}
use Rattle.std.proofs.Math.Nat.{mul_comm, mul-le-mul_left}
use Rattle.std.proofs.lemmas.Bool.{cases_Bool, eqb-true}
use Rattle.std.proofs.lemmas.Bool.Decides.{nat_tests}
use Rattle.std.proofs.lemmas.List.{take-take}
use Rattle.std.proofs.lemmas.Option.{slice_get_past}
use Rattle.tcmu_types.specs.Data.{CommandData}
use Rattle.tcmu_types.specs.Rules.{payload_length, IsCommand}
use Rattle.tcmu_types.specs.declared.iovec.Iov.{Iov}
use Rattle.region_model.specs.declared.entry.EntryRef.TheVariants as entry
use Rattle.tcmu_model.specs.Lengths.{block_size, blocks_of, entry_length}
use Rattle.tcmu_model.specs.RingState.{Item, commands_in, lengths}
use Rattle.tcmu_model.specs.RingState as ring
use Rattle.tcmu_model.specs.Device.{DeviceState}
use Rattle.tcmu_model.specs.Sound.{IsSound, HasLength}
use Rattle.tcmu_types.specs.Lists.{Every}
use Rattle.tcmu_model.specs.BlockLists.{Taken, list_of}
use Rattle.region_model.specs.Layout.{data_start}
use Rattle.region_model.specs.EntryReading.{entry_read, lies_inside, limit_of}
use Rattle.region_model.specs.Iovecs.{piece, joined, merged, iovs_along, total_of}
use Rattle.region_model.specs.Picture.{place_of, entry_of, request_of, answer_at, command_iovs}
use Rattle.region_model.specs.Regions.{RegionState, size_of}
use Rattle.region_model.specs.Sides.{PendingRow, Recorded}
use Rattle.region_model.specs.Represents.{RingStands, IdsStand, entry_at, id_in, entry_id_at}
use Rattle.region_model.specs.UserNext.{iovs_in}
use Rattle.tcmu_model.specs.Owned.{ListsSound}
use Rattle.tcmu_model.proofs.Facts.{placed_dispatched}
use Rattle.tcmu_model.proofs.Fronts.{commands_more}
use Rattle.tcmu_model.proofs.Indexed.{item_at}
use Rattle.ring_laws.proofs.laid.LaidIds.{id_front, command_long}
use Rattle.ring_laws.proofs.attached.MailboxThere.{mailbox_of}
use Rattle.ring_laws.proofs.PassedItems.{Within, item_within, item_there}
use Rattle.ring_laws.proofs.placed.PlacedAnswers.{small_id}
use Rattle.region_model.specs.EntryWriting.{AreInside, IsRequest}
use Rattle.region_model.proofs.EntriesThere.{request_there}
use Rattle.region_model.proofs.Iovecs.{total_merged}
use Rattle.region_model.proofs.PartLengths.{length-iovs}

-- ==== the iovecs lie in the area

record Inside (low high : ℕ) (iov : Iov) : Type 0 where
  starts : low ≤ iov.base
  ends : iov.base + iov.len ≤ high
  small : iov.base + iov.len < 2 ^ 64

inside_told : (low high : ℕ) (iov : Iov) → Inside low high iov → lies_inside low high iov ≡ true
inside_told low high iov h = tests low high iov h.starts h.ends
  where
    tests : (low high : ℕ) (iov : Iov) → low ≤ iov.base → iov.base + iov.len ≤ high → lies_inside low high iov ≡ true
    tests low high iov starts ends = grind (arith, nat_tests)

all_told : (low high : ℕ) (iovs : List Iov) → Every (Inside low high) iovs → AreInside low high iovs
all_told low high [] e = tt
all_told low high (iov ∷ iovs) e =
    let s : iov.base + iov.len < 2 ^ 64 = e.0.small in
    (omega (arith, s), omega (arith, s), inside_told low high iov e.0, all_told low high iovs e.1)

inside_merged : (low high : ℕ) (iov : Iov) (iovs : List Iov) → Inside low high iov → Every (Inside low high) iovs → Every (Inside low high) (merged iov iovs)
unfolding merged
inside_merged low high iov [] h e = (h, tt)
inside_merged low high iov (next ∷ iovs) h e =
    ⊎_elim
    (λ (k : eqb (iov.base + iov.len) next.base ≡ true).
    let q : iov.base + iov.len ≡ next.base = eqb-true _ _ k in
    let s : low ≤ iov.base = h.starts in
    let f : next.base + next.len ≤ high = e.0.ends in
    let g : next.base + next.len < 2 ^ 64 = e.0.small in
    let one : Inside low high (joined iov next) = record { starts = s; ends = omega arith; small = omega (arith, q, g) } in
    rw k (one, e.1))
    (λ (k : eqb (iov.base + iov.len) next.base ≡ false). rw k (h, e))
    (cases_Bool (eqb (iov.base + iov.len) next.base))

-- a block's end is in the area
record BlockInside (start size high b : ℕ) : Type 0 where
  ends : start + size * b + size ≤ high
  small : start + size * b + size < 2 ^ 64

inside_along : (start size high : ℕ) (bs : List ℕ) (n : ℕ) → Every (BlockInside start size high) bs → Every (Inside start high) (iovs_along start size bs n)
unfolding iovs_along
inside_along start size high [] n e = tt
inside_along start size high (b ∷ bs) n e =
    let f : start + size * b + size ≤ high = e.0.ends in
    let g : start + size * b + size < 2 ^ 64 = e.0.small in
    inside_merged start high (piece start size b n) (iovs_along start size bs (n - size))
    (record { starts = omega arith; ends = omega arith; small = omega (arith, g) })
    (inside_along start size high bs (n - size) e.1)

-- ==== how many bytes they name

pub total_along : (start size : ℕ) (bs : List ℕ) (n : ℕ) → n ≤ size * length bs → total_of (iovs_along start size bs n) ≡ n
unfolding iovs_along
total_along start size [] n h = let z : ◌≡◌ {A = ℕ} (length {A = ℕ} []) 0 = refl in omega arith
total_along start size (b ∷ bs) n h =
    let k : size * length (b ∷ bs) ≡ size + size * length bs = omega arith in
    let t : total_of (iovs_along start size bs (n - size)) ≡ n - size = total_along start size bs (n - size) (omega arith) in
    let m : total_of (merged (piece start size b n) (iovs_along start size bs (n - size))) ≡ min size n + total_of (iovs_along start size bs (n - size)) = total_merged (piece start size b n) (iovs_along start size bs (n - size)) in
    let q : min size n + total_of (iovs_along start size bs (n - size)) ≡ n = omega arith in
    m ∙ q

-- ==== the entry

-- a command that is not dispatched has no answer in its entry
unanswered : (d : DeviceState) (i : ℕ) → IsSound d → d.ring.dispatched ≤ i → answer_at d i ≡ None
unanswered d i sound l =
    let a : length d.placed ≤ commands_in (take d.ring.dispatched d.ring.laid) = placed_dispatched d sound in
    let b : commands_in (take d.ring.dispatched d.ring.laid) ≤ commands_in (take i d.ring.laid) = commands_more d.ring.dispatched i d.ring.laid l in
    slice_get_past d.placed (commands_in (take i d.ring.laid)) (omega arith)

-- what next reads of it
pub record RequestRead (r : RegionState) (d : DeviceState) (lists : List Taken) (i n s : ℕ) (c : CommandData) : Type 0 where
  pub iovs : iovs_in r.front (128 + place_of d.ring i) 0 (length (command_iovs d.settings (list_of lists s) c)) ≡ command_iovs d.settings (list_of lists s) c
  pub read : entry_read r.front (size_of r * length r.blocks) (mailbox_of d) (place_of d.ring i)
      ≡ Ok (entry.Cmd n (entry_id_at r.front (place_of d.ring i)) (length (command_iovs d.settings (list_of lists s) c)) c.cdb)

block_inside : (size ring limit pages count b : ℕ) → size ≡ 4096 * pages → limit * pages ≤ 4096 → ring ≤ 4194304 → b < limit → b < count → pages ≤ 16 →
    BlockInside (4096 + ring) size (4096 + ring + size * count) b
block_inside size ring limit pages count b e area high below there most =
    let m : size * (b + 1) ≤ size * count = mul-le-mul_left size (omega arith) in
    let k : size * (b + 1) ≡ size * b + size = omega arith in
    let c : pages * (b + 1) ≤ pages * limit = mul-le-mul_left pages (omega arith) in
    let q : pages * limit ≡ limit * pages = mul_comm pages limit in
    let t : 4096 * pages * (b + 1) ≡ 4096 * (pages * (b + 1)) = omega arith in
    let w : size * (b + 1) ≡ 4096 * pages * (b + 1) = ap (λ z. z * (b + 1)) e in
    record { ends = omega arith; small = omega (arith, k, c, q, t, w, area, high) }

blocks_inside : (size ring limit pages : ℕ) (area : List (Option (List ℕ))) (bs : List ℕ) → size ≡ 4096 * pages → limit * pages ≤ 4096 → ring ≤ 4194304 → pages ≤ 16 →
    Every (λ b. (b < limit) × (b < length area)) bs → Every (BlockInside (4096 + ring) size (4096 + ring + size * length area)) bs
blocks_inside size ring limit pages area [] e a h p all = tt
blocks_inside size ring limit pages area (b ∷ bs) e a h p all = (block_inside size ring limit pages (length area) b e a h all.0.0 all.0.1 p, blocks_inside size ring limit pages area bs e a h p all.1)

pub request_read : (r : RegionState) (items : List Recorded) (rows : List PendingRow) (d : DeviceState) (lists : List Taken) (i n s : ℕ) (c : CommandData) →
    IsSound d → ListsSound d lists → RingStands r.front items d lists → IdsStand r.front rows d → r.pages ≡ d.settings.pages → d.ring.dispatched ≤ i →
    slice_get d.ring.laid i ≡ Some (record { len = n; laid = ring.Cmd s c }) → Every (λ b. (b < d.settings.blocks) × (b < length r.blocks)) (list_of lists s) → RequestRead r d lists i n s c
request_read r items rows d lists i n s c sound owned stands ids pages l g all =
    let x : Item = record { len = n; laid = ring.Cmd s c } in
    let c1 : d.ring.cleared ≤ d.ring.published = sound.ring.cleared in
    let c2 : d.ring.published ≤ d.ring.dispatched = sound.ring.published in
    let w : Within d i x = item_within d i x sound (omega arith) g in
    let at : ℕ = place_of d.ring i in
    let long : 112 ≤ n = command_long d i x sound g refl in
    let k : HasLength d.settings (lengths (take i d.ring.laid)) n (ring.Cmd s c) = (item_at d i x sound g).kind in
    let size : n ≡ entry_length d.settings.pages c = k.0 in
    let command : IsCommand c = k.1 in
    let old : List ℕ = entry_at r.front at n in
    let iovs : List Iov = command_iovs d.settings (list_of lists s) c in
    let text : List ℕ = request_of d.settings (list_of lists s) at (id_in old) c in
    let none : entry_of d (id_in old) text (answer_at d i) ≡ text = ap (entry_of d (id_in old) text) (unanswered d i sound l) in
    let st : old ≡ text = stands.stands i x (omega arith) g ∙ none in
    let th = item_there r.front d i x text stands.long w st in
    let lo : length old ≡ n = ap length st ∙ th.0 in
    let same : id_in old ≡ entry_id_at r.front at = sym (id_front old (omega arith)) ∙ ap id_in (take-take 112 n (drop (128 + at) r.front) long) in
    let small : id_in old < 2 ^ 16 = subst (λ (z : ℕ). z < 2 ^ 16) (sym same) (small_id rows s (entry_id_at r.front at) ids.range (ids.own i n s c l g)) in
    let few : length iovs ≤ blocks_of d.settings.pages c =
    subst (λ z. length iovs ≤ z) (owned.spans i n s c (omega arith) g) (length-iovs (data_start d.settings.ring) (block_size d.settings.pages) (list_of lists s) (payload_length c)) in
    let rs : d.ring.size ≡ d.settings.ring = sound.ring.size in
    let sz : block_size d.settings.pages ≡ size_of r = ap block_size (sym pages) in
    let area : ℕ = size_of r * length r.blocks in
    let ins0 : Every (Inside (4096 + d.settings.ring) (4096 + d.settings.ring + block_size d.settings.pages * length r.blocks)) iovs =
    inside_along (4096 + d.settings.ring) (block_size d.settings.pages) (4096 + d.settings.ring + block_size d.settings.pages * length r.blocks) (list_of lists s) (payload_length c)
    (blocks_inside (block_size d.settings.pages) d.settings.ring d.settings.blocks d.settings.pages r.blocks (list_of lists s) refl sound.settings.area sound.settings.ring.most sound.settings.pages_high all) in
    let ins1 : Every (Inside (4096 + d.settings.ring) (4096 + d.settings.ring + area)) iovs = subst (λ z. Every (Inside (4096 + d.settings.ring) (4096 + d.settings.ring + z * length r.blocks)) iovs) sz ins0 in
    let ins : AreInside (4096 + d.ring.size) (4096 + d.ring.size + area) iovs =
    subst (λ z. AreInside (4096 + z) (4096 + z + area) iovs) (sym rs) (all_told (4096 + d.settings.ring) (4096 + d.settings.ring + area) iovs ins1) in
    let limit : n ≤ limit_of (mailbox_of d) at = w.limit in
    let fits : 128 + at + n + 8 < 2 ^ 32 = w.small in
    let q : IsRequest (mailbox_of d) area at (id_in old) (blocks_of d.settings.pages c) iovs c.cdb = record {
      id_fits = small;
      few = few;
      cdb_is = command.cdb;
      inside = ins;
      limit = subst (λ z. z ≤ limit_of (mailbox_of d) at) size limit;
      fits = subst (λ z. 128 + at + z + 8 < 2 ^ 32) size fits;
    } in
    let both = request_there r.front area (mailbox_of d) at (id_in old) (blocks_of d.settings.pages c) iovs c.cdb q th.1 in
    record {
      iovs = both.1;
      read = both.0 ∙ ap (λ z. Ok (entry.Cmd z (id_in old) (length iovs) c.cdb)) (sym size) ∙ ap (λ z. Ok (entry.Cmd n z (length iovs) c.cdb)) same;
    }
