-- What next gives of a region that represents an attached device: the job of the next command, the next note, or nothing.
use Rattle.std.proofs.Common.{◌≡◌, ℕ, ◌+◌, ◌-◌, ◌*◌, ◌/◌, ◌^◌, ◌≤◌, ◌<◌, min, take, Bool, true, false, cond, List, [], ◌∷◌, ◌++◌, length, drop, filter, refl, sym, ap, ◌∙◌, arith, suc, Option, Some, None, Ok, subst, ⊎_elim, eqb}
use Rattle.std.specs.Prelude.{IsTrue}
use Rattle.std.specs.List.{list_any}
use Rattle.std.proofs.lemmas.Bool.{cases_Bool, eqb-true, ne_eqb, eq-eqb, and_from}
use Rattle.std.proofs.lemmas.List.{length-take-le, length-drop}
use Rattle.std.proofs.lemmas.Option.{slice_get_within}
use Rattle.tcmu_types.specs.Data.{CommandData}
use Rattle.tcmu_types.specs.Rules.{takes_payload, payload_length, IsCommand}
use Rattle.tcmu_types.specs.declared.dump.ItemKind.TheVariants as kind
use Rattle.tcmu_types.specs.declared.iovec.Iov.{Iov}
use Rattle.region_model.specs.declared.entry.EntryRef.TheVariants as entry
use Rattle.tcmu_model.specs.declared.state.CommandState.TheVariants.{Waiting}
use Rattle.tcmu_types.specs.Lists.{first_of, Every}
use Rattle.tcmu_model.specs.Lengths.{block_size, blocks_of, tmr_length}
use Rattle.tcmu_model.specs.RingState.{Item, Laid, head, is_pad, lengths, next_place}
use Rattle.tcmu_model.specs.RingState as ring
use Rattle.tcmu_model.specs.Device.{Unfinished, DeviceState, has_serial}
use Rattle.tcmu_model.specs.Events.{is_in_hand, next_item}
use Rattle.tcmu_types.specs.Numbers.{is_among, Differ}
use Rattle.tcmu_model.specs.Sound.{HasLength}
use Rattle.tcmu_model.specs.BlockLists.{Taken, list_of, held_by}
use Rattle.region_model.specs.Layout.{data_start, tmr_bytes}
use Rattle.tcmu_types.specs.ByteFields.{field}
use Rattle.region_model.specs.EntryReading.{entry_read, limit_of}
use Rattle.region_model.specs.Areas.{IsHome}
use Rattle.region_model.specs.Iovecs.{total_of}
use Rattle.region_model.specs.Picture.{place_of, command_iovs, payload_of}
use Rattle.region_model.specs.Regions.{RegionState, size_of, can_lend, named_by, are_whole, can_take, numbers_of, taken, without}
use Rattle.region_model.specs.Sides.{Moved, Copied, InHand, JobState, TargetState, UserState}
use Rattle.region_model.specs.Represents.{HaveData, BlocksOf, entry_at, entry_id_at, ids_in}
use Rattle.region_model.specs.UserNext.{Job, Note, Nexted, command_next, copied_data, next_within, nexted, note_next, tmr_ids_in, with_job, with_passed}
use Rattle.region_model.specs.UserSteps.{is_open_job}
use Rattle.tcmu_types.proofs.Everies.{every-back, every-weaker}
use Rattle.tcmu_model.proofs.Indexed.{item_at}
use Rattle.ring_laws.specs.Dispatched.{CanDispatch}
use Rattle.ring_laws.proofs.placed.AnswerBlocks.{found-held, found-differ}
use Rattle.ring_laws.proofs.placed.AnswerData.{iovs-numbers}
use Rattle.ring_laws.proofs.JobRead.{RequestRead, request_read, total_along}
use Rattle.ring_laws.proofs.dispatched.Lending.{iovs-whole, can_take-home}
use Rattle.ring_laws.proofs.attached.MailboxThere.{mailbox_of}
use Rattle.ring_laws.proofs.PassedItems.{CanPass, Comes, Within, comes_to, item_there, item_within, passed_one, passed_to, ring_is}
use Rattle.ring_laws.proofs.dispatched.Sending.{Sends, sends, first-split}
use Rattle.ring_laws.proofs.Matched.{unmatched}
use Rattle.tcmu_types.proofs.Rises.{among_every, every-among}
use Rattle.region_model.proofs.EntriesThere.{note_there, NoteRead, note_ids, length-ids_in}

pub can_pass : (r : RegionState) (t : TargetState) (user : UserState) (hand : List InHand) (d : DeviceState) (lists : List Taken) → CanDispatch r t user hand d lists → CanPass r t.items user d lists
can_pass r t user hand d lists h = record { sound = h.sound; attached = h.attached; ring = h.ring; side = h.side }

-- ==== the blocks of the command that is sent

-- they are at home, and have its payload
pub record Blocks (r : RegionState) (d : DeviceState) (lists : List Taken) (s : ℕ) (c : CommandData) (u : Unfinished) : Type 0 where
  pub home : HaveData (block_size d.settings.pages) r.blocks (list_of lists s) (payload_of u)
  pub differ : Differ (list_of lists s)
  pub count : length (list_of lists s) ≡ blocks_of d.settings.pages c
  pub inside : Every (λ b. (b < d.settings.blocks) × (b < length r.blocks)) (list_of lists s)
  pub held : (b : ℕ) → is_among (list_of lists s) b ≡ true → is_among (held_by lists d.unfinished) b ≡ true

pub blocks_sent : (r : RegionState) (t : TargetState) (user : UserState) (hand : List InHand) (d : DeviceState) (lists : List Taken) (n s : ℕ) (c : CommandData) →
    CanDispatch r t user hand d lists → next_item d ≡ Some (record { len = n; laid = ring.Cmd s c }) → (k : Sends d s c) → Blocks r d lists s c k.command
blocks_sent r t user hand d lists n s c h g k =
    let u : Unfinished = k.command in
    let size : ℕ = block_size d.settings.pages in
    let bs : List ℕ = list_of lists s in
    let q : u.serial ≡ s = k.serial in
    let found : first_of (has_serial s) d.unfinished ≡ Some u = ap (first_of (has_serial s)) k.is ∙ first-split (has_serial s) k.front k.back u k.before (eq-eqb u.serial s q) in
    let all : Every (BlocksOf size r.blocks lists) (k.front ++ u ∷ k.back) = subst (Every (BlocksOf size r.blocks lists)) k.is h.blocks.all in
    let out : is_in_hand u ≡ false = (let st : u.state ≡ Waiting = k.state in rw st refl) in
    let mine : HaveData size r.blocks (list_of lists u.serial) (payload_of u) = unmatched (is_in_hand u) _ _ out (every-back (BlocksOf size r.blocks lists) k.front (u ∷ k.back) all).0 in
    let dat : HaveData size r.blocks bs (payload_of u) = subst (λ z. HaveData size r.blocks (list_of lists z) (payload_of u)) q mine in
    let held : (b : ℕ) → is_among bs b ≡ true → is_among (held_by lists d.unfinished) b ≡ true = λ b m. found-held lists (has_serial s) d.unfinished u b found (ap (λ z. is_among (list_of lists z) b) q ∙ m) in
    record {
      home = dat;
      differ = subst (λ z. Differ (list_of lists z)) q (found-differ lists (has_serial s) d.unfinished u h.owned.differ found);
      count = h.owned.spans (next_place d.ring) n s c (let c1 : d.ring.cleared ≤ d.ring.published = h.sound.ring.cleared in let c2 : d.ring.published ≤ d.ring.dispatched = h.sound.ring.published in omega arith) g;
      inside = both_in (λ b. b < d.settings.blocks) bs (every-weaker (λ b. is_among bs b ≡ true) (λ b. b < d.settings.blocks) bs (λ b m. among_every (λ y. y < d.settings.blocks) (held_by lists d.unfinished) b h.owned.below (held b m)) (every-among bs)) size r.blocks dat.here;
      held = held;
    }
  where
    both_in : (P : ℕ → Type 0) (bs : List ℕ) → Every P bs → (size : ℕ) (area : List (Option (List ℕ))) → Every (IsHome size area) bs → Every (λ b. P b × (b < length area)) bs
    both_in P [] e size area f = tt
    both_in P (b ∷ bs) e size area f = let i = f.0 in ((e.0, slice_get_within area b (Some i.0) i.1), both_in P bs e.1 size area f.1)

-- ==== the job

-- the job of a command, with its blocks
abbrev pub sent_job : RegionState → ℕ → List Iov → List ℕ → CommandData → JobState
sent_job r id iovs bs c = record { id = id; cdb = c.cdb; iovs = iovs; carried = Moved (taken r.blocks bs); in_len = c.in_len }

abbrev pub lent_blocks : RegionState → List ℕ → RegionState
lent_blocks r bs = record r { blocks = without r.blocks bs }

-- the user side behind the command at an index
abbrev pub user_sent : UserState → DeviceState → ℕ → ℕ → UserState
user_sent user d i id =
    record (passed_to user d (suc i)) {
      jobs = user.jobs ++ record { id = id; parked = None } ∷ [];
      offsets = user.offsets ++ place_of d.ring i ∷ [];
      dispatched = user.dispatched + 1;
    }

abbrev pub job_nexted : RegionState → UserState → DeviceState → List Taken → ℕ → CommandData → Nexted
job_nexted r user d lists s c =
    let id = entry_id_at r.front (place_of d.ring (next_place d.ring)) in
    record {
      answer = Job (sent_job r id (command_iovs d.settings (list_of lists s) c) (list_of lists s) c);
      region = lent_blocks r (list_of lists s);
      user = user_sent user d (next_place d.ring) id;
    }

-- a job by whether its blocks can be lent, by their numbers, and by its data-in length
job_by : RegionState → UserState → ℕ → ℕ → List Iov → List ℕ → Bool → List ℕ → ℕ → Nexted
job_by r u len id iovs cdb b ns k =
    record {
      answer = Job (record { id = id; cdb = cdb; iovs = iovs; carried = cond b (Moved (taken r.blocks ns)) (Copied (copied_data r iovs cdb)); in_len = k });
      region = cond b (lent_blocks r ns) r;
      user = with_job u len id;
    }

-- data go in only where none go out
in_length : (c : CommandData) (iovs : List Iov) → IsCommand c → total_of iovs ≡ payload_length c → cond (takes_payload c.cdb) 0 (min (total_of iovs) 4294967295) ≡ c.in_len
in_length c iovs ok e =
    ⊎_elim
    (λ (t : takes_payload c.cdb ≡ true).
    let d0 : IsTrue (cond (takes_payload c.cdb) (eqb c.in_len 0) (eqb (length c.sent) 0)) = ok.directed in
    let d1 : IsTrue (eqb c.in_len 0) = rw t at d0 in
    ap (λ b. cond b 0 (min (total_of iovs) 4294967295)) t ∙ sym (eqb-true c.in_len 0 d1))
    (λ (t : takes_payload c.cdb ≡ false).
    let p : payload_length c ≡ c.in_len = ap (λ b. cond b (length c.sent) c.in_len) t in
    let m : c.in_len ≤ 1048576 = ok.in_len in
    let k : min (total_of iovs) 4294967295 ≡ c.in_len = omega arith in
    ap (λ b. cond b 0 (min (total_of iovs) 4294967295)) t ∙ k)
    (cases_Bool (takes_payload c.cdb))

-- a step at the entry of the next command
pub command_step : (r : RegionState) (t : TargetState) (user : UserState) (hand : List InHand) (d : DeviceState) (lists : List Taken) (n s : ℕ) (c : CommandData) (before : UserState) (left : ℕ) →
    CanDispatch r t user hand d lists → next_item d ≡ Some (record { len = n; laid = ring.Cmd s c }) →
    next_within (suc left) (mailbox_of d) before r (passed_to user d (next_place d.ring))
    ≡ command_next r (passed_to user d (next_place d.ring)) n (entry_id_at r.front (place_of d.ring (next_place d.ring))) (command_iovs d.settings (list_of lists s) c) c.cdb
command_step r t user hand d lists n s c before left h g =
    let i : ℕ = next_place d.ring in
    let x : Item = record { len = n; laid = ring.Cmd s c } in
    let c1 : d.ring.cleared ≤ d.ring.published = h.sound.ring.cleared in
    let c2 : d.ring.published ≤ d.ring.dispatched = h.sound.ring.published in
    let b = blocks_sent r t user hand d lists n s c h g (sends d n s c h.sound g) in
    let q : RequestRead r d lists i n s c = request_read r t.items t.rows d lists i n s c h.sound h.owned h.ring h.ids h.pages (omega arith) g b.inside in
    let w : Within d i x = item_within d i x h.sound (omega arith) g in
    let ne : eqb (place_of d.ring i) (head d.ring) ≡ false = ne_eqb (place_of d.ring i) (head d.ring) w.away in
    rw (ne, q.read) (ap (λ (es : List Iov). command_next r (passed_to user d i) n (entry_id_at r.front (place_of d.ring i)) es c.cdb) q.iovs)

pub job_comes : (r : RegionState) (t : TargetState) (user : UserState) (hand : List InHand) (d : DeviceState) (lists : List Taken) (n s : ℕ) (c : CommandData) →
    CanDispatch r t user hand d lists → next_item d ≡ Some (record { len = n; laid = ring.Cmd s c }) → nexted r user ≡ job_nexted r user d lists s c
unfolding job_by
job_comes r t user hand d lists n s c h g =
    let i : ℕ = next_place d.ring in
    let x : Item = record { len = n; laid = ring.Cmd s c } in
    let c1 : d.ring.cleared ≤ d.ring.published = h.sound.ring.cleared in
    let c2 : d.ring.published ≤ d.ring.dispatched = h.sound.ring.published in
    let k : Sends d s c = sends d n s c h.sound g in
    let b : Blocks r d lists s c k.command = blocks_sent r t user hand d lists n s c h g k in
    let bs : List ℕ = list_of lists s in
    let iovs : List Iov = command_iovs d.settings bs c in
    let id : ℕ = entry_id_at r.front (place_of d.ring i) in
    let came : Comes r user d i = comes_to r t.items user d lists (can_pass r t user hand d lists h) in
    let step : next_within (suc came.left) (mailbox_of d) user r (passed_to user d i) ≡ command_next r (passed_to user d i) n id iovs c.cdb =
    command_step r t user hand d lists n s c user came.left h g in
    let start : ℕ = data_start d.settings.ring in
    let size : ℕ = block_size d.settings.pages in
    let len : ℕ = payload_length c in
    let st : length r.front ≡ start = h.ring.long ∙ ap data_start h.sound.ring.size in
    let sz : size_of r ≡ size = ap block_size h.pages in
    let pg : 1 ≤ d.settings.pages = h.sound.settings.pages_low in
    let sb : size * length bs ≡ size * ((len + (size - 1)) / size) = ap (λ y. size * y) b.count in
    let some : 0 < size = omega arith in
    let low : len ≤ size * length bs = omega arith in
    let high : size * length bs < len + size = omega arith in
    let numbers : named_by r iovs ≡ bs = ap (λ y. numbers_of y (size_of r) iovs) st ∙ ap (λ y. numbers_of start y iovs) sz ∙ iovs-numbers start size bs len some low high in
    let whole : are_whole (length r.front) (size_of r) iovs ≡ true = ap (λ y. are_whole y (size_of r) iovs) st ∙ ap (λ y. are_whole start y iovs) sz ∙ iovs-whole start size bs len some low high in
    let can : can_lend r iovs ≡ true =
    and_from (are_whole (length r.front) (size_of r) iovs) (can_take r.blocks (named_by r iovs)) whole (ap (can_take r.blocks) numbers ∙ can_take-home size r.blocks bs b.differ b.home.here) in
    let command : HasLength d.settings (lengths (take i d.ring.laid)) n (ring.Cmd s c) = (item_at d i x h.sound g).kind in
    let in_len : cond (takes_payload c.cdb) 0 (min (total_of iovs) 4294967295) ≡ c.in_len = in_length c iovs command.1 (total_along start size bs len low) in
    let on : with_passed (passed_to user d i) kind.Cmd n ≡ passed_to user d (suc i) = passed_one user d i x (ring_is r t.items user d lists (can_pass r t user hand d lists h)) (omega arith) g in
    came.is ∙ step
    ∙ ap (λ z. job_by r (passed_to user d i) n id iovs c.cdb z (named_by r iovs) (cond (takes_payload c.cdb) 0 (min (total_of iovs) 4294967295))) can
    ∙ ap (λ z. job_by r (passed_to user d i) n id iovs c.cdb true z (cond (takes_payload c.cdb) 0 (min (total_of iovs) 4294967295))) numbers
    ∙ ap (λ z. job_by r (passed_to user d i) n id iovs c.cdb true bs z) in_len
    ∙ ap (λ (u : UserState). record {
      answer = Job (sent_job r id iovs bs c);
      region = lent_blocks r bs;
      user = record u { jobs = user.jobs ++ record { id = id; parked = None } ∷ []; offsets = user.offsets ++ place_of d.ring i ∷ []; dispatched = user.dispatched + 1 };
    }) on

-- ==== the note

-- the ids in the next note's entry
abbrev pub ids_at : RegionState → DeviceState → ℕ → List ℕ → List ℕ
ids_at r d n ss = ids_in (length ss) 32 (entry_at r.front (place_of d.ring (next_place d.ring)) n)

abbrev pub note_nexted : RegionState → UserState → DeviceState → ℕ → ℕ → List ℕ → Nexted
note_nexted r user d n k ss =
    record { answer = Note k (filter (λ id. list_any (is_open_job id) user.jobs) (ids_at r d n ss)); region = r; user = passed_to user d (suc (next_place d.ring)) }

-- the next note comes, with its kind where that is a byte
pub record NoteComes (r : RegionState) (user : UserState) (d : DeviceState) (n type_ : ℕ) (ss : List ℕ) : Type 0 where
  pub read : ℕ
  pub is : nexted r user ≡ note_nexted r user d n read ss
  pub byte : type_ < 256 → read ≡ type_

-- a step at the entry of the next note
pub record NoteStep (r : RegionState) (user : UserState) (d : DeviceState) (n type_ : ℕ) (ss : List ℕ) : Type 0 where
  pub read : ℕ
  pub is : (before : UserState) (left : ℕ) →
      next_within (suc left) (mailbox_of d) before r (passed_to user d (next_place d.ring)) ≡ note_next r (passed_to user d (next_place d.ring)) n read (ids_at r d n ss)
  pub byte : type_ < 256 → read ≡ type_

pub note_step : (r : RegionState) (t : TargetState) (user : UserState) (hand : List InHand) (d : DeviceState) (lists : List Taken) (n type_ : ℕ) (ss : List ℕ) →
    CanDispatch r t user hand d lists → next_item d ≡ Some (record { len = n; laid = ring.Tmr type_ ss }) → NoteStep r user d n type_ ss
note_step r t user hand d lists n type_ ss h g =
    let i : ℕ = next_place d.ring in
    let x : Item = record { len = n; laid = ring.Tmr type_ ss } in
    let c1 : d.ring.cleared ≤ d.ring.published = h.sound.ring.cleared in
    let c2 : d.ring.published ≤ d.ring.dispatched = h.sound.ring.published in
    let w : Within d i x = item_within d i x h.sound (omega arith) g in
    let at : ℕ = place_of d.ring i in
    let ne : eqb at (head d.ring) ≡ false = ne_eqb at (head d.ring) w.away in
    let ids : List ℕ = ids_at r d n ss in
    let li : length ids ≡ length ss = length-ids_in (length ss) 32 (entry_at r.front at n) in
    let size : n ≡ tmr_length (length ss) = (item_at d i x h.sound g).kind in
    let same : tmr_length (length ids) ≡ n = ap tmr_length li ∙ sym size in
    let there = item_there r.front d i x (tmr_bytes type_ ids) h.ring.long w (h.ring.stands i x (omega arith) g) in
    let fits : 128 + at + n + 8 < 2 ^ 32 = w.small in
    let limit : n ≤ limit_of (mailbox_of d) at = w.limit in
    let area : ℕ = size_of r * length r.blocks in
    let q : NoteRead r.front area (mailbox_of d) at type_ ids = note_there r.front area (mailbox_of d) at type_ ids (omega (arith, same, fits)) (subst (λ z. z ≤ limit_of (mailbox_of d) at) (sym same) limit) there.1 in
    let k : ℕ = field 1 (128 + at + 8) r.front in
    let read : entry_read r.front area (mailbox_of d) at ≡ Ok (entry.Tmr n k (length ss)) = q.read ∙ ap (λ z. Ok (entry.Tmr z k (length ids))) same ∙ ap (λ z. Ok (entry.Tmr n k z)) li in
    let whole : at + n ≤ d.ring.size = w.whole in
    let long : length r.front ≡ data_start d.ring.size = h.ring.long in
    let lt : length (take n (drop (128 + at) r.front)) ≡ n = length-take-le n (drop (128 + at) r.front) (omega (arith, length-drop (128 + at) r.front)) in
    let named : tmr_ids_in r.front (128 + at) 0 (length ss) ≡ ids = note_ids r.front (128 + at) n 0 (length ss) 32 lt (omega arith) (omega arith) in
    record { read = k; is = λ before left. rw (ne, read) (ap (note_next r (passed_to user d i) n k) named); byte = q.byte }

pub note_comes : (r : RegionState) (t : TargetState) (user : UserState) (hand : List InHand) (d : DeviceState) (lists : List Taken) (n type_ : ℕ) (ss : List ℕ) →
    CanDispatch r t user hand d lists → next_item d ≡ Some (record { len = n; laid = ring.Tmr type_ ss }) → NoteComes r user d n type_ ss
note_comes r t user hand d lists n type_ ss h g =
    let i : ℕ = next_place d.ring in
    let x : Item = record { len = n; laid = ring.Tmr type_ ss } in
    let c2 : d.ring.published ≤ d.ring.dispatched = h.sound.ring.published in
    let k : NoteStep r user d n type_ ss = note_step r t user hand d lists n type_ ss h g in
    let on : with_passed (passed_to user d i) kind.Tmr n ≡ passed_to user d (suc i) = passed_one user d i x (ring_is r t.items user d lists (can_pass r t user hand d lists h)) (omega arith) g in
    let came : Comes r user d i = comes_to r t.items user d lists (can_pass r t user hand d lists h) in
    record {
      read = k.read;
      is = came.is ∙ k.is user came.left ∙ ap (λ (u : UserState). record { answer = Note k.read (filter (λ id. list_any (is_open_job id) user.jobs) (ids_at r d n ss)); region = r; user = u }) on;
      byte = k.byte;
    }
