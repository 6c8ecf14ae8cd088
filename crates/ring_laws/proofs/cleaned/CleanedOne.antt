-- One item is cleaned: what the target reads of its answer, and what it keeps behind it.
use Rattle.std.proofs.Common.{◌≡◌, ℕ, ◌+◌, ◌-◌, ◌%◌, ◌^◌, ◌≤◌, ◌<◌, ◌⊎◌, ◌&&◌, inl, inr, Bool, true, false, not, cond, List, [], ◌∷◌, ◌++◌, length, take, drop, map, refl, sym, ap, ◌∙◌, arith, suc, zero, Option, Some, None, slice_get, length-drop, subst, ⊎_elim, eqb}
use Rattle.std.specs.Prelude.{IfSome, unwrap_or}
use Rattle.std.specs.Option.{option_map}
use Rattle.std.proofs.lemmas.Bool.{cases_Bool, eqb-true, false≢true, or_parts}
use Rattle.std.proofs.lemmas.List.{take-take, take-append-drop, length-take-le}
use Rattle.std.proofs.lemmas.List.Sums.{sum_by_push}
use Rattle.tcmu_types.specs.Data.{CommandData, ReplyData, DoneData, SettingsData}
use Rattle.tcmu_types.specs.Rules.{IsCommand, takes_payload, payload_length}
use Rattle.region_model.specs.declared.entry.Response.{Response}
use Rattle.tcmu_model.specs.declared.state.CommandState.TheVariants.{Placed}
use Rattle.tcmu_model.specs.States.{same_state}
use Rattle.tcmu_types.specs.Lists.{first_of, without_first, Every}
use Rattle.tcmu_model.specs.Lengths.{blocks_of, block_size, round_up}
use Rattle.tcmu_model.specs.RingState.{RingState, Item, Laid, lengths, commands_in, is_command}
use Rattle.tcmu_model.specs.RingState as ring
use Rattle.tcmu_model.specs.Device.{Unfinished, DeviceState, has_serial, is_at}
use Rattle.tcmu_model.specs.Events.{is_in_hand, completions}
use Rattle.tcmu_types.specs.Numbers.{is_among, Differ}
use Rattle.tcmu_model.specs.Sound.{IsSound, ReplyFits}
use Rattle.tcmu_model.specs.BlockLists.{Taken, list_of}
use Rattle.region_model.specs.Layout.{ring_start, data_start, cdb_place}
use Rattle.tcmu_types.specs.ByteFields.{field}
use Rattle.region_model.specs.EntryReading.{response_at}
use Rattle.region_model.specs.Regions.{RegionState, size_of}
use Rattle.region_model.specs.Pending.{PendingData}
use Rattle.tcmu_types.proofs.ByteFields.{field-front}
use Rattle.tcmu_types.proofs.Everies.{every-first, every-without_first}
use Rattle.tcmu_types.proofs.Rises.{among-append}
use Rattle.region_model.specs.Picture.{place_of, payload_of, command_iovs, request_of, told_length, answered_entry, with_answer, with_reply, entry_of, item_bytes, ids_named, kind_of}
use Rattle.region_model.specs.Sides.{PendingRow, Recorded, TargetState}
use Rattle.region_model.specs.Represents.{RingStands, IdsStand, BlocksOf, BlocksStand, HaveData, IsId, recorded, entry_at, id_in, ids_in, entry_id_at, id_of, row_has, has_id, serial_with, pending_of}
use Rattle.region_model.specs.TargetCleans.{one_cleaned, answered_by, response_in, completions_read, past}
use Rattle.ring_laws.specs.Cleaned.{response_of}
use Rattle.tcmu_model.specs.Owned.{ListsSound}
use Rattle.ring_laws.proofs.SoundRing.{holds}
use Rattle.ring_laws.proofs.laid.LaidIds.{command_long}
use Rattle.ring_laws.proofs.Layouts.{add-mod}
use Rattle.ring_laws.proofs.placed.AnswerBlocks.{can_fill}
use Rattle.ring_laws.proofs.cleaned.Completing.{response_of_entry, response_read, completed-log}
use Rattle.ring_laws.proofs.TakenOut.{first-without, TakenOut, taken-out, differ-left, serial-left}
use Rattle.ring_laws.proofs.placed.AnswerBytes.{command-of}
use Rattle.region_model.proofs.PartLengths.{length-iovs, length-request}

-- ==== small facts

pub take-next : {X : Type 0} (xs : List X) (i : ℕ) (x : X) → slice_get xs i ≡ Some x → take (suc i) xs ≡ take i xs ++ x ∷ []
take-next [] i x h = absurd (cc)
take-next (y ∷ ys) zero x h = let e : y ≡ x = cc in ap (λ z. z ∷ []) e
take-next (y ∷ ys) (suc i) x h = ap (λ zs. y ∷ zs) (take-next ys i x h)

some_row : (o : Option PendingRow) (i : ℕ) → option_map (λ (e : PendingRow). e.id) o ≡ Some i → (e : PendingRow) × (o ≡ Some e) × (e.id ≡ i)
some_row None i h = absurd (cc)
some_row (Some e) i h = (e, refl, cc)

pub commands-next : (xs : List Item) (j : ℕ) (x : Item) → slice_get xs j ≡ Some x → commands_in (take (suc j) xs) ≡ commands_in (take j xs) + cond (is_command x) 1 0
commands-next xs j x g = ap commands_in (take-next xs j x g) ∙ sum_by_push (λ (y : Item). cond {A = ℕ} (is_command y) 1 0) (take j xs) x

pub next-place : (r : RingState) (j : ℕ) (x : Item) → slice_get r.laid j ≡ Some x → (place_of r j + x.len) % r.size ≡ place_of r (suc j)
next-place r j x g =
    add-mod (lengths (take j r.laid)) x.len r.size ∙ ap (λ z. z % r.size) (sym (ap lengths (take-next r.laid j x g) ∙ sum_by_push (λ (y : Item). y.len) (take j r.laid) x))

-- the placed command of a serial is the one of that serial
pub placed-first : (s : ℕ) (us : List Unfinished) (u : Unfinished) → first_of (has_serial s) us ≡ Some u → u.state ≡ Placed → first_of (is_at s Placed) us ≡ Some u
placed-first s [] u f st = absurd (cc)
placed-first s (v ∷ us) u f st =
    ⊎_elim
    (λ (k : has_serial s v ≡ true).
    let g : Some v ≡ Some u = rw k at f in
    let q : v ≡ u = cc in
    let sv : v.state ≡ Placed = ap (λ (z : Unfinished). z.state) q ∙ st in
    let at : is_at s Placed v ≡ true = rw (k, sv) refl in
    rw at g)
    (λ (k : has_serial s v ≡ false).
    let g : first_of (has_serial s) us ≡ Some u = rw k at f in
    let at : is_at s Placed v ≡ false = ap (λ z. z && same_state v.state Placed) k in
    rw at (placed-first s us u g st))
    (cases_Bool (has_serial s v))

pub found-serial_is : (s : ℕ) (us : List Unfinished) (u : Unfinished) → first_of (has_serial s) us ≡ Some u → u.serial ≡ s
found-serial_is s [] u f = absurd (cc)
found-serial_is s (v ∷ us) u f =
    ⊎_elim
    (λ (k : has_serial s v ≡ true). let g : Some v ≡ Some u = rw k at f in let q : v ≡ u = cc in ap (λ (z : Unfinished). z.serial) (sym q) ∙ eqb-true v.serial s k)
    (λ (k : has_serial s v ≡ false). let g : first_of (has_serial s) us ≡ Some u = rw k at f in found-serial_is s us u g)
    (cases_Bool (has_serial s v))

-- ==== the state while items are cleaned

-- the region and the device as the clean begins
pub record CleanWith (r : RegionState) (rows : List PendingRow) (d : DeviceState) (lists : List Taken) : Type 0 where
  pub sound : IsSound d
  pub owned : ListsSound d lists
  pub ring : RingStands r.front (map recorded (drop d.ring.cleared d.ring.laid)) d lists
  pub ids : IdsStand r.front rows d
  pub blocks : BlocksStand r.blocks d lists
  pub pages : r.pages ≡ d.settings.pages

-- the answers of the commands among the first j items
abbrev pub answers_to : DeviceState → ℕ → List ℕ
answers_to d j = take (commands_in (take j d.ring.laid)) d.placed

pub record CleanAt (rows0 : List PendingRow) (d : DeviceState) (lists : List Taken) (j : ℕ) (us : List Unfinished) (log : List DoneData) (k : TargetState) : Type 0 where
  pub settings : k.settings ≡ d.settings
  pub now : k.now ≡ d.now
  pub blocked : k.blocked ≡ d.blocked
  pub accepted : k.accepted ≡ d.accepted
  pub delayed : k.delayed ≡ d.delayed
  pub laid : k.laid ≡ commands_in d.ring.laid
  pub items : k.items ≡ map recorded (drop j d.ring.laid)
  pub cleaned : k.cleaned ≡ place_of d.ring j
  pub cleared : k.cleared ≡ commands_in (take j d.ring.laid)
  pub broken : k.broken ≡ None
  pub logged : k.log ≡ log
  pub pending : map (λ (e : PendingRow). e.pending) k.rows ≡ map (pending_of lists) us
  pub range : Every (λ (e : PendingRow). IsId e.id) k.rows
  pub ids : Differ (map (λ (e : PendingRow). e.id) k.rows)
  pub kept : (q : ℕ) → is_among (answers_to d j) q ≡ false → id_of k.rows q ≡ id_of rows0 q
  pub notes : (id : ℕ) → (serial_with k.rows id ≡ None) ⊎ (serial_with k.rows id ≡ serial_with rows0 id)
  pub differ : Differ (map (λ (v : Unfinished). v.serial) us)
  pub found : (q : ℕ) → is_among (answers_to d j) q ≡ false → first_of (has_serial q) us ≡ first_of (has_serial q) d.unfinished

-- ==== the answer that stands in an entry

told_small : (rl : Bool) (c : CommandData) (reply : ReplyData) → length reply.payload < 2 ^ 32 → unwrap_or (told_length rl c.cdb reply) 0 < 2 ^ 32
told_small rl c reply h = choose (rl && eqb reply.status 0 && not (takes_payload c.cdb))
  where
    choose : (b : Bool) → unwrap_or (cond b (Some (length reply.payload)) None) 0 < 2 ^ 32
    choose true = h
    choose false = omega arith

-- the reply of a command, with what its device keeps of it
record Replied (d : DeviceState) (u : Unfinished) (reply : ReplyData) : Type 0 where
  command : IsCommand u.command
  fits : ReplyFits u.command reply
  status : reply.status < 256

replied : (r : RegionState) (rows : List PendingRow) (d : DeviceState) (lists : List Taken) (s : ℕ) (u : Unfinished) (reply : ReplyData) →
    CleanWith r rows d lists → first_of (has_serial s) d.unfinished ≡ Some u → u.reply ≡ Some reply → Replied d u reply
replied r rows d lists s u reply w f rep =
    let a : IfSome u.reply (ReplyFits u.command) = every-first (has_serial s) (λ (v : Unfinished). IfSome v.reply (ReplyFits v.command)) d.unfinished u w.sound.answers.replies f in
    let fit : ReplyFits u.command reply = subst (λ (o : Option ReplyData). IfSome o (ReplyFits u.command)) rep a in
    record {
      command = every-first (has_serial s) (λ (v : Unfinished). IsCommand v.command) d.unfinished u (can_fill d lists w.sound w.owned).commands f;
      fits = fit;
      status = fit.rules.byte;
    }

response_there : (r : RegionState) (rows : List PendingRow) (d : DeviceState) (lists : List Taken) (j s : ℕ) (x : Item) (u : Unfinished) (reply : ReplyData) →
    CleanWith r rows d lists → d.ring.cleared ≤ j → slice_get d.ring.laid j ≡ Some x → is_command x ≡ true → slice_get d.placed (commands_in (take j d.ring.laid)) ≡ Some s →
    first_of (has_serial s) d.unfinished ≡ Some u → u.reply ≡ Some reply →
    response_at r.front (ring_start + place_of d.ring j) ≡ response_of (entry_id_at r.front (place_of d.ring j)) reply (told_length d.settings.flags.read_len u.command.cdb reply)
response_there r rows d lists j s x u reply w cl g c p f rep =
    let at : ℕ = place_of d.ring j in
    let rl : Bool = d.settings.flags.read_len in
    let told : Option ℕ = told_length rl u.command.cdb reply in
    let k = command-of x.len x.laid c in
    let x0 : Item = record { len = x.len; laid = ring.Cmd k.0 k.1 } in
    let xx : x ≡ x0 = ap (λ (l : Laid). record { len = x.len; laid = l }) k.2 in
    let lx : 112 ≤ x.len = command_long d j x w.sound g c in
    let whole : at + x.len ≤ d.ring.size = (holds d w.sound).whole j x g in
    let lf : length r.front ≡ data_start d.ring.size = w.ring.long in
    let e : List ℕ = entry_at r.front at x.len in
    let back : length (drop (ring_start + at) r.front) ≡ length r.front - (ring_start + at) = length-drop (ring_start + at) r.front in
    let le_ : length e ≡ x.len = length-take-le x.len (drop (ring_start + at) r.front) (omega arith) in
    let e112 : take 112 e ≡ entry_at r.front at 112 = take-take 112 x.len (drop (ring_start + at) r.front) lx in
    let l112 : length (take 112 e) ≡ 112 = length-take-le 112 e (omega arith) in
    let id0 : id_in e ≡ entry_id_at r.front at = ap (field 2 4) (sym (take-append-drop 112 e)) ∙ field-front 2 4 (take 112 e) (drop 112 e) (omega arith) ∙ ap id_in e112 in
    let req : List ℕ = request_of d.settings (list_of lists k.0) at (id_in e) k.1 in
    let st : e ≡ answered_entry req (id_in e) reply told =
    w.ring.stands j x cl g ∙ ap (λ z. item_bytes d lists j (id_in e) (ids_in (ids_named x) 32 e) z) xx ∙ ap (λ o. entry_of d (id_in e) req o) p
    ∙ ap (λ o. with_answer rl (id_in e) req o) f ∙ ap (λ o. with_reply rl (id_in e) req u.command.cdb o) rep in
    let sp : length (list_of lists k.0) ≡ blocks_of d.settings.pages k.1 = w.owned.spans j x.len k.0 k.1 cl (g ∙ ap Some xx) in
    let il : length (command_iovs d.settings (list_of lists k.0) k.1) ≤ length (list_of lists k.0) = length-iovs (data_start d.settings.ring) (block_size d.settings.pages) (list_of lists k.0) (payload_length k.1) in
    let lr : length req ≡ cdb_place (blocks_of d.settings.pages k.1) + round_up (length k.1.cdb) = length-request at (id_in e) (blocks_of d.settings.pages k.1) (command_iovs d.settings (list_of lists k.0) k.1) k.1.cdb (omega arith) in
    let long : 112 ≤ length req = omega arith in
    let he = some_row (first_of (row_has s) rows) (entry_id_at r.front at) (w.ids.answered j x s cl g c p) in
    let is_id : IsId he.0.id = every-first (row_has s) (λ (y : PendingRow). IsId y.id) rows he.0 w.ids.range he.1 in
    let small : id_in e < 2 ^ 16 = (let h : he.0.id ≤ 65535 = is_id.high in let q : he.0.id ≡ entry_id_at r.front at = he.2 in omega arith) in
    let rp : Replied d u reply = replied r rows d lists s u reply w f rep in
    let tb : unwrap_or told 0 < 2 ^ 32 = told_small rl u.command reply (let a : length reply.payload ≤ u.command.in_len = rp.fits.payload in let b : u.command.in_len ≤ 1048576 = rp.command.in_len in omega arith) in
    response_of_entry r.front at x.len lx (omega arith) ∙ ap (λ z. response_at z 0) st ∙ response_read req (id_in e) reply told long small rp.status tb ∙ ap (λ z. response_of z reply told) id0

data_there : (r : RegionState) (rows : List PendingRow) (d : DeviceState) (lists : List Taken) (s : ℕ) (u : Unfinished) → CleanWith r rows d lists → first_of (has_serial s) d.unfinished ≡ Some u → u.state ≡ Placed →
    HaveData (size_of r) r.blocks (list_of lists u.serial) (payload_of u)
data_there r rows d lists s u w f st =
    let size : ℕ = block_size d.settings.pages in
    let n : is_in_hand u ≡ false = rw st refl in
    let b : BlocksOf size r.blocks lists u = every-first (has_serial s) (BlocksOf size r.blocks lists) d.unfinished u w.blocks.all f in
    let h : HaveData size r.blocks (list_of lists u.serial) (payload_of u) = rw n at b in
    subst (λ (p : ℕ). HaveData (block_size p) r.blocks (list_of lists u.serial) (payload_of u)) (sym w.pages) h

-- ==== one item

pub clean-one : (r : RegionState) (rows0 : List PendingRow) (d : DeviceState) (lists : List Taken) (j : ℕ) (us : List Unfinished) (log : List DoneData) (k : TargetState) (x : Item) (s : ℕ) (u : Unfinished) (reply : ReplyData) →
    CleanWith r rows0 d lists → CleanAt rows0 d lists j us log k → d.ring.cleared ≤ j → slice_get d.ring.laid j ≡ Some x → is_command x ≡ true →
    slice_get d.placed (commands_in (take j d.ring.laid)) ≡ Some s → is_among (answers_to d j) s ≡ false → first_of (has_serial s) d.unfinished ≡ Some u → u.state ≡ Placed → u.reply ≡ Some reply →
    CleanAt rows0 d lists (suc j) (without_first (is_at s Placed) us) (log ++ completions d.settings.flags.read_len u)
    (one_cleaned r k (recorded x) (map recorded (drop (suc j) d.ring.laid)) (kind_of x.laid))
clean-one r rows0 d lists j us log k x s u reply w at cl g c p new f0 st rep =
    let rl : Bool = d.settings.flags.read_len in
    let place : ℕ = place_of d.ring j in
    let id : ℕ = entry_id_at r.front place in
    let m : ℕ = commands_in (take j d.ring.laid) in
    let xs : List Recorded = map recorded (drop (suc j) d.ring.laid) in
    let fs : first_of (has_serial s) us ≡ Some u = at.found s new ∙ f0 in
    let f : first_of (is_at s Placed) us ≡ Some u = placed-first s us u fs st in
    let ser : u.serial ≡ s = found-serial_is s us u fs in
    let told : Option ℕ = told_length rl u.command.cdb reply in
    let a0 : Response = response_of id reply told in
    let a : response_in r k ≡ a0 = ap (λ z. response_at r.front (ring_start + z)) at.cleaned ∙ response_there r rows0 d lists j s x u reply w cl g c p f0 rep in
    let id_is : id_of k.rows s ≡ Some id = at.kept s new ∙ w.ids.answered j x s cl g c p in
    let he = some_row (first_of (row_has s) k.rows) id id_is in
    let e : PendingRow = he.0 in
    let out : TakenOut lists k.rows us s id e u = taken-out lists k.rows us s id e u at.pending at.ids at.differ he.1 he.2 f in
    let es : e.pending.serial ≡ s = ap (λ (y : PendingData). y.serial) out.pending ∙ ser in
    let rp : Replied d u reply = replied r rows0 d lists s u reply w f0 rep in
    let lg : completions_read (size_of r) r.blocks e.pending a0 ≡ completions rl u =
    ap (λ (y : PendingData). completions_read (size_of r) r.blocks y a0) out.pending ∙ completed-log (size_of r) r.blocks lists u reply rl id st rep rp.command rp.fits (data_there r rows0 d lists s u w f0 st) in
    let k' : TargetState = record (past k (recorded x) xs) {
      rows = without_first (has_id id) k.rows;
      cleared = k.cleared + 1;
      log = k.log ++ completions_read (size_of r) r.blocks e.pending a0;
    } in
    let kx = command-of x.len x.laid c in
    let step : one_cleaned r k (recorded x) xs (kind_of x.laid) ≡ k' =
    ap (λ (l : Laid). one_cleaned r k (recorded x) xs (kind_of l)) kx.2
    ∙ ap (λ (z : Response). answered_by r z k (recorded x) xs (first_of (has_id z.id) k.rows)) a
    ∙ ap (answered_by r a0 k (recorded x) xs) out.found in
    let nx : answers_to d (suc j) ≡ answers_to d j ++ s ∷ [] =
    ap (λ n. take n d.placed) (commands-next d.ring.laid j x g ∙ ap (λ b. m + cond b 1 0) c ∙ (let z : m + 1 ≡ suc m = omega arith in z)) ∙ take-next d.placed m s p in
    let parts : (q : ℕ) → is_among (answers_to d (suc j)) q ≡ false → (is_among (answers_to d j) q ≡ false) × (eqb s q ≡ false) = λ q h.
    let t = or_parts (is_among (answers_to d j) q) (is_among (s ∷ []) q) (sym (ap (λ ys. is_among ys q) nx ∙ among-append (answers_to d j) (s ∷ []) q) ∙ h) in
    (t.0, (or_parts (eqb s q) false t.1).0) in
    subst (λ (z : TargetState). CleanAt rows0 d lists (suc j) (without_first (is_at s Placed) us) (log ++ completions rl u) z) (sym step)
    (record {
      settings = at.settings;
      now = at.now;
      blocked = at.blocked;
      accepted = at.accepted;
      delayed = at.delayed;
      laid = at.laid;
      items = refl;
      cleaned = ap (λ z. (z + x.len) % k.settings.ring) at.cleaned ∙ ap (λ (z : ℕ). (place + x.len) % z) (ap (λ (y : SettingsData). y.ring) at.settings ∙ sym w.sound.ring.size) ∙ next-place d.ring j x g;
      cleared = ap (λ z. z + 1) at.cleared ∙ sym (commands-next d.ring.laid j x g ∙ ap (λ b. m + cond b 1 0) c);
      broken = at.broken;
      logged = ap (λ z. z ++ completions_read (size_of r) r.blocks e.pending a0) at.logged ∙ ap (λ z. log ++ z) lg;
      pending = out.rest;
      range = every-without_first (has_id id) (λ (y : PendingRow). IsId y.id) k.rows at.range;
      ids = differ-left (λ (y : PendingRow). y.id) (has_id id) k.rows at.ids;
      kept = λ q h.
          let t = parts q h in
          let no : row_has q e ≡ false = ap (λ z. eqb z q) es ∙ t.1 in
          ap (option_map (λ (y : PendingRow). y.id)) (first-without (has_id id) (row_has q) k.rows e out.found no) ∙ at.kept q t.0;
      notes = λ i.
          ⊎_elim
          (λ z. inl z)
          (λ z. ⊎_elim (λ y. inl (z ∙ y)) (λ y. inr (z ∙ y)) (at.notes i))
          (serial-left id i k.rows e at.ids out.found he.2);
      differ = differ-left (λ (v : Unfinished). v.serial) (is_at s Placed) us at.differ;
      found = λ q h.
          let t = parts q h in
          let no : has_serial q u ≡ false = ap (λ z. eqb z q) ser ∙ t.1 in
          first-without (is_at s Placed) (has_serial q) us u f no ∙ at.found q t.0;
    })

-- a pad or a note is passed
pub clean-pass : (r : RegionState) (rows0 : List PendingRow) (d : DeviceState) (lists : List Taken) (j : ℕ) (us : List Unfinished) (log : List DoneData) (k : TargetState) (x : Item) →
    CleanWith r rows0 d lists → CleanAt rows0 d lists j us log k → slice_get d.ring.laid j ≡ Some x → is_command x ≡ false →
    CleanAt rows0 d lists (suc j) us log (one_cleaned r k (recorded x) (map recorded (drop (suc j) d.ring.laid)) (kind_of x.laid))
clean-pass r rows0 d lists j us log k x w at g c =
    let m : ℕ = commands_in (take j d.ring.laid) in
    let xs : List Recorded = map recorded (drop (suc j) d.ring.laid) in
    let step : one_cleaned r k (recorded x) xs (kind_of x.laid) ≡ past k (recorded x) xs = passing x.len x.laid c in
    let cn : commands_in (take (suc j) d.ring.laid) ≡ m = commands-next d.ring.laid j x g ∙ ap (λ b. m + cond b 1 0) c ∙ (let z : m + 0 ≡ m = omega arith in z) in
    let same : answers_to d (suc j) ≡ answers_to d j = ap (λ n. take n d.placed) cn in
    subst (λ (z : TargetState). CleanAt rows0 d lists (suc j) us log z) (sym step)
    (record {
      settings = at.settings;
      now = at.now;
      blocked = at.blocked;
      accepted = at.accepted;
      delayed = at.delayed;
      laid = at.laid;
      items = refl;
      cleaned = ap (λ z. (z + x.len) % k.settings.ring) at.cleaned ∙ ap (λ (z : ℕ). (place_of d.ring j + x.len) % z) (ap (λ (y : SettingsData). y.ring) at.settings ∙ sym w.sound.ring.size) ∙ next-place d.ring j x g;
      cleared = at.cleared ∙ sym cn;
      broken = at.broken;
      logged = at.logged;
      pending = at.pending;
      range = at.range;
      ids = at.ids;
      kept = λ q h. at.kept q (ap (λ ys. is_among ys q) (sym same) ∙ h);
      notes = at.notes;
      differ = at.differ;
      found = λ q h. at.found q (ap (λ ys. is_among ys q) (sym same) ∙ h);
    })
  where
    passing : (n : ℕ) (l : Laid) → is_command (record { len = n; laid = l }) ≡ false →
        one_cleaned r k (recorded (record { len = n; laid = l })) (map recorded (drop (suc j) d.ring.laid)) (kind_of l) ≡ past k (recorded (record { len = n; laid = l })) (map recorded (drop (suc j) d.ring.laid))
    passing n ring.Pad h = refl
    passing n (ring.Cmd q e) h = absurd (false≢true (sym h))
    passing n (ring.Tmr q e) h = refl
