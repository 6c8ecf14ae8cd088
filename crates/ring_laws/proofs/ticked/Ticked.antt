-- A tick, a block and an unblock: the region stays as it is, and the target's records follow the device.
use Rattle.std.proofs.Common.{◌≡◌, ℕ, Bool, true, false, not, cond, List, [], ◌∷◌, ◌++◌, length, take, drop, map, filter, refl, sym, ap, ◌∙◌, Option, Some, None, slice_get, subst, ⊎_elim, eqb}
use Rattle.std.proofs.lemmas.Bool.{cases_Bool}
use Rattle.tcmu_types.specs.Data.{SettingsData, DoneData}
use Rattle.tcmu_types.specs.Lists.{first_of}
use Rattle.tcmu_model.specs.Lengths.{block_size}
use Rattle.tcmu_model.specs.RingState.{Item, Laid, commands_in, serials_in}
use Rattle.tcmu_model.specs.RingState as ring
use Rattle.tcmu_model.specs.Device.{Unfinished, Delayed, DeviceState, has_serial, has_state}
use Rattle.tcmu_model.specs.declared.state.CommandState.TheVariants.{Parked}
use Rattle.tcmu_model.specs.Events.{is_in_hand, is_due, expire, later, has_left, departure, expiry, tick_completions, tick_answer, after_tick, after_block}
use Rattle.tcmu_types.specs.Numbers.{is_among, Differ}
use Rattle.tcmu_model.specs.BlockLists.{Taken, list_of, held_by}
use Rattle.region_model.specs.Pending.{PendingData}
use Rattle.tcmu_types.proofs.Everies.{every-map}
use Rattle.region_model.specs.Picture.{place_of, item_bytes, entry_of, with_answer, request_of, ids_named}
use Rattle.region_model.specs.Regions.{RegionState}
use Rattle.region_model.specs.Sides.{Recorded, PendingRow, GivenJob, JobState, InHand, TargetState, UserState}
use Rattle.region_model.specs.Represents.{RingStands, IdsStand, NotesStand, BlocksOf, BlocksStand, JobsStand, AreGiven, AreOut, IsGiven, IsOut, is_out, IsJobOf, IsId, id_of, row_has, has_id, serial_with, TargetKeeps, UserKeeps, entry_at, id_in, ids_in, pending_of}
use Rattle.region_model.specs.TargetSteps.{is_due_at, expired_at, checked, ticked_log, target_tick_answer, target_ticked, target_blocked}
use Rattle.ring_laws.proofs.notes.NoteIds.{note_id_same, note_stands_by}
use Rattle.ring_laws.proofs.Matched.{match_left}

-- ==== the ring, whatever changes of the commands but their answers

-- the answers that are placed are the same with other commands
abbrev pub SameAnswers : DeviceState → List Unfinished → Type 0
SameAnswers d us = (k q : ℕ) → slice_get d.placed k ≡ Some q → (read_len : Bool) (id : ℕ) (request : List ℕ) → with_answer read_len id request (first_of (has_serial q) us) ≡ with_answer read_len id request (first_of (has_serial q) d.unfinished)

entry_by : (d : DeviceState) (us : List Unfinished) (now : ℕ) (blocked attached : Bool) (ds : List Delayed) (log : List DoneData) (id : ℕ) (request : List ℕ) (k : ℕ) (o : Option ℕ) → slice_get d.placed k ≡ o → SameAnswers d us →
    entry_of (record d { now = now; blocked = blocked; attached = attached; unfinished = us; delayed = ds; log = log }) id request o ≡ entry_of d id request o
entry_by d us now blocked attached ds log id request k None g h = refl
entry_by d us now blocked attached ds log id request k (Some q) g h = h k q g d.settings.flags.read_len id request

item_by : (d : DeviceState) (now : ℕ) (blocked attached : Bool) (us : List Unfinished) (ds : List Delayed) (log : List DoneData) (lists : List Taken) (i n : ℕ) (l : Laid) (id : ℕ) (ids : List ℕ) → SameAnswers d us →
    item_bytes (record d { now = now; blocked = blocked; attached = attached; unfinished = us; delayed = ds; log = log }) lists i id ids (record { len = n; laid = l }) ≡ item_bytes d lists i id ids (record { len = n; laid = l })
item_by d now blocked attached us ds log lists i n ring.Pad id ids h = refl
item_by d now blocked attached us ds log lists i n (ring.Tmr k ss) id ids h = refl
item_by d now blocked attached us ds log lists i n (ring.Cmd s c) id ids h =
    let k : ℕ = commands_in (take i d.ring.laid) in
    entry_by d us now blocked attached ds log id (request_of d.settings (list_of lists s) (place_of d.ring i) id c) k (slice_get d.placed k) refl h

pub ring_by : (front : List ℕ) (items : List Recorded) (d : DeviceState) (now : ℕ) (blocked attached : Bool) (us : List Unfinished) (ds : List Delayed) (log : List DoneData) (lists : List Taken) → SameAnswers d us → RingStands front items d lists →
    RingStands front items (record d { now = now; blocked = blocked; attached = attached; unfinished = us; delayed = ds; log = log }) lists
ring_by front items d now blocked attached us ds log lists h st =
    record {
      long = st.long;
      mailbox = st.mailbox;
      stands = λ i x c g.
          let e = entry_at front (place_of d.ring i) x.len in
          st.stands i x c g ∙ sym (item_by d now blocked attached us ds log lists i x.len x.laid (id_in e) (ids_in (ids_named x) 32 e) h);
      recorded = st.recorded;
    }

pub ids_by : (front : List ℕ) (rows : List PendingRow) (d : DeviceState) (now : ℕ) (blocked attached : Bool) (us : List Unfinished) (ds : List Delayed) (log : List DoneData) → IdsStand front rows d →
    IdsStand front rows (record d { now = now; blocked = blocked; attached = attached; unfinished = us; delayed = ds; log = log })
ids_by front rows d now blocked attached us ds log h = record { range = h.range; differ = h.differ; answered = h.answered; own = h.own }

-- ==== block, unblock

pub ring_blocked : (front : List ℕ) (items : List Recorded) (d : DeviceState) (lists : List Taken) (b : Bool) → RingStands front items d lists → RingStands front items (after_block d b) lists
unfolding after_block
ring_blocked front items d lists b h = ring_by front items d d.now b d.attached d.unfinished d.delayed d.log lists (λ k q g rl id r. refl) h

pub ids_blocked : (front : List ℕ) (rows : List PendingRow) (d : DeviceState) (b : Bool) → IdsStand front rows d → IdsStand front rows (after_block d b)
unfolding after_block
ids_blocked front rows d b h = ids_by front rows d d.now b d.attached d.unfinished d.delayed d.log h

pub notes_blocked : (front : List ℕ) (rows : List PendingRow) (d : DeviceState) (b : Bool) → NotesStand front rows d → NotesStand front rows (after_block d b)
unfolding after_block
notes_blocked front rows d b h = h

pub blocks_blocked : (area : List (Option (List ℕ))) (d : DeviceState) (lists : List Taken) (b : Bool) → BlocksStand area d lists → BlocksStand area (after_block d b) lists
unfolding after_block
blocks_blocked area d lists b h = record { all = h.all; just = h.just }

pub jobs_blocked : (user : UserState) (hand : List InHand) (rows : List PendingRow) (d : DeviceState) (lists : List Taken) (b : Bool) → JobsStand user hand rows d lists → JobsStand user hand rows (after_block d b) lists
unfolding after_block
jobs_blocked user hand rows d lists b h = record { given = h.given; out = h.out; offsets = h.offsets }

pub target_blocked_keeps : (t : TargetState) (d : DeviceState) (lists : List Taken) (b : Bool) → TargetKeeps t d lists → TargetKeeps (target_blocked t b) (after_block d b) lists
unfolding after_block target_blocked
target_blocked_keeps t d lists b h =
    record {
      settings = h.settings;
      now = h.now;
      blocked = refl;
      accepted = h.accepted;
      rows = h.rows;
      delayed = h.delayed;
      cleaned = h.cleaned;
      laid = h.laid;
      cleared = h.cleared;
      broken = h.broken;
      log = h.log;
    }

pub side_blocked : (user : UserState) (d : DeviceState) (b : Bool) → UserKeeps user d → UserKeeps user (after_block d b)
unfolding after_block
side_blocked user d b h =
    record { ring = h.ring; pages = h.pages; flags = h.flags; tail = h.tail; dispatched = h.dispatched; placed = h.placed; published = h.published; place = h.place; items = h.items }

pub pages_blocked : (r : RegionState) (d : DeviceState) (b : Bool) → r.pages ≡ d.settings.pages → r.pages ≡ (after_block d b).settings.pages
unfolding after_block
pages_blocked r d b h = h

-- ==== tick: the commands

expired_found : (now q : ℕ) (us : List Unfinished) (rl : Bool) (id : ℕ) (request : List ℕ) → with_answer rl id request (first_of (has_serial q) (map (expire now) us)) ≡ with_answer rl id request (first_of (has_serial q) us)
expired_found now q [] rl id request = refl
expired_found now q (u ∷ us) rl id request =
    ⊎_elim
    (λ (k : is_due now u ≡ true).
    ⊎_elim
    (λ (m : has_serial q u ≡ true). rw (k, m) refl)
    (λ (m : has_serial q u ≡ false). rw (k, m) (expired_found now q us rl id request))
    (cases_Bool (has_serial q u)))
    (λ (k : is_due now u ≡ false).
    ⊎_elim
    (λ (m : has_serial q u ≡ true). rw (k, m) refl)
    (λ (m : has_serial q u ≡ false). rw (k, m) (expired_found now q us rl id request))
    (cases_Bool (has_serial q u)))
    (cases_Bool (is_due now u))

-- a fact that does not look whether a command has expired
abbrev pub IsBlind : (Unfinished → Type 0) → Type 0
IsBlind P = (u : Unfinished) (b : Bool) → P u → P (record u { expired = b })

blind : (P : Unfinished → Type 0) (now : ℕ) (u : Unfinished) → IsBlind P → P u → P (expire now u)
blind P now u h p =
    ⊎_elim
    (λ (k : is_due now u ≡ true). rw k (h u true p))
    (λ (k : is_due now u ≡ false). rw k p)
    (cases_Bool (is_due now u))

filter_expired : (p : Unfinished → Bool) (now : ℕ) (us : List Unfinished) → ((u : Unfinished) → p (expire now u) ≡ p u) → filter p (map (expire now) us) ≡ map (expire now) (filter p us)
filter_expired p now [] h = refl
filter_expired p now (u ∷ us) h =
    ⊎_elim
    (λ (k : p u ≡ true). let m : p (expire now u) ≡ true = h u ∙ k in ap (λ b. cond b (expire now u ∷ filter p (map (expire now) us)) (filter p (map (expire now) us))) m ∙ ap (λ vs. expire now u ∷ vs) (filter_expired p now us h) ∙ sym (ap (λ b. map (expire now) (cond b (u ∷ filter p us) (filter p us))) k))
    (λ (k : p u ≡ false). let m : p (expire now u) ≡ false = h u ∙ k in ap (λ b. cond b (expire now u ∷ filter p (map (expire now) us)) (filter p (map (expire now) us))) m ∙ filter_expired p now us h ∙ sym (ap (λ b. map (expire now) (cond b (u ∷ filter p us) (filter p us))) k))
    (cases_Bool (p u))

hand_expired : (now : ℕ) (u : Unfinished) → is_in_hand (expire now u) ≡ is_in_hand u
hand_expired now u = blind (λ v. is_in_hand v ≡ is_in_hand u) now u (λ v b k. k) refl

out_expired : (now : ℕ) (u : Unfinished) → is_out (expire now u) ≡ is_out u
out_expired now u = blind (λ v. is_out v ≡ is_out u) now u (λ v b k. k) refl

held_expired : (lists : List Taken) (now : ℕ) (us : List Unfinished) → held_by lists (map (expire now) us) ≡ held_by lists us
held_expired lists now [] = refl
held_expired lists now (u ∷ us) =
    let e : (expire now u).serial ≡ u.serial = blind (λ v. v.serial ≡ u.serial) now u (λ v b k. k) refl in
    ap (λ s. list_of lists s ++ held_by lists (map (expire now) us)) e ∙ ap (λ bs. list_of lists u.serial ++ bs) (held_expired lists now us)

job_blind : (s : SettingsData) (rows : List PendingRow) (lists : List Taken) (u : Unfinished) (b : Bool) (job : JobState) (parts : List (List ℕ)) → IsJobOf s rows lists u job parts → IsJobOf s rows lists (record u { expired = b }) job parts
job_blind s rows lists u b job parts h = record { id = h.id; cdb = h.cdb; iovs = h.iovs; in_len = h.in_len; carried = h.carried; count = h.count; size = h.size; payload = h.payload }

given_blind : (s : SettingsData) (rows : List PendingRow) (lists : List Taken) (g : GivenJob) → IsBlind (IsGiven s rows lists g)
given_blind s rows lists g u b h = (h.0, match_left (has_state Parked u) _ _ _ (λ p. (p.0, p.1, p.2, p.3, job_blind s rows lists u b p.0.job p.3 p.4)) h.1)

out_blind : (s : SettingsData) (rows : List PendingRow) (lists : List Taken) (x : InHand) → IsBlind (IsOut s rows lists x)
out_blind s rows lists x u b h = (h.0, h.1, (h.2.0, job_blind s rows lists u b x.job h.2.0 h.2.1))

-- rows that give each serial the same id
abbrev pub SameIds : List PendingRow → List PendingRow → Type 0
SameIds rows rows' = (s : ℕ) → id_of rows' s ≡ id_of rows s

job_rows : (s : SettingsData) (rows rows' : List PendingRow) (lists : List Taken) (u : Unfinished) (job : JobState) (parts : List (List ℕ)) → SameIds rows rows' → IsJobOf s rows lists u job parts → IsJobOf s rows' lists u job parts
job_rows s rows rows' lists u job parts m h = record { id = m u.serial ∙ h.id; cdb = h.cdb; iovs = h.iovs; in_len = h.in_len; carried = h.carried; count = h.count; size = h.size; payload = h.payload }

given_rows : (s : SettingsData) (rows rows' : List PendingRow) (lists : List Taken) (g : GivenJob) (u : Unfinished) → SameIds rows rows' → IsGiven s rows lists g u → IsGiven s rows' lists g u
given_rows s rows rows' lists g u m h = (m u.serial ∙ h.0, match_left (has_state Parked u) _ _ _ (λ p. (p.0, p.1, p.2, p.3, job_rows s rows rows' lists u p.0.job p.3 m p.4)) h.1)

out_rows : (s : SettingsData) (rows rows' : List PendingRow) (lists : List Taken) (x : InHand) (u : Unfinished) → SameIds rows rows' → IsOut s rows lists x u → IsOut s rows' lists x u
out_rows s rows rows' lists x u m h = (h.0, h.1, (h.2.0, job_rows s rows rows' lists u x.job h.2.0 m h.2.1))

given_expired : (s : SettingsData) (rows rows' : List PendingRow) (lists : List Taken) (now : ℕ) (gs : List GivenJob) (us : List Unfinished) → SameIds rows rows' → AreGiven s rows lists gs us → AreGiven s rows' lists gs (map (expire now) us)
given_expired s rows rows' lists now [] [] m h = h
given_expired s rows rows' lists now [] (u ∷ us) m h = absurd h
given_expired s rows rows' lists now (g ∷ gs) [] m h = absurd h
given_expired s rows rows' lists now (g ∷ gs) (u ∷ us) m h = (blind (IsGiven s rows' lists g) now u (given_blind s rows' lists g) (given_rows s rows rows' lists g u m h.0), given_expired s rows rows' lists now gs us m h.1)

outs_expired : (s : SettingsData) (rows rows' : List PendingRow) (lists : List Taken) (now : ℕ) (hs : List InHand) (us : List Unfinished) → SameIds rows rows' → AreOut s rows lists hs us → AreOut s rows' lists hs (map (expire now) us)
outs_expired s rows rows' lists now [] [] m h = h
outs_expired s rows rows' lists now [] (u ∷ us) m h = absurd h
outs_expired s rows rows' lists now (x ∷ hs) [] m h = absurd h
outs_expired s rows rows' lists now (x ∷ hs) (u ∷ us) m h = (blind (IsOut s rows' lists x) now u (out_blind s rows' lists x) (out_rows s rows rows' lists x u m h.0), outs_expired s rows rows' lists now hs us m h.1)

-- ==== tick: the target's rows

id_kept : (now : ℕ) (e : PendingRow) → (expired_at now e).id ≡ e.id
id_kept now e = ⊎_elim (λ (k : is_due_at now e ≡ true). rw k refl) (λ (k : is_due_at now e ≡ false). rw k refl) (cases_Bool (is_due_at now e))

serial_kept : (now : ℕ) (e : PendingRow) → (expired_at now e).pending.serial ≡ e.pending.serial
serial_kept now e = ⊎_elim (λ (k : is_due_at now e ≡ true). rw k refl) (λ (k : is_due_at now e ≡ false). rw k refl) (cases_Bool (is_due_at now e))

ids_expired : (now : ℕ) (es : List PendingRow) → map (λ e. e.id) (map (expired_at now) es) ≡ map (λ e. e.id) es
ids_expired now [] = refl
ids_expired now (e ∷ es) = ap (λ (i : ℕ). i ∷ map (λ (x : PendingRow). x.id) (map (expired_at now) es)) (id_kept now e) ∙ ap (λ (is : List ℕ). e.id ∷ is) (ids_expired now es)

id_expired : (now : ℕ) (es : List PendingRow) (s : ℕ) → id_of (map (expired_at now) es) s ≡ id_of es s
id_expired now [] s = refl
id_expired now (e ∷ es) s =
    let k : row_has s (expired_at now e) ≡ row_has s e = ap (λ q. eqb q s) (serial_kept now e) in
    ⊎_elim
    (λ (b : row_has s e ≡ true). let m : row_has s (expired_at now e) ≡ true = k ∙ b in rw (m, b) (ap Some (id_kept now e)))
    (λ (b : row_has s e ≡ false). let m : row_has s (expired_at now e) ≡ false = k ∙ b in rw (m, b) (id_expired now es s))
    (cases_Bool (row_has s e))

serial_expired : (now : ℕ) (es : List PendingRow) (id : ℕ) → serial_with (map (expired_at now) es) id ≡ serial_with es id
serial_expired now [] id = refl
serial_expired now (e ∷ es) id =
    let k : has_id id (expired_at now e) ≡ has_id id e = ap (λ q. eqb q id) (id_kept now e) in
    ⊎_elim
    (λ (b : has_id id e ≡ true). let m : has_id id (expired_at now e) ≡ true = k ∙ b in rw (m, b) (ap Some (serial_kept now e)))
    (λ (b : has_id id e ≡ false). let m : has_id id (expired_at now e) ≡ false = k ∙ b in rw (m, b) (serial_expired now es id))
    (cases_Bool (has_id id e))

-- ==== tick: the target's records

due_same : (lists : List Taken) (now : ℕ) (e : PendingRow) (u : Unfinished) → e.pending ≡ pending_of lists u → is_due_at now e ≡ is_due now u
due_same lists now e u h = ap (λ (p : PendingData). is_due_at now (record { id = e.id; pending = p })) h

row_expired : (lists : List Taken) (now : ℕ) (e : PendingRow) (u : Unfinished) → e.pending ≡ pending_of lists u → (expired_at now e).pending ≡ pending_of lists (expire now u)
row_expired lists now e u h =
    let d : is_due_at now e ≡ is_due now u = due_same lists now e u h in
    ap (λ b. (cond b (record e { pending = record e.pending { expired = true } }) e).pending) d ∙ by_due (is_due now u)
  where
    by_due : (b : Bool) → (cond b (record e { pending = record e.pending { expired = true } }) e).pending ≡ pending_of lists (cond b (record u { expired = true }) u)
    by_due true = ap (λ (p : PendingData). record p { expired = true }) h
    by_due false = h

pub rows_expired : (lists : List Taken) (now : ℕ) (es : List PendingRow) (us : List Unfinished) → map (λ e. e.pending) es ≡ map (pending_of lists) us →
    map (λ e. e.pending) (map (expired_at now) es) ≡ map (pending_of lists) (map (expire now) us)
rows_expired lists now [] [] h = refl
rows_expired lists now [] (u ∷ us) h = absurd (cc)
rows_expired lists now (e ∷ es) [] h = absurd (cc)
rows_expired lists now (e ∷ es) (u ∷ us) h =
    let a : e.pending ≡ pending_of lists u = cc in
    let b : map (λ (x : PendingRow). x.pending) es ≡ map (pending_of lists) us = cc in
    ap (λ (p : PendingData). p ∷ map (λ (x : PendingRow). x.pending) (map (expired_at now) es)) (row_expired lists now e u a)
    ∙ ap (λ (ps : List PendingData). pending_of lists (expire now u) ∷ ps) (rows_expired lists now es us b)

expiries_same : (lists : List Taken) (now : ℕ) (es : List PendingRow) (us : List Unfinished) → map (λ e. e.pending) es ≡ map (pending_of lists) us →
    map (λ e. checked 0x0b 0x08 0x01 e.pending) (filter (is_due_at now) es) ≡ map expiry (filter (is_due now) us)
expiries_same lists now [] [] h = refl
expiries_same lists now [] (u ∷ us) h = absurd (cc)
expiries_same lists now (e ∷ es) [] h = absurd (cc)
expiries_same lists now (e ∷ es) (u ∷ us) h =
    let a : e.pending ≡ pending_of lists u = cc in
    let b : map (λ (x : PendingRow). x.pending) es ≡ map (pending_of lists) us = cc in
    let d : is_due_at now e ≡ is_due now u = due_same lists now e u a in
    let c : checked 0x0b 0x08 0x01 e.pending ≡ expiry u = ap (checked 0x0b 0x08 0x01) a in
    let ih : map (λ (x : PendingRow). checked 0x0b 0x08 0x01 x.pending) (filter (is_due_at now) es) ≡ map expiry (filter (is_due now) us) = expiries_same lists now es us b in
    ⊎_elim
    (λ (k : is_due now u ≡ true). let m : is_due_at now e ≡ true = d ∙ k in
    ap (λ z. map (λ (x : PendingRow). checked 0x0b 0x08 0x01 x.pending) (cond z (e ∷ filter (is_due_at now) es) (filter (is_due_at now) es))) m
    ∙ ap (λ (y : DoneData). y ∷ map (λ (x : PendingRow). checked 0x0b 0x08 0x01 x.pending) (filter (is_due_at now) es)) c ∙ ap (λ ys. expiry u ∷ ys) ih
    ∙ sym (ap (λ z. map expiry (cond z (u ∷ filter (is_due now) us) (filter (is_due now) us))) k))
    (λ (k : is_due now u ≡ false). let m : is_due_at now e ≡ false = d ∙ k in
    ap (λ z. map (λ (x : PendingRow). checked 0x0b 0x08 0x01 x.pending) (cond z (e ∷ filter (is_due_at now) es) (filter (is_due_at now) es))) m ∙ ih
    ∙ sym (ap (λ z. map expiry (cond z (u ∷ filter (is_due now) us) (filter (is_due now) us))) k))
    (cases_Bool (is_due now u))

pub log_ticked : (t : TargetState) (d : DeviceState) (lists : List Taken) (now : ℕ) → TargetKeeps t d lists → ticked_log t now ≡ tick_completions d now
log_ticked t d lists now h =
    ap (λ xs. xs ++ map departure (filter (has_left now) t.delayed)) (expiries_same lists now t.rows d.unfinished h.rows)
    ∙ ap (λ ws. map expiry (filter (is_due now) d.unfinished) ++ map departure (filter (has_left now) ws)) h.delayed

pub tick_same : (t : TargetState) (d : DeviceState) (lists : List Taken) (n : ℕ) → TargetKeeps t d lists → target_tick_answer t n ≡ tick_answer d n
unfolding target_tick_answer tick_answer
tick_same t d lists n h = ap (λ m. length (ticked_log t (later m n))) h.now ∙ ap length (log_ticked t d lists (later d.now n) h)

pub target_ticked_keeps : (t : TargetState) (d : DeviceState) (lists : List Taken) (n : ℕ) → TargetKeeps t d lists → TargetKeeps (target_ticked t n) (after_tick d n) lists
unfolding target_ticked after_tick
target_ticked_keeps t d lists n h =
    record {
      settings = h.settings;
      now = ap (λ m. later m n) h.now;
      blocked = h.blocked;
      accepted = h.accepted;
      rows = ap (λ m. map (λ (e : PendingRow). e.pending) (map (expired_at (later m n)) t.rows)) h.now ∙ rows_expired lists (later d.now n) t.rows d.unfinished h.rows;
      delayed = ap (λ m. filter (λ w. not (has_left (later m n) w)) t.delayed) h.now ∙ ap (filter (λ w. not (has_left (later d.now n) w))) h.delayed;
      cleaned = h.cleaned;
      laid = h.laid;
      cleared = h.cleared;
      broken = h.broken;
      log = ap (λ m. t.log ++ ticked_log t (later m n)) h.now ∙ ap (λ xs. t.log ++ xs) (log_ticked t d lists (later d.now n) h) ∙ ap (λ xs. xs ++ tick_completions d (later d.now n)) h.log;
    }

-- ==== tick: the other points

pub ring_ticked : (front : List ℕ) (items : List Recorded) (d : DeviceState) (lists : List Taken) (n : ℕ) → RingStands front items d lists → RingStands front items (after_tick d n) lists
unfolding after_tick
ring_ticked front items d lists n h =
    let now : ℕ = later d.now n in
    ring_by front items d now d.blocked d.attached (map (expire now) d.unfinished) (filter (λ w. not (has_left now w)) d.delayed) (d.log ++ tick_completions d now) lists
    (λ k q g rl id r. expired_found now q d.unfinished rl id r) h

pub ids_ticked : (front : List ℕ) (rows : List PendingRow) (d : DeviceState) (n : ℕ) → IdsStand front rows d → IdsStand front (map (expired_at (later d.now n)) rows) (after_tick d n)
unfolding after_tick
ids_ticked front rows d n h =
    let now : ℕ = later d.now n in
    let same : (s : ℕ) → id_of (map (expired_at now) rows) s ≡ id_of rows s = λ s. id_expired now rows s in
    let ids : map (λ (e : PendingRow). e.id) (map (expired_at now) rows) ≡ map (λ (e : PendingRow). e.id) rows = ids_expired now rows in
    record {
      range = every-map (expired_at now) (λ (e : PendingRow). IsId e.id) (λ (e : PendingRow). IsId e.id) rows (λ e i. subst IsId (sym (id_kept now e)) i) h.range;
      differ = subst Differ (sym ids) h.differ;
      answered = λ i x s c g q p. same s ∙ h.answered i x s c g q p;
      own = λ i m s c l g. same s ∙ h.own i m s c l g;
    }

pub notes_ticked : (front : List ℕ) (rows : List PendingRow) (d : DeviceState) (n : ℕ) → NotesStand front rows d → NotesStand front (map (expired_at (later d.now n)) rows) (after_tick d n)
unfolding after_tick
notes_ticked front rows d n h = λ i m type_ ss l g.
    let now : ℕ = later d.now n in
    let rows' : List PendingRow = map (expired_at now) rows in
    let behind : List ℕ = serials_in (drop i d.ring.laid) in
    note_stands_by rows rows' (serials_in (take i d.ring.laid)) behind behind type_ ss (ids_in (length ss) 32 (entry_at front (place_of d.ring i) m))
    (λ s id b k. note_id_same rows rows' behind s id (id_expired now rows s) (serial_expired now rows id) k) (h i m type_ ss l g)

pub jobs_ticked : (user : UserState) (hand : List InHand) (rows : List PendingRow) (d : DeviceState) (lists : List Taken) (n : ℕ) → JobsStand user hand rows d lists →
    JobsStand user hand (map (expired_at (later d.now n)) rows) (after_tick d n) lists
unfolding after_tick
jobs_ticked user hand rows d lists n h =
    let now : ℕ = later d.now n in
    let rows' : List PendingRow = map (expired_at now) rows in
    record {
      given = subst (AreGiven d.settings rows' lists user.jobs) (sym (filter_expired is_in_hand now d.unfinished (hand_expired now)))
          (given_expired d.settings rows rows' lists now user.jobs (filter is_in_hand d.unfinished) (id_expired now rows) h.given);
      out = subst (AreOut d.settings rows' lists hand) (sym (filter_expired is_out now d.unfinished (out_expired now)))
          (outs_expired d.settings rows rows' lists now hand (filter is_out d.unfinished) (id_expired now rows) h.out);
      offsets = h.offsets;
    }

pub blocks_ticked : (area : List (Option (List ℕ))) (d : DeviceState) (lists : List Taken) (n : ℕ) → BlocksStand area d lists → BlocksStand area (after_tick d n) lists
unfolding after_tick
blocks_ticked area d lists n h =
    let now : ℕ = later d.now n in
    let size : ℕ = block_size d.settings.pages in
    let held : held_by lists (filter is_in_hand (map (expire now) d.unfinished)) ≡ held_by lists (filter is_in_hand d.unfinished) =
    ap (held_by lists) (filter_expired is_in_hand now d.unfinished (hand_expired now)) ∙ held_expired lists now (filter is_in_hand d.unfinished) in
    record {
      all = every-map (expire now) (BlocksOf size area lists) (BlocksOf size area lists) d.unfinished (λ u p. blind (BlocksOf size area lists) now u (λ v b q. q) p) h.all;
      just = λ b l. ap (λ bs. is_among bs b) held ∙ h.just b l;
    }

pub side_ticked : (user : UserState) (d : DeviceState) (n : ℕ) → UserKeeps user d → UserKeeps user (after_tick d n)
unfolding after_tick
side_ticked user d n h =
    record { ring = h.ring; pages = h.pages; flags = h.flags; tail = h.tail; dispatched = h.dispatched; placed = h.placed; published = h.published; place = h.place; items = h.items }

pub pages_ticked : (r : RegionState) (d : DeviceState) (n : ℕ) → r.pages ≡ d.settings.pages → r.pages ≡ (after_tick d n).settings.pages
unfolding after_tick
pages_ticked r d n h = h
