-- All that a target has over any bytes is of the commands that it accepted: its rows, those that wait, and its log.
use Rattle.std.proofs.Common.{◌≡◌, ◌≢◌, ℕ, ◌+◌, ◌-◌, ◌%◌, ◌<◌, ◌≤◌, Bool, true, false, not, cond, eqb, ◌==◌, List, [], ◌∷◌, ◌++◌, length, map, slice_get, Option, Some, None, refl, sym, ap, ◌∙◌, arith, subst, append_assoc, append-nil, length-append, length-take}
use Rattle.std.specs.List.{filter}
use Rattle.std.specs.Option.{is_some}
use Rattle.std.proofs.lemmas.Bool.{ne_eqb}
use Rattle.std.proofs.lemmas.Option.{slice_get_within}
use Rattle.tcmu_types.specs.Data.{CommandData, DoneData, SenseData, SettingsData}
use Rattle.tcmu_types.specs.SenseBytes.{sense_in}
use Rattle.tcmu_types.specs.declared.answer.Submit.{Submit}
use Rattle.tcmu_types.specs.declared.answer.Submit.TheVariants as submit
use Rattle.tcmu_types.specs.declared.answer.Enter.{Enter}
use Rattle.tcmu_types.specs.declared.answer.Enter.TheVariants as enter
use Rattle.tcmu_types.specs.declared.answer.Tmr.{Tmr}
use Rattle.tcmu_types.specs.declared.answer.Tmr.TheVariants as tmr
use Rattle.tcmu_types.specs.declared.dump.ItemKind.{ItemKind}
use Rattle.tcmu_types.specs.declared.dump.ItemKind.TheVariants as kind
use Rattle.region_model.specs.declared.entry.Response.{Response}
use Rattle.tcmu_types.specs.Lists.{first_of, Every}
use Rattle.tcmu_model.specs.Device.{Delayed}
use Rattle.tcmu_model.specs.Events.{later, has_left, departure, closing, check_condition, reset_completion}
use Rattle.region_model.specs.Regions.{RegionState, size_of}
use Rattle.region_model.specs.Areas.{bytes_along}
use Rattle.region_model.specs.Pending.{PendingData}
use Rattle.region_model.specs.Sides.{PendingRow, Recorded, TargetState}
use Rattle.region_model.specs.Represents.{has_id}
use Rattle.region_model.specs.TargetSteps.{opening_target, blocks_held, blocks_free, blocks_wanted, row_of, closed, checked, is_due_at, expired_at, target_laid, target_submit_answer, target_submitted, enter_or_full, target_enter_answer, first_entered, target_entered, target_tmr_answer, target_noted, target_ticked, target_blocked}
use Rattle.region_model.specs.TargetCleans.{payload_read, sense_read, completion_read, completions_read, answered_by, response_in, one_cleaned, target_cleaned, reset_log, emptied_of, target_reset}
use Rattle.tcmu_types.proofs.Everies.{every-weaker, every-map, every-append, every-filter, every-first, every-without_first}
use Rattle.ring_laws.specs.Calls.{TargetCall, Submits, Enters, Notes, Ticks, Blocks, Cleans, Resets, CallMade, Called, TargetSound, target_called, CompletesOwn, HasSerial, IsRowOf, IsDoneOf, IsOfCommands, accepted_command, accepted_at, accepted_along}
use Rattle.tcmu_types.proofs.Places.{get_append_left}
use Rattle.tcmu_model.proofs.LaidItems.{slice_get-right}
use Rattle.tcmu_model.proofs.FreeBlocks.{length-least_free}
use Rattle.ring_laws.proofs.PendingRows.{only_expires}
use Rattle.ring_laws.proofs.target_over_any_bytes.AnyCleans.{own_read}
use Rattle.ring_laws.proofs.target_over_any_bytes.AnySettings.{opened_same}
use Rattle.ring_laws.proofs.target_over_any_bytes.AnyCalls.{Told, told, ToldFirst, told_first, sound_opened, sound_called, clean_keeps}

pub of_none : (s : SettingsData) → IsOfCommands [] (opening_target s)
unfolding opening_target
of_none s = record { count = refl; rows = tt; delayed = tt; log = tt }

-- ==== one more command

longer : (cs : List CommandData) (c : CommandData) (s : ℕ) (x : CommandData) → s ≤ length cs → HasSerial cs s x → HasSerial (cs ++ c ∷ []) s x
longer cs c s x l h = let low : 1 ≤ s = h.0 in (low, get_append_left cs (c ∷ []) (s - 1) (omega arith) ∙ h.1)

-- the last one has the number of all
last_one : (cs : List CommandData) (c : CommandData) (n s : ℕ) → length cs ≡ n → s ≡ n + 1 → HasSerial (cs ++ c ∷ []) s c
last_one cs c n s e q = let z : s - 1 ≡ length cs + 0 = omega arith in (omega arith, ap (slice_get (cs ++ c ∷ [])) z ∙ slice_get-right cs (c ∷ []) 0)

within : (cs : List CommandData) (s : ℕ) (x : CommandData) → HasSerial cs s x → s ≤ length cs
within cs s x h = let a : s - 1 < length cs = slice_get_within cs (s - 1) x h.1 in let b : 1 ≤ s = h.0 in omega arith

more_serial : (cs : List CommandData) (c : CommandData) (s : ℕ) (x : CommandData) → HasSerial cs s x → HasSerial (cs ++ c ∷ []) s x
more_serial cs c s x h = longer cs c s x (within cs s x h) h

more_rows : (cs : List CommandData) (c : CommandData) (pages : ℕ) (rows : List PendingRow) → Every (λ (e : PendingRow). IsRowOf cs pages e.pending) rows → Every (λ (e : PendingRow). IsRowOf (cs ++ c ∷ []) pages e.pending) rows
more_rows cs c pages rows h =
    every-weaker (λ (e : PendingRow). IsRowOf cs pages e.pending) (λ (e : PendingRow). IsRowOf (cs ++ c ∷ []) pages e.pending) rows
    (λ e k. record { command = k.command; serial = more_serial cs c e.pending.serial k.command k.serial; init = k.init; tag = k.tag; in_len = k.in_len; count = k.count }) h

more_delayed : (cs : List CommandData) (c : CommandData) (ws : List Delayed) → Every (λ (w : Delayed). HasSerial cs w.serial w.command) ws → Every (λ (w : Delayed). HasSerial (cs ++ c ∷ []) w.serial w.command) ws
more_delayed cs c ws h = every-weaker (λ (w : Delayed). HasSerial cs w.serial w.command) (λ (w : Delayed). HasSerial (cs ++ c ∷ []) w.serial w.command) ws (λ w k. more_serial cs c w.serial w.command k) h

more_log : (cs : List CommandData) (c : CommandData) (log : List DoneData) → Every (IsDoneOf cs) log → Every (IsDoneOf (cs ++ c ∷ [])) log
more_log cs c log h =
    every-weaker (IsDoneOf cs) (IsDoneOf (cs ++ c ∷ [])) log
    (λ e k. record { command = k.command; serial = more_serial cs c e.serial k.command k.serial; init = k.init; tag = k.tag; short = k.short; sense = k.sense; bytes = k.bytes }) h

-- a row that is laid is its command's
laid_row : (cs : List CommandData) (t : TargetState) (s : ℕ) (c : CommandData) (id : ℕ) → TargetSound t → HasSerial cs s c → blocks_wanted t c ≤ blocks_free t → IsRowOf cs t.settings.pages (row_of t s c id).pending
laid_row cs t s c id sound h room =
    let k : length (blocks_held t.rows) ≤ t.settings.blocks = sound.rows.room in
    record { command = c; serial = h; init = refl; tag = refl; in_len = refl; count = length-least_free t.settings.blocks (blocks_held t.rows) (blocks_wanted t c) (omega (arith, k, room)) }

of_submit : (cs : List CommandData) (t : TargetState) (c : CommandData) (id : ℕ) (a : Submit) → IsOfCommands cs t → TargetSound t → Told t c a → IsOfCommands (cs ++ accepted_command c a) (target_submitted t c id a)
unfolding target_submitted target_laid
of_submit cs t c id (submit.Queued s) h sound w =
    let len : length (cs ++ c ∷ []) ≡ length cs + length (c ∷ []) = length-append cs (c ∷ []) in
    let row : IsRowOf (cs ++ c ∷ []) t.settings.pages (row_of t s c id).pending = laid_row (cs ++ c ∷ []) t s c id sound (last_one cs c t.accepted s h.count w.0) w.2 in
    record {
      count = len ∙ ap (λ (n : ℕ). n + 1) h.count;
      rows = every-append (λ (e : PendingRow). IsRowOf (cs ++ c ∷ []) t.settings.pages e.pending) t.rows (row_of t s c id ∷ []) (more_rows cs c t.settings.pages t.rows h.rows) (row, tt);
      delayed = more_delayed cs c t.delayed h.delayed;
      log = more_log cs c t.log h.log;
    }
of_submit cs t c id (submit.Delayed s) h sound w =
    let len : length (cs ++ c ∷ []) ≡ length cs + length (c ∷ []) = length-append cs (c ∷ []) in
    let d : Delayed = record { serial = s; command = c; leaves = t.now + t.settings.qfull } in
    record {
      count = len ∙ ap (λ (n : ℕ). n + 1) h.count;
      rows = more_rows cs c t.settings.pages t.rows h.rows;
      delayed = every-append (λ (v : Delayed). HasSerial (cs ++ c ∷ []) v.serial v.command) t.delayed (d ∷ []) (more_delayed cs c t.delayed h.delayed) (last_one cs c t.accepted s h.count w.0, tt);
      log = more_log cs c t.log h.log;
    }
of_submit cs t c id submit.Busy h sound w = subst (λ (xs : List CommandData). IsOfCommands xs t) (sym (append-nil cs)) h
of_submit cs t c id (submit.TooBig have limit) h sound w = subst (λ (xs : List CommandData). IsOfCommands xs t) (sym (append-nil cs)) h
of_submit cs t c id (submit.FullRing need free) h sound w = subst (λ (xs : List CommandData). IsOfCommands xs t) (sym (append-nil cs)) h
of_submit cs t c id (submit.FullBlocks need free) h sound w = subst (λ (xs : List CommandData). IsOfCommands xs t) (sym (append-nil cs)) h

-- ==== the same commands

of_first : (cs : List CommandData) (t : TargetState) (id : ℕ) (w : Delayed) (ws : List Delayed) → IsOfCommands cs t → TargetSound t → t.delayed ≡ w ∷ ws → blocks_wanted t w.command ≤ blocks_free t →
    IsOfCommands cs (first_entered t id (w ∷ ws))
unfolding target_laid
of_first cs t id w ws h sound e room =
    let each : Every (λ (v : Delayed). HasSerial cs v.serial v.command) (w ∷ ws) = subst (λ (vs : List Delayed). Every (λ (v : Delayed). HasSerial cs v.serial v.command) vs) e h.delayed in
    record {
      count = h.count;
      rows = every-append (λ (x : PendingRow). IsRowOf cs t.settings.pages x.pending) t.rows (row_of t w.serial w.command id ∷ []) h.rows (laid_row cs t w.serial w.command id sound each.0 room, tt);
      delayed = each.1;
      log = h.log;
    }

of_entering : (cs : List CommandData) (t : TargetState) (id : ℕ) (a : Enter) → IsOfCommands cs t → TargetSound t → ToldFirst t t.delayed a → IsOfCommands cs (target_entered t id a)
unfolding target_entered
of_entering cs t id (enter.Entered s) h sound w = subst (λ (ws : List Delayed). IsOfCommands cs (first_entered t id ws)) (sym w.2) (of_first cs t id w.0 w.1 h sound w.2 w.3)
of_entering cs t id enter.Empty h sound w = h
of_entering cs t id (enter.FullRing need free) h sound w = h
of_entering cs t id (enter.FullBlocks need free) h sound w = h

of_enter : (cs : List CommandData) (t : TargetState) (id : ℕ) → IsOfCommands cs t → TargetSound t → IsOfCommands cs (target_entered t id (target_enter_answer t))
unfolding target_enter_answer
of_enter cs t id h sound = of_entering cs t id (enter_or_full t t.delayed) h sound (told_first t t.delayed)

of_noted : (cs : List CommandData) (t : TargetState) (ss : List ℕ) (a : Tmr) → IsOfCommands cs t → IsOfCommands cs (target_noted t ss a)
unfolding target_noted
of_noted cs t ss tmr.Noted h = record { count = h.count; rows = h.rows; delayed = h.delayed; log = h.log }
of_noted cs t ss tmr.Off h = h
of_noted cs t ss tmr.Busy h = h
of_noted cs t ss (tmr.Unknown s) h = h
of_noted cs t ss (tmr.FullRing need free) h = h

of_blocked : (cs : List CommandData) (t : TargetState) (b : Bool) → IsOfCommands cs t → IsOfCommands cs (target_blocked t b)
unfolding target_blocked
of_blocked cs t b h = record { count = h.count; rows = h.rows; delayed = h.delayed; log = h.log }

-- ==== completions of a command

-- one without bytes, of a row
closed_row : (cs : List CommandData) (pages status : ℕ) (sense : Option SenseData) (p : PendingData) → is_some sense ≡ (status == 2) → IsRowOf cs pages p → IsDoneOf cs (closed status sense p)
closed_row cs pages status sense p e h = record { command = h.command; serial = h.serial; init = h.init; tag = h.tag; short = omega arith; sense = e; bytes = λ n. refl }

closed_waiting : (cs : List CommandData) (status : ℕ) (sense : Option SenseData) (s : ℕ) (c : CommandData) → is_some sense ≡ (status == 2) → HasSerial cs s c → IsDoneOf cs (closing status sense s c)
closed_waiting cs status sense s c e h = record { command = c; serial = h; init = refl; tag = refl; short = omega arith; sense = e; bytes = λ n. refl }

-- what a response is read as has sense data and bytes by its status alone
read_sense : (size : ℕ) (area : List (Option (List ℕ))) (p : PendingData) (a : Response) → is_some (completion_read size area p a).sense ≡ ((completion_read size area p a).status == 2)
read_sense size area p a = by_unknown (eqb (a.uflags % 2) 1)
  where
    known : (b : Bool) → is_some (cond b (Some (sense_in a.sense)) None) ≡ b
    known true = refl
    known false = refl

    by_unknown : (b : Bool) → let e : DoneData = cond b (checked 0x04 0x44 0x00 p) (record (closed a.status (sense_read a) p) { payload = payload_read size area p a }) in is_some e.sense ≡ (e.status == 2)
    by_unknown true = refl
    by_unknown false = known (a.status == 2)

read_bytes : (size : ℕ) (area : List (Option (List ℕ))) (p : PendingData) (a : Response) → (completion_read size area p a).status ≢ 0 → (completion_read size area p a).payload ≡ []
read_bytes size area p a = by_unknown (eqb (a.uflags % 2) 1)
  where
    by_unknown : (b : Bool) → let e : DoneData = cond b (checked 0x04 0x44 0x00 p) (record (closed a.status (sense_read a) p) { payload = payload_read size area p a }) in e.status ≢ 0 → e.payload ≡ []
    by_unknown true n = refl
    by_unknown false n = let z : eqb a.status 0 ≡ false = ne_eqb a.status 0 n in rw z refl

read_row : (cs : List CommandData) (pages : ℕ) (r : RegionState) (p : PendingData) (a : Response) → IsRowOf cs pages p → IsDoneOf cs (completion_read (size_of r) r.blocks p a)
read_row cs pages r p a h =
    let e : DoneData = completion_read (size_of r) r.blocks p a in
    let o : CompletesOwn r p e = own_read r p a in
    let xs : List ℕ = bytes_along (size_of r) r.blocks p.blocks in
    let n : ℕ = o.payload.0 in
    let few : n ≤ p.in_len = o.payload.1 in
    record {
      command = h.command;
      serial = subst (λ (s : ℕ). HasSerial cs s h.command) (sym o.serial) h.serial;
      init = o.init ∙ h.init;
      tag = o.tag ∙ h.tag;
      short = omega (arith, ap length o.payload.2, length-take n xs, few, h.in_len);
      sense = read_sense (size_of r) r.blocks p a;
      bytes = read_bytes (size_of r) r.blocks p a;
    }

of_ticked : (cs : List CommandData) (t : TargetState) (n : ℕ) → IsOfCommands cs t → IsOfCommands cs (target_ticked t n)
unfolding target_ticked
of_ticked cs t n h =
    let now : ℕ = later t.now n in
    let pages : ℕ = t.settings.pages in
    let P : PendingRow → Type 0 = λ (e : PendingRow). IsRowOf cs pages e.pending in
    let due : PendingRow → DoneData = λ (e : PendingRow). checked 0x0b 0x08 0x01 e.pending in
    record {
      count = h.count;
      rows = every-map (expired_at now) P P t.rows
          (λ e k.
          let o = only_expires now e in
          record {
            command = k.command;
            serial = subst (λ (s : ℕ). HasSerial cs s k.command) (sym o.serial) k.serial;
            init = o.init ∙ k.init;
            tag = o.tag ∙ k.tag;
            in_len = o.in_len ∙ k.in_len;
            count = ap length o.blocks ∙ k.count;
          }) h.rows;
      delayed = every-filter (λ (w : Delayed). not (has_left now w)) (λ (w : Delayed). HasSerial cs w.serial w.command) t.delayed h.delayed;
      log = every-append (IsDoneOf cs) t.log (map due (filter (is_due_at now) t.rows) ++ map departure (filter (has_left now) t.delayed)) h.log
          (every-append (IsDoneOf cs) (map due (filter (is_due_at now) t.rows)) (map departure (filter (has_left now) t.delayed))
          (every-map due P (IsDoneOf cs) (filter (is_due_at now) t.rows) (λ e k. closed_row cs pages 0x02 (Some (record { key = 0x0b; asc = 0x08; ascq = 0x01 })) e.pending refl k)
          (every-filter (is_due_at now) P t.rows h.rows))
          (every-map departure (λ (w : Delayed). HasSerial cs w.serial w.command) (IsDoneOf cs) (filter (has_left now) t.delayed) (λ w k. closed_waiting cs 0x28 None w.serial w.command refl k)
          (every-filter (has_left now) (λ (w : Delayed). HasSerial cs w.serial w.command) t.delayed h.delayed)));
    }

-- ==== a clean

of_by : (cs : List CommandData) (r : RegionState) (a : Response) (t : TargetState) (x : Recorded) (xs : List Recorded) (o : Option PendingRow) → IsOfCommands cs t → first_of (has_id a.id) t.rows ≡ o →
    IsOfCommands cs (answered_by r a t x xs o)
of_by cs r a t x xs None h f = record { count = h.count; rows = h.rows; delayed = h.delayed; log = h.log }
of_by cs r a t x xs (Some e) h f =
    let pages : ℕ = t.settings.pages in
    let P : PendingRow → Type 0 = λ (v : PendingRow). IsRowOf cs pages v.pending in
    let row : IsRowOf cs pages e.pending = every-first (has_id a.id) P t.rows e h.rows f in
    let d : DoneData = completion_read (size_of r) r.blocks e.pending a in
    record {
      count = h.count;
      rows = every-without_first (has_id a.id) P t.rows h.rows;
      delayed = h.delayed;
      log = every-append (IsDoneOf cs) t.log (completions_read (size_of r) r.blocks e.pending a) h.log (one e.pending.expired d (read_row cs pages r e.pending a row));
    }
  where
    one : (b : Bool) (d : DoneData) → IsDoneOf cs d → Every (IsDoneOf cs) (cond b [] (d ∷ []))
    one true d k = tt
    one false d k = (k, tt)

of_one : (cs : List CommandData) (r : RegionState) (t : TargetState) (x : Recorded) (xs : List Recorded) (k : ItemKind) → IsOfCommands cs t → IsOfCommands cs (one_cleaned r t x xs k)
of_one cs r t x xs kind.Pad h = record { count = h.count; rows = h.rows; delayed = h.delayed; log = h.log }
of_one cs r t x xs kind.Tmr h = record { count = h.count; rows = h.rows; delayed = h.delayed; log = h.log }
of_one cs r t x xs kind.Cmd h = let a : Response = response_in r t in of_by cs r a t x xs (first_of (has_id a.id) t.rows) h refl

of_cleaned : (cs : List CommandData) (r : RegionState) (t : TargetState) → IsOfCommands cs t → IsOfCommands cs (target_cleaned r t)
of_cleaned cs r t h = clean_keeps (IsOfCommands cs) r t (λ k x ys s. of_one cs r k x ys x.kind s) h

-- ==== a reset

of_emptied : (cs : List CommandData) (t : TargetState) (level : ℕ) → IsOfCommands cs t → IsOfCommands cs (emptied_of t level)
of_emptied cs t level h =
    let pages : ℕ = t.settings.pages in
    let P : PendingRow → Type 0 = λ (e : PendingRow). IsRowOf cs pages e.pending in
    let rows : List PendingRow = filter (λ (e : PendingRow). not e.pending.expired) t.rows in
    let left : PendingRow → DoneData = λ (e : PendingRow). reset_log level e.pending in
    let waited : Delayed → DoneData = λ (w : Delayed). reset_completion level w.serial w.command in
    record {
      count = h.count;
      rows = tt;
      delayed = tt;
      log = every-append (IsDoneOf cs) t.log (map left rows ++ map waited t.delayed) h.log
          (every-append (IsDoneOf cs) (map left rows) (map waited t.delayed)
          (every-map left P (IsDoneOf cs) rows (λ e k. reset_row (eqb level 1) pages e.pending k) (every-filter (λ (e : PendingRow). not e.pending.expired) P t.rows h.rows))
          (every-map waited (λ (w : Delayed). HasSerial cs w.serial w.command) (IsDoneOf cs) t.delayed (λ w k. reset_waiting (eqb level 1) w.serial w.command k) h.delayed));
    }
  where
    reset_row : (b : Bool) (pages : ℕ) (p : PendingData) → IsRowOf cs pages p → IsDoneOf cs (cond b (closed 0x08 None p) (checked 0x04 0x44 0x00 p))
    reset_row true pages p k = closed_row cs pages 0x08 None p refl k
    reset_row false pages p k = closed_row cs pages 0x02 (Some (record { key = 0x04; asc = 0x44; ascq = 0x00 })) p refl k

    reset_waiting : (b : Bool) (s : ℕ) (c : CommandData) → HasSerial cs s c → IsDoneOf cs (cond b (closing 0x08 None s c) (check_condition 0x04 0x44 0x00 s c))
    reset_waiting true s c k = closed_waiting cs 0x08 None s c refl k
    reset_waiting false s c k = closed_waiting cs 0x02 (Some (record { key = 0x04; asc = 0x44; ascq = 0x00 })) s c refl k

of_reset : (cs : List CommandData) (r : RegionState) (t : TargetState) (level : ℕ) → IsOfCommands cs t → IsOfCommands cs (target_reset r t level)
unfolding target_reset
of_reset cs r t level h = of_emptied cs (target_cleaned r t) level (of_cleaned cs r t h)

-- ==== any call

same_commands : (cs : List CommandData) (t : TargetState) → IsOfCommands cs t → IsOfCommands (cs ++ []) t
same_commands cs t h = subst (λ (xs : List CommandData). IsOfCommands xs t) (sym (append-nil cs)) h

pub of_called : (cs : List CommandData) (r : RegionState) (t : TargetState) (call : TargetCall) → IsOfCommands cs t → TargetSound t → IsOfCommands (cs ++ accepted_at t call) (target_called r t call)
of_called cs r t (Submits c id) h sound = of_submit cs t c id (target_submit_answer t c) h sound (told t c sound)
of_called cs r t (Enters id) h sound = same_commands cs (target_entered t id (target_enter_answer t)) (of_enter cs t id h sound)
of_called cs r t (Notes type_ ss) h sound = same_commands cs (target_noted t ss (target_tmr_answer t ss)) (of_noted cs t ss (target_tmr_answer t ss) h)
of_called cs r t (Ticks n) h sound = same_commands cs (target_ticked t n) (of_ticked cs t n h)
of_called cs r t (Blocks b) h sound = same_commands cs (target_blocked t b) (of_blocked cs t b h)
of_called cs r t Cleans h sound = same_commands cs (target_cleaned r t) (of_cleaned cs r t h)
of_called cs r t (Resets level) h sound = same_commands cs (target_reset r t level) (of_reset cs r t level h)

of_all : (cs : List CommandData) (t : TargetState) (ms : List CallMade) (after : TargetState) → IsOfCommands cs t → TargetSound t → Called t ms after → IsOfCommands (cs ++ accepted_along t ms) after
of_all cs t [] after h sound c = same_commands cs after (subst (IsOfCommands cs) (sym c) h)
of_all cs t (m ∷ ms) after h sound c =
    let next : TargetState = target_called m.region t m.call in
    subst (λ (xs : List CommandData). IsOfCommands xs after) (append_assoc cs (accepted_at t m.call) (accepted_along next ms))
    (of_all (cs ++ accepted_at t m.call) next ms after (of_called cs m.region t m.call h sound) (sound_called m.region t m.call sound c.0) c.1)

pub of_opening : (s : SettingsData) (ms : List CallMade) (t : TargetState) → Called (opening_target s) ms t → IsOfCommands (accepted_along (opening_target s) ms) t
of_opening s ms t c = of_all [] (opening_target s) ms t (of_none s) (sound_opened s) c

pub rows_of_opening : (s : SettingsData) (ms : List CallMade) (t : TargetState) → Called (opening_target s) ms t → Every (λ (e : PendingRow). IsRowOf (accepted_along (opening_target s) ms) s.pages e.pending) t.rows
rows_of_opening s ms t c =
    subst (λ (z : SettingsData). Every (λ (e : PendingRow). IsRowOf (accepted_along (opening_target s) ms) z.pages e.pending) t.rows) (opened_same s ms t c) (of_opening s ms t c).rows
