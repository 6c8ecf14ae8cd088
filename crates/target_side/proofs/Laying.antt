-- A command that is laid, in the target's books.
use Rattle.std.proofs.Common.{◌≡◌, ℕ, ◌+◌, ◌≤◌, ◌<◌, Bool, List, [], ◌∷◌, ◌++◌, ◌^◌, length, map, Option, refl, sym, ap, arith, subst, length-append}
use Rattle.tcmu_types.specs.Data.{CommandData, DoneData}
use Rattle.tcmu_types.specs.declared.answer.Enter.TheVariants as enter
use Rattle.tcmu_types.specs.declared.answer.Tmr.TheVariants as tmr
use Rattle.tcmu_types.specs.declared.settings.Flags.{Flags}
use Rattle.tcmu_types.specs.Lists.{Every}
use Rattle.tcmu_types.specs.Numbers.{Rise}
use Rattle.tcmu_types.proofs.Everies.{every-mapped}
use Rattle.tcmu_types.proofs.Rises.{rise_order, rise_seam}
use Rattle.tcmu_model.specs.Device.{Delayed}
use Rattle.tcmu_model.specs.Sound.{delayed_serials}
use Rattle.region_model.specs.Pending.{NotAfter, PendingData}
use Rattle.region_model.specs.Regions.{RegionState}
use Rattle.region_model.specs.Sides.{PendingRow, Recorded, TargetState}
use Rattle.region_model.specs.TargetSteps.{deadline_in, front_with, region_entered, region_laid, region_noted, region_submitted, target_entered, target_laid, target_submitted}
use Rattle.target_table.specs.Rows.{AllPrecede}
use Rattle.target_side.specs.declared.entries.Entries.{Entries}
use Rattle.target_side.specs.Books.{IsBooks, books_of, to_log}
use Rattle.target_side.specs.Kept.{Fits, Kept}
use Rattle.target_side.specs.Laid.{NotedAs, LaidAs, as_target, pending_for}
use Rattle.target_side.specs.Submits.{Delays, Entered, Queues}
use Rattle.target_side.proofs.Counts.{books_laid}

-- ==== the order of the commands

rows_under : (low : ℕ) (rows : List PendingRow) (ys : List ℕ) (high : ℕ) → Rise low (map (λ (e : PendingRow). e.pending.serial) rows ++ ys) high → Every (λ (e : PendingRow). e.pending.serial < high + 1) rows
rows_under low [] ys high h = tt
rows_under low (e ∷ rows) ys high h =
    let b = rise_order e.pending.serial (map (λ (x : PendingRow). x.pending.serial) rows ++ ys) high h.1 in
    (omega (arith, b), rows_under e.pending.serial rows ys high h.1)

rows_before : (low : ℕ) (rows : List PendingRow) (y : ℕ) (ys : List ℕ) (high : ℕ) → Rise low (map (λ (e : PendingRow). e.pending.serial) rows ++ y ∷ ys) high → Every (λ (e : PendingRow). e.pending.serial < y) rows
rows_before low rows y ys high h =
    every-mapped (λ (e : PendingRow). e.pending.serial) (λ n. n < y) rows (rise_seam low (map (λ (e : PendingRow). e.pending.serial) rows) y ys high h).0

all_precede : (rows : List PendingRow) (q : PendingData) → Every (λ (e : PendingRow). e.pending.serial < q.serial) rows → Every (λ (e : PendingRow). NotAfter e.pending.deadline q.deadline) rows → AllPrecede rows q
all_precede [] q a b = tt
all_precede (e ∷ rows) q a b = (record { serial = a.0; deadline = b.0 }, all_precede rows q a.1 b.1)

pub next_last : (t : TargetState) (q : PendingData) → Kept t → q.serial ≡ t.accepted + 1 → q.deadline ≡ deadline_in t → AllPrecede t.rows q
next_last t q k s d =
    all_precede t.rows q
    (subst (λ n. Every (λ (e : PendingRow). e.pending.serial < n) t.rows) (sym s) (rows_under 0 t.rows (delayed_serials t.delayed) t.accepted k.sound.serials.rise))
    (subst (λ o. Every (λ (e : PendingRow). NotAfter e.pending.deadline o) t.rows) (sym d) k.dates.due)

pub first_last : (t : TargetState) (q : PendingData) (w : Delayed) (ws : List Delayed) → Kept t → t.delayed ≡ w ∷ ws → q.serial ≡ w.serial → q.deadline ≡ deadline_in t → AllPrecede t.rows q
first_last t q w ws k e s d =
    let r = subst (λ (xs : List Delayed). Rise 0 (map (λ (x : PendingRow). x.pending.serial) t.rows ++ delayed_serials xs) t.accepted) e k.sound.serials.rise in
    all_precede t.rows q
    (subst (λ n. Every (λ (x : PendingRow). x.pending.serial < n) t.rows) (sym s) (rows_before 0 t.rows w.serial (delayed_serials ws) t.accepted r))
    (subst (λ o. Every (λ (x : PendingRow). NotAfter x.pending.deadline o) t.rows) (sym d) k.dates.due)

-- ==== the books

-- what is laid, with all that a target has besides
abbrev rebuilt : Flags → ℕ → ℕ → ℕ → Bool → ℕ → List Delayed → ℕ → ℕ → Option ℕ → List DoneData → TargetState → TargetState
rebuilt flags timeout qfull now blocked accepted delayed laid cleared broken log x =
    record {
      settings = record { ring = x.settings.ring; blocks = x.settings.blocks; flags = flags; timeout = timeout; qfull = qfull; pages = x.settings.pages };
      now = now;
      blocked = blocked;
      accepted = accepted;
      rows = x.rows;
      delayed = delayed;
      items = x.items;
      cleaned = x.cleaned;
      laid = laid;
      cleared = cleared;
      broken = broken;
      log = log;
    }

-- the books with other rows and items
pub with_entries : (flags : Flags) (timeout qfull now : ℕ) (blocked : Bool) (accepted : ℕ) (delayed : List Delayed) (laid cleared : ℕ) (broken : Option ℕ) (log : List DoneData) (e e' : Entries)
    (rows : List PendingRow) (items : List Recorded) → as_target e' ≡ record (as_target e) { rows = rows; items = items } →
    books_of flags timeout qfull now blocked accepted e' delayed laid cleared broken log ≡ record (books_of flags timeout qfull now blocked accepted e delayed laid cleared broken log) { rows = rows; items = items }
with_entries flags timeout qfull now blocked accepted delayed laid cleared broken log e e' rows items h =
    ap (rebuilt flags timeout qfull now blocked accepted delayed laid cleared broken log) h

-- the same books, though the entries have more room
pub same_entries : (flags : Flags) (timeout qfull now : ℕ) (blocked : Bool) (accepted : ℕ) (delayed : List Delayed) (laid cleared : ℕ) (broken : Option ℕ) (log : List DoneData) (e e' : Entries) →
    as_target e' ≡ as_target e → books_of flags timeout qfull now blocked accepted e' delayed laid cleared broken log ≡ books_of flags timeout qfull now blocked accepted e delayed laid cleared broken log
same_entries flags timeout qfull now blocked accepted delayed laid cleared broken log e e' h = ap (rebuilt flags timeout qfull now blocked accepted delayed laid cleared broken log) h

-- a command is laid under the next serial
pub queued : (r r' : RegionState) (flags : Flags) (timeout qfull now : ℕ) (blocked : Bool) (accepted : ℕ) (delayed : List Delayed) (laid cleared : ℕ) (broken : Option ℕ) (log : List DoneData) (e e' : Entries) (c : CommandData) (id : ℕ) →
    let t : TargetState = books_of flags timeout qfull now blocked accepted e delayed laid cleared broken log in
    LaidAs r (as_target e) (accepted + 1) (deadline_in t) c id r' (as_target e') →
    Queues r t c (accepted + 1) r' (books_of flags timeout qfull now blocked (accepted + 1) e' delayed (laid + 1) cleared broken log)
unfolding target_submitted target_laid region_submitted region_laid front_with
queued r r' flags timeout qfull now blocked accepted delayed laid cleared broken log e e' c id h =
    record {
      next = refl;
      submitted = record {
        id = id;
        free = λ s q. record { range = h.free.range; free = h.free.free };
        target = with_entries flags timeout qfull now blocked (accepted + 1) delayed (laid + 1) cleared broken log e e' _ _ h.target;
        region = h.region;
      };
    }

-- the same, where the moment from which it is due and the log are known up to equations
pub queues : (r r' : RegionState) (flags : Flags) (timeout qfull now : ℕ) (blocked : Bool) (accepted : ℕ) (delayed : List Delayed) (laid cleared : ℕ) (broken : Option ℕ) (log logged : List DoneData) (e e' : Entries) (c : CommandData) (id : ℕ) (due : Option ℕ) →
    let t : TargetState = books_of flags timeout qfull now blocked accepted e delayed laid cleared broken log in
    due ≡ deadline_in t → logged ≡ log → LaidAs r (as_target e) (accepted + 1) due c id r' (as_target e') →
    Queues r t c (accepted + 1) r' (books_of flags timeout qfull now blocked (accepted + 1) e' delayed (laid + 1) cleared broken logged)
queues r r' flags timeout qfull now blocked accepted delayed laid cleared broken log logged e e' c id due d l h =
    let t : TargetState = books_of flags timeout qfull now blocked accepted e delayed laid cleared broken log in
    subst (λ (ds : List DoneData). Queues r t c (accepted + 1) r' (books_of flags timeout qfull now blocked (accepted + 1) e' delayed (laid + 1) cleared broken ds)) (sym l)
    (queued r r' flags timeout qfull now blocked accepted delayed laid cleared broken log e e' c id (subst (λ (o : Option ℕ). LaidAs r (as_target e) (accepted + 1) o c id r' (as_target e')) d h))

-- the books' numbers then
pub queued_books : (r r' : RegionState) (flags : Flags) (timeout qfull now : ℕ) (blocked : Bool) (accepted : ℕ) (delayed : List Delayed) (laid cleared : ℕ) (broken : Option ℕ) (log : List DoneData) (e e' : Entries) (c : CommandData) (id spare left : ℕ) →
    let t : TargetState = books_of flags timeout qfull now blocked accepted e delayed laid cleared broken log in
    IsBooks t spare → LaidAs r (as_target e) (accepted + 1) (deadline_in t) c id r' (as_target e') → accepted < 2 ^ 63 → to_log t.rows + length delayed + 1 ≤ left →
    IsBooks (books_of flags timeout qfull now blocked (accepted + 1) e' delayed (laid + 1) cleared broken log) left
queued_books r r' flags timeout qfull now blocked accepted delayed laid cleared broken log e e' c id spare left h l a room =
    let t : TargetState = books_of flags timeout qfull now blocked accepted e delayed laid cleared broken log in
    books_laid (record { id = id; pending = pending_for (as_target e) (accepted + 1) (deadline_in t) c }) 1 0 t (books_of flags timeout qfull now blocked (accepted + 1) e' delayed (laid + 1) cleared broken log) spare left h
    (record {
      fresh = refl;
      settings = ap (λ (x : TargetState). (rebuilt flags timeout qfull now blocked accepted delayed laid cleared broken log x).settings) l.target;
      now = refl;
      laid = refl;
      cleared = refl;
      rows = ap (λ (x : TargetState). x.rows) l.target;
      delayed = omega arith;
      accepted = refl;
      one = refl;
    }) (omega (arith, a)) room

-- ==== the first that waits

pub entered_first : (r r' : RegionState) (flags : Flags) (timeout qfull now : ℕ) (blocked : Bool) (accepted : ℕ) (w : Delayed) (ws : List Delayed) (laid cleared : ℕ) (broken : Option ℕ) (log : List DoneData) (e e' : Entries) (id : ℕ) →
    let t : TargetState = books_of flags timeout qfull now blocked accepted e (w ∷ ws) laid cleared broken log in
    LaidAs r (as_target e) w.serial (deadline_in t) w.command id r' (as_target e') →
    Entered r t (enter.Entered w.serial) r' (books_of flags timeout qfull now blocked accepted e' ws (laid + 1) cleared broken log)
unfolding target_entered target_laid region_entered region_laid front_with
entered_first r r' flags timeout qfull now blocked accepted w ws laid cleared broken log e e' id h =
    record {
      id = id;
      free = λ s q. record { range = h.free.range; free = h.free.free };
      target = with_entries flags timeout qfull now blocked accepted ws (laid + 1) cleared broken log e e' _ _ h.target;
      region = h.region;
    }

-- the same, where the rest and the moment from which it is due are known up to equations
pub enters : (r r' : RegionState) (flags : Flags) (timeout qfull now : ℕ) (blocked : Bool) (accepted : ℕ) (delayed waiting ws : List Delayed) (w : Delayed) (laid cleared : ℕ) (broken : Option ℕ) (log : List DoneData) (e e' : Entries) (id : ℕ) (due : Option ℕ) →
    let t : TargetState = books_of flags timeout qfull now blocked accepted e delayed laid cleared broken log in
    delayed ≡ w ∷ ws → waiting ≡ ws → due ≡ deadline_in t → LaidAs r (as_target e) w.serial due w.command id r' (as_target e') →
    Entered r t (enter.Entered w.serial) r' (books_of flags timeout qfull now blocked accepted e' waiting (laid + 1) cleared broken log)
enters r r' flags timeout qfull now blocked accepted delayed waiting ws w laid cleared broken log e e' id due d k u h =
    let from : List Delayed → TargetState = λ ds. books_of flags timeout qfull now blocked accepted e ds laid cleared broken log in
    let to : List Delayed → TargetState = λ ds. books_of flags timeout qfull now blocked accepted e' ds (laid + 1) cleared broken log in
    subst (λ (ds : List Delayed). Entered r (from ds) (enter.Entered w.serial) r' (to waiting)) (sym d)
    (subst (λ (ds : List Delayed). Entered r (from (w ∷ ws)) (enter.Entered w.serial) r' (to ds)) (sym k)
    (entered_first r r' flags timeout qfull now blocked accepted w ws laid cleared broken log e e' id (subst (λ (o : Option ℕ). LaidAs r (as_target e) w.serial o w.command id r' (as_target e')) u h)))

pub entered_books : (r r' : RegionState) (flags : Flags) (timeout qfull now : ℕ) (blocked : Bool) (accepted : ℕ) (w : Delayed) (ws : List Delayed) (laid cleared : ℕ) (broken : Option ℕ) (log : List DoneData) (e e' : Entries) (id spare : ℕ) →
    let t : TargetState = books_of flags timeout qfull now blocked accepted e (w ∷ ws) laid cleared broken log in
    IsBooks t spare → LaidAs r (as_target e) w.serial (deadline_in t) w.command id r' (as_target e') →
    IsBooks (books_of flags timeout qfull now blocked accepted e' ws (laid + 1) cleared broken log) spare
entered_books r r' flags timeout qfull now blocked accepted w ws laid cleared broken log e e' id spare h l =
    let t : TargetState = books_of flags timeout qfull now blocked accepted e (w ∷ ws) laid cleared broken log in
    let room = h.room in let few = h.few in
    books_laid (record { id = id; pending = pending_for (as_target e) w.serial (deadline_in t) w.command }) 0 1 t (books_of flags timeout qfull now blocked accepted e' ws (laid + 1) cleared broken log) spare spare h
    (record {
      fresh = refl;
      settings = ap (λ (x : TargetState). (rebuilt flags timeout qfull now blocked accepted ws laid cleared broken log x).settings) l.target;
      now = refl;
      laid = refl;
      cleared = refl;
      rows = ap (λ (x : TargetState). x.rows) l.target;
      delayed = omega arith;
      accepted = omega arith;
      one = refl;
    }) (omega (arith, few)) (omega (arith, room))

-- ==== a command that waits

pub delayed_one : (flags : Flags) (timeout qfull now : ℕ) (blocked : Bool) (accepted : ℕ) (delayed : List Delayed) (laid cleared : ℕ) (broken : Option ℕ) (log : List DoneData) (e : Entries) (c : CommandData) →
    Delays (books_of flags timeout qfull now blocked accepted e delayed laid cleared broken log) c (accepted + 1)
    (books_of flags timeout qfull now blocked (accepted + 1) e (delayed ++ record { serial = accepted + 1; command = c; leaves = now + qfull } ∷ []) laid cleared broken log)
unfolding target_submitted
delayed_one flags timeout qfull now blocked accepted delayed laid cleared broken log e c = record { next = refl; target = λ id. refl }

-- the same, when what waits then is known up to an equation
pub delays : (flags : Flags) (timeout qfull now : ℕ) (blocked : Bool) (accepted : ℕ) (delayed waiting : List Delayed) (laid cleared : ℕ) (broken : Option ℕ) (log logged : List DoneData) (e : Entries) (c : CommandData) →
    waiting ≡ delayed ++ record { serial = accepted + 1; command = c; leaves = now + qfull } ∷ [] → logged ≡ log →
    Delays (books_of flags timeout qfull now blocked accepted e delayed laid cleared broken log) c (accepted + 1) (books_of flags timeout qfull now blocked (accepted + 1) e waiting laid cleared broken logged)
delays flags timeout qfull now blocked accepted delayed waiting laid cleared broken log logged e c w l =
    let t : TargetState = books_of flags timeout qfull now blocked accepted e delayed laid cleared broken log in
    subst (λ (ws : List Delayed). Delays t c (accepted + 1) (books_of flags timeout qfull now blocked (accepted + 1) e ws laid cleared broken logged)) (sym w)
    (subst (λ (ds : List DoneData). Delays t c (accepted + 1) (books_of flags timeout qfull now blocked (accepted + 1) e (delayed ++ record { serial = accepted + 1; command = c; leaves = now + qfull } ∷ []) laid cleared broken ds)) (sym l)
    (delayed_one flags timeout qfull now blocked accepted delayed laid cleared broken log e c))

pub delayed_books : (flags : Flags) (timeout qfull now : ℕ) (blocked : Bool) (accepted : ℕ) (delayed : List Delayed) (laid cleared : ℕ) (broken : Option ℕ) (log : List DoneData) (e : Entries) (w : Delayed) (spare left : ℕ) →
    IsBooks (books_of flags timeout qfull now blocked accepted e delayed laid cleared broken log) spare → accepted < 2 ^ 63 → to_log e.commands.rows + length delayed + 1 ≤ left →
    IsBooks (books_of flags timeout qfull now blocked (accepted + 1) e (delayed ++ w ∷ []) laid cleared broken log) left
delayed_books flags timeout qfull now blocked accepted delayed laid cleared broken log e w spare left h a room =
    let c = h.counted in let b = h.accepted in
    let len = length-append delayed (w ∷ []) in
    record {
      settings = h.settings;
      moment = h.moment;
      counted = c;
      accepted = omega (arith, b, len);
      few = omega (arith, a);
      room = omega (arith, room, len);
    }

-- ==== what laying asks for

pub fits_entries : (r : RegionState) (flags : Flags) (timeout qfull now : ℕ) (blocked : Bool) (accepted : ℕ) (delayed : List Delayed) (laid cleared : ℕ) (broken : Option ℕ) (log : List DoneData) (e : Entries) →
    Fits r (books_of flags timeout qfull now blocked accepted e delayed laid cleared broken log) → Fits r (as_target e)
fits_entries r flags timeout qfull now blocked accepted delayed laid cleared broken log e f = record { front = f.front; pages = f.pages }

-- ==== a note

pub noted_region : (r r' : RegionState) (flags : Flags) (timeout qfull now : ℕ) (blocked : Bool) (accepted : ℕ) (delayed : List Delayed) (laid cleared : ℕ) (broken : Option ℕ) (log : List DoneData) (e : Entries) (t' : TargetState) (type_ : ℕ) (ss : List ℕ) →
    NotedAs r (as_target e) type_ ss r' t' → r' ≡ region_noted r (books_of flags timeout qfull now blocked accepted e delayed laid cleared broken log) type_ ss tmr.Noted
unfolding region_noted front_with
noted_region r r' flags timeout qfull now blocked accepted delayed laid cleared broken log e t' type_ ss h = h.region
