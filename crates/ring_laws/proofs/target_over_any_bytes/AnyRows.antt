-- The target's items and its rows over any bytes: they are of the same commands.
use Rattle.std.proofs.Common.{◌≡◌, ℕ, ◌+◌, ◌*◌, ◌<◌, ◌≤◌, Bool, true, false, cond, eqb, List, [], ◌∷◌, ◌++◌, length, Option, Some, None, refl, sym, ap, ◌∙◌, arith, subst, ⊎_elim, length-append}
use Rattle.std.specs.List.{count_by, sum_by}
use Rattle.std.proofs.lemmas.Bool.{cases_Bool, false≢true}
use Rattle.std.proofs.lemmas.List.{length-map}
use Rattle.std.proofs.lemmas.List.Sums.{sum_by-cons, sum_by-append}
use Rattle.std.proofs.Math.Nat.{le-max_left}
use Rattle.tcmu_types.specs.Data.{CommandData, SettingsData}
use Rattle.tcmu_types.specs.Rules.{IsSettings}
use Rattle.tcmu_types.specs.declared.answer.Submit.{Submit}
use Rattle.tcmu_types.specs.declared.answer.Submit.TheVariants as submit
use Rattle.tcmu_types.specs.declared.answer.Enter.{Enter}
use Rattle.tcmu_types.specs.declared.answer.Enter.TheVariants as enter
use Rattle.tcmu_types.specs.declared.answer.Tmr.{Tmr}
use Rattle.tcmu_types.specs.declared.answer.Tmr.TheVariants as tmr
use Rattle.tcmu_types.specs.declared.dump.ItemKind.{ItemKind}
use Rattle.tcmu_types.specs.declared.dump.ItemKind.TheVariants as kind
use Rattle.region_model.specs.declared.entry.Response.{Response}
use Rattle.tcmu_types.specs.Lists.{first_of, without_first, Every}
use Rattle.tcmu_model.specs.Lengths.{blocks_of, tmr_length}
use Rattle.tcmu_model.specs.Device.{Delayed}
use Rattle.tcmu_model.specs.Events.{later}
use Rattle.region_model.specs.Regions.{RegionState}
use Rattle.region_model.specs.Sides.{PendingRow, Recorded, TargetState}
use Rattle.region_model.specs.Represents.{has_id}
use Rattle.region_model.specs.TargetSteps.{opening_target, pad_in, length_in, pads_of, with_recorded, row_of, expired_at, target_laid, target_submit_answer, target_submitted, target_enter_answer, first_entered, target_entered, target_tmr_answer, target_noted, target_ticked, target_blocked}
use Rattle.region_model.specs.TargetCleans.{tail_read, tail_fits, past, answered_by, response_in, one_cleaned, all_cleaned, target_cleaned, target_reset}
use Rattle.region_model.specs.UserSteps.{is_cmd}
use Rattle.tcmu_types.proofs.Everies.{every-append}
use Rattle.ring_laws.specs.Calls.{TargetCall, Submits, Enters, Notes, Ticks, Blocks, Cleans, Resets, CallMade, Called, target_called}
use Rattle.ring_laws.specs.RingKept.{RingKept, RowsKept}
use Rattle.ring_laws.proofs.target_over_any_bytes.AnyCleared.{Passed, Stopped, one_case, by_item, stopped_all}
use Rattle.ring_laws.proofs.target_over_any_bytes.AnyRing.{ring_of_opening}
use Rattle.ring_laws.proofs.target_over_any_bytes.AnySettings.{opened_same}

rows_opened : (s : SettingsData) → RowsKept (opening_target s)
unfolding opening_target
rows_opened s = record { commands = refl; counted = refl; long = tt }

-- ==== an item more

abbrev pub commands : List Recorded → ℕ
commands xs = count_by is_cmd xs

abbrev IsLong : Recorded → Type 0
IsLong x = is_cmd x ≡ true → 112 ≤ x.len

pub commands-cons : (x : Recorded) (xs : List Recorded) → commands (x ∷ xs) ≡ cond (is_cmd x) 1 0 + commands xs
commands-cons x xs = sum_by-cons (λ (y : Recorded). cond {A = ℕ} (is_cmd y) 1 0) x xs

pub commands-append : (xs ys : List Recorded) → commands (xs ++ ys) ≡ commands xs + commands ys
commands-append xs ys = sum_by-append (λ (y : Recorded). cond {A = ℕ} (is_cmd y) 1 0) xs ys

no_pads : (n : ℕ) → commands (pads_of n) ≡ 0
no_pads n =
    ⊎_elim
    (λ (z : eqb n 0 ≡ true). rw z refl)
    (λ (z : eqb n 0 ≡ false). rw z refl)
    (cases_Bool (eqb n 0))

pads_long : (n : ℕ) → Every IsLong (pads_of n)
pads_long n =
    ⊎_elim
    (λ (z : eqb n 0 ≡ true). rw z tt)
    (λ (z : eqb n 0 ≡ false). rw z (λ e. absurd (false≢true e), tt))
    (cases_Bool (eqb n 0))

recorded_more : (t : TargetState) (k : ItemKind) (n c : ℕ) → commands (record { kind = k; len = n } ∷ []) ≡ c → commands (with_recorded t k n).items ≡ commands t.items + c
recorded_more t k n c e =
    let item : Recorded = record { kind = k; len = n } in
    let ps : List Recorded = pads_of (pad_in t n) in
    let a : commands (t.items ++ ps ++ item ∷ []) ≡ commands (t.items ++ ps) + commands (item ∷ []) = commands-append (t.items ++ ps) (item ∷ []) in
    let b : commands (t.items ++ ps) ≡ commands t.items + commands ps = commands-append t.items ps in
    omega (arith, a, b, no_pads (pad_in t n), e)

recorded_long : (t : TargetState) (k : ItemKind) (n : ℕ) → Every IsLong t.items → IsLong (record { kind = k; len = n }) → Every IsLong (with_recorded t k n).items
recorded_long t k n h l =
    every-append IsLong (t.items ++ pads_of (pad_in t n)) (record { kind = k; len = n } ∷ []) (every-append IsLong t.items (pads_of (pad_in t n)) h (pads_long (pad_in t n))) (l, tt)

command_long : (t : TargetState) (c : CommandData) → 112 ≤ length_in t c
command_long t c = let a = le-max_left 112 (48 + 16 * blocks_of t.settings.pages c) in omega (arith, a)

rows_laid : (t : TargetState) (s : ℕ) (c : CommandData) (id : ℕ) → RowsKept t → RowsKept (target_laid t s c id)
unfolding target_laid
rows_laid t s c id h =
    let rows : ℕ = length t.rows in
    let more : length (t.rows ++ row_of t s c id ∷ []) ≡ rows + 1 = length-append t.rows (row_of t s c id ∷ []) in
    let items = recorded_more t kind.Cmd (length_in t c) 1 refl in
    record {
      commands = items ∙ ap (λ n. n + 1) h.commands ∙ sym more;
      counted = omega (arith, h.counted, more);
      long = recorded_long t kind.Cmd (length_in t c) h.long (λ e. command_long t c);
    }

rows_accepted : (t : TargetState) (n : ℕ) → RowsKept t → RowsKept (record t { accepted = n })
rows_accepted t n h = record { commands = h.commands; counted = h.counted; long = h.long }

rows_delayed : (t : TargetState) (ws : List Delayed) → RowsKept t → RowsKept (record t { delayed = ws })
rows_delayed t ws h = record { commands = h.commands; counted = h.counted; long = h.long }

rows_submit : (t : TargetState) (c : CommandData) (id : ℕ) (a : Submit) → RowsKept t → RowsKept (target_submitted t c id a)
unfolding target_submitted
rows_submit t c id (submit.Queued s) h = rows_laid (record t { accepted = t.accepted + 1 }) s c id (rows_accepted t (t.accepted + 1) h)
rows_submit t c id (submit.Delayed s) h = record { commands = h.commands; counted = h.counted; long = h.long }
rows_submit t c id submit.Busy h = h
rows_submit t c id (submit.TooBig have limit) h = h
rows_submit t c id (submit.FullRing need free) h = h
rows_submit t c id (submit.FullBlocks need free) h = h

rows_first : (t : TargetState) (id : ℕ) (ws : List Delayed) → RowsKept t → RowsKept (first_entered t id ws)
rows_first t id [] h = h
rows_first t id (w ∷ ws) h = rows_delayed (target_laid t w.serial w.command id) ws (rows_laid t w.serial w.command id h)

rows_enter : (t : TargetState) (id : ℕ) (a : Enter) → RowsKept t → RowsKept (target_entered t id a)
unfolding target_entered
rows_enter t id (enter.Entered s) h = rows_first t id t.delayed h
rows_enter t id enter.Empty h = h
rows_enter t id (enter.FullRing need free) h = h
rows_enter t id (enter.FullBlocks need free) h = h

rows_note : (t : TargetState) (ss : List ℕ) (a : Tmr) → RowsKept t → RowsKept (target_noted t ss a)
unfolding target_noted
rows_note t ss tmr.Noted h =
    let n : ℕ = tmr_length (length ss) in
    let items : commands (with_recorded t kind.Tmr n).items ≡ commands t.items + 0 = recorded_more t kind.Tmr n 0 refl in
    record { commands = omega (arith, items, h.commands); counted = h.counted; long = recorded_long t kind.Tmr n h.long (λ e. absurd (false≢true e)) }
rows_note t ss tmr.Off h = h
rows_note t ss tmr.Busy h = h
rows_note t ss (tmr.Unknown s) h = h
rows_note t ss (tmr.FullRing need free) h = h

rows_tick : (t : TargetState) (n : ℕ) → RowsKept t → RowsKept (target_ticked t n)
unfolding target_ticked
rows_tick t n h =
    let same = length-map t.rows (expired_at (later t.now n)) in
    record { commands = h.commands ∙ sym same; counted = h.counted ∙ ap (λ k. t.cleared + k) (sym same); long = h.long }

rows_block : (t : TargetState) (b : Bool) → RowsKept t → RowsKept (target_blocked t b)
unfolding target_blocked
rows_block t b h = record { commands = h.commands; counted = h.counted; long = h.long }

-- ==== a clean

pub one_less : {X : Type 0} (p : X → Bool) (xs : List X) (x : X) → first_of p xs ≡ Some x → length (without_first p xs) + 1 ≡ length xs
one_less p [] x h = absurd (cc)
one_less p (y ∷ xs) x h =
    ⊎_elim
    (λ (e : p y ≡ true). rw e (omega arith))
    (λ (e : p y ≡ false). let k : first_of p xs ≡ Some x = rw e at h in let m : length (without_first p xs) + 1 ≡ length xs = one_less p xs x k in rw e (omega (arith, m)))
    (cases_Bool (p y))

-- the first item is passed, with the row of its command
rows_past : (t : TargetState) (x : Recorded) (xs : List Recorded) → t.items ≡ x ∷ xs → is_cmd x ≡ false → RowsKept t → RowsKept (past t x xs)
rows_past t x xs e c h =
    let more : commands (x ∷ xs) ≡ cond (is_cmd x) 1 0 + commands xs = commands-cons x xs in
    let none : cond {A = ℕ} (is_cmd x) 1 0 ≡ 0 = ap (λ b. cond {A = ℕ} b 1 0) c in
    let all : commands t.items ≡ commands (x ∷ xs) = ap commands e in
    let long : Every IsLong (x ∷ xs) = subst (Every IsLong) e h.long in
    record { commands = omega (arith, more, none, all, h.commands); counted = h.counted; long = long.1 }

rows_by : (r : RegionState) (a : Response) (t : TargetState) (x : Recorded) (xs : List Recorded) (o : Option PendingRow) → t.items ≡ x ∷ xs → is_cmd x ≡ true → RowsKept t → first_of (has_id a.id) t.rows ≡ o → RowsKept (answered_by r a t x xs o)
rows_by r a t x xs None e c h f = record { commands = h.commands; counted = h.counted; long = h.long }
rows_by r a t x xs (Some row) e c h f =
    let more : commands (x ∷ xs) ≡ cond (is_cmd x) 1 0 + commands xs = commands-cons x xs in
    let one : cond {A = ℕ} (is_cmd x) 1 0 ≡ 1 = ap (λ b. cond {A = ℕ} b 1 0) c in
    let all : commands t.items ≡ commands (x ∷ xs) = ap commands e in
    let less : length (without_first (has_id a.id) t.rows) + 1 ≡ length t.rows = one_less (has_id a.id) t.rows row f in
    let long : Every IsLong (x ∷ xs) = subst (Every IsLong) e h.long in
    record { commands = omega (arith, more, one, all, less, h.commands); counted = omega (arith, less, h.counted); long = long.1 }

rows_one : (r : RegionState) (t : TargetState) (len : ℕ) (xs : List Recorded) (c : ItemKind) → t.items ≡ record { kind = c; len = len } ∷ xs → RowsKept t → RowsKept (one_cleaned r t (record { kind = c; len = len }) xs c)
rows_one r t len xs kind.Pad e h = rows_past t (record { kind = kind.Pad; len = len }) xs e refl h
rows_one r t len xs kind.Tmr e h = rows_past t (record { kind = kind.Tmr; len = len }) xs e refl h
rows_one r t len xs kind.Cmd e h =
    let a : Response = response_in r t in rows_by r a t (record { kind = kind.Cmd; len = len }) xs (first_of (has_id a.id) t.rows) e refl h refl

rows_all : (r : RegionState) (tail : ℕ) (t : TargetState) (xs : List Recorded) → t.items ≡ xs → RowsKept t → RowsKept (all_cleaned r tail t xs)
rows_all r tail t [] e h = h
rows_all r tail t (x ∷ xs) e h =
    by_item RowsKept r tail t x xs (λ d. h) (λ id d. h)
    (λ d z.
    ⊎_elim
    (λ (p : Passed t next x.len xs). rows_all r tail next xs p.items (rows_one r t x.len xs x.kind e h))
    (λ (s : Stopped r t next x.kind). subst RowsKept (sym (stopped_all r tail t next x.kind xs s)) (record { commands = h.commands; counted = h.counted; long = h.long }))
    (one_case r t x xs x.kind))
  where
    next : TargetState
    next = one_cleaned r t x xs x.kind

rows_clean : (r : RegionState) (t : TargetState) → RowsKept t → RowsKept (target_cleaned r t)
unfolding target_cleaned
rows_clean r t h = by_broken t.broken
  where
    fitting : (b : Bool) → RowsKept (cond b (all_cleaned r (tail_read r) t t.items) t)
    fitting true = rows_all r (tail_read r) t t.items refl h
    fitting false = h

    by_broken : (o : Option ℕ) → RowsKept (elim o as (λ x. TargetState) [ Some id ↦ t | None ↦ cond (tail_fits r t) (all_cleaned r (tail_read r) t t.items) t ])
    by_broken None = fitting (tail_fits r t)
    by_broken (Some id) = h

rows_reset : (r : RegionState) (t : TargetState) (level : ℕ) → RowsKept (target_reset r t level)
unfolding target_reset
rows_reset r t level = record { commands = refl; counted = refl; long = tt }

-- ==== any call

pub rows_called : (r : RegionState) (t : TargetState) (call : TargetCall) → RowsKept t → RowsKept (target_called r t call)
rows_called r t (Submits c id) h = rows_submit t c id (target_submit_answer t c) h
rows_called r t (Enters id) h = rows_enter t id (target_enter_answer t) h
rows_called r t (Notes type_ ss) h = rows_note t ss (target_tmr_answer t ss) h
rows_called r t (Ticks n) h = rows_tick t n h
rows_called r t (Blocks b) h = rows_block t b h
rows_called r t Cleans h = rows_clean r t h
rows_called r t (Resets level) h = rows_reset r t level

rows_along : (t : TargetState) (ms : List CallMade) (after : TargetState) → RowsKept t → Called t ms after → RowsKept after
rows_along t [] after h c = subst RowsKept (sym c) h
rows_along t (m ∷ ms) after h c = rows_along (target_called m.region t m.call) ms after (rows_called m.region t m.call h) c.1

pub rows_of_opening : (s : SettingsData) (ms : List CallMade) (t : TargetState) → Called (opening_target s) ms t → RowsKept t
rows_of_opening s ms t c = rows_along (opening_target s) ms t (rows_opened s) c

-- ==== the commands are few

all_long : (xs : List Recorded) → Every IsLong xs → 112 * commands xs ≤ sum_by (λ (x : Recorded). x.len) xs
all_long [] h = omega arith
all_long (x ∷ xs) h =
    let more : commands (x ∷ xs) ≡ cond (is_cmd x) 1 0 + commands xs = commands-cons x xs in
    let sum : sum_by (λ (y : Recorded). y.len) (x ∷ xs) ≡ x.len + sum_by (λ (y : Recorded). y.len) xs = sum_by-cons (λ (y : Recorded). y.len) x xs in
    let rest : 112 * commands xs ≤ sum_by (λ (y : Recorded). y.len) xs = all_long xs h.1 in
    ⊎_elim
    (λ (e : is_cmd x ≡ true). let one : cond {A = ℕ} (is_cmd x) 1 0 ≡ 1 = ap (λ b. cond {A = ℕ} b 1 0) e in let long : 112 ≤ x.len = h.0 e in omega (arith, more, sum, rest, one, long))
    (λ (e : is_cmd x ≡ false). let none : cond {A = ℕ} (is_cmd x) 1 0 ≡ 0 = ap (λ b. cond {A = ℕ} b 1 0) e in omega (arith, more, sum, rest, none))
    (cases_Bool (is_cmd x))

pub rows_few : (t : TargetState) → IsSettings t.settings → RingKept t → RowsKept t → length t.rows < 65535
rows_few t g h k = let high : t.settings.ring ≤ 4194304 = g.ring.most in omega (arith, all_long t.items k.long, h.used, high, k.commands)

pub rows_few_of_all : (s : SettingsData) (ms : List CallMade) (t : TargetState) → IsSettings s → Called (opening_target s) ms t → length t.rows < 65535
rows_few_of_all s ms t g c = rows_few t (subst IsSettings (sym (opened_same s ms t c)) g) (ring_of_opening s ms t g c) (rows_of_opening s ms t c)
