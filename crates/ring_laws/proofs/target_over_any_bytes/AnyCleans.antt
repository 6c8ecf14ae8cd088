-- What a clean logs over any bytes: completions of commands that it takes out, with bytes of their own blocks.
use Rattle.std.proofs.Common.{◌≡◌, ℕ, ◌/◌, ◌%◌, ◌<◌, ◌≤◌, Bool, true, false, cond, eqb, List, [], ◌∷◌, ◌++◌, take, map, Option, Some, None, refl, sym, ap, ◌∙◌, arith, subst, ⊎_elim, append_assoc, append-nil}
use Rattle.std.proofs.lemmas.Bool.{cases_Bool, eqb-true, ne_eqb, eq-eqb}
use Rattle.std.proofs.Math.Nat.{min-le_left}
use Rattle.tcmu_types.specs.Data.{DoneData}
use Rattle.tcmu_types.specs.declared.dump.ItemKind.{ItemKind}
use Rattle.tcmu_types.specs.declared.dump.ItemKind.TheVariants as kind
use Rattle.region_model.specs.declared.entry.Response.{Response}
use Rattle.tcmu_types.specs.Lists.{first_of, without_first, Every}
use Rattle.tcmu_model.specs.Sound.{delayed_serials}
use Rattle.tcmu_types.specs.Numbers.{Rise}
use Rattle.region_model.specs.Regions.{RegionState, size_of}
use Rattle.region_model.specs.Areas.{bytes_along}
use Rattle.region_model.specs.Pending.{PendingData}
use Rattle.region_model.specs.Sides.{PendingRow, Recorded, TargetState}
use Rattle.region_model.specs.Represents.{has_id, row_has}
use Rattle.region_model.specs.TargetSteps.{closed, checked}
use Rattle.region_model.specs.TargetCleans.{length_told, payload_read, sense_read, completion_read, completions_read, answered_by, response_in, one_cleaned, target_cleaned}
use Rattle.tcmu_types.proofs.Everies.{every-append, every-weaker}
use Rattle.ring_laws.specs.Calls.{TargetSound, CompletesOwn, CompletedBy, CleanLogs}
use Rattle.tcmu_types.proofs.Firsts.{first-passes}
use Rattle.ring_laws.proofs.CountedSerials.{read_serial}
use Rattle.ring_laws.proofs.target_over_any_bytes.AnyCalls.{sound_one, clean_keeps}

-- ==== one row of a serial

abbrev serials : List PendingRow → List ℕ
serials rows = map (λ (e : PendingRow). e.pending.serial) rows

found_above : (p : PendingRow → Bool) (low : ℕ) (rows : List PendingRow) (ds : List ℕ) (high : ℕ) (e : PendingRow) → Rise low (serials rows ++ ds) high → first_of p rows ≡ Some e → low < e.pending.serial
found_above p low [] ds high e h f = absurd (cc)
found_above p low (x ∷ rows) ds high e h f =
    ⊎_elim
    (λ (k : p x ≡ true). let g : Some x ≡ Some e = rw k at f in let q : x ≡ e = cc in subst (λ (y : PendingRow). low < y.pending.serial) q h.0)
    (λ (k : p x ≡ false). let g : first_of p rows ≡ Some e = rw k at f in omega (arith, h.0, found_above p x.pending.serial rows ds high e h.1 g))
    (cases_Bool (p x))

other_serial : (s low : ℕ) (x : PendingRow) → x.pending.serial < s → row_has s x ≡ false
other_serial s low x l = ne_eqb x.pending.serial s (λ q. less x.pending.serial s l q)
  where
    less : (a b : ℕ) → a < b → a ≡ b → ⊥
    less a b l q = omega arith

-- what is found by its id is the row of its serial
by_serial : (p : PendingRow → Bool) (low : ℕ) (rows : List PendingRow) (ds : List ℕ) (high : ℕ) (e : PendingRow) → Rise low (serials rows ++ ds) high → first_of p rows ≡ Some e →
    first_of (row_has e.pending.serial) rows ≡ Some e
by_serial p low [] ds high e h f = absurd (cc)
by_serial p low (x ∷ rows) ds high e h f =
    ⊎_elim
    (λ (k : p x ≡ true).
    let g : Some x ≡ Some e = rw k at f in
    let q : x ≡ e = cc in
    let z : row_has e.pending.serial x ≡ true = eq-eqb x.pending.serial e.pending.serial (ap (λ (y : PendingRow). y.pending.serial) q) in
    rw z g)
    (λ (k : p x ≡ false).
    let g : first_of p rows ≡ Some e = rw k at f in
    let z : row_has e.pending.serial x ≡ false = other_serial e.pending.serial low x (found_above p x.pending.serial rows ds high e h.1 g) in
    rw z (by_serial p x.pending.serial rows ds high e h.1 g))
    (cases_Bool (p x))

none_above : (s low : ℕ) (rows : List PendingRow) (ds : List ℕ) (high : ℕ) → Rise low (serials rows ++ ds) high → s ≤ low → first_of (row_has s) rows ≡ None
none_above s low [] ds high h l = refl
none_above s low (x ∷ rows) ds high h l =
    let z : row_has s x ≡ false = ne_eqb x.pending.serial s (λ q. less x.pending.serial h.0 q) in
    rw z (none_above s x.pending.serial rows ds high h.1 (omega (arith, h.0, l)))
  where
    less : (a : ℕ) → low < a → a ≡ s → ⊥
    less a m q = omega arith

-- a row that is taken out is there no more
taken_gone : (p : PendingRow → Bool) (low : ℕ) (rows : List PendingRow) (ds : List ℕ) (high : ℕ) (e : PendingRow) → Rise low (serials rows ++ ds) high → first_of p rows ≡ Some e →
    first_of (row_has e.pending.serial) (without_first p rows) ≡ None
taken_gone p low [] ds high e h f = absurd (cc)
taken_gone p low (x ∷ rows) ds high e h f =
    ⊎_elim
    (λ (k : p x ≡ true).
    let g : Some x ≡ Some e = rw k at f in
    let q : x.pending.serial ≡ e.pending.serial = (let m : x ≡ e = cc in ap (λ (y : PendingRow). y.pending.serial) m) in
    rw k (none_above e.pending.serial x.pending.serial rows ds high h.1 (omega (arith, q))))
    (λ (k : p x ≡ false).
    let g : first_of p rows ≡ Some e = rw k at f in
    let z : row_has e.pending.serial x ≡ false = other_serial e.pending.serial low x (found_above p x.pending.serial rows ds high e h.1 g) in
    rw (k, z) (taken_gone p x.pending.serial rows ds high e h.1 g))
    (cases_Bool (p x))

none_without : {X : Type 0} (p q : X → Bool) (xs : List X) → first_of q xs ≡ None → first_of q (without_first p xs) ≡ None
none_without p q [] h = refl
none_without p q (x ∷ xs) h =
    ⊎_elim
    (λ (z : q x ≡ true). let k : Some x ≡ None = rw z at h in absurd (cc))
    (λ (z : q x ≡ false).
    let k : first_of q xs ≡ None = rw z at h in
    ⊎_elim
    (λ (m : p x ≡ true). rw m k)
    (λ (m : p x ≡ false). rw (m, z) (none_without p q xs k))
    (cases_Bool (p x)))
    (cases_Bool (q x))

-- a row that is left was there
left_there : (p : PendingRow → Bool) (s low : ℕ) (rows : List PendingRow) (ds : List ℕ) (high : ℕ) (e : PendingRow) → Rise low (serials rows ++ ds) high →
    first_of (row_has s) (without_first p rows) ≡ Some e → first_of (row_has s) rows ≡ Some e
left_there p s low [] ds high e h f = f
left_there p s low (x ∷ rows) ds high e h f =
    ⊎_elim
    (λ (k : p x ≡ true).
    let g : first_of (row_has s) rows ≡ Some e = rw k at f in
    let q : e.pending.serial ≡ s = eqb-true e.pending.serial s (first-passes (row_has s) rows e g) in
    let z : row_has s x ≡ false = other_serial s low x (let l : x.pending.serial < e.pending.serial = found_above (row_has s) x.pending.serial rows ds high e h.1 g in omega (arith, l, q)) in
    rw z g)
    (λ (k : p x ≡ false).
    let g : cond (row_has s x) (Some x) (first_of (row_has s) (without_first p rows)) ≡ Some e = rw k at f in
    ⊎_elim
    (λ (z : row_has s x ≡ true). let i : Some x ≡ Some e = rw z at g in rw z i)
    (λ (z : row_has s x ≡ false). let i : first_of (row_has s) (without_first p rows) ≡ Some e = rw z at g in rw z (left_there p s x.pending.serial rows ds high e h.1 i))
    (cases_Bool (row_has s x)))
    (cases_Bool (p x))

-- ==== one completion

told_within : (a : Response) (in_len : ℕ) → length_told a in_len ≤ in_len
told_within a in_len =
    ⊎_elim
    (λ (k : eqb (a.uflags / 2 % 2) 0 ≡ true). rw k (omega arith))
    (λ (k : eqb (a.uflags / 2 % 2) 0 ≡ false). rw k (min-le_left in_len a.read_len))
    (cases_Bool (eqb (a.uflags / 2 % 2) 0))

abbrev IsFront : RegionState → PendingData → List ℕ → Type 0
IsFront r p payload = (n : ℕ) × (n ≤ p.in_len) × (payload ≡ take n (bytes_along (size_of r) r.blocks p.blocks))

no_bytes : (r : RegionState) (p : PendingData) → IsFront r p []
no_bytes r p = (0, omega arith, refl)

front_read : (r : RegionState) (p : PendingData) (a : Response) → IsFront r p (payload_read (size_of r) r.blocks p a)
front_read r p a = go (eqb a.status 0)
  where
    go : (b : Bool) → IsFront r p (cond b (take (length_told a p.in_len) (bytes_along (size_of r) r.blocks p.blocks)) [])
    go true = (length_told a p.in_len, told_within a p.in_len, refl)
    go false = no_bytes r p

pub own_read : (r : RegionState) (p : PendingData) (a : Response) → CompletesOwn r p (completion_read (size_of r) r.blocks p a)
own_read r p a = go (eqb (a.uflags % 2) 1)
  where
    go : (b : Bool) → CompletesOwn r p (cond b (checked 0x04 0x44 0x00 p) (record (closed a.status (sense_read a) p) { payload = payload_read (size_of r) r.blocks p a }))
    go true = record { serial = refl; init = refl; tag = refl; payload = no_bytes r p }
    go false = record { serial = refl; init = refl; tag = refl; payload = front_read r p a }

-- ==== the items in order

-- what a clean has done so far
record CleanedTo (r : RegionState) (t k : TargetState) : Type 0 where
  sound : TargetSound k
  still : (s : ℕ) (e : PendingRow) → first_of (row_has s) k.rows ≡ Some e → first_of (row_has s) t.rows ≡ Some e
  logs : CleanLogs r t k

gone_longer : (r : RegionState) (before after : List PendingRow) (p : PendingRow → Bool) (more : List DoneData) → Every (CompletedBy r before after) more → Every (CompletedBy r before (without_first p after)) more
gone_longer r before after p more h =
    every-weaker (CompletedBy r before after) (CompletedBy r before (without_first p after)) more
    (λ d c. record { row = c.row; there = c.there; unexpired = c.unexpired; gone = none_without p (row_has d.serial) after c.gone; own = c.own }) h

logs_nothing : (r : RegionState) (t k : TargetState) (rows : List PendingRow) (p : PendingRow → Bool) → CleanLogs r t k → rows ≡ without_first p k.rows → (log : List DoneData) → log ≡ k.log ++ [] →
    CleanLogs r t (record k { rows = rows; log = log })
logs_nothing r t k rows p h e log l =
    record {
      more = h.more;
      log = l ∙ append-nil k.log ∙ h.log;
      each = subst (λ (xs : List PendingRow). Every (CompletedBy r t.rows xs) h.more) (sym e) (gone_longer r t.rows k.rows p h.more h.each);
    }

logs_one : (r : RegionState) (a : Response) (t k : TargetState) (p : PendingRow → Bool) (e : PendingRow) → CleanedTo r t k → first_of p k.rows ≡ Some e → (b : Bool) → e.pending.expired ≡ b →
    CleanLogs r t (record k { rows = without_first p k.rows; log = k.log ++ cond b [] (completion_read (size_of r) r.blocks e.pending a ∷ []) })
logs_one r a t k p e h f true x = logs_nothing r t k (without_first p k.rows) p h.logs refl (k.log ++ []) refl
logs_one r a t k p e h f false x =
    let d : DoneData = completion_read (size_of r) r.blocks e.pending a in
    let ds : List ℕ = delayed_serials k.delayed in
    let s : d.serial ≡ e.pending.serial = read_serial (size_of r) r.blocks e.pending a in
    let rise : Rise 0 (serials k.rows ++ ds) k.accepted = h.sound.serials.rise in
    let there : first_of (row_has e.pending.serial) t.rows ≡ Some e = h.still e.pending.serial e (by_serial p 0 k.rows ds k.accepted e rise f) in
    let gone : first_of (row_has e.pending.serial) (without_first p k.rows) ≡ None = taken_gone p 0 k.rows ds k.accepted e rise f in
    record {
      more = h.logs.more ++ d ∷ [];
      log = ap (λ l. l ++ d ∷ []) h.logs.log ∙ append_assoc t.log h.logs.more (d ∷ []);
      each = every-append (CompletedBy r t.rows (without_first p k.rows)) h.logs.more (d ∷ []) (gone_longer r t.rows k.rows p h.logs.more h.logs.each) (
        record {
          row = e;
          there = ap (λ n. first_of (row_has n) t.rows) s ∙ there;
          unexpired = x;
          gone = ap (λ n. first_of (row_has n) (without_first p k.rows)) s ∙ gone;
          own = own_read r e.pending a;
        },
        tt,
      );
    }

still_after : (r : RegionState) (t k : TargetState) (p : PendingRow → Bool) → CleanedTo r t k → (s : ℕ) (e : PendingRow) → first_of (row_has s) (without_first p k.rows) ≡ Some e → first_of (row_has s) t.rows ≡ Some e
still_after r t k p h s e f = h.still s e (left_there p s 0 k.rows (delayed_serials k.delayed) k.accepted e h.sound.serials.rise f)

logs_as : (r : RegionState) (t k after : TargetState) → CleanLogs r t k → after.rows ≡ k.rows → after.log ≡ k.log → CleanLogs r t after
logs_as r t k after h e l =
    record { more = h.more; log = l ∙ h.log; each = subst (λ (xs : List PendingRow). Every (CompletedBy r t.rows xs) h.more) (sym e) h.each }

cleaned_by : (r : RegionState) (a : Response) (t k : TargetState) (x : Recorded) (xs : List Recorded) (o : Option PendingRow) → CleanedTo r t k → first_of (has_id a.id) k.rows ≡ o →
    TargetSound (answered_by r a k x xs o) → CleanedTo r t (answered_by r a k x xs o)
cleaned_by r a t k x xs None h f w = record { sound = w; still = h.still; logs = logs_as r t k (answered_by r a k x xs None) h.logs refl refl }
cleaned_by r a t k x xs (Some e) h f w =
    record {
      sound = w;
      still = still_after r t k (has_id a.id) h;
      logs = logs_as r t (record k { rows = without_first (has_id a.id) k.rows; log = k.log ++ completions_read (size_of r) r.blocks e.pending a }) (answered_by r a k x xs (Some e))
          (logs_one r a t k (has_id a.id) e h f e.pending.expired refl) refl refl;
    }

cleaned_one : (r : RegionState) (t k : TargetState) (x : Recorded) (xs : List Recorded) (c : ItemKind) → CleanedTo r t k → CleanedTo r t (one_cleaned r k x xs c)
cleaned_one r t k x xs kind.Pad h = record { sound = sound_one r k x xs kind.Pad h.sound; still = h.still; logs = logs_as r t k (one_cleaned r k x xs kind.Pad) h.logs refl refl }
cleaned_one r t k x xs kind.Tmr h = record { sound = sound_one r k x xs kind.Tmr h.sound; still = h.still; logs = logs_as r t k (one_cleaned r k x xs kind.Tmr) h.logs refl refl }
cleaned_one r t k x xs kind.Cmd h =
    let a : Response = response_in r k in
    cleaned_by r a t k x xs (first_of (has_id a.id) k.rows) h refl (sound_one r k x xs kind.Cmd h.sound)

pub clean_logs : (r : RegionState) (t : TargetState) → TargetSound t → CleanLogs r t (target_cleaned r t)
clean_logs r t h =
    let start : CleanedTo r t t = record { sound = h; still = λ s e f. f; logs = record { more = []; log = sym (append-nil t.log); each = tt } } in
    let end : CleanedTo r t (target_cleaned r t) = clean_keeps (CleanedTo r t) r t (λ k x ys c. cleaned_one r t k x ys x.kind c) start in
    end.logs
