-- The serials of the target, whatever bytes it reads: how each call leaves each of them in one place.
use Rattle.std.proofs.Common.{◌≡◌, ℕ, ◌+◌, ◌%◌, Bool, true, false, not, cond, ◌&&◌, eqb, ltb, leb, List, [], ◌∷◌, ◌++◌, map, Option, Some, None, refl, sym, ap, ◌∙◌, arith, subst, ⊎_elim, append_assoc, append-nil}
use Rattle.std.specs.List.{filter}
use Rattle.std.proofs.lemmas.Bool.{cases_Bool, false≢true, leb-true, le-ltb}
use Rattle.std.proofs.lemmas.List.{map-append}
use Rattle.std.proofs.lemmas.List.Sums.{sum_by-cons, sum_by_push, sum_by-append}
use Rattle.tcmu_types.specs.Data.{DoneData}
use Rattle.region_model.specs.declared.entry.Response.{Response}
use Rattle.tcmu_types.specs.Lists.{first_of, without_first}
use Rattle.tcmu_model.specs.Device.{Delayed}
use Rattle.tcmu_model.specs.Events.{has_left, departure, reset_completion}
use Rattle.tcmu_model.specs.Sound.{delayed_serials, is_delayed_at, times_logged}
use Rattle.tcmu_types.specs.Numbers.{Rise}
use Rattle.region_model.specs.Pending.{PendingData}
use Rattle.region_model.specs.Sides.{PendingRow}
use Rattle.region_model.specs.TargetSteps.{is_due_at, expired_at, checked}
use Rattle.region_model.specs.TargetCleans.{completion_read, completions_read, reset_log}
use Rattle.tcmu_types.proofs.Counts.{sum-without_first, counts_none, counts_one}
use Rattle.tcmu_types.proofs.Everies.{map_kept}
use Rattle.tcmu_types.proofs.Rises.{rise_from, rise_push, rise_order}
use Rattle.tcmu_model.proofs.SoundSubmit.{accepted_more, delayed_push}
use Rattle.tcmu_model.proofs.SoundEvents.{left_delayed, rise_behind, delayed_rise, reset_delayed}
use Rattle.ring_laws.specs.Calls.{is_pending_at, times_pending, times_delayed, SerialsSound}
use Rattle.ring_laws.proofs.PendingRows.{only_expires}

pub no_serials : SerialsSound 0 [] [] []
no_serials = record { rise = omega arith; accounted = λ s. none s }
  where
    none : (s : ℕ) → 0 + 0 + 0 ≡ cond (ltb 0 s && leb s 0) 1 0
    none s =
        ⊎_elim
        (λ (e : leb s 0 ≡ true). let z : ltb 0 s ≡ false = le-ltb 0 s (leb-true s 0 e) in rw z refl)
        (λ (e : leb s 0 ≡ false). rw e (sym (counts_none (ltb 0 s))))
        (cases_Bool (leb s 0))

-- ==== a command is laid

serials_push : (rows : List PendingRow) (e : PendingRow) (ds : List ℕ) → map (λ (x : PendingRow). x.pending.serial) (rows ++ e ∷ []) ++ ds ≡ map (λ (x : PendingRow). x.pending.serial) rows ++ e.pending.serial ∷ ds
serials_push rows e ds =
    ap (λ xs. xs ++ ds) (map-append (λ (x : PendingRow). x.pending.serial) rows (e ∷ []))
    ∙ append_assoc (map (λ (x : PendingRow). x.pending.serial) rows) (e.pending.serial ∷ []) ds

pending_push : (k : ℕ) (rows : List PendingRow) (e : PendingRow) → e.pending.expired ≡ false → times_pending (rows ++ e ∷ []) k ≡ times_pending rows k + cond (eqb e.pending.serial k) 1 0
pending_push k rows e x =
    let a : times_pending (rows ++ e ∷ []) k ≡ times_pending rows k + cond (is_pending_at k e) 1 0 = sum_by_push (λ (v : PendingRow). cond {A = ℕ} (is_pending_at k v) 1 0) rows e in
    let b : cond {A = ℕ} (is_pending_at k e) 1 0 ≡ cond (eqb e.pending.serial k) 1 0 = rw x (counts_one (eqb e.pending.serial k)) in
    omega (arith, a, b)

-- a command is accepted and laid
pub serials_queued : (n : ℕ) (rows : List PendingRow) (log : List DoneData) (e : PendingRow) → SerialsSound n rows [] log → e.pending.serial ≡ n + 1 → e.pending.expired ≡ false →
    SerialsSound (n + 1) (rows ++ e ∷ []) [] log
serials_queued n rows log e h s x =
    let ss : List ℕ = map (λ (v : PendingRow). v.pending.serial) rows in
    let r0 : Rise 0 ss n = subst (λ (xs : List ℕ). Rise 0 xs n) (append-nil ss) h.rise in
    let r1 : Rise 0 (ss ++ (n + 1) ∷ []) (n + 1) = rise_push 0 ss n (n + 1) (omega arith) r0 in
    record {
      rise = subst (λ (xs : List ℕ). Rise 0 xs (n + 1)) (sym (serials_push rows e [] ∙ ap (λ (k : ℕ). ss ++ k ∷ []) s)) r1;
      accounted = λ k.
          let c : cond {A = ℕ} (eqb e.pending.serial k) 1 0 ≡ cond (eqb (n + 1) k) 1 0 = ap (λ z. cond {A = ℕ} (eqb z k) 1 0) s in
          omega (arith, h.accounted k, accepted_more n k, pending_push k rows e x, c);
    }

-- a command is accepted and waits
pub serials_delayed : (n : ℕ) (rows : List PendingRow) (ws : List Delayed) (log : List DoneData) (w : Delayed) → SerialsSound n rows ws log → w.serial ≡ n + 1 → SerialsSound (n + 1) rows (ws ++ w ∷ []) log
serials_delayed n rows ws log w h s =
    let ss : List ℕ = map (λ (v : PendingRow). v.pending.serial) rows in
    let e : delayed_serials (ws ++ w ∷ []) ≡ delayed_serials ws ++ (n + 1) ∷ [] = map-append (λ (v : Delayed). v.serial) ws (w ∷ []) ∙ ap (λ (k : ℕ). delayed_serials ws ++ k ∷ []) s in
    let r : Rise 0 ((ss ++ delayed_serials ws) ++ (n + 1) ∷ []) (n + 1) = rise_push 0 (ss ++ delayed_serials ws) n (n + 1) (omega arith) h.rise in
    record {
      rise = subst (λ (xs : List ℕ). Rise 0 xs (n + 1)) (append_assoc ss (delayed_serials ws) ((n + 1) ∷ []) ∙ ap (λ (xs : List ℕ). ss ++ xs) (sym e)) r;
      accounted = λ k. omega (arith, h.accounted k, accepted_more n k, delayed_push k (n + 1) ws w s);
    }

-- one that waits is laid
pub serials_entered : (n : ℕ) (rows : List PendingRow) (w : Delayed) (ws : List Delayed) (log : List DoneData) (e : PendingRow) → SerialsSound n rows (w ∷ ws) log → e.pending.serial ≡ w.serial →
    e.pending.expired ≡ false → SerialsSound n (rows ++ e ∷ []) ws log
serials_entered n rows w ws log e h s x =
    let ss : List ℕ = map (λ (v : PendingRow). v.pending.serial) rows in
    record {
      rise = subst (λ (xs : List ℕ). Rise 0 xs n) (sym (serials_push rows e (delayed_serials ws) ∙ ap (λ (k : ℕ). ss ++ k ∷ delayed_serials ws) s)) h.rise;
      accounted = λ k.
          let c : cond {A = ℕ} (eqb e.pending.serial k) 1 0 ≡ cond (eqb w.serial k) 1 0 = ap (λ z. cond {A = ℕ} (eqb z k) 1 0) s in
          let a : times_delayed (w ∷ ws) k ≡ cond (eqb w.serial k) 1 0 + times_delayed ws k = sum_by-cons (λ (v : Delayed). cond {A = ℕ} (is_delayed_at k v) 1 0) w ws in
          omega (arith, h.accounted k, pending_push k rows e x, c, a);
    }

-- ==== a command is answered

rise_without : (p : PendingRow → Bool) (low : ℕ) (rows : List PendingRow) (ds : List ℕ) (high : ℕ) → Rise low (map (λ (v : PendingRow). v.pending.serial) rows ++ ds) high →
    Rise low (map (λ (v : PendingRow). v.pending.serial) (without_first p rows) ++ ds) high
rise_without p low [] ds high h = h
rise_without p low (e ∷ rows) ds high h =
    ⊎_elim
    (λ (k : p e ≡ true). rw k (rise_from e.pending.serial low (map (λ (v : PendingRow). v.pending.serial) rows ++ ds) high (omega (arith, h.0)) h.1))
    (λ (k : p e ≡ false). rw k (h.0, rise_without p e.pending.serial rows ds high h.1))
    (cases_Bool (p e))

pub read_serial : (size : ℕ) (area : List (Option (List ℕ))) (p : PendingData) (a : Response) → (completion_read size area p a).serial ≡ p.serial
read_serial size area p a =
    ⊎_elim
    (λ (k : eqb (a.uflags % 2) 1 ≡ true). rw k refl)
    (λ (k : eqb (a.uflags % 2) 1 ≡ false). rw k refl)
    (cases_Bool (eqb (a.uflags % 2) 1))

read_logged : (size : ℕ) (area : List (Option (List ℕ))) (log : List DoneData) (e : PendingRow) (a : Response) (k : ℕ) →
    times_logged (log ++ completions_read size area e.pending a) k ≡ times_logged log k + cond (is_pending_at k e) 1 0
read_logged size area log e a k =
    ⊎_elim
    (λ (x : e.pending.expired ≡ true).
    let z : cond {A = ℕ} (eqb e.pending.serial k && false) 1 0 ≡ 0 = counts_none (eqb e.pending.serial k) in
    let y : times_logged (log ++ []) k ≡ times_logged log k = ap (λ (l : List DoneData). times_logged l k) (append-nil log) in
    rw x (omega (arith, z, y)))
    (λ (x : e.pending.expired ≡ false).
    let d : DoneData = completion_read size area e.pending a in
    let y : times_logged (log ++ d ∷ []) k ≡ times_logged log k + cond (eqb d.serial k) 1 0 = sum_by_push (λ (v : DoneData). cond {A = ℕ} (eqb v.serial k) 1 0) log d in
    let s : cond {A = ℕ} (eqb d.serial k) 1 0 ≡ cond (eqb e.pending.serial k) 1 0 = ap (λ n. cond {A = ℕ} (eqb n k) 1 0) (read_serial size area e.pending a) in
    rw x (omega (arith, y, s, counts_one (eqb e.pending.serial k))))
    (cases_Bool e.pending.expired)

pub serials_answered : (n size : ℕ) (area : List (Option (List ℕ))) (p : PendingRow → Bool) (rows : List PendingRow) (ws : List Delayed) (log : List DoneData) (e : PendingRow) (a : Response) →
    SerialsSound n rows ws log → first_of p rows ≡ Some e → SerialsSound n (without_first p rows) ws (log ++ completions_read size area e.pending a)
serials_answered n size area p rows ws log e a h f =
    record {
      rise = rise_without p 0 rows (delayed_serials ws) n h.rise;
      accounted = λ k.
          let c : times_pending (without_first p rows) k + cond (is_pending_at k e) 1 0 ≡ times_pending rows k = sum-without_first p (λ (v : PendingRow). cond {A = ℕ} (is_pending_at k v) 1 0) rows e f in
          omega (arith, h.accounted k, c, read_logged size area log e a k);
    }

-- ==== a tick

-- what expires is pending no more, and logged
due_pending : (now k : ℕ) (rows : List PendingRow) →
    times_logged (map (λ (e : PendingRow). checked 0x0b 0x08 0x01 e.pending) (filter (is_due_at now) rows)) k + times_pending (map (expired_at now) rows) k ≡ times_pending rows k
due_pending now k [] = refl
due_pending now k (e ∷ rows) =
    let f : PendingRow → DoneData = λ (v : PendingRow). checked 0x0b 0x08 0x01 v.pending in
    let a : times_pending (e ∷ rows) k ≡ cond (is_pending_at k e) 1 0 + times_pending rows k = sum_by-cons (λ (v : PendingRow). cond {A = ℕ} (is_pending_at k v) 1 0) e rows in
    let b : times_pending (map (expired_at now) (e ∷ rows)) k ≡ cond (is_pending_at k (expired_at now e)) 1 0 + times_pending (map (expired_at now) rows) k = sum_by-cons (λ (v : PendingRow). cond {A = ℕ} (is_pending_at k v) 1 0) (expired_at now e) (map (expired_at now) rows) in
    ⊎_elim
    (λ (z : is_due_at now e ≡ true).
    let x : e.pending.expired ≡ false = open_due e.pending.expired (elim (e.pending.deadline) as (λ o. Bool) [ None ↦ false | Some at ↦ leb at now ]) z in
    let c : times_logged (map f (filter (is_due_at now) (e ∷ rows))) k ≡ cond (eqb e.pending.serial k) 1 0 + times_logged (map f (filter (is_due_at now) rows)) k = rw z (sum_by-cons (λ (v : DoneData). cond {A = ℕ} (eqb v.serial k) 1 0) (f e) (map f (filter (is_due_at now) rows))) in
    let g : cond {A = ℕ} (is_pending_at k (expired_at now e)) 1 0 ≡ 0 = rw z (counts_none (eqb e.pending.serial k)) in
    let i : cond {A = ℕ} (is_pending_at k e) 1 0 ≡ cond (eqb e.pending.serial k) 1 0 = rw x (counts_one (eqb e.pending.serial k)) in
    omega (arith, a, b, c, g, i, due_pending now k rows))
    (λ (z : is_due_at now e ≡ false).
    let c : times_logged (map f (filter (is_due_at now) (e ∷ rows))) k ≡ times_logged (map f (filter (is_due_at now) rows)) k = rw z refl in
    let g : cond {A = ℕ} (is_pending_at k (expired_at now e)) 1 0 ≡ cond (is_pending_at k e) 1 0 = rw z refl in
    omega (arith, a, b, c, g, due_pending now k rows))
    (cases_Bool (is_due_at now e))
  where
    open_due : (x y : Bool) → (not x && y) ≡ true → x ≡ false
    open_due true y h = absurd (false≢true h)
    open_due false y h = refl

pub serials_ticked : (n now : ℕ) (rows : List PendingRow) (ws : List Delayed) (log : List DoneData) → SerialsSound n rows ws log →
    SerialsSound n (map (expired_at now) rows) (filter (λ (w : Delayed). not (has_left now w)) ws)
    (log ++ (map (λ (e : PendingRow). checked 0x0b 0x08 0x01 e.pending) (filter (is_due_at now) rows) ++ map departure (filter (has_left now) ws)))
serials_ticked n now rows ws log h =
    let ss : List ℕ = map (λ (v : PendingRow). v.pending.serial) rows in
    let stay : Delayed → Bool = λ w. not (has_left now w) in
    let due : List DoneData = map (λ (e : PendingRow). checked 0x0b 0x08 0x01 e.pending) (filter (is_due_at now) rows) in
    let gone : List DoneData = map departure (filter (has_left now) ws) in
    let same : map (λ (v : PendingRow). v.pending.serial) (map (expired_at now) rows) ≡ ss = map_kept (expired_at now) (λ (v : PendingRow). v.pending.serial) rows (λ e. (only_expires now e).serial) in
    record {
      rise = subst (λ (xs : List ℕ). Rise 0 (xs ++ delayed_serials (filter stay ws)) n) (sym same)
          (rise_behind 0 ss (delayed_serials ws) (delayed_serials (filter stay ws)) n (λ low r. delayed_rise stay low ws n r) h.rise);
      accounted = λ k.
          let a : times_logged (log ++ (due ++ gone)) k ≡ times_logged log k + times_logged (due ++ gone) k = sum_by-append (λ (v : DoneData). cond {A = ℕ} (eqb v.serial k) 1 0) log (due ++ gone) in
          let b : times_logged (due ++ gone) k ≡ times_logged due k + times_logged gone k = sum_by-append (λ (v : DoneData). cond {A = ℕ} (eqb v.serial k) 1 0) due gone in
          omega (arith, a, b, due_pending now k rows, left_delayed now k ws, h.accounted k);
    }

-- ==== a reset

pub log_serial : (level : ℕ) (p : PendingData) → (reset_log level p).serial ≡ p.serial
log_serial level p =
    ⊎_elim
    (λ (e : eqb level 1 ≡ true). rw e refl)
    (λ (e : eqb level 1 ≡ false). rw e refl)
    (cases_Bool (eqb level 1))

reset_pending : (level k : ℕ) (rows : List PendingRow) →
    times_logged (map (λ (e : PendingRow). reset_log level e.pending) (filter (λ (e : PendingRow). not e.pending.expired) rows)) k ≡ times_pending rows k
reset_pending level k [] = refl
reset_pending level k (e ∷ rows) =
    let f : PendingRow → DoneData = λ (v : PendingRow). reset_log level v.pending in
    let rest : List DoneData = map f (filter (λ (v : PendingRow). not v.pending.expired) rows) in
    let a : times_pending (e ∷ rows) k ≡ cond (is_pending_at k e) 1 0 + times_pending rows k = sum_by-cons (λ (v : PendingRow). cond {A = ℕ} (is_pending_at k v) 1 0) e rows in
    ⊎_elim
    (λ (x : e.pending.expired ≡ true).
    let c : times_logged (map f (filter (λ (v : PendingRow). not v.pending.expired) (e ∷ rows))) k ≡ times_logged rest k = rw x refl in
    let g : cond {A = ℕ} (is_pending_at k e) 1 0 ≡ 0 = rw x (counts_none (eqb e.pending.serial k)) in
    omega (arith, a, c, g, reset_pending level k rows))
    (λ (x : e.pending.expired ≡ false).
    let c : times_logged (map f (filter (λ (v : PendingRow). not v.pending.expired) (e ∷ rows))) k ≡ cond (eqb (f e).serial k) 1 0 + times_logged rest k = rw x (sum_by-cons (λ (v : DoneData). cond {A = ℕ} (eqb v.serial k) 1 0) (f e) rest) in
    let s : cond {A = ℕ} (eqb (f e).serial k) 1 0 ≡ cond (eqb e.pending.serial k) 1 0 = ap (λ n. cond {A = ℕ} (eqb n k) 1 0) (log_serial level e.pending) in
    let g : cond {A = ℕ} (is_pending_at k e) 1 0 ≡ cond (eqb e.pending.serial k) 1 0 = rw x (counts_one (eqb e.pending.serial k)) in
    omega (arith, a, c, s, g, reset_pending level k rows))
    (cases_Bool e.pending.expired)

pub serials_reset : (n level : ℕ) (rows : List PendingRow) (ws : List Delayed) (log : List DoneData) → SerialsSound n rows ws log →
    SerialsSound n [] []
    (log ++ (map (λ (e : PendingRow). reset_log level e.pending) (filter (λ (e : PendingRow). not e.pending.expired) rows) ++ map (λ (w : Delayed). reset_completion level w.serial w.command) ws))
serials_reset n level rows ws log h =
    let closed : List DoneData = map (λ (e : PendingRow). reset_log level e.pending) (filter (λ (e : PendingRow). not e.pending.expired) rows) in
    let waited : List DoneData = map (λ (w : Delayed). reset_completion level w.serial w.command) ws in
    record {
      rise = rise_order 0 (map (λ (v : PendingRow). v.pending.serial) rows ++ delayed_serials ws) n h.rise;
      accounted = λ k.
          let a : times_logged (log ++ (closed ++ waited)) k ≡ times_logged log k + times_logged (closed ++ waited) k = sum_by-append (λ (v : DoneData). cond {A = ℕ} (eqb v.serial k) 1 0) log (closed ++ waited) in
          let b : times_logged (closed ++ waited) k ≡ times_logged closed k + times_logged waited k = sum_by-append (λ (v : DoneData). cond {A = ℕ} (eqb v.serial k) 1 0) closed waited in
          omega (arith, a, b, reset_pending level k rows, reset_delayed level k ws, h.accounted k);
    }
