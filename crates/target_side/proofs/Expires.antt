-- Commands that expire, one after another.
use Rattle.std.proofs.Common.{◌≡◌, ℕ, ◌+◌, ◌≤◌, eqb, leb, Bool, true, false, cond, not, List, [], ◌∷◌, ◌++◌, map, Some, None, refl, sym, ap, ◌∙◌, arith, subst, ⊎_elim, append_assoc}
use Rattle.std.specs.Prelude.{◌&&◌}
use Rattle.std.specs.List.{filter}
use Rattle.std.specs.Option.{option_map}
use Rattle.std.proofs.lemmas.Bool.{cases_Bool, true≢false, eq-eqb}
use Rattle.std.proofs.lemmas.List.{append-nil}
use Rattle.tcmu_types.specs.Data.{DoneData}
use Rattle.tcmu_types.specs.Lists.{first_of, with_first}
use Rattle.tcmu_types.proofs.Firsts.{first-passes}
use Rattle.region_model.specs.Pending.{PendingData}
use Rattle.region_model.specs.Sides.{PendingRow}
use Rattle.region_model.specs.TargetSteps.{checked, expired_at, is_due_at}
use Rattle.region_model.specs.Represents.{has_id}
use Rattle.target_table.specs.Rows.{command_of, is_waiting, with_expired}
use Rattle.target_side.specs.Books.{is_unlogged, to_log}
use Rattle.target_side.specs.HeldRows.{HeldRows, IsNextDue}
use Rattle.target_side.specs.Ticking.{ExpiresNone, ExpiresOne, due_logs}
use Rattle.target_side.proofs.Completions.{count_cons, to_log_left}
use Rattle.target_side.proofs.Rows.{none_not, some_same}

not_due : (now : ℕ) (x r : PendingRow) (xs : List PendingRow) → first_of (is_due_at now) (x ∷ xs) ≡ Some r → eqb x.id r.id ≡ false → is_due_at now x ≡ false
not_due now x r xs h n =
    ⊎_elim
    (λ (k : is_due_at now x ≡ true).
    let e : x ≡ r = some_same x r (rw k at h) in
    absurd (true≢false (sym (eq-eqb x.id r.id (ap (λ (y : PendingRow). y.id) e)) ∙ n)))
    (λ (k : is_due_at now x ≡ false). k)
    (cases_Bool (is_due_at now x))

-- what is expired later is the same
same_rows : (now : ℕ) (rows : List PendingRow) (r : PendingRow) → is_due_at now r ≡ true → first_of (has_id r.id) rows ≡ Some r → map (expired_at now) (with_first (has_id r.id) with_expired rows) ≡ map (expired_at now) rows
same_rows now [] r d h = absurd (none_not r h)
same_rows now (x ∷ xs) r d h =
    ⊎_elim
    (λ (k : eqb x.id r.id ≡ true).
    let e : x ≡ r = some_same x r (rw k at h) in
    let q : is_due_at now x ≡ true = subst (λ (y : PendingRow). is_due_at now y ≡ true) (sym e) d in
    rw k (ap (λ (y : PendingRow). y ∷ map (expired_at now) xs) (sym (ap (λ b. cond b (with_expired x) x) q))))
    (λ (k : eqb x.id r.id ≡ false).
    let g : first_of (has_id r.id) xs ≡ Some r = rw k at h in
    rw k (ap (λ ys. expired_at now x ∷ ys) (same_rows now xs r d g)))
    (cases_Bool (eqb x.id r.id))

filter_here : (p : PendingRow → Bool) (x : PendingRow) (xs : List PendingRow) → p x ≡ true → filter p (x ∷ xs) ≡ x ∷ filter p xs
filter_here p x xs h = rw h refl

filter_past : (p : PendingRow → Bool) (x : PendingRow) (xs : List PendingRow) → p x ≡ false → filter p (x ∷ xs) ≡ filter p xs
filter_past p x xs h = rw h refl

same_logs : (now : ℕ) (rows : List PendingRow) (r : PendingRow) → first_of (is_due_at now) rows ≡ Some r → first_of (has_id r.id) rows ≡ Some r →
    checked 0x0b 0x08 0x01 r.pending ∷ due_logs now (with_first (has_id r.id) with_expired rows) ≡ due_logs now rows
same_logs now [] r d h = absurd (none_not r h)
same_logs now (x ∷ xs) r d h =
    ⊎_elim
    (λ (k : eqb x.id r.id ≡ true).
    let e : x ≡ r = some_same x r (rw k at h) in
    let q : is_due_at now x ≡ true = subst (λ (y : PendingRow). is_due_at now y ≡ true) (sym e) (first-passes (is_due_at now) (x ∷ xs) r d) in
    let a : filter (is_due_at now) (x ∷ xs) ≡ x ∷ filter (is_due_at now) xs = filter_here (is_due_at now) x xs q in
    let b : filter (is_due_at now) (with_expired x ∷ xs) ≡ filter (is_due_at now) xs = filter_past (is_due_at now) (with_expired x) xs refl in
    rw k (
    ap (λ ys. checked 0x0b 0x08 0x01 r.pending ∷ map (λ (y : PendingRow). checked 0x0b 0x08 0x01 y.pending) ys) b
    ∙ ap (λ (y : PendingRow). checked 0x0b 0x08 0x01 y.pending ∷ due_logs now xs) (sym e)
    ∙ ap (map (λ (y : PendingRow). checked 0x0b 0x08 0x01 y.pending)) (sym a)
    ))
    (λ (k : eqb x.id r.id ≡ false).
    let n : is_due_at now x ≡ false = not_due now x r xs d k in
    let g : first_of (has_id r.id) xs ≡ Some r = rw k at h in
    let f : first_of (is_due_at now) xs ≡ Some r = rw n at d in
    let a : filter (is_due_at now) (x ∷ xs) ≡ filter (is_due_at now) xs = filter_past (is_due_at now) x xs n in
    let b : filter (is_due_at now) (x ∷ with_first (has_id r.id) with_expired xs) ≡ filter (is_due_at now) (with_first (has_id r.id) with_expired xs) = filter_past (is_due_at now) x (with_first (has_id r.id) with_expired xs) n in
    rw k (
    ap (λ ys. checked 0x0b 0x08 0x01 r.pending ∷ map (λ (y : PendingRow). checked 0x0b 0x08 0x01 y.pending) ys) b
    ∙ same_logs now xs r f g
    ∙ ap (map (λ (y : PendingRow). checked 0x0b 0x08 0x01 y.pending)) (sym a)
    ))
    (cases_Bool (eqb x.id r.id))

one_less : (rows : List PendingRow) (r : PendingRow) → is_waiting r ≡ true → first_of (has_id r.id) rows ≡ Some r → to_log (with_first (has_id r.id) with_expired rows) + 1 ≡ to_log rows
one_less [] r w h = absurd (none_not r h)
one_less (x ∷ xs) r w h =
    ⊎_elim
    (λ (k : eqb x.id r.id ≡ true).
    let e : x ≡ r = some_same x r (rw k at h) in
    let u : is_unlogged x ≡ true = subst (λ (y : PendingRow). is_unlogged y ≡ true) (sym e) w in
    let a : to_log (x ∷ xs) ≡ 1 + to_log xs = count_cons is_unlogged x xs ∙ ap (λ b. cond {A = ℕ} b 1 0 + to_log xs) u in
    let b : to_log (with_expired x ∷ xs) ≡ 0 + to_log xs = count_cons is_unlogged (with_expired x) xs in
    let t : to_log (with_expired x ∷ xs) + 1 ≡ to_log (x ∷ xs) = omega (arith, a, b) in
    rw k t)
    (λ (k : eqb x.id r.id ≡ false).
    let g : first_of (has_id r.id) xs ≡ Some r = rw k at h in
    let a = count_cons is_unlogged x xs in
    let b = count_cons is_unlogged x (with_first (has_id r.id) with_expired xs) in
    let i = one_less xs r w g in
    let t : to_log (x ∷ with_first (has_id r.id) with_expired xs) + 1 ≡ to_log (x ∷ xs) = omega (arith, a, b, i) in
    rw k t)
    (cases_Bool (eqb x.id r.id))

-- the first that is due expires
pub expires_one : (now : ℕ) (h after : HeldRows) (log logged : List DoneData) (id : ℕ) (n : IsNextDue now h.rows id) → after ≡ record h { rows = with_first (has_id id) with_expired h.rows } →
    logged ≡ log ++ checked 0x0b 0x08 0x01 n.row.pending ∷ [] → ExpiresOne now h log after logged
expires_one now h after log logged id n a l =
    let rows' : List PendingRow = with_first (has_id n.row.id) with_expired h.rows in
    let i : id ≡ n.row.id = sym n.id_is in
    let own : first_of (has_id n.row.id) h.rows ≡ Some n.row = ap (λ k. first_of (has_id k) h.rows) n.id_is ∙ n.own in
    let is : after ≡ record h { rows = rows' } = a ∙ ap (λ k. record h { rows = with_first (has_id k) with_expired h.rows }) i in
    let e : after.rows ≡ rows' = ap (λ (x : HeldRows). x.rows) is in
    let less : to_log rows' + 1 ≡ to_log h.rows = one_less h.rows n.row (first-passes is_waiting h.rows n.row n.waits) own in
    record {
      limit = ap (λ (x : HeldRows). x.limit) is;
      rows = ap (map (expired_at now)) e ∙ same_rows now h.rows n.row (first-passes (is_due_at now) h.rows n.row n.due) own;
      log = ap (λ xs. xs ++ due_logs now after.rows) l
          ∙ (append_assoc log (checked 0x0b 0x08 0x01 n.row.pending ∷ []) (due_logs now after.rows)
          ∙ ap (λ xs. log ++ xs) (ap (λ ys. checked 0x0b 0x08 0x01 n.row.pending ∷ due_logs now ys) e ∙ same_logs now h.rows n.row n.due own));
      less = ap (λ ys. to_log ys + 1) e ∙ less;
    }

-- a completion is still to come
pub one_waits : (now : ℕ) (rows : List PendingRow) (id : ℕ) → IsNextDue now rows id → 1 ≤ to_log rows
one_waits now rows id n =
    let left = to_log_left is_waiting rows n.row n.waits in
    let one : cond {A = ℕ} (is_unlogged n.row) 1 0 ≡ 1 = ap (λ b. cond {A = ℕ} b 1 0) (first-passes is_waiting rows n.row n.waits) in
    omega (arith, left, one)

-- the command of the id is the one that is due
pub next_pending : (now : ℕ) (rows : List PendingRow) (id : ℕ) (p : PendingData) (n : IsNextDue now rows id) → Some p ≡ command_of rows id → p ≡ n.row.pending
next_pending now rows id p n h = some_same p n.row.pending (h ∙ ap (option_map (λ (r : PendingRow). r.pending)) n.own)

none_filter : (now : ℕ) (rows : List PendingRow) → first_of (is_due_at now) rows ≡ None → filter (is_due_at now) rows ≡ []
none_filter now [] h = refl
none_filter now (x ∷ xs) h =
    ⊎_elim
    (λ (k : is_due_at now x ≡ true). absurd (none_not x (sym (rw k at h))))
    (λ (k : is_due_at now x ≡ false). filter_past (is_due_at now) x xs k ∙ none_filter now xs (rw k at h))
    (cases_Bool (is_due_at now x))

pub expires_none : (now : ℕ) (h after : HeldRows) (log logged : List DoneData) → first_of (is_due_at now) h.rows ≡ None → after ≡ h → logged ≡ log → ExpiresNone now h log after logged
expires_none now h after log logged n a l = record { same = a; log = l; none = none_filter now h.rows n }

-- ==== all of them

rows_none : (now : ℕ) (rows : List PendingRow) → filter (is_due_at now) rows ≡ [] → map (expired_at now) rows ≡ rows
rows_none now [] h = refl
rows_none now (x ∷ xs) h =
    ⊎_elim
    (λ (k : is_due_at now x ≡ true). absurd (some_none (sym (filter_here (is_due_at now) x xs k) ∙ h)))
    (λ (k : is_due_at now x ≡ false).
    ap (λ (y : PendingRow). y ∷ map (expired_at now) xs) (ap (λ b. cond b (with_expired x) x) k)
    ∙ ap (λ ys. x ∷ ys) (rows_none now xs (sym (filter_past (is_due_at now) x xs k) ∙ h)))
    (cases_Bool (is_due_at now x))
  where
    some_none : {y : PendingRow} {ys : List PendingRow} → y ∷ ys ≡ [] → ⊥
    some_none h = cc

none_left : (now : ℕ) (rows : List PendingRow) → to_log rows ≡ 0 → filter (is_due_at now) rows ≡ []
none_left now [] h = refl
none_left now (x ∷ xs) h =
    let c = count_cons is_unlogged x xs in
    ⊎_elim
    (λ (k : x.pending.expired ≡ true).
    let n : is_due_at now x ≡ false = ap (λ b. not b && elim (x.pending.deadline) as (λ o. Bool) [ None ↦ false | Some at ↦ leb at now ]) k in
    let d : to_log (x ∷ xs) ≡ 0 + to_log xs = c ∙ ap (λ b. cond {A = ℕ} (not b) 1 0 + to_log xs) k in
    filter_past (is_due_at now) x xs n ∙ none_left now xs (omega (arith, d, h)))
    (λ (k : x.pending.expired ≡ false).
    let d : to_log (x ∷ xs) ≡ 1 + to_log xs = c ∙ ap (λ b. cond {A = ℕ} (not b) 1 0 + to_log xs) k in
    absurd (omega (arith, d, h)))
    (cases_Bool x.pending.expired)

-- what has come of it behind n steps, while some was due
pub record Expiring (now : ℕ) (before : HeldRows) (start : List DoneData) (n : ℕ) (at : HeldRows) (logged : List DoneData) : Type 0 where
  pub limit : at.limit ≡ before.limit
  pub rows : map (expired_at now) at.rows ≡ map (expired_at now) before.rows
  pub log : logged ++ due_logs now at.rows ≡ start ++ due_logs now before.rows
  pub less : to_log at.rows + n ≡ to_log before.rows

pub expiring_start : (now : ℕ) (h : HeldRows) (log : List DoneData) → Expiring now h log 0 h log
expiring_start now h log = record { limit = refl; rows = refl; log = refl; less = omega arith }

pub expiring_next : (now : ℕ) (h k after : HeldRows) (log mid logged : List DoneData) (n : ℕ) → Expiring now h log n k mid → ExpiresOne now k mid after logged → Expiring now h log (n + 1) after logged
expiring_next now h k after log mid logged n g o =
    let a = g.less in let b = o.less in
    record { limit = o.limit ∙ g.limit; rows = o.rows ∙ g.rows; log = o.log ∙ g.log; less = omega (arith, a, b) }

-- nothing more is due
pub record Expires (now : ℕ) (before : HeldRows) (start : List DoneData) (after : HeldRows) (logged : List DoneData) : Type 0 where
  pub rows : after ≡ record before { rows = map (expired_at now) before.rows }
  pub log : logged ≡ start ++ due_logs now before.rows

pub expires_end : (now : ℕ) (h k : HeldRows) (log mid : List DoneData) (n : ℕ) → Expiring now h log n k mid → filter (is_due_at now) k.rows ≡ [] → Expires now h log k mid
expires_end now h k log mid n g f =
    let e : k.rows ≡ map (expired_at now) h.rows = sym (rows_none now k.rows f) ∙ g.rows in
    let l : due_logs now k.rows ≡ [] = ap (map (λ (y : PendingRow). checked 0x0b 0x08 0x01 y.pending)) f in
    record {
      rows = ap (λ x. record { limit = x; rows = k.rows }) g.limit ∙ ap (λ ys. record { limit = h.limit; rows = ys }) e;
      log = sym (append-nil mid) ∙ (ap (λ xs. mid ++ xs) (sym l) ∙ g.log);
    }

pub expires_all : (now : ℕ) (h k : HeldRows) (log mid : List DoneData) (n : ℕ) → Expiring now h log n k mid → to_log h.rows ≤ n → Expires now h log k mid
expires_all now h k log mid n g l = let a = g.less in expires_end now h k log mid n g (none_left now k.rows (omega (arith, a, l)))
