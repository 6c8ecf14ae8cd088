-- What the numbers of the target's books keep, call by call.
use Rattle.std.proofs.Common.{◌≡◌, ℕ, ◌+◌, ◌*◌, ◌^◌, ◌≤◌, cond, Bool, false, List, [], ◌∷◌, ◌++◌, length, Some, sym, ap, arith, subst, length-append}
use Rattle.tcmu_types.specs.Data.{SettingsData}
use Rattle.tcmu_types.specs.Rules.{IsRingSize, IsSettings}
use Rattle.tcmu_types.specs.Lists.{first_of, without_first}
use Rattle.tcmu_model.specs.Device.{Delayed}
use Rattle.region_model.specs.Sides.{PendingRow, TargetState}
use Rattle.ring_laws.proofs.target_over_any_bytes.AnyRows.{one_less}
use Rattle.target_side.specs.declared.entries.Entries.{Entries}
use Rattle.target_side.specs.Books.{IsBooks, is_unlogged, to_log}
use Rattle.target_side.specs.Laid.{as_target}
use Rattle.target_side.proofs.Completions.{to_log_left, to_log_more}

-- the same numbers, whatever else has changed
pub record SameNumbers (t after : TargetState) : Type 0 where
  pub settings : after.settings ≡ t.settings
  pub now : after.now ≡ t.now
  pub laid : after.laid ≡ t.laid
  pub cleared : after.cleared ≡ t.cleared
  pub rows : after.rows ≡ t.rows
  pub delayed : after.delayed ≡ t.delayed
  pub accepted : after.accepted ≡ t.accepted

pub books_same : (t after : TargetState) (spare left : ℕ) → IsBooks t spare → SameNumbers t after → spare ≤ left → IsBooks after left
books_same t after spare left h s l =
    let m = h.moment in let c = h.counted in let a = h.accepted in let f = h.few in let r = h.room in
    let rows = ap (λ (xs : List PendingRow). length xs) s.rows in
    let logs = ap (λ (xs : List PendingRow). to_log xs) s.rows in
    let waits = ap (λ (xs : List Delayed). length xs) s.delayed in
    record {
      settings = subst IsSettings (sym s.settings) h.settings;
      moment = omega (arith, m, s.now);
      counted = omega (arith, c, s.laid, s.cleared, rows);
      accepted = omega (arith, a, s.laid, waits, s.accepted);
      few = omega (arith, f, s.accepted);
      room = omega (arith, r, logs, waits, l);
    }

-- a command is taken out
pub record Finished (p : PendingRow → Bool) (e : PendingRow) (t after : TargetState) : Type 0 where
  pub there : first_of p t.rows ≡ Some e
  pub settings : after.settings ≡ t.settings
  pub now : after.now ≡ t.now
  pub laid : after.laid ≡ t.laid
  pub cleared : after.cleared ≡ t.cleared + 1
  pub rows : after.rows ≡ without_first p t.rows
  pub delayed : after.delayed ≡ t.delayed
  pub accepted : after.accepted ≡ t.accepted

pub books_finished : (p : PendingRow → Bool) (e : PendingRow) (t after : TargetState) (spare left : ℕ) → IsBooks t spare → Finished p e t after → spare ≤ left + cond (is_unlogged e) 1 0 → IsBooks after left
books_finished p e t after spare left h s l =
    let m = h.moment in let c = h.counted in let a = h.accepted in let f = h.few in let r = h.room in
    let less = one_less p t.rows e s.there in
    let logs = to_log_left p t.rows e s.there in
    let rows = ap (λ (xs : List PendingRow). length xs) s.rows in
    let to = ap (λ (xs : List PendingRow). to_log xs) s.rows in
    let waits = ap (λ (xs : List Delayed). length xs) s.delayed in
    record {
      settings = subst IsSettings (sym s.settings) h.settings;
      moment = omega (arith, m, s.now);
      counted = omega (arith, c, s.laid, s.cleared, rows, less);
      accepted = omega (arith, a, s.laid, waits, s.accepted);
      few = omega (arith, f, s.accepted);
      room = omega (arith, r, logs, to, waits, l);
    }

-- a command is laid: the next that is accepted, or the first that waits
pub record LaysOne (e : PendingRow) (more waits : ℕ) (t after : TargetState) : Type 0 where
  pub fresh : e.pending.expired ≡ false
  pub settings : after.settings ≡ t.settings
  pub now : after.now ≡ t.now
  pub laid : after.laid ≡ t.laid + 1
  pub cleared : after.cleared ≡ t.cleared
  pub rows : after.rows ≡ t.rows ++ e ∷ []
  pub delayed : length after.delayed + waits ≡ length t.delayed
  pub accepted : after.accepted ≡ t.accepted + more
  pub one : more + waits ≡ 1

pub books_laid : (e : PendingRow) (more waits : ℕ) (t after : TargetState) (spare left : ℕ) → IsBooks t spare → LaysOne e more waits t after → t.accepted + more ≤ 2 ^ 63 → to_log t.rows + length t.delayed + more ≤ left → IsBooks after left
books_laid e more waits t after spare left h s l r =
    let m = h.moment in let c = h.counted in let a = h.accepted in
    let rows = ap (λ (xs : List PendingRow). length xs) s.rows in
    let len = length-append t.rows (e ∷ []) in
    let to = ap (λ (xs : List PendingRow). to_log xs) s.rows in
    let log = to_log_more t.rows e s.fresh in
    record {
      settings = subst IsSettings (sym s.settings) h.settings;
      moment = omega (arith, m, s.now);
      counted = omega (arith, c, s.laid, s.cleared, rows, len);
      accepted = omega (arith, a, s.laid, s.delayed, s.accepted, s.one);
      few = omega (arith, l, s.accepted);
      room = omega (arith, r, to, log, s.delayed, s.one);
    }

-- as what is laid alone, the settings keep their limits
pub settings_laid : (e : Entries) (x : SettingsData) → IsSettings x → x.ring ≡ e.places.ring.size → x.blocks ≡ e.commands.limit → x.pages ≡ e.pages → IsSettings (as_target e).settings
settings_laid e x s a b c =
    let blocks = s.blocks_low in let pages = s.pages_low in let most = s.pages_high in
    record {
      ring = subst IsRingSize a s.ring;
      blocks_low = omega (arith, blocks, b);
      pages_low = omega (arith, pages, c);
      pages_high = omega (arith, most, c);
      area = subst (λ n. n * e.pages ≤ 4096) b (subst (λ n. x.blocks * n ≤ 4096) c s.area);
      timeout = omega arith;
      qfull = omega arith;
    }

-- ==== ticks and resets

-- time has passed: no command is gone but of those that waited
pub record TicksOn (at : ℕ) (t after : TargetState) : Type 0 where
  pub settings : after.settings ≡ t.settings
  pub now : after.now ≡ at
  pub moment : at ≤ 2 ^ 63
  pub laid : after.laid ≡ t.laid
  pub cleared : after.cleared ≡ t.cleared
  pub rows : length after.rows ≡ length t.rows
  pub delayed : length after.delayed ≤ length t.delayed
  pub accepted : after.accepted ≡ t.accepted

pub books_ticked : (at : ℕ) (t after : TargetState) (spare left : ℕ) → IsBooks t spare → TicksOn at t after → to_log after.rows + length after.delayed ≤ left → IsBooks after left
books_ticked at t after spare left h s room =
    let c = h.counted in let a = h.accepted in let f = h.few in
    let m = s.moment in let rows = s.rows in let waits = s.delayed in
    record {
      settings = subst IsSettings (sym s.settings) h.settings;
      moment = omega (arith, m, s.now);
      counted = omega (arith, c, s.laid, s.cleared, rows);
      accepted = omega (arith, a, s.laid, waits, s.accepted);
      few = omega (arith, f, s.accepted);
      room = room;
    }

-- nothing is left
pub record Empties (t after : TargetState) : Type 0 where
  pub settings : after.settings ≡ t.settings
  pub now : after.now ≡ t.now
  pub laid : after.laid ≡ 0
  pub cleared : after.cleared ≡ 0
  pub rows : after.rows ≡ []
  pub delayed : after.delayed ≡ []
  pub accepted : after.accepted ≡ t.accepted

pub books_emptied : (t after : TargetState) (spare left : ℕ) → IsBooks t spare → Empties t after → IsBooks after left
books_emptied t after spare left h s =
    let m = h.moment in let f = h.few in
    let rows = ap (λ (xs : List PendingRow). length xs) s.rows in
    let logs : to_log after.rows ≡ 0 = ap (λ (xs : List PendingRow). to_log xs) s.rows in
    let waits = ap (λ (xs : List Delayed). length xs) s.delayed in
    record {
      settings = subst IsSettings (sym s.settings) h.settings;
      moment = omega (arith, m, s.now);
      counted = omega (arith, s.laid, s.cleared, rows);
      accepted = omega (arith, s.laid, waits);
      few = omega (arith, f, s.accepted);
      room = omega (arith, logs, waits);
    }
