-- What the rule says of all views together, and how it stays when one of them changes.
use Rattle.std.proofs.Common.{◌≡◌, ℕ, ◌+◌, ◌^◌, ◌<◌, ◌≤◌, cond, ◌≢◌, Bool, true, false, List, length, set, sym, refl, ap, ◌∙◌, subst, ⊎_elim, arith, eq-eqb, ne_eqb, true≢false, Option, Some, None}
use mathlib.Core.Logic.{dite}
use mathlib.Core.Option.{some}
use native.Mathlib.Decide.{ℕ_discrete}
use lib.ListN.{get_elem?}
use Rattle.atomic_table.specs.Table.{State}
use Rattle.atomic_table.proofs.Lists.{at_set}
use Rattle.turn_lock.specs.declared.rule.View.{View}
use Rattle.turn_lock.specs.declared.rule.Receipt.{Receipt}
use Rattle.turn_lock.specs.declared.rule.Slot.{Slot}
use Rattle.tcmu_types.specs.Numbers.{bit}
use Rattle.turn_lock.specs.Lists.{total, EachOnce}
use Rattle.turn_lock.specs.Receipts.{times, NoneTwice}
use Rattle.turn_lock.specs.Turns.{is_ticket, has_ticket, tickets_at, tickets_in, turns_in, parts_in, times_in, IsViewOf, IsOrderly}
use Rattle.turn_lock.proofs.Sums.{total-set, term_le, terms_le, total-le, StandsOnce-same, StandsOnce-le}

pub is_ticket-same : (t : ℕ) → is_ticket t (Some t) ≡ 1
is_ticket-same t = ap (λ b. cond b 1 0) (eq-eqb t t refl)

pub is_ticket-other : (t n : ℕ) → n ≢ t → is_ticket t (Some n) ≡ 0
is_ticket-other t n ne = ap (λ b. cond b 1 0) (ne_eqb n t ne)

pub no_ticket : {ticket : Option ℕ} → ticket ≡ None → has_ticket ticket ≡ 0
no_ticket e = ap has_ticket e

has_ticket-le : (ticket : Option ℕ) → has_ticket ticket ≤ 1
has_ticket-le None = omega arith
has_ticket-le (Some n) = omega arith

pub bit-off : (b : Bool) → (b ≡ true → ⊥) → bit b ≡ 0
bit-off true h = absurd (h refl)
bit-off false h = refl

bit-le : (b : Bool) → bit b ≤ 1
bit-le true = omega arith
bit-le false = omega arith

by_test : {P : Type 0} → (b : Bool) → (b ≡ true → P) → ((b ≡ true → ⊥) → P) → P
by_test true y n = y refl
by_test false y n = n (λ e. true≢false (sym e))

pub some_same : {A : Type 0} (x y : A) → Some x ≡ Some y → x ≡ y
some_same x y e = cc

module _ {K S E A T : Type 0} {makes_entry : T → Bool} {fits : S → List E → A → T → List E → Type 0} {opening : K} {script : S} (serving : ℕ) (now : List E) where
  -- each view is as the rule says after one of them changed
  pub each_set : (views : List (View K E A T)) (id : ℕ) (w : View K E A T) → IsViewOf makes_entry fits opening script serving now w
      → ((j : ℕ) (u : View K E A T) → j ≢ id → get_elem? views j ≡ some u → IsViewOf makes_entry fits opening script serving now u)
      → (j : ℕ) (u : View K E A T) → get_elem? (set views id w) j ≡ some u → IsViewOf makes_entry fits opening script serving now u
  each_set views id w mine others j u e =
      ⊎_elim (λ (t : (j ≡ id) × (w ≡ u)). subst (IsViewOf makes_entry fits opening script serving now) t.1 mine) (λ (t : (j ≢ id) × (get_elem? views j ≡ some u)). others j u t.0 t.1) (at_set views id j w u e)

module _ {K S E A T : Type 0} {script : K → S} {history : K → List E} {makes_entry : T → Bool}
    {fits : S → List E → A → T → List E → Type 0} {first : K} {parts : ℕ} where
  module _ (s : State (Slot K A T) (View K E A T)) (o : IsOrderly script history makes_entry fits first parts s) where
    -- a spent view has no ticket, so fewer than 2^32 wait
    pub few_wait : total tickets_in s.views < 2 ^ 32
    few_wait =
        let most = total-le tickets_in parts_in s.views (λ j v e.
        dite (ℕ_discrete v.parts 0) (λ spent. let z = no_ticket ((o.each j v e).spent spent).0 in omega arith) (λ live. omega (arith, has_ticket-le v.ticket))) in
        omega (arith, o.shares, o.few)

    -- each ticket is held once at most
    pub once : (t : ℕ) → total (tickets_at t) s.views ≤ 1
    once t = StandsOnce-le t _ _ _ (o.queue t)

    -- no entry was received twice
    pub none_twice : (id : ℕ) (v : View K E A T) → get_elem? s.views id ≡ some v → NoneTwice makes_entry v.receipts
    none_twice id v me k = omega (arith, term_le (times_in makes_entry k) s.views id v me, StandsOnce-le k _ _ _ (o.received k))

    -- where a view has the ticket that is served, no other holds the turn
    pub alone : (id : ℕ) (v : View K E A T) → get_elem? s.views id ≡ some v → v.ticket ≡ Some o.serving
        → (j : ℕ) (u : View K E A T) → j ≢ id → get_elem? s.views j ≡ some u → u.holds ≡ true → ⊥
    alone id v me mine j u apart there holds =
        let both = terms_le (tickets_at o.serving) s.views id j v u apart me there in
        let one : tickets_at o.serving v ≡ 1 = ap (is_ticket o.serving) mine ∙ is_ticket-same o.serving in
        let other : tickets_at o.serving u ≡ 1 = ap (is_ticket o.serving) ((o.each j u there).holder holds).0 ∙ is_ticket-same o.serving in
        let most = once o.serving in
        omega arith

    -- one view at most holds the turn
    pub one_holds : total turns_in s.views ≤ 1
    one_holds = let le = total-le turns_in (tickets_at o.serving) s.views (λ j v e. part v (o.each j v e)) in omega (arith, once o.serving)
      where
        part : (v : View K E A T) → IsViewOf makes_entry fits first (script first) o.serving o.now v → turns_in v ≤ tickets_at o.serving v
        part v f = by_test v.holds
            (λ yes. let one : tickets_at o.serving v ≡ 1 = ap (is_ticket o.serving) (f.holder yes).0 ∙ is_ticket-same o.serving in omega (arith, bit-le v.holds))
            (λ no. omega (arith, bit-off v.holds no))

    module _ (id : ℕ) (v w : View K E A T) (me : get_elem? s.views id ≡ some v) where
      -- the queue is as it was where the view's ticket is
      pub same_queue : w.ticket ≡ v.ticket → EachOnce o.serving (o.serving + total tickets_in (set s.views id w)) (λ t. total (tickets_at t) (set s.views id w))
      same_queue same x =
          StandsOnce-same x o.serving (omega (arith, total-set (tickets_at x) s.views id v w me, ap (is_ticket x) same))
          (omega (arith, total-set tickets_in s.views id v w me, ap has_ticket same)) (o.queue x)

      -- and the numbers that were received, where the view's receipts are
      pub same_received : w.receipts ≡ v.receipts → EachOnce (length (history first) + 1) (length o.now + 1) (λ k. total (times_in makes_entry k) (set s.views id w))
      same_received same k =
          StandsOnce-same k (length (history first) + 1)
          (omega (arith, total-set (times_in makes_entry k) s.views id v w me, ap (λ (l : List (Receipt A T)). times makes_entry k l) same)) refl (o.received k)
