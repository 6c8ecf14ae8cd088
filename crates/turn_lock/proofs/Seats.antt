-- The steps that make seats and spend them keep the rule: the first seat, a split, a join. And what is known at the end.
use Rattle.std.proofs.Common.{◌≡◌, ℕ, ◌+◌, ◌%◌, ◌^◌, ◌<◌, ◌≤◌, ◌≢◌, Bool, false, List, [], ◌∷◌, ◌++◌, length, set, map, sym, refl, ap, ◌∙◌, subst, ⊎_elim, arith, append-nil, le_refl, true≢false, Option, Some, None}
use mathlib.Core.Logic.{dite}
use mathlib.Core.List.{IsPrefix}
use mathlib.Core.Option.{some, some-injective, some-ne-none}
use native.Mathlib.Decide.{ℕ_discrete}
use lib.ListN.{get_elem?}
use Rattle.std.specs.Prelude.{IsSome}
use Rattle.atomic_table.specs.Table.{opening, Final, Seen, Splits, Joins}
use Rattle.atomic_table.proofs.Lists.{at_snoc, set_else}
use Rattle.turn_lock.specs.declared.rule.View.{View}
use Rattle.turn_lock.specs.declared.rule.Receipt.{Receipt}
use Rattle.turn_lock.specs.declared.rule.Slot.{Slot}
use Rattle.tcmu_types.specs.Numbers.{bit}
use Rattle.turn_lock.specs.Lists.{total, StandsOnce, EachOnce}
use Rattle.tcmu_types.specs.Lists.{Every}
use Rattle.turn_lock.specs.Receipts.{tells_of, times, FitsAt}
use Rattle.turn_lock.specs.Turns.{is_ticket, tickets_at, tickets_in, turns_in, parts_in, times_in, slot_of, first_view, one_less, one_part, joined_view, spent_view, IsViewOf, IsOrderly}
use Rattle.turn_lock.proofs.Sums.{total-append, total-set, terms_le, total-zero, total-only, Every-append, StandsOnce-same}
use Rattle.turn_lock.proofs.Views.{no_ticket, bit-off, some_same, each_set}
use Rattle.turn_lock.proofs.Asking.{same_ticket}

-- what is known of the history at the end, and of the pass that has all parts
pub record IsEnd {K S E A T : Type 0} (script : K → S) (history : K → List E) (makes_entry : T → Bool)
    (fits : S → List E → A → T → List E → Type 0) (first : K) (now : List E) (v : View K E A T) : Type 0 where
  pub begun : IsPrefix (history first) now
  pub longer : v.seen ≤ length now
  pub fitting : Every (FitsAt makes_entry fits (script first) now) v.receipts
  pub each_once : EachOnce (length (history first) + 1) (length now + 1) (λ k. times makes_entry k v.receipts)

module _ {K S E A T : Type 0} {script : K → S} {history : K → List E} {makes_entry : T → Bool}
    {fits : S → List E → A → T → List E → Type 0} {first : K} {parts : ℕ} where
  pub opens : (ws : List ℕ) (xs : List (Slot K A T)) (n : ℕ) → ws ≡ 0 ∷ 0 ∷ n ∷ []
      → xs ≡ slot_of (Some first) None ∷ [] → length (history first) ≡ n → 0 < parts → parts < 2 ^ 32
      → IsOrderly script history makes_entry fits first parts (opening ws xs (first_view first parts (length (history first))))
  opens ws xs n words slots long live few =
      let v : View K E A T = first_view first parts (length (history first)) in
      record {
        serving = 0;
        now = history first;
        words = words ∙ ap (λ (k : ℕ). 0 ∷ 0 ∷ k ∷ []) (sym long);
        few = few;
        shares = omega arith;
        each = λ i u e. ⊎_elim (λ (t : get_elem? [] i ≡ some u). absurd (some-ne-none u (sym t)))
            (λ (new : v ≡ u). subst (IsViewOf makes_entry fits first (script first) 0 (history first)) new
            record { live = λ p. (refl, le_refl _); spent = λ z. (refl, refl); holder = λ h. absurd (true≢false (sym h)); fitting = tt }) (at_snoc [] v u i e);
        queue = λ x. record { before = λ h. refl; among = λ a b. absurd (omega arith); after = λ h. refl };
        since = ([], append-nil (history first));
        received = λ k. record { before = λ h. refl; among = λ a b. absurd (omega arith); after = λ h. refl };
        one_slot = ap (λ (l : List (Slot K A T)). length (map some l)) slots;
        home = λ z. (first, None, ap (λ (l : List (Slot K A T)). get_elem? (map some l) 0) slots, (refl, refl));
        out = λ z. absurd (omega arith);
      }

  pub splits : (id : ℕ) (v : View K E A T) → 1 < v.parts → v.ticket ≡ None → v.holds ≡ false
      → Splits (IsOrderly script history makes_entry fits first parts) id v (one_less v) (one_part v)
  splits id v parts bare idle s o me =
      let left = one_less v in
      let right = one_part v in
      let f = o.each id v me in
      let l = set s.views id left in
      let sum : (h : View K E A T → ℕ) → total h (l ++ right ∷ []) + h v ≡ total h s.views + h left + h right = λ h. omega (arith, total-append h l (right ∷ []), total-set h s.views id v left me) in
      let many : total tickets_in (l ++ right ∷ []) ≡ total tickets_in s.views = omega (arith, sum tickets_in) in
      let holders : total turns_in (l ++ right ∷ []) ≡ total turns_in s.views = omega (arith, sum turns_in) in
      record {
        serving = o.serving;
        now = o.now;
        words = same_ticket s.words _ _ _ _ o.words (ap (λ (x : ℕ). (o.serving + x) % 2 ^ 64) (sym many));
        few = o.few;
        shares = omega (arith, sum parts_in, o.shares);
        each = λ j u e. ⊎_elim
            (λ there. each_set o.serving o.now s.views id left record { live = λ p. f.live (omega arith); spent = λ z. absurd (omega arith); holder = f.holder; fitting = f.fitting } (λ i x apart e'. o.each i x e') j u there)
            (λ (new : right ≡ u). subst (IsViewOf makes_entry fits first (script first) o.serving o.now) new
            record { live = λ p. f.live (omega arith); spent = λ z. (refl, refl); holder = λ h. absurd (true≢false (sym h)); fitting = tt }) (at_snoc l right u j e);
        queue = λ x.
            StandsOnce-same x o.serving (omega (arith, sum (tickets_at x))) (omega (arith, many)) (o.queue x);
        since = o.since;
        received = λ x.
            StandsOnce-same x (length (history first) + 1) (omega (arith, sum (times_in makes_entry x))) refl (o.received x);
        one_slot = o.one_slot;
        home = λ z. o.home (sym holders ∙ z);
        out = λ z. o.out (omega arith);
      }

  pub joins : (id : ℕ) (v : View K E A T) (other : ℕ) (w : View K E A T) → 0 < v.parts → v.ticket ≡ None → v.holds ≡ false → 0 < w.parts → w.ticket ≡ None → w.holds ≡ false
      → Joins (IsOrderly script history makes_entry fits first parts) id v other w (joined_view v w) spent_view
  joins id v other w live bare idle live' bare' idle' s o me apart them =
      let both = joined_view v w in
      let f = o.each id v me in
      let there : get_elem? s.views other ≡ some w = sym (set_else s.views id other both apart) ∙ them in
      let g = o.each other w there in
      let l = set s.views id both in
      let sum : (h : View K E A T → ℕ) → total h (set l other spent_view) + h w + h v ≡ total h s.views + h both + h spent_view =
      λ h. omega (arith, total-set h l other w spent_view them, total-set h s.views id v both me) in
      let many : total tickets_in (set l other spent_view) ≡ total tickets_in s.views = omega (arith, sum tickets_in, no_ticket bare, no_ticket bare') in
      let holders : total turns_in (set l other spent_view) ≡ total turns_in s.views = omega (arith, sum turns_in, ap bit idle') in
      record {
        serving = o.serving;
        now = o.now;
        words = same_ticket s.words _ _ _ _ o.words (ap (λ (x : ℕ). (o.serving + x) % 2 ^ 64) (sym many));
        few = o.few;
        shares = omega (arith, sum parts_in, o.shares);
        each = each_set o.serving o.now l other spent_view record { live = λ p. absurd (omega arith); spent = λ z. (refl, refl); holder = λ h. absurd (true≢false (sym h)); fitting = tt }
            (λ j u _ e. each_set o.serving o.now s.views id both
            record {
              live = λ p. ((f.live live).0, omega (arith, (f.live live).1, (g.live live').1));
              spent = λ z. absurd (omega arith);
              holder = λ h. absurd (true≢false (sym h ∙ idle));
              fitting = Every-append _ v.receipts w.receipts f.fitting g.fitting;
            }
            (λ i x _ e'. o.each i x e') j u e);
        queue = λ x.
            StandsOnce-same x o.serving (omega (arith, sum (tickets_at x), ap (is_ticket x) bare')) (omega (arith, many)) (o.queue x);
        since = o.since;
        received = λ x.
            StandsOnce-same x (length (history first) + 1)
            (omega (arith, sum (times_in makes_entry x), total-append (tells_of makes_entry x) v.receipts w.receipts)) refl (o.received x);
        one_slot = o.one_slot;
        home = λ z. o.home (sym holders ∙ z);
        out = λ z. o.out (omega arith);
      }

  -- at the end the pass that has all parts is the only one that is not spent, so the slot is at home
  pub closes : (ws : List ℕ) (xs : List (Slot K A T)) (id : ℕ) (v : View K E A T) → Final (Seen (IsOrderly script history makes_entry fits first parts) id v) ws xs
      → v.parts ≡ parts → 0 < v.parts → v.holds ≡ false → (slot : Slot K A T) → get_elem? xs 0 ≡ some slot
      → (value : K) × (slot.value ≡ Some value) × (script value ≡ script first) × IsEnd script history makes_entry fits first (history value) v
  closes ws xs id v h all live idle slot at =
      let s = h.0 in
      let o = h.1.0 in
      let me = h.1.1 in
      let f = o.each id v me in
      let others : (j : ℕ) (u : View K E A T) → j ≢ id → get_elem? s.views j ≡ some u → u.parts ≡ 0 = λ j u apart e. let both = terms_le parts_in s.views id j v u apart me e in omega (arith, o.shares) in
      let none_hold : total turns_in s.views ≡ 0 = total-zero turns_in s.views (λ j u e. dite (ℕ_discrete j id)
      (λ i. let is : some v ≡ some u = sym me ∙ (ap (λ (k : ℕ). get_elem? s.views k) (sym i) ∙ e) in ap turns_in (sym (some-injective _ _ is)) ∙ ap bit idle)
      (λ apart. bit-off u.holds (λ holds. let g = o.each j u e in absurd_some _ (sym (g.spent (others j u apart e)).0 ∙ (g.holder holds).0)))) in
      let home = o.home none_hold in
      let mine : (k : ℕ) → total (times_in makes_entry k) s.views ≡ times makes_entry k v.receipts =
      λ k. total-only (times_in makes_entry k) s.views id v me (λ j u apart e. ap (λ (l : List (Receipt A T)). times makes_entry k l) ((o.each j u e).spent (others j u apart e)).1) in (
        home.0,
        ap (λ (p : Slot K A T). p.value) (some-injective _ _ (sym at ∙ h.4 0 (slot_of (Some home.0) home.1) home.2)),
        home.3.0,
        subst (λ (l : List E). IsEnd script history makes_entry fits first l v) (sym home.3.1)
            record {
              begun = o.since;
              longer = (f.live live).1;
              fitting = f.fitting;
              each_once = λ k. subst (λ (n : ℕ). StandsOnce k (length (history first) + 1) (length o.now + 1) n) (mine k) (o.received k);
            },
      )
    where
      absurd_some : (n : ℕ) → None ≡ Some n → ⊥
      absurd_some n e = cc

pub is_some : {K : Type 0} (slot : Option K) (value : K) → slot ≡ Some value → IsSome slot
is_some slot value e = subst IsSome (sym e) refl

module _ {K S E A T : Type 0} {script : K → S} {history : K → List E} {makes_entry : T → Bool}
    {fits : S → List E → A → T → List E → Type 0} {first : K} where
  -- and the value that was taken out of the slot is that one
  pub closes_with : (slot : Option K) (v : View K E A T) (out : K) → (value : K) × (slot ≡ Some value) × (script value ≡ script first) × IsEnd script history makes_entry fits first (history value) v
      → slot ≡ Some out
      → (script out ≡ script first) × IsEnd script history makes_entry fits first (history out) v
  closes_with slot v out h e =
      subst (λ (x : K). (script x ≡ script first) × IsEnd script history makes_entry fits first (history x) v) (some_same _ _ (sym h.1 ∙ e)) (h.2, h.3)
