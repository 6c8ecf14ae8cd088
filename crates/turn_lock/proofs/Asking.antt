-- Each step of a pass that asks keeps the rule: draw, look, take, count up, pass on.
use Rattle.std.proofs.Common.{◌≡◌, ℕ, ◌+◌, ◌%◌, ◌^◌, ◌<◌, ◌≤◌, Bool, true, false, List, [], ◌∷◌, ◌++◌, length, get_or, set, sym, refl, ap, ◌∙◌, subst, arith, length-set, length-append, true≢false, Option, Some, None, Result}
use mathlib.Core.Logic.{dite}
use mathlib.Core.Option.{some, none, some-injective}
use native.Mathlib.Decide.{ℕ_discrete, dec_le}
use lib.ListN.{get_elem?}
use lib.Seq.{set-get_or}
use Rattle.atomic_table.specs.Table.{State, step, keeps, takes, gives, Allows}
use Rattle.atomic_table.proofs.Lists.{set_here, set_again, one_turn}
use Rattle.turn_lock.specs.declared.rule.View.{View}
use Rattle.turn_lock.specs.declared.rule.Receipt.{Receipt}
use Rattle.turn_lock.specs.declared.rule.Note.{Note}
use Rattle.turn_lock.specs.declared.rule.Slot.{Slot}
use Rattle.tcmu_types.specs.Numbers.{bit}
use Rattle.turn_lock.specs.Lists.{total, EachOnce, StandsOnce}
use Rattle.tcmu_types.specs.Lists.{Every}
use Rattle.turn_lock.specs.Receipts.{tells_of, times, AllBelow, FitsAt}
use Rattle.turn_lock.specs.Turns.{is_ticket, has_ticket, tickets_at, tickets_in, turns_in, parts_in, times_in, slot_of, Seated, IsOrderly}
use Rattle.turn_lock.specs.Steps.{receipts_noted, Tells, IsIdle, Draws, Looks, PassesOn, HasTurn, LooksOrTakes, CountsUp, IsUncounted}
use Rattle.turn_lock.proofs.Sums.{total-append, total-set, term_le, total-zero, Every-append, Every-map}
use Rattle.turn_lock.proofs.Received.{IsPrefix-append, FitsAt-longer, all_below, noted_fits, noted_once}
use Rattle.turn_lock.proofs.Views.{is_ticket-same, is_ticket-other, no_ticket, bit-off, some_same, each_set, few_wait, none_twice, alone, one_holds, once, same_queue, same_received}

⊥_le : {a b : ℕ} → Dec (a ≤ b) → (b < a → ⊥) → a ≤ b
⊥_le (yes h) f = h
⊥_le {a} {b} (no h) f = absurd (f (omega arith))

⊥_lt : (a b : ℕ) → (b ≤ a → ⊥) → a < b
⊥_lt a b f = dite (dec_le b a) (λ h. absurd (f h)) (λ h. omega arith)

-- the three words where one of them is set
set_ticket : (ws : List ℕ) (a b c x y : ℕ) → ws ≡ a ∷ b ∷ c ∷ [] → x ≡ y → set ws 0 x ≡ y ∷ b ∷ c ∷ []
set_ticket ws a b c x y e same = ap (λ (l : List ℕ). set l 0 x) e ∙ ap (λ (z : ℕ). z ∷ b ∷ c ∷ []) same

set_serving : (ws : List ℕ) (a b c x y : ℕ) → ws ≡ a ∷ b ∷ c ∷ [] → x ≡ y → set ws 1 x ≡ a ∷ y ∷ c ∷ []
set_serving ws a b c x y e same = ap (λ (l : List ℕ). set l 1 x) e ∙ ap (λ (z : ℕ). a ∷ z ∷ c ∷ []) same

set_count : (ws : List ℕ) (a b c x y : ℕ) → ws ≡ a ∷ b ∷ c ∷ [] → x ≡ y → set ws 2 x ≡ a ∷ b ∷ y ∷ []
set_count ws a b c x y e same = ap (λ (l : List ℕ). set l 2 x) e ∙ ap (λ (z : ℕ). a ∷ b ∷ z ∷ []) same

pub same_ticket : (ws : List ℕ) (a a' b c : ℕ) → ws ≡ a ∷ b ∷ c ∷ [] → a ≡ a' → ws ≡ a' ∷ b ∷ c ∷ []
same_ticket ws a a' b c e same = e ∙ ap (λ (z : ℕ). z ∷ b ∷ c ∷ []) same

module _ {K S E A T : Type 0} {script : K → S} {history : K → List E} {makes_entry : T → Bool}
    {fits : S → List E → A → T → List E → Type 0} {first : K} {parts : ℕ} where
  pub draws : (n id : ℕ) (m : Seated K E A T) → IsIdle m
      → Allows (IsOrderly script history makes_entry fits first parts) n id m 0 (λ y. (y + 1) % 2 ^ 64) (Draws (step n 0 1 0 none) m)
  draws n id m idle s o wide me small =
      let t : ℕ = o.serving + total tickets_in s.views in
      let w : View K E A T = record m.0 { ticket = Some t } in
      let f = o.each id m.0 me in
      let more : total tickets_in (set s.views id w) ≡ total tickets_in s.views + 1 = omega (arith, total-set tickets_in s.views id m.0 w me, no_ticket idle.1) in
      let holders : total turns_in (set s.views id w) ≡ total turns_in s.views = omega (arith, total-set turns_in s.views id m.0 w me) in
      let found : get_or s.words 0 0 ≡ t % 2 ^ 64 = ap (λ (ws : List ℕ). get_or ws 0 0) o.words in (
        w,
        keeps,
        tt,
        record {
          serving = o.serving;
          now = o.now;
          words = set_ticket s.words _ _ _ _ _ o.words (omega arith);
          few = o.few;
          shares = omega (arith, total-set parts_in s.views id m.0 w me, o.shares);
          each = each_set o.serving o.now s.views id w
              record { live = f.live; spent = λ z. absurd (omega (arith, idle.0)); holder = λ h. absurd (true≢false (sym h ∙ idle.2)); fitting = f.fitting }
              (λ j u apart e. o.each j u e);
          queue = queue s o id m w me idle.1 refl;
          since = o.since;
          received = same_received s o id m.0 w me refl;
          one_slot = o.one_slot;
          home = λ z. o.home (sym holders ∙ z);
          out = λ z. o.out (omega arith);
        },
        (t, sym found, refl),
      )
    where
      queue : (s : State (Slot K A T) (View K E A T)) (o : IsOrderly script history makes_entry fits first parts s) (id : ℕ) (m : Seated K E A T) (w : View K E A T)
          → get_elem? s.views id ≡ some m.0 → m.0.ticket ≡ None → w.ticket ≡ Some (o.serving + total tickets_in s.views)
          → EachOnce o.serving (o.serving + total tickets_in (set s.views id w)) (λ x. total (tickets_at x) (set s.views id w))
      queue s o id m w me none_yet is x =
          let t : ℕ = o.serving + total tickets_in s.views in
          let q = o.queue x in
          let many : total tickets_in (set s.views id w) ≡ total tickets_in s.views + 1 = omega (arith, total-set tickets_in s.views id m.0 w me, ap has_ticket none_yet, ap has_ticket is) in
          let here : total (tickets_at x) (set s.views id w) ≡ total (tickets_at x) s.views + is_ticket x (Some t) =
          omega (arith, total-set (tickets_at x) s.views id m.0 w me, ap (is_ticket x) none_yet, ap (is_ticket x) is) in
          dite (ℕ_discrete t x)
          (λ e.
          let one : is_ticket x (Some t) ≡ 1 = ap (λ (y : ℕ). is_ticket x (Some y)) e ∙ is_ticket-same x in
          let before = q.after (omega arith) in
          record { before = λ h. absurd (omega arith); among = λ l h. omega arith; after = λ h. absurd (omega arith) })
          (λ ne.
          let z : is_ticket x (Some t) ≡ 0 = is_ticket-other x t ne in
          record { before = λ h. omega (arith, q.before h); among = λ l h. omega (arith, q.among l (omega arith)); after = λ h. omega (arith, q.after (omega arith)) })

  -- the table is as it was after a load by a seat that keeps its view
  unchanged : (s : State (Slot K A T) (View K E A T)) (id i : ℕ) (v : View K E A T) → get_elem? s.views id ≡ some v
      → IsOrderly script history makes_entry fits first parts s
      → IsOrderly script history makes_entry fits first parts record { words = set s.words i (get_or s.words i 0); homes = s.homes; views = set s.views id v }
  unchanged s id i v me o =
      subst (IsOrderly script history makes_entry fits first parts)
      (λ k. record { words = sym (set-get_or s.words i 0) k; homes = s.homes; views = sym (set_again s.views id v me) k }) o

  pub looks : (n id : ℕ) (m : Seated K E A T)
      → Allows (IsOrderly script history makes_entry fits first parts) n id m 1 (λ y. y) (Looks makes_entry (step n 1 0 0 none) m)
  looks n id m s o wide me small = (m.0, keeps, tt, unchanged s id 1 m.0 me o, (refl, none_twice s o id m.0 me))

  pub looks_or_takes : (n id : ℕ) (m : Seated K E A T) (t : ℕ) → 0 < m.0.parts → m.0.ticket ≡ Some t → m.0.holds ≡ false → m.1 ≡ []
      → Allows (IsOrderly script history makes_entry fits first parts) n id m 1 (λ y. y) (LooksOrTakes script history (step n 1 0 0 none) m)
  looks_or_takes n id m t live has holds bare s o wide me small =
      let r : ℕ = get_or s.words 1 0 in
      let found : r ≡ o.serving % 2 ^ 64 = ap (λ (ws : List ℕ). get_or ws 1 0) o.words in
      dite (ℕ_discrete r (t % 2 ^ 64))
      (λ hit.
      let q = o.queue t in
      let f = o.each id m.0 me in
      let mine : tickets_at t m.0 ≡ 1 = ap (is_ticket t) has ∙ is_ticket-same t in
      let part = term_le (tickets_at t) s.views id m.0 me in
      let few = few_wait s o in
      let low : o.serving ≤ t = ⊥_le (dec_le o.serving t) (λ h. omega (arith, q.before (omega arith))) in
      let high : t < o.serving + total tickets_in s.views = ⊥_lt _ _ (λ h. omega (arith, q.after h)) in
      let now : o.serving ≡ t = one_turn o.serving t (2 ^ 64) low (omega arith) (sym found ∙ hit) in
      let ticket : m.0.ticket ≡ Some o.serving = has ∙ ap Some (sym now) in
      let none_hold : total turns_in s.views ≡ 0 = total-zero turns_in s.views (λ j v e. dite (ℕ_discrete j id)
      (λ i. let is : some m.0 ≡ some v = sym me ∙ (ap (λ (k : ℕ). get_elem? s.views k) (sym i) ∙ e) in ap turns_in (sym (some-injective _ _ is)) ∙ ap bit holds)
      (λ apart. bit-off v.holds (alone s o id m.0 me ticket j v apart e))) in
      let h = o.home none_hold in
      let w : View K E A T = record m.0 { seen = length (history h.0); holds = true; kept = history h.0 } in
      let long : length (history h.0) ≡ length o.now = ap length h.3.1 in
      let holders : total turns_in (set s.views id w) ≡ 1 = omega (arith, total-set turns_in s.views id m.0 w me, ap bit holds) in
      let many : total tickets_in (set s.views id w) ≡ total tickets_in s.views = omega (arith, total-set tickets_in s.views id m.0 w me) in (
        w,
        takes 0 (slot_of (Some h.0) h.1),
        h.2,
        record {
          serving = o.serving;
          now = o.now;
          words = same_ticket (set s.words 1 r) _ _ _ _ (set-get_or s.words 1 0 ∙ o.words) (ap (λ (k : ℕ). (o.serving + k) % 2 ^ 64) (sym many));
          few = o.few;
          shares = omega (arith, total-set parts_in s.views id m.0 w me, o.shares);
          each = each_set o.serving o.now s.views id w
              record { live = λ p. ((f.live p).0, omega arith); spent = λ z. absurd (omega arith); holder = λ _. (ticket, long, h.3.1); fitting = f.fitting }
              (λ j u apart e. o.each j u e);
          queue = same_queue s o id m.0 w me refl;
          since = o.since;
          received = same_received s o id m.0 w me refl;
          one_slot = length-set s.homes 0 none ∙ o.one_slot;
          home = λ z. absurd (omega arith);
          out = λ _. set_here s.homes 0 none (omega (arith, o.one_slot));
        },
        λ u is. (
          (λ _. (
            record {
              live = live;
              holds = refl;
              value = h.0;
              note = h.1;
              slot = ap (λ (l : List (ℕ × Slot K A T)). (0, slot_of (Some h.0) h.1) ∷ l) bare;
              kept = refl;
              long = refl;
              script_is = λ x at. h.3.0 ∙ ap script (some_same _ _ (sym (f.live live).0 ∙ at));
            },
            omega (arith, (f.live live).1),
            (refl, refl),
          )),
          λ miss. absurd (miss (hit ∙ ap (λ (k : ℕ). k % 2 ^ 64) (some_same _ _ (sym has ∙ is)))),
        ),
      ))
      (λ miss. (
        m.0,
        keeps,
        tt,
        unchanged s id 1 m.0 me o,
        λ u is. ((λ hit. absurd (miss (hit ∙ ap (λ (k : ℕ). k % 2 ^ 64) (some_same _ _ (sym is ∙ has))))), λ _. refl),
      ))

  pub counts_up : {F : Type 0} (n id : ℕ) (m : Seated K E A T) (k : ℕ) (ask : A) (told : Result T F) (number : ℕ)
      → IsUncounted script history makes_entry fits m ask told number → m.0.seen + k ≡ number → number < 2 ^ 64
      → Allows (IsOrderly script history makes_entry fits first parts) n id m 2 (λ y. (y + k) % 2 ^ 64) (CountsUp history (step n 2 k 0 none) m)
  counts_up n id m k ask told number u up small_now s o wide me small =
      let value = u.value in
      let note = u.note in
      let added = u.added in
      let long : length (history value) ≡ number = u.long in
      let f = o.each id m.0 me in
      let mine = f.holder u.holds in
      let grown : history value ≡ o.now ++ added = u.grown ∙ ap (λ (l : List E). l ++ added) mine.2 in
      let longer : length (history value) ≡ length o.now + length added = ap length grown ∙ length-append o.now added in
      let right : script value ≡ script first = u.script_is first (f.live u.live).0 in
      let tells = subst (λ (z : S). Tells makes_entry fits z m.0.kept added note) right u.tells in
      let gets : List (Receipt A T) = receipts_noted (length (history value)) note in
      let w : View K E A T = record m.0 { seen = length (history value); kept = history value; receipts = m.0.receipts ++ gets } in
      let found : get_or s.words 2 0 ≡ length o.now = ap (λ (ws : List ℕ). get_or ws 2 0) o.words in
      let many : total tickets_in (set s.views id w) ≡ total tickets_in s.views = omega (arith, total-set tickets_in s.views id m.0 w me) in
      let holders : total turns_in (set s.views id w) ≡ total turns_in s.views = omega (arith, total-set turns_in s.views id m.0 w me) in
      let some_hold = term_le turns_in s.views id m.0 me in
      let one : turns_in m.0 ≡ 1 = ap bit u.holds in
      let begun : length (history first) ≤ length o.now = omega (arith, ap length o.since.1, length-append (history first) o.since.0) in
      let still : (l : List (Receipt A T)) → Every (FitsAt makes_entry fits (script first) o.now) l → Every (FitsAt makes_entry fits (script first) (history value)) l =
      λ l h. Every-map _ _ l (λ r. FitsAt-longer makes_entry fits (script first) o.now (history value) added r grown) h in (
        w,
        keeps,
        tt,
        record {
          serving = o.serving;
          now = history value;
          words = set_count s.words _ _ _ _ _ (same_ticket s.words _ _ _ _ o.words (ap (λ (x : ℕ). (o.serving + x) % 2 ^ 64) (sym many))) (omega (arith, mine.1));
          few = o.few;
          shares = omega (arith, total-set parts_in s.views id m.0 w me, o.shares);
          each = each_set o.serving (history value) s.views id w
              record {
                live = λ p. ((f.live p).0, omega arith);
                spent = λ z. absurd (omega arith);
                holder = λ _. (mine.0, refl, refl);
                fitting = Every-append _ m.0.receipts gets (still m.0.receipts f.fitting) (noted_fits makes_entry fits (script first) m.0.kept added (history value) note u.grown tells);
              }
              (λ j u apart e. let g = o.each j u e in record { live = λ p. ((g.live p).0, omega (arith, (g.live p).1)); spent = g.spent; holder = λ h. absurd (alone s o id m.0 me mine.0 j u apart e h); fitting = still u.receipts g.fitting });
          queue = same_queue s o id m.0 w me refl;
          since = IsPrefix-append (history first) o.now added (history value) grown o.since;
          received = λ x.
              let moved : total (times_in makes_entry x) (set s.views id w) ≡ total (times_in makes_entry x) s.views + times makes_entry x gets =
              omega (arith, total-set (times_in makes_entry x) s.views id m.0 w me, total-append (tells_of makes_entry x) m.0.receipts gets) in
              subst (λ (y : ℕ). StandsOnce x (length (history first) + 1) (length (history value) + 1) y) (sym moved)
              (noted_once makes_entry fits (script first) m.0.kept added x (length (history first) + 1) (length o.now) (length (history value)) (total (times_in makes_entry x) s.views) note tells longer (omega arith) (o.received x));
          one_slot = o.one_slot;
          home = λ z. absurd (omega arith);
          out = λ z. o.out (omega arith);
        },
        (
          (λ y other is.
              let heads : slot_of (Some value) note ≡ slot_of (Some y) other = ap (λ (l : List (ℕ × Slot K A T)). (get_or l 0 (0, slot_of (Some value) note)).1) (sym u.slot ∙ is) in
              let ev : value ≡ y = some_same _ _ (ap (λ (p : Slot K A T). p.value) heads) in
              let en : note ≡ other = ap (λ (p : Slot K A T). p.note) heads in
              λ i. (record m.0 { seen = length (history (ev i)); kept = history (ev i); receipts = m.0.receipts ++ receipts_noted (length (history (ev i))) (en i) }, m.1)),
          subst (λ (n : ℕ). AllBelow (n + 1) m.0.receipts) (sym mine.1) (all_below makes_entry fits (script first) o.now m.0.receipts f.fitting),
        ),
      )

  passes_on_at : (n id : ℕ) (v : View K E A T) (value : K) (note : Option (Note A T))
      → 0 < v.parts → v.holds ≡ true → history value ≡ v.kept → length (history value) ≡ v.seen
      → ((opening : K) → v.opening ≡ Some opening → script value ≡ script opening)
      → Allows (IsOrderly script history makes_entry fits first parts) n id (v, (0, slot_of (Some value) note) ∷ []) 1 (λ y. (y + 1) % 2 ^ 64) (PassesOn makes_entry (step n 1 1 0 none) (v, (0, slot_of (Some value) note) ∷ []))
  passes_on_at n id v value note live holds kept_is long is s o wide me small =
      let f = o.each id v me in
      let mine = f.holder holds in
      let w : View K E A T = record v { ticket = None; holds = false; kept = [] } in
      let found : get_or s.words 1 0 ≡ o.serving % 2 ^ 64 = ap (λ (ws : List ℕ). get_or ws 1 0) o.words in
      let any : tickets_in v ≡ 1 = ap has_ticket mine.0 in
      let one : turns_in v ≡ 1 = ap bit holds in
      let most = one_holds s o in
      let some_hold = term_le turns_in s.views id v me in
      let fewer : total tickets_in (set s.views id w) + 1 ≡ total tickets_in s.views = omega (arith, total-set tickets_in s.views id v w me) in
      let holders : total turns_in (set s.views id w) ≡ 0 = omega (arith, total-set turns_in s.views id v w me) in
      let same : o.serving + total tickets_in s.views ≡ (o.serving + 1) + total tickets_in (set s.views id w) = omega arith in (
        w,
        gives,
        tt,
        record {
          serving = o.serving + 1;
          now = o.now;
          words = set_serving s.words _ _ _ _ _ (same_ticket s.words _ _ _ _ o.words (ap (λ (x : ℕ). x % 2 ^ 64) same)) (omega arith);
          few = o.few;
          shares = omega (arith, total-set parts_in s.views id v w me, o.shares);
          each = each_set (o.serving + 1) o.now s.views id w
              record { live = f.live; spent = λ z. absurd (omega arith); holder = λ h. absurd (true≢false (sym h)); fitting = f.fitting }
              (λ j u apart e. let g = o.each j u e in record { live = g.live; spent = g.spent; holder = λ h. absurd (alone s o id v me mine.0 j u apart e h); fitting = g.fitting });
          queue = queue s o id v w me mine.0 refl fewer;
          since = o.since;
          received = same_received s o id v w me refl;
          one_slot = length-set s.homes 0 (some (slot_of (Some value) note)) ∙ o.one_slot;
          home = λ _. (value, note, set_here s.homes 0 (some (slot_of (Some value) note)) (omega (arith, o.one_slot)), (is first (f.live live).0, kept_is ∙ mine.2));
          out = λ z. absurd (omega arith);
        },
        (refl, none_twice s o id v me),
      )
    where
      queue : (s : State (Slot K A T) (View K E A T)) (o : IsOrderly script history makes_entry fits first parts s) (id : ℕ) (v w : View K E A T)
          → get_elem? s.views id ≡ some v → v.ticket ≡ Some o.serving → w.ticket ≡ None → total tickets_in (set s.views id w) + 1 ≡ total tickets_in s.views
          → EachOnce (o.serving + 1) ((o.serving + 1) + total tickets_in (set s.views id w)) (λ x. total (tickets_at x) (set s.views id w))
      queue s o id v w me mine gone fewer x =
          let q = o.queue x in
          let here : total (tickets_at x) (set s.views id w) + is_ticket x (Some o.serving) ≡ total (tickets_at x) s.views = omega (arith, total-set (tickets_at x) s.views id v w me, ap (is_ticket x) mine, ap (is_ticket x) gone) in
          dite (ℕ_discrete o.serving x)
          (λ e.
          let one : is_ticket x (Some o.serving) ≡ 1 = ap (λ (y : ℕ). is_ticket x (Some y)) e ∙ is_ticket-same x in
          let most = once s o x in
          record { before = λ h. omega arith; among = λ l h. absurd (omega arith); after = λ h. omega arith })
          (λ ne.
          let z : is_ticket x (Some o.serving) ≡ 0 = is_ticket-other x o.serving ne in
          record { before = λ h. omega (arith, q.before (omega arith)); among = λ l h. omega (arith, q.among (omega arith) (omega arith)); after = λ h. omega (arith, q.after (omega arith)) })

  pub passes_on : (n id : ℕ) (m : Seated K E A T) → HasTurn script history m
      → Allows (IsOrderly script history makes_entry fits first parts) n id m 1 (λ y. (y + 1) % 2 ^ 64) (PassesOn makes_entry (step n 1 1 0 none) m)
  passes_on n id m h =
      subst (λ (slots : List (ℕ × Slot K A T)). Allows (IsOrderly script history makes_entry fits first parts) n id (m.0, slots) 1 (λ y. (y + 1) % 2 ^ 64) (PassesOn makes_entry (step n 1 1 0 none) (m.0, slots))) (sym h.slot)
      (passes_on_at n id m.0 h.value h.note h.live h.holds h.kept h.long h.script_is)
