-- How the receipts of a pass stand to a history that grows.
use Rattle.std.proofs.Common.{◌≡◌, ℕ, ◌+◌, ◌<◌, ◌≤◌, eqb, cond, Bool, true, false, List, [], ◌++◌, length, sym, refl, ap, ◌∙◌, arith, length-append, append_assoc, append-nil, eq-eqb, ne_eqb, Option, Some, None}
use mathlib.Core.List.{IsPrefix}
use mathlib.Core.Logic.{dite}
use native.Mathlib.Decide.{ℕ_discrete}
use Rattle.tcmu_types.specs.Numbers.{bit}
use Rattle.turn_lock.specs.Lists.{StandsOnce}
use Rattle.tcmu_types.specs.Lists.{Every}
use Rattle.turn_lock.specs.Receipts.{receipt_of, tells_of, times, AllBelow, FitsAt}
use Rattle.turn_lock.specs.Steps.{receipts_noted, Tells}
use Rattle.turn_lock.specs.declared.rule.Receipt.{Receipt}
use Rattle.turn_lock.specs.declared.rule.Note.{Note}
use Rattle.turn_lock.proofs.Sums.{Every-map}

pub IsPrefix-append : {E : Type 0} (xs ys more zs : List E) → zs ≡ ys ++ more → IsPrefix xs ys → IsPrefix xs zs
IsPrefix-append xs ys more zs e p = (p.0 ++ more, sym (append_assoc xs p.0 more) ∙ ap (λ l. l ++ more) p.1 ∙ sym e)

module _ {S E A T : Type 0} (makes_entry : T → Bool) (fits : S → List E → A → T → List E → Type 0) (script : S) where
  -- a receipt that fits a history fits each history that begins with it
  pub FitsAt-longer : (history longer more : List E) (r : Receipt A T) → longer ≡ history ++ more → FitsAt makes_entry fits script history r → FitsAt makes_entry fits script longer r
  FitsAt-longer history longer more r e f = (f.0, f.1, f.2 ++ more, e ∙ ap (λ (l : List E). l ++ more) f.3 ∙ simp append_assoc, f.4, f.5, f.6)

  -- its number is at most the length of the history
  FitsAt-below : (history : List E) (r : Receipt A T) → FitsAt makes_entry fits script history r → r.number < length history + 1
  FitsAt-below history r f = omega (arith, f.4, ap length f.3, length-append (f.0 ++ f.1) f.2)

  pub all_below : (history : List E) (receipts : List (Receipt A T)) → Every (FitsAt makes_entry fits script history) receipts → AllBelow (length history + 1) receipts
  all_below history receipts h = Every-map _ _ receipts (FitsAt-below history) h

  -- the receipt of a note fits the history after the ask
  pub noted_fits : (before added now : List E) (note : Option (Note A T)) → now ≡ before ++ added → Tells makes_entry fits script before added note
      → Every (FitsAt makes_entry fits script now) (receipts_noted (length now) note)
  noted_fits before added now None e f = tt
  noted_fits before added now (Some note) e f = ((before, added, [], e ∙ sym (append-nil (before ++ added)), ap length (sym e), f.0, f.1), tt)

  -- with the receipt of a note the numbers go up to the length after the ask, each once
  pub noted_once : (before added : List E) (k first count count' n : ℕ) (note : Option (Note A T)) → Tells makes_entry fits script before added note → count' ≡ count + length added → first ≤ count + 1
      → StandsOnce k first (count + 1) n → StandsOnce k first (count' + 1) (n + times makes_entry k (receipts_noted count' note))
  noted_once before added k first count count' n None f e since q =
      let none_added : length added ≡ 0 = ap length f in
      record { before = λ h. omega (arith, q.before h); among = λ a b. omega (arith, q.among a (omega arith)); after = λ h. omega (arith, q.after (omega arith)) }
  noted_once before added k first count count' n (Some note) f e since q = by_made (makes_entry note.told.value) refl
    where
      by_made : (b : Bool) → makes_entry note.told.value ≡ b → StandsOnce k first (count' + 1) (n + (tells_of makes_entry k (receipt_of count' note.ask.value note.told.value) + 0))
      by_made true is =
          let one : length added ≡ 1 = f.0 ∙ ap bit is in
          let it : tells_of makes_entry k (receipt_of count' note.ask.value note.told.value) ≡ cond {A = ℕ} (eqb count' k) 1 0 = ap (λ b. cond b (cond {A = ℕ} (eqb count' k) 1 0) 0) is in
          dite (ℕ_discrete count' k)
          (λ here.
          let w : cond {A = ℕ} (eqb count' k) 1 0 ≡ 1 = ap (λ b. cond b 1 0) (eq-eqb count' k here) in
          let z = q.after (omega arith) in
          record { before = λ h. absurd (omega arith); among = λ a b. omega arith; after = λ h. absurd (omega arith) })
          (λ ne.
          let w : cond {A = ℕ} (eqb count' k) 1 0 ≡ 0 = ap (λ b. cond b 1 0) (ne_eqb count' k ne) in
          record { before = λ h. omega (arith, q.before h); among = λ a b. omega (arith, q.among a (omega arith)); after = λ h. omega (arith, q.after (omega arith)) })
      by_made false is =
          let none_added : length added ≡ 0 = f.0 ∙ ap bit is in
          let it : tells_of makes_entry k (receipt_of count' note.ask.value note.told.value) ≡ 0 = ap (λ b. cond b (cond {A = ℕ} (eqb count' k) 1 0) 0) is in
          record { before = λ h. omega (arith, q.before h); among = λ a b. omega (arith, q.among a (omega arith)); after = λ h. omega (arith, q.after (omega arith)) }
