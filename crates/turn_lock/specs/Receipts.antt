-- The receipts of a pass: one for each ask that was told something, in the order in which the pass made them.
use Rattle.std.specs.Prelude.{◌≡◌, ℕ, ◌<◌, ◌≤◌, ◌==◌, Bool, cond, List, [], ◌∷◌, ◌++◌, length, Result, Ok, Err}
use mathlib.Core.List.{IsPrefix}
use Rattle.turn_lock.specs.declared.rule.Receipt.{Receipt}
use Rattle.tcmu_types.specs.Numbers.{bit}
use Rattle.turn_lock.specs.Lists.{total}
use Rattle.tcmu_types.specs.Lists.{Every}

module _ {A T : Type 0} where
  abbrev pub receipt_of : ℕ → A → T → Receipt A T
  receipt_of number ask told = record { number = number; ask = ask; told = told }

  -- the receipts that one ask gives: one where it was told something, else none
  abbrev pub receipts_of : {F : Type 0} → ℕ → A → Result T F → List (Receipt A T)
  receipts_of number ask (Ok told) = receipt_of number ask told ∷ []
  receipts_of number ask (Err failed) = []

  -- each was received at a shorter history
  abbrev pub AllBelow : ℕ → List (Receipt A T) → Type 0
  AllBelow number receipts = Every (λ r. r.number < number) receipts

  -- the number is above what was seen, and above the numbers of all these receipts
  abbrev pub IsAbove : ℕ → ℕ → List (Receipt A T) → Type 0
  IsAbove number seen receipts = (seen < number) × AllBelow number receipts

  module _ (makes_entry : T → Bool) where
    -- 1 where the receipt tells that entry k was made
    abbrev pub tells_of : ℕ → Receipt A T → ℕ
    tells_of k r = cond (makes_entry r.told) (cond (r.number == k) 1 0) 0

    -- how many of the receipts tell that entry k was made
    abbrev pub times : ℕ → List (Receipt A T) → ℕ
    times k receipts = total (tells_of k) receipts

    -- no two of the receipts tell of one entry
    abbrev pub NoneTwice : List (Receipt A T) → Type 0
    NoneTwice receipts = (k : ℕ) → times k receipts ≤ 1

-- The receipt fits this history of a value with this script. Its ask was made after the entries before, and appended at
-- most one; then the history had as many entries as the receipt's number says. What was told, and what was appended, is
-- what the ask may be told there.
abbrev pub FitsAt : {S E A T : Type 0} → (T → Bool) → (S → List E → A → T → List E → Type 0) → S → List E → Receipt A T → Type 0
FitsAt {S} {E} makes_entry fits script history r =
    (before added later : List E) × (history ≡ before ++ added ++ later) × (length (before ++ added) ≡ r.number)
    × (length added ≡ bit (makes_entry r.told)) × fits script before r.ask r.told added

-- a receipt that fits a history fits each history that begins with it
abbrev pub ReceiptsLast : {S E A T : Type 0} → (T → Bool) → (S → List E → A → T → List E → Type 0) → Type 0
ReceiptsLast {S} {E} {A} {T} makes_entry fits =
    (script : S) (history longer : List E) (r : Receipt A T) → IsPrefix history longer
    → FitsAt makes_entry fits script history r → FitsAt makes_entry fits script longer r
