-- The steps of a pass that is asking, each with what it tells: draw, look, take, count up, pass on. The first seat, a split
-- and a join stand with the views.
use Rattle.std.specs.Prelude.{◌≡◌, ◌≢◌, ℕ, ◌+◌, ◌%◌, ◌^◌, ◌<◌, ◌≤◌, Bool, true, false, List, [], ◌∷◌, ◌++◌, length, Option, Some, None, Result, Ok, Err}
use Rattle.atomic_table.specs.Table.{Step}
use Rattle.tcmu_types.specs.Numbers.{bit}
use Rattle.turn_lock.specs.Receipts.{receipt_of, receipts_of, AllBelow, NoneTwice}
use Rattle.turn_lock.specs.Turns.{Seated, slot_of}
use Rattle.turn_lock.specs.declared.rule.Receipt.{Receipt}
use Rattle.turn_lock.specs.declared.rule.Note.{Note}
use Rattle.turn_lock.specs.declared.rule.Slot.{Slot}

module _ {A T : Type 0} where
  -- the note is of this ask and of what it was told, if anything
  abbrev pub IsNote : {F : Type 0} → A → Result T F → Option (Note A T) → Type 0
  IsNote ask (Ok told) note = (it : Note A T) × (note ≡ Some it) × (it.ask.value ≡ ask) × (it.told.value ≡ told)
  IsNote ask (Err failed) note = note ≡ None

  -- the receipt that a note gives at a history of this length
  abbrev pub receipts_noted : ℕ → Option (Note A T) → List (Receipt A T)
  receipts_noted number None = []
  receipts_noted number (Some it) = receipt_of number it.ask.value it.told.value ∷ []

module _ {S E A T : Type 0} (makes_entry : T → Bool) (fits : S → List E → A → T → List E → Type 0) where
  -- what a note says of the entries that were added behind these
  abbrev pub Tells : S → List E → List E → Option (Note A T) → Type 0
  Tells script before added None = added ≡ []
  Tells script before added (Some it) = (length added ≡ bit (makes_entry it.told.value)) × fits script before it.ask.value it.told.value added

module _ {K E A T : Type 0} where
  -- outside a call: no ticket, and no slot
  abbrev pub IsIdle : Seated K E A T → Type 0
  IsIdle m = (0 < m.0.parts) × (m.0.ticket ≡ None) × (m.0.holds ≡ false) × (m.1 ≡ [])

  -- in the queue, with a ticket that the word shows as `mine`
  abbrev pub IsQueued : ℕ → Seated K E A T → Type 0
  IsQueued mine m =
      (0 < m.0.parts) × (m.0.holds ≡ false) × (m.1 ≡ [])
      × ((ticket : ℕ) × (m.0.ticket ≡ Some ticket) × (ticket % 2 ^ 64 ≡ mine))

  -- the number of parts and the receipts are as they were
  abbrev pub KeepsReceipts : Seated K E A T → Seated K E A T → Type 0
  KeepsReceipts m n = (n.0.parts ≡ m.0.parts) × (n.0.receipts ≡ m.0.receipts)

  -- the seat got the receipt of this ask, at a history of this length, if the ask was told something
  abbrev pub Receives : {F : Type 0} → Seated K E A T → Seated K E A T → A → Result T F → ℕ → Type 0
  Receives m n ask told number =
      (n.0.parts ≡ m.0.parts) × (n.0.seen ≡ number) × (m.0.seen ≤ number) × (n.0.receipts ≡ m.0.receipts ++ receipts_of number ask told)

  -- draw: the word `ticket` goes up by 1, and what it was is the seat's ticket
  abbrev pub Draws : Step (Slot K A T) → Seated K E A T → ℕ → Seated K E A T → Type 0
  Draws st m found n = (ticket : ℕ) × (ticket % 2 ^ 64 ≡ found) × (n ≡ (record m.0 { ticket = Some ticket }, m.1))

  -- look, by a seat without a ticket: nothing changes, and the rule tells that it received no number twice
  abbrev pub Looks : (T → Bool) → Step (Slot K A T) → Seated K E A T → ℕ → Seated K E A T → Type 0
  Looks makes_entry st m found n = (n ≡ m) × NoneTwice makes_entry m.0.receipts

  -- pass on: the word `serving` goes up by 1, and the seat gives back the slot and has no ticket and no turn
  abbrev pub PassesOn : (T → Bool) → Step (Slot K A T) → Seated K E A T → ℕ → Seated K E A T → Type 0
  PassesOn makes_entry st m found n =
      (n ≡ (record m.0 { ticket = None; holds = false; kept = [] }, [])) × NoneTwice makes_entry m.0.receipts

module _ {K E A T : Type 0} (history : K → List E) where
  -- count up: the word `count` goes up by the entries appended, the seat keeps the history after the ask, and it gets the
  -- receipt of the note. All that it received before is of shorter histories, or of the one before the ask
  abbrev pub CountsUp : Step (Slot K A T) → Seated K E A T → ℕ → Seated K E A T → Type 0
  CountsUp st m found n =
      ((value : K) (note : Option (Note A T)) → m.1 ≡ (0, slot_of (Some value) note) ∷ []
      → n ≡ (record m.0 { seen = length (history value); kept = history value; receipts = m.0.receipts ++ receipts_noted (length (history value)) note }, m.1))
      × AllBelow (m.0.seen + 1) m.0.receipts

module _ {K S E A T : Type 0} (script : K → S) (history : K → List E) where
  -- the seat's value has the script of the opening one
  abbrev pub HasScript : Seated K E A T → K → Type 0
  HasScript m value = (opening : K) → m.0.opening ≡ Some opening → script value ≡ script opening

  -- the seat has the turn, and the slot with a value of the history that it keeps
  pub record HasTurn (m : Seated K E A T) : Type 0 where
    pub live : 0 < m.0.parts
    pub holds : m.0.holds ≡ true
    pub value : K
    pub note : Option (Note A T)
    pub slot : m.1 ≡ (0, slot_of (Some value) note) ∷ []
    pub kept : history value ≡ m.0.kept
    pub long : length (history value) ≡ m.0.seen
    pub script_is : HasScript m value

  -- take: the seat gets the turn and the slot, and sees no shorter history than before
  abbrev pub Takes : Seated K E A T → Seated K E A T → Type 0
  Takes m n = HasTurn n × (m.0.seen ≤ n.0.seen) × KeepsReceipts m n

  -- a load of the word `serving`: where that is the seat's own ticket the same step takes, else it looks
  abbrev pub LooksOrTakes : Step (Slot K A T) → Seated K E A T → ℕ → Seated K E A T → Type 0
  LooksOrTakes st m found n =
      (ticket : ℕ) → m.0.ticket ≡ Some ticket → (found ≡ ticket % 2 ^ 64 → Takes m n) × (found ≢ ticket % 2 ^ 64 → n ≡ m)

  -- the seat has the turn, and its value was asked this and told that; the entries added are not counted yet, and the history
  -- is now as long as `number` says
  pub record IsUncounted (makes_entry : T → Bool) (fits : S → List E → A → T → List E → Type 0) {F : Type 0}
      (m : Seated K E A T) (ask : A) (told : Result T F) (number : ℕ) : Type 0 where
    pub live : 0 < m.0.parts
    pub holds : m.0.holds ≡ true
    pub value : K
    pub note : Option (Note A T)
    pub added : List E
    pub slot : m.1 ≡ (0, slot_of (Some value) note) ∷ []
    pub grown : history value ≡ m.0.kept ++ added
    pub tells : Tells makes_entry fits (script value) m.0.kept added note
    pub script_is : HasScript m value
    pub noted : IsNote ask told note
    pub long : length (history value) ≡ number
