-- The rule of a turn: what its three words, its slot and the views of its passes have in common between any two steps.
-- Word 0 (ticket) is the next ticket to be drawn and word 1 (serving) the ticket that has the turn, both modulo 2^64.
-- Word 2 (count) is the length of the history.
use Rattle.std.specs.Prelude.{◌≡◌, ℕ, ◌+◌, ◌-◌, ◌%◌, ◌^◌, ◌<◌, ◌≤◌, max, ◌==◌, Bool, true, false, cond, List, [], ◌∷◌, ◌++◌, length, Option, Some, None}
use mathlib.Core.Option.{some, none}
use mathlib.Core.List.{IsPrefix}
use lib.ListN.{get_elem?}
use Rattle.atomic_table.specs.Table.{State, Me}
use Rattle.tcmu_types.specs.Numbers.{bit}
use Rattle.turn_lock.specs.Lists.{total, EachOnce}
use Rattle.tcmu_types.specs.Lists.{Every}
use Rattle.turn_lock.specs.Receipts.{times, FitsAt}
use Rattle.turn_lock.specs.declared.rule.View.{View}
use Rattle.turn_lock.specs.declared.rule.Note.{Note}
use Rattle.turn_lock.specs.declared.rule.Slot.{Slot}

-- 1 where this is ticket t
abbrev pub is_ticket : ℕ → Option ℕ → ℕ
is_ticket t None = 0
is_ticket t (Some n) = cond (n == t) 1 0

-- 1 where there is a ticket
abbrev pub has_ticket : Option ℕ → ℕ
has_ticket None = 0
has_ticket (Some n) = 1

abbrev pub slot_of : {K A T : Type 0} → Option K → Option (Note A T) → Slot K A T
slot_of value note = record { value = value; note = note }

-- a seat: its view, and the slot that it has taken
abbrev pub Seated : Type 0 → Type 0 → Type 0 → Type 0 → Type 0
Seated K E A T = Me (Slot K A T) (View K E A T)

module _ {K E A T : Type 0} where
  -- of a view: whether it has ticket t, whether it has a ticket, whether it holds the turn, its parts, and how often it
  -- received entry k
  abbrev pub tickets_at : ℕ → View K E A T → ℕ
  tickets_at t v = is_ticket t v.ticket

  abbrev pub tickets_in : View K E A T → ℕ
  tickets_in v = has_ticket v.ticket

  abbrev pub turns_in : View K E A T → ℕ
  turns_in v = bit v.holds

  abbrev pub parts_in : View K E A T → ℕ
  parts_in v = v.parts

  abbrev pub times_in : (T → Bool) → ℕ → View K E A T → ℕ
  times_in makes_entry k v = times makes_entry k v.receipts

  -- make the first seat: it has all parts
  abbrev pub first_view : K → ℕ → ℕ → View K E A T
  first_view opening parts seen =
      record { opening = Some opening; parts = parts; seen = seen; ticket = None; holds = false; kept = []; receipts = [] }

  -- split a seat: the new one has one part and no receipt, and the old one keeps the rest
  abbrev pub one_less : View K E A T → View K E A T
  one_less v = record v { parts = v.parts - 1 }

  abbrev pub one_part : View K E A T → View K E A T
  one_part v = record { opening = v.opening; parts = 1; seen = v.seen; ticket = None; holds = false; kept = []; receipts = [] }

  -- join a seat: the kept one takes the parts of both, the longer length and both lists of receipts, and the other is spent
  abbrev pub joined_view : View K E A T → View K E A T → View K E A T
  joined_view v w = record v { parts = v.parts + w.parts; seen = max v.seen w.seen; receipts = v.receipts ++ w.receipts }

  abbrev pub spent_view : View K E A T
  spent_view = record { opening = None; parts = 0; seen = 0; ticket = None; holds = false; kept = []; receipts = [] }

-- What the rule says of one view, where `serving` is the ticket that has the turn, and `now` the history: that of the value
-- at home, or else the one that the holding view keeps
pub record IsViewOf {K S E A T : Type 0} (makes_entry : T → Bool) (fits : S → List E → A → T → List E → Type 0)
    (opening : K) (script : S) (serving : ℕ) (now : List E) (v : View K E A T) : Type 0 where
  pub live : 0 < v.parts → (v.opening ≡ Some opening) × (v.seen ≤ length now)
  pub spent : v.parts ≡ 0 → (v.ticket ≡ None) × (v.receipts ≡ [])
  pub holder : v.holds ≡ true → (v.ticket ≡ Some serving) × (v.seen ≡ length now) × (v.kept ≡ now)
  pub fitting : Every (FitsAt makes_entry fits script now) v.receipts

module _ {K S E A T : Type 0} (script : K → S) (history : K → List E) (makes_entry : T → Bool)
    (fits : S → List E → A → T → List E → Type 0) where
  -- a value with the script of the opening one, and this history
  abbrev pub IsAt : K → List E → K → Type 0
  IsAt opening now value = (script value ≡ script opening) × (history value ≡ now)

  pub record IsOrderly (opening : K) (parts : ℕ) (s : State (Slot K A T) (View K E A T)) : Type 0 where
    pub serving : ℕ
    pub now : List E
    -- the words
    pub words : s.words ≡ ((serving + total tickets_in s.views) % 2 ^ 64) ∷ (serving % 2 ^ 64) ∷ length now ∷ []
    -- the views: their parts sum to the turn's, and the tickets held are serving, serving + 1 and so on
    pub few : parts < 2 ^ 32
    pub shares : total parts_in s.views ≡ parts
    pub each : (id : ℕ) (v : View K E A T) → get_elem? s.views id ≡ some v
        → IsViewOf makes_entry fits opening (script opening) serving now v
    pub queue : EachOnce serving (serving + total tickets_in s.views) (λ t. total (tickets_at t) s.views)
    -- the history: it goes on from the opening one, and each entry since then stands in one receipt
    pub since : IsPrefix (history opening) now
    pub received : EachOnce (length (history opening) + 1) (length now + 1) (λ k. total (times_in makes_entry k) s.views)
    -- the slot: it is at home exactly where no view holds the turn
    pub one_slot : length s.homes ≡ 1
    pub home : total turns_in s.views ≡ 0
        → (value : K) × (note : Option (Note A T)) × (get_elem? s.homes 0 ≡ some (some (slot_of (Some value) note))) × IsAt opening now value
    pub out : 0 < total turns_in s.views → get_elem? s.homes 0 ≡ some none
