-- What the seat has after the value was moved out, asked, and moved back, and after it was counted.
use Rattle.std.proofs.Common.{◌≡◌, ℕ, ◌<◌, ◌≤◌, List, [], ◌∷◌, ◌++◌, length, append-nil, get_or, sym, refl, ap, ◌∙◌, subst, arith, Bool, false, Option, Some, None, Result, Ok, Err}
use Rattle.std.specs.Prelude.{IfOk, OnErr}
use Rattle.atomic_table.specs.Table.{rest}
use Rattle.turn_lock.specs.History.{Appends}
use Rattle.tcmu_types.specs.Numbers.{bit}
use Rattle.turn_lock.specs.Receipts.{receipt_of, receipts_of}
use Rattle.turn_lock.specs.declared.rule.Receipt.{Receipt}
use Rattle.turn_lock.specs.declared.rule.Note.{Note}
use Rattle.turn_lock.specs.declared.rule.Slot.{Slot}
use Rattle.turn_lock.specs.Turns.{Seated, slot_of}
use Rattle.turn_lock.specs.Steps.{IsNote, receipts_noted, IsIdle, Receives, HasTurn, Tells, IsUncounted}
use Rattle.turn_lock.proofs.Views.{some_same}

module _ {A T F : Type 0} where
  -- the receipt of the note is the ask's
  noted_is : (number : ℕ) (ask : A) (told : Result T F) (note : Option (Note A T)) → IsNote ask told note → receipts_noted number note ≡ receipts_of number ask told
  noted_is number ask (Ok told) noted h = ap (λ (o : Option (Note A T)). receipts_noted number o) h.1 ∙ (λ i. receipt_of number (h.2 i) (h.3 i) ∷ [])
  noted_is number ask (Err failed) noted h = ap (λ (o : Option (Note A T)). receipts_noted number o) h

module _ {S E A T F : Type 0} (makes_entry : T → Bool) (fits : S → List E → A → T → List E → Type 0) where
  -- what was appended, as the note says
  grown : (scr : S) (before after : List E) (ask : A) (told : Result T F) (note : Option (Note A T))
      → IfOk told (λ t. Appends makes_entry (fits scr) before ask t after) → OnErr told (after ≡ before) → IsNote ask told note
      → (added : List E) × (after ≡ before ++ added) × Tells makes_entry fits scr before added note
  grown scr before after ask (Ok told) noted a n is =
      let it = is.0 in
      let says : (t : T) → it.told.value ≡ t → (length a.0 ≡ bit (makes_entry t)) × fits scr before ask t a.0 → (length a.0 ≡ bit (makes_entry it.told.value)) × fits scr before it.ask.value it.told.value a.0 =
      λ t e h. subst (λ (x : T). (length a.0 ≡ bit (makes_entry x)) × fits scr before it.ask.value x a.0) (sym e) (subst (λ (x : A). (length a.0 ≡ bit (makes_entry t)) × fits scr before x t a.0) (sym is.2) h) in
      (a.0, a.1, subst (λ (o : Option (Note A T)). Tells makes_entry fits scr before a.0 o) (sym is.1) (says told is.3 (a.2, a.3)))
  grown scr before after ask (Err failed) noted a n is =
      ([], n ∙ sym (append-nil before), subst (λ (o : Option (Note A T)). Tells makes_entry fits scr before [] o) (sym is) refl)

module _ {K S E A T : Type 0} {script : K → S} {history : K → List E} where
  -- the value that was moved out is the one that the seat had: of the length that the seat saw
  pub moved_out : (m : Seated K E A T) (out : Slot K A T) (value : K) → HasTurn script history m → m.1 ≡ (0, out) ∷ rest m.1 → out.value ≡ Some value
      → (history value ≡ m.0.kept) × (length (history value) ≡ m.0.seen) × ((opening : K) → m.0.opening ≡ Some opening → script value ≡ script opening) × (rest m.1 ≡ [])
  moved_out m out value h e is =
      let both : (0, slot_of (Some h.value) h.note) ∷ [] ≡ (0, out) ∷ rest m.1 = sym h.slot ∙ e in
      let heads : Some h.value ≡ out.value = ap (λ (l : List (ℕ × Slot K A T)). (get_or l 0 (0, out)).1.value) both in
      let same : h.value ≡ value = some_same _ _ (heads ∙ is) in (
        ap history (sym same) ∙ h.kept,
        ap (λ (x : K). length (history x)) (sym same) ∙ h.long,
        (λ opening o. ap script (sym same) ∙ h.script_is opening o),
        ap (λ (l : List (ℕ × Slot K A T)). rest l) h.slot,
      )

module _ {K S E A T F : Type 0} {script : K → S} {history : K → List E} {makes_entry : T → Bool}
    {fits : S → List E → A → T → List E → Type 0} where
  -- after it was asked and moved back the seat has it, with the note
  pub asked : (m m1 m2 : Seated K E A T) (out empty : Slot K A T) (value new : K) (note : Option (Note A T)) (ask : A) (told : Result T F)
      → HasTurn script history m → m.1 ≡ (0, out) ∷ rest m.1 → out.value ≡ Some value → m1 ≡ (m.0, (0, empty) ∷ rest m.1) → m2 ≡ (m1.0, (0, slot_of (Some new) note) ∷ rest m1.1)
      → script new ≡ script value → IfOk told (λ t. Appends makes_entry (fits (script value)) (history value) ask t (history new)) → OnErr told (history new ≡ history value) → IsNote ask told note
      → IsUncounted script history makes_entry fits m2 ask told (length (history new))
  asked m m1 m2 out empty value new note ask told h e is e1 e2 same a n noted =
      let v = moved_out m out value h e is in
      let more = grown makes_entry fits (script value) (history value) (history new) ask told note a n noted in
      let now : m2 ≡ (m.0, (0, slot_of (Some new) note) ∷ []) =
      e2 ∙ ap (λ (y : Seated K E A T). (y.0, (0, slot_of (Some new) note) ∷ rest y.1)) e1 ∙ ap (λ (l : List (ℕ × Slot K A T)). (m.0, (0, slot_of (Some new) note) ∷ l)) v.3 in
      subst (λ (y : Seated K E A T). IsUncounted script history makes_entry fits y ask told (length (history new))) (sym now)
      record {
        live = h.live;
        holds = h.holds;
        value = new;
        note = note;
        added = more.0;
        slot = refl;
        grown = more.1 ∙ ap (λ (l : List E). l ++ more.0) v.0;
        tells = subst (λ (l : List E). Tells makes_entry fits (script new) l more.0 note) v.0 (subst (λ (z : S). Tells makes_entry fits z (history value) more.0 note) (sym same) more.2);
        script_is = λ opening o. same ∙ v.2 opening o;
        noted = noted;
        long = refl;
      }

  -- it still has the turn once the new entries are counted, and has the receipt
  pub counted : (m n : Seated K E A T) (ask : A) (told : Result T F) (number : ℕ) → IsUncounted script history makes_entry fits m ask told number → m.0.seen ≤ number
      → ((value : K) (note : Option (Note A T)) → m.1 ≡ (0, slot_of (Some value) note) ∷ []
      → n ≡ (record m.0 { seen = length (history value); kept = history value; receipts = m.0.receipts ++ receipts_noted (length (history value)) note }, m.1))
      → HasTurn script history n × Receives m n ask told number
  counted m n ask told number u above e =
      let now = e u.value u.note u.slot in (
        subst (λ (y : Seated K E A T). HasTurn script history y) (sym now) record { live = u.live; holds = u.holds; value = u.value; note = u.note; slot = u.slot; kept = refl; long = refl; script_is = u.script_is },
        subst (λ (y : Seated K E A T). Receives m y ask told number) (sym now)
            (refl, u.long, above, ap (λ (l : List (Receipt A T)). m.0.receipts ++ l) (ap (λ (k : ℕ). receipts_noted k u.note) u.long ∙ noted_is number ask told u.note u.noted)),
      )

module _ {K E A T : Type 0} where
  -- after an exchange the seat still has the slot
  pub slot_held : (m m1 : Seated K E A T) (x : Slot K A T) → m1 ≡ (m.0, (0, x) ∷ rest m.1) → (y : Slot K A T) × (m1.1 ≡ (0, y) ∷ rest m1.1)
  slot_held m m1 x e = subst (λ (n : Seated K E A T). (y : Slot K A T) × (n.1 ≡ (0, y) ∷ rest n.1)) (sym e) (x, refl)

  -- and after the turn was passed on it is idle, with what it received
  pub passed_on : (F : Type 0) (m n p : Seated K E A T) (ask : A) (told : Result T F) (number : ℕ) → 0 < m.0.parts → Receives m n ask told number → p ≡ (record n.0 { ticket = None; holds = false; kept = [] }, [])
      → IsIdle p × Receives m p ask told number
  passed_on F m n p ask told number live r e =
      subst (λ (y : Seated K E A T). IsIdle y × Receives m y ask told number) (sym e) ((omega (arith, r.0), refl, refl, refl), r)
