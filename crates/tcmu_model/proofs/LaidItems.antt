-- Items behind a laying, by their places: those that were there, the padding, the new one.
use Rattle.std.proofs.Common.{◌≡◌, ◌≢◌, ℕ, ◌+◌, ◌-◌, ◌<◌, ◌≤◌, true, false, List, [], ◌∷◌, ◌++◌, length, take, refl, sym, ap, ◌∙◌, arith, suc, zero, Some, slice_get, length-append, subst, ⊎_elim, eqb}
use Rattle.std.proofs.lemmas.Bool.{cases_Bool, eqb-true, eqb-false, cases_lt, eq-eqb, ne_eqb}
use Rattle.std.proofs.lemmas.List.{take-append-le}
use Rattle.tcmu_types.specs.Data.{CommandData}
use Rattle.tcmu_types.specs.Lists.{Every}
use Rattle.tcmu_types.proofs.Places.{get_append_left}
use Rattle.tcmu_types.proofs.Everies.{every-front, every-back}
use Rattle.tcmu_model.specs.RingState.{RingState, Item, Laid, pads, serial_in, serials_in}
use Rattle.tcmu_model.specs.RingState as ring

pub slice_get-right : {X : Type 0} (xs ys : List X) (i : ℕ) → slice_get (xs ++ ys) (length xs + i) ≡ slice_get ys i
slice_get-right [] ys i = let e : 0 + i ≡ i = omega arith in ap (slice_get ys) e
slice_get-right (x ∷ xs) ys i = let e : suc (length xs) + i ≡ suc (length xs + i) = omega arith in ap (slice_get (x ∷ (xs ++ ys))) e ∙ slice_get-right xs ys i

abbrev pub laid_with : RingState → Item → List Item
laid_with r it = r.laid ++ pads (ring.pad r it.len) ++ it ∷ []

abbrev pub pad_item : ℕ → Item
pad_item n = record { len = n; laid = ring.Pad }

-- an item after a laying: one that was there, the pad, or the new one
pub data LaidCase (r : RingState) (it : Item) (i : ℕ) (x : Item) : Type 0 where
  Old : i < length r.laid → slice_get r.laid i ≡ Some x → LaidCase r it i x
  Padding : i ≡ length r.laid → ring.pad r it.len ≢ 0 → x ≡ pad_item (ring.pad r it.len) → LaidCase r it i x
  New : i ≡ length (r.laid ++ pads (ring.pad r it.len)) → x ≡ it → LaidCase r it i x

within_one : {X : Type 0} (y x : X) (i : ℕ) → slice_get (y ∷ []) i ≡ Some x → (i ≡ 0) × (x ≡ y)
within_one y x zero h = (refl, cc)
within_one y x (suc i) h = absurd (cc)

behind : {X : Type 0} (xs ys : List X) (i : ℕ) (x : X) → length xs ≤ i → slice_get (xs ++ ys) i ≡ Some x → slice_get ys (i - length xs) ≡ Some x
behind xs ys i x l h = let k : length xs + (i - length xs) ≡ i = omega arith in sym (slice_get-right xs ys (i - length xs)) ∙ ap (slice_get (xs ++ ys)) k ∙ h

pub pads_none : (n : ℕ) → n ≡ 0 → pads n ≡ []
pads_none n h = rw (eq-eqb n 0 h) refl

pub pads_some : (n : ℕ) → n ≢ 0 → pads n ≡ pad_item n ∷ []
pads_some n h = rw (ne_eqb n 0 h) refl

pub laid_case : (r : RingState) (it : Item) (i : ℕ) (x : Item) → slice_get (laid_with r it) i ≡ Some x → LaidCase r it i x
laid_case r it i x h =
    let n : ℕ = ring.pad r it.len in
    ⊎_elim
    (λ (l : i < length r.laid).
    let m : i < length (r.laid ++ pads n) = let e : length (r.laid ++ pads n) ≡ length r.laid + length (pads n) = length-append r.laid (pads n) in omega arith in
    Old l (sym (get_append_left r.laid (pads n) i l) ∙ sym (get_append_left (r.laid ++ pads n) (it ∷ []) i m) ∙ h))
    (λ (l : length r.laid ≤ i).
    ⊎_elim
    (λ (m : i < length (r.laid ++ pads n)).
    let g : slice_get (pads n) (i - length r.laid) ≡ Some x = behind r.laid (pads n) i x l (sym (get_append_left (r.laid ++ pads n) (it ∷ []) i m) ∙ h) in
    ⊎_elim
    (λ (z : eqb n 0 ≡ true). let e : pads n ≡ [] = pads_none n (eqb-true n 0 z) in let k : slice_get {X = Item} [] (i - length r.laid) ≡ Some x = subst (λ (ys : List Item). slice_get ys (i - length r.laid) ≡ Some x) e g in absurd (cc))
    (λ (z : eqb n 0 ≡ false).
    let e : pads n ≡ pad_item n ∷ [] = pads_some n (eqb-false n 0 z) in
    let k = within_one (pad_item n) x (i - length r.laid) (subst (λ (ys : List Item). slice_get ys (i - length r.laid) ≡ Some x) e g) in
    let k0 : i - length r.laid ≡ 0 = k.0 in
    Padding (omega arith) (eqb-false n 0 z) k.1)
    (cases_Bool (eqb n 0)))
    (λ (m : length (r.laid ++ pads n) ≤ i).
    let g = within_one it x (i - length (r.laid ++ pads n)) (behind (r.laid ++ pads n) (it ∷ []) i x m h) in
    let g0 : i - length (r.laid ++ pads n) ≡ 0 = g.0 in
    New (omega arith) g.1)
    (cases_lt i (length (r.laid ++ pads n))))
    (cases_lt i (length r.laid))

pub take-laid : (r : RingState) (it : Item) (i : ℕ) → i ≤ length r.laid → take i (laid_with r it) ≡ take i r.laid
take-laid r it i h =
    let n : ℕ = ring.pad r it.len in
    let e : length (r.laid ++ pads n) ≡ length r.laid + length (pads n) = length-append r.laid (pads n) in
    take-append-le i (r.laid ++ pads n) (it ∷ []) (omega arith) ∙ take-append-le i r.laid (pads n) h

-- the serial of a command that is laid
pub serial_at : (P : ℕ → Type 0) (is : List Item) (i n q : ℕ) (c : CommandData) → Every P (serials_in is) → slice_get is i ≡ Some (record { len = n; laid = ring.Cmd q c }) → P q
serial_at P [] i n q c e h = absurd (cc)
serial_at P (x ∷ xs) zero n q c e h =
    let same : x ≡ record { len = n; laid = ring.Cmd q c } = cc in
    (subst (λ (y : Item). Every P (serial_in y)) same (every-front P (serial_in x) (serials_in xs) e)).0
serial_at P (x ∷ xs) (suc i) n q c e h = serial_at P xs i n q c (every-back P (serial_in x) (serials_in xs) e) h
