-- The numbers of a ring state, as items are laid and cleared.
use Rattle.std.proofs.Common.{◌≡◌, ℕ, ◌+◌, ◌-◌, ◌%◌, ◌≤◌, List, [], ◌∷◌, ◌++◌, length, take, drop, append_assoc, refl, sym, ap, ◌∙◌, arith}
use Rattle.std.proofs.Math.Nat.{mod-add-mod}
use Rattle.std.proofs.Math.Seq.{take-add}
use Rattle.std.proofs.lemmas.List.{drop-drop, drop-append-le, take-append-le}
use Rattle.std.proofs.lemmas.List.Sums.{sum_by-take-drop}
use Rattle.tcmu_model.specs.RingState.{RingState, Item, lengths, pads, with_item}
use Rattle.tcmu_model.specs.RingState as ring
use Rattle.cmd_ring.specs.Places.{RingPlaces, placed, advanced, places_of}
use Rattle.cmd_ring.specs.Calls.{oldest}
use Rattle.tcmu_model.proofs.Laying.{lengths-pads, lengths-append}

-- what is laid with an item
pub lengths-laid : (xs : List Item) (n : ℕ) (i : Item) → lengths (xs ++ pads n ++ i ∷ []) ≡ lengths xs + (n + i.len)
lengths-laid xs n i =
    let a = lengths-append (xs ++ pads n) (i ∷ []) in
    let b = lengths-append xs (pads n) in
    let c = lengths-pads n in
    let one : lengths (i ∷ []) ≡ i.len = omega arith in
    omega arith

less : (a b c : ℕ) → a ≡ b + c → c ≡ a - b
less a b c h = omega arith

-- the numbers, each by its own equation
same : (size a a' b b' c c' : ℕ) → a ≡ a' → b ≡ b' → c ≡ c' →
    ◌≡◌ {A = RingPlaces} (record { size = size; head = a; cleaned = b; used = c }) (record { size = size; head = a'; cleaned = b'; used = c' })
same size a a' b b' c c' p q r = cc

-- so many bytes of padding and an item are laid
laid_with : (size cleared n : ℕ) (xs : List Item) (i : Item) → cleared ≤ length xs →
    ◌≡◌ {A = RingPlaces}
    (record { size = size; head = lengths (xs ++ pads n ++ i ∷ []) % size; cleaned = lengths (take cleared (xs ++ pads n ++ i ∷ [])) % size; used = lengths (drop cleared (xs ++ pads n ++ i ∷ [])) })
    (record { size = size; head = (lengths xs % size + (n + i.len)) % size; cleaned = lengths (take cleared xs) % size; used = lengths (drop cleared xs) + (n + i.len) })
laid_with size cleared n xs i h =
    let e : xs ++ pads n ++ i ∷ [] ≡ xs ++ (pads n ++ i ∷ []) = append_assoc xs (pads n) (i ∷ []) in
    let t : take cleared (xs ++ pads n ++ i ∷ []) ≡ take cleared xs = ap (take cleared) e ∙ take-append-le cleared xs (pads n ++ i ∷ []) h in
    let d : drop cleared (xs ++ pads n ++ i ∷ []) ≡ drop cleared xs ++ pads n ++ i ∷ [] =
    ap (drop cleared) e ∙ drop-append-le cleared xs (pads n ++ i ∷ []) h ∙ sym (append_assoc (drop cleared xs) (pads n) (i ∷ [])) in
    same size _ _ _ _ _ _
    (ap (λ z. z % size) (lengths-laid xs n i) ∙ sym (mod-add-mod (lengths xs) size (n + i.len)))
    (ap (λ ys. lengths ys % size) t)
    (ap lengths d ∙ lengths-laid (drop cleared xs) n i)

pub laying : (r : RingState) (i : Item) → r.cleared ≤ length r.laid → places_of (with_item r i) ≡ placed (places_of r) i.len
laying r i h = laid_with r.size r.cleared (ring.pad r i.len) r.laid i h

-- the oldest items, and what is left behind them
pub lengths-cleared : (cleared k : ℕ) (xs : List Item) → lengths (drop cleared xs) ≡ lengths (take k (drop cleared xs)) + lengths (drop (cleared + k) xs)
lengths-cleared cleared k xs =
    sym (sum_by-take-drop (λ i. i.len) (drop cleared xs) k) ∙ ap (λ ys. lengths (take k (drop cleared xs)) + lengths ys) (drop-drop k cleared xs)

pub clearing : (r : RingState) (k : ℕ) → r.cleared + k ≤ length r.laid → places_of (record r { cleared = r.cleared + k }) ≡ advanced (places_of r) (oldest r k)
clearing r k h =
    let t : lengths (take (r.cleared + k) r.laid) ≡ lengths (take r.cleared r.laid) + oldest r k =
    ap lengths (take-add r.cleared k r.laid) ∙ lengths-append (take r.cleared r.laid) (take k (drop r.cleared r.laid)) in
    let u = lengths-cleared r.cleared k r.laid in
    same r.size _ _ _ _ _ _
    refl
    (ap (λ z. z % r.size) t ∙ sym (mod-add-mod (lengths (take r.cleared r.laid)) r.size (oldest r k)))
    (less (lengths (drop r.cleared r.laid)) (oldest r k) (lengths (drop (r.cleared + k) r.laid)) u)
