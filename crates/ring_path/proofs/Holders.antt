-- The commands that hold something come one after the other, in rising serial.
use Rattle.std.proofs.Common.{◌≡◌, ℕ, ◌+◌, ◌<◌, ◌≤◌, Bool, true, false, nat_lt, List, [], ◌∷◌, ◌++◌, length, map, filter, Option, None, Some, option_map, refl, sym, ap, ◌∙◌, subst, arith, ⊎_elim}
use Rattle.std.proofs.lemmas.Bool.{cases_Bool, le-ltb, lt-ltb, ltb-false, ltb-true}
use Rattle.std.proofs.lemmas.List.{append-nil, append_assoc, length-map}
use Rattle.tcmu_types.specs.Dumps.{HeldData}
use Rattle.tcmu_types.specs.Lists.{first_of}
use Rattle.tcmu_types.specs.Numbers.{Rise}
use Rattle.tcmu_types.proofs.Firsts.{first-passes}
use Rattle.tcmu_model.specs.BlockLists.{Taken}
use Rattle.tcmu_model.specs.Device.{Unfinished}
use Rattle.tcmu_model.proofs.Basics.{rows_rise}
use Rattle.region_model.specs.Pending.{PendingData}
use Rattle.region_model.specs.Picture.{picture_of, shown_command}
use Rattle.region_model.specs.Regions.{RegionState}
use Rattle.region_model.specs.Represents.{pending_of}
use Rattle.region_model.specs.Sides.{InHand, PendingRow, TargetState, UserState}
use Rattle.ring_path.specs.Devices.{RingDevice}
use Rattle.ring_path.specs.Rings.{IsRing}

abbrev pub behind : ℕ → List Unfinished → List Unfinished
behind s us = filter (λ (u : Unfinished). nat_lt s u.serial) us

-- the commands of greater serials
all_behind : (m n : ℕ) (us : List Unfinished) (high : ℕ) → m ≤ n → Rise n (map (λ (u : Unfinished). u.serial) us) high → behind m us ≡ us
all_behind m n [] high l r = refl
all_behind m n (u ∷ us) high l r =
    let k : nat_lt m u.serial ≡ true = lt-ltb m u.serial (omega (arith, l, r.0)) in
    let rest = all_behind m u.serial us high (omega (arith, l, r.0)) r.1 in
    rw k (ap (λ (vs : List Unfinished). u ∷ vs) rest)

next_behind : (s low : ℕ) (us : List Unfinished) (high : ℕ) (v : Unfinished) → Rise low (map (λ (u : Unfinished). u.serial) us) high → first_of (λ (u : Unfinished). nat_lt s u.serial) us ≡ Some v → behind s us ≡ v ∷ behind v.serial us
next_behind s low [] high v r h = absurd (cc)
next_behind s low (u ∷ us) high v r h =
    ⊎_elim
    (λ (k : nat_lt s u.serial ≡ true).
    let h' : Some u ≡ Some v = rw k at h in
    let q : u ≡ v = cc in
    let above : s ≤ u.serial = omega (arith, ltb-true s u.serial k) in
    let self : nat_lt u.serial u.serial ≡ false = le-ltb u.serial u.serial (omega arith) in
    let here : behind u.serial (u ∷ us) ≡ us = rw self (all_behind u.serial u.serial us high (omega arith) r.1) in
    let all : behind s (u ∷ us) ≡ u ∷ us = rw k (ap (λ (vs : List Unfinished). u ∷ vs) (all_behind s u.serial us high above r.1)) in
    subst (λ (x : Unfinished). behind s (u ∷ us) ≡ x ∷ behind x.serial (u ∷ us)) q (all ∙ ap (λ (vs : List Unfinished). u ∷ vs) (sym here)))
    (λ (k : nat_lt s u.serial ≡ false).
    let h' : first_of (λ (x : Unfinished). nat_lt s x.serial) us ≡ Some v = rw k at h in
    let far : s < v.serial = ltb-true s v.serial (first-passes (λ (x : Unfinished). nat_lt s x.serial) us v h') in
    let near : u.serial ≤ s = ltb-false s u.serial k in
    let out : nat_lt v.serial u.serial ≡ false = le-ltb v.serial u.serial (omega (arith, far, near)) in
    let one : behind s (u ∷ us) ≡ behind s us = rw k refl in
    let two : behind v.serial (u ∷ us) ≡ behind v.serial us = rw out refl in
    one ∙ next_behind s u.serial us high v r.1 h' ∙ ap (λ (vs : List Unfinished). v ∷ vs) (sym two))
    (cases_Bool (nat_lt s u.serial))

none_behind : {X : Type 0} (p : X → Bool) (xs : List X) → first_of p xs ≡ None → filter p xs ≡ []
none_behind p [] h = refl
none_behind p (x ∷ xs) h =
    ⊎_elim
    (λ (k : p x ≡ true). let h' : Some x ≡ None = rw k at h in absurd (cc))
    (λ (k : p x ≡ false). let h' : first_of p xs ≡ None = rw k at h in rw k (none_behind p xs h'))
    (cases_Bool (p x))

-- ==== what they hold

-- what was told, and what is still to be told
abbrev pub Tells : RingDevice → List HeldData → ℕ → Type 0
Tells k held s = held ++ map (shown_command k.lists) (behind s k.state.unfinished) ≡ map (shown_command k.lists) k.state.unfinished

pub tells_first : (r : RegionState) (t : TargetState) (user : UserState) (hand : List InHand) (b : Bool) (most : ℕ) (k : RingDevice) → IsRing r t user hand b most k → behind 0 k.state.unfinished ≡ k.state.unfinished
tells_first r t user hand b most k h = all_behind 0 0 k.state.unfinished k.state.accepted (omega arith) (rows_rise k.state h.stands.sound.serials)

pub tells_next : (r : RegionState) (t : TargetState) (user : UserState) (hand : List InHand) (b : Bool) (most : ℕ) (k : RingDevice) (s : ℕ) (held new : List HeldData) (x : HeldData) (v : Unfinished) → IsRing r t user hand b most k →
    first_of (λ (u : Unfinished). nat_lt s u.serial) k.state.unfinished ≡ Some v → x ≡ shown_command k.lists v → new ≡ held ++ x ∷ [] → Tells k held s → Tells k new v.serial
tells_next r t user hand b most k s held new x v h f e n w =
    let f' : List Unfinished → List HeldData = map (shown_command k.lists) in
    let step : behind s k.state.unfinished ≡ v ∷ behind v.serial k.state.unfinished = next_behind s 0 k.state.unfinished k.state.accepted v (rows_rise k.state h.stands.sound.serials) f in
    ap (λ (xs : List HeldData). xs ++ f' (behind v.serial k.state.unfinished)) n ∙ append_assoc held (x ∷ []) (f' (behind v.serial k.state.unfinished))
    ∙ ap (λ (y : HeldData). held ++ y ∷ f' (behind v.serial k.state.unfinished)) e ∙ ap (λ (us : List Unfinished). held ++ f' us) (sym step) ∙ w

pub fewer_next : (r : RegionState) (t : TargetState) (user : UserState) (hand : List InHand) (b : Bool) (most : ℕ) (k : RingDevice) (s : ℕ) (v : Unfinished) → IsRing r t user hand b most k →
    first_of (λ (u : Unfinished). nat_lt s u.serial) k.state.unfinished ≡ Some v → length (behind s k.state.unfinished) ≡ length (behind v.serial k.state.unfinished) + 1
fewer_next r t user hand b most k s v h f =
    let step : length (behind s k.state.unfinished) ≡ length (v ∷ behind v.serial k.state.unfinished) = ap (λ (us : List Unfinished). length us) (next_behind s 0 k.state.unfinished k.state.accepted v (rows_rise k.state h.stands.sound.serials) f) in
    omega (arith, step)

-- where none is left, all is told
pub tells_all : (k : RingDevice) (held : List HeldData) (s : ℕ) → behind s k.state.unfinished ≡ [] → Tells k held s → held ≡ (picture_of k.state k.lists).held
unfolding picture_of
tells_all k held s e w = sym (append-nil held) ∙ ap (λ (us : List Unfinished). held ++ map (shown_command k.lists) us) (sym e) ∙ w

pub none_left : (us : List Unfinished) → length us ≤ 0 → us ≡ []
none_left [] h = refl
none_left (u ∷ us) h = absurd (omega arith)

pub none_next : (k : RingDevice) (s : ℕ) → first_of (λ (u : Unfinished). nat_lt s u.serial) k.state.unfinished ≡ None → behind s k.state.unfinished ≡ []
none_next k s h = none_behind (λ (u : Unfinished). nat_lt s u.serial) k.state.unfinished h

-- there are as many as the target has pending
pub many : (r : RegionState) (t : TargetState) (user : UserState) (hand : List InHand) (b : Bool) (most : ℕ) (k : RingDevice) → IsRing r t user hand b most k → length t.rows ≡ length k.state.unfinished
many r t user hand b most k h =
    sym (length-map t.rows (λ (e : PendingRow). e.pending)) ∙ ap (λ (xs : List PendingData). length xs) h.stands.represents.target.rows ∙ length-map k.state.unfinished (pending_of k.lists)

pub tells_init : (k : RingDevice) (held : List HeldData) → held ≡ [] → behind 0 k.state.unfinished ≡ k.state.unfinished → Tells k held 0
tells_init k held e f = ap (λ (xs : List HeldData). xs ++ map (shown_command k.lists) (behind 0 k.state.unfinished)) e ∙ ap (map (shown_command k.lists)) f

pub record NextIs (lists : List Taken) (o : Option Unfinished) (x : HeldData) : Type 0 where
  pub it : Unfinished
  pub there : o ≡ Some it
  pub same : x ≡ shown_command lists it

pub next_is : (lists : List Taken) (o : Option Unfinished) (x : HeldData) → Some x ≡ option_map (shown_command lists) o → NextIs lists o x
next_is lists None x e = absurd (cc)
next_is lists (Some u) x e = record { it = u; there = refl; same = cc }

pub next_none : (lists : List Taken) (o : Option Unfinished) → None ≡ option_map (shown_command lists) o → o ≡ None
next_none lists None e = refl
next_none lists (Some u) e = absurd (cc)
