-- What a change of the jobs in hand does to a tally.
use Rattle.std.proofs.Common.{◌≡◌, ℕ, ◌+◌, ◌<◌, ◌≤◌, Bool, true, false, cond, eqb, ltb, List, [], ◌∷◌, ◌++◌, drop, Option, Some, None, refl, sym, ap, subst, ◌∙◌, arith, ⊎_elim, suc, zero, if◌then◌else◌, ◌==◌}
use Rattle.std.specs.List.{list_any, count_by}
use Rattle.std.specs.Option.{option_map}
use Rattle.std.proofs.lemmas.Bool.{cases_Bool, false≢true, eqb-true, eqb-false, le-ltb, lt-ltb}
use Rattle.std.proofs.lemmas.List.Sums.{sum_by-cons, sum_by_push}
use Rattle.tcmu_types.specs.Lists.{first_of, with_first, without_first, IsFirst, Every}
use Rattle.tcmu_types.specs.Numbers.{IsRising}
use Rattle.region_model.specs.Sides.{InHand}
use Rattle.tcmu_types.proofs.Counts.{sum-with_first_less}
use Rattle.ring_path.specs.Hands.{serials_in_hand, lesser, without}
use Rattle.ring_path.proofs.Rising.{rises-head}
use Rattle.tcmu_types.proofs.Rises.{rising_rest}

-- the serial of the first that passes
abbrev least : (InHand → Bool) → List InHand → Option ℕ
least p us = option_map (λ u. u.serial) (first_of p us)

-- ==== one comes to pass

lesser-first : (p : InHand → Bool) (s : ℕ) (us : List InHand) → Every (λ x. s < x) (serials_in_hand us) → lesser (least p us) s ≡ Some s
lesser-first p s [] h = refl
lesser-first p s (u ∷ us) h =
    ⊎_elim
    (λ (e : p u ≡ true). let no : ltb u.serial s ≡ false = le-ltb u.serial s (omega (arith, h.0)) in rw (e, no) refl)
    (λ (e : p u ≡ false). rw e (lesser-first p s us h.1))
    (cases_Bool (p u))

serial-among : (q : InHand → Bool) (s n : ℕ) (us : List InHand) → ((u : InHand) → q u ≡ true → u.serial ≡ s) → list_any q us ≡ true → Every (λ x. n < x) (serials_in_hand us) → n < s
serial-among q s n [] k a h = absurd (false≢true a)
serial-among q s n (u ∷ us) k a h =
    ⊎_elim
    (λ (e : q u ≡ true). omega (arith, h.0, k u e))
    (λ (e : q u ≡ false). let r : list_any q us ≡ true = rw e at a in serial-among q s n us k r h.1)
    (cases_Bool (q u))

pub entered : (p q : InHand → Bool) (g : InHand → InHand) (s : ℕ) (us : List InHand)
    → ((u : InHand) → q u ≡ true → u.serial ≡ s)
    → ((u : InHand) → q u ≡ true → p u ≡ false)
    → ((u : InHand) → p (g u) ≡ true)
    → ((u : InHand) → (g u).serial ≡ u.serial)
    → IsRising (serials_in_hand us) → list_any q us ≡ true → least p (with_first q g us) ≡ lesser (least p us) s
entered p q g s [] k was is same h a = absurd (false≢true a)
entered p q g s (u ∷ us) k was is same h a =
    ⊎_elim
    (λ (e : q u ≡ true).
    let no : p u ≡ false = was u e in
    let yes : p (g u) ≡ true = is u in
    let serial : u.serial ≡ s = k u e in
    let rest : Every (λ x. s < x) (serials_in_hand us) = subst (λ (n : ℕ). Every (λ x. n < x) (serials_in_hand us)) serial (rises-head u.serial (serials_in_hand us) h) in
    rw (e, no, yes) (ap Some (same u ∙ serial) ∙ sym (lesser-first p s us rest)))
    (λ (e : q u ≡ false).
    let r : list_any q us ≡ true = rw e at a in
    ⊎_elim
    (λ (f : p u ≡ true).
    let less : u.serial < s = serial-among q s u.serial us k r (rises-head u.serial (serials_in_hand us) h) in
    let yes : ltb u.serial s ≡ true = lt-ltb u.serial s less in
    rw (e, f, yes) refl)
    (λ (f : p u ≡ false). rw (e, f) (entered p q g s us k was is same (rising_rest u.serial (serials_in_hand us) h) r))
    (cases_Bool (p u)))
    (cases_Bool (q u))

pub entered_count : (p q : InHand → Bool) (g : InHand → InHand) (us : List InHand)
    → ((u : InHand) → q u ≡ true → p u ≡ false)
    → ((u : InHand) → p (g u) ≡ true)
    → list_any q us ≡ true → count_by p (with_first q g us) ≡ count_by p us + 1
entered_count p q g [] was is a = absurd (false≢true a)
entered_count p q g (u ∷ us) was is a =
    let f : InHand → ℕ = λ x. cond (p x) 1 0 in
    ⊎_elim
    (λ (e : q u ≡ true).
    let zero-one : ◌≡◌ {A = ℕ} (cond (p u) 1 0) 0 = ap (λ b. cond {A = ℕ} b 1 0) (was u e) in
    let one : ◌≡◌ {A = ℕ} (cond (p (g u)) 1 0) 1 = ap (λ b. cond {A = ℕ} b 1 0) (is u) in
    rw e (omega (arith, sum_by-cons f (g u) us, sum_by-cons f u us, zero-one, one)))
    (λ (e : q u ≡ false).
    let r : list_any q us ≡ true = rw e at a in
    rw e (omega (arith, sum_by-cons f u (with_first q g us), sum_by-cons f u us, entered_count p q g us was is r)))
    (cases_Bool (q u))

pub some_counted : (p q : InHand → Bool) (us : List InHand) → ((u : InHand) → q u ≡ true → p u ≡ true) → list_any q us ≡ true → 1 ≤ count_by p us
some_counted p q [] was a = absurd (false≢true a)
some_counted p q (u ∷ us) was a =
    let f : InHand → ℕ = λ x. cond (p x) 1 0 in
    ⊎_elim
    (λ (e : q u ≡ true). let one : ◌≡◌ {A = ℕ} (cond (p u) 1 0) 1 = ap (λ b. cond {A = ℕ} b 1 0) (was u e) in omega (arith, sum_by-cons f u us, one))
    (λ (e : q u ≡ false). let r : list_any q us ≡ true = rw e at a in omega (arith, sum_by-cons f u us, some_counted p q us was r))
    (cases_Bool (q u))

-- ==== one passes no more

-- it was the first of them: the next one stands behind it
first-left : (p q : InHand → Bool) (g : InHand → InHand) (s : ℕ) (us : List InHand) (at : ℕ)
    → ((u : InHand) → p u ≡ true → u.serial ≡ s → q u ≡ true)
    → ((u : InHand) → p (g u) ≡ false)
    → IsFirst q us at → least p us ≡ Some s → least p (with_first q g us) ≡ least p (drop (suc at) us)
first-left p q g s [] at k is f l = absurd (cc)
first-left p q g s (u ∷ us) zero k is f l =
    let yes : q u ≡ true = f.passes u in
    let no : p (g u) ≡ false = is u in
    rw (yes, no) refl
first-left p q g s (u ∷ us) (suc at) k is f l =
    let no : q u ≡ false = f.before 0 u (omega arith) in
    ⊎_elim
    (λ (e : p u ≡ true).
    let t : Some u.serial ≡ Some s = rw e at l in
    let m : u.serial ≡ s = cc in
    absurd (false≢true (sym no ∙ k u e m)))
    (λ (e : p u ≡ false).
    let t : least p us ≡ Some s = rw e at l in
    let tail : IsFirst q us at = record { within = omega (arith, f.within); passes = λ d. f.passes d; before = λ i d h. f.before (suc i) d (omega (arith, h)) } in
    rw (no, e) (first-left p q g s us at k is tail t))
    (cases_Bool (p u))

-- another was the first of them
other-left : (p q : InHand → Bool) (g : InHand → InHand) (s : ℕ) (us : List InHand)
    → ((u : InHand) → q u ≡ true → u.serial ≡ s)
    → ((u : InHand) → q u ≡ true → p u ≡ true)
    → (least p us ≡ Some s → ⊥) → least p (with_first q g us) ≡ least p us
other-left p q g s [] k was n = refl
other-left p q g s (u ∷ us) k was n =
    ⊎_elim
    (λ (e : q u ≡ true).
    let yes : p u ≡ true = was u e in
    let serial : u.serial ≡ s = k u e in
    let m : least p (u ∷ us) ≡ Some s = rw yes (ap Some serial) in
    absurd (n m))
    (λ (e : q u ≡ false).
    ⊎_elim
    (λ (f : p u ≡ true). rw (e, f) refl)
    (λ (f : p u ≡ false). let n' : least p us ≡ Some s → ⊥ = rw f at n in rw (e, f) (other-left p q g s us k was n'))
    (cases_Bool (p u)))
    (cases_Bool (q u))

none-counted : (p : InHand → Bool) (us : List InHand) → count_by p us ≡ 0 → least p us ≡ None
none-counted p [] h = refl
none-counted p (u ∷ us) h =
    let f : InHand → ℕ = λ x. cond (p x) 1 0 in
    let c = sum_by-cons f u us in
    ⊎_elim
    (λ (e : p u ≡ true). let one : ◌≡◌ {A = ℕ} (cond (p u) 1 0) 1 = ap (λ b. cond {A = ℕ} b 1 0) e in absurd (omega (arith, c, one, h)))
    (λ (e : p u ≡ false). rw e (none-counted p us (omega (arith, c, h))))
    (cases_Bool (p u))

pub left_count : (p q : InHand → Bool) (g : InHand → InHand) (us : List InHand)
    → ((u : InHand) → q u ≡ true → p u ≡ true)
    → ((u : InHand) → p (g u) ≡ false)
    → list_any q us ≡ true → count_by p (with_first q g us) + 1 ≡ count_by p us
left_count p q g us was is a =
    sum-with_first_less q g (λ x. cond (p x) 1 0) 1 us (λ u e. let no : p (g u) ≡ false = is u in let yes : p u ≡ true = was u e in rw (no, yes) refl) a

-- what the tally finds
pub left : (p q : InHand → Bool) (g : InHand → InHand) (s : ℕ) (us : List InHand) (at : ℕ) (old new : Option ℕ) (count : ℕ)
    → ((u : InHand) → q u ≡ true → u.serial ≡ s)
    → ((u : InHand) → q u ≡ true → p u ≡ true)
    → ((u : InHand) → p u ≡ true → u.serial ≡ s → q u ≡ true)
    → ((u : InHand) → p (g u) ≡ false)
    → IsFirst q us at → old ≡ least p us → count ≡ count_by p (with_first q g us)
    → new ≡ without old s (if count == 0 then None else least p (drop (at + 1) us)) → new ≡ least p (with_first q g us)
left p q g s us at None new count k was back is f o c n =
    n ∙ (o ∙ sym (other-left p q g s us k was (λ m. let z : None ≡ Some s = o ∙ m in absurd (cc))))
left p q g s us at (Some m) new count k was back is f o c n =
    ⊎_elim
    (λ (e : eqb m s ≡ true).
    let serial : m ≡ s = eqb-true m s e in
    let first : least p us ≡ Some s = sym o ∙ ap Some serial in
    let next : new ≡ (if count == 0 then None else least p (drop (at + 1) us)) = rw e at n in
    ⊎_elim
    (λ (z : eqb count 0 ≡ true).
    let none : new ≡ None = rw z at next in
    none ∙ sym (none-counted p (with_first q g us) (sym c ∙ eqb-true count 0 z)))
    (λ (z : eqb count 0 ≡ false).
    let some : new ≡ least p (drop (at + 1) us) = rw z at next in
    some ∙ (ap (λ i. least p (drop i us)) (let i : at + 1 ≡ suc at = omega arith in i) ∙ sym (first-left p q g s us at back is f first)))
    (cases_Bool (eqb count 0)))
    (λ (e : eqb m s ≡ false).
    let same : new ≡ Some m = rw e at n in
    same ∙ (o ∙ sym (other-left p q g s us k was (λ t. let z : Some m ≡ Some s = o ∙ t in let y : m ≡ s = cc in eqb-false m s e y))))
    (cases_Bool (eqb m s))

-- ==== another is touched

-- one is taken out that does not pass
pub taken : (p q : InHand → Bool) (us : List InHand) → ((u : InHand) → q u ≡ true → p u ≡ false) → least p (without_first q us) ≡ least p us
taken p q [] was = refl
taken p q (u ∷ us) was =
    ⊎_elim
    (λ (e : q u ≡ true). let no : p u ≡ false = was u e in rw (e, no) refl)
    (λ (e : q u ≡ false).
    ⊎_elim
    (λ (f : p u ≡ true). rw (e, f) refl)
    (λ (f : p u ≡ false). rw (e, f) (taken p q us was))
    (cases_Bool (p u)))
    (cases_Bool (q u))

pub taken_count : (p q : InHand → Bool) (us : List InHand) → ((u : InHand) → q u ≡ true → p u ≡ false) → count_by p (without_first q us) ≡ count_by p us
taken_count p q [] was = refl
taken_count p q (u ∷ us) was =
    let f : InHand → ℕ = λ x. cond (p x) 1 0 in
    ⊎_elim
    (λ (e : q u ≡ true).
    let none : ◌≡◌ {A = ℕ} (cond (p u) 1 0) 0 = ap (λ b. cond {A = ℕ} b 1 0) (was u e) in
    rw e (omega (arith, sum_by-cons f u us, none)))
    (λ (e : q u ≡ false). rw e (omega (arith, sum_by-cons f u (without_first q us), sum_by-cons f u us, taken_count p q us was)))
    (cases_Bool (q u))

-- one is appended that does not pass
pub pushed : (p : InHand → Bool) (us : List InHand) (u : InHand) → p u ≡ false → least p (us ++ u ∷ []) ≡ least p us
pushed p [] u h = rw h refl
pushed p (v ∷ us) u h =
    ⊎_elim
    (λ (e : p v ≡ true). rw e refl)
    (λ (e : p v ≡ false). rw e (pushed p us u h))
    (cases_Bool (p v))

pub pushed_count : (p : InHand → Bool) (us : List InHand) (u : InHand) → p u ≡ false → count_by p (us ++ u ∷ []) ≡ count_by p us
pushed_count p us u h =
    let f : InHand → ℕ = λ x. cond (p x) 1 0 in
    let none : ◌≡◌ {A = ℕ} (cond (p u) 1 0) 0 = ap (λ b. cond {A = ℕ} b 1 0) h in
    omega (arith, sum_by_push f us u, none)

-- one is appended that passes, of a serial above the others
pub joined : (p : InHand → Bool) (us : List InHand) (u : InHand) → p u ≡ true → IsRising (serials_in_hand (us ++ u ∷ [])) → least p (us ++ u ∷ []) ≡ lesser (least p us) u.serial
joined p [] u h r = rw h refl
joined p (v ∷ us) u h r =
    ⊎_elim
    (λ (e : p v ≡ true).
    let less : v.serial < u.serial = last v.serial us r in
    let yes : ltb v.serial u.serial ≡ true = lt-ltb v.serial u.serial less in
    rw (e, yes) refl)
    (λ (e : p v ≡ false). rw e (joined p us u h (rising_rest v.serial (serials_in_hand (us ++ u ∷ [])) r)))
    (cases_Bool (p v))
  where
    ends : (n : ℕ) (vs : List InHand) → Every (λ x. n < x) (serials_in_hand (vs ++ u ∷ [])) → n < u.serial
    ends n [] e = e.0
    ends n (w ∷ vs) e = ends n vs e.1

    last : (n : ℕ) (vs : List InHand) → IsRising (n ∷ serials_in_hand (vs ++ u ∷ [])) → n < u.serial
    last n vs q = ends n vs (rises-head n (serials_in_hand (vs ++ u ∷ [])) q)

pub joined_count : (p : InHand → Bool) (us : List InHand) (u : InHand) → p u ≡ true → count_by p (us ++ u ∷ []) ≡ count_by p us + 1
joined_count p us u h =
    let f : InHand → ℕ = λ x. cond (p x) 1 0 in
    let one : ◌≡◌ {A = ℕ} (cond (p u) 1 0) 1 = ap (λ b. cond {A = ℕ} b 1 0) h in
    omega (arith, sum_by_push f us u, one)

-- ==== one that passes is taken out

first-gone : (p q : InHand → Bool) (s : ℕ) (us : List InHand) (at : ℕ)
    → ((u : InHand) → p u ≡ true → u.serial ≡ s → q u ≡ true)
    → IsFirst q us at → least p us ≡ Some s → least p (without_first q us) ≡ least p (drop (suc at) us)
first-gone p q s [] at k f l = absurd (cc)
first-gone p q s (u ∷ us) zero k f l = let yes : q u ≡ true = f.passes u in rw yes refl
first-gone p q s (u ∷ us) (suc at) k f l =
    let no : q u ≡ false = f.before 0 u (omega arith) in
    ⊎_elim
    (λ (e : p u ≡ true).
    let t : Some u.serial ≡ Some s = rw e at l in
    let m : u.serial ≡ s = cc in
    absurd (false≢true (sym no ∙ k u e m)))
    (λ (e : p u ≡ false).
    let t : least p us ≡ Some s = rw e at l in
    let tail : IsFirst q us at = record { within = omega (arith, f.within); passes = λ d. f.passes d; before = λ i d h. f.before (suc i) d (omega (arith, h)) } in
    rw (no, e) (first-gone p q s us at k tail t))
    (cases_Bool (p u))

other-gone : (p q : InHand → Bool) (s : ℕ) (us : List InHand)
    → ((u : InHand) → q u ≡ true → u.serial ≡ s)
    → ((u : InHand) → q u ≡ true → p u ≡ true)
    → (least p us ≡ Some s → ⊥) → least p (without_first q us) ≡ least p us
other-gone p q s [] k was n = refl
other-gone p q s (u ∷ us) k was n =
    ⊎_elim
    (λ (e : q u ≡ true).
    let yes : p u ≡ true = was u e in
    let serial : u.serial ≡ s = k u e in
    let m : least p (u ∷ us) ≡ Some s = rw yes (ap Some serial) in
    absurd (n m))
    (λ (e : q u ≡ false).
    ⊎_elim
    (λ (f : p u ≡ true). rw (e, f) refl)
    (λ (f : p u ≡ false). let n' : least p us ≡ Some s → ⊥ = rw f at n in rw (e, f) (other-gone p q s us k was n'))
    (cases_Bool (p u)))
    (cases_Bool (q u))

pub gone_count : (p q : InHand → Bool) (us : List InHand)
    → ((u : InHand) → q u ≡ true → p u ≡ true)
    → list_any q us ≡ true → count_by p (without_first q us) + 1 ≡ count_by p us
gone_count p q [] was a = absurd (false≢true a)
gone_count p q (u ∷ us) was a =
    let f : InHand → ℕ = λ x. cond (p x) 1 0 in
    ⊎_elim
    (λ (e : q u ≡ true).
    let one : ◌≡◌ {A = ℕ} (cond (p u) 1 0) 1 = ap (λ b. cond {A = ℕ} b 1 0) (was u e) in
    rw e (omega (arith, sum_by-cons f u us, one)))
    (λ (e : q u ≡ false).
    let r : list_any q us ≡ true = rw e at a in
    rw e (omega (arith, sum_by-cons f u (without_first q us), sum_by-cons f u us, gone_count p q us was r)))
    (cases_Bool (q u))

-- what the tally finds
pub gone : (p q : InHand → Bool) (s : ℕ) (us : List InHand) (at : ℕ) (old new : Option ℕ) (count : ℕ)
    → ((u : InHand) → q u ≡ true → u.serial ≡ s)
    → ((u : InHand) → q u ≡ true → p u ≡ true)
    → ((u : InHand) → p u ≡ true → u.serial ≡ s → q u ≡ true)
    → IsFirst q us at → old ≡ least p us → count ≡ count_by p (without_first q us)
    → new ≡ without old s (if count == 0 then None else least p (drop (at + 1) us)) → new ≡ least p (without_first q us)
gone p q s us at None new count k was back f o c n =
    n ∙ (o ∙ sym (other-gone p q s us k was (λ m. let z : None ≡ Some s = o ∙ m in absurd (cc))))
gone p q s us at (Some m) new count k was back f o c n =
    ⊎_elim
    (λ (e : eqb m s ≡ true).
    let serial : m ≡ s = eqb-true m s e in
    let first : least p us ≡ Some s = sym o ∙ ap Some serial in
    let next : new ≡ (if count == 0 then None else least p (drop (at + 1) us)) = rw e at n in
    ⊎_elim
    (λ (z : eqb count 0 ≡ true).
    let none : new ≡ None = rw z at next in
    none ∙ sym (none-counted p (without_first q us) (sym c ∙ eqb-true count 0 z)))
    (λ (z : eqb count 0 ≡ false).
    let some : new ≡ least p (drop (at + 1) us) = rw z at next in
    some ∙ (ap (λ i. least p (drop i us)) (let i : at + 1 ≡ suc at = omega arith in i) ∙ sym (first-gone p q s us at back f first)))
    (cases_Bool (eqb count 0)))
    (λ (e : eqb m s ≡ false).
    let same : new ≡ Some m = rw e at n in
    same ∙ (o ∙ sym (other-gone p q s us k was (λ t. let z : Some m ≡ Some s = o ∙ t in let y : m ≡ s = cc in eqb-false m s e y))))
    (cases_Bool (eqb m s))
