-- Numbers that rise, and numbers that stand in a list.
use Rattle.std.proofs.Common.{◌≡◌, ℕ, ◌+◌, ◌<◌, ◌≤◌, Bool, true, false, cond, List, [], ◌∷◌, ◌++◌, length, take, suc, zero, ⊎_elim, refl, sym, ◌∙◌, ap, ◌||◌, ◌&&◌, eqb, arith, subst, append_assoc}
use Rattle.std.specs.List.{filter, count_by}
use Rattle.std.proofs.lemmas.Bool.{cases_Bool, false≢true, or_parts, or_left, or_right, ne_eqb, eq-eqb, eqb-true, eqb-false}
use Rattle.std.proofs.lemmas.List.Sums.{sum_by-cons}
use Rattle.std.proofs.lemmas.List.Folds.{list_any-append}
use Rattle.tcmu_types.specs.Numbers.{is_among, Differ, Rise, IsRising}
use Rattle.tcmu_types.specs.Lists.{Every}
use Rattle.tcmu_types.proofs.Everies.{every-weaker}

pub rise_order : (low : ℕ) (xs : List ℕ) (high : ℕ) → Rise low xs high → low ≤ high
rise_order low [] high h = h
rise_order low (x ∷ xs) high h = omega (arith, h.0, rise_order x xs high h.1)

pub rise_from : (low low' : ℕ) (xs : List ℕ) (high : ℕ) → low' ≤ low → Rise low xs high → Rise low' xs high
rise_from low low' [] high l h = omega (arith, l, h)
rise_from low low' (x ∷ xs) high l h = (omega (arith, l, h.0), h.1)

pub rise_to : (low : ℕ) (xs : List ℕ) (high high' : ℕ) → high ≤ high' → Rise low xs high → Rise low xs high'
rise_to low [] high high' l h = omega (arith, l, h)
rise_to low (x ∷ xs) high high' l h = (h.0, rise_to x xs high high' l h.1)

-- a last number is put behind
pub rise_push : (low : ℕ) (xs : List ℕ) (high s : ℕ) → high < s → Rise low xs high → Rise low (xs ++ s ∷ []) s
rise_push low [] high s l h = (omega (arith, l, h), omega arith)
rise_push low (x ∷ xs) high s l h = (h.0, rise_push x xs high s l h.1)

pub rise_front : (low : ℕ) (xs ys : List ℕ) (high : ℕ) → Rise low (xs ++ ys) high → Rise low xs high
rise_front low [] ys high h = rise_order low ys high h
rise_front low (x ∷ xs) ys high h = (h.0, rise_front x xs ys high h.1)

-- all in front are below all behind
pub rise_seam : (low : ℕ) (xs : List ℕ) (s : ℕ) (ys : List ℕ) (high : ℕ) → Rise low (xs ++ s ∷ ys) high → Every (λ x. x < s) xs × (low < s) × Rise s ys high
rise_seam low [] s ys high h = (tt, h.0, h.1)
rise_seam low (x ∷ xs) s ys high h = let r = rise_seam x xs s ys high h.1 in ((r.1, r.0), omega (arith, h.0, r.1), r.2)

pub rise_filter : (p : ℕ → Bool) (low : ℕ) (xs : List ℕ) (high : ℕ) → Rise low xs high → Rise low (filter p xs) high
rise_filter p low [] high h = h
rise_filter p low (x ∷ xs) high h =
    ⊎_elim
    (λ (e : p x ≡ true). rw e (h.0, rise_filter p x xs high h.1))
    (λ (e : p x ≡ false). rw e (rise_from x low (filter p xs) high (omega (arith, h.0)) (rise_filter p x xs high h.1)))
    (cases_Bool (p x))

-- the same numbers without some behind a front
pub rise_kept : (p : ℕ → Bool) (low : ℕ) (xs ys : List ℕ) (high : ℕ) → Rise low (xs ++ ys) high → Rise low (xs ++ filter p ys) high
rise_kept p low [] ys high h = rise_filter p low ys high h
rise_kept p low (x ∷ xs) ys high h = (h.0, rise_kept p x xs ys high h.1)

pub rise_within : (low : ℕ) (xs : List ℕ) (high : ℕ) → Rise low xs high → Every (λ x. (low < x) × (x ≤ high)) xs
rise_within low [] high h = tt
rise_within low (x ∷ xs) high h =
    ((h.0, rise_order x xs high h.1), every-weaker (λ y. (x < y) × (y ≤ high)) (λ y. (low < y) × (y ≤ high)) xs (λ y k. (omega (arith, h.0, k.0), k.1)) (rise_within x xs high h.1))

-- ==== standing in a list

pub not_among : (xs : List ℕ) (s : ℕ) → Every (λ x. x < s) xs → is_among xs s ≡ false
not_among [] s h = refl
not_among (x ∷ xs) s h = let e : eqb x s ≡ false = ne_eqb x s (λ q. below_not x s h.0 q) in rw e (not_among xs s h.1)
  where
    below_not : (x s : ℕ) → x < s → x ≡ s → ⊥
    below_not x s l q = omega arith

pub not_above : (low : ℕ) (xs : List ℕ) (high s : ℕ) → Rise low xs high → s ≤ low → is_among xs s ≡ false
not_above low [] high s h l = refl
not_above low (x ∷ xs) high s h l =
    let e : eqb x s ≡ false = ne_eqb x s (λ q. above_not low x s h.0 l q) in
    rw e (not_above x xs high s h.1 (omega (arith, h.0, l)))
  where
    above_not : (low x s : ℕ) → low < x → s ≤ low → x ≡ s → ⊥
    above_not low x s l m q = omega arith

pub among-append : (xs ys : List ℕ) (s : ℕ) → is_among (xs ++ ys) s ≡ (is_among xs s || is_among ys s)
among-append xs ys s = list_any-append (λ k. eqb k s) xs ys

pub among_every : (P : ℕ → Type 0) (xs : List ℕ) (s : ℕ) → Every P xs → is_among xs s ≡ true → P s
among_every P [] s h a = absurd (false≢true a)
among_every P (x ∷ xs) s h a =
    ⊎_elim
    (λ (e : eqb x s ≡ true). subst P (eqb-true x s e) h.0)
    (λ (e : eqb x s ≡ false). among_every P xs s h.1 (rw e at a))
    (cases_Bool (eqb x s))

pub among-take : (n : ℕ) (xs : List ℕ) (s : ℕ) → is_among xs s ≡ false → is_among (take n xs) s ≡ false
among-take zero xs s h = refl
among-take (suc n) [] s h = refl
among-take (suc n) (x ∷ xs) s h = let t = or_parts (eqb x s) (is_among xs s) h in rw (t.0) (among-take n xs s t.1)

pub among-all : (n : ℕ) (xs : List ℕ) (s : ℕ) → is_among (take n xs) s ≡ true → is_among xs s ≡ true
among-all n xs s h =
    ⊎_elim
    (λ (e : is_among xs s ≡ true). e)
    (λ (e : is_among xs s ≡ false). absurd (false≢true (sym (among-take n xs s e) ∙ h)))
    (cases_Bool (is_among xs s))

pub among-filter : (p : ℕ → Bool) (xs : List ℕ) (s : ℕ) → is_among (filter p xs) s ≡ (p s && is_among xs s)
among-filter p [] s = go (p s)
  where
    go : (b : Bool) → false ≡ (b && false)
    go true = refl
    go false = refl
among-filter p (x ∷ xs) s =
    ⊎_elim
    (λ (z : eqb x s ≡ true).
    let same : x ≡ s = eqb-true x s z in
    ⊎_elim
    (λ (e : p x ≡ true). let f : p s ≡ true = subst (λ (y : ℕ). p y ≡ true) same e in rw (e, f, z) refl)
    (λ (e : p x ≡ false). let f : p s ≡ false = subst (λ (y : ℕ). p y ≡ false) same e in rw (e, f) (among-filter p xs s ∙ ap (λ b. b && is_among xs s) f))
    (cases_Bool (p x)))
    (λ (z : eqb x s ≡ false).
    ⊎_elim
    (λ (e : p x ≡ true). rw (e, z) (among-filter p xs s))
    (λ (e : p x ≡ false). rw (e, z) (among-filter p xs s))
    (cases_Bool (p x)))
    (cases_Bool (eqb x s))

pub among-here : (front : List ℕ) (k : ℕ) (back : List ℕ) → is_among (front ++ k ∷ back) k ≡ true
among-here [] k back = or_left (eqb k k) (is_among back k) (eq-eqb k k refl)
among-here (x ∷ front) k back = or_right (eqb x k) (is_among (front ++ k ∷ back) k) (among-here front k back)

pub every-among : (xs : List ℕ) → Every (λ s. is_among xs s ≡ true) xs
every-among xs = behind [] xs
  where
    behind : (front back : List ℕ) → Every (λ k. is_among (front ++ back) k ≡ true) back
    behind front [] = tt
    behind front (k ∷ back) =
        (among-here front k back, subst (λ (xs : List ℕ). Every (λ x. is_among xs x ≡ true) back) (append_assoc front (k ∷ []) back) (behind (front ++ k ∷ []) back))

-- ==== numbers that differ

pub differ-take : (n : ℕ) (ss : List ℕ) → Differ ss → Differ (take n ss)
differ-take zero ss d = tt
differ-take (suc n) [] d = tt
differ-take (suc n) (s ∷ ss) d = (among-take n ss s d.0, differ-take n ss d.1)

among-push : (ss : List ℕ) (s k : ℕ) → is_among ss k ≡ false → eqb s k ≡ false → is_among (ss ++ s ∷ []) k ≡ false
among-push [] s k h n = rw n refl
among-push (x ∷ ss) s k h n = let t = or_parts (eqb x k) (is_among ss k) h in rw (t.0) (among-push ss s k t.1 n)

pub differ-push : (ss : List ℕ) (s : ℕ) → Differ ss → is_among ss s ≡ false → Differ (ss ++ s ∷ [])
differ-push [] s d n = (refl, tt)
differ-push (x ∷ ss) s d n =
    let t = or_parts (eqb x s) (is_among ss s) n in
    (among-push ss s x d.0 (ne_eqb s x (λ q. eqb-false x s t.0 (sym q))), differ-push ss s d.1 t.1)

-- numbers that differ and stand in a rising list are so many of it
pub count_differ : (low : ℕ) (xs : List ℕ) (high : ℕ) (ss : List ℕ) → Rise low xs high → Differ ss → Every (λ s. is_among xs s ≡ true) ss → count_by (is_among ss) xs ≡ length ss
count_differ low xs high [] r d h = none xs
  where
    none : (xs : List ℕ) → ◌≡◌ {A = ℕ} (count_by (is_among []) xs) 0
    none [] = refl
    none (x ∷ xs) = none xs
count_differ low xs high (s ∷ ss) r d h = omega (arith, split xs, one low xs r h.0, count_differ low xs high ss r d.1 h.1)
  where
    split : (ys : List ℕ) → count_by (is_among (s ∷ ss)) ys ≡ count_by (λ x. eqb x s) ys + count_by (is_among ss) ys
    split [] = refl
    split (y ∷ ys) =
        let a : count_by (is_among (s ∷ ss)) (y ∷ ys) ≡ cond (is_among (s ∷ ss) y) 1 0 + count_by (is_among (s ∷ ss)) ys = sum_by-cons (λ x. cond (is_among (s ∷ ss) x) 1 0) y ys in
        let b : count_by (λ x. eqb x s) (y ∷ ys) ≡ cond (eqb y s) 1 0 + count_by (λ x. eqb x s) ys = sum_by-cons (λ x. cond (eqb x s) 1 0) y ys in
        let c : count_by (is_among ss) (y ∷ ys) ≡ cond (is_among ss y) 1 0 + count_by (is_among ss) ys = sum_by-cons (λ x. cond (is_among ss x) 1 0) y ys in
        let e : cond {A = ℕ} (is_among (s ∷ ss) y) 1 0 ≡ cond (eqb y s) 1 0 + cond (is_among ss y) 1 0 = weigh y in
        omega (arith, a, b, c, e, split ys)
      where
        weigh : (y : ℕ) → cond {A = ℕ} (is_among (s ∷ ss) y) 1 0 ≡ cond (eqb y s) 1 0 + cond (is_among ss y) 1 0
        weigh y =
            ⊎_elim
            (λ (z : eqb s y ≡ true).
            let same : s ≡ y = eqb-true s y z in
            let back : eqb y s ≡ true = eq-eqb y s (sym same) in
            let no : is_among ss y ≡ false = subst (λ (k : ℕ). is_among ss k ≡ false) same d.0 in
            rw (z, back, no) refl)
            (λ (z : eqb s y ≡ false).
            let back : eqb y s ≡ false = ne_eqb y s (λ q. eqb-false s y z (sym q)) in
            rw (z, back) (omega arith))
            (cases_Bool (eqb s y))

    one : (low : ℕ) (ys : List ℕ) → Rise low ys high → is_among ys s ≡ true → ◌≡◌ {A = ℕ} (count_by (λ x. eqb x s) ys) 1
    one low [] r a = absurd (false≢true a)
    one low (y ∷ ys) r a =
        let b : count_by (λ x. eqb x s) (y ∷ ys) ≡ cond (eqb y s) 1 0 + count_by (λ x. eqb x s) ys = sum_by-cons (λ x. cond (eqb x s) 1 0) y ys in
        ⊎_elim
        (λ (z : eqb y s ≡ true).
        let same : y ≡ s = eqb-true y s z in
        let w : cond {A = ℕ} (eqb y s) 1 0 ≡ 1 = ap (λ t. cond t 1 0) z in
        omega (arith, b, w, zero_of y ys (omega (arith, same)) r.1))
        (λ (z : eqb y s ≡ false).
        let w : cond {A = ℕ} (eqb y s) 1 0 ≡ 0 = ap (λ t. cond t 1 0) z in
        omega (arith, b, w, one y ys r.1 (rw z at a)))
        (cases_Bool (eqb y s))
      where
        zero_of : (low : ℕ) (ys : List ℕ) → s ≤ low → Rise low ys high → ◌≡◌ {A = ℕ} (count_by (λ x. eqb x s) ys) 0
        zero_of low [] l r = refl
        zero_of low (y ∷ ys) l r =
            let b : count_by (λ x. eqb x s) (y ∷ ys) ≡ cond (eqb y s) 1 0 + count_by (λ x. eqb x s) ys = sum_by-cons (λ x. cond (eqb x s) 1 0) y ys in
            let z : eqb y s ≡ false = ne_eqb y s (λ q. over low y l r.0 q) in
            let w : cond {A = ℕ} (eqb y s) 1 0 ≡ 0 = ap (λ t. cond t 1 0) z in
            omega (arith, b, w, zero_of y ys (omega (arith, l, r.0)) r.1)
          where
            over : (low y : ℕ) → s ≤ low → low < y → y ≡ s → ⊥
            over low y l m q = omega arith

pub differ_front : (xs ys : List ℕ) → Differ (xs ++ ys) → Differ xs
differ_front [] ys d = tt
differ_front (x ∷ xs) ys d = ((or_parts (is_among xs x) (is_among ys x) (sym (among-append xs ys x) ∙ d.0)).0, differ_front xs ys d.1)

pub rising_rest : (x : ℕ) (xs : List ℕ) → IsRising (x ∷ xs) → IsRising xs
rising_rest x [] h = tt
rising_rest x (y ∷ ys) h = h.1

pub rise_differ : (low : ℕ) (xs : List ℕ) (high : ℕ) → Rise low xs high → Differ xs
rise_differ low [] high r = tt
rise_differ low (x ∷ xs) high r = (not_above x xs high x r.1 (omega arith), rise_differ x xs high r.1)

pub differ-right : (xs ys : List ℕ) → Differ (xs ++ ys) → Differ ys
differ-right [] ys d = d
differ-right (x ∷ xs) ys d = differ-right xs ys d.1
