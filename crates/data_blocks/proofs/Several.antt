-- Blocks that are taken, or given back, one after another.
use Rattle.std.proofs.Common.{◌≡◌, ◌≢◌, ℕ, ◌+◌, ◌<◌, Bool, true, false, not, ◌||◌, ◌&&◌, max, List, [], ◌∷◌, ◌++◌, length, length-append, slice_index, take, drop, drop-cons, add-one, refl, sym, ap, subst, ◌∙◌, arith, suc, zero}
use Rattle.tcmu_types.specs.Numbers.{above_all, is_among}
use Rattle.tcmu_model.specs.BlockLists.{free_from}
use Rattle.data_blocks.specs.Held.{HeldBlocks, AreHeld, Took, Gave}
use Rattle.data_blocks.proofs.Chosen.{among-here, among-there}
use Rattle.std.proofs.lemmas.Bool.{false≢true}
use Rattle.tcmu_types.proofs.Rises.{among-append}

above_all-append : (xs ys : List ℕ) → above_all (xs ++ ys) ≡ max (above_all xs) (above_all ys)
above_all-append [] ys = omega arith
above_all-append (x ∷ xs) ys = let e = above_all-append xs ys in omega arith

front : (i : ℕ) (xs : List ℕ) (x : ℕ) (rest : List ℕ) → drop i xs ≡ x ∷ rest → take (suc i) xs ≡ take i xs ++ x ∷ []
front zero [] x rest h = cc
front zero (y ∷ ys) x rest h = cc
front (suc i) [] x rest h = cc
front (suc i) (y ∷ ys) x rest h = ap (λ zs. y ∷ zs) (front i ys x rest h)

behind : (i : ℕ) (xs : List ℕ) (x : ℕ) (rest : List ℕ) → drop i xs ≡ x ∷ rest → drop (suc i) xs ≡ rest
behind zero [] x rest h = cc
behind zero (y ∷ ys) x rest h = cc
behind (suc i) [] x rest h = cc
behind (suc i) (y ∷ ys) x rest h = behind i ys x rest h

-- where the rest of a list begins with x, the front with x is the next front
pub next-front : (i : ℕ) (xs : List ℕ) (x : ℕ) (rest : List ℕ) → drop i xs ≡ x ∷ rest → take (i + 1) xs ≡ take i xs ++ x ∷ []
next-front i xs x rest h = ap (λ n. take n xs) (add-one i) ∙ front i xs x rest h

pub next-rest : (i : ℕ) (xs : List ℕ) (x : ℕ) (rest : List ℕ) → drop i xs ≡ x ∷ rest → drop (i + 1) xs ≡ rest
next-rest i xs x rest h = ap (λ n. drop n xs) (add-one i) ∙ behind i xs x rest h

-- the element at a place begins the rest from there on
pub here-first : (i : ℕ) (xs : List ℕ) → i < length xs → drop i xs ≡ slice_index xs i ∷ drop (i + 1) xs
here-first i xs h = drop-cons xs i 0 h ∙ ap (λ n. slice_index xs i ∷ drop n xs) (sym (add-one i))

or-false : (b : Bool) → (b || false) ≡ b
or-false true = refl
or-false false = refl

or-moves : (a b c : Bool) → (a || (b || c)) ≡ ((b || a) || c)
or-moves true true c = refl
or-moves true false c = refl
or-moves false b c = ap (λ z. z || c) (sym (or-false b))

and-moves : (a b c : Bool) → ((a && not b) && not c) ≡ (a && not (b || c))
and-moves true true c = refl
and-moves true false c = refl
and-moves false b c = refl

pub took-more : (b mid after : HeldBlocks) (xs : List ℕ) (x : ℕ) → Took b xs mid → Took mid (x ∷ []) after → Took b (xs ++ x ∷ []) after
took-more b mid after xs x p q =
    let l : length (xs ++ x ∷ []) ≡ length xs + 1 = simp length-append (omega arith) in
    let pc = p.count in
    let qc = q.count in
    let ps = p.spare in
    let qs = q.spare in
    record {
      limit = q.limit ∙ p.limit;
      held = λ n.
          q.held n ∙ ap (λ z. is_among (x ∷ []) n || z) (p.held n) ∙ or-moves (is_among (x ∷ []) n) (is_among xs n) (is_among b.held n)
          ∙ ap (λ z. z || is_among b.held n) (sym (among-append xs (x ∷ []) n));
      count = omega arith;
      spare = omega arith;
      grown = let g = p.grown in let h = q.grown in let a = above_all-append xs (x ∷ []) in omega arith;
    }

pub gave-more : (b mid after : HeldBlocks) (xs : List ℕ) (x : ℕ) → Gave b xs mid → Gave mid (x ∷ []) after → Gave b (xs ++ x ∷ []) after
gave-more b mid after xs x p q =
    let l : length (xs ++ x ∷ []) ≡ length xs + 1 = simp length-append (omega arith) in
    let pc = p.count in
    let qc = q.count in
    record {
      limit = q.limit ∙ p.limit;
      held = λ n.
          q.held n ∙ ap (λ z. z && not (is_among (x ∷ []) n)) (p.held n) ∙ and-moves (is_among b.held n) (is_among xs n) (is_among (x ∷ []) n)
          ∙ ap (λ z. is_among b.held n && not z) (sym (among-append xs (x ∷ []) n));
      count = omega arith;
      spare = q.spare ∙ p.spare;
      grown = q.grown ∙ p.grown;
    }

-- what is still to be given is still held
pub still-held : (mid after : HeldBlocks) (x : ℕ) (xs : List ℕ) → Gave mid (x ∷ []) after → is_among xs x ≡ false → AreHeld mid.held xs → AreHeld after.held xs
still-held mid after x [] g d h = tt
still-held mid after x (y ∷ ys) g d h =
    let n : y ≢ x = λ (e : y ≡ x). false≢true (sym d ∙ among-here y ys x e) in
    let o : is_among (x ∷ []) y ≡ false = among-there x [] y (λ (e : x ≡ y). n (sym e)) in
    let here : is_among after.held y ≡ true = g.held y ∙ ap (λ z. z && not (is_among (x ∷ []) y)) h.0 ∙ ap (λ z. not z) o in
    (here, h.1, still-held mid after x ys g (sym (among-there y ys x n) ∙ d) h.2)

-- ==== one more turn of a loop

-- the numbers that have been taken so far are the least ones, and those that are left are free
pub record TookSo (b : HeldBlocks) (i : ℕ) (least : List ℕ) (mid : HeldBlocks) : Type 0 where
  pub took : Took b (take i least) mid
  pub rest : free_from mid.held 0 mid.limit ≡ drop i least
  pub many : length (take i least) ≡ i

pub took-next : (b mid after : HeldBlocks) (i x : ℕ) (least : List ℕ) → TookSo b i least mid → free_from mid.held 0 mid.limit ≡ x ∷ free_from after.held 0 mid.limit →
    Took mid (x ∷ []) after → TookSo b (i + 1) least after
took-next b mid after i x least s f t =
    let d : drop i least ≡ x ∷ free_from after.held 0 mid.limit = sym s.rest ∙ f in
    let e : take (i + 1) least ≡ take i least ++ x ∷ [] = next-front i least x (free_from after.held 0 mid.limit) d in
    let P : List ℕ → Type 0 = λ ns. Took b ns after in
    let l : length (take i least ++ x ∷ []) ≡ i + 1 = simp length-append (ap (λ n. n + 1) s.many) in
    record {
      took = subst P (sym e) (took-more b mid after (take i least) x s.took t);
      rest = ap (free_from after.held 0) t.limit ∙ sym (next-rest i least x (free_from after.held 0 mid.limit) d);
      many = ap length e ∙ l;
    }

pub record GaveSo (b : HeldBlocks) (i : ℕ) (ns : List ℕ) (mid : HeldBlocks) : Type 0 where
  pub gave : Gave b (take i ns) mid
  pub rest : AreHeld mid.held (drop i ns)

-- the next number is held
pub next-held : (b mid : HeldBlocks) (i : ℕ) (ns : List ℕ) → i < length ns → GaveSo b i ns mid → is_among mid.held (slice_index ns i) ≡ true
next-held b mid i ns l s =
    let P : List ℕ → Type 0 = λ xs. AreHeld mid.held xs in
    (subst P (here-first i ns l) s.rest).0

pub gave-next : (b mid after : HeldBlocks) (i : ℕ) (ns : List ℕ) → i < length ns → GaveSo b i ns mid → Gave mid (slice_index ns i ∷ []) after → GaveSo b (i + 1) ns after
gave-next b mid after i ns l s g =
    let P : List ℕ → Type 0 = λ xs. AreHeld mid.held xs in
    let h = subst P (here-first i ns l) s.rest in
    let Q : List ℕ → Type 0 = λ xs. Gave b xs after in
    record {
      gave = subst Q (sym (next-front i ns (slice_index ns i) (drop (i + 1) ns) (here-first i ns l))) (gave-more b mid after (take i ns) (slice_index ns i) s.gave g);
      rest = still-held mid after (slice_index ns i) (drop (i + 1) ns) g h.1 h.2;
    }
