-- The iovecs of a payload: what they cover, and how they come one by one.
use Rattle.std.proofs.Common.{◌≡◌, ◌≢◌, ℕ, suc, ◌+◌, ◌-◌, ◌*◌, ◌/◌, ◌^◌, ◌<◌, ◌≤◌, ◌==◌, min, List, [], ◌∷◌, ◌++◌, length, take, drop, get_or, Bool, true, false, cond, Option, Some, None, refl, sym, ap, ◌∙◌, arith, subst, append_assoc}
use Rattle.std.proofs.Math.Seq.{take-add}
use Rattle.std.proofs.Math.Nat.{div-add-mod, mod-lt, mul-suc, mul-le-mul, mul-add}
use Rattle.std.proofs.lemmas.List.{drop-drop, drop_all}
use Rattle.iovec_scatter.proofs.Steps.{rest_of}
use Rattle.std.proofs.lemmas.Bool.Decides.{nat_tests}
use Rattle.tcmu_types.specs.declared.iovec.Iov.{Iov}
use Rattle.iovec_scatter.specs.Ends.{EndsAlong}
use Rattle.region_model.specs.Iovecs.{piece, joined, merged, iovs_along, EndBelow, total_of, along, payload_along, AreApart, Covers}
use Rattle.iovec_scatter.specs.Growing.{grown, EndsBelow, before}
use Rattle.region_model.proofs.Iovecs.{total_merged}

touches : (a b : ℕ) → a == b ≡ true → a ≡ b
touches a b test = grind (arith, nat_tests)

apart : (a b : ℕ) → a == b ≡ false → a ≢ b
apart a b test = λ (e : a ≡ b). contrary (same a b e) test
  where
    same : (a b : ℕ) → a ≡ b → a == b ≡ true
    same a b e = grind (arith, nat_tests)

    contrary : {t : Bool} → t ≡ true → t ≡ false → ⊥
    contrary e f = cc

-- ==== one iovec in front of others

-- what is proved of both cases of a merge
by_touch : (P : List Iov → Type 0) (e f : Iov) (fs : List Iov)
    → ((e.base + e.len ≡ f.base) → P (joined e f ∷ fs)) → ((e.base + e.len ≢ f.base) → P (e ∷ f ∷ fs)) → P (merged e (f ∷ fs))
unfolding merged
by_touch P e f fs touching away = cases ((e.base + e.len) == f.base) (λ t. touching (touches _ _ t)) (λ t. away (apart _ _ t))
  where
    cases : (b : Bool) → (b ≡ true → P (joined e f ∷ fs)) → (b ≡ false → P (e ∷ f ∷ fs)) → P (cond b (joined e f ∷ fs) (e ∷ f ∷ fs))
    cases true one other = one refl
    cases false one other = other refl

along-merged : (bytes : List ℕ) (e : Iov) (fs : List Iov) → along bytes (merged e fs) ≡ take e.len (drop e.base bytes) ++ along bytes fs
unfolding merged
along-merged bytes e [] = refl
along-merged bytes e (f ∷ fs) =
    by_touch (λ (xs : List Iov). along bytes xs ≡ take e.len (drop e.base bytes) ++ along bytes (f ∷ fs)) e f fs
    (λ touch.
    ap (λ (w : List ℕ). w ++ along bytes fs)
    (take-add e.len f.len (drop e.base bytes)
    ∙ ap (λ (w : List ℕ). take e.len (drop e.base bytes) ++ take f.len w) (drop-drop e.len e.base bytes ∙ ap (λ (n : ℕ). drop n bytes) touch))
    ∙ append_assoc (take e.len (drop e.base bytes)) (take f.len (drop f.base bytes)) (along bytes fs))
    (λ _. refl)

apart-merged : (e : Iov) (fs : List Iov) → AreApart fs → AreApart (merged e fs)
unfolding merged
apart-merged e [] h = tt
apart-merged e (f ∷ []) h = by_touch (λ (xs : List Iov). AreApart xs) e f [] (λ _. tt) (λ away. (away, tt))
apart-merged e (f ∷ g ∷ fs) h =
    by_touch (λ (xs : List Iov). AreApart xs) e f (g ∷ fs)
    (λ touch. (λ (meet : e.base + (e.len + f.len) ≡ g.base). h.0 (omega (arith, touch, meet)), h.1))
    (λ away. (away, h))

pub ends_first : (e : Iov) (fs : List Iov) → EndBelow (merged e fs) → e.base + e.len < 2 ^ 64
unfolding merged
ends_first e [] h = h.0
ends_first e (f ∷ fs) h = by_touch (λ (xs : List Iov). EndBelow xs → e.base + e.len < 2 ^ 64) e f fs (λ touch k. omega (arith, k.0)) (λ away k. k.0) h

pub ends_rest : (e : Iov) (fs : List Iov) → EndBelow (merged e fs) → EndBelow fs
unfolding merged
ends_rest e [] h = tt
ends_rest e (f ∷ fs) h = by_touch (λ (xs : List Iov). EndBelow xs → EndBelow (f ∷ fs)) e f fs (λ touch k. (omega (arith, touch, k.0), k.1)) (λ away k. k.1) h

pub ends_suffix : (xs ys : List Iov) → EndBelow (xs ++ ys) → EndBelow ys
ends_suffix [] ys h = h
ends_suffix (x ∷ xs) ys h = ends_suffix xs ys h.1

-- ==== what the iovecs of a payload cover

whole_total : (start size n : ℕ) (blocks : List ℕ) → n ≤ size * length blocks → total_of (iovs_along start size blocks n) ≡ n
unfolding iovs_along
whole_total start size n [] h = omega (arith, h)
whole_total start size n (b ∷ bs) h =
    let rest : total_of (iovs_along start size bs (n - size)) ≡ n - size = whole_total start size (n - size) bs (fewer size n (length bs) h) in
    total_merged (piece start size b n) (iovs_along start size bs (n - size)) ∙ ap (λ (m : ℕ). min size n + m) rest ∙ both size n
  where
    both : (s n : ℕ) → min s n + (n - s) ≡ n
    both s n = omega arith

    fewer : (s n k : ℕ) → n ≤ s * suc k → n - s ≤ s * k
    fewer s n k h = omega (arith, h, mul-suc s k)

payload : (start size n : ℕ) (blocks : List ℕ) (bytes : List ℕ) → along bytes (iovs_along start size blocks n) ≡ payload_along bytes start size blocks n
unfolding iovs_along
payload start size n [] bytes = refl
payload start size n (b ∷ bs) bytes =
    along-merged bytes (piece start size b n) (iovs_along start size bs (n - size))
    ∙ ap (λ (w : List ℕ). take (min size n) (drop (start + size * b) bytes) ++ w) (payload start size (n - size) bs bytes)

all_apart : (start size n : ℕ) (blocks : List ℕ) → AreApart (iovs_along start size blocks n)
unfolding iovs_along
all_apart start size n [] = tt
all_apart start size n (b ∷ bs) = apart-merged (piece start size b n) (iovs_along start size bs (n - size)) (all_apart start size (n - size) bs)

enough : (size n : ℕ) → 0 < size → n ≤ size * ((n + (size - 1)) / size)
enough size n some = omega (arith, div-add-mod (n + (size - 1)) size, mod-lt (n + (size - 1)) some)

pub covers : (start size n : ℕ) (blocks : List ℕ) → 0 < size → length blocks ≡ (n + (size - 1)) / size → Covers start size blocks n (iovs_along start size blocks n)
covers start size n blocks some count = record {
  payload = payload start size n blocks;
  total = whole_total start size n blocks (subst (λ (k : ℕ). n ≤ size * k) (sym count) (enough size n some));
  apart = all_apart start size n blocks;
}

-- ==== one block more

join_again : (g p : Iov) (fs : List Iov) → g.base + g.len ≡ p.base → merged g (merged p fs) ≡ merged (joined g p) fs
unfolding merged
join_again g p [] touch = grind (arith, nat_tests)
join_again g p (f ∷ fs) touch = grind (arith, nat_tests)

stay : (g p : Iov) (fs : List Iov) → g.base + g.len ≢ p.base → merged g (merged p fs) ≡ g ∷ merged p fs
unfolding merged
stay g p [] away = grind (arith, nat_tests)
stay g p (f ∷ fs) away = grind (arith, nat_tests)

pub before_step : (grows : Option Iov) (next : Iov) (fs : List Iov) → before grows (merged next fs) ≡ (grown grows next).0 ++ before (Some (grown grows next).1) fs
before_step None next fs = refl
before_step (Some g) next fs = cases ((g.base + g.len) == next.base) (λ t. join_again g next fs (touches _ _ t)) (λ t. stay g next fs (apart _ _ t))
  where
    pieces : Bool → List Iov × Iov
    pieces b = cond b ([], joined g next) (g ∷ [], next)

    cases : (b : Bool) → (b ≡ true → merged g (merged next fs) ≡ merged (joined g next) fs) → (b ≡ false → merged g (merged next fs) ≡ g ∷ merged next fs)
        → merged g (merged next fs) ≡ (pieces b).0 ++ merged (pieces b).1 fs
    cases true one other = one refl
    cases false one other = other refl

pub piece_ends : (into whole : List Iov) (grows : Option Iov) (start size left i : ℕ) (blocks : List ℕ) → i < length blocks
    → into ++ before grows (iovs_along start size (drop i blocks) left) ≡ whole → EndBelow whole
    → EndsBelow grows × (start + size * get_or blocks i 0 + min size left < 2 ^ 64)
unfolding iovs_along
piece_ends into whole grows start size left i blocks inside is ends =
    let next : Iov = piece start size (get_or blocks i 0) left in
    let rest : List Iov = iovs_along start size (drop (i + 1) blocks) (left - size) in
    let here : EndBelow (before grows (merged next rest)) =
    ends_suffix into (before grows (merged next rest))
    (subst (λ (xs : List Iov). EndBelow xs) (sym is ∙ ap (λ (xs : List ℕ). into ++ before grows (iovs_along start size xs left)) (rest_of blocks i 0 inside)) ends) in
    split grows next rest here
  where
    split : (grows : Option Iov) (next : Iov) (rest : List Iov) → EndBelow (before grows (merged next rest)) → EndsBelow grows × (next.base + next.len < 2 ^ 64)
    split None next rest h = (tt, ends_first next rest h)
    split (Some last) next rest h = (ends_first last (merged next rest) h, ends_first next rest (ends_rest last (merged next rest) h))

pub one_more : (into into' whole : List Iov) (grows : Option Iov) (next last : Iov) (start size left left' i : ℕ) (blocks : List ℕ) → i < length blocks
    → into ++ before grows (iovs_along start size (drop i blocks) left) ≡ whole
    → next ≡ piece start size (get_or blocks i 0) left → left' ≡ left - size
    → into' ≡ into ++ (grown grows next).0 → last ≡ (grown grows next).1
    → into' ++ merged last (iovs_along start size (drop (i + 1) blocks) left') ≡ whole
unfolding iovs_along
one_more into into' whole grows next last start size left left' i blocks inside is next_is left_is into_is last_is =
    let rest : List Iov = iovs_along start size (drop (i + 1) blocks) (left - size) in
    ap (λ (n : ℕ). into' ++ merged last (iovs_along start size (drop (i + 1) blocks) n)) left_is
    ∙ ap (λ (xs : List Iov). xs ++ merged last rest) into_is
    ∙ ap (λ (e : Iov). (into ++ (grown grows next).0) ++ merged e rest) last_is
    ∙ append_assoc into (grown grows next).0 (merged (grown grows next).1 rest)
    ∙ ap (λ (xs : List Iov). into ++ xs) (sym (before_step grows next rest))
    ∙ ap (λ (e : Iov). into ++ before grows (merged e rest)) next_is
    ∙ ap (λ (xs : List ℕ). into ++ before grows (iovs_along start size xs left)) (sym (rest_of blocks i 0 inside))
    ∙ is

pub all_done : (into whole : List Iov) (grows : Option Iov) (start size left i : ℕ) (blocks : List ℕ) → length blocks ≤ i
    → into ++ before grows (iovs_along start size (drop i blocks) left) ≡ whole → into ++ before grows [] ≡ whole
unfolding iovs_along
all_done into whole grows start size left i blocks end is =
    ap (λ (xs : List ℕ). into ++ before grows (iovs_along start size xs left)) (sym (drop_all i blocks end)) ∙ is

-- ==== where iovecs end

ends_merged : (e : Iov) (fs : List Iov) → e.base + e.len < 2 ^ 64 → EndBelow fs → EndBelow (merged e fs)
unfolding merged
ends_merged e [] h k = (h, tt)
ends_merged e (f ∷ fs) h k = by_touch (λ (xs : List Iov). EndBelow xs) e f fs (λ touch. (omega (arith, touch, k.0), k.1)) (λ away. (h, k))

pub ends_along : EndsAlong
unfolding iovs_along
ends_along start size limit n [] small below = tt
ends_along start size limit n (b ∷ bs) small below =
    ends_merged (piece start size b n) (iovs_along start size bs (n - size)) (fits b (mul-le-mul {n₁ = size} {m₁ = b + 1} {n₂ = size} {m₂ = limit} (omega arith) (omega (arith, below.0))))
    (ends_along start size limit (n - size) bs small below.1)
  where
    fits : (b : ℕ) → size * (b + 1) ≤ size * limit → start + size * b + min size n < 2 ^ 64
    fits b h = omega (arith, h, small, mul-add size b 1)
