-- The tail moved item by item, as the definitions have it.
use Rattle.std.proofs.Common.{◌≡◌, ℕ, suc, ◌+◌, ◌-◌, ◌%◌, ◌<◌, ◌≤◌, ◌==◌, true, false, cond, List, [], ◌∷◌, length, take, drop, refl, sym, ap, ◌∙◌, arith, ⊎_elim, eqb-true}
use Rattle.std.specs.List.{count_by, sum_by}
use Rattle.std.proofs.Math.Nat.{mod-add-mod, mod-eq_of_lt}
use Rattle.std.proofs.lemmas.Bool.{cases_Bool}
use Rattle.std.proofs.lemmas.List.Sums.{sum_by-cons}
use Rattle.region_model.specs.Sides.{Recorded, UserState}
use Rattle.region_model.specs.UserSteps.{is_cmd, movable, moving, moving_items, user_published}
use Rattle.user_lib.specs.Moving.{Moves}

abbrev lengths : List Recorded → ℕ
lengths xs = sum_by (λ x. x.len) xs

abbrev one : Recorded → ℕ
one x = cond {A = ℕ} (is_cmd x) 1 0

abbrev commands : List Recorded → ℕ
commands xs = count_by is_cmd xs

movable_first : (n : ℕ) (x : Recorded) (xs : List Recorded) → (is_cmd x ≡ true → 0 < n) → movable n (x ∷ xs) ≡ movable (n - one x) xs + 1
movable_first n x xs may =
    ⊎_elim
    (λ (c : is_cmd x ≡ true). ⊎_elim
    (λ (z : (n == 0) ≡ true). let q : n ≡ 0 = eqb-true n 0 z in let k : 0 < n = may c in absurd (omega (arith, q, k)))
    (λ (z : (n == 0) ≡ false). rw (c, z) refl)
    (cases_Bool (n == 0)))
    (λ (c : is_cmd x ≡ false). rw c (ap (λ k. movable k xs + 1) (let q : n ≡ n - 0 = omega arith in q)))
    (cases_Bool (is_cmd x))

-- one item less is to move
pub moving_less : (u after : UserState) (x : Recorded) → Moves u x after → moving u ≡ moving after + 1
moving_less u after x h =
    let n : ℕ = u.placed - u.published in
    let may : is_cmd x ≡ true → 0 < n = λ c. let k = h.may c in omega (arith, k) in
    let left : after.placed - after.published ≡ n - one x =
    ap (λ (v : UserState). v.placed - v.published) h.user ∙ (let q : u.placed - (u.published + one x) ≡ (u.placed - u.published) - one x = omega arith in q) in
    ap (λ xs. movable n xs) h.items ∙ (movable_first n x after.items may ∙ ap (λ k. movable k after.items + 1) (sym left))

moved_items : (u after : UserState) (x : Recorded) (h : Moves u x after) → moving_items u ≡ x ∷ moving_items after
moved_items u after x h =
    let q : moving u ≡ suc (moving after) = moving_less u after x h ∙ (let k : moving after + 1 ≡ suc (moving after) = omega arith in k) in
    ap (λ n. take n u.items) q ∙ ap (λ xs. take (suc (moving after)) xs) h.items

left_items : (u after : UserState) (x : Recorded) → Moves u x after → drop (moving after) after.items ≡ drop (moving u) u.items
left_items u after x h =
    let q : moving u ≡ suc (moving after) = moving_less u after x h ∙ (let k : moving after + 1 ≡ suc (moving after) = omega arith in k) in
    sym (ap (λ n. drop n u.items) q ∙ ap (λ xs. drop (suc (moving after)) xs) h.items)

-- as many commands less
pub commands_less : (u after : UserState) (x : Recorded) (h : Moves u x after) → commands (moving_items u) ≡ one x + commands (moving_items after)
commands_less u after x h = ap commands (moved_items u after x h) ∙ sum_by-cons one x (moving_items after)

-- what is published in the end stays
pub same_published : (u after : UserState) (x : Recorded) → Moves u x after → user_published after ≡ user_published u
unfolding user_published
same_published u after x h =
    let items : List Recorded = drop (moving after) after.items in
    let tail : ℕ = (after.tail + lengths (moving_items after)) % after.ring in
    let published : ℕ = after.published + commands (moving_items after) in
    let ring : after.ring ≡ u.ring = ap (λ (v : UserState). v.ring) h.user in
    let begins : after.tail ≡ (u.tail + x.len) % u.ring = ap (λ (v : UserState). v.tail) h.user in
    let long : lengths (moving_items u) ≡ x.len + lengths (moving_items after) = ap lengths (moved_items u after x h) ∙ sum_by-cons (λ (y : Recorded). y.len) x (moving_items after) in
    let count : after.published ≡ u.published + one x = ap (λ (v : UserState). v.published) h.user in
    let t : tail ≡ (u.tail + lengths (moving_items u)) % u.ring =
    ap (λ r. (after.tail + lengths (moving_items after)) % r) ring
    ∙ (ap (λ n. (n + lengths (moving_items after)) % u.ring) begins
    ∙ (mod-add-mod (u.tail + x.len) u.ring (lengths (moving_items after))
    ∙ ap (λ n. n % u.ring) (let q : (u.tail + x.len) + lengths (moving_items after) ≡ u.tail + lengths (moving_items u) = omega (arith, long) in q))) in
    let p : published ≡ u.published + commands (moving_items u) = let k = commands_less u after x h in omega (arith, count, k) in
    ap (λ (v : UserState). record v { items = items; tail = tail; published = published }) h.user
    ∙ (ap (λ xs. record u { items = xs; tail = tail; published = published }) (left_items u after x h)
    ∙ (ap (λ n. record u { items = drop (moving u) u.items; tail = n; published = published }) t
    ∙ ap (λ n. record u { items = drop (moving u) u.items; tail = (u.tail + lengths (moving_items u)) % u.ring; published = n }) p))

-- where none moves, all is published
pub all_published : (u : UserState) → moving u ≡ 0 → u.tail < u.ring → user_published u ≡ u
unfolding user_published
all_published u h below =
    let none : moving_items u ≡ [] = ap (λ n. take n u.items) h in
    let items : drop (moving u) u.items ≡ u.items = ap (λ n. drop n u.items) h in
    let tail : (u.tail + lengths (moving_items u)) % u.ring ≡ u.tail =
    ap (λ xs. (u.tail + lengths xs) % u.ring) none ∙ (ap (λ n. n % u.ring) (let q : u.tail + 0 ≡ u.tail = omega arith in q) ∙ mod-eq_of_lt below) in
    let count : u.published + commands (moving_items u) ≡ u.published = ap (λ xs. u.published + commands xs) none ∙ (let q : u.published + 0 ≡ u.published = omega arith in q) in
    ap (λ xs. record u { items = xs; tail = (u.tail + lengths (moving_items u)) % u.ring; published = u.published + commands (moving_items u) }) items
    ∙ (ap (λ n. record u { tail = n; published = u.published + commands (moving_items u) }) tail
    ∙ ap (λ n. record u { published = n }) count)

pub moving_most : (u : UserState) → moving u ≤ length u.items
moving_most u = go (u.placed - u.published) u.items
  where
    go : (n : ℕ) (xs : List Recorded) → movable n xs ≤ length xs
    go n [] = omega arith
    go n (x ∷ xs) =
        ⊎_elim
        (λ (c : is_cmd x ≡ true). ⊎_elim
        (λ (z : (n == 0) ≡ true). rw (c, z) (omega arith))
        (λ (z : (n == 0) ≡ false). rw (c, z) (let k = go (n - 1) xs in omega (arith, k)))
        (cases_Bool (n == 0)))
        (λ (c : is_cmd x ≡ false). rw c (let k = go n xs in omega (arith, k)))
        (cases_Bool (is_cmd x))

pub commands_none : (u : UserState) → moving u ≡ 0 → commands (moving_items u) ≡ 0
commands_none u h = ap (λ n. commands (take n u.items)) h
