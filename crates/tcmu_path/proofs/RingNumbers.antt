-- What laying, publishing and clearing do to the numbers that a plain ring keeps.
use Rattle.std.proofs.Common.{◌≡◌, ℕ, ◌+◌, ◌-◌, ◌%◌, ◌<◌, ◌≤◌, List, [], ◌∷◌, ◌++◌, length, drop, take, refl, sym, ap, ◌∙◌, arith, eqb, true, false, cond, ⊎_elim, length-append, append_assoc, suc, zero, get_or, nat_lt, ◌⊎◌, inl, inr}
use Rattle.std.proofs.lemmas.List.Sums.{sum_by-append, sum_by-take-drop, sum_by_push, sum_by-cons}
use Rattle.std.proofs.lemmas.List.{drop-drop, drop-append-le, take-append-le, take-take, drop-take, length-take-le, drop_more}
use Rattle.std.proofs.lemmas.Bool.{cases_Bool, false≢true, eq-eqb, ne_eqb, le-ltb, lt-ltb, ltb-true, ltb-false}
use Rattle.std.proofs.Math.Nat.{mod-add-mod}
use Rattle.std.proofs.Math.Seq.{take-add}
use Rattle.std.specs.List.{sum_by}
use Rattle.tcmu_model.specs.RingState.{RingState, Item, lengths, pads, pad, need, free, commands_in, is_command, front_with}
use Rattle.tcmu_path.specs.Numbers.{HasNumbers}
use Rattle.tcmu_model.proofs.Laying.{lengths-pads}

pub lengths-drop_le : (items : List Item) (i j : ℕ) → i ≤ j → lengths (drop j items) ≤ lengths (drop i items)
lengths-drop_le items i j h =
    let f : Item → ℕ = λ x. x.len in
    let e : drop (j - i) (drop i items) ≡ drop j items = drop-drop (j - i) i items ∙ ap (λ n. drop n items) (omega arith) in
    let t : sum_by f (take (j - i) (drop i items)) + sum_by f (drop (j - i) (drop i items)) ≡ sum_by f (drop i items) = sum_by-take-drop f (drop i items) (j - i) in
    let u : sum_by f (drop (j - i) (drop i items)) ≡ sum_by f (drop j items) = ap (sum_by f) e in
    omega (arith, t, u)

-- an item behind its padding lengthens any back part of what was laid
lengths_laid : (laid : List Item) (pad : ℕ) (item : Item) (c : ℕ) → c ≤ length laid → lengths (drop c (laid ++ pads pad ++ item ∷ [])) ≡ lengths (drop c laid) + (pad + item.len)
lengths_laid laid pad item c h =
    let f : Item → ℕ = λ x. x.len in
    let inner : drop c (laid ++ pads pad) ≡ drop c laid ++ pads pad = drop-append-le c laid (pads pad) h in
    let le : c ≤ length (laid ++ pads pad) = omega (arith, length-append laid (pads pad)) in
    let outer : drop c (laid ++ pads pad ++ item ∷ []) ≡ drop c (laid ++ pads pad) ++ item ∷ [] = drop-append-le c (laid ++ pads pad) (item ∷ []) le in
    let e : drop c (laid ++ pads pad ++ item ∷ []) ≡ drop c laid ++ pads pad ++ item ∷ [] = outer ∙ ap (λ xs. xs ++ item ∷ []) inner in
    let s1 : sum_by f (drop c laid ++ pads pad ++ item ∷ []) ≡ sum_by f (drop c laid ++ pads pad) + item.len = sum_by_push f (drop c laid ++ pads pad) item in
    let s2 : sum_by f (drop c laid ++ pads pad) ≡ sum_by f (drop c laid) + sum_by f (pads pad) = sum_by-append f (drop c laid) (pads pad) in
    let s3 : sum_by f (pads pad) ≡ pad = lengths-pads pad in
    let s0 : sum_by f (drop c (laid ++ pads pad ++ item ∷ [])) ≡ sum_by f (drop c laid ++ pads pad ++ item ∷ []) = ap (sum_by f) e in
    omega (arith, s0, s1, s2, s3)

-- what is laid behind changes no front
commands-front : (laid more : List Item) (p : ℕ) → p ≤ length laid → commands_in (take p (laid ++ more)) ≡ commands_in (take p laid)
commands-front laid more p h = ap commands_in (take-append-le p laid more h)

-- an item that fits, behind its padding
pub HasNumbers-lay : (r : RingState) (h u c p pad_kept : ℕ) (item : Item) (items : List Item) → HasNumbers r h u c p → pad_kept ≡ pad r item.len → need r item.len ≤ free r → items ≡ r.laid ++ pads pad_kept ++ item ∷ [] → HasNumbers (record { size = r.size; laid = items; cleared = r.cleared; published = r.published; dispatched = r.dispatched }) ((h + (pad_kept + item.len)) % r.size) (u + (pad_kept + item.len)) c p
HasNumbers-lay r h u c p pad_kept item items t hp hf hi =
    let whole : lengths items ≡ lengths r.laid + (pad_kept + item.len) = ap lengths hi ∙ lengths_laid r.laid pad_kept item 0 (omega arith) in
    let some : r.cleared ≤ length r.laid = omega (arith, t.cleared, t.published, t.dispatched) in
    let some_published : r.published ≤ length r.laid = omega (arith, t.published, t.dispatched) in
    let rest : lengths (drop r.cleared items) ≡ lengths (drop r.cleared r.laid) + (pad_kept + item.len) = ap (λ xs. lengths (drop r.cleared xs)) hi ∙ lengths_laid r.laid pad_kept item r.cleared some in
    let len : length items ≡ length r.laid + length (pads pad_kept) + 1 = ap length hi ∙ (length-append (r.laid ++ pads pad_kept) (item ∷ []) ∙ ap (λ n. n + 1) (length-append r.laid (pads pad_kept))) in
    let m : (lengths r.laid % r.size + (pad_kept + item.len)) % r.size ≡ (lengths r.laid + (pad_kept + item.len)) % r.size = mod-add-mod (lengths r.laid) r.size (pad_kept + item.len) in
    let us : u ≡ lengths (drop r.cleared r.laid) = t.used_is in
    let rm : u < r.size = t.room in
    let nd : pad r item.len + item.len ≤ r.size - lengths (drop r.cleared r.laid) - 1 = hf in
    let more : List Item = pads pad_kept ++ item ∷ [] in
    let all : items ≡ r.laid ++ more = hi ∙ append_assoc r.laid (pads pad_kept) (item ∷ []) in
    let cs : commands_in (take r.cleared items) ≡ commands_in (take r.cleared r.laid) = ap (λ xs. commands_in (take r.cleared xs)) all ∙ commands-front r.laid more r.cleared some in
    let ps : commands_in (take r.published items) ≡ commands_in (take r.published r.laid) = ap (λ xs. commands_in (take r.published xs)) all ∙ commands-front r.laid more r.published some_published in
    record {
      low = t.low;
      high = t.high;
      cleared = t.cleared;
      published = t.published;
      dispatched = omega (arith, t.dispatched, len);
      head_is = ap (λ x. (x + (pad_kept + item.len)) % r.size) t.head_is ∙ (m ∙ ap (λ x. x % r.size) (sym whole));
      used_is = omega (arith, us, rest);
      room = omega (arith, us, rm, nd, hp);
      cleared_is = t.cleared_is ∙ sym cs;
      published_is = t.published_is ∙ sym ps;
    }

-- the bytes between two places
pub lengths-between : (items : List Item) (i j : ℕ) → i ≤ j → lengths (take (j - i) (drop i items)) + lengths (drop j items) ≡ lengths (drop i items)
lengths-between items i j h =
    let f : Item → ℕ = λ x. x.len in
    let e : drop (j - i) (drop i items) ≡ drop j items = drop-drop (j - i) i items ∙ ap (λ n. drop n items) (omega arith) in
    let t : sum_by f (take (j - i) (drop i items)) + sum_by f (drop (j - i) (drop i items)) ≡ sum_by f (drop i items) = sum_by-take-drop f (drop i items) (j - i) in
    let u : sum_by f (drop (j - i) (drop i items)) ≡ sum_by f (drop j items) = ap (sum_by f) e in
    omega (arith, t, u)

pub HasNumbers-clear : (r : RingState) (h u c p gone : ℕ) → HasNumbers r h u c p → gone ≡ lengths (take (r.published - r.cleared) (drop r.cleared r.laid)) → HasNumbers (record { size = r.size; laid = r.laid; cleared = r.published; published = r.published; dispatched = r.dispatched }) h (u - gone) p p
HasNumbers-clear r h u c p gone t e =
    let k : lengths (take (r.published - r.cleared) (drop r.cleared r.laid)) + lengths (drop r.published r.laid) ≡ lengths (drop r.cleared r.laid) = lengths-between r.laid r.cleared r.published t.cleared in
    let us : u ≡ lengths (drop r.cleared r.laid) = t.used_is in
    let rm : u < r.size = t.room in
    record {
      low = t.low;
      high = t.high;
      cleared = omega arith;
      published = t.published;
      dispatched = t.dispatched;
      head_is = t.head_is;
      used_is = omega (arith, k, us, e);
      room = omega (arith, rm);
      cleared_is = t.published_is;
      published_is = t.published_is;
    }

-- a front that is allowed is the beginning of the longest one
pub front_past : (n p : ℕ) (xs : List Item) → p ≤ length xs → commands_in (take p xs) ≤ n → front_with n xs ≡ p + front_with (n - commands_in (take p xs)) (drop p xs)
front_past n zero xs l h = let e : n - commands_in (take 0 xs) ≡ n = omega arith in let k : front_with (n - commands_in (take 0 xs)) xs ≡ front_with n xs = ap (λ m. front_with m xs) e in omega (arith, k)
front_past n (suc p) [] l h = absurd (omega (arith, l))
front_past n (suc p) (x ∷ xs) l h =
    let t : commands_in (take (suc p) (x ∷ xs)) ≡ cond (is_command x) 1 0 + commands_in (take p xs) = sum_by-cons (λ y. cond (is_command y) 1 0) x (take p xs) in
    let m : p ≤ length xs = omega (arith, l) in
    ⊎_elim
    (λ (e : is_command x ≡ true).
    let one : ◌≡◌ {A = ℕ} (cond (is_command x) 1 0) 1 = ap (λ b. cond b 1 0) e in
    let some : n ≡ 0 → ⊥ = λ z. omega (arith, t, one, h, z) in
    let z : eqb n 0 ≡ false = ne_eqb n 0 some in
    let less : (n - 1) - commands_in (take p xs) ≡ n - commands_in (take (suc p) (x ∷ xs)) = omega (arith, t, one) in
    let ih : front_with (n - 1) xs ≡ p + front_with ((n - 1) - commands_in (take p xs)) (drop p xs) = front_past (n - 1) p xs m (omega (arith, t, one, h)) in
    let same : front_with ((n - 1) - commands_in (take p xs)) (drop p xs) ≡ front_with (n - commands_in (take (suc p) (x ∷ xs))) (drop p xs) = ap (λ k. front_with k (drop p xs)) less in
    let start : front_with n (x ∷ xs) ≡ front_with (n - 1) xs + 1 = rw (e, z) refl in
    omega (arith, start, ih, same))
    (λ (e : is_command x ≡ false).
    let one : ◌≡◌ {A = ℕ} (cond (is_command x) 1 0) 0 = ap (λ b. cond b 1 0) e in
    let less : n - commands_in (take p xs) ≡ n - commands_in (take (suc p) (x ∷ xs)) = omega (arith, t, one) in
    let ih : front_with n xs ≡ p + front_with (n - commands_in (take p xs)) (drop p xs) = front_past n p xs m (omega (arith, t, one, h)) in
    let same : front_with (n - commands_in (take p xs)) (drop p xs) ≡ front_with (n - commands_in (take (suc p) (x ∷ xs))) (drop p xs) = ap (λ k. front_with k (drop p xs)) less in
    let start : front_with n (x ∷ xs) ≡ front_with n xs + 1 = rw e refl in
    omega (arith, start, ih, same))
    (cases_Bool (is_command x))

between : (laid : List Item) (p d : ℕ) → p ≤ d → drop p (take d laid) ≡ take (d - p) (drop p laid)
between laid p d h = let e : d ≡ p + (d - p) = omega arith in ap (λ n. drop p (take n laid)) e ∙ drop-take p (d - p) laid

-- what is published, and the longest front of the dispatched items behind it
pub more_items : (n p d : ℕ) (laid : List Item) → p ≤ d → d ≤ length laid → commands_in (take p laid) ≤ n → p + front_with (n - commands_in (take p laid)) (take (d - p) (drop p laid)) ≡ front_with n (take d laid)
more_items n p d laid l m h =
    let xs = take d laid in
    let len : length xs ≡ d = length-take-le d laid m in
    let c : commands_in (take p xs) ≡ commands_in (take p laid) = ap commands_in (take-take p d laid l) in
    let f : front_with n xs ≡ p + front_with (n - commands_in (take p xs)) (drop p xs) = front_past n p xs (omega (arith, len, l)) (omega (arith, c, h)) in
    let same : front_with (n - commands_in (take p xs)) (drop p xs) ≡ front_with (n - commands_in (take p laid)) (take (d - p) (drop p laid)) =
    ap (λ k. front_with (n - k) (drop p xs)) c ∙ ap (λ ys. front_with (n - commands_in (take p laid)) ys) (between laid p d l) in
    omega (arith, f, same)

pub more_commands : (p k d : ℕ) (laid : List Item) → k ≤ d - p → commands_in (take p laid) + commands_in (take k (take (d - p) (drop p laid))) ≡ commands_in (take (p + k) laid)
more_commands p k d laid h =
    let f : Item → ℕ = λ y. cond (is_command y) 1 0 in
    let t : commands_in (take k (take (d - p) (drop p laid))) ≡ commands_in (take k (drop p laid)) = ap commands_in (take-take k (d - p) (drop p laid) h) in
    let a : commands_in (take (p + k) laid) ≡ commands_in (take p laid ++ take k (drop p laid)) = ap commands_in (take-add p k laid) in
    let b : commands_in (take p laid ++ take k (drop p laid)) ≡ commands_in (take p laid) + commands_in (take k (drop p laid)) = sum_by-append f (take p laid) (take k (drop p laid)) in
    omega (arith, t, a, b)

-- whether more may be published: the next item is dispatched, and is no command or has an answer
pub none_more : (n kept p d : ℕ) (laid : List Item) → p ≡ d → d ≤ length laid → kept ≡ commands_in (take p laid) → kept ≤ n → nat_lt p (front_with n (take d laid)) ≡ false
none_more n kept p d laid e m k h =
    let f : p + front_with (n - commands_in (take p laid)) (take (d - p) (drop p laid)) ≡ front_with n (take d laid) = more_items n p d laid (omega (arith, e)) m (omega (arith, k, h)) in
    let z : d - p ≡ 0 = omega (arith, e) in
    let nothing : front_with (n - commands_in (take p laid)) (take (d - p) (drop p laid)) ≡ 0 = ap (λ i. front_with (n - commands_in (take p laid)) (take i (drop p laid))) z in
    le-ltb p (front_with n (take d laid)) (omega (arith, f, nothing))

some-front : (n : ℕ) (x : Item) (xs : List Item) → (is_command x ≡ false) ⊎ (0 < n) → 0 < front_with n (x ∷ xs)
some-front n x xs h =
    ⊎_elim
    (λ (e : is_command x ≡ true).
    let some : eqb n 0 ≡ false = ne_eqb n 0 (λ z. ⊎_elim (λ (k : is_command x ≡ false). false≢true (sym k ∙ e)) (λ (k : 0 < n). omega (arith, k, z)) h) in
    rw (e, some) (omega arith))
    (λ (e : is_command x ≡ false). rw e (omega arith))
    (cases_Bool (is_command x))

no-front : (n : ℕ) (x : Item) (xs : List Item) → is_command x ≡ true → n ≡ 0 → front_with n (x ∷ xs) ≡ 0
no-front n x xs e z = let y : eqb n 0 ≡ true = eq-eqb n 0 z in rw (e, y) refl

next-item : (p d : ℕ) (laid : List Item) (x : Item) → p < d → d ≤ length laid → x ≡ get_or laid p x → take (d - p) (drop p laid) ≡ x ∷ take (d - p - 1) (drop (p + 1) laid)
next-item p d laid x l m e =
    let cut : drop p laid ≡ x ∷ drop (p + 1) laid = drop_more laid p x (omega (arith, l, m)) ∙ ap (λ y. y ∷ drop (p + 1) laid) (sym e) in
    let one : d - p ≡ suc (d - p - 1) = omega (arith, l) in
    ap (λ ys. take (d - p) ys) cut ∙ ap (λ i. take i (x ∷ drop (p + 1) laid)) one

pub some_more : (n kept p d : ℕ) (laid : List Item) (x : Item) → p < d → d ≤ length laid → kept ≡ commands_in (take p laid) → kept ≤ n → x ≡ get_or laid p x → (is_command x ≡ false) ⊎ (kept < n) → nat_lt p (front_with n (take d laid)) ≡ true
some_more n kept p d laid x l m k h e o =
    let f : p + front_with (n - commands_in (take p laid)) (take (d - p) (drop p laid)) ≡ front_with n (take d laid) = more_items n p d laid (omega (arith, l)) m (omega (arith, k, h)) in
    let more : 0 < front_with (n - commands_in (take p laid)) (x ∷ take (d - p - 1) (drop (p + 1) laid)) = some-front (n - commands_in (take p laid)) x (take (d - p - 1) (drop (p + 1) laid)) (⊎_elim (λ (c : is_command x ≡ false). inl c) (λ (c : kept < n). inr (omega (arith, k, c))) o) in
    let same : front_with (n - commands_in (take p laid)) (take (d - p) (drop p laid)) ≡ front_with (n - commands_in (take p laid)) (x ∷ take (d - p - 1) (drop (p + 1) laid)) = ap (front_with (n - commands_in (take p laid))) (next-item p d laid x l m e) in
    lt-ltb p (front_with n (take d laid)) (omega (arith, f, more, same))

pub no_more : (n kept p d : ℕ) (laid : List Item) (x : Item) → p < d → d ≤ length laid → kept ≡ commands_in (take p laid) → n ≡ kept → x ≡ get_or laid p x → is_command x ≡ true → nat_lt p (front_with n (take d laid)) ≡ false
no_more n kept p d laid x l m k h e c =
    let f : p + front_with (n - commands_in (take p laid)) (take (d - p) (drop p laid)) ≡ front_with n (take d laid) = more_items n p d laid (omega (arith, l)) m (omega (arith, k, h)) in
    let same : front_with (n - commands_in (take p laid)) (take (d - p) (drop p laid)) ≡ front_with (n - commands_in (take p laid)) (x ∷ take (d - p - 1) (drop (p + 1) laid)) = ap (front_with (n - commands_in (take p laid))) (next-item p d laid x l m e) in
    let nothing : front_with (n - commands_in (take p laid)) (x ∷ take (d - p - 1) (drop (p + 1) laid)) ≡ 0 = no-front (n - commands_in (take p laid)) x (take (d - p - 1) (drop (p + 1) laid)) c (omega (arith, k, h)) in
    le-ltb p (front_with n (take d laid)) (omega (arith, f, same, nothing))

-- where the next item is a command, it wants an answer
pub command_may : (n kept p d : ℕ) (laid : List Item) (x : Item) → p < d → d ≤ length laid → kept ≡ commands_in (take p laid) → kept ≤ n → x ≡ get_or laid p x → is_command x ≡ true → nat_lt kept n ≡ nat_lt p (front_with n (take d laid))
command_may n kept p d laid x l m k h e c =
    ⊎_elim
    (λ (t : nat_lt kept n ≡ true). t ∙ sym (some_more n kept p d laid x l m k h e (inr (ltb-true kept n t))))
    (λ (t : nat_lt kept n ≡ false). t ∙ sym (no_more n kept p d laid x l m k (omega (arith, h, ltb-false kept n t)) e c))
    (cases_Bool (nat_lt kept n))
