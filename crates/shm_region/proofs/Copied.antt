-- Bytes copied in along iovecs, as bytes of the whole region.
use Rattle.std.proofs.Common.{◌≡◌, ℕ, zero, suc, ◌+◌, ◌-◌, ◌*◌, ◌<◌, ◌≤◌, ◌⊎◌, ⊎_elim, inl, inr, List, [], ◌∷◌, ◌++◌, length, drop, take, min, Option, Some, None, refl, ap, ◌∙◌, sym, subst, arith}
use Rattle.std.specs.Prelude.{slice_get}
use Rattle.std.proofs.Math.Nat.{mul-suc}
use Rattle.std.proofs.Math.Seq.{take-append_seam, take-append-add}
use Rattle.std.proofs.lemmas.Bool.{cases_lt}
use Rattle.std.proofs.lemmas.List.{drop-drop, drop_all, drop-take, take-take, take-append-le, take-append-drop, length-drop, length-take, take_all}
use Rattle.tcmu_types.specs.declared.iovec.Iov.{Iov}
use Rattle.tcmu_types.specs.ByteFields.{put}
use Rattle.tcmu_types.specs.Overwriting.{zeros}
use Rattle.region_model.specs.Iovecs.{along, total_of}
use Rattle.region_model.specs.Regions.{RegionState, AreSized, size_of, shown, bytes_of, overlaid, blocks_over, wrote, copied_in, LieInRegion}
use Rattle.tcmu_types.proofs.ByteFields.{length-zeros, length-put, put-nothing, take-put, drop-put}
use Rattle.shm_region.specs.Copies.{ShareNone, LeaveOut, AreDisjoint, NameNoLent}
use Rattle.shm_region.proofs.Over.{over_past, over_before}
use Rattle.region_model.proofs.Areas.{length-overlaid, sized-blocks_over}

-- ==== a byte more in front

-- what the first byte becomes, where the written bytes begin d bytes behind it, and cs are those that fall on it and behind
abbrev over_head : ℕ → List ℕ → ℕ → ℕ
over_head zero [] b = b
over_head zero (c ∷ cs) b = c
over_head (suc d) cs b = b

-- those that fall behind it
abbrev over_rest : ℕ → List ℕ → List ℕ
over_rest zero cs = drop 1 cs
over_rest (suc d) cs = cs

put-cons : (d : ℕ) (x t : List ℕ) (b : ℕ) → put (b ∷ x) (suc d) t ≡ b ∷ put x d t
unfolding put
put-cons d x t b = ap (λ (n : ℕ). b ∷ ((take d x ++ t) ++ drop n (b ∷ x))) (next d (length t))
  where
    next : (d n : ℕ) → suc d + n ≡ suc (d + n)
    next d n = omega arith

put-first : (x t : List ℕ) (b c : ℕ) → put (b ∷ x) 0 (c ∷ t) ≡ c ∷ put x 0 t
unfolding put
put-first x t b c = ap (λ (n : ℕ). (c ∷ t) ++ drop n (b ∷ x)) (next (length t)) ∙ ap (λ (n : ℕ). c ∷ (t ++ drop n x)) (sym (plain (length t)))
  where
    next : (n : ℕ) → 0 + suc n ≡ suc n
    next n = omega arith

    plain : (n : ℕ) → 0 + n ≡ n
    plain n = omega arith

put-step : (d e m n : ℕ) (cs x : List ℕ) (b : ℕ) → e ≡ d - 1 → m ≡ suc (length x) - d → n ≡ length x - e
    → put (b ∷ x) d (take m cs) ≡ over_head d cs b ∷ put x e (take n (over_rest d cs))
put-step zero e m n [] x b he hm hn =
    ap (put (b ∷ x) 0) (take_all m [] (omega arith)) ∙ put-nothing (b ∷ x) 0
    ∙ ap (λ (w : List ℕ). b ∷ w) (sym (ap (put x e) (take_all n [] (omega arith)) ∙ put-nothing x e))
put-step zero e m n (c ∷ cs) x b he hm hn =
    ap (λ (k : ℕ). put (b ∷ x) 0 (take k (c ∷ cs))) (whole (length x) hm)
    ∙ put-first x (take (length x) cs) b c
    ∙ ap (λ (k : ℕ). c ∷ put x k (take (length x) cs)) (none he)
    ∙ ap (λ (k : ℕ). c ∷ put x e (take k cs)) (all (length x) hn (none he))
  where
    whole : (l : ℕ) → m ≡ suc l - 0 → m ≡ suc l
    whole l h = omega (arith, h)

    none : e ≡ 0 - 1 → 0 ≡ e
    none h = omega (arith, h)

    all : (l : ℕ) → n ≡ l - e → 0 ≡ e → l ≡ n
    all l h z = omega (arith, h, z)
put-step (suc d) e m n cs x b he hm hn =
    put-cons d x (take m cs) b
    ∙ ap (λ (k : ℕ). b ∷ put x k (take m cs)) (same he)
    ∙ ap (λ (k : ℕ). b ∷ put x e (take k cs)) (all (length x) hm hn (same he))
  where
    same : e ≡ suc d - 1 → d ≡ e
    same h = omega (arith, h)

    all : (l : ℕ) → m ≡ suc l - suc d → n ≡ l - e → d ≡ e → m ≡ n
    all l h k z = omega (arith, h, k, z)

rest-is : (d place at : ℕ) (c : List ℕ) → d ≡ at - place → over_rest d (drop (place - at) c) ≡ drop (place + 1 - at) c
rest-is zero place at c is = drop-drop 1 (place - at) c ∙ ap (λ (n : ℕ). drop n c) (one (omega (arith, is)))
  where
    one : at ≤ place → place - at + 1 ≡ place + 1 - at
    one h = omega (arith, h)
rest-is (suc d) place at c is = ap (λ (n : ℕ). drop n c) (omega (arith, is))

over-cons : (place at : ℕ) (c x : List ℕ) (b : ℕ)
    → overlaid place at c (b ∷ x) ≡ over_head (at - place) (drop (place - at) c) b ∷ overlaid (place + 1) at c x
unfolding overlaid
over-cons place at c x b =
    put-step (at - place) (at - (place + 1)) (length (b ∷ x) - (at - place)) (length x - (at - (place + 1))) (drop (place - at) c) x b (back place at) refl refl
    ∙ ap (λ (w : List ℕ). over_head (at - place) (drop (place - at) c) b ∷ put x (at - (place + 1)) (take (length x - (at - (place + 1))) w)) (rest-is (at - place) place at c refl)
  where
    back : (p a : ℕ) → a - (p + 1) ≡ a - p - 1
    back p a = omega arith

-- what is written over two parts, one behind the other
pub over-append : (place at : ℕ) (c x y : List ℕ) → overlaid place at c (x ++ y) ≡ overlaid place at c x ++ overlaid (place + length x) at c y
over-append place at c [] y =
    ap (λ (n : ℕ). overlaid n at c y) (none place) ∙ ap (λ (w : List ℕ). w ++ overlaid (place + 0) at c y) (sym (over_past place at c [] (omega arith)))
  where
    none : (p : ℕ) → p ≡ p + 0
    none p = omega arith
over-append place at c (b ∷ x) y =
    over-cons place at c (x ++ y) b
    ∙ ap (λ (w : List ℕ). over_head (at - place) (drop (place - at) c) b ∷ w) (over-append (place + 1) at c x y)
    ∙ ap (λ (n : ℕ). over_head (at - place) (drop (place - at) c) b ∷ (overlaid (place + 1) at c x ++ overlaid n at c y)) (farther place (length x))
    ∙ ap (λ (w : List ℕ). w ++ overlaid (place + suc (length x)) at c y) (sym (over-cons place at c x b))
  where
    farther : (p n : ℕ) → p + 1 + n ≡ p + suc n
    farther p n = omega arith

-- ==== bytes that two ranges share

pub beside : (a n b m : ℕ) → ShareNone a n b m → (a + n ≤ b) ⊎ (b + m ≤ a) ⊎ (n ≡ 0) ⊎ (m ≡ 0)
beside a n b m none =
    ⊎_elim (λ (x : b < a + n).
    ⊎_elim (λ (y : a < b + m).
    ⊎_elim (λ (left : a < b).
    ⊎_elim (λ (some : 0 < m). absurd (none b (omega (arith, left)) x (omega arith) (omega (arith, some)))) (λ (h : m ≤ 0). inr (inr (inr (omega (arith, h))))) (cases_lt 0 m))
    (λ (right : b ≤ a).
    ⊎_elim (λ (some : 0 < n). absurd (none a (omega arith) (omega (arith, some)) right y)) (λ (h : n ≤ 0). inr (inr (inl (omega (arith, h))))) (cases_lt 0 n))
    (cases_lt a b))
    (λ (h : b + m ≤ a). inr (inl h))
    (cases_lt a (b + m)))
    (λ (h : a + n ≤ b). inl h)
    (cases_lt b (a + n))

-- ==== the bytes of a region that was written over

-- every lent block stands beside the n written bytes
abbrev BesideLent : ℕ → ℕ → ℕ → ℕ → List (Option (List ℕ)) → Type 0
BesideLent p size at n xs = (k : ℕ) → slice_get xs k ≡ Some None → ShareNone at n (p + size * k) size

beside_rest : (p size at n : ℕ) (x : Option (List ℕ)) (xs : List (Option (List ℕ))) → BesideLent p size at n (x ∷ xs) → BesideLent (p + size) size at n xs
beside_rest p size at n x xs h k is = subst (λ (q : ℕ). ShareNone at n q size) (next p size k) (h (suc k) is)
  where
    next : (p s k : ℕ) → p + s * suc k ≡ p + s + s * k
    next p s k = omega (arith, mul-suc s k)

zeros_stay : (p size at : ℕ) (c : List ℕ) → ShareNone at (length c) p size → overlaid p at c (zeros size) ≡ zeros size
zeros_stay p size at c none =
    ⊎_elim (λ (h : at + length c ≤ p). over_before p at c (zeros size) (omega (arith, h)))
    (⊎_elim (λ (h : p + size ≤ at). over_past p at c (zeros size) (omega (arith, h, length-zeros size)))
    (⊎_elim (λ (h : length c ≡ 0). over_before p at c (zeros size) (omega (arith, h)))
    (λ (h : size ≡ 0). over_past p at c (zeros size) (omega (arith, h, length-zeros size)))))
    (beside at (length c) p size none)

shown-over : (size p at : ℕ) (c : List ℕ) (xs : List (Option (List ℕ))) → AreSized size xs → BesideLent p size at (length c) xs
    → shown size (blocks_over p size at c xs) ≡ overlaid p at c (shown size xs)
shown-over size p at c [] sized h = sym (over_past p at c [] (omega arith))
shown-over size p at c (None ∷ xs) sized h =
    ap (λ (w : List ℕ). zeros size ++ w) (shown-over size (p + size) at c xs sized (beside_rest p size at (length c) None xs h))
    ∙ ap (λ (w : List ℕ). w ++ overlaid (p + size) at c (shown size xs)) (sym (zeros_stay p size at c (subst (λ (q : ℕ). ShareNone at (length c) q size) (none p size) (h zero refl))))
    ∙ ap (λ (n : ℕ). overlaid p at c (zeros size) ++ overlaid (p + n) at c (shown size xs)) (sym (length-zeros size))
    ∙ sym (over-append p at c (zeros size) (shown size xs))
  where
    none : (p s : ℕ) → p + s * 0 ≡ p
    none p s = omega arith
shown-over size p at c (Some b ∷ xs) sized h =
    ap (λ (w : List ℕ). overlaid p at c b ++ w) (shown-over size (p + size) at c xs sized.1 (beside_rest p size at (length c) (Some b) xs h))
    ∙ ap (λ (n : ℕ). overlaid p at c b ++ overlaid (p + n) at c (shown size xs)) (sym sized.0)
    ∙ sym (over-append p at c b (shown size xs))

over-whole : (at : ℕ) (c x : List ℕ) → at + length c ≤ length x → overlaid 0 at c x ≡ put x at c
unfolding overlaid
over-whole at c x fits =
    ap (λ (n : ℕ). put x n (take (length x - n) (drop (0 - at) c))) (plain at)
    ∙ ap (λ (n : ℕ). put x at (take (length x - at) (drop n c))) (none at)
    ∙ ap (put x at) (take_all (length x - at) c (omega (arith, fits)))
  where
    plain : (a : ℕ) → a - 0 ≡ a
    plain a = omega arith

    none : (a : ℕ) → 0 - a ≡ 0
    none a = omega arith

-- bytes that lie in the region and touch no lent block are just put
pub bytes-wrote : (r : RegionState) (at : ℕ) (c : List ℕ) → AreSized (size_of r) r.blocks → BesideLent (length r.front) (size_of r) at (length c) r.blocks
    → at + length c ≤ length (bytes_of r) → bytes_of (wrote r at c) ≡ put (bytes_of r) at c
bytes-wrote r at c sized h fits =
    ap (λ (w : List ℕ). overlaid 0 at c r.front ++ w) (shown-over (size_of r) (length r.front) at c r.blocks sized h)
    ∙ ap (λ (n : ℕ). overlaid 0 at c r.front ++ overlaid n at c (shown (size_of r) r.blocks)) (plain (length r.front))
    ∙ sym (over-append 0 at c r.front (shown (size_of r) r.blocks))
    ∙ over-whole at c (bytes_of r) fits
  where
    plain : (n : ℕ) → n ≡ 0 + n
    plain n = omega arith

-- ==== a part of bytes that were put

put-empty : (x : List ℕ) (at : ℕ) (c : List ℕ) → length c ≡ 0 → put x at c ≡ x
put-empty x at [] h = put-nothing x at
put-empty x at (b ∷ c) h = absurd (omega (arith, h))

-- a part beside them stays
part_stays : (x : List ℕ) (at : ℕ) (c : List ℕ) (b m : ℕ) → at + length c ≤ length x → ShareNone at (length c) b m
    → take m (drop b (put x at c)) ≡ take m (drop b x)
part_stays x at c b m fits none =
    let e : ℕ = at + length c in
    ⊎_elim (λ (h : e ≤ b).
    let is : b ≡ e + (b - e) = omega (arith, h) in
    ap (λ (n : ℕ). take m (drop n (put x at c))) is
    ∙ ap (take m) (sym (drop-drop (b - e) e (put x at c))
    ∙ ap (drop (b - e)) (drop-put x at c (length c) e refl (omega arith) (omega (arith, fits)) ∙ ap (λ (w : List ℕ). w ++ drop e x) (drop_all (length c) c (omega arith)))
    ∙ drop-drop (b - e) e x)
    ∙ ap (λ (n : ℕ). take m (drop n x)) (sym is))
    (⊎_elim (λ (h : b + m ≤ at).
    sym (drop-take b m (put x at c))
    ∙ ap (drop b) (sym (take-take (b + m) e (put x at c) (omega (arith, h)))
    ∙ ap (take (b + m)) (take-put x at c e refl (omega (arith, fits)))
    ∙ take-append-le (b + m) (take at x) c (omega (arith, h, fits, length-take at x))
    ∙ take-take (b + m) at x h)
    ∙ drop-take b m x)
    (⊎_elim (λ (h : length c ≡ 0). ap (λ (w : List ℕ). take m (drop b w)) (put-empty x at c h))
    (λ (h : m ≡ 0). ap (λ (n : ℕ). take n (drop b (put x at c))) h ∙ sym (ap (λ (n : ℕ). take n (drop b x)) h))))
    (beside at (length c) b m none)

own_part : (x : List ℕ) (at : ℕ) (c : List ℕ) → at + length c ≤ length x → take (length c) (drop at (put x at c)) ≡ c
own_part x at c fits =
    ap (take (length c)) (drop-put x at c 0 at (plain at) (omega arith) (omega (arith, fits))) ∙ take-append_seam c (drop (at + length c) x)
  where
    plain : (a : ℕ) → a ≡ a + 0
    plain a = omega arith

-- ==== along iovecs

lent-over : (size p at : ℕ) (c : List ℕ) (xs : List (Option (List ℕ))) (k : ℕ) → slice_get (blocks_over p size at c xs) k ≡ Some None → slice_get xs k ≡ Some None
lent-over size p at c [] k h = h
lent-over size p at c (None ∷ xs) zero h = refl
lent-over size p at c (Some b ∷ xs) zero h = cc
lent-over size p at c (x ∷ xs) (suc k) h = lent-over size (p + size) at c xs k h

lies-same : (r s : RegionState) (iovs : List Iov) → length (bytes_of s) ≡ length (bytes_of r) → LieInRegion r iovs → LieInRegion s iovs
lies-same r s [] e h = tt
lies-same r s (iov ∷ iovs) e h = (omega (arith, e, h.0), lies-same r s iovs e h.1)

fewer : (a n b m k : ℕ) → k ≤ n → ShareNone a n b m → ShareNone a k b m
fewer a n b m k le none i p q s t = none i p (omega (arith, q, le)) s t

-- iovecs along which bytes are just put
pub record CanCopy (r : RegionState) (iovs : List Iov) : Type 0 where
  pub sized : AreSized (size_of r) r.blocks
  pub lies : LieInRegion r iovs
  pub free : NameNoLent r iovs

first_fits : (r : RegionState) (iov : Iov) (iovs : List Iov) (bytes : List ℕ) → CanCopy r (iov ∷ iovs) → iov.base + length (take iov.len bytes) ≤ length (bytes_of r)
first_fits r iov iovs bytes can = omega (arith, length-take iov.len bytes, can.lies.0)

first_put : (r : RegionState) (iov : Iov) (iovs : List Iov) (bytes : List ℕ) → CanCopy r (iov ∷ iovs)
    → bytes_of (wrote r iov.base (take iov.len bytes)) ≡ put (bytes_of r) iov.base (take iov.len bytes)
first_put r iov iovs bytes can =
    bytes-wrote r iov.base (take iov.len bytes) can.sized
    (λ k lent. fewer iov.base iov.len (length r.front + size_of r * k) (size_of r) (length (take iov.len bytes)) (omega (arith, length-take iov.len bytes)) (can.free k lent).0)
    (first_fits r iov iovs bytes can)

can_rest : (r : RegionState) (iov : Iov) (iovs : List Iov) (bytes : List ℕ) → CanCopy r (iov ∷ iovs) → CanCopy (wrote r iov.base (take iov.len bytes)) iovs
can_rest r iov iovs bytes can =
    let c : List ℕ = take iov.len bytes in
    record {
      sized = sized-blocks_over (size_of r) (length r.front) (size_of r) iov.base c r.blocks can.sized;
      lies = lies-same r (wrote r iov.base c) iovs (ap length (first_put r iov iovs bytes can) ∙ length-put (bytes_of r) iov.base c (first_fits r iov iovs bytes can)) can.lies.1;
      free = λ k lent.
          subst (λ (n : ℕ). LeaveOut iovs (n + size_of r * k) (size_of r)) (sym (length-overlaid 0 iov.base c r.front))
          (can.free k (lent-over (size_of r) (length r.front) iov.base c r.blocks k lent)).1;
    }

-- a part that no iovec names stays
pub copied_beside : (iovs : List Iov) (r : RegionState) (bytes : List ℕ) (b m : ℕ) → CanCopy r iovs → LeaveOut iovs b m
    → take m (drop b (bytes_of (copied_in r iovs bytes))) ≡ take m (drop b (bytes_of r))
copied_beside [] r bytes b m can out = refl
copied_beside (iov ∷ iovs) r bytes b m can out =
    let c : List ℕ = take iov.len bytes in
    copied_beside iovs (wrote r iov.base c) (drop iov.len bytes) b m (can_rest r iov iovs bytes can) out.1
    ∙ ap (λ (w : List ℕ). take m (drop b w)) (first_put r iov iovs bytes can)
    ∙ part_stays (bytes_of r) iov.base c b m (first_fits r iov iovs bytes can) (fewer iov.base iov.len b m (length c) (omega (arith, length-take iov.len bytes)) out.0)

-- what was copied in is copied out again
pub copied_back : (iovs : List Iov) (r : RegionState) (bytes : List ℕ) (n : ℕ) → CanCopy r iovs → AreDisjoint iovs → n ≤ length bytes → n ≤ total_of iovs
    → take n (along (bytes_of (copied_in r iovs bytes)) iovs) ≡ take n bytes
copied_back [] r bytes n can disjoint enough room =
    let none : n ≡ 0 = omega (arith, room) in
    ap (λ (k : ℕ). take k []) none ∙ sym (ap (λ (k : ℕ). take k bytes) none)
copied_back (iov ∷ iovs) r bytes n can disjoint enough room =
    let c : List ℕ = take iov.len bytes in
    let s : RegionState = wrote r iov.base c in
    let left : List ℕ = drop iov.len bytes in
    let B : List ℕ = bytes_of (copied_in s iovs left) in
    let W : List ℕ = take iov.len (drop iov.base B) in
    let rest : List ℕ = along B iovs in
    let size : length c ≡ min iov.len (length bytes) = length-take iov.len bytes in
    let own : take (length c) W ≡ c =
    ap (take (length c)) (copied_beside iovs s left iov.base iov.len (can_rest r iov iovs bytes can) disjoint.0 ∙ ap (λ (w : List ℕ). take iov.len (drop iov.base w)) (first_put r iov iovs bytes can))
    ∙ take-take (length c) iov.len (drop iov.base (put (bytes_of r) iov.base c)) (omega (arith, size))
    ∙ own_part (bytes_of r) iov.base c (first_fits r iov iovs bytes can) in
    ⊎_elim
    (λ (more : iov.len < n).
    let full : length c ≡ iov.len = omega (arith, size, more, enough) in
    let whole : W ≡ c = sym (take-take iov.len iov.len (drop iov.base B) (omega arith)) ∙ ap (λ (k : ℕ). take k W) (sym full) ∙ own in
    let parts : n ≡ length c + (n - iov.len) = omega (arith, full, more) in
    let again : take (n - iov.len) rest ≡ take (n - iov.len) left =
    copied_back iovs s left (n - iov.len) (can_rest r iov iovs bytes can) disjoint.1 (omega (arith, enough, length-drop iov.len bytes)) (omega (arith, room)) in
    ap (λ (w : List ℕ). take n (w ++ rest)) whole
    ∙ ap (λ (k : ℕ). take k (c ++ rest)) parts
    ∙ take-append-add c rest (n - iov.len)
    ∙ ap (λ (w : List ℕ). c ++ w) again
    ∙ sym (take-append-add c left (n - iov.len))
    ∙ ap (λ (k : ℕ). take k (c ++ left)) (sym parts)
    ∙ ap (take n) (take-append-drop iov.len bytes))
    (λ (small : n ≤ iov.len).
    let inside : n ≤ length c = omega (arith, size, small, enough) in
    take-append-le n W rest (omega (arith, inside, length-take (length c) W, ap length own))
    ∙ sym (take-take n (length c) W inside)
    ∙ ap (take n) own
    ∙ take-take n iov.len bytes small)
    (cases_lt iov.len n)
