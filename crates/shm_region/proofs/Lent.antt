-- Blocks lent and given back.
use Rattle.std.proofs.Common.{◌≡◌, ◌≢◌, ◌↔◌, ℕ, zero, suc, ◌+◌, ◌-◌, ◌%◌, ◌<◌, ◌≤◌, ◌==◌, ◌&&◌, List, [], ◌∷◌, ◌++◌, length, drop, take, set, get_or, Bool, true, false, Option, Some, None, refl, ap, ◌∙◌, sym, arith, append_assoc, length-append, nat_le}
use Rattle.std.specs.List.{range_with_len}
use Rattle.std.specs.Prelude.{slice_get, unwrap_or, if◌then◌else◌}
use Rattle.std.proofs.lemmas.List.FromFn.{length-range_with_len}
use Rattle.std.proofs.lemmas.List.{append-nil, length-take, take-append-drop}
use Rattle.iovec_scatter.proofs.Steps.{rest_of}
use Rattle.std.proofs.lemmas.Grind.{take_at_read}
use Rattle.std.proofs.lemmas.Bool.Decides.{nat_tests}
use Rattle.tcmu_types.specs.declared.iovec.Iov.{Iov}
use Rattle.region_model.specs.Regions.{RegionState, size_of, home, is_home, put_where, put_home, returned, HaveSize, can_take, taken, without, numbers_of, first_block, block_count, starts_block, are_whole, can_lend, named_by, StartsBlock, AreWhole, AreHome, IsOther, AreOnce, CanLend}
use Rattle.shm_region.proofs.Sized.{set-set}
use Rattle.std.proofs.lemmas.Bool.{and_from, and_parts}

pub home_some : (o : Option (Option (List ℕ))) (p : List ℕ) → home o ≡ Some p → o ≡ Some (Some p)
home_some None p h = cc
home_some (Some o) p h = ap Some h

pub set-not-home : (xs : List (Option (List ℕ))) (n : ℕ) → home (slice_get xs n) ≡ None → set xs n None ≡ xs
set-not-home [] n h = refl
set-not-home (None ∷ xs) zero h = refl
set-not-home (Some b ∷ xs) zero h = cc
set-not-home (x ∷ xs) (suc n) h = ap (λ w. x ∷ w) (set-not-home xs n h)

got : (xs : List (Option (List ℕ))) (n : ℕ) (p : List ℕ) → slice_get xs n ≡ Some (Some p) → slice_get (set xs n None) n ≡ Some None
got [] n p h = cc
got (x ∷ xs) zero p h = refl
got (x ∷ xs) (suc n) p h = got xs n p h

set-same : (xs : List (Option (List ℕ))) (n : ℕ) (p : List ℕ) → slice_get xs n ≡ Some (Some p) → set xs n (Some p) ≡ xs
set-same [] n p h = refl
set-same (x ∷ xs) zero p h = cc
set-same (x ∷ xs) (suc n) p h = ap (λ w. x ∷ w) (set-same xs n p h)

put-back : (xs : List (Option (List ℕ))) (n : ℕ) (p : List ℕ) → slice_get xs n ≡ Some (Some p) → put_home (set xs n None) n p ≡ xs
put-back xs n p h =
    ap (λ (o : Option (Option (List ℕ))). put_where o (set xs n None) n p) (got xs n p h)
    ∙ set-set xs n None (Some p)
    ∙ set-same xs n p h

returned-append : (xs : List (Option (List ℕ))) (ns : List ℕ) (n : ℕ) (ps : List (List ℕ)) (p : List ℕ) → length ns ≡ length ps
    → returned xs (ns ++ n ∷ []) (ps ++ p ∷ []) ≡ returned (put_home xs n p) ns ps
returned-append xs [] n [] p h = refl
returned-append xs [] n (q ∷ ps) p h = absurd (omega arith)
returned-append xs (m ∷ ns) n [] p h = absurd (omega arith)
returned-append xs (m ∷ ns) n (q ∷ ps) p h = ap (λ (w : List (Option (List ℕ))). put_home w m q) (returned-append xs ns n ps p (omega arith))

pub have-last : (size : ℕ) (ps : List (List ℕ)) (p : List ℕ) → HaveSize size (ps ++ p ∷ []) → HaveSize size ps × (length p ≡ size)
have-last size [] p h = (tt, h.0)
have-last size (q ∷ ps) p h = ((h.0, (have-last size ps p h.1).0), (have-last size ps p h.1).1)

pub have-push : (size : ℕ) (ps : List (List ℕ)) (p : List ℕ) → HaveSize size ps → length p ≡ size → HaveSize size (ps ++ p ∷ [])
have-push size [] p h len = (len, tt)
have-push size (q ∷ ps) p h len = (h.0, have-push size ps p h.1 len)

pub have-take : (size n : ℕ) (ps : List (List ℕ)) → HaveSize size ps → HaveSize size (take n ps)
have-take size zero ps h = tt
have-take size (suc n) [] h = tt
have-take size (suc n) (p ∷ ps) h = (h.0, have-take size n ps h.1)

pub have-join : (size : ℕ) (ps qs : List (List ℕ)) → HaveSize size ps → HaveSize size qs → HaveSize size (ps ++ qs)
have-join size [] qs h k = k
have-join size (p ∷ ps) qs h k = (h.0, have-join size ps qs h.1 k)

-- ==== numbers that follow each other

pub numbers-last : (n k : ℕ) → range_with_len n (k + 1) ≡ range_with_len n k ++ (n + k) ∷ []
numbers-last n zero = ap (λ (m : ℕ). m ∷ []) (none n)
  where
    none : (n : ℕ) → n ≡ n + 0
    none n = omega arith
numbers-last n (suc k) = ap (range_with_len n) (moved k) ∙ ap (λ (w : List ℕ). n ∷ w) (numbers-last (n + 1) k ∙ ap (λ (m : ℕ). range_with_len (n + 1) k ++ m ∷ []) (next n k))
  where
    moved : (k : ℕ) → suc k + 1 ≡ suc (k + 1)
    moved k = omega arith

    next : (n k : ℕ) → n + 1 + k ≡ n + suc k
    next n k = omega arith

pub numbers-rest : (n done count : ℕ) → done < count → range_with_len (n + done) (count - done) ≡ (n + done) ∷ range_with_len (n + (done + 1)) (count - (done + 1))
numbers-rest n done count h =
    ap (range_with_len (n + done)) (more done count h) ∙ ap (λ (m : ℕ). (n + done) ∷ range_with_len m (count - (done + 1))) (next n done)
  where
    more : (d c : ℕ) → d < c → c - d ≡ suc (c - (d + 1))
    more d c h = omega (arith, h)

    next : (n d : ℕ) → n + d + 1 ≡ n + (d + 1)
    next n d = omega arith

-- ==== one block

-- one block given back
pub back_step : (self new : RegionState) (ns : List ℕ) (n : ℕ) (ps : List (List ℕ)) (p : List ℕ) → length ns ≡ length ps
    → new ≡ record self { blocks = put_home self.blocks n p }
    → record new { blocks = returned new.blocks ns ps } ≡ record self { blocks = returned self.blocks (ns ++ n ∷ []) (ps ++ p ∷ []) }
back_step self new ns n ps p same after =
    ap (λ (m : RegionState). record m { blocks = returned m.blocks ns ps }) after
    ∙ ap (λ (w : List (Option (List ℕ))). record self { blocks = w }) (sym (returned-append self.blocks ns n ps p same))

pub record LendStep (self new : RegionState) (front : List ℕ) (n : ℕ) (rest : List ℕ) (list ps : List (List ℕ)) (p : List ℕ) : Type 0 where
  pub can : can_take new.blocks rest ≡ can_take self.blocks (n ∷ rest)
  pub parts : (list ++ p ∷ []) ++ taken new.blocks rest ≡ list ++ taken self.blocks (n ∷ rest)
  pub gone : record new { blocks = without new.blocks rest } ≡ record self { blocks = without self.blocks (n ∷ rest) }
  pub back : record new { blocks = returned new.blocks (front ++ n ∷ []) (ps ++ p ∷ []) } ≡ record self { blocks = returned self.blocks front ps }

-- one block lent
pub lend_step : (self new : RegionState) (front : List ℕ) (n : ℕ) (rest : List ℕ) (list ps : List (List ℕ)) (p : List ℕ)
    → length front ≡ length ps → slice_get self.blocks n ≡ Some (Some p) → new ≡ record self { blocks = set self.blocks n None }
    → LendStep self new front n rest list ps p
lend_step self new front n rest list ps p same there after =
    let after_blocks : new.blocks ≡ set self.blocks n None = ap (λ (m : RegionState). m.blocks) after in
    record {
      can =
          ap (λ (w : List (Option (List ℕ))). can_take w rest) after_blocks
          ∙ sym (ap (λ (o : Option (Option (List ℕ))). is_home o && can_take (set self.blocks n None) rest) there);
      parts =
          append_assoc list (p ∷ []) (taken new.blocks rest)
          ∙ ap (λ (w : List (Option (List ℕ))). list ++ p ∷ taken w rest) after_blocks
          ∙ sym (ap (λ (o : Option (Option (List ℕ))). list ++ unwrap_or (home o) [] ∷ taken (set self.blocks n None) rest) there);
      gone = ap (λ (m : RegionState). record m { blocks = without m.blocks rest }) after;
      back =
          ap (λ (m : RegionState). record m { blocks = returned m.blocks (front ++ n ∷ []) (ps ++ p ∷ []) }) after
          ∙ ap (λ (w : List (Option (List ℕ))). record self { blocks = w })
          (returned-append (set self.blocks n None) front n ps p same
          ∙ ap (λ (w : List (Option (List ℕ))). returned w front ps) (put-back self.blocks n p there));
    }

-- lists of numbers joined, as a loop over iovecs joins them
and_assoc : (a b c : Bool) → (a && b) && c ≡ a && (b && c)
and_assoc true b c = refl
and_assoc false b c = refl

pub can_take-append : (xs : List (Option (List ℕ))) (ns ms : List ℕ) → can_take xs (ns ++ ms) ≡ can_take xs ns && can_take (without xs ns) ms
can_take-append xs [] ms = refl
can_take-append xs (n ∷ ns) ms =
    ap (λ (b : Bool). is_home (slice_get xs n) && b) (can_take-append (set xs n None) ns ms)
    ∙ sym (and_assoc (is_home (slice_get xs n)) (can_take (set xs n None) ns) (can_take (without (set xs n None) ns) ms))

pub taken-append : (xs : List (Option (List ℕ))) (ns ms : List ℕ) → taken xs (ns ++ ms) ≡ taken xs ns ++ taken (without xs ns) ms
taken-append xs [] ms = refl
taken-append xs (n ∷ ns) ms = ap (λ (w : List (List ℕ)). unwrap_or (home (slice_get xs n)) [] ∷ w) (taken-append (set xs n None) ns ms)

pub without-append : (xs : List (Option (List ℕ))) (ns ms : List ℕ) → without xs (ns ++ ms) ≡ without (without xs ns) ms
without-append xs [] ms = refl
without-append xs (n ∷ ns) ms = without-append (set xs n None) ns ms

pub returned-join : (xs : List (Option (List ℕ))) (ns ms : List ℕ) (ps qs : List (List ℕ)) → length ns ≡ length ps → returned xs (ns ++ ms) (ps ++ qs) ≡ returned (returned xs ms qs) ns ps
returned-join xs [] ms [] qs h = refl
returned-join xs [] ms (p ∷ ps) qs h = absurd (omega arith)
returned-join xs (n ∷ ns) ms [] qs h = absurd (omega arith)
returned-join xs (n ∷ ns) ms (p ∷ ps) qs h = ap (λ (w : List (Option (List ℕ))). put_home w n p) (returned-join xs ns ms ps qs (omega arith))

-- ==== what was lent comes back

pub lends_back : (xs : List (Option (List ℕ))) (ns : List ℕ) → can_take xs ns ≡ true → returned (without xs ns) ns (taken xs ns) ≡ xs
lends_back xs [] h = refl
lends_back xs (n ∷ ns) h =
    by_home (home (slice_get xs n)) refl (first (is_home (slice_get xs n)) (can_take (set xs n None) ns) h) (λ can. lends_back (set xs n None) ns can)
  where
    first : (a b : Bool) → a && b ≡ true → (a ≡ true) × (b ≡ true)
    first true b h = (refl, h)
    first false b h = cc

    lent_home : (o : Option (Option (List ℕ))) → home o ≡ None → is_home o ≡ true → ⊥
    lent_home None e h = cc
    lent_home (Some None) e h = cc
    lent_home (Some (Some b)) e h = cc

    by_home : (o : Option (List ℕ)) → home (slice_get xs n) ≡ o → (is_home (slice_get xs n) ≡ true) × (can_take (set xs n None) ns ≡ true)
        → (can_take (set xs n None) ns ≡ true → returned (without (set xs n None) ns) ns (taken (set xs n None) ns) ≡ set xs n None)
        → returned (without xs (n ∷ ns)) (n ∷ ns) (taken xs (n ∷ ns)) ≡ xs
    by_home None is both back = absurd (lent_home (slice_get xs n) is both.0)
    by_home (Some p) is both back =
        ap (λ (o : Option (List ℕ)). put_home (returned (without (set xs n None) ns) ns (taken (set xs n None) ns)) n (unwrap_or o [])) is
        ∙ ap (λ (w : List (Option (List ℕ))). put_home w n p) (back both.1)
        ∙ put-back xs n p (home_some (slice_get xs n) p is)

-- ==== the blocks of one iovec

pub numbers-append : (start size : ℕ) (xs ys : List Iov) → numbers_of start size (xs ++ ys) ≡ numbers_of start size xs ++ numbers_of start size ys
numbers-append start size [] ys = refl
numbers-append start size (x ∷ xs) ys =
    ap (λ (w : List ℕ). range_with_len (first_block start size x) (block_count size x) ++ w) (numbers-append start size xs ys)
    ∙ sym (append_assoc (range_with_len (first_block start size x) (block_count size x)) (numbers_of start size xs) (numbers_of start size ys))

pub numbers-take : (start size : ℕ) (iovs : List Iov) (i : ℕ) (d : Iov) → i < length iovs
    → numbers_of start size (take (i + 1) iovs) ≡ numbers_of start size (take i iovs) ++ range_with_len (first_block start size (get_or iovs i d)) (block_count size (get_or iovs i d))
numbers-take start size iovs i d h =
    ap (numbers_of start size) (take_at_read iovs i d h).1
    ∙ numbers-append start size (take i iovs) (get_or iovs i d ∷ [])
    ∙ ap (λ (w : List ℕ). numbers_of start size (take i iovs) ++ w) (append-nil (range_with_len (first_block start size (get_or iovs i d)) (block_count size (get_or iovs i d))))

pub numbers-drop : (start size : ℕ) (iovs : List Iov) (i : ℕ) (d : Iov) → i < length iovs
    → numbers_of start size (drop i iovs) ≡ range_with_len (first_block start size (get_or iovs i d)) (block_count size (get_or iovs i d)) ++ numbers_of start size (drop (i + 1) iovs)
numbers-drop start size iovs i d h = ap (numbers_of start size) (rest_of iovs i d h)

pub record RangeStep (self new : RegionState) (front ms rest : List ℕ) (list into : List (List ℕ)) : Type 0 where
  pub can : can_take new.blocks rest ≡ can_take self.blocks (ms ++ rest)
  pub parts : into ++ taken new.blocks rest ≡ list ++ taken self.blocks (ms ++ rest)
  pub gone : record new { blocks = without new.blocks rest } ≡ record self { blocks = without self.blocks (ms ++ rest) }
  pub back : record new { blocks = returned new.blocks (front ++ ms) into } ≡ record self { blocks = returned self.blocks front list }

-- the blocks of one iovec lent
pub range_step : (self new : RegionState) (front ms rest : List ℕ) (list into : List (List ℕ)) → length front ≡ length list
    → can_take self.blocks ms ≡ true → new ≡ record self { blocks = without self.blocks ms } → into ≡ list ++ taken self.blocks ms
    → RangeStep self new front ms rest list into
range_step self new front ms rest list into same can after into_is =
    let after_blocks : new.blocks ≡ without self.blocks ms = ap (λ (m : RegionState). m.blocks) after in
    record {
      can =
          ap (λ (w : List (Option (List ℕ))). can_take w rest) after_blocks
          ∙ sym (can_take-append self.blocks ms rest ∙ ap (λ (b : Bool). b && can_take (without self.blocks ms) rest) can);
      parts =
          ap (λ (w : List (Option (List ℕ))). into ++ taken w rest) after_blocks
          ∙ ap (λ (w : List (List ℕ)). w ++ taken (without self.blocks ms) rest) into_is
          ∙ append_assoc list (taken self.blocks ms) (taken (without self.blocks ms) rest)
          ∙ ap (λ (w : List (List ℕ)). list ++ w) (sym (taken-append self.blocks ms rest));
      gone =
          ap (λ (m : RegionState). record m { blocks = without m.blocks rest }) after
          ∙ ap (λ (w : List (Option (List ℕ))). record self { blocks = w }) (sym (without-append self.blocks ms rest));
      back =
          ap (λ (m : RegionState). record m { blocks = returned m.blocks (front ++ ms) into }) after
          ∙ ap (λ (w : List (Option (List ℕ))). record self { blocks = w })
          (ap (returned (without self.blocks ms) (front ++ ms)) into_is
          ∙ returned-join (without self.blocks ms) front ms list (taken self.blocks ms) same
          ∙ ap (λ (w : List (Option (List ℕ))). returned w front list) (lends_back self.blocks ms can));
    }

pub cannot_range : (xs : List (Option (List ℕ))) (ms rest : List ℕ) → can_take xs ms ≡ false → can_take xs (ms ++ rest) ≡ false
cannot_range xs ms rest h = can_take-append xs ms rest ∙ ap (λ (b : Bool). b && can_take (without xs ms) rest) h

-- the blocks of one iovec given back
pub range_back : (self new : RegionState) (front ms : List ℕ) (all list last : List (List ℕ)) → length front ≡ length list → all ≡ list ++ last
    → new ≡ record self { blocks = returned self.blocks ms last }
    → record new { blocks = returned new.blocks front list } ≡ record self { blocks = returned self.blocks (front ++ ms) all }
range_back self new front ms all list last same is after =
    ap (λ (m : RegionState). record m { blocks = returned m.blocks front list }) after
    ∙ ap (λ (w : List (Option (List ℕ))). record self { blocks = w })
    (sym (returned-join self.blocks front ms list last same) ∙ ap (returned self.blocks (front ++ ms)) (sym is))

-- ==== the rule in words

starts_true : (start size : ℕ) (iov : Iov) → starts_block start size iov ≡ true → StartsBlock start size iov
starts_true start size iov h = (grind (arith, nat_tests), grind (arith, nat_tests), grind (arith, nat_tests))

true_starts : (start size : ℕ) (iov : Iov) → StartsBlock start size iov → starts_block start size iov ≡ true
true_starts start size iov h =
    let a = h.0 in
    let b = h.1 in
    let c = h.2 in
    grind (arith, nat_tests)

whole_true : (start size : ℕ) (iovs : List Iov) → are_whole start size iovs ≡ true → AreWhole start size iovs
whole_true start size [] h = tt
whole_true start size (iov ∷ []) h = starts_true start size iov h
whole_true start size (iov ∷ next ∷ iovs) h =
    let two = and_parts _ _ h in
    let one = and_parts _ _ two.0 in
    (starts_true start size iov one.0, multiple _ one.1, whole_true start size (next ∷ iovs) two.1)
  where
    multiple : (n : ℕ) → n == 0 ≡ true → n ≡ 0
    multiple n h = grind (arith, nat_tests)

true_whole : (start size : ℕ) (iovs : List Iov) → AreWhole start size iovs → are_whole start size iovs ≡ true
true_whole start size [] h = refl
true_whole start size (iov ∷ []) h = true_starts start size iov h
true_whole start size (iov ∷ next ∷ iovs) h =
    and_from _ _ (and_from _ _ (true_starts start size iov h.0) (is_zero _ h.1)) (true_whole start size (next ∷ iovs) h.2)
  where
    is_zero : (n : ℕ) → n ≡ 0 → n == 0 ≡ true
    is_zero n h = grind (arith, nat_tests)

-- what is at home once another place is empty
home_other : (xs : List (Option (List ℕ))) (n k : ℕ) → is_home (slice_get (set xs n None) k) ≡ true → (n ≢ k) × (is_home (slice_get xs k) ≡ true)
home_other [] n k h = cc
home_other (x ∷ xs) zero zero h = cc
home_other (x ∷ xs) zero (suc k) h = (λ (e : zero ≡ suc k). cc, h)
home_other (x ∷ xs) (suc n) zero h = (λ (e : suc n ≡ zero). cc, h)
home_other (x ∷ xs) (suc n) (suc k) h =
    let rest = home_other xs n k h in
    (λ (e : suc n ≡ suc k). rest.0 (omega (arith, e)), rest.1)

other_home : (xs : List (Option (List ℕ))) (n k : ℕ) → n ≢ k → is_home (slice_get xs k) ≡ true → is_home (slice_get (set xs n None) k) ≡ true
other_home [] n k away h = h
other_home (x ∷ xs) zero zero away h = absurd (away refl)
other_home (x ∷ xs) zero (suc k) away h = h
other_home (x ∷ xs) (suc n) zero away h = h
other_home (x ∷ xs) (suc n) (suc k) away h = other_home xs n k (λ (e : n ≡ k). away (ap suc e)) h

homes_other : (xs : List (Option (List ℕ))) (n : ℕ) (ns : List ℕ) → AreHome (set xs n None) ns → IsOther n ns × AreHome xs ns
homes_other xs n [] h = (tt, tt)
homes_other xs n (k ∷ ks) h =
    let one = home_other xs n k h.0 in
    let rest = homes_other xs n ks h.1 in
    ((one.0, rest.0), (one.1, rest.1))

other_homes : (xs : List (Option (List ℕ))) (n : ℕ) (ns : List ℕ) → IsOther n ns → AreHome xs ns → AreHome (set xs n None) ns
other_homes xs n [] o h = tt
other_homes xs n (k ∷ ks) o h = (other_home xs n k o.0 h.0, other_homes xs n ks o.1 h.1)

take_true : (xs : List (Option (List ℕ))) (ns : List ℕ) → can_take xs ns ≡ true → AreHome xs ns × AreOnce ns
take_true xs [] h = (tt, tt)
take_true xs (n ∷ ns) h =
    let two = and_parts _ _ h in
    let rest = take_true (set xs n None) ns two.1 in
    let others = homes_other xs n ns rest.0 in
    ((two.0, others.1), (others.0, rest.1))

true_take : (xs : List (Option (List ℕ))) (ns : List ℕ) → AreHome xs ns → AreOnce ns → can_take xs ns ≡ true
true_take xs [] h o = refl
true_take xs (n ∷ ns) h o = and_from _ _ h.0 (true_take (set xs n None) ns (other_homes xs n ns o.0 h.1) o.1)

pub lends_by_rule : (r : RegionState) (iovs : List Iov) → (can_lend r iovs ≡ true) ↔ CanLend r iovs
lends_by_rule r iovs = (
  λ h.
      let two = and_parts _ _ h in
      let takes = take_true r.blocks (named_by r iovs) two.1 in
      record { whole = whole_true (length r.front) (size_of r) iovs two.0; there = takes.0; once = takes.1 },
  λ h. and_from _ _ (true_whole (length r.front) (size_of r) iovs h.whole) (true_take r.blocks (named_by r iovs) h.there h.once),
)

-- ==== the tests of the iovecs' bounds, one by one

pub whole_not : (start size : ℕ) (iov : Iov) (iovs : List Iov) → starts_block start size iov ≡ false → are_whole start size (iov ∷ iovs) ≡ false
whole_not start size iov [] h = h
whole_not start size iov (next ∷ iovs) h = ap (λ (b : Bool). b && (iov.len % size == 0) && are_whole start size (next ∷ iovs)) h

pub whole_cut : (start size : ℕ) (iov : Iov) (iovs : List Iov) → 0 < length iovs → starts_block start size iov ≡ true → iov.len % size ≢ 0
    → are_whole start size (iov ∷ iovs) ≡ false
whole_cut start size iov [] some h away = absurd (omega (arith, some))
whole_cut start size iov (next ∷ iovs) some h away =
    ap (λ (b : Bool). b && (iov.len % size == 0) && are_whole start size (next ∷ iovs)) h
    ∙ ap (λ (b : Bool). b && are_whole start size (next ∷ iovs)) (not_zero (iov.len % size) away)
  where
    not_zero : (n : ℕ) → n ≢ 0 → n == 0 ≡ false
    not_zero n h = grind (arith, nat_tests)

pub whole_next : (start size : ℕ) (iov : Iov) (iovs : List Iov) → starts_block start size iov ≡ true → (0 < length iovs → iov.len % size ≡ 0)
    → are_whole start size (iov ∷ iovs) ≡ are_whole start size iovs
whole_next start size iov [] h even = h
whole_next start size iov (next ∷ iovs) h even =
    ap (λ (b : Bool). b && (iov.len % size == 0) && are_whole start size (next ∷ iovs)) h
    ∙ ap (λ (b : Bool). b && are_whole start size (next ∷ iovs)) (is_zero (iov.len % size) (even (some (length iovs))))
  where
    is_zero : (n : ℕ) → n ≡ 0 → n == 0 ≡ true
    is_zero n h = grind (arith, nat_tests)

    some : (n : ℕ) → 0 < suc n
    some n = omega arith

-- ==== one iovec more

split_last : (start size left : ℕ) (iovs : List Iov) (d : Iov) (f k : ℕ) → 0 < left → left ≤ length iovs
    → f ≡ first_block start size (get_or iovs (left - 1) d) → k ≡ block_count size (get_or iovs (left - 1) d)
    → numbers_of start size (take left iovs) ≡ numbers_of start size (take (left - 1) iovs) ++ range_with_len f k
split_last start size left iovs d f k some inside f_is k_is =
    ap (λ (n : ℕ). numbers_of start size (take n iovs)) (place left some)
    ∙ numbers-take start size iovs (left - 1) d (omega (arith, some, inside))
    ∙ ap (λ (n : ℕ). numbers_of start size (take (left - 1) iovs) ++ range_with_len n (block_count size (get_or iovs (left - 1) d))) (sym f_is)
    ∙ ap (λ (n : ℕ). numbers_of start size (take (left - 1) iovs) ++ range_with_len f n) (sym k_is)
  where
    place : (n : ℕ) → 0 < n → n ≡ n - 1 + 1
    place n h = omega (arith, h)

pub back_count : (start size left : ℕ) (iovs : List Iov) (d : Iov) (f k : ℕ) (parts : List (List ℕ)) → 0 < left → left ≤ length iovs
    → f ≡ first_block start size (get_or iovs (left - 1) d) → k ≡ block_count size (get_or iovs (left - 1) d)
    → length parts ≡ length (numbers_of start size (take left iovs)) → length parts ≡ length (numbers_of start size (take (left - 1) iovs)) + k
back_count start size left iovs d f k parts some inside f_is k_is count =
    count ∙ ap length (split_last start size left iovs d f k some inside f_is k_is)
    ∙ length-append (numbers_of start size (take (left - 1) iovs)) (range_with_len f k)
    ∙ ap (λ (n : ℕ). length (numbers_of start size (take (left - 1) iovs)) + n) (length-range_with_len f k)

pub back_iov_step : (self new : RegionState) (start size left : ℕ) (iovs : List Iov) (d : Iov) (f k : ℕ) (parts : List (List ℕ)) → 0 < left → left ≤ length iovs
    → f ≡ first_block start size (get_or iovs (left - 1) d) → k ≡ block_count size (get_or iovs (left - 1) d)
    → length parts ≡ length (numbers_of start size (take left iovs))
    → new ≡ record self { blocks = returned self.blocks (range_with_len f k) (drop (length parts - k) parts) }
    → record new { blocks = returned new.blocks (numbers_of start size (take (left - 1) iovs)) (take (length parts - k) parts) }
    ≡ record self { blocks = returned self.blocks (numbers_of start size (take left iovs)) parts }
back_iov_step self new start size left iovs d f k parts some inside f_is k_is count after =
    let whole : length parts ≡ length (numbers_of start size (take (left - 1) iovs)) + k = back_count start size left iovs d f k parts some inside f_is k_is count in
    range_back self new (numbers_of start size (take (left - 1) iovs)) (range_with_len f k) parts (take (length parts - k) parts) (drop (length parts - k) parts)
    (sym (length-take (length parts - k) parts ∙ omega (arith, whole))) (sym (take-append-drop (length parts - k) parts)) after
    ∙ ap (λ (ns : List ℕ). record self { blocks = returned self.blocks ns parts }) (sym (split_last start size left iovs d f k some inside f_is k_is))

pub split_first : (start size i : ℕ) (iovs : List Iov) (d : Iov) (f k : ℕ) → i < length iovs
    → f ≡ first_block start size (get_or iovs i d) → k ≡ block_count size (get_or iovs i d)
    → numbers_of start size (drop i iovs) ≡ range_with_len f k ++ numbers_of start size (drop (i + 1) iovs)
split_first start size i iovs d f k inside f_is k_is =
    numbers-drop start size iovs i d inside
    ∙ ap (λ (n : ℕ). range_with_len n (block_count size (get_or iovs i d)) ++ numbers_of start size (drop (i + 1) iovs)) (sym f_is)
    ∙ ap (λ (n : ℕ). range_with_len f n ++ numbers_of start size (drop (i + 1) iovs)) (sym k_is)

pub split_more : (start size i : ℕ) (iovs : List Iov) (d : Iov) (f k : ℕ) → i < length iovs
    → f ≡ first_block start size (get_or iovs i d) → k ≡ block_count size (get_or iovs i d)
    → numbers_of start size (take (i + 1) iovs) ≡ numbers_of start size (take i iovs) ++ range_with_len f k
split_more start size i iovs d f k inside f_is k_is =
    numbers-take start size iovs i d inside
    ∙ ap (λ (n : ℕ). numbers_of start size (take i iovs) ++ range_with_len n (block_count size (get_or iovs i d))) (sym f_is)
    ∙ ap (λ (n : ℕ). numbers_of start size (take i iovs) ++ range_with_len f n) (sym k_is)

pub first_room : (start size i : ℕ) (iovs : List Iov) (d : Iov) (f k : ℕ) → i < length iovs
    → f ≡ first_block start size (get_or iovs i d) → k ≡ block_count size (get_or iovs i d)
    → length (numbers_of start size (drop i iovs)) ≡ k + length (numbers_of start size (drop (i + 1) iovs))
first_room start size i iovs d f k inside f_is k_is =
    ap length (split_first start size i iovs d f k inside f_is k_is)
    ∙ length-append (range_with_len f k) (numbers_of start size (drop (i + 1) iovs))
    ∙ ap (λ (n : ℕ). n + length (numbers_of start size (drop (i + 1) iovs))) (length-range_with_len f k)

pub second_true : (a b : Bool) → a && b ≡ true → b ≡ true
second_true a b h = (and_parts a b h).1

-- ==== how many blocks are named

pub told_few : (n total most : ℕ) → total ≡ n → total ≤ most → ◌≡◌ {A = Option ℕ} (Some total) (if nat_le n most then Some n else None)
told_few n total most same less =
    let t : nat_le n most ≡ true = within n most (omega arith) in
    ap Some same ∙ ap (λ (b : Bool). if b then Some n else None) (sym t)
  where
    within : (a b : ℕ) → a ≤ b → nat_le a b ≡ true
    within a b h = grind (arith, nat_tests)

pub told_none : (n most : ℕ) → most < n → ◌≡◌ {A = Option ℕ} None (if nat_le n most then Some n else None)
told_none n most more =
    let t : nat_le n most ≡ false = not_within n most more in
    ap (λ (b : Bool). if b then Some n else None) (sym t)
  where
    not_within : (a b : ℕ) → b < a → nat_le a b ≡ false
    not_within a b h = grind (arith, nat_tests)
