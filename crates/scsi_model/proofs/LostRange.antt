-- What a range of lost bytes hides, and how it changes.
use Rattle.std.proofs.Common.{◌∙◌, ◌≡◌, ◌⊎◌, ℕ, ◌+◌, ◌-◌, ◌≤◌, ◌<◌, Bool, true, false, ◌&&◌, nat_lt, nat_le, min, max, List, length, sym, ap, subst, arith, Option, Some, None, inl, inr, IfSome, is_some, refl, ⊎_elim, slice_get, if◌then◌else◌, replicate}
use Rattle.std.specs.Option.{option_map, option_and_then}
use Rattle.std.proofs.lemmas.Bool.{cases_Bool, cases_lt}
use Rattle.std.proofs.lemmas.List.{length-replicate}
use Rattle.tcmu_types.specs.Overwriting.{overwritten}
use Rattle.tcmu_types.proofs.Places.{same_list}
use Rattle.tcmu_types.proofs.Overwriting.{within, get_overwritten, put_in, put_before, put_behind, length_overwritten, inside, before, behind}
use Rattle.tcmu_model.specs.MediumState.{Span}
use Rattle.scsi_model.specs.Medium.{blanked, narrowed, widened, span_of, empty_span}

-- the lost range behind a success and behind a failure over n bytes from a place on
abbrev pub kept_lost : Span → ℕ → ℕ → Span
kept_lost lost at n = narrowed lost (span_of at n)

abbrev pub more_lost : Span → ℕ → ℕ → Span
more_lost lost at n = widened lost (span_of at n)

-- a range within a list
pub record Lies (lost : Span) (n : ℕ) : Type 0 where
  pub ordered : lost.start ≤ lost.end
  pub ends : lost.end ≤ n

blanked_length : (lost : Span) → lost.start ≤ lost.end → lost.start + length (replicate {A = ℕ} (lost.end - lost.start) 0) ≡ lost.end
blanked_length lost h = ap (λ n. lost.start + n) (length-replicate {A = ℕ} (lost.end - lost.start) 0) ∙ omega (arith, h)

-- outside of the range the bytes are seen
pub seen : (lost : Span) (xs : List ℕ) → Lies lost (length xs) → (i : ℕ) → within lost.start lost.end i ≡ false → slice_get (blanked lost xs) i ≡ slice_get xs i
seen lost xs l i out =
    let z = replicate {A = ℕ} (lost.end - lost.start) 0 in
    let e = blanked_length lost l.ordered in
    let h : lost.start + length z ≤ length xs = rw e (l.ends) in
    let place = get_overwritten lost.start z xs h i in
    ⊎_elim (λ (b : i < lost.start). place ∙ put_before lost.start (length z) (slice_get z) (slice_get xs) i b)
    (λ (b : lost.start ≤ i). ⊎_elim
    (λ (c : i < lost.end). absurd (let t : true ≡ false = sym (inside lost.start lost.end i b c) ∙ out in cc))
    (λ (c : lost.end ≤ i). place ∙ put_behind lost.start (length z) (slice_get z) (slice_get xs) i (rw e c))
    (cases_lt i lost.end))
    (cases_lt i lost.start)

-- bytes that agree outside of the range are one where it is blanked
pub same_blanked : (lost : Span) (xs ys : List ℕ) → Lies lost (length xs) → length ys ≡ length xs
    → ((i : ℕ) → within lost.start lost.end i ≡ false → slice_get xs i ≡ slice_get ys i) → blanked lost xs ≡ blanked lost ys
same_blanked lost xs ys l n agree =
    let z = replicate {A = ℕ} (lost.end - lost.start) 0 in
    let e = blanked_length lost l.ordered in
    let h : lost.start + length z ≤ length xs = rw e (l.ends) in
    let k : lost.start + length z ≤ length ys = rw e (rw n (l.ends)) in
    same_list _ _ (λ i. ⊎_elim
    (λ (b : within lost.start lost.end i ≡ true).
    let low : lost.start ≤ i = grind (arith, b) in
    let high : i < lost.start + length z = rw e (grind (arith, b)) in
    get_overwritten lost.start z xs h i ∙ put_in lost.start (length z) (slice_get z) (slice_get xs) i low high
    ∙ sym (get_overwritten lost.start z ys k i ∙ put_in lost.start (length z) (slice_get z) (slice_get ys) i low high))
    (λ (b : within lost.start lost.end i ≡ false).
    seen lost xs l i b ∙ agree i b ∙ sym (seen lost ys (record { ordered = l.ordered; ends = rw n (l.ends) }) i b))
    (cases_Bool (within lost.start lost.end i)))

-- the range after a success: what it does not hide was not blanked before, or was just written
pub narrowed_seen : (lost : Span) (at n i : ℕ) → within (kept_lost lost at n).start (kept_lost lost at n).end i ≡ false
    → (within at (at + n) i ≡ true) ⊎ (within lost.start lost.end i ≡ false)
narrowed_seen lost at n i h =
    let covers = nat_le at lost.start && nat_le lost.end (at + n) in
    let F : Bool → Span = λ b. if b then empty_span else lost in
    ⊎_elim
    (λ (e : covers ≡ true). ⊎_elim
    (λ (b : within lost.start lost.end i ≡ true). inl (inside at (at + n) i (grind (arith, b, e)) (grind (arith, b, e))))
    (λ (b : within lost.start lost.end i ≡ false). inr b)
    (cases_Bool (within lost.start lost.end i)))
    (λ (e : covers ≡ false). inr (subst (λ b. within (F b).start (F b).end i ≡ false) e h))
    (cases_Bool covers)

-- a place that is not within a range
not_within : (start end i : ℕ) → (start ≤ i → i < end → ⊥) → within start end i ≡ false
not_within start end i never =
    ⊎_elim (λ (b : i < start). before start end i b)
    (λ (b : start ≤ i). ⊎_elim (λ (c : i < end). absurd (never b c)) (λ (c : end ≤ i). behind start end i c) (cases_lt i end))
    (cases_lt i start)

out_of : (start end i : ℕ) → within start end i ≡ false → start ≤ i → i < end → ⊥
out_of start end i h b c = let t : true ≡ false = sym (inside start end i b c) ∙ h in cc

pub widened_seen : (lost : Span) (at n i : ℕ) → within (more_lost lost at n).start (more_lost lost at n).end i ≡ false
    → (within at (at + n) i ≡ false) × (within lost.start lost.end i ≡ false)
widened_seen lost at n i h =
    let some = nat_lt lost.start lost.end in
    let F : Bool → Span = λ b. if b then record { start = min lost.start at; end = max lost.end (at + n) } else span_of at n in
    ⊎_elim
    (λ (e : some ≡ true).
    let k : within (min lost.start at) (max lost.end (at + n)) i ≡ false = subst (λ b. within (F b).start (F b).end i ≡ false) e h in
    let no = out_of (min lost.start at) (max lost.end (at + n)) i k in
    (not_within at (at + n) i (λ b c. no (omega (arith, b)) (omega (arith, c))), not_within lost.start lost.end i (λ b c. no (omega (arith, b)) (omega (arith, c)))))
    (λ (e : some ≡ false).
    let k : within at (at + n) i ≡ false = subst (λ b. within (F b).start (F b).end i ≡ false) e h in
    let empty : lost.end ≤ lost.start = grind (arith, e) in
    (k, not_within lost.start lost.end i (λ b c. omega (arith, b, c, empty))))
    (cases_Bool some)

pub lies_same : (lost : Span) (a b : ℕ) → b ≡ a → Lies lost a → Lies lost b
lies_same lost a b e l = subst (Lies lost) (sym e) l

pub lies_narrowed : (lost : Span) (at n m : ℕ) → Lies lost m → Lies (kept_lost lost at n) m
lies_narrowed lost at n m l =
    let covers = nat_le at lost.start && nat_le lost.end (at + n) in
    let F : Bool → Span = λ b. if b then empty_span else lost in
    let P : Bool → Type 0 = λ b. Lies (F b) m in
    ⊎_elim (λ (e : covers ≡ true). subst P (sym e) (record { ordered = omega arith; ends = omega arith })) (λ (e : covers ≡ false). subst P (sym e) l) (cases_Bool covers)

pub lies_widened : (lost : Span) (at n m : ℕ) → Lies lost m → at + n ≤ m → Lies (more_lost lost at n) m
lies_widened lost at n m l h =
    let some = nat_lt lost.start lost.end in
    let F : Bool → Span = λ b. if b then record { start = min lost.start at; end = max lost.end (at + n) } else span_of at n in
    let P : Bool → Type 0 = λ b. Lies (F b) m in
    ⊎_elim (λ (e : some ≡ true). subst P (sym e) (record { ordered = omega (arith, l.ordered); ends = omega (arith, l.ends, h) }))
    (λ (e : some ≡ false). subst P (sym e) (record { ordered = omega arith; ends = h })) (cases_Bool some)

-- what a write leaves, over bytes of which a range is blanked
pub put_blanked : (at n : ℕ) (lost : Span) (piece : List ℕ) (old new : Option (List ℕ)) → IfSome old (λ xs. length xs ≡ n) → Lies lost n → at + length piece ≤ n
    → new ≡ option_map (overwritten at piece) old
    → option_map (blanked (kept_lost lost at (length piece))) new ≡ option_map (λ xs. blanked (kept_lost lost at (length piece)) (overwritten at piece xs)) (option_map (blanked lost) old)
put_blanked at n lost piece None new long l fits p = ap (option_map (blanked (kept_lost lost at (length piece)))) p
put_blanked at n lost piece (Some xs) new long l fits p =
    let after = kept_lost lost at (length piece) in
    let lx : Lies lost (length xs) = lies_same lost n (length xs) long l in
    let fx : at + length piece ≤ length xs = rw long fits in
    let z = replicate {A = ℕ} (lost.end - lost.start) 0 in
    let hl : length (blanked lost xs) ≡ length xs = length_overwritten lost.start z xs (rw (blanked_length lost l.ordered) lx.ends) in
    let fh : at + length piece ≤ length (blanked lost xs) = rw hl fx in
    let ly : length (overwritten at piece xs) ≡ length xs = length_overwritten at piece xs fx in
    let lz : length (overwritten at piece (blanked lost xs)) ≡ length (overwritten at piece xs) = length_overwritten at piece (blanked lost xs) fh ∙ hl ∙ sym ly in
    let agree : (i : ℕ) → within after.start after.end i ≡ false → slice_get (overwritten at piece xs) i ≡ slice_get (overwritten at piece (blanked lost xs)) i =
    λ i out. get_overwritten at piece xs fx i
    ∙ ⊎_elim
    (λ (b : within at (at + length piece) i ≡ true).
    let low : at ≤ i = grind (arith, b) in
    let high : i < at + length piece = grind (arith, b) in
    put_in at (length piece) (slice_get piece) (slice_get xs) i low high ∙ sym (put_in at (length piece) (slice_get piece) (slice_get (blanked lost xs)) i low high))
    (λ (b : within lost.start lost.end i ≡ false).
    ap (λ (o : Option ℕ). if within at (at + length piece) i then slice_get piece (i - at) else o) (sym (seen lost xs lx i b)))
    (narrowed_seen lost at (length piece) i out)
    ∙ sym (get_overwritten at piece (blanked lost xs) fh i) in
    ap (option_map (blanked after)) p
    ∙ ap (λ (ys : List ℕ). Some ys) (same_blanked after _ _ (lies_same after n _ (ly ∙ long) (lies_narrowed lost at (length piece) n l)) lz agree)

-- bytes that are as they were, but for n from a place on
pub record SameOutside (at n : ℕ) (old new : Option (List ℕ)) : Type 0 where
  pub same : (i : ℕ) → within at (at + n) i ≡ false → option_and_then (λ xs. slice_get xs i) new ≡ option_and_then (λ xs. slice_get xs i) old
  pub long : (k : ℕ) → IfSome old (λ xs. length xs ≡ k) → IfSome new (λ xs. length xs ≡ k)
  pub told : is_some new ≡ is_some old

pub spoil_blanked : (at k n : ℕ) (lost : Span) (old new : Option (List ℕ)) → IfSome old (λ xs. length xs ≡ n) → Lies lost n → at + k ≤ n
    → SameOutside at k old new
    → option_map (blanked (more_lost lost at k)) new ≡ option_map (λ xs. blanked (more_lost lost at k) xs) (option_map (blanked lost) old)
spoil_blanked at k n lost None None long l fits s = refl
spoil_blanked at k n lost None (Some ys) long l fits s = absurd (let t : true ≡ false = s.told in cc)
spoil_blanked at k n lost (Some xs) None long l fits s = absurd (let t : false ≡ true = s.told in cc)
spoil_blanked at k n lost (Some xs) (Some ys) long l fits s =
    let after = more_lost lost at k in
    let lx : Lies lost (length xs) = lies_same lost n (length xs) long l in
    let z = replicate {A = ℕ} (lost.end - lost.start) 0 in
    let hl : length (blanked lost xs) ≡ length xs = length_overwritten lost.start z xs (rw (blanked_length lost l.ordered) lx.ends) in
    let ly : length ys ≡ n = s.long n long in
    let agree : (i : ℕ) → within after.start after.end i ≡ false → slice_get ys i ≡ slice_get (blanked lost xs) i =
    λ i out. let both = widened_seen lost at k i out in s.same i both.0 ∙ sym (seen lost xs lx i both.1) in
    ap (λ (zs : List ℕ). Some zs) (same_blanked after _ _ (lies_same after n _ ly (lies_widened lost at k n l fits)) (hl ∙ long ∙ sym ly) agree)
