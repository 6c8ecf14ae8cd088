-- What the store of a file holds behind calls of the medium over it.
use Rattle.std.proofs.Common.{◌∙◌, ◌≡◌, inl, inr, ℕ, zero, suc, ◌+◌, ◌-◌, ◌*◌, ◌/◌, ◌%◌, ◌≤◌, Bool, true, false, ◌||◌, nat_lt, nat_le, List, [], ◌∷◌, ◌++◌, length, take, drop, sym, ap, subst, refl, arith, Option, Some, None, IfSome, is_some, slice_get, if◌then◌else◌, ⊎_elim, append-nil, add-zero, replicate}
use Rattle.std.specs.Bool.{MatchBool}
use Rattle.std.specs.Option.{option_map}
use Rattle.std.proofs.lemmas.Bool.{cases_Bool}
use Rattle.std.proofs.lemmas.List.{length-append, take-append-drop, length-replicate}
use Rattle.tcmu_types.specs.Numbers.{is_among}
use Rattle.tcmu_types.specs.Numbered.{one_more, next_call}
use Rattle.tcmu_types.specs.Overwriting.{overwritten}
use Rattle.tcmu_types.proofs.Overwriting.{within, get_overwritten, length_overwritten, overwritten_more}
use Rattle.tcmu_model.specs.MediumState.{Span, Layer, file, Base, Below, MediumState}
use Rattle.scsi_model.specs.Calls.{Call}
use Rattle.scsi_model.specs.Base.{stored, spoiled, AsksStore, SyncsStore, WritesStore, FillsStore}
use Rattle.scsi_model.specs.Medium.{lies_in, blanked, repeated, with_piece, with_lost, OnStore, ReadsBelow, WritesBelow, FillsBelow, SyncsBelow, MakesCall, counted}
use Rattle.scsi_model.specs.Runs.{MediumCall, read, write, fill, sync, LiesWithin, CallMakes, MadeCall, Runs, touches, SameAt, ShowsFile, RunsShowFile, RunsLeave}
use Rattle.scsi_model.proofs.Cleared.{among_with, among_without, block_inside, block_outside}
use Rattle.scsi_model.proofs.LostRange.{Lies, SameOutside, kept_lost, more_lost, narrowed_seen, widened_seen, lies_narrowed, lies_widened, put_blanked, spoil_blanked}

-- ==== one write of a store

-- the piece was put, and its blocks are free no more
pub record Put (at : ℕ) (piece : List ℕ) (s t : Base) : Type 0 where
  pub bytes : t.bytes ≡ option_map (overwritten at piece) s.bytes
  pub size : t.size ≡ s.size
  pub inside : (i : ℕ) → within at (at + length piece) i ≡ true → is_among t.free (i / 512) ≡ false
  pub outside : (i : ℕ) → within at (at + length piece) i ≡ false → is_among t.free (i / 512) ≡ is_among s.free (i / 512)

-- nothing changed but in n bytes from a place on
pub record Only (at n : ℕ) (s t : Base) : Type 0 where
  pub bytes : SameOutside at n s.bytes t.bytes
  pub size : t.size ≡ s.size
  pub free : (i : ℕ) → within at (at + n) i ≡ false → is_among t.free (i / 512) ≡ is_among s.free (i / 512)

told_map : (f : List ℕ → List ℕ) (o : Option (List ℕ)) → is_some (option_map f o) ≡ is_some o
told_map f None = refl
told_map f (Some xs) = refl

pub overwritten_outside : (at : ℕ) (piece : List ℕ) (old : Option (List ℕ)) → IfSome old (λ xs. at + length piece ≤ length xs)
    → SameOutside at (length piece) old (option_map (overwritten at piece) old)
overwritten_outside at piece None fits = record { same = λ i out. refl; long = λ k l. tt; told = refl }
overwritten_outside at piece (Some xs) fits = record {
  same = λ i out. get_overwritten at piece xs fits i ∙ ap (λ t. if t then slice_get piece (i - at) else slice_get xs i) out;
  long = λ k l. length_overwritten at piece xs fits ∙ l;
  told = refl;
}

stored_put : (at : ℕ) (piece : List ℕ) (s : Base) → at % 512 ≡ 0 → length piece % 512 ≡ 0 → Put at piece s (stored at piece s)
stored_put at piece s a b = record {
  bytes = refl;
  size = refl;
  inside = λ i e.
      let f = at / 512 in
      let m = length piece / 512 in
      let here = block_inside at (length piece) i a b e in
      let no : (nat_lt (i / 512) f || nat_le (f + m) (i / 512)) ≡ false = grind (arith, here) in
      among_without f m (i / 512) s.free ∙ rw no refl;
  outside = λ i e.
      let f = at / 512 in
      let m = length piece / 512 in
      let there = block_outside at (length piece) i a b e in
      let yes : (nat_lt (i / 512) f || nat_le (f + m) (i / 512)) ≡ true = grind (arith, there) in
      among_without f m (i / 512) s.free ∙ rw yes refl;
}

spoiled_only : (at n : ℕ) (s : Base) → at % 512 ≡ 0 → n % 512 ≡ 0 → IfSome s.bytes (λ xs. at + n ≤ length xs) → Only at n s (spoiled at n s)
spoiled_only at n s a b fits = record {
  bytes = subst (λ k. SameOutside at k s.bytes (option_map (overwritten at (replicate {A = ℕ} n 0)) s.bytes)) z
      (overwritten_outside at (replicate {A = ℕ} n 0) s.bytes (rw z fits));
  size = refl;
  free = λ i e. among_with (at / 512) (n / 512) (i / 512) s.free ∙ rw (block_outside at n i a b e) refl;
}
  where
    z : length (replicate {A = ℕ} n 0) ≡ n
    z = length-replicate {A = ℕ} n 0

put_only : (at : ℕ) (piece : List ℕ) (s t : Base) → IfSome s.bytes (λ xs. at + length piece ≤ length xs) → Put at piece s t → Only at (length piece) s t
put_only at piece s t fits p = record {
  bytes = rw p.bytes (overwritten_outside at piece s.bytes fits);
  size = p.size;
  free = p.outside;
}

only_none : (at n : ℕ) (s : Base) → Only at n s s
only_none at n s = record { bytes = record { same = λ i out. refl; long = λ k l. l; told = refl }; size = refl; free = λ i out. refl }

-- one range behind another in the same
only_then : (at n : ℕ) (s t u : Base) → Only at n s t → Only at n t u → Only at n s u
only_then at n s t u x y = record {
  bytes = record {
    same = λ i out. y.bytes.same i out ∙ x.bytes.same i out;
    long = λ k l. y.bytes.long k (x.bytes.long k l);
    told = y.bytes.told ∙ x.bytes.told;
  };
  size = y.size ∙ x.size;
  free = λ i out. y.free i out ∙ x.free i out;
}

-- in a wider range
only_wider : (at n at' n' : ℕ) (s t : Base) → at' ≤ at → at + n ≤ at' + n' → Only at n s t → Only at' n' s t
only_wider at n at' n' s t low high x = record {
  bytes = record { same = λ i out. x.bytes.same i (narrow i out); long = x.bytes.long; told = x.bytes.told };
  size = x.size;
  free = λ i out. x.free i (narrow i out);
}
  where
    narrow : (i : ℕ) → within at' (at' + n') i ≡ false → within at (at + n) i ≡ false
    narrow i out = ⊎_elim
        (λ (e : within at (at + n) i ≡ true). absurd (let t : within at' (at' + n') i ≡ true = grind (arith, e, low, high) in let f : true ≡ false = sym t ∙ out in cc))
        (λ (e : within at (at + n) i ≡ false). e)
        (cases_Bool (within at (at + n) i))

-- a write, as its call came out
pub writes_put : (at : ℕ) (piece : List ℕ) (s t : Base) → at % 512 ≡ 0 → length piece % 512 ≡ 0 → WritesStore at piece s false t → Put at piece s t
writes_put at piece s t a b w =
    let p = stored_put at piece (record s { calls = one_more s.calls }) a b in
    let made : t ≡ stored at piece (record s { calls = one_more s.calls }) = w.2 ∙ ap (stored at piece) w.1.1 in
    rw made (record { bytes = refl; size = refl; inside = p.inside; outside = p.outside })

pub writes_only : (at : ℕ) (piece : List ℕ) (s t : Base) (f : Bool) → at % 512 ≡ 0 → length piece % 512 ≡ 0 → IfSome s.bytes (λ xs. at + length piece ≤ length xs)
    → WritesStore at piece s f t → Only at (length piece) s t
writes_only at piece s t true a b fits w =
    let p = spoiled_only at (length piece) (record s { calls = one_more s.calls }) a b fits in
    let made : t ≡ spoiled at (length piece) (record s { calls = one_more s.calls }) = w.2 ∙ ap (spoiled at (length piece)) w.1.1 in
    rw made (record { bytes = p.bytes; size = refl; free = p.free })
writes_only at piece s t false a b fits w = put_only at piece s t fits (writes_put at piece s t a b w)

-- ==== a fill of a store

length_repeated : (n : ℕ) (block : List ℕ) → length block ≡ 512 → length (repeated n block) ≡ 512 * n
length_repeated zero block l = refl
length_repeated (suc n) block l = length-append block (repeated n block) ∙ omega (arith, l, length_repeated n block l)

fits_after : (at k n : ℕ) (o p : Option (List ℕ)) → k ≤ n → IfSome o (λ xs. at + n ≤ length xs) → ((m : ℕ) → IfSome o (λ xs. length xs ≡ m) → IfSome p (λ xs. length xs ≡ m)) → is_some p ≡ is_some o
    → IfSome p (λ xs. at + n ≤ length xs)
fits_after at k n None None less fits long told = tt
fits_after at k n None (Some ys) less fits long told = absurd (let t : true ≡ false = told in cc)
fits_after at k n (Some xs) None less fits long told = tt
fits_after at k n (Some xs) (Some ys) less fits long told = let e : length ys ≡ length xs = long (length xs) refl in rw e fits

fewer : (at n m : ℕ) (o : Option (List ℕ)) → n ≤ m → IfSome o (λ xs. at + m ≤ length xs) → IfSome o (λ xs. at + n ≤ length xs)
fewer at n m None less fits = tt
fewer at n m (Some xs) less fits = omega (arith, less, fits)

from_next : (at n : ℕ) (o : Option (List ℕ)) → IfSome o (λ xs. at + 512 * suc n ≤ length xs) → IfSome o (λ xs. at + 512 + 512 * n ≤ length xs)
from_next at n None fits = tt
from_next at n (Some xs) fits = omega (arith, fits)

next_block : (at : ℕ) → at % 512 ≡ 0 → (at + 512) % 512 ≡ 0
next_block at a = omega (arith, a)

pub fills_only : (at : ℕ) (block : List ℕ) (n : ℕ) (s t : Base) (f : Bool) → at % 512 ≡ 0 → length block ≡ 512 → IfSome s.bytes (λ xs. at + 512 * n ≤ length xs)
    → FillsStore at block n s f t → Only at (512 * n) s t
fills_only at block zero s t f a l fits w = rw w.1 (only_none at (512 * 0) s)
fills_only at block (suc n) s t f a l fits w =
    let whole : length block % 512 ≡ 0 = omega (arith, l) in
    let one : IfSome s.bytes (λ xs. at + length block ≤ length xs) = rw l (fewer at 512 (512 * suc n) s.bytes (omega arith) fits) in
    let first : Only at (length block) s w.1 = writes_only at block s w.1 w.0 a whole one w.2 in
    let here : Only at (512 * suc n) s w.1 = only_wider at (length block) at (512 * suc n) s w.1 (omega arith) (omega (arith, l)) first in
    let left : IfSome (w.1).bytes (λ xs. at + 512 * suc n ≤ length xs) = fits_after at 0 (512 * suc n) s.bytes (w.1).bytes (omega arith) fits here.bytes.long here.bytes.told in
    by w.0 w.1 here left w.3 (λ k g more. fills_only (at + 512) block n k t f (next_block at a) l g more)
  where
    by : (broke : Bool) (k : Base) → Only at (512 * suc n) s k → IfSome k.bytes (λ xs. at + 512 * suc n ≤ length xs)
        → MatchBool broke ((f ≡ true) × (t ≡ k)) (FillsStore (at + 512) block n k f t)
        → ((k : Base) → IfSome k.bytes (λ xs. at + 512 + 512 * n ≤ length xs) → FillsStore (at + 512) block n k f t → Only (at + 512) (512 * n) k t) → Only at (512 * suc n) s t
    by true k here left more others = rw more.1 here
    by false k here left more others =
        only_then at (512 * suc n) s k t here
        (only_wider (at + 512) (512 * n) at (512 * suc n) k t (omega arith) (omega arith) (others k (from_next at n k.bytes left) more))

put_none : (at : ℕ) (s : Base) → Put at [] s s
put_none at s = record { bytes = by s.bytes; size = refl; inside = λ i e. absurd (let t : true ≡ false = sym e ∙ grind arith in cc); outside = λ i e. refl }
  where
    by : (o : Option (List ℕ)) → o ≡ option_map (overwritten at []) o
    by None = refl
    by (Some xs) = ap (λ (ys : List ℕ). Some ys) (sym (ap (λ (ys : List ℕ). ys ++ drop (at + 0) xs) (append-nil (take at xs)) ∙ ap (λ n. take at xs ++ drop n xs) (add-zero at) ∙ take-append-drop at xs))

put_more : (at : ℕ) (block rest : List ℕ) (s t u : Base) → length block ≡ 512 → IfSome s.bytes (λ xs. at + (512 + length rest) ≤ length xs)
    → Put at block s t → Put (at + 512) rest t u → Put at (block ++ rest) s u
put_more at block rest s t u l fits x y = record {
  bytes = y.bytes ∙ ap (option_map (overwritten (at + 512) rest)) x.bytes ∙ by s.bytes fits;
  size = y.size ∙ x.size;
  inside = λ i e. ⊎_elim
      (λ (b : within (at + 512) (at + 512 + length rest) i ≡ true). y.inside i b)
      (λ (b : within (at + 512) (at + 512 + length rest) i ≡ false).
      y.outside i b ∙ x.inside i (rw l (let k : within at (at + (512 + length rest)) i ≡ true = subst (λ m. within at (at + m) i ≡ true) both e in grind (arith, k, b))))
      (cases_Bool (within (at + 512) (at + 512 + length rest) i));
  outside = λ i e.
      let k : within at (at + (512 + length rest)) i ≡ false = subst (λ m. within at (at + m) i ≡ false) both e in
      y.outside i (no_rest i k) ∙ x.outside i (rw l (no_block i k));
}
  where
    both : length (block ++ rest) ≡ 512 + length rest
    both = length-append block rest ∙ ap (λ n. n + length rest) l

    no_rest : (i : ℕ) → within at (at + (512 + length rest)) i ≡ false → within (at + 512) (at + 512 + length rest) i ≡ false
    no_rest i k = grind (arith, k)

    no_block : (i : ℕ) → within at (at + (512 + length rest)) i ≡ false → within at (at + 512) i ≡ false
    no_block i k = grind (arith, k)

    by : (o : Option (List ℕ)) → IfSome o (λ xs. at + (512 + length rest) ≤ length xs)
        → option_map (overwritten (at + 512) rest) (option_map (overwritten at block) o) ≡ option_map (overwritten at (block ++ rest)) o
    by None fits = refl
    by (Some xs) fits =
        ap (λ (ys : List ℕ). Some ys)
        (ap (λ n. overwritten (at + n) rest (overwritten at block xs)) (sym l) ∙ overwritten_more at block rest xs (omega (arith, l, fits)))

pub fills_put : (at : ℕ) (block : List ℕ) (n : ℕ) (s t : Base) → at % 512 ≡ 0 → length block ≡ 512 → IfSome s.bytes (λ xs. at + 512 * n ≤ length xs)
    → FillsStore at block n s false t → Put at (repeated n block) s t
fills_put at block zero s t a l fits w = rw w.1 (put_none at s)
fills_put at block (suc n) s t a l fits w =
    let whole : length block % 512 ≡ 0 = omega (arith, l) in
    let r : length (repeated n block) ≡ 512 * n = length_repeated n block l in
    by w.0 w.1 whole r w.2 w.3 (λ k g more. fills_put (at + 512) block n k t (next_block at a) l g more)
  where
    by : (broke : Bool) (k : Base) → length block % 512 ≡ 0 → length (repeated n block) ≡ 512 * n → WritesStore at block s broke k
        → MatchBool broke ((false ≡ true) × (t ≡ k)) (FillsStore (at + 512) block n k false t)
        → ((k : Base) → IfSome k.bytes (λ xs. at + 512 + 512 * n ≤ length xs) → FillsStore (at + 512) block n k false t → Put (at + 512) (repeated n block) k t)
        → Put at (repeated (suc n) block) s t
    by true k whole r x more others = absurd (let e : false ≡ true = more.0 in cc)
    by false k whole r x more others =
        let first = writes_put at block s k a whole x in
        let one : IfSome s.bytes (λ xs. at + length block ≤ length xs) = rw l (fewer at 512 (512 * suc n) s.bytes (omega arith) fits) in
        let here = put_only at block s k one first in
        let left : IfSome k.bytes (λ xs. at + 512 * suc n ≤ length xs) = fits_after at 0 (512 * suc n) s.bytes k.bytes (omega arith) fits here.bytes.long here.bytes.told in
        put_more at block (repeated n block) s k t l (rw r (subst (λ m. IfSome s.bytes (λ xs. at + m ≤ length xs)) (omega arith) fits)) first
        (others k (from_next at n k.bytes left) more)

-- ==== a medium over a file

lies_of : (m : MediumState) → ShowsFile m → Lies m.below.lost m.below.store.size
lies_of m s = record { ordered = s.ordered; ends = s.inside }

pub fits_in : (n k : ℕ) (o : Option (List ℕ)) → IfSome o (λ xs. length xs ≡ n) → k ≤ n → IfSome o (λ xs. k ≤ length xs)
fits_in n k None long h = tt
fits_in n k (Some xs) long h = rw long h

-- a place that a range hides or not
seen_or : (lost : Span) (i : ℕ) → (lies_in lost i ≡ false → ⊥) → lies_in lost i ≡ true
seen_or lost i never = ⊎_elim (λ (e : lies_in lost i ≡ true). e) (λ (e : lies_in lost i ≡ false). absurd (never e)) (cases_Bool (lies_in lost i))

contradicts : {X : Type 0} (b : Bool) → b ≡ true → b ≡ false → X
contradicts b t f = absurd (let e : true ≡ false = sym t ∙ f in cc)

-- behind a success
shows_put : (at : ℕ) (piece : List ℕ) (m : MediumState) (t : Base) → at + length piece ≤ m.below.store.size → ShowsFile m → Put at piece m.below.store t
    → ShowsFile (record (counted m) { below = with_piece at piece (record m.below { store = t }) })
shows_put at piece m t fits s p =
    let b = m.below in
    let l = lies_of m s in
    let after = kept_lost b.lost at (length piece) in
    let only = put_only at piece b.store t (fits_in b.store.size (at + length piece) b.store.bytes s.long fits) p in
    let lies = lies_narrowed b.lost at (length piece) b.store.size l in
    record {
      layer = s.layer;
      size = p.size ∙ s.size;
      long = rw p.size (only.bytes.long b.store.size s.long);
      ordered = lies.ordered;
      inside = rw p.size (lies.ends);
      bytes = ap (option_map (λ (xs : List ℕ). blanked after (overwritten at piece xs))) s.bytes
          ∙ sym (put_blanked at b.store.size b.lost piece b.store.bytes t.bytes s.long l fits p.bytes);
      free = λ i e. seen_or after i (λ out. ⊎_elim
          (λ (h : within at (at + length piece) i ≡ true). contradicts (is_among t.free (i / 512)) e (p.inside i h))
          (λ (h : within b.lost.start b.lost.end i ≡ false).
          ⊎_elim
          (λ (k : within at (at + length piece) i ≡ true). contradicts (is_among t.free (i / 512)) e (p.inside i k))
          (λ (k : within at (at + length piece) i ≡ false). contradicts (lies_in b.lost i) (s.free i (sym (p.outside i k) ∙ e)) h)
          (cases_Bool (within at (at + length piece) i)))
          (narrowed_seen b.lost at (length piece) i out));
    }

-- behind a failure
shows_lost : (at n : ℕ) (m : MediumState) (t : Base) → at + n ≤ m.below.store.size → ShowsFile m → Only at n m.below.store t
    → ShowsFile (record (counted m) { below = with_lost at n (record m.below { store = t }) })
shows_lost at n m t fits s o =
    let b = m.below in
    let l = lies_of m s in
    let after = more_lost b.lost at n in
    let lies = lies_widened b.lost at n b.store.size l fits in
    record {
      layer = s.layer;
      size = o.size ∙ s.size;
      long = rw o.size (o.bytes.long b.store.size s.long);
      ordered = lies.ordered;
      inside = rw o.size (lies.ends);
      bytes = ap (option_map (λ (xs : List ℕ). blanked after xs)) s.bytes
          ∙ sym (spoil_blanked at n b.store.size b.lost b.store.bytes t.bytes s.long l fits o.bytes);
      free = λ i e. seen_or after i (λ out.
          let both = widened_seen b.lost at n i out in
          contradicts (lies_in b.lost i) (s.free i (sym (o.free i both.0) ∙ e)) both.1);
    }

-- behind a call that changes no byte
shows_asked : (m : MediumState) → ShowsFile m → ShowsFile (record (counted m) { below = record m.below { store = record m.below.store { calls = one_more m.below.store.calls } } })
shows_asked m s = record { layer = s.layer; size = s.size; long = s.long; ordered = s.ordered; inside = s.inside; bytes = s.bytes; free = s.free }

shows_synced : (m : MediumState) → ShowsFile m
    → ShowsFile (record (counted m) { below = record m.below { store = record m.below.store { calls = one_more m.below.store.calls; syncs = next_call m.below.store.syncs } } })
shows_synced m s = record { layer = s.layer; size = s.size; long = s.long; ordered = s.ordered; inside = s.inside; bytes = s.bytes; free = s.free }

shows_counted : (m : MediumState) → ShowsFile m → ShowsFile (counted m)
shows_counted m s = record { layer = s.layer; size = s.size; long = s.long; ordered = s.ordered; inside = s.inside; bytes = s.bytes; free = s.free }

asks_shows : (m : MediumState) (f : Bool) (a : Below) → ShowsFile m → OnStore AsksStore m.below f a → ShowsFile (record (counted m) { below = a })
asks_shows m f a s x =
    let e : a ≡ record m.below { store = record m.below.store { calls = one_more m.below.store.calls } } = x.2 ∙ ap (λ (t : Base). record m.below { store = t }) x.1.1 in
    rw e (shows_asked m s)

syncs_shows : (m : MediumState) (f : Bool) (a : Below) → ShowsFile m → OnStore SyncsStore m.below f a → ShowsFile (record (counted m) { below = a })
syncs_shows m f a s x =
    let e : a ≡ record m.below { store = record m.below.store { calls = one_more m.below.store.calls; syncs = next_call m.below.store.syncs } } =
    x.2 ∙ ap (λ (t : Base). record m.below { store = t }) x.1.1 in
    rw e (shows_synced m s)

writes_shows : (at : ℕ) (piece : List ℕ) (m : MediumState) (f : Bool) (a : Below) → LiesWithin m.blocks (write at piece) → ShowsFile m
    → WritesBelow file at piece m.below f a → ShowsFile (record (counted m) { below = a })
writes_shows at piece m f a w s x =
    let fits : at + length piece ≤ m.below.store.size = rw s.size w.0 in
    let told = fits_in m.below.store.size (at + length piece) m.below.store.bytes s.long fits in
    by f x.0 x.1 x.2 fits told
  where
    by : (f : Bool) (k : Below) → OnStore (WritesStore at piece) m.below f k → a ≡ (if f then with_lost at (length piece) k else with_piece at piece k)
        → at + length piece ≤ m.below.store.size → IfSome m.below.store.bytes (λ xs. at + length piece ≤ length xs) → ShowsFile (record (counted m) { below = a })
    by true k o e fits told =
        rw (e ∙ ap (with_lost at (length piece)) o.2) (shows_lost at (length piece) m o.0 fits s (writes_only at piece m.below.store o.0 true w.1 w.2 told o.1))
    by false k o e fits told =
        rw (e ∙ ap (with_piece at piece) o.2) (shows_put at piece m o.0 fits s (writes_put at piece m.below.store o.0 w.1 w.2 o.1))

fills_shows : (at : ℕ) (block : List ℕ) (count : ℕ) (m : MediumState) (f : Bool) (a : Below) → LiesWithin m.blocks (fill at block count) → ShowsFile m
    → FillsBelow file at block count m.below f a → ShowsFile (record (counted m) { below = a })
fills_shows at block count m f a w s x =
    let fits : at + 512 * count ≤ m.below.store.size = rw s.size w.0 in
    let told = fits_in m.below.store.size (at + 512 * count) m.below.store.bytes s.long fits in
    by f x.0 x.1 x.2 fits told
  where
    by : (f : Bool) (k : Below) → OnStore (FillsStore at block count) m.below f k → a ≡ (if f then with_lost at (512 * count) k else with_piece at (repeated count block) k)
        → at + 512 * count ≤ m.below.store.size → IfSome m.below.store.bytes (λ xs. at + 512 * count ≤ length xs) → ShowsFile (record (counted m) { below = a })
    by true k o e fits told =
        rw (e ∙ ap (with_lost at (512 * count)) o.2) (shows_lost at (512 * count) m o.0 fits s (fills_only at block count m.below.store o.0 true w.1 w.2 told o.1))
    by false k o e fits told =
        let n : length (repeated count block) ≡ 512 * count = length_repeated count block w.2 in
        rw (e ∙ ap (with_piece at (repeated count block)) o.2)
        (shows_put at (repeated count block) m o.0 (rw n fits) s (fills_put at block count m.below.store o.0 w.1 w.2 told o.1))

-- ==== one call

made_shows : (C : Layer → Call Below) (m : MediumState) (f : Bool) (a : MediumState) → ShowsFile m
    → ((b : Below) → C file m.below f b → ShowsFile (record (counted m) { below = b })) → MakesCall (C m.below.layer) m f a → ShowsFile a
made_shows C m f a s below (inl x) = rw x.2 (shows_counted m s)
made_shows C m f a s below (inr x) = rw x.3 (below x.1 (subst (λ (l : Layer). C l m.below f x.1) s.layer x.2))

call_shows : (c : MediumCall) (m : MediumState) (f : Bool) (a : MediumState) → LiesWithin m.blocks c → CallMakes c m f a → ShowsFile m → ShowsFile a
call_shows (read at out) m f a w x s = made_shows ReadsBelow m f a s (λ b. asks_shows m f b s) x.made
call_shows (write at piece) m f a w x s = made_shows (λ l. WritesBelow l at piece) m f a s (λ b. writes_shows at piece m f b w s) x
call_shows (fill at block count) m f a w x s = made_shows (λ l. FillsBelow l at block count) m f a s (λ b. fills_shows at block count m f b w s) x
call_shows sync m f a w x s = made_shows SyncsBelow m f a s (λ b. syncs_shows m f b s) x

same_at : (i : ℕ) (s : Base) → SameAt i s s
same_at i s = record { byte = refl; free = refl }

only_at : (at n i : ℕ) (s t : Base) → within at (at + n) i ≡ false → Only at n s t → SameAt i s t
only_at at n i s t out o = record { byte = o.bytes.same i out; free = o.free i out }

-- the store of what is left below, by how the call came out
left_store : (at n : ℕ) (piece : List ℕ) (f : Bool) (k : Below) → (if f then with_lost at n k else with_piece at piece k).store ≡ k.store
left_store at n piece true k = refl
left_store at n piece false k = refl

asks_at : (i : ℕ) (b : Below) (f : Bool) (a : Below) → OnStore AsksStore b f a → SameAt i b.store a.store
asks_at i b f a x =
    let e : a.store ≡ record b.store { calls = one_more b.store.calls } = ap (λ (k : Below). k.store) x.2 ∙ x.1.1 in
    rw e (record { byte = refl; free = refl })

syncs_at : (i : ℕ) (b : Below) (f : Bool) (a : Below) → OnStore SyncsStore b f a → SameAt i b.store a.store
syncs_at i b f a x =
    let e : a.store ≡ record b.store { calls = one_more b.store.calls; syncs = next_call b.store.syncs } = ap (λ (k : Below). k.store) x.2 ∙ x.1.1 in
    rw e (record { byte = refl; free = refl })

made_at : (i : ℕ) (C : Layer → Call Below) (m : MediumState) (f : Bool) (a : MediumState) → ShowsFile m
    → ((b : Below) → C file m.below f b → SameAt i m.below.store b.store) → MakesCall (C m.below.layer) m f a → SameAt i m.below.store a.below.store
made_at i C m f a s below (inl x) = rw x.2 (same_at i m.below.store)
made_at i C m f a s below (inr x) = rw x.3 (below x.1 (subst (λ (l : Layer). C l m.below f x.1) s.layer x.2))

call_leaves : (c : MediumCall) (m : MediumState) (f : Bool) (a : MediumState) (i : ℕ) → LiesWithin m.blocks c → CallMakes c m f a → ShowsFile m → touches i c ≡ false
    → SameAt i m.below.store a.below.store
call_leaves (read at out) m f a i w x s away = made_at i ReadsBelow m f a s (λ b. asks_at i m.below f b) x.made
call_leaves (write at piece) m f a i w x s away =
    let fits : at + length piece ≤ m.below.store.size = rw s.size w.0 in
    let told = fits_in m.below.store.size (at + length piece) m.below.store.bytes s.long fits in
    made_at i (λ l. WritesBelow l at piece) m f a s
    (λ b y. let e : b.store ≡ y.1.0 = ap (λ (k : Below). k.store) y.2 ∙ left_store at (length piece) piece f y.0 ∙ ap (λ (k : Below). k.store) y.1.2 in
    rw e (only_at at (length piece) i m.below.store y.1.0 away (writes_only at piece m.below.store y.1.0 f w.1 w.2 told y.1.1))) x
call_leaves (fill at block count) m f a i w x s away =
    let fits : at + 512 * count ≤ m.below.store.size = rw s.size w.0 in
    let told = fits_in m.below.store.size (at + 512 * count) m.below.store.bytes s.long fits in
    made_at i (λ l. FillsBelow l at block count) m f a s
    (λ b y. let e : b.store ≡ y.1.0 = ap (λ (k : Below). k.store) y.2 ∙ left_store at (512 * count) (repeated count block) f y.0 ∙ ap (λ (k : Below). k.store) y.1.2 in
    rw e (only_at at (512 * count) i m.below.store y.1.0 away (fills_only at block count m.below.store y.1.0 f w.1 w.2 told y.1.1))) x
call_leaves sync m f a i w x s away = made_at i SyncsBelow m f a s (λ b. syncs_at i m.below f b) x

-- ==== runs

shows_along : (calls : List MadeCall) (m after : MediumState) → Runs calls m after → ShowsFile m → ShowsFile after
shows_along [] m after e s = rw e s
shows_along (c ∷ cs) m after r s = shows_along cs r.0 after r.3 (call_shows c.call m c.failed r.0 r.1 r.2 s)

pub runs_show_file : RunsShowFile
runs_show_file m after r s = shows_along r.0 m after r.1 s

pub runs_leave : RunsLeave
runs_leave [] m after i e s away = rw e (same_at i m.below.store)
runs_leave (c ∷ cs) m after i r s away =
    let first = call_leaves c.call m c.failed r.0 i r.1 r.2 s away.0 in
    let rest = runs_leave cs r.0 after i r.3 (call_shows c.call m c.failed r.0 r.1 r.2 s) away.1 in
    record { byte = rest.byte ∙ first.byte; free = rest.free ∙ first.free }
