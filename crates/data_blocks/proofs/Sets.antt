-- What taking and giving one number does to the fields and to what contracts see of them.
use Rattle.std.proofs.Common.{◌≡◌, ◌≢◌, ℕ, ◌+◌, ◌-◌, ◌*◌, ◌≤◌, ◌<◌, ⊎_elim, Bool, true, false, not, ◌||◌, ◌&&◌, ◌==◌, max, List, [], ◌∷◌, length, replicate, Some, None, refl, sym, ap, ◌∙◌, arith, suc, zero}
use Rattle.std.proofs.lemmas.Bool.{cases_eq, cases_lt, cases_Bool, and_parts, false≢true}
use Rattle.std.proofs.lemmas.List.{length-replicate}
use Rattle.tcmu_types.specs.Numbers.{above_all, is_among}
use Rattle.tcmu_model.specs.BlockLists.{free_from}
use Rattle.data_blocks.specs.Bitmap.{is_set, set_below, first_clear, chosen}
use Rattle.data_blocks.specs.Held.{Took, Gave}
use Rattle.data_blocks.specs.Kept.{IsKept}
use Rattle.data_blocks.proofs.Bits.{eqb-same, eqb-other, zero-clear}
use Rattle.data_blocks.proofs.Chosen.{Adds, chosen-below, chosen-among, chosen-rising, chosen-more, free-chosen, free-rest, refused-tells, all-chosen, above_all-le, among-below, or-right}
use Rattle.std.proofs.Math.Bool.{and-true}

-- the fields keep their facts where the numbers do
pub kept : (words : List ℕ) (limit held spare grown : ℕ) → limit ≤ 64 * length words → held ≡ length (set_below words limit) → 1 ≤ limit → limit ≤ 4096 →
    held + spare ≤ limit → ((m : ℕ) → is_among (set_below words limit) m ≡ true → m < grown) → grown ≤ limit → IsKept words limit held spare grown
kept words limit held spare grown w c low high r covered within = record {
  words_within = w;
  counted = c;
  sound = record {
    limit_low = low;
    limit_high = high;
    rising = chosen-rising (is_set words) 0 limit;
    below = λ n h. let b = chosen-below (is_set words) 0 limit n h in omega arith;
    reserved = omega arith;
    covered = above_all-le (set_below words limit) grown covered;
    within = within;
  };
}

-- a number stands in a list of one exactly where it is that one
among-one : (x m : ℕ) → is_among (x ∷ []) m ≡ (m == x)
among-one x m =
    ⊎_elim
    (λ (e : x ≡ m). rw (eqb-same m x e, eqb-same x m (sym e)) refl)
    (λ (d : x ≢ m). rw (eqb-other m x d, eqb-other x m (λ (f : m ≡ x). d (sym f))) refl)
    (cases_eq x m)

-- the number of a bit that is clear, and the words with that bit set
adds : (words words' : List ℕ) (m : ℕ) → is_set words m ≡ false → ((n : ℕ) → is_set words' n ≡ ((n == m) || is_set words n)) → Adds (is_set words) (is_set words') m
adds words words' m f b = record { refused = f; also = b }

-- membership, inside the range and outside
pub among-set : (words : List ℕ) (limit m : ℕ) → m < limit → is_among (set_below words limit) m ≡ is_set words m
among-set words limit m h = chosen-among (is_set words) 0 limit m (omega arith) (omega arith)

pub among-not : (words : List ℕ) (limit m : ℕ) → limit ≤ m → is_among (set_below words limit) m ≡ false
among-not words limit m h =
    ⊎_elim
    (λ (t : is_among (set_below words limit) m ≡ true). let b = chosen-below (is_set words) 0 limit m t in absurd (omega arith))
    (λ (f : is_among (set_below words limit) m ≡ false). f)
    (cases_Bool (is_among (set_below words limit) m))

among-added : (words words' : List ℕ) (limit m : ℕ) → m < limit → ((n : ℕ) → is_set words' n ≡ ((n == m) || is_set words n)) →
    (n : ℕ) → is_among (set_below words' limit) n ≡ (is_among (m ∷ []) n || is_among (set_below words limit) n)
among-added words words' limit m l b n =
    ⊎_elim
    (λ (h : n < limit). among-set words' limit n h ∙ b n ∙ rw (among-one m n, among-set words limit n h) refl)
    (λ (h : limit ≤ n). among-not words' limit n h ∙ rw (among-one m n, among-not words limit n h, eqb-other m n (omega arith)) refl)
    (cases_lt n limit)

among-removed : (words words' : List ℕ) (limit m : ℕ) → m < limit → ((n : ℕ) → is_set words' n ≡ (is_set words n && not (n == m))) →
    (n : ℕ) → is_among (set_below words' limit) n ≡ (is_among (set_below words limit) n && not (is_among (m ∷ []) n))
among-removed words words' limit m l b n =
    ⊎_elim
    (λ (h : n < limit). among-set words' limit n h ∙ b n ∙ rw (among-one m n, among-set words limit n h) refl)
    (λ (h : limit ≤ n). among-not words' limit n h ∙ rw (among-one m n, among-not words limit n h) refl)
    (cases_lt n limit)

max-zero : (a : ℕ) → a ≡ max a 0
max-zero a = omega arith

off : (a b : Bool) → b ≡ true → (a && not b) ≡ false
off a b e = rw e (elim a as (λ v. (v && false) ≡ false) [ true ↦ refl | false ↦ refl ])

-- ==== one block is taken

pub record Taking (words words' : List ℕ) (limit held spare grown m : ℕ) : Type 0 where
  pub kept : IsKept words limit held spare grown
  pub least : first_clear words limit ≡ Some m
  pub bits : (n : ℕ) → is_set words' n ≡ ((n == m) || is_set words n)
  pub as_long : length words' ≡ length words
  pub spare_one : 1 ≤ spare

-- one is free
pub one-clear : (words : List ℕ) (limit held spare grown : ℕ) → IsKept words limit held spare grown → 1 ≤ spare → first_clear words limit ≡ None → ⊥
one-clear words limit held spare grown k s h =
    let a = all-chosen (is_set words) 0 limit h in
    let r = k.sound.reserved in
    omega arith

taken-place : (words words' : List ℕ) (limit held spare grown m : ℕ) → Taking words words' limit held spare grown m → (m < limit) × Adds (is_set words) (is_set words') m
taken-place words words' limit held spare grown m t =
    let r = refused-tells (is_set words) 0 limit m t.least in
    (omega arith, adds words words' m r.2 t.bits)

pub taken-within : (words words' : List ℕ) (limit held spare grown m : ℕ) → Taking words words' limit held spare grown m → m < limit
taken-within words words' limit held spare grown m t = (taken-place words words' limit held spare grown m t).0

pub taken-least : (words words' : List ℕ) (limit held spare grown m : ℕ) → Taking words words' limit held spare grown m →
    free_from (set_below words limit) 0 limit ≡ m ∷ free_from (set_below words' limit) 0 limit
taken-least words words' limit held spare grown m t =
    let a = (taken-place words words' limit held spare grown m t).1 in
    free-chosen (is_set words) (set_below words limit) 0 limit (λ j x y. among-set words limit j (omega arith))
    ∙ free-rest (is_set words) (is_set words') m 0 limit a t.least
    ∙ ap (λ z. m ∷ z) (sym (free-chosen (is_set words') (set_below words' limit) 0 limit (λ j x y. among-set words' limit j (omega arith))))

pub taken-more : (words words' : List ℕ) (limit held spare grown m : ℕ) → Taking words words' limit held spare grown m →
    length (set_below words' limit) ≡ length (set_below words limit) + 1
taken-more words words' limit held spare grown m t =
    let p = taken-place words words' limit held spare grown m t in
    chosen-more (is_set words) (is_set words') m 0 limit p.1 (omega arith) (omega arith)

pub taken-kept : (words words' : List ℕ) (limit held spare grown m : ℕ) → Taking words words' limit held spare grown m →
    IsKept words' limit (held + 1) (spare - 1) (max grown (m + 1))
taken-kept words words' limit held spare grown m t =
    let l = taken-within words words' limit held spare grown m t in
    let n = taken-more words words' limit held spare grown m t in
    let k = t.kept in
    let r = k.sound.reserved in
    let c = k.sound.covered in
    let i = k.sound.within in
    let w = k.words_within in
    let h = k.counted in
    let s = t.spare_one in
    let e = t.as_long in
    kept words' limit (held + 1) (spare - 1) (max grown (m + 1)) (omega arith) (omega arith) k.sound.limit_low k.sound.limit_high (omega arith)
    (λ j b.
    ⊎_elim
    (λ (q : m ≡ j). omega arith)
    (λ (d : m ≢ j).
    let o : is_among (m ∷ []) j ≡ false = among-one m j ∙ eqb-other m j (λ (f : j ≡ m). d (sym f)) in
    let g : is_among (set_below words limit) j ≡ true = sym (or-right (is_among (m ∷ []) j) (is_among (set_below words limit) j) o) ∙ sym (among-added words words' limit m l t.bits j) ∙ b in
    let u = among-below (set_below words limit) j g in
    omega arith)
    (cases_eq m j))
    (omega arith)

pub taken-tells : (words words' : List ℕ) (limit held spare grown m : ℕ) → Taking words words' limit held spare grown m →
    Took (record { limit = limit; held = set_below words limit; spare = spare; grown = grown }) (m ∷ [])
    (record { limit = limit; held = set_below words' limit; spare = spare - 1; grown = max grown (m + 1) })
taken-tells words words' limit held spare grown m t =
    let l = taken-within words words' limit held spare grown m t in
    let s = t.spare_one in
    record {
      limit = refl;
      held = among-added words words' limit m l t.bits;
      count = taken-more words words' limit held spare grown m t;
      spare = omega arith;
      grown = ap (max grown) (max-zero (m + 1));
    }

-- ==== one block is given back

pub record Giving (words words' : List ℕ) (limit held spare grown m : ℕ) : Type 0 where
  pub kept : IsKept words limit held spare grown
  pub holds : is_among (set_below words limit) m ≡ true
  pub bits : (n : ℕ) → is_set words' n ≡ (is_set words n && not (n == m))
  pub as_long : length words' ≡ length words

pub given-within : (words words' : List ℕ) (limit held spare grown m : ℕ) → Giving words words' limit held spare grown m → m < limit
given-within words words' limit held spare grown m g = g.kept.sound.below m g.holds

given-adds : (words words' : List ℕ) (limit held spare grown m : ℕ) → Giving words words' limit held spare grown m → Adds (is_set words') (is_set words) m
given-adds words words' limit held spare grown m g =
    let l = given-within words words' limit held spare grown m g in
    record {
      refused = g.bits m ∙ off (is_set words m) (m == m) (eqb-same m m refl);
      also = λ j.
          ⊎_elim
          (λ (e : j ≡ m).
          let t : is_set words j ≡ true = ap (is_set words) e ∙ sym (among-set words limit m l) ∙ g.holds in
          t ∙ sym (ap (λ b. b || is_set words' j) (eqb-same m j e)))
          (λ (d : j ≢ m).
          let f = eqb-other m j d in
          sym (rw (g.bits j, f) (and-true (is_set words j))))
          (cases_eq j m);
    }

pub given-less : (words words' : List ℕ) (limit held spare grown m : ℕ) → Giving words words' limit held spare grown m →
    length (set_below words' limit) + 1 ≡ length (set_below words limit)
given-less words words' limit held spare grown m g =
    let l = given-within words words' limit held spare grown m g in
    sym (chosen-more (is_set words') (is_set words) m 0 limit (given-adds words words' limit held spare grown m g) (omega arith) (omega arith))

pub given-kept : (words words' : List ℕ) (limit held spare grown m : ℕ) → Giving words words' limit held spare grown m → IsKept words' limit (held - 1) spare grown
given-kept words words' limit held spare grown m g =
    let l = given-within words words' limit held spare grown m g in
    let n = given-less words words' limit held spare grown m g in
    let k = g.kept in
    let r = k.sound.reserved in
    let c = k.sound.covered in
    let w = k.words_within in
    let h = k.counted in
    let e = g.as_long in
    kept words' limit (held - 1) spare grown (omega arith) (omega arith) k.sound.limit_low k.sound.limit_high (omega arith)
    (λ j b.
    let u = among-below (set_below words limit) j ((and_parts (is_among (set_below words limit) j) (not (is_among (m ∷ []) j)) (sym (among-removed words words' limit m l g.bits j) ∙ b)).0) in
    omega arith)
    k.sound.within

pub given-tells : (words words' : List ℕ) (limit held spare grown m : ℕ) → Giving words words' limit held spare grown m →
    Gave (record { limit = limit; held = set_below words limit; spare = spare; grown = grown }) (m ∷ [])
    (record { limit = limit; held = set_below words' limit; spare = spare; grown = grown })
given-tells words words' limit held spare grown m g =
    record {
      limit = refl;
      held = among-removed words words' limit m (given-within words words' limit held spare grown m g) g.bits;
      count = given-less words words' limit held spare grown m g;
      spare = refl;
      grown = refl;
    }

-- ==== the end of the data area

-- the end that the search for the highest held number gives
pub record Ending (words : List ℕ) (limit grown end : ℕ) : Type 0 where
  pub within : end ≤ grown
  pub clear : (n : ℕ) → end ≤ n → n < grown → is_set words n ≡ false
  pub set : 0 < end → is_set words (end - 1) ≡ true

pub shrunk-end : (words : List ℕ) (limit held spare grown end : ℕ) → IsKept words limit held spare grown → Ending words limit grown end → end ≡ above_all (set_below words limit)
shrunk-end words limit held spare grown end k e =
    let c = k.sound.covered in
    let w = k.sound.within in
    let f = e.within in
    let up : above_all (set_below words limit) ≤ end =
    above_all-le (set_below words limit) end (λ m h.
    let u = among-below (set_below words limit) m h in
    let b = k.sound.below m h in
    ⊎_elim
    (λ (l : m < end). l)
    (λ (l : end ≤ m). absurd (false≢true (sym (e.clear m l (omega arith)) ∙ sym (among-set words limit m b) ∙ h)))
    (cases_lt m end)) in
    ⊎_elim
    (λ (z : 0 < end).
    let t : is_among (set_below words limit) (end - 1) ≡ true = among-set words limit (end - 1) (omega arith) ∙ e.set z in
    let d = among-below (set_below words limit) (end - 1) t in
    omega arith)
    (λ (z : end ≤ 0). omega arith)
    (cases_lt 0 end)

pub shrunk-kept : (words : List ℕ) (limit held spare grown end : ℕ) → IsKept words limit held spare grown → Ending words limit grown end → IsKept words limit held spare end
shrunk-kept words limit held spare grown end k e =
    let s = shrunk-end words limit held spare grown end k e in
    let w = k.sound.within in
    let f = e.within in
    let r = k.sound.reserved in
    let h = k.counted in
    kept words limit held spare end k.words_within k.counted k.sound.limit_low k.sound.limit_high (omega arith)
    (λ m b. let u = among-below (set_below words limit) m b in omega arith)
    (omega arith)

-- ==== no block

pub first-within : (words : List ℕ) (limit m : ℕ) → first_clear words limit ≡ Some m → m < limit
first-within words limit m h = let r = refused-tells (is_set words) 0 limit m h in omega arith

none-chosen : (p : ℕ → Bool) (n k : ℕ) → ((j : ℕ) → p j ≡ false) → chosen p n k ≡ []
none-chosen p n zero h = refl
none-chosen p n (suc k) h = rw (h n) (none-chosen p (n + 1) k h)

pub empty-none : (count limit : ℕ) → set_below (replicate count 0) limit ≡ []
empty-none count limit = none-chosen (is_set (replicate count 0)) 0 limit (zero-clear count)

pub empty-kept : (count limit : ℕ) → limit ≤ 64 * count → 1 ≤ limit → limit ≤ 4096 → IsKept (replicate count 0) limit 0 0 0
empty-kept count limit w low high =
    let e = empty-none count limit in
    let n : length {A = ℕ} (replicate count 0) ≡ count = length-replicate count 0 in
    kept (replicate count 0) limit 0 0 0 (rw n w) (sym (ap length e)) low high (omega arith)
    (λ m h. let b : is_among [] m ≡ true = sym (ap (λ xs. is_among xs m) e) ∙ h in absurd (false≢true b))
    (omega arith)
