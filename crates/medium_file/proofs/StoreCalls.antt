-- Blocks that are written to a store one after the other, and what they put.
use Rattle.std.proofs.Common.{◌∙◌, ◌≡◌, ℕ, suc, ◌+◌, ◌-◌, ◌*◌, ◌≤◌, ◌<◌, Bool, true, false, List, ◌++◌, length, take, drop, sym, ap, subst, refl, arith, Option, Some, None, IfSome, append-nil, replicate, add-zero}
use Rattle.std.specs.Option.{option_map}
use Rattle.std.proofs.lemmas.List.{length-append, take-append-drop, length-replicate}
use Rattle.tcmu_types.specs.Overwriting.{overwritten}
use Rattle.tcmu_model.specs.MediumState.{Base}
use Rattle.scsi_model.specs.Base.{WritesStore, FillsStore}
use Rattle.scsi_model.specs.Medium.{repeated}
use Rattle.edge.specs.Stores.{Puts, Spoils}
use Rattle.tcmu_types.proofs.Overwriting.{length_piece, overwritten_same, overwritten_more, length_overwritten}
use Rattle.handler_trait.proofs.Repeating.{length_repeated, fill_more}

-- what is known of the first copies, and goes on for all of them
abbrev pub FillsOn : ℕ → List ℕ → ℕ → Base → Base → Type 0
FillsOn at block k start here =
    (rest : ℕ) (failed : Bool) (end : Base) → FillsStore (at + 512 * k) block rest here failed end → FillsStore at block (k + rest) start failed end

-- before any call
pub fills_none : (at : ℕ) (block : List ℕ) (start : Base) → FillsOn at block 0 start start
fills_none at block start rest failed end t =
    let e : 0 + rest ≡ rest = omega arith in
    let z : at + 512 * 0 ≡ at = omega arith in
    subst (λ n. FillsStore at block n start failed end) (sym e) (subst (λ a. FillsStore a block rest start failed end) z t)

-- one call more that did not fail
pub fills_more : (at k : ℕ) (block : List ℕ) (start here next : Base) → FillsOn at block k start here → WritesStore (at + 512 * k) block here false next
    → FillsOn at block (k + 1) start next
fills_more at k block start here next goes w rest failed end t =
    let place : at + 512 * (k + 1) ≡ at + 512 * k + 512 = omega arith in
    let more : FillsStore (at + 512 * k) block (suc rest) here failed end = (false, next, w, subst (λ a. FillsStore a block rest next failed end) place t) in
    let n : k + suc rest ≡ (k + 1) + rest = omega arith in
    subst (λ n. FillsStore at block n start failed end) n (goes (suc rest) failed end more)

-- a call that failed ends them
pub fills_stop : (at k count : ℕ) (block : List ℕ) (start here next : Base) → FillsOn at block k start here → k < count → WritesStore (at + 512 * k) block here true next
    → FillsStore at block count start true next
fills_stop at k count block start here next goes less w =
    let last : FillsStore (at + 512 * k) block (suc (count - k - 1)) here true next = (true, next, w, (refl, refl)) in
    let n : k + suc (count - k - 1) ≡ count = omega arith in
    subst (λ n. FillsStore at block n start true next) n (goes (suc (count - k - 1)) true next last)

pub fills_all : (at k count : ℕ) (block : List ℕ) (start here : Base) → FillsOn at block k start here → k ≡ count → FillsStore at block count start false here
fills_all at k count block start here goes e =
    let n : k + 0 ≡ count = omega (arith, e) in subst (λ n. FillsStore at block n start false here) n (goes 0 false here (refl, refl))

-- nothing was put yet
pub puts_none : (at : ℕ) (block : List ℕ) (told : Option (List ℕ)) → Puts at (repeated 0 block) told told
puts_none at block None = refl
puts_none at block (Some xs) = ap (λ (ys : List ℕ). Some ys) (sym (ap (λ (ys : List ℕ). ys ++ drop (at + 0) xs) (append-nil (take at xs)) ∙ ap (λ n. take at xs ++ drop n xs) (add-zero at) ∙ take-append-drop at xs))

-- one block more
pub puts_more : (at k : ℕ) (block : List ℕ) (old here new : Option (List ℕ)) (n : ℕ) → length block ≡ 512 → at + 512 * k + 512 ≤ n → IfSome old (λ xs. length xs ≡ n)
    → Puts at (repeated k block) old here → Puts (at + 512 * k) block here new → Puts at (repeated (k + 1) block) old new
puts_more at k block None here new n l fits told e f = f ∙ ap (option_map (overwritten (at + 512 * k) block)) e
puts_more at k block (Some xs) here new n l fits told e f =
    f ∙ ap (option_map (overwritten (at + 512 * k) block)) e ∙ ap (λ (ys : List ℕ). Some ys) (fill_more at k block xs l (rw told fits))

-- a block that may be spoiled behind those that were put
spoils_whole : (at k count : ℕ) (block junk xs : List ℕ) → length block ≡ 512 → length junk ≡ 512 → k < count → at + 512 * count ≤ length xs
    → (piece : List ℕ) × (length piece ≡ 512 * count) × (overwritten (at + 512 * k) junk (overwritten at (repeated k block) xs) ≡ overwritten at piece xs)
spoils_whole at k count block junk xs l j less fits =
    let p = repeated k block in
    let lp : length p ≡ 512 * k = length_repeated k block l in
    let q = p ++ junk in
    let lq : length q ≡ 512 * k + 512 = length-append p junk ∙ omega (arith, lp, j) in
    let ys = overwritten at q xs in
    let ly : length ys ≡ length xs = length_overwritten at q xs (rw lq (omega (arith, fits, less))) in
    let m = at + length q in
    let r = 512 * count - (512 * k + 512) in
    let room : m + r ≤ length ys = rw ly (rw lq (omega (arith, fits, less))) in
    let tail = take r (drop m ys) in
    let lt : length tail ≡ r = length_piece m r ys room in
    let joined : overwritten (at + 512 * k) junk (overwritten at p xs) ≡ ys =
    ap (λ n. overwritten (at + n) junk (overwritten at p xs)) (sym lp) ∙ overwritten_more at p junk xs (rw lp (rw j (omega (arith, fits, less)))) in (
      q ++ tail,
      length-append q tail ∙ omega (arith, lq, lt, less),
      joined ∙ sym (overwritten_same m r ys room) ∙ overwritten_more at q tail xs (omega (arith, lq, lt, fits, less)),
    )

pub spoils_more : (at k count : ℕ) (block : List ℕ) (old here new : Option (List ℕ)) (n : ℕ) → length block ≡ 512 → k < count → at + 512 * count ≤ n → IfSome old (λ xs. length xs ≡ n)
    → Puts at (repeated k block) old here → Spoils (at + 512 * k) 512 here new → Spoils at (512 * count) old new
spoils_more at k count block None here new n l less fits told e s =
    (replicate (512 * count) 0, length-replicate (512 * count) 0, s.2 ∙ ap (option_map (overwritten (at + 512 * k) (s.0))) e)
spoils_more at k count block (Some xs) here new n l less fits told e s =
    let whole = spoils_whole at k count block s.0 xs l s.1 less (rw told fits) in
    (whole.0, whole.1, s.2 ∙ ap (option_map (overwritten (at + 512 * k) (s.0))) e ∙ ap (λ (ys : List ℕ). Some ys) whole.2)
