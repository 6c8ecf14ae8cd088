-- Commands that are picked out by tests of which one excludes the other hold different blocks.
use Rattle.std.proofs.Common.{◌≡◌, ℕ, Bool, true, false, List, [], ◌∷◌, ◌++◌, filter, refl, sym, ◌∙◌, ⊎_elim, eqb}
use Rattle.std.proofs.lemmas.Bool.{cases_Bool, false≢true, eq-eqb, or_left, or_right}
use Rattle.std.proofs.lemmas.Grind.{flat_map-append}
use Rattle.tcmu_model.specs.Device.{Unfinished}
use Rattle.tcmu_types.specs.Numbers.{is_among, Differ}
use Rattle.tcmu_types.specs.Lists.{Every}
use Rattle.tcmu_model.specs.BlockLists.{Taken, list_of, held_by}
use Rattle.ring_laws.proofs.laid.LaidBlocks.{among-filter}
use Rattle.ring_laws.proofs.placed.AnswerBlocks.{differ-split}
use Rattle.tcmu_model.proofs.ListsCleaned.{differ-fewer}
use Rattle.tcmu_types.proofs.Rises.{differ-right}
use Rattle.ring_laws.proofs.restarted.GivenBack.{split-left}
use Rattle.tcmu_types.proofs.Rises.{among-append}

-- what holds of those that are picked out, of each that passes the test
pub every-picked : {X : Type 0} (p : X → Bool) (P : X → Type 0) (xs : List X) → Every P (filter p xs) → Every (λ x. p x ≡ true → P x) xs
every-picked p P [] e = tt
every-picked p P (x ∷ xs) e =
    ⊎_elim
    (λ (k : p x ≡ true). let f : Every P (x ∷ filter p xs) = rw k at e in (λ z. f.0, every-picked p P xs f.1))
    (λ (k : p x ≡ false). let f : Every P (filter p xs) = rw k at e in (λ z. absurd (false≢true (sym k ∙ z)), every-picked p P xs f))
    (cases_Bool (p x))

-- a block of those that are picked out is held
pub picked-held : (lists : List Taken) (p : Unfinished → Bool) (us : List Unfinished) (b : ℕ) → is_among (held_by lists (filter p us)) b ≡ true → is_among (held_by lists us) b ≡ true
picked-held lists p us b h =
    ⊎_elim
    (λ (m : is_among (held_by lists us) b ≡ true). m)
    (λ (m : is_among (held_by lists us) b ≡ false). absurd (false≢true (sym (among-filter lists p us b m) ∙ h)))
    (cases_Bool (is_among (held_by lists us) b))

-- a block that stands in one of two lists, and not in the first, stands in the second
among-behind : (xs ys : List ℕ) (b : ℕ) → is_among xs b ≡ false → is_among (xs ++ ys) b ≡ is_among ys b
among-behind xs ys b h = among-append xs ys b ∙ rw h refl

pub picked-apart : (lists : List Taken) (p q : Unfinished → Bool) (us : List Unfinished) (b : ℕ) → ((u : Unfinished) → p u ≡ true → q u ≡ false) → Differ (held_by lists us) →
    is_among (held_by lists (filter p us)) b ≡ true → is_among (held_by lists (filter q us)) b ≡ false
picked-apart lists p q [] b other d h = refl
picked-apart lists p q (u ∷ us) b other d h =
    let bs : List ℕ = list_of lists u.serial in
    let back : Differ (held_by lists us) = differ-right bs (held_by lists us) d in
    ⊎_elim
    (λ (k : p u ≡ true).
    let n : q u ≡ false = other u k in
    let h0 : is_among (bs ++ held_by lists (filter p us)) b ≡ true = rw k at h in
    ⊎_elim
    (λ (m : is_among bs b ≡ true). rw n (among-filter lists q us b (split-left bs (held_by lists us) b d m)))
    (λ (m : is_among bs b ≡ false). rw n (picked-apart lists p q us b other back (sym (among-behind bs (held_by lists (filter p us)) b m) ∙ h0)))
    (cases_Bool (is_among bs b)))
    (λ (k : p u ≡ false).
    let h0 : is_among (held_by lists (filter p us)) b ≡ true = rw k at h in
    let ih : is_among (held_by lists (filter q us)) b ≡ false = picked-apart lists p q us b other back h0 in
    ⊎_elim
    (λ (n : q u ≡ true).
    let m : is_among bs b ≡ false = differ-split bs (held_by lists us) b d (picked-held lists p us b h0) in
    rw n (among-behind bs (held_by lists (filter q us)) b m ∙ ih))
    (λ (n : q u ≡ false). rw n ih)
    (cases_Bool (q u)))
    (cases_Bool (p u))

differ-picked : (lists : List Taken) (p : Unfinished → Bool) (us : List Unfinished) → Differ (held_by lists us) → Differ (held_by lists (filter p us))
differ-picked lists p [] d = tt
differ-picked lists p (u ∷ us) d =
    let bs : List ℕ = list_of lists u.serial in
    let ih : Differ (held_by lists (filter p us)) = differ-picked lists p us (differ-right bs (held_by lists us) d) in
    ⊎_elim
    (λ (k : p u ≡ true). let z : Differ (bs ++ held_by lists (filter p us)) = differ-fewer bs (held_by lists us) (held_by lists (filter p us)) d ih (λ b h. among-filter lists p us b h) in rw k z)
    (λ (k : p u ≡ false). rw k ih)
    (cases_Bool (p u))

differ-joined : (xs ys : List ℕ) → Differ xs → Differ ys → ((b : ℕ) → is_among xs b ≡ true → is_among ys b ≡ false) → Differ (xs ++ ys)
differ-joined [] ys d e apart = e
differ-joined (x ∷ xs) ys d e apart = (
  among-behind xs ys x d.0 ∙ apart x (or_left (eqb x x) (is_among xs x) (eq-eqb x x refl)),
  differ-joined xs ys d.1 e (λ b h. apart b (or_right (eqb x b) (is_among xs b) h)),
)

pub held-joined : (lists : List Taken) (us vs : List Unfinished) → held_by lists (us ++ vs) ≡ held_by lists us ++ held_by lists vs
held-joined lists us vs = flat_map-append (λ (u : Unfinished). list_of lists u.serial) us vs

-- those that pass the one test, and behind them those that pass the other
pub differ-both : (lists : List Taken) (p q : Unfinished → Bool) (us : List Unfinished) → ((u : Unfinished) → p u ≡ true → q u ≡ false) → Differ (held_by lists us) → Differ (held_by lists (filter p us ++ filter q us))
differ-both lists p q us other d =
    let joined : Differ (held_by lists (filter p us) ++ held_by lists (filter q us)) =
    differ-joined (held_by lists (filter p us)) (held_by lists (filter q us)) (differ-picked lists p us d) (differ-picked lists q us d) (λ b h. picked-apart lists p q us b other d h) in
    rw (held-joined lists (filter p us) (filter q us)) joined
