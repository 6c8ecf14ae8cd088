-- Commands are cleaned: the block lists of the others stay sound.
use Rattle.std.proofs.Common.{◌≡◌, ℕ, ◌≤◌, ◌<◌, Bool, true, false, List, [], ◌∷◌, ◌++◌, length, refl, sym, ap, ◌∙◌, arith, subst, ⊎_elim}
use Rattle.std.proofs.lemmas.Bool.{cases_Bool, or_parts}
use Rattle.tcmu_types.specs.Lists.{first_of, without_first, Every}
use Rattle.tcmu_types.specs.Numbers.{is_among, Differ}
use Rattle.tcmu_types.proofs.Everies.{every-append, every-front, every-back, every-without_first}
use Rattle.tcmu_types.proofs.Rises.{among-append, differ-right}
use Rattle.tcmu_model.specs.declared.state.CommandState.TheVariants.{Placed}
use Rattle.tcmu_model.specs.Lengths.{blocks_of}
use Rattle.tcmu_model.specs.Device.{Unfinished, DeviceState, is_at}
use Rattle.tcmu_model.specs.Events.{Books, finish, finish_all, books, answered, cleaned_books, after_clean}
use Rattle.tcmu_model.specs.BlockLists.{Taken, list_of, held_by}
use Rattle.tcmu_model.specs.Owned.{ListsSound}
use Rattle.tcmu_model.specs.Sound.{IsSound}
use Rattle.tcmu_model.proofs.SoundClean.{finish_taken}

-- ==== the commands that are left

abbrev pub taken_all : List Unfinished → List ℕ → List Unfinished
taken_all us [] = us
taken_all us (s ∷ ss) = taken_all (without_first (is_at s Placed) us) ss

all-taken : (rl : Bool) (b : Books) (ss : List ℕ) → (finish_all rl b ss).unfinished ≡ taken_all b.unfinished ss
all-taken rl b [] = refl
all-taken rl b (s ∷ ss) = all-taken rl (finish rl b s) ss ∙ ap (λ us. taken_all us ss) (finish_taken rl b s (first_of (is_at s Placed) b.unfinished) refl)

pub left_are : (d : DeviceState) → (cleaned_books d).unfinished ≡ taken_all d.unfinished (answered d)
left_are d = all-taken d.settings.flags.read_len (books d) (answered d)

pub every-left : (P : Unfinished → Type 0) (us : List Unfinished) (ss : List ℕ) → Every P us → Every P (taken_all us ss)
every-left P us [] e = e
every-left P us (s ∷ ss) e = every-left P (without_first (is_at s Placed) us) ss (every-without_first (is_at s Placed) P us e)

-- ==== their lists

not-held : (lists : List Taken) (p : Unfinished → Bool) (us : List Unfinished) (b : ℕ) → is_among (held_by lists us) b ≡ false → is_among (held_by lists (without_first p us)) b ≡ false
not-held lists p [] b h = refl
not-held lists p (u ∷ us) b h =
    let t = or_parts (is_among (list_of lists u.serial) b) (is_among (held_by lists us) b) (sym (among-append (list_of lists u.serial) (held_by lists us) b) ∙ h) in
    ⊎_elim
    (λ (k : p u ≡ true). rw k t.1)
    (λ (k : p u ≡ false). let z : is_among (list_of lists u.serial ++ held_by lists (without_first p us)) b ≡ false = among-append (list_of lists u.serial) (held_by lists (without_first p us)) b ∙ rw t.0 (not-held lists p us b t.1) in rw k z)
    (cases_Bool (p u))

pub differ-fewer : (xs ys zs : List ℕ) → Differ (xs ++ ys) → Differ zs → ((b : ℕ) → is_among ys b ≡ false → is_among zs b ≡ false) → Differ (xs ++ zs)
differ-fewer [] ys zs d e f = e
differ-fewer (x ∷ xs) ys zs d e f =
    let t = or_parts (is_among xs x) (is_among ys x) (sym (among-append xs ys x) ∙ d.0) in
    let z : is_among (xs ++ zs) x ≡ false = among-append xs zs x ∙ rw t.0 (f x t.1) in
    (z, differ-fewer xs ys zs d.1 e f)

differ-held : (lists : List Taken) (p : Unfinished → Bool) (us : List Unfinished) → Differ (held_by lists us) → Differ (held_by lists (without_first p us))
differ-held lists p [] d = tt
differ-held lists p (u ∷ us) d =
    let back : Differ (held_by lists us) = differ-right (list_of lists u.serial) (held_by lists us) d in
    ⊎_elim
    (λ (k : p u ≡ true). rw k back)
    (λ (k : p u ≡ false).
    let z : Differ (list_of lists u.serial ++ held_by lists (without_first p us)) = differ-fewer (list_of lists u.serial) (held_by lists us) (held_by lists (without_first p us)) d (differ-held lists p us back) (λ b h. not-held lists p us b h) in
    rw k z)
    (cases_Bool (p u))

every-held : (P : ℕ → Type 0) (lists : List Taken) (p : Unfinished → Bool) (us : List Unfinished) → Every P (held_by lists us) → Every P (held_by lists (without_first p us))
every-held P lists p [] e = tt
every-held P lists p (u ∷ us) e =
    let front : Every P (list_of lists u.serial) = every-front P (list_of lists u.serial) (held_by lists us) e in
    let back : Every P (held_by lists us) = every-back P (list_of lists u.serial) (held_by lists us) e in
    ⊎_elim
    (λ (k : p u ≡ true). rw k back)
    (λ (k : p u ≡ false).
    let z : Every P (list_of lists u.serial ++ held_by lists (without_first p us)) = every-append P (list_of lists u.serial) (held_by lists (without_first p us)) front (every-held P lists p us back) in
    rw k z)
    (cases_Bool (p u))

differ-held_left : (lists : List Taken) (us : List Unfinished) (ss : List ℕ) → Differ (held_by lists us) → Differ (held_by lists (taken_all us ss))
differ-held_left lists us [] d = d
differ-held_left lists us (s ∷ ss) d = differ-held_left lists (without_first (is_at s Placed) us) ss (differ-held lists (is_at s Placed) us d)

every-held_left : (P : ℕ → Type 0) (lists : List Taken) (us : List Unfinished) (ss : List ℕ) → Every P (held_by lists us) → Every P (held_by lists (taken_all us ss))
every-held_left P lists us [] e = e
every-held_left P lists us (s ∷ ss) e = every-held_left P lists (without_first (is_at s Placed) us) ss (every-held P lists (is_at s Placed) us e)

pub lists_cleaned : (d : DeviceState) (lists : List Taken) → IsSound d → ListsSound d lists → ListsSound (after_clean d) lists
unfolding after_clean
lists_cleaned d lists sound h =
    let e : (cleaned_books d).unfinished ≡ taken_all d.unfinished (answered d) = left_are d in
    let cp : d.ring.cleared ≤ d.ring.published = sound.ring.cleared in
    record {
      listed = h.listed;
      differ = subst (λ (us : List Unfinished). Differ (held_by lists us)) (sym e) (differ-held_left lists d.unfinished (answered d) h.differ);
      below = subst (λ (us : List Unfinished). Every (λ n. n < d.settings.blocks) (held_by lists us)) (sym e) (every-held_left (λ n. n < d.settings.blocks) lists d.unfinished (answered d) h.below);
      sizes = subst (Every (λ (u : Unfinished). length (list_of lists u.serial) ≡ blocks_of d.settings.pages u.command)) (sym e) (every-left (λ (u : Unfinished). length (list_of lists u.serial) ≡ blocks_of d.settings.pages u.command) d.unfinished (answered d) h.sizes);
      spans = λ i n s c l g. let m : d.ring.published ≤ i = l in h.spans i n s c (omega arith) g;
    }
