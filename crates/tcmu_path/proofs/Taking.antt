-- A command is taken out of a queue, from the place where it was found.
use Rattle.std.proofs.Common.{◌≡◌, ℕ, ◌<◌, Bool, List, [], ◌∷◌, length, get_or, Option, Some, None, OnSome, sym, ◌∙◌, arith}
use Rattle.std.specs.List.{remove}
use Rattle.tcmu_model.specs.Device.{Unfinished}
use Rattle.tcmu_types.specs.Lists.{IsFirst, first_of, without_first}
use Rattle.tcmu_types.proofs.Firsts.{first_of_at, without_first_at}

some-removed : (us vs : List Unfinished) (at : ℕ) (r : Option Unfinished) (d : Unfinished) → r ≡ Some (get_or us at d) → OnSome r (vs ≡ remove us at) → vs ≡ remove us at
some-removed us vs at None d h e = absurd (cc)
some-removed us vs at (Some x) d h e = e

-- what is left
pub removed : (p : Unfinished → Bool) (us vs : List Unfinished) (at n : ℕ) (r : Option Unfinished) → IsFirst p us at → n ≡ length us
    → ((d : Unfinished) → at < n → r ≡ Some (get_or us at d)) → OnSome r (vs ≡ remove us at) → vs ≡ without_first p us
removed p [] vs at n r f l is e = absurd (omega (arith, f.within))
removed p (u ∷ us) vs at n r f l is e = some-removed (u ∷ us) vs at r u (is u (omega (arith, f.within, l))) e ∙ sym (without_first_at p (u ∷ us) at f)

-- what is taken
pub removed_is : (p : Unfinished → Bool) (us : List Unfinished) (at n : ℕ) (r : Option Unfinished) → IsFirst p us at → n ≡ length us
    → ((d : Unfinished) → at < n → r ≡ Some (get_or us at d)) → r ≡ first_of p us
removed_is p [] at n r f l is = absurd (omega (arith, f.within))
removed_is p (u ∷ us) at n r f l is = is u (omega (arith, f.within, l)) ∙ sym (first_of_at p (u ∷ us) at u f)
