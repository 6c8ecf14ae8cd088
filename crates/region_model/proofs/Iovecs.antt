-- Iovecs that touch become one.
use Rattle.std.proofs.Common.{◌≡◌, ◌+◌, true, false, eqb, List, [], ◌∷◌, refl, arith, ⊎_elim}
use Rattle.std.proofs.lemmas.Bool.{cases_Bool}
use Rattle.tcmu_types.specs.declared.iovec.Iov.{Iov}
use Rattle.region_model.specs.Iovecs.{merged, total_of}

pub total_merged : (e : Iov) (fs : List Iov) → total_of (merged e fs) ≡ e.len + total_of fs
unfolding merged
total_merged e [] = refl
total_merged e (f ∷ fs) =
    ⊎_elim
    (λ (k : eqb (e.base + e.len) f.base ≡ true). rw k (omega arith))
    (λ (k : eqb (e.base + e.len) f.base ≡ false). rw k refl)
    (cases_Bool (eqb (e.base + e.len) f.base))
