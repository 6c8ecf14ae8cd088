-- Jobs given up one after another, as the definitions have it.
use Rattle.std.proofs.Common.{◌≡◌, List, [], ◌∷◌, Option, Some, None, refl, sym, ap, ◌∙◌, subst}
use Rattle.tcmu_types.specs.Lists.{Every}
use Rattle.region_model.specs.Regions.{RegionState}
use Rattle.region_model.specs.Sides.{GivenJob, Parked, UserState}
use Rattle.region_model.specs.UserSteps.{region_abandoned, with_parked_back}
use Rattle.ring_laws.specs.UserKept.{AreWholeJobs, HasPages, HasRing, IsWholeJob}
use Rattle.user_lib.specs.Answering.{AreBack}
use Rattle.user_lib.proofs.Placings.{goes_back}

pub abandoned_step : (r left : RegionState) (jobs rest : List GivenJob) (g : GivenJob) → jobs ≡ g ∷ rest → left ≡ with_parked_back r g.parked → region_abandoned left rest ≡ region_abandoned r jobs
unfolding region_abandoned
abandoned_step r left jobs rest g e b = ap (λ x. region_abandoned x rest) b ∙ sym (ap (region_abandoned r) e)

pub abandoned_end : (r : RegionState) (jobs : List GivenJob) → jobs ≡ [] → region_abandoned r jobs ≡ r
unfolding region_abandoned
abandoned_end r jobs e = ap (region_abandoned r) e

-- the blocks of the first job go back
pub back_of : (r : RegionState) (u : UserState) (g : GivenJob) (rest : List GivenJob) → u.jobs ≡ g ∷ rest → HasRing r u → HasPages r u → AreWholeJobs u → AreBack r g.parked
back_of r u g rest e ring pages whole = go g.parked refl
  where
    all : Every (λ h. (p : Parked) → h.parked ≡ Some p → IsWholeJob u p.job) (g ∷ rest)
    all = subst (λ (gs : List GivenJob). Every (λ h. (p : Parked) → h.parked ≡ Some p → IsWholeJob u p.job) gs) e whole

    go : (o : Option Parked) → g.parked ≡ o → AreBack r o
    go None q = tt
    go (Some p) q = goes_back r u p.job ring pages (all.0 p q)

-- the other jobs stay whole
pub whole_rest : (u after : UserState) (g : GivenJob) → u.jobs ≡ g ∷ after.jobs → after ≡ record u { jobs = after.jobs } → AreWholeJobs u → AreWholeJobs after
whole_rest u after g e same whole =
    let all = subst (λ (gs : List GivenJob). Every (λ h. (p : Parked) → h.parked ≡ Some p → IsWholeJob u p.job) gs) e whole in
    let rest : AreWholeJobs (record u { jobs = after.jobs }) = all.1 in
    subst AreWholeJobs (sym same) rest

-- where no job is parked, nothing goes back
pub none_abandoned : (r : RegionState) (jobs : List GivenJob) → Every (λ g. g.parked ≡ None) jobs → region_abandoned r jobs ≡ r
unfolding region_abandoned
none_abandoned r [] h = refl
none_abandoned r (g ∷ gs) h = ap (λ o. region_abandoned (with_parked_back r o) gs) h.0 ∙ none_abandoned r gs h.1
