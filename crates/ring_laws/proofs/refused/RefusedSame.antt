-- Answers of submit and enter after which nothing has changed.
use Rattle.std.proofs.Common.{◌≡◌, ℕ, true, refl}
use Rattle.std.proofs.lemmas.Bool.{false≢true}
use Rattle.tcmu_types.specs.Data.{CommandData}
use Rattle.tcmu_types.specs.declared.answer.Submit.{Submit}
use Rattle.tcmu_types.specs.declared.answer.Submit.TheVariants as submit
use Rattle.tcmu_types.specs.declared.answer.Enter.{Enter}
use Rattle.tcmu_types.specs.declared.answer.Enter.TheVariants as enter
use Rattle.tcmu_model.specs.Device.{DeviceState}
use Rattle.tcmu_model.specs.Events.{after_submit, after_enter}
use Rattle.region_model.specs.Regions.{RegionState}
use Rattle.region_model.specs.Sides.{TargetState}
use Rattle.region_model.specs.TargetSteps.{target_submitted, region_submitted, target_entered, region_entered}
use Rattle.ring_laws.specs.Refused.{enters_none, is_refusal}

pub refused_same : (r : RegionState) (t : TargetState) (d : DeviceState) (c : CommandData) (id : ℕ) (a : Submit) → is_refusal a ≡ true → (after_submit d c a ≡ d) × (target_submitted t c id a ≡ t) × (region_submitted r t c id a ≡ r)
unfolding after_submit target_submitted region_submitted
refused_same r t d c id (submit.Queued s) h = absurd (false≢true h)
refused_same r t d c id (submit.Delayed s) h = absurd (false≢true h)
refused_same r t d c id submit.Busy h = (refl, refl, refl)
refused_same r t d c id (submit.TooBig have limit) h = (refl, refl, refl)
refused_same r t d c id (submit.FullRing need free) h = (refl, refl, refl)
refused_same r t d c id (submit.FullBlocks need free) h = (refl, refl, refl)

pub entered_none_same : (r : RegionState) (t : TargetState) (d : DeviceState) (id : ℕ) (a : Enter) → enters_none a ≡ true → (after_enter d a ≡ d) × (target_entered t id a ≡ t) × (region_entered r t id a ≡ r)
unfolding after_enter target_entered region_entered
entered_none_same r t d id (enter.Entered s) h = absurd (false≢true h)
entered_none_same r t d id enter.Empty h = (refl, refl, refl)
entered_none_same r t d id (enter.FullRing need free) h = (refl, refl, refl)
entered_none_same r t d id (enter.FullBlocks need free) h = (refl, refl, refl)
