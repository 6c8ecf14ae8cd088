-- The user side is attached to a region as it opens.
use Rattle.std.proofs.Common.{◌≡◌, ◌%◌, ◌≤◌, [], sym, ap, ◌∙◌, arith, refl, Ok}
use Rattle.tcmu_types.specs.Data.{SettingsData}
use Rattle.tcmu_types.specs.Rules.{IsSettings}
use Rattle.tcmu_types.specs.declared.settings.Flags.{Flags}
use Rattle.tcmu_model.specs.Device.{opening_state}
use Rattle.tcmu_model.proofs.SoundEvents.{sound_opening}
use Rattle.region_model.specs.Regions.{opening_region}
use Rattle.region_model.specs.TargetSteps.{opening_target}
use Rattle.region_model.specs.UserSteps.{opening_user, user_attached}
use Rattle.ring_laws.specs.Attached.{attached_user}
use Rattle.ring_laws.proofs.attached.AttachedUser.{attached_same}
use Rattle.ring_laws.proofs.opened.Opened.{flags-again, represents_opening}

at_zero : (s : SettingsData) → IsSettings s → attached_user (opening_state s) ≡ opening_user s
unfolding opening_user
at_zero s h =
    let z : 0 % s.ring ≡ 0 = let k : 4096 ≤ s.ring = h.ring.least in omega arith in
    ap (λ n. record (attached_user (opening_state s)) { place = n; tail = n }) z
    ∙ ap (λ (f : Flags). record (opening_user s) { flags = f }) (sym (flags-again s.flags))

pub attached_opening : (s : SettingsData) → IsSettings s → user_attached (opening_region s) ≡ Ok (opening_user s)
attached_opening s h =
    attached_same (opening_region s) (opening_target s).items (opening_state s) [] (sound_opening s h) (represents_opening s h).ring refl
    ∙ ap Ok (at_zero s h)
