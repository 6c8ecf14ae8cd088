-- A device as it opens.
use Rattle.std.proofs.Common.{◌≡◌, true, List, [], Ok, Result, arith, refl, sym, ap, ◌∙◌, subst}
use Rattle.tcmu_types.specs.Data.{SettingsData}
use Rattle.tcmu_types.specs.Rules.{IsSettings}
use Rattle.tcmu_model.specs.Device.{opening_state}
use Rattle.tcmu_model.proofs.ListsKept.{lists_sound_opening}
use Rattle.tcmu_model.proofs.SoundEvents.{sound_opening}
use Rattle.region_model.specs.Regions.{RegionState, opening_region}
use Rattle.region_model.specs.Sides.{InHand, TargetState, UserState}
use Rattle.region_model.specs.TargetSteps.{opening_target}
use Rattle.region_model.specs.UserSteps.{opening_user, user_attached}
use Rattle.region_model.specs.declared.mailbox.MailboxFault.{MailboxFault}
use Rattle.ring_laws.proofs.opened.AttachedOpening.{attached_opening}
use Rattle.ring_laws.proofs.opened.Opened.{represents_opening}
use Rattle.user_lib.specs.OnDevice.{StandsFor}
use Rattle.ring_path.specs.Devices.{opening_device}
use Rattle.ring_path.specs.Rings.{IsRing}

pub stands_opening : (s : SettingsData) → IsSettings s → StandsFor (opening_region s) (opening_target s) (opening_user s) [] (opening_state s) []
stands_opening s h = record { sound = sound_opening s h; owned = lists_sound_opening s; represents = represents_opening s h }

same_user : (x y : UserState) → ◌≡◌ {A = Result UserState MailboxFault} (Ok x) (Ok y) → x ≡ y
same_user x y q = cc

pub ring_opening : (s : SettingsData) (r : RegionState) (t : TargetState) (u : UserState) (hand : List InHand) → IsSettings s → r ≡ opening_region s → t ≡ opening_target s → user_attached r ≡ Ok u → hand ≡ [] → IsRing r t u hand true 0 (opening_device s)
ring_opening s r t u hand h e f g i =
    let user : u ≡ opening_user s = sym (same_user (opening_user s) u (sym (attached_opening s h) ∙ ap user_attached (sym e) ∙ g)) in
    subst (λ (x : RegionState). IsRing x t u hand true 0 (opening_device s)) (sym e)
    (subst (λ (x : TargetState). IsRing (opening_region s) x u hand true 0 (opening_device s)) (sym f)
    (subst (λ (x : UserState). IsRing (opening_region s) (opening_target s) x hand true 0 (opening_device s)) (sym user)
    (subst (λ (x : List InHand). IsRing (opening_region s) (opening_target s) (opening_user s) x true 0 (opening_device s)) (sym i)
    (record { stands = stands_opening s h; attached = refl; notes = tt; few = omega arith }))))
