-- Each call that answers a result keeps a device sound: on success by its event, and else as it was.
use Rattle.std.proofs.Common.{◌≡◌, ℕ, List, length, ◌≤◌, Result, Ok, Err, IfOk, OnOk, OnErr, sym, ap, subst, ◌∙◌}
use Rattle.tcmu_types.specs.Data.{CommandData, ReplyData}
use Rattle.tcmu_types.specs.Rules.{IsCommand, IsReply}
use Rattle.tcmu_types.specs.declared.answer.Submit.{Submit}
use Rattle.tcmu_types.specs.declared.answer.Enter.{Enter}
use Rattle.tcmu_types.specs.declared.answer.Tmr.{Tmr}
use Rattle.tcmu_model.specs.Device.{DeviceState}
use Rattle.tcmu_model.specs.Events.{submit_answer, after_submit, enter_answer, after_enter, after_dispatch, after_handle, tmr_answer, after_tmr}
use Rattle.tcmu_model.specs.Steps.{Asked}
use Rattle.tcmu_model.specs.Sound.{IsSound}
use Rattle.tcmu_path.specs.Requests.{IsRequest}
use Rattle.tcmu_model.proofs.SoundSubmit.{sound_after_submit, sound_after_enter}
use Rattle.tcmu_model.proofs.SoundTurning.{sound_after_dispatch, sound_after_handle}
use Rattle.tcmu_model.proofs.SoundEvents.{sound_after_tmr}

pub keeps_submit : {E : Type 0} (r : Result Submit E) (d d' : DeviceState) (c : CommandData) → IsSound d → IsCommand c → IfOk r (λ a. a ≡ submit_answer d c) → IfOk r (λ a. d' ≡ after_submit d c a) → OnErr r (d' ≡ d) → IsSound d'
keeps_submit (Ok a) d d' c s k answer after same = subst (λ (x : DeviceState). IsSound x) (sym (after ∙ ap (after_submit d c) answer)) (sound_after_submit d c s k)
keeps_submit (Err e) d d' c s k answer after same = subst (λ (x : DeviceState). IsSound x) (sym same) s

pub keeps_enter : {E : Type 0} (r : Result Enter E) (d d' : DeviceState) → IsSound d → IfOk r (λ a. a ≡ enter_answer d) → IfOk r (λ a. d' ≡ after_enter d a) → OnErr r (d' ≡ d) → IsSound d'
keeps_enter (Ok a) d d' s answer after same = subst (λ (x : DeviceState). IsSound x) (sym (after ∙ ap (after_enter d) answer)) (sound_after_enter d s)
keeps_enter (Err e) d d' s answer after same = subst (λ (x : DeviceState). IsSound x) (sym same) s

pub keeps_tmr : {E : Type 0} (r : Result Tmr E) (d d' : DeviceState) (kind : ℕ) (ss : List ℕ) → IsSound d → IfOk r (λ a. a ≡ tmr_answer d ss) → IfOk r (λ a. d' ≡ after_tmr d kind ss a) → OnErr r (d' ≡ d) → IsSound d'
keeps_tmr (Ok a) d d' kind ss s answer after same = subst (λ (x : DeviceState). IsSound x) (sym (after ∙ ap (after_tmr d kind ss) answer)) (sound_after_tmr d kind ss s)
keeps_tmr (Err e) d d' kind ss s answer after same = subst (λ (x : DeviceState). IsSound x) (sym same) s

pub keeps_dispatch : {A E : Type 0} (r : Result A E) (d d' : DeviceState) → IsSound d → OnOk r (d' ≡ after_dispatch d) → OnErr r (d' ≡ d) → IsSound d'
keeps_dispatch (Ok a) d d' s after same = subst (λ (x : DeviceState). IsSound x) (sym after) (sound_after_dispatch d s)
keeps_dispatch (Err e) d d' s after same = subst (λ (x : DeviceState). IsSound x) (sym same) s

pub keeps_handle : (d d' : DeviceState) (serial : ℕ) (request : Asked) (reply : ReplyData) → IsSound d → IsRequest d serial request → IsReply reply → length reply.payload ≤ request.in_len → d' ≡ after_handle d serial reply → IsSound d'
keeps_handle d d' serial request reply s r k l after =
    let fits : length reply.payload ≤ r.command.command.in_len = subst (λ (n : ℕ). length reply.payload ≤ n) (ap (λ (a : Asked). a.in_len) r.asks) l in
    subst (λ (x : DeviceState). IsSound x) (sym after) (sound_after_handle d serial reply r.command s r.found (record { rules = k; payload = fits }))
