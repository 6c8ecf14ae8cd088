-- Every step, and so every run, keeps a device sound; and a run goes on by one step.
use Rattle.std.proofs.Common.{true, false, List, [], ◌∷◌, ◌++◌, refl, sym, subst}
use Rattle.tcmu_types.specs.Events.{EntryData}
use Rattle.tcmu_types.specs.declared.answer.Submit.{Submit}
use Rattle.tcmu_types.specs.declared.answer.Enter.{Enter}
use Rattle.tcmu_types.specs.declared.answer.Tmr.{Tmr}
use Rattle.tcmu_model.specs.Device.{DeviceState, Device}
use Rattle.tcmu_model.specs.Events.{after_submit, after_enter, after_tmr}
use Rattle.tcmu_model.specs.Steps.{HandlerRelation, Step, Run}
use Rattle.tcmu_model.specs.Sound.{IsSound}
use Rattle.tcmu_model.proofs.KeptByEvents.{KeptByEvents, made}
use Rattle.tcmu_model.proofs.SoundSubmit.{sound_after_submit, sound_after_enter}
use Rattle.tcmu_model.proofs.SoundTurning.{sound_after_dispatch, sound_after_handle}
use Rattle.tcmu_model.proofs.SoundRespond.{sound_after_respond}
use Rattle.tcmu_model.proofs.SoundClean.{sound_after_clean}
use Rattle.tcmu_model.proofs.SoundEvents.{sound_after_publish, sound_after_tick, sound_after_block, sound_after_reset, sound_after_restart, sound_after_tmr}

each_event : (d : DeviceState) → IsSound d → KeptByEvents (λ e a after. IsSound after) d
each_event d h =
    record {
      submit = λ c a i q. subst (λ (x : Submit). IsSound (after_submit d c x)) (sym q) (sound_after_submit d c h i);
      enter = λ a q. subst (λ (x : Enter). IsSound (after_enter d x)) (sym q) (sound_after_enter d h);
      dispatch = λ a. sound_after_dispatch d h;
      replied = λ s u reply f w p. sound_after_handle d s reply u h f (record { rules = w; payload = p });
      not_out = λ s t. h;
      respond = λ s a. sound_after_respond d s h;
      publish = λ a. sound_after_publish d h;
      clean = λ n. sound_after_clean d h;
      tick = λ n count. sound_after_tick d n h;
      block = λ b. sound_after_block d true h;
      unblock = λ b. sound_after_block d false h;
      reset = λ level a q. sound_after_reset d level h;
      restart = λ n. sound_after_restart d h;
      tmr = λ kind ss a q. subst (λ (x : Tmr). IsSound (after_tmr d kind ss x)) (sym q) (sound_after_tmr d kind ss h);
      stat = λ a. h;
    }

pub sound_step : (R : HandlerRelation) (d d' : Device) (e : EntryData) → IsSound d.state → Step R d e d' → IsSound d'.state
sound_step R d d' e h s = made R (λ e a after. IsSound after) d d' e.event e.answer (each_event d.state h) s.makes

pub sound_run : (R : HandlerRelation) (d d' : Device) (es : List EntryData) → IsSound d.state → Run R d es d' → IsSound d'.state
sound_run R d d' [] h r = subst (λ (x : Device). IsSound x.state) (sym r) h
sound_run R d d' (e ∷ es) h r = sound_run R r.0 d' es (sound_step R d r.0 e h r.1) r.2

pub run_more : (R : HandlerRelation) (d m d' : Device) (es : List EntryData) (e : EntryData) → Run R d es m → Step R m e d' → Run R d (es ++ e ∷ []) d'
run_more R d m d' [] e h s = (d', subst (λ (x : Device). Step R x e d') h s, refl)
run_more R d m d' (x ∷ es) e h s = (h.0, h.1, run_more R h.0 m d' es e h.2 s)
