use Rattle.tcmu_model.proofs.SoundSubmit.{sound_after_submit, sound_after_enter}
use Rattle.tcmu_model.proofs.SoundTurning.{sound_after_dispatch, sound_after_handle}
use Rattle.tcmu_model.proofs.SoundRespond.{sound_after_respond}
use Rattle.tcmu_model.proofs.SoundClean.{sound_after_clean}
use Rattle.tcmu_model.proofs.SoundEvents.{sound_after_publish, sound_after_tick, sound_after_block, sound_after_reset, sound_after_restart, sound_after_tmr}
use Rattle.tcmu_model.proofs.laws_sound.events_keep_sound.Goals as goal

pub returns : goal.returns
returns c =
    record {
      submit = sound_after_submit;
      enter = sound_after_enter;
      dispatch = sound_after_dispatch;
      handle = sound_after_handle;
      respond = sound_after_respond;
      publish = sound_after_publish;
      clean = sound_after_clean;
      tick = sound_after_tick;
      block = sound_after_block;
      reset = sound_after_reset;
      restart = sound_after_restart;
      tmr = sound_after_tmr;
    }
