-- How many commands a device has accepted: a submit brings at most one, and other events bring none.
use Rattle.std.proofs.Common.{◌≡◌, ℕ, ◌+◌, ◌≤◌, Bool, true, false, cond, List, refl, sym, ap, ◌∙◌, arith, subst}
use Rattle.tcmu_types.specs.Data.{CommandData, ReplyData}
use Rattle.tcmu_types.specs.Events.{EventData, AnswerData}
use Rattle.tcmu_types.specs.Events as ev
use Rattle.tcmu_types.specs.declared.answer.Submit.{Submit}
use Rattle.tcmu_types.specs.declared.answer.Submit.TheVariants as submit
use Rattle.tcmu_types.specs.declared.answer.Handle.TheVariants as handle
use Rattle.tcmu_types.specs.declared.answer.Tmr.{Tmr}
use Rattle.tcmu_types.specs.declared.answer.Tmr.TheVariants as tmr
use Rattle.tcmu_model.specs.Device.{DeviceState, Device}
use Rattle.tcmu_model.specs.Events.{after_submit, with_command, with_delayed, after_dispatch, after_enter, after_respond, after_publish, after_handle, after_clean, after_tick, after_block, after_reset, after_restart, with_note, after_tmr}
use Rattle.tcmu_model.specs.Steps.{HandlerRelation, Makes, most_accepted}
use Rattle.tcmu_model.proofs.Unnamed.{enter_kept, dispatch_kept, respond_kept, publish_kept, reset_kept, tmr_kept}
use Rattle.tcmu_model.proofs.KeptByEvents.{KeptByEvents, made}

pub accepts_one : (e : EventData) → most_accepted e ≤ 1
accepts_one (ev.Submit c) = omega arith
accepts_one ev.Dispatch = omega arith
accepts_one (ev.Handle s) = omega arith
accepts_one (ev.Respond s) = omega arith
accepts_one ev.Publish = omega arith
accepts_one ev.Clean = omega arith
accepts_one (ev.Tick k) = omega arith
accepts_one ev.Block = omega arith
accepts_one ev.Unblock = omega arith
accepts_one (ev.Reset k) = omega arith
accepts_one ev.Restart = omega arith
accepts_one (ev.Tmr k ss) = omega arith
accepts_one ev.Stat = omega arith
accepts_one ev.Enter = omega arith

-- at most so many commands were accepted, and none was taken back
pub record AcceptsUpTo (n : ℕ) (d d' : DeviceState) : Type 0 where
  pub least : d.accepted ≤ d'.accepted
  pub most : d'.accepted ≤ d.accepted + n

after_submit_accepts : (d : DeviceState) (c : CommandData) (a : Submit) → AcceptsUpTo 1 d (after_submit d c a)
unfolding after_submit with_command with_delayed
after_submit_accepts d c (submit.Queued s) = record { least = omega arith; most = omega arith }
after_submit_accepts d c (submit.Delayed s) = record { least = omega arith; most = omega arith }
after_submit_accepts d c submit.Busy = record { least = omega arith; most = omega arith }
after_submit_accepts d c (submit.TooBig have limit) = record { least = omega arith; most = omega arith }
after_submit_accepts d c (submit.FullRing need free) = record { least = omega arith; most = omega arith }
after_submit_accepts d c (submit.FullBlocks need free) = record { least = omega arith; most = omega arith }

same : (d d' : DeviceState) → d'.accepted ≡ d.accepted → AcceptsUpTo 0 d d'
same d d' e = record { least = omega (arith, e); most = omega (arith, e) }

accepts_kept : (d : DeviceState) → KeptByEvents (λ e a after. AcceptsUpTo (most_accepted e) d after) d
unfolding after_handle after_clean after_tick after_block after_restart with_command with_note
accepts_kept d =
    record {
      submit = λ c a i q. after_submit_accepts d c a;
      enter = λ a q. same d (after_enter d a) (enter_kept (λ x. x.accepted) d a (λ w ws. refl));
      dispatch = λ a. same d (after_dispatch d) (dispatch_kept (λ x. x.accepted) d (λ i. refl));
      replied = λ s u reply f w p. same d (after_handle d s reply) refl;
      not_out = λ s t. same d d refl;
      respond = λ s a. same d (after_respond d s) (respond_kept (λ x. x.accepted) d s refl);
      publish = λ a. same d (after_publish d) (publish_kept (λ x. x.accepted) d refl);
      clean = λ n. same d (after_clean d) refl;
      tick = λ n count. same d (after_tick d n) refl;
      block = λ b. same d (after_block d true) refl;
      unblock = λ b. same d (after_block d false) refl;
      reset = λ level a q. same d (after_reset d level) (reset_kept (λ x. x.accepted) d level refl);
      restart = λ n. same d (after_restart d) refl;
      tmr = λ kind ss a q. same d (after_tmr d kind ss a) (tmr_kept (λ x. x.accepted) d kind ss a refl);
      stat = λ a. same d d refl;
    }

pub makes_accepts : (R : HandlerRelation) (d d' : Device) (e : EventData) (a : AnswerData) → Makes R d e a d' → AcceptsUpTo (most_accepted e) d.state d'.state
makes_accepts R d d' e a h = made R (λ event answer after. AcceptsUpTo (most_accepted event) d.state after) d d' e a (accepts_kept d.state) h
