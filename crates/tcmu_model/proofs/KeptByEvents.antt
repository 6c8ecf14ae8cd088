-- One walk over the events of a device: what holds of each event, its answer and the state that it leaves holds of every step.
use Rattle.std.proofs.Common.{◌≡◌, ℕ, ◌≤◌, Bool, true, false, List, length, Some, refl, sym, subst}
use Rattle.tcmu_types.specs.Data.{CommandData, ReplyData}
use Rattle.tcmu_types.specs.Rules.{IsCommand, IsReply}
use Rattle.tcmu_types.specs.Events.{EventData, AnswerData, DispatchData}
use Rattle.tcmu_types.specs.Events as ev
use Rattle.tcmu_types.specs.declared.answer.Submit.{Submit}
use Rattle.tcmu_types.specs.declared.answer.Enter.{Enter}
use Rattle.tcmu_types.specs.declared.answer.Handle.{Handle}
use Rattle.tcmu_types.specs.declared.answer.Handle.TheVariants as handle
use Rattle.tcmu_types.specs.declared.answer.Respond.{Respond}
use Rattle.tcmu_types.specs.declared.answer.Publish.{Publish}
use Rattle.tcmu_types.specs.declared.answer.Reset.{Reset}
use Rattle.tcmu_types.specs.declared.answer.Tmr.{Tmr}
use Rattle.tcmu_types.specs.declared.stat.Stat.{Stat}
use Rattle.tcmu_model.specs.Device.{Unfinished, DeviceState, Device}
use Rattle.tcmu_model.specs.Events.{submit_answer, after_submit, enter_answer, after_enter, after_dispatch, command_out, after_handle, after_respond, after_publish, after_clean, after_tick, after_block, reset_answer, after_reset, after_restart, tmr_answer, after_tmr}
use Rattle.tcmu_model.specs.Steps.{HandlerRelation, Makes, Handles}

-- P holds of each event of this device, with its answer and the state that it leaves
pub record KeptByEvents (P : EventData → AnswerData → DeviceState → Type 0) (d : DeviceState) : Type 0 where
  pub submit : (c : CommandData) (a : Submit) → IsCommand c → a ≡ submit_answer d c → P (ev.Submit c) (ev.Submitted a) (after_submit d c a)
  pub enter : (a : Enter) → a ≡ enter_answer d → P ev.Enter (ev.Entered a) (after_enter d a)
  pub dispatch : (a : DispatchData) → P ev.Dispatch (ev.Dispatched a) (after_dispatch d)
  pub replied : (s : ℕ) (u : Unfinished) (reply : ReplyData) → command_out d s ≡ Some u → IsReply reply → length reply.payload ≤ u.command.in_len → P (ev.Handle s) (ev.Answered (handle.Done reply)) (after_handle d s reply)
  pub not_out : (s t : ℕ) → P (ev.Handle s) (ev.Answered (handle.NotOut t)) d
  pub respond : (s : ℕ) (a : Respond) → P (ev.Respond s) (ev.Responded a) (after_respond d s)
  pub publish : (a : Publish) → P ev.Publish (ev.Published a) (after_publish d)
  pub clean : (n : ℕ) → P ev.Clean (ev.Logged n) (after_clean d)
  pub tick : (n count : ℕ) → P (ev.Tick n) (ev.Logged count) (after_tick d n)
  pub block : (b : Bool) → P ev.Block (ev.Changed b) (after_block d true)
  pub unblock : (b : Bool) → P ev.Unblock (ev.Changed b) (after_block d false)
  pub reset : (level : ℕ) (a : Reset) → a ≡ reset_answer d level → P (ev.Reset level) (ev.WasReset a) (after_reset d level)
  pub restart : (n : ℕ) → P ev.Restart (ev.Lost n) (after_restart d)
  pub tmr : (kind : ℕ) (ss : List ℕ) (a : Tmr) → a ≡ tmr_answer d ss → P (ev.Tmr kind ss) (ev.Noted a) (after_tmr d kind ss a)
  pub stat : (a : Stat) → P ev.Stat (ev.Told a) d

handled : (R : HandlerRelation) (P : EventData → AnswerData → DeviceState → Type 0) (d d' : Device) (s : ℕ) (a : Handle) → KeptByEvents P d.state → Handles R d s a d' → P (ev.Handle s) (ev.Answered a) d'.state
handled R P d d' s (handle.Done reply) k m = subst (P (ev.Handle s) (ev.Answered (handle.Done reply))) (sym m.1.state) (k.replied s m.0 reply m.1.found m.1.whole m.1.payload)
handled R P d d' s (handle.NotOut t) k m = subst (λ (x : Device). P (ev.Handle s) (ev.Answered (handle.NotOut t)) x.state) (sym m.2) (k.not_out s t)

pub made : (R : HandlerRelation) (P : EventData → AnswerData → DeviceState → Type 0) (d d' : Device) (e : EventData) (a : AnswerData) → KeptByEvents P d.state → Makes R d e a d' → P e a d'.state
made R P d d' (ev.Submit c) (ev.Submitted a) k m = subst (λ (x : Device). P (ev.Submit c) (ev.Submitted a) x.state) (sym m.after) (k.submit c a m.command m.answer)
made R P d d' ev.Dispatch (ev.Dispatched a) k m = subst (λ (x : Device). P ev.Dispatch (ev.Dispatched a) x.state) (sym m.after) (k.dispatch a)
made R P d d' (ev.Handle s) (ev.Answered a) k m = handled R P d d' s a k m
made R P d d' (ev.Respond s) (ev.Responded a) k m = subst (λ (x : Device). P (ev.Respond s) (ev.Responded a) x.state) (sym m.after) (k.respond s a)
made R P d d' ev.Publish (ev.Published a) k m = subst (λ (x : Device). P ev.Publish (ev.Published a) x.state) (sym m.after) (k.publish a)
made R P d d' ev.Clean (ev.Logged n) k m = subst (λ (x : Device). P ev.Clean (ev.Logged n) x.state) (sym m.after) (k.clean n)
made R P d d' (ev.Tick n) (ev.Logged count) k m = subst (λ (x : Device). P (ev.Tick n) (ev.Logged count) x.state) (sym m.after) (k.tick n count)
made R P d d' ev.Block (ev.Changed b) k m = subst (λ (x : Device). P ev.Block (ev.Changed b) x.state) (sym m.after) (k.block b)
made R P d d' ev.Unblock (ev.Changed b) k m = subst (λ (x : Device). P ev.Unblock (ev.Changed b) x.state) (sym m.after) (k.unblock b)
made R P d d' (ev.Reset level) (ev.WasReset a) k m = subst (λ (x : Device). P (ev.Reset level) (ev.WasReset a) x.state) (sym m.after) (k.reset level a m.answer)
made R P d d' ev.Restart (ev.Lost n) k m = subst (λ (x : Device). P ev.Restart (ev.Lost n) x.state) (sym m.after) (k.restart n)
made R P d d' (ev.Tmr kind ss) (ev.Noted a) k m = subst (λ (x : Device). P (ev.Tmr kind ss) (ev.Noted a) x.state) (sym m.after) (k.tmr kind ss a m.answer)
made R P d d' ev.Stat (ev.Told a) k m = subst (λ (x : Device). P ev.Stat (ev.Told a) x.state) (sym m.after) (k.stat a)
made R P d d' ev.Enter (ev.Entered a) k m = subst (λ (x : Device). P ev.Enter (ev.Entered a) x.state) (sym m.after) (k.enter a m.answer)
made R P d d' _ _ k m = absurd m

-- ==== the state behind an event is told by the event and its answer

pub state_after : DeviceState → EventData → AnswerData → DeviceState
state_after d (ev.Submit c) (ev.Submitted a) = after_submit d c a
state_after d ev.Enter (ev.Entered a) = after_enter d a
state_after d ev.Dispatch answer = after_dispatch d
state_after d (ev.Handle s) (ev.Answered (handle.Done reply)) = after_handle d s reply
state_after d (ev.Respond s) answer = after_respond d s
state_after d ev.Publish answer = after_publish d
state_after d ev.Clean answer = after_clean d
state_after d (ev.Tick n) answer = after_tick d n
state_after d ev.Block answer = after_block d true
state_after d ev.Unblock answer = after_block d false
state_after d (ev.Reset level) answer = after_reset d level
state_after d ev.Restart answer = after_restart d
state_after d (ev.Tmr kind ss) (ev.Noted a) = after_tmr d kind ss a
state_after d event answer = d

pub made_state : (R : HandlerRelation) (d d' : Device) (e : EventData) (a : AnswerData) → Makes R d e a d' → d'.state ≡ state_after d.state e a
unfolding state_after
made_state R d d' e a m =
    made R (λ e a s. s ≡ state_after d.state e a) d d' e a
    (record {
      submit = λ c a i q. refl;
      enter = λ a q. refl;
      dispatch = λ a. refl;
      replied = λ s u reply f w p. refl;
      not_out = λ s t. refl;
      respond = λ s a. refl;
      publish = λ a. refl;
      clean = λ n. refl;
      tick = λ n count. refl;
      block = λ b. refl;
      unblock = λ b. refl;
      reset = λ level a q. refl;
      restart = λ n. refl;
      tmr = λ kind ss a q. refl;
      stat = λ a. refl;
    })
    m
