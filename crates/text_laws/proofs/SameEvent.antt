-- One event on devices in one state: where its answers have one text they are the same, and the devices are in one state after it.
use Rattle.std.proofs.Common.{◌≡◌, ℕ, ◌^◌, ◌<◌, true, false, length, Some, None, sym, ap, ◌∙◌, arith}
use Rattle.tcmu_types.specs.Data.{ReplyData}
use Rattle.tcmu_types.specs.Events.{EventData, AnswerData}
use Rattle.tcmu_types.specs.Events as ev
use Rattle.tcmu_types.specs.declared.answer.Handle.{Handle}
use Rattle.tcmu_types.specs.declared.answer.Handle.TheVariants as handle
use Rattle.tcmu_types.specs.Rules.{IsCommand}
use Rattle.tcmu_model.specs.declared.state.CommandState.TheVariants.{Out}
use Rattle.tcmu_model.specs.Device.{Unfinished, DeviceState, Device, is_at}
use Rattle.tcmu_model.specs.Events.{submit_answer, after_submit, enter_answer, after_enter, dispatch_answer, after_dispatch, command_out, after_handle, respond_answer, after_respond, publish_answer, after_publish, clean_answer, after_clean, tick_answer, after_tick, block_answer, after_block, reset_answer, after_reset, restart_answer, after_restart, tmr_answer, after_tmr, stat_answer}
use Rattle.tcmu_model.specs.Steps.{HandlerRelation, Handles, Makes, Replies}
use Rattle.tcmu_model.specs.Sound.{IsSound}
use Rattle.text_model.specs.Text.{answer_text, handle_text}
use Rattle.tcmu_model.proofs.DrainEnds.{rows_commands}
use Rattle.tcmu_types.proofs.Everies.{every-first}
use Rattle.text_laws.proofs.Told.{reply_told}

-- a device that was moved is in the state that it was moved to
moved_to : (d m : Device) (s : DeviceState) → m ≡ record d { state = s } → m.state ≡ s
moved_to d m s e = ap (λ (x : Device). x.state) e

-- the state after an event is a function of the state before it
both_after : (d e m n : Device) (after : DeviceState → DeviceState) → d.state ≡ e.state → m ≡ record d { state = after d.state } → n ≡ record e { state = after e.state } → m.state ≡ n.state
both_after d e m n after same p q = moved_to d m (after d.state) p ∙ ap after same ∙ sym (moved_to e n (after e.state) q)

-- and of the answer
both_answered : {A : Type 0} (d e m n : Device) (a b : A) (after : DeviceState → A → DeviceState) → d.state ≡ e.state → a ≡ b → m ≡ record d { state = after d.state a } → n ≡ record e { state = after e.state b } → m.state ≡ n.state
both_answered {A} d e m n a b after same one p q =
    moved_to d m (after d.state a) p ∙ ap (λ (s : DeviceState). after s a) same ∙ ap (after e.state) one ∙ sym (moved_to e n (after e.state b) q)

both_told : {A : Type 0} (answer : DeviceState → A) (d e : Device) (a b : A) → d.state ≡ e.state → a ≡ answer d.state → b ≡ answer e.state → a ≡ b
both_told {A} answer d e a b same p q = p ∙ ap answer same ∙ sym q

-- ---- handle

payload_fits : (R : HandlerRelation) (d m : Device) (s : ℕ) (u : Unfinished) (reply : ReplyData) → IsSound d.state → Replies R d s u reply m → length reply.payload < 2 ^ 64
payload_fits R d m s u reply sound h =
    let command = every-first (is_at s Out) (λ v. IsCommand v.command) d.state.unfinished u (rows_commands d.state sound) h.found in
    omega (arith, h.payload, command.in_len)

no_such : (u : Unfinished) → Some u ≡ None → ⊥
no_such u x = cc

same_handle : (R Q : HandlerRelation) (d e m n : Device) (s : ℕ) (a b : Handle) → d.state ≡ e.state → IsSound d.state → IsSound e.state → handle_text a ≡ handle_text b → Handles R d s a m → Handles Q e s b n → (a ≡ b) × (m.state ≡ n.state)
same_handle R Q d e m n s (handle.NotOut t) (handle.NotOut u) same sound sound' text h k =
    (ap handle.NotOut (h.0 ∙ sym k.0), ap (λ (x : Device). x.state) h.2 ∙ same ∙ sym (ap (λ (x : Device). x.state) k.2))
same_handle R Q d e m n s (handle.NotOut t) (handle.Done reply) same sound sound' text h k =
    absurd (no_such k.0 (sym k.1.found ∙ ap (λ (x : DeviceState). command_out x s) (sym same) ∙ h.1))
same_handle R Q d e m n s (handle.Done reply) (handle.NotOut t) same sound sound' text h k =
    absurd (no_such h.0 (sym h.1.found ∙ ap (λ (x : DeviceState). command_out x s) same ∙ k.1))
same_handle R Q d e m n s (handle.Done p) (handle.Done q) same sound sound' text h k =
    let one = reply_told p q (payload_fits R d m s h.0 p sound h.1) (payload_fits Q e n s k.0 q sound' k.1) text in
    (ap handle.Done one, h.1.state ∙ ap (λ (x : DeviceState). after_handle x s p) same ∙ ap (after_handle e.state s) one ∙ sym k.1.state)

-- ---- every event

pub same_event : (R Q : HandlerRelation) (d e m n : Device) (qfull : ℕ) (event : EventData) (a b : AnswerData) → d.state ≡ e.state → IsSound d.state → IsSound e.state → answer_text qfull event a ≡ answer_text qfull event b
    → Makes R d event a m → Makes Q e event b n → (a ≡ b) × (m.state ≡ n.state)
unfolding answer_text
same_event R Q d e m n qfull (ev.Submit c) (ev.Submitted a) (ev.Submitted b) same sound sound' text h k =
    let one = both_told (λ s. submit_answer s c) d e a b same h.answer k.answer in (ap ev.Submitted one, both_answered d e m n a b (λ s. after_submit s c) same one h.after k.after)
same_event R Q d e m n qfull ev.Dispatch (ev.Dispatched a) (ev.Dispatched b) same sound sound' text h k = (ap ev.Dispatched (both_told dispatch_answer d e a b same h.answer k.answer), both_after d e m n after_dispatch same h.after k.after)
same_event R Q d e m n qfull (ev.Handle s) (ev.Answered a) (ev.Answered b) same sound sound' text h k = let x = same_handle R Q d e m n s a b same sound sound' text h k in (ap ev.Answered x.0, x.1)
same_event R Q d e m n qfull (ev.Respond s) (ev.Responded a) (ev.Responded b) same sound sound' text h k = (ap ev.Responded (both_told (λ x. respond_answer x s) d e a b same h.answer k.answer), both_after d e m n (λ x. after_respond x s) same h.after k.after)
same_event R Q d e m n qfull ev.Publish (ev.Published a) (ev.Published b) same sound sound' text h k = (ap ev.Published (both_told publish_answer d e a b same h.answer k.answer), both_after d e m n after_publish same h.after k.after)
same_event R Q d e m n qfull ev.Clean (ev.Logged a) (ev.Logged b) same sound sound' text h k = (ap ev.Logged (both_told clean_answer d e a b same h.answer k.answer), both_after d e m n after_clean same h.after k.after)
same_event R Q d e m n qfull (ev.Tick t) (ev.Logged a) (ev.Logged b) same sound sound' text h k = (ap ev.Logged (both_told (λ x. tick_answer x t) d e a b same h.answer k.answer), both_after d e m n (λ x. after_tick x t) same h.after k.after)
same_event R Q d e m n qfull ev.Block (ev.Changed a) (ev.Changed b) same sound sound' text h k = (ap ev.Changed (both_told (λ x. block_answer x true) d e a b same h.answer k.answer), both_after d e m n (λ x. after_block x true) same h.after k.after)
same_event R Q d e m n qfull ev.Unblock (ev.Changed a) (ev.Changed b) same sound sound' text h k = (ap ev.Changed (both_told (λ x. block_answer x false) d e a b same h.answer k.answer), both_after d e m n (λ x. after_block x false) same h.after k.after)
same_event R Q d e m n qfull (ev.Reset level) (ev.WasReset a) (ev.WasReset b) same sound sound' text h k = (ap ev.WasReset (both_told (λ x. reset_answer x level) d e a b same h.answer k.answer), both_after d e m n (λ x. after_reset x level) same h.after k.after)
same_event R Q d e m n qfull ev.Restart (ev.Lost a) (ev.Lost b) same sound sound' text h k = (ap ev.Lost (both_told restart_answer d e a b same h.answer k.answer), both_after d e m n after_restart same h.after k.after)
same_event R Q d e m n qfull (ev.Tmr kind ss) (ev.Noted a) (ev.Noted b) same sound sound' text h k =
    let one = both_told (λ x. tmr_answer x ss) d e a b same h.answer k.answer in (ap ev.Noted one, both_answered d e m n a b (λ s. after_tmr s kind ss) same one h.after k.after)
same_event R Q d e m n qfull ev.Stat (ev.Told a) (ev.Told b) same sound sound' text h k =
    (ap ev.Told (both_told stat_answer d e a b same h.answer k.answer), ap (λ (x : Device). x.state) h.after ∙ same ∙ sym (ap (λ (x : Device). x.state) k.after))
same_event R Q d e m n qfull ev.Enter (ev.Entered a) (ev.Entered b) same sound sound' text h k =
    let one = both_told enter_answer d e a b same h.answer k.answer in (ap ev.Entered one, both_answered d e m n a b after_enter same one h.after k.after)
same_event R Q d e m n qfull (ev.Submit c) (ev.Submitted a) _ same sound sound' text h k = absurd k
same_event R Q d e m n qfull ev.Dispatch (ev.Dispatched a) _ same sound sound' text h k = absurd k
same_event R Q d e m n qfull (ev.Handle s) (ev.Answered a) _ same sound sound' text h k = absurd k
same_event R Q d e m n qfull (ev.Respond s) (ev.Responded a) _ same sound sound' text h k = absurd k
same_event R Q d e m n qfull ev.Publish (ev.Published a) _ same sound sound' text h k = absurd k
same_event R Q d e m n qfull ev.Clean (ev.Logged a) _ same sound sound' text h k = absurd k
same_event R Q d e m n qfull (ev.Tick t) (ev.Logged a) _ same sound sound' text h k = absurd k
same_event R Q d e m n qfull ev.Block (ev.Changed a) _ same sound sound' text h k = absurd k
same_event R Q d e m n qfull ev.Unblock (ev.Changed a) _ same sound sound' text h k = absurd k
same_event R Q d e m n qfull (ev.Reset level) (ev.WasReset a) _ same sound sound' text h k = absurd k
same_event R Q d e m n qfull ev.Restart (ev.Lost a) _ same sound sound' text h k = absurd k
same_event R Q d e m n qfull (ev.Tmr kind ss) (ev.Noted a) _ same sound sound' text h k = absurd k
same_event R Q d e m n qfull ev.Stat (ev.Told a) _ same sound sound' text h k = absurd k
same_event R Q d e m n qfull ev.Enter (ev.Entered a) _ same sound sound' text h k = absurd k
same_event R Q d e m n qfull _ _ _ same sound sound' text h k = absurd h
