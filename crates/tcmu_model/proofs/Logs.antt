-- A log only grows: no event takes a completion back.
use Rattle.std.proofs.Common.{◌≡◌, ℕ, Bool, true, false, cond, ◌&&◌, nat_eq, List, [], ◌∷◌, ◌++◌, Option, Some, None, refl, sym, ap, ◌∙◌, append_assoc}
use Rattle.std.proofs.lemmas.List.{append-nil}
use Rattle.tcmu_types.specs.Data.{CommandData, ReplyData, DoneData}
use Rattle.tcmu_types.specs.Events.{EventData, AnswerData}
use Rattle.tcmu_types.specs.declared.answer.Submit.{Submit}
use Rattle.tcmu_types.specs.declared.answer.Tmr.{Tmr}
use Rattle.tcmu_model.specs.declared.state.CommandState.TheVariants.{Placed}
use Rattle.tcmu_types.specs.Lists.{first_of, without_first}
use Rattle.tcmu_model.specs.Device.{Unfinished, DeviceState, Device, is_at}
use Rattle.tcmu_model.specs.Events.{after_submit, with_command, with_delayed, after_handle, Books, finish, finish_all, books, answered, completions, after_clean, after_tick, after_block, emptied, count_in_hand, after_reset, after_restart, with_note, after_tmr}
use Rattle.tcmu_model.specs.Steps.{HandlerRelation, Makes}
use Rattle.tcmu_model.proofs.KeptByEvents.{KeptByEvents, made}
use Rattle.tcmu_model.proofs.Unnamed.{submit_kept, enter_kept, dispatch_kept, respond_kept, publish_kept, tmr_kept}

-- the later log is the earlier one with more behind it
abbrev pub Grows : List DoneData → List DoneData → Type 0
Grows old new = (more : List DoneData) × (new ≡ old ++ more)

same : (old new : List DoneData) → new ≡ old → Grows old new
same old new e = ([], e ∙ sym (append-nil old))

then : (a b c : List DoneData) → Grows a b → Grows b c → Grows a c
then a b c g h = (g.0 ++ h.0, h.1 ∙ ap (λ (l : List DoneData). l ++ h.0) g.1 ∙ append_assoc a g.0 h.0)

pub after_submit_same : (d : DeviceState) (c : CommandData) (a : Submit) → (after_submit d c a).log ≡ d.log
unfolding with_command with_delayed
after_submit_same d c a = submit_kept (λ x. x.log) d c a (λ s. refl) (λ s. refl)

finish_grows : (read_len : Bool) (b : Books) (s : ℕ) → Grows b.log (finish read_len b s).log
finish_grows read_len b s = go (first_of (is_at s Placed) b.unfinished)
  where
    go : (o : Option Unfinished) → Grows b.log (elim o as (λ x. Books) [ None ↦ b | Some u ↦ record { unfinished = without_first (is_at s Placed) b.unfinished; log = b.log ++ completions read_len u } ]).log
    go None = same b.log b.log refl
    go (Some u) = (completions read_len u, refl)

finish_all_grows : (read_len : Bool) (b : Books) (ss : List ℕ) → Grows b.log (finish_all read_len b ss).log
finish_all_grows read_len b [] = same b.log b.log refl
finish_all_grows read_len b (s ∷ ss) =
    then b.log (finish read_len b s).log (finish_all read_len (finish read_len b s) ss).log (finish_grows read_len b s) (finish_all_grows read_len (finish read_len b s) ss)

after_clean_grows : (d : DeviceState) → Grows d.log (after_clean d).log
unfolding after_clean
after_clean_grows d = finish_all_grows d.settings.flags.read_len (books d) (answered d)

after_tick_grows : (d : DeviceState) (n : ℕ) → Grows d.log (after_tick d n).log
unfolding after_tick
after_tick_grows d n = (_, refl)

after_reset_grows : (d : DeviceState) (level : ℕ) → Grows d.log (after_reset d level).log
unfolding after_reset
after_reset_grows d level = go (d.blocked && nat_eq (count_in_hand d) 0)
  where
    go : (b : Bool) → Grows d.log (cond b (emptied (after_clean d) level) d).log
    go true = then d.log (after_clean d).log (emptied (after_clean d) level).log (after_clean_grows d) (_, refl)
    go false = same d.log d.log refl

pub after_tmr_same : (d : DeviceState) (kind : ℕ) (ss : List ℕ) (a : Tmr) → (after_tmr d kind ss a).log ≡ d.log
unfolding with_note
after_tmr_same d kind ss a = tmr_kept (λ x. x.log) d kind ss a refl

pub handled_same : (d : DeviceState) (s : ℕ) (reply : ReplyData) → (after_handle d s reply).log ≡ d.log
unfolding after_handle
handled_same d s reply = refl

pub restarted_same : (d : DeviceState) → (after_restart d).log ≡ d.log
unfolding after_restart
restarted_same d = refl

pub block_same : (d : DeviceState) (b : Bool) → (after_block d b).log ≡ d.log
unfolding after_block
block_same d b = refl

each_event : (d : DeviceState) → KeptByEvents (λ e a after. Grows d.log after.log) d
unfolding with_command
each_event d =
    record {
      submit = λ c a i q. same d.log _ (after_submit_same d c a);
      enter = λ a q. same d.log _ (enter_kept (λ x. x.log) d a (λ w ws. refl));
      dispatch = λ a. same d.log _ (dispatch_kept (λ x. x.log) d (λ i. refl));
      replied = λ s u reply f w p. same d.log _ (handled_same d s reply);
      not_out = λ s t. same d.log d.log refl;
      respond = λ s a. same d.log _ (respond_kept (λ x. x.log) d s refl);
      publish = λ a. same d.log _ (publish_kept (λ x. x.log) d refl);
      clean = λ n. after_clean_grows d;
      tick = λ n count. after_tick_grows d n;
      block = λ b. same d.log _ (block_same d true);
      unblock = λ b. same d.log _ (block_same d false);
      reset = λ level a q. after_reset_grows d level;
      restart = λ n. same d.log _ (restarted_same d);
      tmr = λ kind ss a q. same d.log _ (after_tmr_same d kind ss a);
      stat = λ a. same d.log d.log refl;
    }

pub makes_grows : (R : HandlerRelation) (d d' : Device) (e : EventData) (a : AnswerData) → Makes R d e a d' → Grows d.state.log d'.state.log
makes_grows R d d' e a m = made R (λ e a after. Grows d.state.log after.log) d d' e a (each_event d.state) m
