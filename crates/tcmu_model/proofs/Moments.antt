-- The clock of a device is the sum of its journal's ticks, and what a journal has it has when it is longer.
use Rattle.std.proofs.Common.{◌≡◌, inl, inr, ℕ, ◌+◌, ◌^◌, min, List, [], ◌∷◌, ◌++◌, Option, Some, None, refl, sym, ap, ◌∙◌, subst, arith, append_assoc}
use Rattle.std.specs.Prelude.{IfSome}
use Rattle.std.specs.List.{sum_by}
use Rattle.std.proofs.lemmas.List.Sums.{sum_by_push}
use Rattle.tcmu_types.specs.Data.{CommandData, ReplyData}
use Rattle.tcmu_types.specs.Events.{EventData, AnswerData, EntryData}
use Rattle.tcmu_model.specs.Device.{DeviceState, Device}
use Rattle.tcmu_model.specs.Events.{with_command, with_delayed, after_handle, after_clean, later, after_tick, after_block, after_restart, with_note}
use Rattle.tcmu_model.specs.Steps.{HandlerRelation, Step, Run}
use Rattle.tcmu_model.specs.Journals.{Has, WasDelayed, WasAccepted, HasReplied, ticks_of, moment, MadeAt, WasDelayedAt, WasLaidAt}
use Rattle.tcmu_model.proofs.KeptByEvents.{KeptByEvents, made}
use Rattle.tcmu_model.proofs.Unnamed.{submit_kept, enter_kept, dispatch_kept, respond_kept, publish_kept, reset_kept, tmr_kept}

-- ==== a longer journal

pub has_last : (es : List EntryData) (e : EntryData) → Has (es ++ e ∷ []) e.event e.answer
has_last [] e = inl (refl, refl)
has_last (x ∷ es) e = inr (has_last es e)

has_front : (es fs : List EntryData) (event : EventData) (answer : AnswerData) → Has es event answer → Has (es ++ fs) event answer
has_front [] fs event answer h = absurd h
has_front (x ∷ es) fs event answer (inl h) = inl h
has_front (x ∷ es) fs event answer (inr h) = inr (has_front es fs event answer h)

pub accepted_front : (es fs : List EntryData) (s : ℕ) (c : CommandData) → WasAccepted es s c → WasAccepted (es ++ fs) s c
accepted_front es fs s c (inl h) = inl (has_front es fs _ _ h)
accepted_front es fs s c (inr h) = inr (has_front es fs _ _ h)

pub replied_more : (es : List EntryData) (e : EntryData) (s : ℕ) (o : Option ReplyData) → IfSome o (HasReplied es s) → IfSome o (HasReplied (es ++ e ∷ []) s)
replied_more es e s None h = tt
replied_more es e s (Some reply) h = has_front es (e ∷ []) _ _ h

-- a split list with one more behind
pub split_more : (es before : List EntryData) (x : EntryData) (behind : List EntryData) (e : EntryData) → es ≡ before ++ x ∷ behind → es ++ e ∷ [] ≡ before ++ x ∷ (behind ++ e ∷ [])
split_more es before x behind e h = ap (λ (xs : List EntryData). xs ++ e ∷ []) h ∙ append_assoc before (x ∷ behind) (e ∷ [])

pub made_more : (es : List EntryData) (e : EntryData) (at : ℕ) (event : EventData) (answer : AnswerData) → MadeAt es at event answer → MadeAt (es ++ e ∷ []) at event answer
made_more es e at event answer h =
    record { before = h.before; entry = h.entry; behind = h.behind ++ e ∷ []; stands = split_more es h.before h.entry h.behind e h.stands; event_is = h.event_is; answer_is = h.answer_is; moment_is = h.moment_is }

pub made_last : (es : List EntryData) (e : EntryData) (at : ℕ) → at ≡ moment es → MadeAt (es ++ e ∷ []) at e.event e.answer
made_last es e at q = record { before = es; entry = e; behind = []; stands = refl; event_is = refl; answer_is = refl; moment_is = sym q }

pub has_within : (before : List EntryData) (x : EntryData) (behind : List EntryData) (event : EventData) (answer : AnswerData) → x.event ≡ event → x.answer ≡ answer → Has (before ++ x ∷ behind) event answer
has_within [] x behind event answer e a = inl (e, a)
has_within (y ∷ before) x behind event answer e a = inr (has_within before x behind event answer e a)

pub has_made : (es : List EntryData) (at : ℕ) (event : EventData) (answer : AnswerData) → MadeAt es at event answer → Has es event answer
has_made es at event answer h = subst (λ (xs : List EntryData). Has xs event answer) (sym h.stands) (has_within h.before h.entry h.behind event answer h.event_is h.answer_is)

pub delayed_more : (es : List EntryData) (e : EntryData) (at s : ℕ) (c : CommandData) → WasDelayedAt es at s c → WasDelayedAt (es ++ e ∷ []) at s c
delayed_more es e at s c h = made_more es e at _ _ h

pub laid_more : (es : List EntryData) (e : EntryData) (at s : ℕ) (c : CommandData) → WasLaidAt es at s c → WasLaidAt (es ++ e ∷ []) at s c
laid_more es e at s c (inl h) = inl (made_more es e at _ _ h)
laid_more es e at s c (inr h) = inr (made_more es e at _ _ h.0, has_front es (e ∷ []) _ _ h.1)

pub delayed_was : (es : List EntryData) (at s : ℕ) (c : CommandData) → WasDelayedAt es at s c → WasDelayed es s c
delayed_was es at s c h = has_made es at _ _ h

pub laid_was : (es : List EntryData) (at s : ℕ) (c : CommandData) → WasLaidAt es at s c → WasAccepted es s c
laid_was es at s c (inl h) = inl (has_made es at _ _ h)
laid_was es at s c (inr h) = inr h.1

-- ==== what no event changes

settings_kept : (d : DeviceState) → KeptByEvents (λ e a after. after.settings ≡ d.settings) d
unfolding with_command with_delayed after_handle after_clean after_tick after_block after_restart with_note
settings_kept d =
    record {
      submit = λ c a i q. submit_kept (λ x. x.settings) d c a (λ s. refl) (λ s. refl);
      enter = λ a q. enter_kept (λ x. x.settings) d a (λ w ws. refl);
      dispatch = λ a. dispatch_kept (λ x. x.settings) d (λ i. refl);
      replied = λ s u reply f w p. refl;
      not_out = λ s t. refl;
      respond = λ s a. respond_kept (λ x. x.settings) d s refl;
      publish = λ a. publish_kept (λ x. x.settings) d refl;
      clean = λ n. refl;
      tick = λ n count. refl;
      block = λ b. refl;
      unblock = λ b. refl;
      reset = λ level a q. reset_kept (λ x. x.settings) d level refl;
      restart = λ n. refl;
      tmr = λ kind ss a q. tmr_kept (λ x. x.settings) d kind ss a refl;
      stat = λ a. refl;
    }

pub settings_step : (R : HandlerRelation) (d d' : Device) (e : EntryData) → Step R d e d' → d'.state.settings ≡ d.state.settings
settings_step R d d' e h = made R (λ event a after. after.settings ≡ d.state.settings) d d' e.event e.answer (settings_kept d.state) h.makes

pub settings_run : (R : HandlerRelation) (d d' : Device) (es : List EntryData) → Run R d es d' → d'.state.settings ≡ d.state.settings
settings_run R d d' [] h = ap (λ (x : Device). x.state.settings) h
settings_run R d d' (e ∷ es) h = settings_run R h.0 d' es h.2 ∙ settings_step R d h.0 e h.1

-- ==== the clock

abbrev pub total_ticks : List EntryData → ℕ
total_ticks es = sum_by (λ (e : EntryData). ticks_of e.event) es

pub moment-push : (es : List EntryData) (e : EntryData) → moment (es ++ e ∷ []) ≡ min (total_ticks es + ticks_of e.event) (2 ^ 63)
moment-push es e = ap (λ (n : ℕ). min n (2 ^ 63)) (sum_by_push (λ (x : EntryData). ticks_of x.event) es e)

-- a cut sum goes on as the sum does
pub cut_on : (t n m : ℕ) → min (min t m + n) m ≡ min (t + n) m
cut_on t n m = omega arith

clock_kept : (d : DeviceState) (t : ℕ) → d.now ≡ min t (2 ^ 63) → KeptByEvents (λ e a after. after.now ≡ min (t + ticks_of e) (2 ^ 63)) d
unfolding with_command with_delayed after_handle after_clean after_tick after_block after_restart with_note
clock_kept d t now =
    record {
      submit = λ c a i q. submit_kept (λ x. x.now) d c a (λ s. refl) (λ s. refl) ∙ still;
      enter = λ a q. enter_kept (λ x. x.now) d a (λ w ws. refl) ∙ still;
      dispatch = λ a. dispatch_kept (λ x. x.now) d (λ i. refl) ∙ still;
      replied = λ s u reply f w p. still;
      not_out = λ s t. still;
      respond = λ s a. respond_kept (λ x. x.now) d s refl ∙ still;
      publish = λ a. publish_kept (λ x. x.now) d refl ∙ still;
      clean = λ n. still;
      tick = λ n count. ap (λ (x : ℕ). later x n) now ∙ cut_on t n (2 ^ 63);
      block = λ b. still;
      unblock = λ b. still;
      reset = λ level a q. reset_kept (λ x. x.now) d level refl ∙ still;
      restart = λ n. still;
      tmr = λ kind ss a q. tmr_kept (λ x. x.now) d kind ss a refl ∙ still;
      stat = λ a. still;
    }
  where
    still : d.now ≡ min (t + 0) (2 ^ 63)
    still = let z : t ≡ t + 0 = omega arith in now ∙ ap (λ (n : ℕ). min n (2 ^ 63)) z

pub clock_step : (R : HandlerRelation) (sofar : List EntryData) (d d' : Device) (e : EntryData) → d.state.now ≡ moment sofar → Step R d e d' → d'.state.now ≡ moment (sofar ++ e ∷ [])
clock_step R sofar d d' e now h =
    made R (λ event a after. after.now ≡ min (total_ticks sofar + ticks_of event) (2 ^ 63)) d d' e.event e.answer (clock_kept d.state (total_ticks sofar) now) h.makes
    ∙ sym (moment-push sofar e)
