-- What asks are told.
use Rattle.std.proofs.Common.{◌≡◌, ℕ, zero, suc, ◌+◌, ◌<◌, ◌≤◌, Bool, true, false, cond, List, [], ◌∷◌, ◌++◌, length, map, slice_get, Option, Some, None, refl, sym, ap, ◌∙◌, subst, arith}
use Rattle.std.specs.Option.{option_map, option_and_then}
use Rattle.std.specs.Bool.{MatchBool}
use Rattle.std.specs.Str.{bytes_eq}
use Rattle.std.proofs.lemmas.List.{append-nil}
use Rattle.std.proofs.lemmas.Option.{none-some, same_Some, slice_get-map}
use Rattle.tcmu_types.specs.Data.{CommandData}
use Rattle.tcmu_types.specs.Events.{EventData, EntryData}
use Rattle.tcmu_types.specs.declared.answer.Answer.{Answer}
use Rattle.tcmu_types.specs.declared.stat.Todo.{Todo}
use Rattle.tcmu_types.proofs.Readings.{same_bytes}
use Rattle.tcmu_model.specs.Device.{DeviceState, Device}
use Rattle.tcmu_model.specs.Drain.{todo_of, chosen, drain_event}
use Rattle.tcmu_model.specs.Steps.{HandlerRelation}
use Rattle.text_model.specs.Schedule.{LiveRun, sent, to_send, admin_made, AllMade}
use Rattle.text_model.specs.Script.{InitLineData, ScriptData}
use Rattle.tcmu_types.specs.Numbers.{bit}
use Rattle.turn_lock.specs.History.{Appends}
use Rattle.journal_kept.specs.Asked.{PlanData, line_at, sent_count, next_line, next_admin, work_in, work_event, asked_event, drain_ask}
use Rattle.journal_kept.specs.Answering.{tells_answer, AddsNone, IsAtEnd, TellsOn, MayTell}
use Rattle.journal_kept.specs.Counted.{line_in, LinesCounted, AllCounted}
use Rattle.journal_kept.specs.Fronts.{IsFront}
use Rattle.journal_kept.specs.Keeping.{KeptData, CountsData, EntriesData, IsKeptFront, MakesEntry, AsksOnce}
use Rattle.journal_kept.specs.declared.asking.Ask.{Ask}
use Rattle.journal_kept.specs.declared.asking.Ask.TheVariants as ask
use Rattle.journal_kept.specs.declared.asking.Told.{Told}
use Rattle.journal_kept.specs.declared.asking.Told.TheVariants as told
use Rattle.journal_kept.proofs.Lists.{prefix_all, to_send_at}

-- ==== the event of an ask, by the counts

lines_counted : (R : HandlerRelation) (p : PlanData) (c : CountsData) (es : EntriesData) (d : Device) → IsKeptFront R p c es d → c.lines ≡ map (sent_count es.items) p.script.inits
lines_counted R p c es d k = ap (λ (x : CountsData). x.lines) k.counted

admin_counted : (R : HandlerRelation) (p : PlanData) (c : CountsData) (es : EntriesData) (d : Device) → IsKeptFront R p c es d → c.admin ≡ length (admin_made es.items)
admin_counted R p c es d k = ap (λ (x : CountsData). x.admin) k.counted

line_same : (is : List InitLineData) (f : InitLineData → ℕ) (at : ℕ) → line_in is (map f is) at ≡ option_and_then (λ (i : InitLineData). line_at i (f i)) (slice_get is at)
line_same is f at = ap (λ (o : Option ℕ). option_and_then (λ (i : InitLineData). option_and_then (line_at i) o) (slice_get is at)) (slice_get-map f is at) ∙ by (slice_get is at)
  where
    by : (o : Option InitLineData) → option_and_then (λ (i : InitLineData). option_and_then (line_at i) (option_map f o)) o ≡ option_and_then (λ (i : InitLineData). line_at i (f i)) o
    by None = refl
    by (Some i) = refl

pub event_of_line : (R : HandlerRelation) (p : PlanData) (c : CountsData) (es : EntriesData) (d : Device) (at : ℕ) (o : Option EventData) → IsKeptFront R p c es d → o ≡ line_in p.script.inits c.lines at → o ≡ next_line p.script es.items at
event_of_line R p c es d at o k e =
    e ∙ ap (λ (l : List ℕ). line_in p.script.inits l at) (lines_counted R p c es d k) ∙ line_same p.script.inits (sent_count es.items) at

pub event_of_admin : (R : HandlerRelation) (p : PlanData) (c : CountsData) (es : EntriesData) (d : Device) (o : Option EventData) → IsKeptFront R p c es d → o ≡ slice_get p.script.admin c.admin → o ≡ next_admin p.script es.items
event_of_admin R p c es d o k e = e ∙ ap (slice_get p.script.admin) (admin_counted R p c es d k)

pub event_of_work : (d : DeviceState) (t : Todo) (o : Option EventData) → t ≡ todo_of d → o ≡ chosen (work_in t) → o ≡ work_event d
event_of_work d t o is e = e ∙ ap (λ (x : Todo). chosen (work_in x)) is

-- ==== the end

-- each initiator's list is used up
all_sent : (is : List InitLineData) (es : List EntryData) (name : List ℕ) → ((k : ℕ) (i : InitLineData) → slice_get is k ≡ Some i → length i.commands ≤ sent_count es i) → length (to_send is name) ≤ length (sent name es)
all_sent [] es name all = omega arith
all_sent (x ∷ is) es name all = by (bytes_eq x.name name) refl (all_sent is es name (λ k i found. all (suc k) i found))
  where
    by : (b : Bool) → bytes_eq x.name name ≡ b → length (to_send is name) ≤ length (sent name es) → length (cond b x.commands (to_send is name)) ≤ length (sent name es)
    by true t rest = subst (λ (n : List ℕ). length x.commands ≤ length (sent n es)) (same_bytes x.name name t) (all 0 x refl)
    by false f rest = rest

-- fronts that are as long as their lists are all of them
pub all_made : (R : HandlerRelation) (p : PlanData) (es : List EntryData) (d : Device) → IsFront R p es d
    → ((k : ℕ) (i : InitLineData) → slice_get p.script.inits k ≡ Some i → length i.commands ≤ sent_count es i) → length p.script.admin ≤ length (admin_made es) → AllMade p.script es
all_made R p es d front lines admin =
    record {
      lines = λ name. prefix_all (sent name es) (to_send p.script.inits name) (front.lines name) (all_sent p.script.inits es name lines);
      admin = prefix_all (admin_made es) p.script.admin front.admin admin;
    }

counted_made : (R : HandlerRelation) (p : PlanData) (c : CountsData) (es : EntriesData) (d : Device) → IsKeptFront R p c es d → AllCounted p.script c → AllMade p.script es.items
counted_made R p c es d k all =
    all_made R p es.items d k.front
    (λ at i found.
    let held = all.lines at i found in
    let here : Some held.0 ≡ Some (sent_count es.items i) = sym held.1 ∙ ap (λ (l : List ℕ). slice_get l at) (lines_counted R p c es d k) ∙ slice_get-map (sent_count es.items) p.script.inits at ∙ ap (option_map (sent_count es.items)) found in
    omega (arith, held.2, same_Some held.0 (sent_count es.items i) here))
    (omega (arith, all.admin, admin_counted R p c es d k))

made_counted : (R : HandlerRelation) (p : PlanData) (c : CountsData) (es : EntriesData) (d : Device) → IsKeptFront R p c es d → AllMade p.script es.items → AllCounted p.script c
made_counted R p c es d k made =
    record {
      lines = λ at i found. (
        sent_count es.items i,
        ap (λ (l : List ℕ). slice_get l at) (lines_counted R p c es d k) ∙ slice_get-map (sent_count es.items) p.script.inits at ∙ ap (option_map (sent_count es.items)) found,
        omega (arith, ap (λ (l : List CommandData). length l) (made.lines i.name ∙ to_send_at p.script.inits at i k.front.plan.script.names found)),
      );
      admin = omega (arith, admin_counted R p c es d k, ap (λ (l : List EventData). length l) made.admin);
    }

-- ==== what is told

none_added : (d : Device) → AddsNone d [] d
none_added d = record { none = refl; device = refl }

pub told_line : (R : HandlerRelation) (p : PlanData) (es : List EntryData) (d : Device) (at : ℕ) → asked_event p.script es d.state (ask.Line at) ≡ None → TellsOn R p es d (ask.Line at) told.NoLine [] d
told_line R p es d at none = (none_added d, tt, none)

pub told_admin : (R : HandlerRelation) (p : PlanData) (es : List EntryData) (d : Device) → asked_event p.script es d.state ask.Admin ≡ None → TellsOn R p es d ask.Admin told.NoLine [] d
told_admin R p es d none = (none_added d, tt, none)

-- a line is left
pub told_idle_lines : (R : HandlerRelation) (p : PlanData) (c : CountsData) (es : EntriesData) (d : Device) → IsKeptFront R p c es d → work_event d.state ≡ None → (AllCounted p.script c → ⊥) → TellsOn R p es.items d ask.Work told.Idle [] d
told_idle_lines R p c es d k none left = (none_added d, tt, none, λ (end : IsAtEnd p.script es.items d.state). left (made_counted R p c es d k end.made))

-- an event of the drain applies
pub told_idle_drain : (R : HandlerRelation) (p : PlanData) (es : List EntryData) (d : Device) (t : Todo) (e : EventData) → work_event d.state ≡ None → t ≡ todo_of d.state → Some e ≡ chosen t → TellsOn R p es d ask.Work told.Idle [] d
unfolding drain_event
told_idle_drain R p es d t e none is some = (none_added d, tt, none, λ (end : IsAtEnd p.script es d.state). none-some e (sym end.done ∙ sym (some ∙ ap chosen is)))

pub told_ended : (R : HandlerRelation) (p : PlanData) (c : CountsData) (es : EntriesData) (d : Device) (t : Todo) → IsKeptFront R p c es d → AllCounted p.script c → t ≡ todo_of d.state → None ≡ chosen t → TellsOn R p es.items d ask.Work told.Ended [] d
unfolding drain_event
told_ended R p c es d t k all is none = (none_added d, tt, record { made = counted_made R p c es d k all; done = sym (none ∙ ap chosen is) })

-- an event was made
pub told_made : (R : HandlerRelation) (p : PlanData) (c : CountsData) (es es' : EntriesData) (d d' : Device) (a : Ask) (event : EventData) (answer : Answer)
    → IsKeptFront R p c es d → MakesEntry R es d event answer es' d' → asked_event p.script es.items d.state a ≡ Some event
    → AsksOnce R (record { plan = p; journal = es.items; device = d }) a (told.Answered answer) (record { plan = p; journal = es'.items; device = d' })
told_made R p c es es' d d' a event answer k m is =
    let own : m.adds.entry.device ≡ p.device = m.adds.own ∙ k.own in
    record {
      added = m.added;
      plan = refl;
      journal = ap (λ (x : EntriesData). x.items) m.entries;
      tells = (event, is, record { entry = m.adds.entry; one = m.adds.one; own = own; event_is = m.adds.event_is; answer_is = m.adds.answer_is; step = m.adds.step });
    }

-- nothing was made
pub told_nothing : (R : HandlerRelation) (k : KeptData) (a : Ask) (t : Told) → TellsOn R k.plan k.journal k.device a t [] k.device → AsksOnce R k a t k
told_nothing R k a t h = record { added = []; plan = refl; journal = sym (append-nil k.journal); tells = h }

-- ==== what a history sees of it

pub told_appends : (R : HandlerRelation) (k k' : KeptData) (a : Ask) (t : Told) → LiveRun R k.plan.opening k.journal k.device → AsksOnce R k a t k' → Appends tells_answer (MayTell R k.plan) k.journal a t k'.journal
told_appends R k k' a t run h = (h.added, h.journal, one t h.tells, record { before = k.device; after = k'.device; run = run; tells = h.tells })
  where
    one : (t : Told) → TellsOn R k.plan k.journal k.device a t h.added k'.device → length h.added ≡ bit (tells_answer t)
    one (told.Answered answer) h = ap (λ (l : List EntryData). length l) h.2.one
    one told.NoLine h = ap (λ (l : List EntryData). length l) h.0.none
    one told.Idle h = ap (λ (l : List EntryData). length l) h.0.none
    one told.Ended h = ap (λ (l : List EntryData). length l) h.0.none

-- where the administration's list is all counted, it depends on the others
pub all_counted : (b : Bool) (x : ScriptData) (c : CountsData) → length x.admin ≤ c.admin → MatchBool b (LinesCounted x.inits c.lines) (LinesCounted x.inits c.lines → ⊥)
    → MatchBool b (AllCounted x c) (AllCounted x c → ⊥)
all_counted true x c admin h = record { lines = h; admin = admin }
all_counted false x c admin h = λ (all : AllCounted x c). h all.lines
