-- How asks go on, and where they end.
use Rattle.std.proofs.Common.{◌≡◌, ◌⊎◌, ⊎_elim, ℕ, zero, suc, ◌+◌, ◌-◌, ◌<◌, ◌≤◌, Bool, true, false, cond, List, [], ◌∷◌, ◌++◌, length, slice_get, Option, Some, None, refl, sym, ap, ◌∙◌, subst, arith, append_assoc, length-append}
use mathlib.Core.List.{IsPrefix}
use Rattle.std.specs.Option.{option_map, option_and_then}
use Rattle.std.proofs.lemmas.Bool.{cases_lt}
use Rattle.std.proofs.lemmas.List.{append-nil}
use Rattle.std.proofs.lemmas.Option.{none-some, same_Some, slice_get_past, slice_get_within}
use Rattle.tcmu_types.specs.Data.{CommandData}
use Rattle.tcmu_types.specs.Events.{EventData, EntryData}
use Rattle.tcmu_types.specs.Events as ev
use Rattle.tcmu_types.specs.declared.answer.Answer.{Answer}
use Rattle.tcmu_types.specs.declared.stat.Todo.{Todo}
use Rattle.tcmu_model.specs.Device.{DeviceState, Device}
use Rattle.tcmu_model.specs.Drain.{todo_of, chosen, drain_event}
use Rattle.tcmu_model.specs.Sound.{IsSound}
use Rattle.tcmu_model.specs.Steps.{HandlerRelation}
use Rattle.tcmu_model.specs.Work.{work}
use Rattle.tcmu_model.proofs.Draining.{work_falls}
use Rattle.text_model.specs.Schedule.{sent_under, sent, if_admin, admin_made, IsSchedule}
use Rattle.text_model.specs.Script.{InitLineData, ScriptData, is_admin}
use Rattle.journal_kept.specs.Asked.{PlanData, line_at, sent_count, next_line, next_admin, work_in, work_event, asked_event, AsksLines, AsksWork, drain_ask}
use Rattle.journal_kept.specs.Answering.{AddsEntry, AddsNone, TellsOn}
use Rattle.journal_kept.specs.Fronts.{CanAdminister, CanKeep, IsFront}
use Rattle.journal_kept.specs.Keeping.{KeptData, AsksOnce, Lengthens}
use Rattle.journal_kept.specs.declared.asking.Ask.{Ask}
use Rattle.journal_kept.specs.declared.asking.Ask.TheVariants as ask
use Rattle.journal_kept.specs.declared.asking.Told.{Told}
use Rattle.journal_kept.specs.declared.asking.Told.TheVariants as told
use Rattle.journal_kept.proofs.Lists.{prefix_self, prefix_then, past, all_at, admin_more, count_own}
use Rattle.journal_kept.proofs.Keep.{line_of}
use Rattle.journal_kept.proofs.Tell.{all_made}

-- ==== going on

pub goes_on_self : (k : KeptData) → Lengthens k k
goes_on_self k = record { plan = refl; longer = prefix_self k.journal }

pub goes_on_then : (k l m : KeptData) → Lengthens k l → Lengthens l m → Lengthens k m
goes_on_then k l m g h = record { plan = h.plan ∙ g.plan; longer = prefix_then k.journal l.journal m.journal g.longer h.longer }

pub goes_on_asked : (R : HandlerRelation) (k l : KeptData) (a : Ask) (t : Told) → AsksOnce R k a t l → Lengthens k l
goes_on_asked R k l a t h = record { plan = h.plan; longer = (h.added, sym h.journal) }

pub goes_on_same : (k l : KeptData) → l ≡ k → Lengthens k l
goes_on_same k l same = subst (λ (x : KeptData). Lengthens k x) (sym same) (goes_on_self k)

-- ==== a list that is used up

none_out : {A B : Type 0} (f : A → B) (o : Option A) → option_map f o ≡ None → o ≡ None
none_out f None q = refl
none_out f (Some x) q = absurd (none-some (f x) (sym q))

none_here : (x : ScriptData) (es : List EntryData) (at : ℕ) (i : InitLineData) → slice_get x.inits at ≡ Some i → next_line x es at ≡ None → slice_get i.commands (sent_count es i) ≡ None
none_here x es at i found none =
    none_out ev.Submit (slice_get i.commands (sent_count es i)) (sym (ap (option_and_then (λ (j : InitLineData). line_at j (sent_count es j))) found) ∙ none)

still_none : {X : Type 0} (xs : List X) (n m : ℕ) → n ≤ m → slice_get xs n ≡ None → slice_get xs m ≡ None
still_none xs n m le e = slice_get_past xs m (omega (arith, past xs n e, le))

sent_longer : (name : List ℕ) (es more : List EntryData) → length (sent name es) ≤ length (sent name (es ++ more))
sent_longer name [] more = omega arith
sent_longer name (e ∷ es) more =
    omega (arith, length-append (sent_under name e.event) (sent name es), length-append (sent_under name e.event) (sent name (es ++ more)), sent_longer name es more)

admin_longer : (es more : List EntryData) → length (admin_made es) ≤ length (admin_made (es ++ more))
admin_longer [] more = omega arith
admin_longer (e ∷ es) more =
    omega (arith, length-append (if_admin e.event) (admin_made es), length-append (if_admin e.event) (admin_made (es ++ more)), admin_longer es more)

pub line_still : (x : ScriptData) (es es' : List EntryData) (at : ℕ) → IsPrefix es es' → next_line x es at ≡ None → next_line x es' at ≡ None
line_still x es es' at p none = by (slice_get x.inits at) refl
  where
    by : (o : Option InitLineData) → slice_get x.inits at ≡ o → option_and_then (λ (i : InitLineData). line_at i (sent_count es' i)) o ≡ None
    by None found = refl
    by (Some i) found =
        let longer : sent_count es i ≤ sent_count es' i = subst (λ (l : List EntryData). sent_count es i ≤ sent_count l i) p.1 (sent_longer i.name es p.0) in
        ap (option_map ev.Submit) (still_none i.commands (sent_count es i) (sent_count es' i) longer (none_here x es at i found none))

pub admin_still : (x : ScriptData) (es es' : List EntryData) → IsPrefix es es' → next_admin x es ≡ None → next_admin x es' ≡ None
admin_still x es es' p none =
    let longer : length (admin_made es) ≤ length (admin_made es') = subst (λ (l : List EntryData). length (admin_made es) ≤ length (admin_made l)) p.1 (admin_longer es p.0) in
    still_none x.admin (length (admin_made es)) (length (admin_made es')) longer none

-- ==== the end

-- a front with all lists used up, where a drain has nothing to do, is a schedule
pub is_schedule : (R : HandlerRelation) (p : PlanData) (es : List EntryData) (d : Device) → IsFront R p es d → ((at : ℕ) → at < length p.script.inits → next_line p.script es at ≡ None) → next_admin p.script es ≡ None
    → drain_event d.state ≡ None → IsSchedule R p.device p.script p.opening es d
is_schedule R p es d front lines admin done =
    record {
      run = front.run;
      own = front.own;
      made = all_made R p es d front (λ at i found. past i.commands (sent_count es i) (none_here p.script es at i found (lines at (slice_get_within p.script.inits at i found)))) (past p.script.admin (length (admin_made es)) admin);
      done = done;
    }

-- ==== asks that make nothing

same_kept : (k l : KeptData) (added : List EntryData) → l.plan ≡ k.plan → l.journal ≡ k.journal ++ added → AddsNone k.device added l.device → l ≡ k
same_kept k l added plan journal n =
    let same : l.journal ≡ k.journal = journal ∙ ap (λ (x : List EntryData). k.journal ++ x) n.none ∙ append-nil k.journal in
    ap (λ (x : PlanData). let r : KeptData = record { plan = x; journal = l.journal; device = l.device } in r) plan
    ∙ ap (λ (x : List EntryData). let r : KeptData = record { plan = k.plan; journal = x; device = l.device } in r) same
    ∙ ap (λ (x : Device). let r : KeptData = record { plan = k.plan; journal = k.journal; device = x } in r) n.device

not_both : (a : Ask) → AsksLines a → AsksWork a → ⊥
not_both (ask.Line at) h w = w
not_both ask.Admin h w = w
not_both ask.Work h w = h
not_both (ask.Handle s) h w = w
not_both (ask.Respond s) h w = w

abbrev pub asked_of : KeptData → Ask → Option EventData
asked_of k a = asked_event k.plan.script k.journal k.device.state a

-- a line that was asked for and not made used its list up
pub used_up : (R : HandlerRelation) (k l : KeptData) (a : Ask) (t : Told) → AsksLines a → ((x : Answer) → t ≡ told.Answered x → ⊥) → AsksOnce R k a t l → asked_of l a ≡ None
used_up R k l a t lines other h = by t other h.tells
  where
    by : (t : Told) → ((x : Answer) → t ≡ told.Answered x → ⊥) → TellsOn R k.plan k.journal k.device a t h.added l.device → asked_of l a ≡ None
    by (told.Answered answer) other f = absurd (other answer refl)
    by told.NoLine other f = ap (λ (x : KeptData). asked_of x a) (same_kept k l h.added h.plan h.journal f.0) ∙ f.2
    by told.Idle other f = absurd (not_both a lines f.1)
    by told.Ended other f = absurd (not_both a lines f.1)

-- the drain's ask makes the drain's event
pub drain_asked : (x : ScriptData) (es : List EntryData) (d : DeviceState) → asked_event x es d (drain_ask (todo_of d)) ≡ drain_event d
unfolding drain_event
drain_asked x es d = let t = todo_of d in go t.handle t.respond
  where
    go : (h r : Option ℕ) → asked_event x es d (elim h [ Some s ↦ ask.Handle s | None ↦ elim r [ Some s ↦ ask.Respond s | None ↦ ask.Work ] ])
        ≡ elim h [ Some s ↦ Some (ev.Handle s) | None ↦ elim r [ Some s ↦ Some (ev.Respond s) | None ↦ work_event d ] ]
    go (Some s) r = refl
    go None (Some s) = refl
    go None None = refl

-- where it makes nothing, the drain has nothing to do
pub drained : (R : HandlerRelation) (k l : KeptData) (a : Ask) (t : Told) → a ≡ drain_ask (todo_of k.device.state) → ((x : Answer) → t ≡ told.Answered x → ⊥) → AsksOnce R k a t l → drain_event l.device.state ≡ None
drained R k l a t is other h = by t other h.tells
  where
    asked_is : asked_of k a ≡ drain_event k.device.state
    asked_is = ap (asked_of k) is ∙ drain_asked k.plan.script k.journal k.device.state

    by : (t : Told) → ((x : Answer) → t ≡ told.Answered x → ⊥) → TellsOn R k.plan k.journal k.device a t h.added l.device → drain_event l.device.state ≡ None
    by (told.Answered answer) other f = absurd (other answer refl)
    by told.NoLine other f = ap (λ (x : Device). drain_event x.state) f.0.device ∙ sym asked_is ∙ f.2
    by told.Idle other f = ap (λ (x : Device). drain_event x.state) f.0.device ∙ sym asked_is ∙ f.2
    by told.Ended other f = ap (λ (x : Device). drain_event x.state) f.0.device ∙ f.2.done

-- ==== asks that make an event

-- how many lines of its list an ask may still make
abbrev pub left_of : KeptData → Ask → ℕ
left_of k (ask.Line at) = elim (slice_get k.plan.script.inits at) [ Some i ↦ length i.commands - sent_count k.journal i | None ↦ 0 ]
left_of k ask.Admin = length k.plan.script.admin - length (admin_made k.journal)
left_of k ask.Work = 0
left_of k (ask.Handle s) = 0
left_of k (ask.Respond s) = 0

-- so many less of it are left then
pub left_falls : (R : HandlerRelation) (k l : KeptData) (a : Ask) (answer : Answer) → CanKeep l.plan.script → AsksLines a → AsksOnce R k a (told.Answered answer) l → left_of l a < left_of k a
left_falls R k l a answer rules lines h = by a lines h.tells.1
  where
    script : CanKeep k.plan.script
    script = subst (λ (p : PlanData). CanKeep p.script) h.plan rules

    e : EntryData
    e = h.tells.2.entry

    grown : l.journal ≡ k.journal ++ e ∷ []
    grown = h.journal ∙ ap (λ (x : List EntryData). k.journal ++ x) h.tells.2.one

    by : (a : Ask) → AsksLines a → asked_of k a ≡ Some h.tells.0 → left_of l a < left_of k a
    by (ask.Line at) lines is =
        let n = line_of k.plan.script k.journal at h.tells.0 script is in
        let found : slice_get l.plan.script.inits at ≡ Some n.init = ap (λ (p : PlanData). slice_get p.script.inits at) h.plan ∙ n.found in
        let one : sent_count l.journal n.init ≡ sent_count k.journal n.init + 1 = ap (λ (x : List EntryData). sent_count x n.init) grown ∙ count_own k.journal e n.init n.command (h.tells.2.event_is ∙ n.is) n.own in
        let before : left_of k (ask.Line at) ≡ length n.init.commands - sent_count k.journal n.init = ap (λ (o : Option InitLineData). elim o [ Some i ↦ length i.commands - sent_count k.journal i | None ↦ 0 ]) n.found in
        let after : left_of l (ask.Line at) ≡ length n.init.commands - sent_count l.journal n.init = ap (λ (o : Option InitLineData). elim o [ Some i ↦ length i.commands - sent_count l.journal i | None ↦ 0 ]) found in
        omega (arith, before, after, one, slice_get_within n.init.commands (sent_count k.journal n.init) n.command n.next)
    by ask.Admin lines is =
        let admin : is_admin h.tells.0 ≡ true = (all_at CanAdminister k.plan.script.admin (length (admin_made k.journal)) h.tells.0 script.admin is).kind in
        let listed : if_admin e.event ≡ h.tells.0 ∷ [] = ap if_admin h.tells.2.event_is ∙ ap (λ (b : Bool). cond b (h.tells.0 ∷ []) []) admin in
        let one : length (admin_made l.journal) ≡ length (admin_made k.journal) + 1 =
        ap (λ (x : List EntryData). length (admin_made x)) grown ∙ ap (λ (x : List EventData). length x) (admin_more k.journal e ∙ ap (λ (x : List EventData). admin_made k.journal ++ x) listed) ∙ length-append (admin_made k.journal) (h.tells.0 ∷ []) in
        let same : length l.plan.script.admin ≡ length k.plan.script.admin = ap (λ (p : PlanData). length p.script.admin) h.plan in
        omega (arith, one, same, slice_get_within k.plan.script.admin (length (admin_made k.journal)) h.tells.0 is)
    by ask.Work lines is = absurd lines
    by (ask.Handle s) lines is = absurd lines
    by (ask.Respond s) lines is = absurd lines

-- the work falls
pub work_left : (R : HandlerRelation) (k l : KeptData) (a : Ask) (answer : Answer) → IsSound k.device.state → a ≡ drain_ask (todo_of k.device.state) → AsksOnce R k a (told.Answered answer) l → work l.device.state < work k.device.state
work_left R k l a answer sound is h =
    let adds = h.tells.2 in
    let picked : drain_event k.device.state ≡ Some adds.entry.event =
    sym (drain_asked k.plan.script k.journal k.device.state) ∙ sym (ap (asked_of k) is) ∙ h.tells.1 ∙ ap (λ (x : EventData). Some x) (sym adds.event_is) in
    work_falls R k.device l.device adds.entry sound picked adds.step

-- with all lists used up, a drain makes a schedule
pub finished : (R : HandlerRelation) (k l m : KeptData) → Lengthens k l → Lengthens l m → ((at : ℕ) → at < length k.plan.script.inits → next_line k.plan.script k.journal at ≡ None) → next_admin l.plan.script l.journal ≡ None
    → IsFront R m.plan m.journal m.device → drain_event m.device.state ≡ None → IsSchedule R m.plan.device m.plan.script m.plan.opening m.journal m.device
finished R k l m g h lines admin front done =
    let same : m.plan ≡ k.plan = h.plan ∙ g.plan in
    let still : (at : ℕ) → at < length m.plan.script.inits → next_line m.plan.script m.journal at ≡ None =
    λ at within. ap (λ (p : PlanData). next_line p.script m.journal at) same
    ∙ line_still k.plan.script k.journal m.journal at (prefix_then k.journal l.journal m.journal g.longer h.longer) (lines at (omega (arith, within, ap (λ (p : PlanData). length p.script.inits) same))) in
    is_schedule R m.plan m.journal m.device front still
    (ap (λ (p : PlanData). next_admin p.script m.journal) h.plan ∙ admin_still l.plan.script l.journal m.journal h.longer admin) done

-- the lists up to one are used up, and then that one
pub lines_used : (k l : KeptData) (n : ℕ) → Lengthens k l → ((at : ℕ) → at < n → next_line k.plan.script k.journal at ≡ None) → next_line l.plan.script l.journal n ≡ None
    → (at : ℕ) → at < n + 1 → next_line l.plan.script l.journal at ≡ None
lines_used k l n g before here at less =
    ⊎_elim
    (λ (low : at < n). ap (λ (p : PlanData). next_line p.script l.journal at) g.plan ∙ line_still k.plan.script k.journal l.journal at g.longer (before at low))
    (λ (high : n ≤ at). subst (λ (m : ℕ). next_line l.plan.script l.journal m ≡ None) (let e : n ≡ at = omega (arith, high, less) in e) here)
    (cases_lt at n)
