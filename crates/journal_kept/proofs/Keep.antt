-- What an event that is asked for does to what is kept.
use Rattle.std.proofs.Common.{◌≡◌, ◌&&◌, ℕ, zero, suc, ◌+◌, ◌*◌, ◌^◌, ◌<◌, ◌≤◌, max, nat_lt, Bool, true, false, cond, List, [], ◌∷◌, ◌++◌, length, map, slice_get, slice_set, slice_index, replicate, Option, Some, None, refl, sym, ap, ◌∙◌, subst, arith, length-append}
use mathlib.Core.List.{IsPrefix}
use Rattle.std.specs.List.{All, sum_by}
use Rattle.std.specs.Option.{option_map, option_and_then}
use Rattle.std.proofs.Math.Nat.{le-max_left, le-max_right}
use Rattle.std.proofs.lemmas.Bool.{ltb-true}
use Rattle.std.proofs.lemmas.List.{append-nil, length-map}
use Rattle.std.proofs.lemmas.Option.{none-some, same_Some, slice_get_within, slice_get-map, get_or_from_slice_get}
use Rattle.tcmu_types.specs.Data.{CommandData}
use Rattle.tcmu_types.specs.Decimals.{is_rising}
use Rattle.tcmu_types.specs.Events.{EventData, AnswerData, EntryData}
use Rattle.tcmu_types.specs.Events as ev
use Rattle.tcmu_types.specs.Lists.{Every}
use Rattle.tcmu_types.specs.Numbers.{RisesAbove, IsRising}
use Rattle.tcmu_types.specs.Views.{answer_data}
use Rattle.tcmu_types.specs.declared.answer.Answer.{Answer}
use Rattle.tcmu_types.specs.declared.stat.Todo.{Todo}
use Rattle.tcmu_types.proofs.Everies.{every-append}
use Rattle.tcmu_types.proofs.Readings.{both, mapped}
use Rattle.tcmu_model.specs.Device.{DeviceState, Device, opening_state}
use Rattle.tcmu_model.specs.Drain.{todo_of, chosen}
use Rattle.tcmu_model.specs.Sound.{IsSound}
use Rattle.tcmu_model.specs.Steps.{HandlerRelation, Makes, Step, Run, most_accepted}
use Rattle.tcmu_model.proofs.Runs.{sound_run}
use Rattle.tcmu_model.proofs.SoundEvents.{sound_opening}
use Rattle.tcmu_path.specs.Calls.{Accepts}
use Rattle.tcmu_path.specs.Tasks.{CanBeMade}
use Rattle.text_model.specs.Schedule.{may_stand, LiveRun, sent_under, sent, to_send, if_admin, admin_made}
use Rattle.text_model.specs.Script.{InitLineData, ScriptData, is_admin}
use Rattle.journal_kept.specs.Asked.{PlanData, line_at, sent_count, next_line, next_admin, work_in, work_event, asked_event}
use Rattle.journal_kept.specs.Answering.{AddsEntry}
use Rattle.journal_kept.specs.Counted.{counted_with, CanCount}
use Rattle.journal_kept.specs.Fronts.{CanAdminister, CanKeep, IsOpened, IsFront}
use Rattle.journal_kept.specs.Keeping.{named_in, most_named, CountsData, counts_of, EntriesData, NotesName, IsKeptFront, MakesEntry}
use Rattle.journal_kept.specs.declared.asking.Ask.{Ask}
use Rattle.journal_kept.specs.declared.asking.Ask.TheVariants as ask
use Rattle.journal_kept.proofs.Lists.{prefix_none, prefix_next, prefix_short, all_at, to_send_at, sent_more, admin_more, lines_next, counts_line, counts_quiet, sum_one_more, sum_few, one_few, sum_none, counts_none}
use Rattle.journal_kept.proofs.Notes.{notes_kept}

-- ==== runs

pub live_more : (R : HandlerRelation) (d m d' : Device) (es : List EntryData) (e : EntryData) → LiveRun R d es m → may_stand m.state e.event ≡ true → Step R m e d' → LiveRun R d (es ++ e ∷ []) d'
live_more R d m d' [] e h due s = (subst (λ (x : Device). may_stand x.state e.event ≡ true) h due, d', subst (λ (x : Device). Step R x e d') h s, refl)
live_more R d m d' (x ∷ es) e h due s = (h.0, h.1, h.2, live_more R h.1 m d' es e h.3 due s)

pub live_run : (R : HandlerRelation) (d d' : Device) (es : List EntryData) → LiveRun R d es d' → Run R d es d'
live_run R d d' [] h = h
live_run R d d' (e ∷ es) h = (h.1, h.2, live_run R h.1 d' es h.3)

pub opened_sound : (d : Device) → IsOpened d → IsSound d.state
opened_sound d h = subst IsSound (sym h.state) (sound_opening d.state.settings h.settings)

pub kept_sound : (R : HandlerRelation) (p : PlanData) (c : CountsData) (es : EntriesData) (d : Device) → IsKeptFront R p c es d → IsSound d.state
kept_sound R p c es d k = sound_run R p.opening d es.items (opened_sound p.opening k.front.plan.opened) (live_run R p.opening d es.items k.front.run)

-- ==== how many commands there are

pub sent_few : (R : HandlerRelation) (p : PlanData) (c : CountsData) (es : EntriesData) (d : Device) → IsKeptFront R p c es d → (at : ℕ) (i : InitLineData) → slice_get p.script.inits at ≡ Some i → sent_count es.items i ≤ length i.commands
sent_few R p c es d k at i found =
    omega (arith, prefix_short (sent i.name es.items) (to_send p.script.inits i.name) (k.front.lines i.name), ap (λ (l : List CommandData). length l) (to_send_at p.script.inits at i k.front.plan.script.names found))

-- so few were accepted that each can be
pub kept_few : (R : HandlerRelation) (p : PlanData) (c : CountsData) (es : EntriesData) (d : Device) → IsKeptFront R p c es d → d.state.accepted < 2 ^ 63
kept_few R p c es d k =
    omega (arith, k.few, ap (λ (x : CountsData). sum_by (λ n. n) x.lines) k.counted, sum_few p.script.inits es.items (sent_few R p c es d k), k.front.plan.script.few_commands)

-- ==== a line

-- the event is the next command of this initiator
pub record IsLine (x : ScriptData) (es : List EntryData) (at : ℕ) (event : EventData) : Type 0 where
  pub init : InitLineData
  pub command : CommandData
  pub found : slice_get x.inits at ≡ Some init
  pub next : slice_get init.commands (sent_count es init) ≡ Some command
  pub is : event ≡ ev.Submit command
  pub own : command.init ≡ init.name

pub line_of : (x : ScriptData) (es : List EntryData) (at : ℕ) (event : EventData) → CanKeep x → next_line x es at ≡ Some event → IsLine x es at event
line_of x es at event script e =
    let a = both (λ (i : InitLineData). line_at i (sent_count es i)) (slice_get x.inits at) event e in
    let b = mapped ev.Submit (slice_get a.0.commands (sent_count es a.0)) event a.2 in
    let own = all_at (λ (i : InitLineData). All (λ (c : CommandData). c.init ≡ i.name) i.commands) x.inits at a.0 script.own a.1 in
    record { init = a.0; command = b.0; found = a.1; next = b.1; is = b.2; own = all_at (λ (c : CommandData). c.init ≡ a.0.name) a.0.commands (sent_count es a.0) b.0 own b.1 }

-- ==== the administration

admin_due : (d : DeviceState) (e : EventData) → is_admin e ≡ true → may_stand d e ≡ true
admin_due d (ev.Submit c) h = refl
admin_due d ev.Dispatch h = absurd (cc)
admin_due d (ev.Handle s) h = refl
admin_due d (ev.Respond s) h = refl
admin_due d ev.Publish h = absurd (cc)
admin_due d ev.Clean h = absurd (cc)
admin_due d (ev.Tick n) h = refl
admin_due d ev.Block h = refl
admin_due d ev.Unblock h = refl
admin_due d (ev.Reset level) h = refl
admin_due d ev.Restart h = refl
admin_due d (ev.Tmr kind ss) h = refl
admin_due d ev.Stat h = refl
admin_due d ev.Enter h = absurd (cc)

admin_unsent : (e : EventData) → is_admin e ≡ true → (name : List ℕ) → sent_under name e ≡ []
admin_unsent (ev.Submit c) h name = absurd (cc)
admin_unsent e h name = refl

admin_accepts : (e : EventData) → is_admin e ≡ true → most_accepted e ≡ 0
admin_accepts (ev.Submit c) h = absurd (cc)
admin_accepts e h = refl

named_at : (es : List EventData) (at : ℕ) (e : EventData) → slice_get es at ≡ Some e → named_in e ≤ most_named es
named_at [] at e found = absurd (none-some e found)
named_at (x ∷ es) zero e found = omega (arith, le-max_left (named_in x) (most_named es), ap named_in (same_Some x e found))
named_at (x ∷ es) (suc at) e found = omega (arith, le-max_right (named_in x) (most_named es), named_at es at e found)

-- ==== work

-- what a worker makes is due, can be made, and is in no list of a script
pub record IsPicked (d : DeviceState) (event : EventData) : Type 0 where
  pub due : may_stand d event ≡ true
  pub can : CanBeMade event
  pub unsent : (name : List ℕ) → sent_under name event ≡ []
  pub unlisted : if_admin event ≡ []
  pub unnamed : named_in event ≡ 0
  pub accepts : most_accepted event ≡ 0

picked_handle : (d : DeviceState) (s : ℕ) → IsPicked d (ev.Handle s)
picked_handle d s = record { due = refl; can = tt; unsent = λ name. refl; unlisted = refl; unnamed = refl; accepts = refl }

picked_respond : (d : DeviceState) (s : ℕ) → IsPicked d (ev.Respond s)
picked_respond d s = record { due = refl; can = tt; unsent = λ name. refl; unlisted = refl; unnamed = refl; accepts = refl }

picked_work : (d : DeviceState) (event : EventData) → work_event d ≡ Some event → IsPicked d event
picked_work d event e = let t = todo_of d in go t.publish t.clean t.enter t.dispatch refl refl refl refl e
  where
    go : (p c n x : Bool) → (todo_of d).publish ≡ p → (todo_of d).clean ≡ c → (todo_of d).enter ≡ n → (todo_of d).dispatch ≡ x
        → ◌≡◌ {A = Option EventData} (cond p (Some ev.Publish) (cond c (Some ev.Clean) (cond n (Some ev.Enter) (cond x (Some ev.Dispatch) None)))) (Some event) → IsPicked d event
    go true c n x ep ec en ex q = subst (IsPicked d) (same_Some ev.Publish event q) (record { due = ep; can = tt; unsent = λ name. refl; unlisted = refl; unnamed = refl; accepts = refl })
    go false true n x ep ec en ex q = subst (IsPicked d) (same_Some ev.Clean event q) (record { due = ec; can = tt; unsent = λ name. refl; unlisted = refl; unnamed = refl; accepts = refl })
    go false false true x ep ec en ex q = subst (IsPicked d) (same_Some ev.Enter event q) (record { due = en; can = tt; unsent = λ name. refl; unlisted = refl; unnamed = refl; accepts = refl })
    go false false false true ep ec en ex q = subst (IsPicked d) (same_Some ev.Dispatch event q) (record { due = ex; can = tt; unsent = λ name. refl; unlisted = refl; unnamed = refl; accepts = refl })
    go false false false false ep ec en ex q = absurd (none-some event q)

-- ==== asks

-- what is asked for can be made
pub asked_can : (x : ScriptData) (es : List EntryData) (d : DeviceState) (a : Ask) (event : EventData) → CanKeep x → asked_event x es d a ≡ Some event → CanBeMade event
asked_can x es d (ask.Line at) event script e = let l = line_of x es at event script e in subst CanBeMade (sym l.is) tt
asked_can x es d ask.Admin event script e = (all_at CanAdminister x.admin (length (admin_made es)) event script.admin e).can
asked_can x es d ask.Work event script e = (picked_work d event e).can
asked_can x es d (ask.Handle s) event script e = subst CanBeMade (same_Some (ev.Handle s) event e) tt
asked_can x es d (ask.Respond s) event script e = subst CanBeMade (same_Some (ev.Respond s) event e) tt

-- ==== one entry more

abbrev pub with_entry : EntriesData → EntryData → EntriesData
with_entry es e = record es { items = es.items ++ e ∷ [] }

counts_as : (xs ys : List ℕ) (m n : ℕ) → xs ≡ ys → m ≡ n → ◌≡◌ {A = CountsData} (record { lines = xs; admin = m }) (record { lines = ys; admin = n })
counts_as xs ys m n e f = ap (λ (l : List ℕ). let r : CountsData = record { lines = l; admin = m } in r) e ∙ ap (λ (k : ℕ). let r : CountsData = record { lines = ys; admin = k } in r) f

-- an entry whose event is due, and with whose lists the script's begin
keep : (R : HandlerRelation) (p : PlanData) (c c' : CountsData) (es : EntriesData) (d d' : Device) (e : EntryData)
    → IsKeptFront R p c es d → e.device ≡ es.device → Step R d e d' → may_stand d.state e.event ≡ true
    → ((name : List ℕ) → IsPrefix (sent name es.items ++ sent_under name e.event) (to_send p.script.inits name))
    → IsPrefix (admin_made es.items ++ if_admin e.event) p.script.admin
    → c' ≡ counts_of p (es.items ++ e ∷ []) → named_in e.event ≤ es.longest → d'.state.accepted ≤ sum_by (λ n. n) c'.lines
    → IsKeptFront R p c' (with_entry es e) d'
keep R p c c' es d d' e k own step due lines admins is named few =
    record {
      own = k.own;
      front = record {
        plan = k.front.plan;
        run = live_more R p.opening d d' es.items e k.front.run due step;
        own = every-append (λ (y : EntryData). y.device ≡ p.device) es.items (e ∷ []) k.front.own (own ∙ k.own, tt);
        lines = λ name. subst (λ (l : List CommandData). IsPrefix l (to_send p.script.inits name)) (sym (sent_more name es.items e)) (lines name);
        admin = subst (λ (l : List EventData). IsPrefix l p.script.admin) (sym (admin_more es.items e)) admins;
      };
      counted = is;
      longest_is = k.longest_is;
      few_admin = k.few_admin;
      notes = notes_kept R es.longest d d' e.event e.answer step.makes named k.notes;
      few = few;
    }

-- an event that is in no list
keep_picked : (R : HandlerRelation) (p : PlanData) (c : CountsData) (es : EntriesData) (d d' : Device) (e : EntryData)
    → IsKeptFront R p c es d → e.device ≡ es.device → Step R d e d' → Accepts (most_accepted e.event) d d' → IsPicked d.state e.event → IsKeptFront R p c (with_entry es e) d'
keep_picked R p c es d d' e k own step accepts is =
    keep R p c c es d d' e k own step is.due
    (λ name. subst (λ (l : List CommandData). IsPrefix (sent name es.items ++ l) (to_send p.script.inits name)) (sym (is.unsent name)) (subst (λ (l : List CommandData). IsPrefix l (to_send p.script.inits name)) (sym (append-nil (sent name es.items))) (k.front.lines name)))
    (subst (λ (l : List EventData). IsPrefix (admin_made es.items ++ l) p.script.admin) (sym is.unlisted) (subst (λ (l : List EventData). IsPrefix l p.script.admin) (sym (append-nil (admin_made es.items))) k.front.admin))
    (k.counted ∙ counts_as _ _ _ _ (counts_quiet p.script.inits es.items e is.unsent) (ap (λ (l : List EventData). length l) (sym (admin_more es.items e ∙ ap (λ (l : List EventData). admin_made es.items ++ l) is.unlisted ∙ append-nil (admin_made es.items)))))
    (omega (arith, is.unnamed))
    (omega (arith, k.few, accepts.most, is.accepts))

keep_line : (R : HandlerRelation) (p : PlanData) (c : CountsData) (es : EntriesData) (d d' : Device) (at : ℕ) (e : EntryData)
    → IsKeptFront R p c es d → e.device ≡ es.device → Step R d e d' → Accepts (most_accepted e.event) d d' → IsLine p.script es.items at e.event → IsKeptFront R p (counted_with (ask.Line at) c) (with_entry es e) d'
keep_line R p c es d d' at e k own step accepts l =
    let counted_lines : c.lines ≡ map (sent_count es.items) p.script.inits = ap (λ (x : CountsData). x.lines) k.counted in
    let within : at < length c.lines = omega (arith, slice_get_within p.script.inits at l.init l.found, ap (λ (x : List ℕ). length x) counted_lines, length-map p.script.inits (sent_count es.items)) in
    let one : most_accepted e.event ≡ 1 = ap most_accepted l.is in
    keep R p c (counted_with (ask.Line at) c) es d d' e k own step (ap (may_stand d.state) l.is)
    (λ name. subst (λ (x : EventData). IsPrefix (sent name es.items ++ sent_under name x) (to_send p.script.inits name)) (sym l.is) (lines_next p.script.inits es.items at l.init l.command name k.front.plan.script.names l.found l.next l.own k.front.lines))
    (subst (λ (x : EventData). IsPrefix (admin_made es.items ++ if_admin x) p.script.admin) (sym l.is) (subst (λ (x : List EventData). IsPrefix x p.script.admin) (sym (append-nil (admin_made es.items))) k.front.admin))
    (ap (counted_with (ask.Line at)) k.counted ∙ counts_as _ _ _ _ (counts_line p.script.inits es.items e at l.init l.command k.front.plan.script.names l.found l.is l.own) (ap (λ (x : List EventData). length x) (sym (admin_more es.items e ∙ ap (λ (x : EventData). admin_made es.items ++ if_admin x) l.is ∙ append-nil (admin_made es.items)))))
    (omega (arith, ap named_in l.is))
    (omega (arith, k.few, accepts.most, one, sum_one_more c.lines at within))

keep_admin : (R : HandlerRelation) (p : PlanData) (c : CountsData) (es : EntriesData) (d d' : Device) (e : EntryData)
    → IsKeptFront R p c es d → e.device ≡ es.device → Step R d e d' → Accepts (most_accepted e.event) d d' → next_admin p.script es.items ≡ Some e.event → IsKeptFront R p (counted_with ask.Admin c) (with_entry es e) d'
keep_admin R p c es d d' e k own step accepts next =
    let is = all_at CanAdminister p.script.admin (length (admin_made es.items)) e.event k.front.plan.script.admin next in
    let listed : if_admin e.event ≡ e.event ∷ [] = ap (λ (b : Bool). cond b (e.event ∷ []) []) is.kind in
    let unsent : (name : List ℕ) → sent_under name e.event ≡ [] = admin_unsent e.event is.kind in
    let longer : length (admin_made (es.items ++ e ∷ [])) ≡ length (admin_made es.items) + 1 =
    ap (λ (l : List EventData). length l) (admin_more es.items e ∙ ap (λ (l : List EventData). admin_made es.items ++ l) listed) ∙ length-append (admin_made es.items) (e.event ∷ []) in
    keep R p c (counted_with ask.Admin c) es d d' e k own step (admin_due d.state e.event is.kind)
    (λ name. subst (λ (l : List CommandData). IsPrefix (sent name es.items ++ l) (to_send p.script.inits name)) (sym (unsent name)) (subst (λ (l : List CommandData). IsPrefix l (to_send p.script.inits name)) (sym (append-nil (sent name es.items))) (k.front.lines name)))
    (subst (λ (l : List EventData). IsPrefix (admin_made es.items ++ l) p.script.admin) (sym listed) (prefix_next (admin_made es.items) p.script.admin e.event k.front.admin next))
    (ap (counted_with ask.Admin) k.counted ∙ counts_as _ _ _ _ (counts_quiet p.script.inits es.items e unsent) (sym longer))
    (omega (arith, named_at p.script.admin (length (admin_made es.items)) e.event next, k.longest_is))
    (omega (arith, k.few, accepts.most, admin_accepts e.event is.kind))

-- an entry of the event that is asked for
pub keep_asked : (R : HandlerRelation) (p : PlanData) (c : CountsData) (es : EntriesData) (d d' : Device) (a : Ask) (e : EntryData)
    → IsKeptFront R p c es d → e.device ≡ es.device → Step R d e d' → Accepts (most_accepted e.event) d d' → asked_event p.script es.items d.state a ≡ Some e.event → IsKeptFront R p (counted_with a c) (with_entry es e) d'
keep_asked R p c es d d' (ask.Line at) e k own step accepts is = keep_line R p c es d d' at e k own step accepts (line_of p.script es.items at e.event k.front.plan.script is)
keep_asked R p c es d d' ask.Admin e k own step accepts is = keep_admin R p c es d d' e k own step accepts is
keep_asked R p c es d d' ask.Work e k own step accepts is = keep_picked R p c es d d' e k own step accepts (picked_work d.state e.event is)
keep_asked R p c es d d' (ask.Handle s) e k own step accepts is = keep_picked R p c es d d' e k own step accepts (subst (IsPicked d.state) (same_Some (ev.Handle s) e.event is) (picked_handle d.state s))
keep_asked R p c es d d' (ask.Respond s) e k own step accepts is = keep_picked R p c es d d' e k own step accepts (subst (IsPicked d.state) (same_Some (ev.Respond s) e.event is) (picked_respond d.state s))

-- so it is where the event was made
pub keep_made : (R : HandlerRelation) (p : PlanData) (c : CountsData) (es es' : EntriesData) (d d' : Device) (a : Ask) (event : EventData) (answer : Answer)
    → IsKeptFront R p c es d → MakesEntry R es d event answer es' d' → Accepts (most_accepted event) d d' → asked_event p.script es.items d.state a ≡ Some event → IsKeptFront R p (counted_with a c) es' d'
keep_made R p c es es' d d' a event answer k m accepts is =
    let e = m.adds.entry in
    let here : es' ≡ with_entry es e = m.entries ∙ ap (λ (l : List EntryData). let r : EntriesData = record es { items = es.items ++ l } in r) m.adds.one in
    subst (λ (x : EntriesData). IsKeptFront R p (counted_with a c) x d') (sym here)
    (keep_asked R p c es d d' a e k m.adds.own m.adds.step (subst (λ (x : EventData). Accepts (most_accepted x) d d') (sym m.adds.event_is) accepts) (is ∙ ap (λ (x : EventData). Some x) (sym m.adds.event_is)))

-- a count that an ask needs is there, and can rise
pub can_count : (R : HandlerRelation) (p : PlanData) (c : CountsData) (es : EntriesData) (d : Device) (a : Ask) (event : EventData)
    → IsKeptFront R p c es d → asked_event p.script es.items d.state a ≡ Some event → CanCount a c
can_count R p c es d (ask.Line at) event k is =
    let l = line_of p.script es.items at event k.front.plan.script is in
    let lines : c.lines ≡ map (sent_count es.items) p.script.inits = ap (λ (x : CountsData). x.lines) k.counted in
    let within : at < length c.lines = omega (arith, slice_get_within p.script.inits at l.init l.found, ap (λ (x : List ℕ). length x) lines, length-map p.script.inits (sent_count es.items)) in
    let held : slice_get c.lines at ≡ Some (sent_count es.items l.init) = ap (λ (x : List ℕ). slice_get x at) lines ∙ slice_get-map (sent_count es.items) p.script.inits at ∙ ap (option_map (sent_count es.items)) l.found in
    (within, omega (arith, get_or_from_slice_get c.lines at (sent_count es.items l.init) 0 held, sent_few R p c es d k at l.init l.found, one_few p.script.inits at l.init l.found, k.front.plan.script.few_commands))
can_count R p c es d ask.Admin event k is =
    omega (arith, ap (λ (x : CountsData). x.admin) k.counted, slice_get_within p.script.admin (length (admin_made es.items)) event is, k.few_admin)
can_count R p c es d ask.Work event k is = tt
can_count R p c es d (ask.Handle s) event k is = tt
can_count R p c es d (ask.Respond s) event k is = tt

-- ==== at the start

pub keep_none : (R : HandlerRelation) (p : PlanData) (d : Device) → CanKeep p.script → length p.script.admin < 2 ^ 64 → IsOpened d → p.opening ≡ d
    → IsKeptFront R p (record { lines = replicate (length p.script.inits) 0; admin = 0 }) (record { device = p.device; longest = most_named p.script.admin; items = [] }) d
keep_none R p d script few_admin opened is =
    let state : d.state ≡ opening_state d.state.settings = opened.state in
    record {
      own = refl;
      front = record { plan = record { script = script; opened = subst IsOpened (sym is) opened }; run = sym is; own = tt; lines = λ name. prefix_none (to_send p.script.inits name); admin = prefix_none p.script.admin };
      counted = counts_as _ _ _ _ (sym (counts_none p.script.inits)) refl;
      longest_is = refl;
      few_admin = few_admin;
      notes = subst (λ (x : DeviceState). NotesName (most_named p.script.admin) x) (sym state) tt;
      few = omega (arith, ap (λ (x : DeviceState). x.accepted) state, sum_none (length p.script.inits));
    }

pub keep_new : (R : HandlerRelation) (p : PlanData) (d : Device) (c : CountsData) (es : EntriesData) (n : ℕ) → CanKeep p.script → length p.script.admin < 2 ^ 64 → IsOpened d → p.opening ≡ d → n ≡ length p.script.inits
    → c ≡ record { lines = replicate n 0; admin = 0 } → es ≡ record { device = p.device; longest = most_named p.script.admin; items = [] } → IsKeptFront R p c es d
keep_new R p d c es n script few_admin opened is many counts entries =
    subst (λ (x : CountsData). IsKeptFront R p x es d) (sym (counts ∙ ap (λ (k : ℕ). let r : CountsData = record { lines = replicate k 0; admin = 0 } in r) many))
    (subst (λ (x : EntriesData). IsKeptFront R p (record { lines = replicate (length p.script.inits) 0; admin = 0 }) x d) (sym entries) (keep_none R p d script few_admin opened is))

-- ==== an event that is made

pub makes_entry : (R : HandlerRelation) (es : EntriesData) (d d' : Device) (event : EventData) (kept : AnswerData) (answer : Answer) (logged : ℕ) (before items : List EntryData)
    → items ≡ before ++ record { device = es.device; event = event; answer = kept; logged = logged } ∷ [] → before ≡ es.items → answer_data answer ≡ kept → Makes R d event kept d' → length d'.state.log ≡ length d.state.log + logged
    → MakesEntry R es d event answer (record es { items = items }) d'
makes_entry R es d d' event kept answer logged before items is same told makes logs =
    let e : EntryData = record { device = es.device; event = event; answer = kept; logged = logged } in
    record {
      added = e ∷ [];
      entries = ap (λ (l : List EntryData). let r : EntriesData = record es { items = l } in r) (is ∙ ap (λ (l : List EntryData). l ++ e ∷ []) same);
      adds = record { entry = e; one = refl; own = refl; event_is = refl; answer_is = sym told; step = record { makes = makes; logged = logs } };
    }
