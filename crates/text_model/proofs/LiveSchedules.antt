-- Each script has a schedule, and its lines are replayed as it stands.
use Rattle.std.proofs.Common.{◌≡◌, ◌≢◌, ℕ, zero, suc, ◌<◌, Bool, true, false, cond, List, [], ◌∷◌, ◌++◌, length, map, All, slice_get, slice_set, Option, Some, None, refl, sym, ap, ◌∙◌, subst, arith, length-append}
use Rattle.std.specs.List.{AllPairs, flat_map}
use Rattle.std.specs.Str.{bytes_eq}
use Rattle.std.proofs.lemmas.Bool.{cond-true}
use Rattle.std.proofs.lemmas.List.{append-nil}
use Rattle.std.proofs.lemmas.List.Concat.{flat_map-append}
use Rattle.std.proofs.lemmas.List.Elements.{All-head, All-tail}
use Rattle.std.proofs.lemmas.Option.{slice_get_within}
use Rattle.std.proofs.lemmas.Slice.Eq.{bytes_eq-Decides}
use Rattle.tcmu_types.specs.Data.{CommandData}
use Rattle.tcmu_types.specs.Rules.{IsCommand}
use Rattle.tcmu_types.specs.Events.{EventData, AnswerData, EntryData}
use Rattle.tcmu_types.specs.Events as ev
use Rattle.tcmu_types.specs.Lists.{Every}
use Rattle.tcmu_types.proofs.Everies.{every-append, every_at}
use Rattle.tcmu_types.proofs.Places.{get_within}
use Rattle.tcmu_types.proofs.Readings.{same_bytes, same_some}
use Rattle.tcmu_model.specs.Device.{DeviceState, Device}
use Rattle.tcmu_model.specs.Drain.{todo_of, nothing_to_do, drain_event, Drains}
use Rattle.tcmu_model.specs.Events.{submit_answer, after_submit, tick_answer, after_tick, block_answer, after_block, reset_answer, after_reset, restart_answer, after_restart, tmr_answer, after_tmr, stat_answer}
use Rattle.tcmu_model.specs.Sound.{IsSound}
use Rattle.tcmu_model.specs.Steps.{HandlerRelation, Makes, Step, Run, moved}
use Rattle.tcmu_model.specs.Work.{HasOutcomes}
use Rattle.tcmu_model.proofs.DrainEnds.{drain_ends}
use Rattle.tcmu_model.proofs.Draining.{all_todo}
use Rattle.tcmu_model.proofs.Logs.{makes_grows}
use Rattle.tcmu_model.proofs.Runs.{sound_step}
use Rattle.text_model.specs.Journals.{Journaled, entries_of, IsLegalEach}
use Rattle.text_model.specs.Replay.{lines_of, Plays}
use Rattle.text_model.specs.Schedule.{may_stand, is_work, LiveRun, sent_under, sent, to_send, if_admin, admin_made, IsSchedule, HasSchedule, StandsAttached, AreSchedules}
use Rattle.text_model.specs.ScenarioData.{ScenarioData}
use Rattle.text_model.specs.ScenarioRules.{IsInitLine, IsAdminEvent, IsScript}
use Rattle.text_model.specs.Script.{InitLineData, ScriptData, is_admin}
use Rattle.text_model.specs.Several.{ReplaysEach}
use Rattle.text_model.proofs.JournalSteps.{made_again}

-- ==== one event of a script

-- a command that keeps the rules, or an event of the administration
abbrev IsListed : EventData → Type 0
IsListed (ev.Submit c) = IsCommand c
IsListed e = is_admin e ≡ true

-- its entry
record IsMade (R : HandlerRelation) (at : ℕ) (event : EventData) (d : Device) : Type 0 where
  entry : EntryData
  after : Device
  step : Step R d entry after
  is : entry.event ≡ event
  own : entry.device ≡ at
  due : may_stand d.state event ≡ true

entry_of : (R : HandlerRelation) (at : ℕ) (d d' : Device) (event : EventData) (a : AnswerData) → Makes R d event a d' → may_stand d.state event ≡ true → IsMade R at event d
entry_of R at d d' event a h due =
    let g = makes_grows R d d' event a h in
    record {
      entry = record { device = at; event = event; answer = a; logged = length g.0 };
      after = d';
      step = record { makes = h; logged = omega (arith, ap (λ l. length l) g.1, length-append d.state.log g.0) };
      is = refl;
      own = refl;
      due = due;
    }

listed_made : (R : HandlerRelation) (at : ℕ) (d : Device) (event : EventData) → IsListed event → IsMade R at event d
listed_made R at d (ev.Submit c) h = entry_of R at d (moved d (after_submit d.state c (submit_answer d.state c))) (ev.Submit c) (ev.Submitted (submit_answer d.state c)) (record { command = h; answer = refl; after = refl }) refl
listed_made R at d (ev.Tick n) h = entry_of R at d (moved d (after_tick d.state n)) (ev.Tick n) (ev.Logged (tick_answer d.state n)) (record { answer = refl; after = refl }) refl
listed_made R at d ev.Block h = entry_of R at d (moved d (after_block d.state true)) ev.Block (ev.Changed (block_answer d.state true)) (record { answer = refl; after = refl }) refl
listed_made R at d ev.Unblock h = entry_of R at d (moved d (after_block d.state false)) ev.Unblock (ev.Changed (block_answer d.state false)) (record { answer = refl; after = refl }) refl
listed_made R at d (ev.Reset level) h = entry_of R at d (moved d (after_reset d.state level)) (ev.Reset level) (ev.WasReset (reset_answer d.state level)) (record { answer = refl; after = refl }) refl
listed_made R at d ev.Restart h = entry_of R at d (moved d (after_restart d.state)) ev.Restart (ev.Lost (restart_answer d.state)) (record { answer = refl; after = refl }) refl
listed_made R at d (ev.Tmr kind ss) h = entry_of R at d (moved d (after_tmr d.state kind ss (tmr_answer d.state ss))) (ev.Tmr kind ss) (ev.Noted (tmr_answer d.state ss)) (record { answer = refl; after = refl }) refl
listed_made R at d ev.Stat h = entry_of R at d d ev.Stat (ev.Told (stat_answer d.state)) (record { answer = refl; after = refl }) refl
listed_made R at d ev.Dispatch h = absurd (cc)
listed_made R at d (ev.Handle s) h = absurd (cc)
listed_made R at d (ev.Respond s) h = absurd (cc)
listed_made R at d ev.Publish h = absurd (cc)
listed_made R at d ev.Clean h = absurd (cc)
listed_made R at d ev.Enter h = absurd (cc)

-- ==== all events of a script

record ArePlayed (R : HandlerRelation) (at : ℕ) (events : List EventData) (d : Device) : Type 0 where
  entries : List EntryData
  after : Device
  run : LiveRun R d entries after
  sound : IsSound after.state
  are : map (λ e. e.event) entries ≡ events
  own : Every (λ e. e.device ≡ at) entries

played : (R : HandlerRelation) (at : ℕ) (events : List EventData) (d : Device) → IsSound d.state → Every IsListed events → ArePlayed R at events d
played R at [] d sound h = record { entries = []; after = d; run = refl; sound = sound; are = refl; own = tt }
played R at (x ∷ xs) d sound h =
    let m = listed_made R at d x h.0 in
    let rest = played R at xs m.after (sound_step R d m.after m.entry sound m.step) h.1 in
    record {
      entries = m.entry ∷ rest.entries;
      after = rest.after;
      run = (subst (λ (y : EventData). may_stand d.state y ≡ true) (sym m.is) m.due, m.after, m.step, rest.run);
      sound = rest.sound;
      are = ap (λ (y : EventData). y ∷ map (λ e. e.event) rest.entries) m.is ∙ ap (λ (l : List EventData). x ∷ l) rest.are;
      own = (m.own, rest.own);
    }

-- ==== a drain behind them

-- what a drain chooses is due, and is in no list of a script
record IsPicked (d : DeviceState) (event : EventData) : Type 0 where
  due : may_stand d event ≡ true
  unsent : (name : List ℕ) → sent_under name event ≡ []
  unlisted : if_admin event ≡ []

drain_picked : (d : DeviceState) (event : EventData) → drain_event d ≡ Some event → IsPicked d event
unfolding drain_event
drain_picked d event e = let t = todo_of d in go t.handle t.respond t.publish t.clean t.enter t.dispatch refl refl refl refl e
  where
    go : (h r : Option ℕ) (p c n x : Bool) → (todo_of d).publish ≡ p → (todo_of d).clean ≡ c → (todo_of d).enter ≡ n → (todo_of d).dispatch ≡ x
        → ◌≡◌ {A = Option EventData} (elim h [ Some s ↦ Some (ev.Handle s) | None ↦ elim r [ Some s ↦ Some (ev.Respond s) | None ↦ cond p (Some ev.Publish) (cond c (Some ev.Clean) (cond n (Some ev.Enter) (cond x (Some ev.Dispatch) None))) ] ]) (Some event) → IsPicked d event
    go (Some s) r p c n x ep ec en ex q = subst (IsPicked d) (same_some (ev.Handle s) event q) (record { due = refl; unsent = λ name. refl; unlisted = refl })
    go None (Some s) p c n x ep ec en ex q = subst (IsPicked d) (same_some (ev.Respond s) event q) (record { due = refl; unsent = λ name. refl; unlisted = refl })
    go None None true c n x ep ec en ex q = subst (IsPicked d) (same_some ev.Publish event q) (record { due = ep; unsent = λ name. refl; unlisted = refl })
    go None None false true n x ep ec en ex q = subst (IsPicked d) (same_some ev.Clean event q) (record { due = ec; unsent = λ name. refl; unlisted = refl })
    go None None false false true x ep ec en ex q = subst (IsPicked d) (same_some ev.Enter event q) (record { due = en; unsent = λ name. refl; unlisted = refl })
    go None None false false false true ep ec en ex q = subst (IsPicked d) (same_some ev.Dispatch event q) (record { due = ex; unsent = λ name. refl; unlisted = refl })
    go None None false false false false ep ec en ex q = absurd (cc)

live_then : (R : HandlerRelation) (d m d' : Device) (es fs : List EntryData) → LiveRun R d es m → LiveRun R m fs d' → LiveRun R d (es ++ fs) d'
live_then R d m d' [] fs h k = subst (λ (x : Device). LiveRun R x fs d') h k
live_then R d m d' (e ∷ es) fs h k = (h.0, h.1, h.2, live_then R h.1 m d' es fs h.3 k)

-- what a drain adds to a schedule
record AddsDrain (R : HandlerRelation) (at : ℕ) (d : Device) (es : List EntryData) (d' : Device) : Type 0 where
  run : LiveRun R d es d'
  own : Every (λ e. e.device ≡ at) es
  unsent : (name : List ℕ) → sent name es ≡ []
  unlisted : admin_made es ≡ []
  done : drain_event d'.state ≡ None

drained : (R : HandlerRelation) (at : ℕ) (d d' : Device) (es : List EntryData) → Drains R at d es d' → AddsDrain R at d es d'
drained R at d d' [] h = record { run = h.1; own = tt; unsent = λ name. refl; unlisted = refl; done = ap (λ (x : Device). drain_event x.state) h.1 ∙ h.0 }
drained R at d d' (e ∷ es) h =
    let picked = drain_picked d.state e.event h.1 in
    let rest = drained R at h.2 d' es h.4 in
    record {
      run = (picked.due, h.2, h.3, rest.run);
      own = (h.0, rest.own);
      unsent = λ name. ap (λ (l : List CommandData). l ++ sent name es) (picked.unsent name) ∙ rest.unsent name;
      unlisted = ap (λ (l : List EventData). l ++ admin_made es) picked.unlisted ∙ rest.unlisted;
      done = rest.done;
    }

-- ==== the lists

-- the events of a script, one initiator behind another and then the administration
abbrev submits : List InitLineData → List EventData
submits is = flat_map (λ i. map ev.Submit i.commands) is

abbrev listed : ScriptData → List EventData
listed x = submits x.inits ++ x.admin

of_events : {Y : Type 0} (f : EventData → List Y) (es : List EntryData) → flat_map (λ (e : EntryData). f e.event) es ≡ flat_map f (map (λ e. e.event) es)
of_events f [] = refl
of_events f (e ∷ es) = ap (λ l. f e.event ++ l) (of_events f es)

-- commands that are sent under one name

abbrev AreOwn : List ℕ → List CommandData → Type 0
AreOwn n cs = Every (λ c. c.init ≡ n) cs

own_sent : (n name : List ℕ) (cs : List CommandData) → AreOwn n cs → flat_map (sent_under name) (map ev.Submit cs) ≡ cond (bytes_eq n name) cs []
own_sent n name [] h = by (bytes_eq n name)
  where
    by : (b : Bool) → [] ≡ cond {A = List CommandData} b [] []
    by true = refl
    by false = refl
own_sent n name (c ∷ cs) h =
    ap (λ (y : List ℕ). cond (bytes_eq y name) (c ∷ []) [] ++ flat_map (sent_under name) (map ev.Submit cs)) h.0
    ∙ ap (λ (l : List CommandData). cond (bytes_eq n name) (c ∷ []) [] ++ l) (own_sent n name cs h.1) ∙ by (bytes_eq n name)
  where
    by : (b : Bool) → cond b (c ∷ []) [] ++ cond b cs [] ≡ cond b (c ∷ cs) []
    by true = refl
    by false = refl

abbrev EachOwn : List InitLineData → Type 0
EachOwn is = Every (λ i. AreOwn i.name i.commands) is

abbrev Apart : List InitLineData → Type 0
Apart [] = Unit {0}
Apart (i ∷ is) = Every (λ j. i.name ≢ j.name) is × Apart is

none_of : (is : List InitLineData) (n name : List ℕ) → n ≡ name → Every (λ j. n ≢ j.name) is → to_send is name ≡ []
none_of [] n name e h = refl
none_of (i ∷ is) n name e h = by (bytes_eq i.name name) refl (none_of is n name e h.1)
  where
    by : (b : Bool) → bytes_eq i.name name ≡ b → to_send is name ≡ [] → cond b i.commands (to_send is name) ≡ []
    by true t rest = absurd (h.0 (e ∙ sym (same_bytes i.name name t)))
    by false f rest = rest

all_sent : (is : List InitLineData) (name : List ℕ) → EachOwn is → Apart is → flat_map (sent_under name) (submits is) ≡ to_send is name
all_sent [] name own apart = refl
all_sent (i ∷ is) name own apart =
    flat_map-append (sent_under name) (map ev.Submit i.commands) (submits is)
    ∙ ap (λ (l : List CommandData). l ++ flat_map (sent_under name) (submits is)) (own_sent i.name name i.commands own.0)
    ∙ ap (λ (l : List CommandData). cond (bytes_eq i.name name) i.commands [] ++ l) (all_sent is name own.1 apart.1)
    ∙ by (bytes_eq i.name name) refl
  where
    by : (b : Bool) → bytes_eq i.name name ≡ b → cond b i.commands [] ++ to_send is name ≡ cond b i.commands (to_send is name)
    by true t = ap (λ (l : List CommandData). i.commands ++ l) (none_of is i.name name (same_bytes i.name name t) apart.0) ∙ append-nil i.commands
    by false f = refl

-- events of the administration

abbrev AreAdmin : List EventData → Type 0
AreAdmin es = Every (λ e. is_admin e ≡ true) es

admin_unsent : (e : EventData) (name : List ℕ) → is_admin e ≡ true → sent_under name e ≡ []
admin_unsent (ev.Submit c) name h = absurd (cc)
admin_unsent e name h = refl

none_sent : (es : List EventData) (name : List ℕ) → AreAdmin es → flat_map (sent_under name) es ≡ []
none_sent [] name h = refl
none_sent (e ∷ es) name h = ap (λ (l : List CommandData). l ++ flat_map (sent_under name) es) (admin_unsent e name h.0) ∙ none_sent es name h.1

all_admin : (es : List EventData) → AreAdmin es → flat_map if_admin es ≡ es
all_admin [] h = refl
all_admin (e ∷ es) h = ap (λ (b : Bool). cond b (e ∷ []) [] ++ flat_map if_admin es) h.0 ∙ ap (λ (l : List EventData). e ∷ l) (all_admin es h.1)

no_admin : (cs : List CommandData) → flat_map if_admin (map ev.Submit cs) ≡ []
no_admin [] = refl
no_admin (c ∷ cs) = no_admin cs

none_admin : (is : List InitLineData) → flat_map if_admin (submits is) ≡ []
none_admin [] = refl
none_admin (i ∷ is) = flat_map-append if_admin (map ev.Submit i.commands) (submits is) ∙ ap (λ (l : List EventData). l ++ flat_map if_admin (submits is)) (no_admin i.commands) ∙ none_admin is

-- ==== what a script keeps

every_of : {X : Type 0} (P Q : X → Type 0) (xs : List X) → ((x : X) → P x → Q x) → All P xs → Every Q xs
every_of P Q [] turns h = tt
every_of P Q (x ∷ xs) turns h = (turns x (All-head P x xs h), every_of P Q xs turns (All-tail P x xs h))

-- the first is apart from each behind it
apart_first : (i : InitLineData) (is : List InitLineData) → AllPairs (λ a b. a.name ≢ b.name) (i ∷ is) → All (λ j. i.name ≢ j.name) is
apart_first i is h = λ k d lt. h 0 (suc k) d (omega arith) (omega (arith, lt))

apart_of : (is : List InitLineData) → AllPairs (λ a b. a.name ≢ b.name) is → Apart is
apart_of [] h = tt
apart_of (i ∷ is) h = (
  every_of (λ j. i.name ≢ j.name) (λ j. i.name ≢ j.name) is (λ j ne. ne) (apart_first i is h),
  apart_of is (λ a b d less lt. h (suc a) (suc b) d (omega (arith, less)) (omega (arith, lt))),
)

listed_each : (cs : List CommandData) → All IsCommand cs → Every IsListed (map ev.Submit cs)
listed_each [] h = tt
listed_each (c ∷ cs) h = (All-head IsCommand c cs h, listed_each cs (All-tail IsCommand c cs h))

listed_submits : (is : List InitLineData) → All IsInitLine is → Every IsListed (submits is)
listed_submits [] h = tt
listed_submits (i ∷ is) h =
    let first = All-head IsInitLine i is h in
    every-append IsListed (map ev.Submit i.commands) (submits is) (listed_each i.commands first.commands) (listed_submits is (All-tail IsInitLine i is h))

admin_listed : (e : EventData) → is_admin e ≡ true → IsListed e
admin_listed (ev.Submit c) h = absurd (cc)
admin_listed e h = h

-- ==== a schedule

pub schedule_exists : (R : HandlerRelation) (at : ℕ) (x : ScriptData) (d : Device) → IsScript x → IsSound d.state → HasOutcomes R → HasSchedule R at x d
schedule_exists R at x d script sound outcomes =
    let own : EachOwn x.inits = every_of IsInitLine (λ i. AreOwn i.name i.commands) x.inits (λ i is. every_of (λ c. c.init ≡ i.name) (λ c. c.init ≡ i.name) i.commands (λ c e. e) is.own) script.inits in
    let admins : AreAdmin x.admin = every_of IsAdminEvent (λ e. is_admin e ≡ true) x.admin (λ e is. is.kind) script.admin in
    let all : Every IsListed (listed x) = every-append IsListed (submits x.inits) x.admin (listed_submits x.inits script.inits) (every_of IsAdminEvent IsListed x.admin (λ e is. admin_listed e is.kind) script.admin) in
    let p = played R at (listed x) d sound all in
    let e = drain_ends R at p.after outcomes p.sound in
    let adds = drained R at p.after e.end e.entries e.drain in
    let lines : (name : List ℕ) → sent name (p.entries ++ e.entries) ≡ to_send x.inits name =
    λ name. flat_map-append (λ (y : EntryData). sent_under name y.event) p.entries e.entries
    ∙ ap (λ (l : List CommandData). sent name p.entries ++ l) (adds.unsent name) ∙ append-nil (sent name p.entries)
    ∙ of_events (sent_under name) p.entries ∙ ap (flat_map (sent_under name)) p.are ∙ flat_map-append (sent_under name) (submits x.inits) x.admin
    ∙ ap (λ (l : List CommandData). flat_map (sent_under name) (submits x.inits) ++ l) (none_sent x.admin name admins) ∙ append-nil (flat_map (sent_under name) (submits x.inits))
    ∙ all_sent x.inits name own (apart_of x.inits script.names) in
    let events : admin_made (p.entries ++ e.entries) ≡ x.admin =
    flat_map-append (λ (y : EntryData). if_admin y.event) p.entries e.entries
    ∙ ap (λ (l : List EventData). admin_made p.entries ++ l) adds.unlisted ∙ append-nil (admin_made p.entries)
    ∙ of_events if_admin p.entries ∙ ap (flat_map if_admin) p.are ∙ flat_map-append if_admin (submits x.inits) x.admin
    ∙ ap (λ (l : List EventData). l ++ flat_map if_admin x.admin) (none_admin x.inits) ∙ all_admin x.admin admins in
    record {
      entries = p.entries ++ e.entries;
      end = e.end;
      is = record {
        run = live_then R d p.after e.end p.entries e.entries p.run adds.run;
        own = every-append (λ y. y.device ≡ at) p.entries e.entries p.own adds.own;
        made = record { lines = lines; admin = events };
        done = adds.done;
      };
    }

-- ==== what a schedule keeps

-- the commands of an initiator whose name no other has
own_to_send : (is : List InitLineData) (k : ℕ) (i : InitLineData) → Apart is → slice_get is k ≡ Some i → to_send is i.name ≡ i.commands
own_to_send [] k i apart e = absurd (cc)
own_to_send (j ∷ is) zero i apart e =
    let same : j ≡ i = same_some j i e in
    cond-true _ _ _ ((bytes_eq-Decides j.name i.name).1 (ap (λ (x : InitLineData). x.name) same)) ∙ ap (λ (x : InitLineData). x.commands) same
own_to_send (j ∷ is) (suc k) i apart e = go (bytes_eq j.name i.name) refl (own_to_send is k i apart.1 e)
  where
    go : (b : Bool) → bytes_eq j.name i.name ≡ b → to_send is i.name ≡ i.commands → cond b j.commands (to_send is i.name) ≡ i.commands
    go true t rest = absurd (every_at (λ (x : InitLineData). j.name ≢ x.name) is k i apart.0 e (same_bytes j.name i.name t))
    go false f rest = rest

pub schedule_sends : (R : HandlerRelation) (device : ℕ) (x : ScriptData) (d d' : Device) (es : List EntryData) (k : ℕ) (i : InitLineData) → IsScript x → IsSchedule R device x d es d' → slice_get x.inits k ≡ Some i → sent i.name es ≡ i.commands
schedule_sends R device x d d' es k i script is found = is.made.lines i.name ∙ own_to_send x.inits k i (apart_of x.inits script.names) found

-- what a drain finds to do it finds on an attached device
due_attached : (d : DeviceState) (e : EventData) → is_work e ≡ true → may_stand d e ≡ true → d.attached ≡ true
unfolding todo_of
due_attached d ev.Dispatch work due = on_attached d.attached due
  where
    on_attached : (b : Bool) → (cond b (all_todo d) nothing_to_do).dispatch ≡ true → b ≡ true
    on_attached true q = refl
    on_attached false q = absurd (cc)
due_attached d ev.Publish work due = on_attached d.attached due
  where
    on_attached : (b : Bool) → (cond b (all_todo d) nothing_to_do).publish ≡ true → b ≡ true
    on_attached true q = refl
    on_attached false q = absurd (cc)
due_attached d ev.Clean work due = on_attached d.attached due
  where
    on_attached : (b : Bool) → (cond b (all_todo d) nothing_to_do).clean ≡ true → b ≡ true
    on_attached true q = refl
    on_attached false q = absurd (cc)
due_attached d ev.Enter work due = on_attached d.attached due
  where
    on_attached : (b : Bool) → (cond b (all_todo d) nothing_to_do).enter ≡ true → b ≡ true
    on_attached true q = refl
    on_attached false q = absurd (cc)
due_attached d e work due = absurd (cc)

pub works_attached : (R : HandlerRelation) (d d' : Device) (before later : List EntryData) (e : EntryData) → LiveRun R d (before ++ e ∷ later) d' → is_work e.event ≡ true → StandsAttached R d before
works_attached R d d' [] later e h work = record { device = d; run = refl; attached = due_attached d.state e.event work h.0 }
works_attached R d d' (x ∷ before) later e h work =
    let rest = works_attached R h.1 d' before later e h.3 work in
    record { device = rest.device; run = (h.1, h.2, rest.run); attached = rest.attached }

-- ==== a replay of its lines

pub live_run : (R : HandlerRelation) (d d' : Device) (es : List EntryData) → LiveRun R d es d' → Run R d es d'
live_run R d d' [] h = h
live_run R d d' (e ∷ es) h = (h.1, h.2, live_run R h.1 d' es h.3)

-- of one device
lines_again : (R : HandlerRelation) (d d' : Device) (es : List EntryData) → LiveRun R d es d' → Every (λ e. e.device ≡ 0) es → drain_event d'.state ≡ None → ReplaysEach (Plays R) (d ∷ []) (lines_of es) es (d' ∷ [])
lines_again R d d' [] h own done = ([], [], d', [], refl, refl, (ap (λ (x : Device). drain_event x.state) (sym h) ∙ done, h), (refl, refl))
lines_again R d d' (e ∷ es) h own done =
    let here : slice_get (d ∷ []) e.device ≡ Some d = ap (slice_get (d ∷ [])) own.0 in
    let rest = lines_again R h.1 d' es h.3 own.1 done in
    let after : slice_set (d ∷ []) e.device h.1 ≡ h.1 ∷ [] = ap (λ (n : ℕ). slice_set (d ∷ []) n h.1) own.0 in
    (e ∷ [], es, d, h.1, refl, here, (e, refl, refl, h.2, refl), subst (λ (ds : List Device). ReplaysEach (Plays R) ds (lines_of es) es (d' ∷ [])) (sym after) rest)

pub schedule_again : (R : HandlerRelation) (x : ScriptData) (d d' : Device) (es : List EntryData) → IsSchedule R 0 x d es d' → ReplaysEach (Plays R) (d ∷ []) (lines_of es) es (d' ∷ [])
schedule_again R x d d' es is = lines_again R d d' es is.run is.own is.done

every_from : {X : Type 0} (P : X → Type 0) (xs : List X) → ((i : ℕ) (x : X) → slice_get xs i ≡ Some x → P x) → Every P xs
every_from P [] h = tt
every_from P (x ∷ xs) h = (h 0 x refl, every_from P xs (λ i y e. h (suc i) y e))

-- of several
pub schedules_done : (R : HandlerRelation) (s : ScenarioData) (opened : List Device) (js : List Journaled) (ends : List Device) → length ends ≡ length opened → AreSchedules R s opened js ends → Every (λ d. drain_event d.state ≡ None) ends
schedules_done R s opened js ends count are = every_from (λ (d : Device). drain_event d.state ≡ None) ends (λ at d found.
    let within = slice_get_within ends at d found in
    let start = get_within opened at (omega (arith, within, count)) in
    (are at start.0 d start.1 found).done)

pub schedules_again : (R : HandlerRelation) (s : ScenarioData) (opened : List Device) (js : List Journaled) (ends : List Device) → length ends ≡ length opened → Every (λ j. j.entry.device < length opened) js → IsLegalEach R opened js ends
    → AreSchedules R s opened js ends → ReplaysEach (Plays R) opened (lines_of (entries_of js)) (entries_of js) ends
schedules_again R s opened js ends count within legal are = made_again R opened js ends count within legal (schedules_done R s opened js ends count are)
