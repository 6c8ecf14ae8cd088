-- A drain keeps its device attached, can always go on where the handler can answer, and ends.
use Rattle.std.proofs.Common.{◌≡◌, ℕ, ◌+◌, ◌<◌, ◌≤◌, Bool, true, false, List, [], ◌∷◌, length, refl, sym, ap, ◌∙◌, arith, ⊎_elim, subst, Some, None, Option, suc, zero, inl, inr, length-append}
use Rattle.std.specs.List.{list_any, count_by}
use Rattle.std.proofs.lemmas.Bool.{cases_Bool, false≢true}
use Rattle.tcmu_types.specs.Data.{CommandData, DoneData, SettingsData}
use Rattle.tcmu_types.specs.Rules.{IsCommand}
use Rattle.tcmu_types.specs.Events.{EventData, AnswerData, EntryData}
use Rattle.tcmu_types.specs.Events as ev
use Rattle.tcmu_types.specs.declared.answer.Handle.TheVariants as handle
use Rattle.tcmu_model.specs.declared.state.CommandState.TheVariants.{Out, Placed}
use Rattle.tcmu_types.specs.Lists.{first_of, Every}
use Rattle.tcmu_model.specs.RingState.{Item, Laid, Cmd}
use Rattle.tcmu_model.specs.Device.{Unfinished, DeviceState, Device, is_at}
use Rattle.tcmu_model.specs.Events.{with_command, enter_answer, after_enter, dispatch_answer, after_dispatch, after_handle, respond_answer, after_respond, publish_answer, after_publish, Books, finish, finish_all, completions, books, answered, clean_answer, after_clean}
use Rattle.tcmu_model.specs.Steps.{HandlerRelation, asked, moved, Makes, Step}
use Rattle.tcmu_model.specs.Drain.{drain_event, Drains}
use Rattle.tcmu_model.specs.Sound.{IsLaid, Along, IsItem, IsSound, times_logged, times_open, is_open_at, is_delayed_at}
use Rattle.tcmu_model.specs.Work.{work, HasOutcome, HasOutcomes, DrainEnds}
use Rattle.tcmu_types.proofs.Everies.{every-first}
use Rattle.tcmu_model.proofs.Draining.{Choice, handles, responds, publishes, cleans, enters, dispatches, chosen_attached, work_falls}
use Rattle.tcmu_model.proofs.Runs.{sound_step}
use Rattle.tcmu_model.proofs.Drained.{drained}
use Rattle.tcmu_model.proofs.Accounts.{each_once}
use Rattle.tcmu_model.proofs.Unnamed.{enter_kept, dispatch_kept, respond_kept, publish_kept}

-- ==== the bit stays

handle_attached : (R : HandlerRelation) (d d' : Device) (s : ℕ) (a : AnswerData) → Makes R d (ev.Handle s) a d' → d'.state.attached ≡ d.state.attached
unfolding after_handle
handle_attached R d d' s (ev.Answered (handle.Done reply)) m = ap (λ (x : DeviceState). x.attached) m.1.state
handle_attached R d d' s (ev.Answered (handle.NotOut t)) m = ap (λ (x : Device). x.state.attached) m.2
handle_attached R d d' s _ m = absurd m

stays : (d d' : Device) (s : DeviceState) → d' ≡ moved d s → s.attached ≡ d.state.attached → d'.state.attached ≡ d.state.attached
stays d d' s e h = ap (λ (x : Device). x.state.attached) e ∙ h

clean_attached : (d : DeviceState) → (after_clean d).attached ≡ d.attached
unfolding after_clean
clean_attached d = refl

attached_by : (R : HandlerRelation) (d d' : Device) (e : EventData) (a : AnswerData) → Choice d.state e → Makes R d e a d' → d'.state.attached ≡ d.state.attached
unfolding with_command
attached_by R d d' e a (handles u h k) m = handle_attached R d d' u.serial a (subst (λ (x : EventData). Makes R d x a d') k m)
attached_by R d d' e a (responds u h k) m = responded a (subst (λ (x : EventData). Makes R d x a d') k m)
  where
    responded : (b : AnswerData) → Makes R d (ev.Respond u.serial) b d' → d'.state.attached ≡ d.state.attached
    responded (ev.Responded b) m = stays d d' (after_respond d.state u.serial) m.after (respond_kept (λ x. x.attached) d.state u.serial refl)
    responded _ m = absurd m
attached_by R d d' e a (publishes h k) m = published a (subst (λ (x : EventData). Makes R d x a d') k m)
  where
    published : (b : AnswerData) → Makes R d ev.Publish b d' → d'.state.attached ≡ d.state.attached
    published (ev.Published b) m = stays d d' (after_publish d.state) m.after (publish_kept (λ x. x.attached) d.state refl)
    published _ m = absurd m
attached_by R d d' e a (cleans h k) m = cleaned a (subst (λ (x : EventData). Makes R d x a d') k m)
  where
    cleaned : (b : AnswerData) → Makes R d ev.Clean b d' → d'.state.attached ≡ d.state.attached
    cleaned (ev.Logged b) m = stays d d' (after_clean d.state) m.after (clean_attached d.state)
    cleaned _ m = absurd m
attached_by R d d' e a (enters h k) m = entered a (subst (λ (x : EventData). Makes R d x a d') k m)
  where
    entered : (b : AnswerData) → Makes R d ev.Enter b d' → d'.state.attached ≡ d.state.attached
    entered (ev.Entered b) m =
        stays d d' (after_enter d.state (enter_answer d.state)) (subst (λ x. d' ≡ moved d (after_enter d.state x)) m.answer m.after) (enter_kept (λ x. x.attached) d.state (enter_answer d.state) (λ w ws. refl))
    entered _ m = absurd m
attached_by R d d' e a (dispatches h k) m = sent a (subst (λ (x : EventData). Makes R d x a d') k m)
  where
    sent : (b : AnswerData) → Makes R d ev.Dispatch b d' → d'.state.attached ≡ d.state.attached
    sent (ev.Dispatched b) m = stays d d' (after_dispatch d.state) m.after (dispatch_kept (λ x. x.attached) d.state (λ i. refl))
    sent _ m = absurd m

-- a drain leaves its device attached, with no command unfinished or delayed
pub drain_empties : (R : HandlerRelation) (device : ℕ) (d d' : Device) (es : List EntryData) → IsSound d.state → d.state.attached ≡ true → Drains R device d es d' → (d'.state.unfinished ≡ []) × (d'.state.delayed ≡ [])
drain_empties R device d d' [] h a r = subst (λ (x : Device). (x.state.unfinished ≡ []) × (x.state.delayed ≡ [])) (sym r.1) (drained d.state h a r.0)
drain_empties R device d d' (e ∷ es) h a r =
    let c = chosen_attached d.state e.event r.1 in
    let k : r.2.state.attached ≡ true = attached_by R d r.2 e.event e.answer c.1 r.3.makes ∙ a in
    drain_empties R device r.2 d' es (sound_step R d r.2 e h r.3) k r.4

-- ==== what is logged

finish_logs : (read_len : Bool) (b : Books) (s : ℕ) (o : Option Unfinished) → first_of (is_at s Placed) b.unfinished ≡ o → length b.log ≤ length (finish read_len b s).log
finish_logs read_len b s None h = rw (finish, h) (omega arith)
finish_logs read_len b s (Some u) h = rw (finish, h) (omega (arith, length-append b.log (completions read_len u)))

all_logs : (read_len : Bool) (b : Books) (ss : List ℕ) → length b.log ≤ length (finish_all read_len b ss).log
all_logs read_len b [] = omega arith
all_logs read_len b (s ∷ ss) =
    omega (arith, all_logs read_len (finish read_len b s) ss, finish_logs read_len b s (first_of (is_at s Placed) b.unfinished) refl)

pub clean_logs : (d : DeviceState) → length (after_clean d).log ≡ length d.log + clean_answer d
unfolding after_clean clean_answer
clean_logs d = omega (arith, all_logs d.settings.flags.read_len (books d) (answered d))

-- ==== the handler is asked for a command

first_found : (p : Unfinished → Bool) (us : List Unfinished) → list_any p us ≡ true → (u : Unfinished) × (first_of p us ≡ Some u)
first_found p [] h = absurd (false≢true h)
first_found p (v ∷ us) h =
    ⊎_elim
    (λ (z : p v ≡ true). (v, rw z refl))
    (λ (z : p v ≡ false). let k : list_any p us ≡ true = rw z at h in let f = first_found p us k in (f.0, rw z (f.1)))
    (cases_Bool (p v))

item_command : (s : SettingsData) (start n k : ℕ) (l : Laid) (c : CommandData) → IsItem s start (record { len = n; laid = l }) → l ≡ Cmd k c → IsCommand c
item_command s start n k l c h e = (subst (λ (x : Laid). IsItem s start (record { len = n; laid = x })) e h).kind.1

pub laid_command : (s : SettingsData) (start : ℕ) (is : List Item) (k : ℕ) (c : CommandData) → Along (IsItem s) start is → IsLaid is k c → IsCommand c
laid_command s start [] k c a h = absurd h
laid_command s start (i ∷ is) k c a (inl e) = item_command s start i.len k i.laid c a.0 e
laid_command s start (i ∷ is) k c a (inr h) = laid_command s (start + i.len) is k c a.1 h

-- each unfinished command keeps the rules of commands
pub rows_commands : (d : DeviceState) → IsSound d → Every (λ u. IsCommand u.command) d.unfinished
rows_commands d h = go d.unfinished h.serials.laid
  where
    go : (us : List Unfinished) → Every (λ u. IsLaid d.ring.laid u.serial u.command) us → Every (λ u. IsCommand u.command) us
    go [] e = tt
    go (u ∷ us) e = (laid_command d.settings 0 d.ring.laid u.serial u.command h.ring.items e.0, go us e.1)

-- ==== each choice of the drain can be made

-- an entry that is this event's, made on this device
pub record Made (R : HandlerRelation) (device : ℕ) (d : Device) (event : EventData) : Type 0 where
  pub entry : EntryData
  pub after : Device
  pub device_is : entry.device ≡ device
  pub event_is : entry.event ≡ event
  pub step : Step R d entry after
  pub attached : after.state.attached ≡ d.state.attached

simple : (R : HandlerRelation) (device : ℕ) (d : Device) (e : EventData) (a : AnswerData) (s : DeviceState) (logged : ℕ) → Makes R d e a (moved d s) → length s.log ≡ length d.state.log + logged → s.attached ≡ d.state.attached → Made R device d e
simple R device d e a s logged m l k =
    record {
      entry = record { device = device; event = e; answer = a; logged = logged };
      after = moved d s;
      device_is = refl;
      event_is = refl;
      step = record { makes = m; logged = l };
      attached = k;
    }

none_logged : (a b : List DoneData) → a ≡ b → length a ≡ length b + 0
none_logged a b e = omega (arith, ap length e)

out_made : (R : HandlerRelation) (device : ℕ) (d : Device) (s : ℕ) → HasOutcomes R → IsSound d.state → list_any (is_at s Out) d.state.unfinished ≡ true → Made R device d (ev.Handle s)
unfolding after_handle
out_made R device d s o h a =
    let f = first_found (is_at s Out) d.state.unfinished a in
    let u : Unfinished = f.0 in
    let c : IsCommand u.command = every-first (is_at s Out) (λ v. IsCommand v.command) d.state.unfinished u (rows_commands d.state h) f.1 in
    let r : HasOutcome R d.name d.medium (asked u.command) = o d.name d.medium u.command c in
    record {
      entry = record { device = device; event = ev.Handle s; answer = ev.Answered (handle.Done r.reply); logged = 0 };
      after = record { name = d.name; medium = r.after; state = after_handle d.state s r.reply };
      device_is = refl;
      event_is = refl;
      step = record {
        makes = (u, record { found = f.1; relation = r.relation; whole = r.rules; payload = r.payload; name = refl; state = refl });
        logged = none_logged d.state.log d.state.log refl;
      };
      attached = refl;
    }

clean_made : (R : HandlerRelation) (device : ℕ) (d : Device) → Made R device d ev.Clean
clean_made R device d = simple R device d ev.Clean (ev.Logged (clean_answer d.state)) (after_clean d.state) (clean_answer d.state) (record { answer = refl; after = refl }) (clean_logs d.state) (clean_attached d.state)

choice_made : (R : HandlerRelation) (device : ℕ) (d : Device) (e : EventData) → HasOutcomes R → IsSound d.state → Choice d.state e → Made R device d e
unfolding with_command
choice_made R device d e o h (handles u a k) = subst (λ (x : EventData). Made R device d x) (sym k) (out_made R device d u.serial o h a)
choice_made R device d e o h (responds u a k) = subst (λ (x : EventData). Made R device d x) (sym k)
    (simple R device d (ev.Respond u.serial) (ev.Responded (respond_answer d.state u.serial)) (after_respond d.state u.serial) 0 (record { answer = refl; after = refl })
    (none_logged (after_respond d.state u.serial).log d.state.log (respond_kept (λ x. x.log) d.state u.serial refl)) (respond_kept (λ x. x.attached) d.state u.serial refl))
choice_made R device d e o h (publishes a k) = subst (λ (x : EventData). Made R device d x) (sym k)
    (simple R device d ev.Publish (ev.Published (publish_answer d.state)) (after_publish d.state) 0 (record { answer = refl; after = refl })
    (none_logged (after_publish d.state).log d.state.log (publish_kept (λ x. x.log) d.state refl)) (publish_kept (λ x. x.attached) d.state refl))
choice_made R device d e o h (cleans a k) = subst (λ (x : EventData). Made R device d x) (sym k) (clean_made R device d)
choice_made R device d e o h (enters a k) = subst (λ (x : EventData). Made R device d x) (sym k)
    (simple R device d ev.Enter (ev.Entered (enter_answer d.state)) (after_enter d.state (enter_answer d.state)) 0 (record { answer = refl; after = refl })
    (none_logged (after_enter d.state (enter_answer d.state)).log d.state.log (enter_kept (λ x. x.log) d.state (enter_answer d.state) (λ w ws. refl))) (enter_kept (λ x. x.attached) d.state (enter_answer d.state) (λ w ws. refl)))
choice_made R device d e o h (dispatches a k) = subst (λ (x : EventData). Made R device d x) (sym k)
    (simple R device d ev.Dispatch (ev.Dispatched (dispatch_answer d.state)) (after_dispatch d.state) 0 (record { answer = refl; after = refl })
    (none_logged (after_dispatch d.state).log d.state.log (dispatch_kept (λ x. x.log) d.state (λ i. refl))) (dispatch_kept (λ x. x.attached) d.state (λ i. refl)))

-- ==== the drain ends

ends_within : (fuel : ℕ) (R : HandlerRelation) (device : ℕ) (d : Device) → HasOutcomes R → IsSound d.state → work d.state < fuel → DrainEnds R device d
ends_within zero R device d o h l = absurd (omega (arith, l))
ends_within (suc fuel) R device d o h l = go (drain_event d.state) refl (λ m k w. ends_within fuel R device m o k w)
  where
    go : (e : Option EventData) → drain_event d.state ≡ e → ((m : Device) → IsSound m.state → work m.state < fuel → DrainEnds R device m) → DrainEnds R device d
    go None e more = record { entries = []; end = d; drain = (e, refl) }
    go (Some x) e more =
        let c = chosen_attached d.state x e in
        let m = choice_made R device d x o h c.1 in
        let e' : drain_event d.state ≡ Some m.entry.event = e ∙ ap Some (sym m.event_is) in
        let falls : work m.after.state < work d.state = work_falls R d m.after m.entry h e' m.step in
        let rest = more m.after (sound_step R d m.after m.entry h m.step) (omega (arith, falls, l)) in
        record { entries = m.entry ∷ rest.entries; end = rest.end; drain = (m.device_is, e', m.after, m.step, rest.drain) }

-- from each sound device the drain has an end
pub drain_ends : (R : HandlerRelation) (device : ℕ) (d : Device) → HasOutcomes R → IsSound d.state → DrainEnds R device d
drain_ends R device d o h = ends_within (work d.state + 1) R device d o h (omega arith)

-- a drain keeps its device sound
pub drain_sound : (R : HandlerRelation) (device : ℕ) (d d' : Device) (es : List EntryData) → IsSound d.state → Drains R device d es d' → IsSound d'.state
drain_sound R device d d' [] h r = subst (λ (x : Device). IsSound x.state) (sym r.1) h
drain_sound R device d d' (e ∷ es) h r = drain_sound R device r.2 d' es (sound_step R d r.2 e h r.3) r.4

-- each accepted command is then in the log
pub drain_completes : (R : HandlerRelation) (device : ℕ) (d d' : Device) (es : List EntryData) (s : ℕ) → IsSound d.state → d.state.attached ≡ true → Drains R device d es d' → 1 ≤ s → s ≤ d'.state.accepted → times_logged d'.state.log s ≡ 1
drain_completes R device d d' es s h a r l m =
    let e = drain_empties R device d d' es h a r in
    let once : times_logged d'.state.log s + times_open d'.state s ≡ 1 = each_once d'.state s (drain_sound R device d d' es h r) l m in
    let u : count_by (is_open_at s) d'.state.unfinished ≡ 0 = ap (count_by (is_open_at s)) e.0 in
    let w : count_by (is_delayed_at s) d'.state.delayed ≡ 0 = ap (count_by (is_delayed_at s)) e.1 in
    omega (arith, once, u, w)
