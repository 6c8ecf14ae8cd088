-- What the drain chooses, and that its work falls at each choice.
use Rattle.std.proofs.Common.{◌≡◌, ℕ, ◌<◌, Bool, true, false, length, Option, Some, None, refl, sym, ap, ◌∙◌, ⊎_elim, subst, nat_lt}
use Rattle.std.specs.Option.{option_map}
use Rattle.std.specs.List.{list_any}
use Rattle.std.proofs.lemmas.Bool.{cases_Bool, false≢true, ltb-true}
use Rattle.tcmu_types.specs.Events.{EventData, AnswerData, EntryData}
use Rattle.tcmu_types.specs.Events as ev
use Rattle.tcmu_types.specs.declared.stat.Todo.{Todo}
use Rattle.tcmu_types.specs.declared.answer.Handle.TheVariants as handle
use Rattle.tcmu_model.specs.declared.state.CommandState.TheVariants.{Out, Handled}
use Rattle.tcmu_types.specs.Lists.{first_of}
use Rattle.tcmu_model.specs.Device.{Unfinished, DeviceState, Device, has_state, is_at}
use Rattle.tcmu_model.specs.Events.{publishable, is_handled, after_enter, after_respond, after_publish, after_clean, after_dispatch, enter_answer}
use Rattle.tcmu_model.specs.Steps.{HandlerRelation, Step, Makes, moved}
use Rattle.tcmu_model.specs.Drain.{least_serial, can_enter, todo_of, chosen, drain_event}
use Rattle.tcmu_model.specs.Sound.{IsSound}
use Rattle.tcmu_model.specs.Work.{work}
use Rattle.tcmu_model.proofs.Places.{first_in_state}
use Rattle.tcmu_types.proofs.Firsts.{none_first}
use Rattle.tcmu_model.proofs.Falls.{falls_handle, falls_respond, falls_publish, falls_clean, falls_enter, falls_dispatch}

-- what a list of things to do says where an event is chosen
pub data Picked (t : Todo) (e : EventData) : Type 0 where
  handles : (s : ℕ) → t.handle ≡ Some s → e ≡ ev.Handle s → Picked t e
  responds : (s : ℕ) → t.respond ≡ Some s → e ≡ ev.Respond s → Picked t e
  publishes : t.publish ≡ true → e ≡ ev.Publish → Picked t e
  cleans : t.clean ≡ true → e ≡ ev.Clean → Picked t e
  enters : t.enter ≡ true → e ≡ ev.Enter → Picked t e
  dispatches : t.dispatch ≡ true → e ≡ ev.Dispatch → Picked t e

picked : (h r : Option ℕ) (p c n x : Bool) (e : EventData) → let t : Todo = record { handle = h; respond = r; publish = p; clean = c; enter = n; dispatch = x } in chosen t ≡ Some e → Picked t e
picked (Some s) r p c n x e h = handles s refl (cc)
picked None (Some s) p c n x e h = responds s refl (cc)
picked None None true c n x e h = publishes refl (cc)
picked None None false true n x e h = cleans refl (cc)
picked None None false false true x e h = enters refl (cc)
picked None None false false false true e h = dispatches refl (cc)
picked None None false false false false e h = absurd (cc)

-- an event of the drain, and why it applies
pub data Choice (d : DeviceState) (e : EventData) : Type 0 where
  handles : (u : Unfinished) → list_any (is_at u.serial Out) d.unfinished ≡ true → e ≡ ev.Handle u.serial → Choice d e
  responds : (u : Unfinished) → is_handled d u.serial ≡ true → e ≡ ev.Respond u.serial → Choice d e
  publishes : d.ring.published < publishable d → e ≡ ev.Publish → Choice d e
  cleans : d.ring.cleared < d.ring.published → e ≡ ev.Clean → Choice d e
  enters : can_enter d d.delayed ≡ true → e ≡ ev.Enter → Choice d e
  dispatches : d.ring.dispatched < length d.ring.laid → e ≡ ev.Dispatch → Choice d e

serial_of : (o : Option Unfinished) (s : ℕ) → option_map (λ u. u.serial) o ≡ Some s → (u : Unfinished) × (o ≡ Some u) × (s ≡ u.serial)
serial_of None s h = absurd (cc)
serial_of (Some u) s h = (u, refl, cc)

abbrev pub all_todo : DeviceState → Todo
all_todo d =
    record {
      handle = least_serial (has_state Out) d;
      respond = least_serial (has_state Handled) d;
      publish = nat_lt d.ring.published (publishable d);
      clean = nat_lt d.ring.cleared d.ring.published;
      enter = can_enter d d.delayed;
      dispatch = nat_lt d.ring.dispatched (length d.ring.laid);
    }

choice : (d : DeviceState) (e : EventData) → Picked (all_todo d) e → Choice d e
choice d e (handles s h k) =
    let f = serial_of (first_of (has_state Out) d.unfinished) s h in
    handles f.0 (first_in_state Out d.unfinished f.0 f.1) (k ∙ ap ev.Handle f.2)
choice d e (responds s h k) =
    let f = serial_of (first_of (has_state Handled) d.unfinished) s h in
    responds f.0 (first_in_state Handled d.unfinished f.0 f.1) (k ∙ ap ev.Respond f.2)
choice d e (publishes h k) = publishes (ltb-true _ _ h) k
choice d e (cleans h k) = cleans (ltb-true _ _ h) k
choice d e (enters h k) = enters h k
choice d e (dispatches h k) = dispatches (ltb-true _ _ h) k

pub todo_attached : (d : DeviceState) → d.attached ≡ true → todo_of d ≡ all_todo d
unfolding todo_of
todo_attached d a = rw a refl

-- the drain chooses on an attached device alone
pub chosen_attached : (d : DeviceState) (e : EventData) → drain_event d ≡ Some e → (d.attached ≡ true) × Choice d e
unfolding drain_event todo_of
chosen_attached d e h =
    ⊎_elim
    (λ (a : d.attached ≡ true).
    let k : chosen (all_todo d) ≡ Some e = rw a at h in
    (a, choice d e (picked _ _ _ _ _ _ e k)))
    (λ (a : d.attached ≡ false). let k : None ≡ Some e = rw a at h in absurd (cc))
    (cases_Bool d.attached)

handle_falls : (R : HandlerRelation) (d d' : Device) (s : ℕ) (a : AnswerData) → list_any (is_at s Out) d.state.unfinished ≡ true → Makes R d (ev.Handle s) a d' → work d'.state < work d.state
handle_falls R d d' s (ev.Answered (handle.Done reply)) h m =
    subst (λ (x : DeviceState). work x < work d.state) (sym m.1.state) (falls_handle d.state s reply m.0 m.1.found)
handle_falls R d d' s (ev.Answered (handle.NotOut t)) h m = absurd (false≢true (sym (none_first (is_at s Out) d.state.unfinished m.1) ∙ h))
handle_falls R d d' s _ h m = absurd m

moves : (d d' : Device) (x : DeviceState) → d' ≡ moved d x → work x < work d.state → work d'.state < work d.state
moves d d' x e h = subst (λ (y : Device). work y.state < work d.state) (sym e) h

falls_by : (R : HandlerRelation) (d d' : Device) (e : EventData) (a : AnswerData) → IsSound d.state → d.state.attached ≡ true → Choice d.state e → Makes R d e a d' → work d'.state < work d.state
falls_by R d d' e a g at (handles u h k) m = handle_falls R d d' u.serial a h (subst (λ (x : EventData). Makes R d x a d') k m)
falls_by R d d' e a g at (responds u h k) m = responded a (subst (λ (x : EventData). Makes R d x a d') k m)
  where
    responded : (b : AnswerData) → Makes R d (ev.Respond u.serial) b d' → work d'.state < work d.state
    responded (ev.Responded b) m = moves d d' (after_respond d.state u.serial) m.after (falls_respond d.state u.serial h)
    responded _ m = absurd m
falls_by R d d' e a g at (publishes h k) m = published a (subst (λ (x : EventData). Makes R d x a d') k m)
  where
    published : (b : AnswerData) → Makes R d ev.Publish b d' → work d'.state < work d.state
    published (ev.Published b) m = moves d d' (after_publish d.state) m.after (falls_publish d.state g.ring at h)
    published _ m = absurd m
falls_by R d d' e a g at (cleans h k) m = cleaned a (subst (λ (x : EventData). Makes R d x a d') k m)
  where
    cleaned : (b : AnswerData) → Makes R d ev.Clean b d' → work d'.state < work d.state
    cleaned (ev.Logged b) m = moves d d' (after_clean d.state) m.after (falls_clean d.state g.ring h)
    cleaned _ m = absurd m
falls_by R d d' e a g at (enters h k) m = entered a (subst (λ (x : EventData). Makes R d x a d') k m)
  where
    entered : (b : AnswerData) → Makes R d ev.Enter b d' → work d'.state < work d.state
    entered (ev.Entered b) m =
        moves d d' (after_enter d.state (enter_answer d.state)) (subst (λ x. d' ≡ moved d (after_enter d.state x)) m.answer m.after) (falls_enter d.state h)
    entered _ m = absurd m
falls_by R d d' e a g at (dispatches h k) m = sent a (subst (λ (x : EventData). Makes R d x a d') k m)
  where
    sent : (b : AnswerData) → Makes R d ev.Dispatch b d' → work d'.state < work d.state
    sent (ev.Dispatched b) m = moves d d' (after_dispatch d.state) m.after (falls_dispatch d.state g.ring at h)
    sent _ m = absurd m

pub work_falls : (R : HandlerRelation) (d d' : Device) (e : EntryData) → IsSound d.state → drain_event d.state ≡ Some e.event → Step R d e d' → work d'.state < work d.state
work_falls R d d' e g h s =
    let c = chosen_attached d.state e.event h in
    falls_by R d d' e.event e.answer g c.0 c.1 s.makes
