-- Which event a drain chooses where several apply.
use Rattle.std.proofs.Common.{◌≡◌, ℕ, ◌<◌, ◌≤◌, Bool, true, false, not, ◌&&◌, List, [], ◌∷◌, length, map, Option, Some, None, refl, sym, ap, arith, suc, zero, ⊎_elim, subst, eqb}
use Rattle.std.specs.Prelude.{slice_get}
use Rattle.std.specs.Option.{is_some}
use Rattle.std.specs.List.{filter, list_any, prefix_len}
use Rattle.std.specs.Option.{option_map}
use Rattle.std.proofs.lemmas.Bool.{cases_Bool, false≢true, and_parts, lt-ltb, eqb-true}
use Rattle.tcmu_types.specs.Events.{EventData}
use Rattle.tcmu_types.specs.Events as ev
use Rattle.tcmu_types.specs.Lists.{first_of, Every}
use Rattle.tcmu_types.specs.Numbers.{Rise}
use Rattle.tcmu_types.specs.declared.stat.Todo.{Todo}
use Rattle.tcmu_types.specs.declared.answer.Enter.TheVariants as enter
use Rattle.tcmu_model.specs.declared.state.CommandState.{CommandState}
use Rattle.tcmu_model.specs.declared.state.CommandState.TheVariants.{Out, Handled}
use Rattle.tcmu_model.specs.Device.{Unfinished, Delayed, DeviceState, has_state, is_at}
use Rattle.tcmu_model.specs.RingState.{free, need}
use Rattle.tcmu_model.specs.Events.{blocks_in, enter_answer, entered_or_full, entry_length_in, fits_ring, fits_blocks, free_blocks, publishable}
use Rattle.tcmu_model.specs.Drain.{can_enter, chosen, drain_event, least_serial, todo_of}
use Rattle.tcmu_model.specs.Sound.{IsSound}
use Rattle.tcmu_types.proofs.Everies.{every-filter, every-mapped, every-weaker}
use Rattle.tcmu_types.proofs.Places.{within}
use Rattle.tcmu_types.proofs.Rises.{rise_within}
use Rattle.tcmu_model.proofs.Basics.{rows_rise}
use Rattle.tcmu_model.proofs.Draining.{Choice, all_todo, chosen_attached, todo_attached}
use Rattle.order_laws.specs.Turns.{Applies, turn}

-- ==== what applies

enters_first : (d : DeviceState) (ws : List Delayed) → can_enter d ws ≡ true → (s : ℕ) × (entered_or_full d ws ≡ enter.Entered s)
enters_first d [] h = absurd (false≢true h)
enters_first d (w ∷ ws) h =
    let f : (fits_ring d w.command ≡ true) × (fits_blocks d w.command ≡ true) = and_parts _ _ h in
    (w.serial, rw (f.0, f.1) refl)

applies_by : (d : DeviceState) (e : EventData) → Choice d e → Applies d e
unfolding enter_answer
applies_by d e (Choice.handles u h k) = subst (Applies d) (sym k) h
applies_by d e (Choice.responds u h k) = subst (Applies d) (sym k) h
applies_by d e (Choice.publishes h k) = subst (Applies d) (sym k) h
applies_by d e (Choice.cleans h k) = subst (Applies d) (sym k) h
applies_by d e (Choice.enters h k) = subst (Applies d) (sym k) (enters_first d d.delayed h)
applies_by d e (Choice.dispatches h k) = subst (Applies d) (sym k) h

pub chosen_applies : (d : DeviceState) (e : EventData) → drain_event d ≡ Some e → (d.attached ≡ true) × Applies d e
chosen_applies d e h = let c = chosen_attached d e h in (c.0, applies_by d e c.1)

-- ==== whose turn is first

-- whether each of the six is to do, in the order of their turns
abbrev due : Todo → List Bool
due t = is_some t.handle ∷ is_some t.respond ∷ t.publish ∷ t.clean ∷ t.enter ∷ t.dispatch ∷ []

-- what a list of things to do says where an event is chosen
abbrev Told : Todo → EventData → Type 0
Told t (ev.Handle s) = t.handle ≡ Some s
Told t (ev.Respond s) = t.respond ≡ Some s
Told t _ = Unit {0}

record Turned (t : Todo) (e : EventData) : Type 0 where
  pub turned : turn e ≡ prefix_len not (due t)
  pub told : Told t e

turned : (h r : Option ℕ) (p c n x : Bool) (e : EventData) → let t : Todo = record { handle = h; respond = r; publish = p; clean = c; enter = n; dispatch = x } in chosen t ≡ Some e → Turned t e
turned (Some s) r p c n x e h = let k : ev.Handle s ≡ e = cc in subst (Turned _) k (record { turned = refl; told = refl })
turned None (Some s) p c n x e h = let k : ev.Respond s ≡ e = cc in subst (Turned _) k (record { turned = refl; told = refl })
turned None None true c n x e h = let k : ev.Publish ≡ e = cc in subst (Turned _) k (record { turned = refl; told = tt })
turned None None false true n x e h = let k : ev.Clean ≡ e = cc in subst (Turned _) k (record { turned = refl; told = tt })
turned None None false false true x e h = let k : ev.Enter ≡ e = cc in subst (Turned _) k (record { turned = refl; told = tt })
turned None None false false false true e h = let k : ev.Dispatch ≡ e = cc in subst (Turned _) k (record { turned = refl; told = tt })
turned None None false false false false e h = absurd (cc)

turned_of : (d : DeviceState) (e : EventData) → drain_event d ≡ Some e → Turned (all_todo d) e
unfolding drain_event
turned_of d e h =
    let t : todo_of d ≡ all_todo d = todo_attached d (chosen_applies d e h).0 in
    turned _ _ _ _ _ _ e (subst (λ (x : Todo). chosen x ≡ Some e) t h)

-- a command of this serial in the state: there is a first one
some_first : (s : ℕ) (t : CommandState) (us : List Unfinished) → list_any (is_at s t) us ≡ true → is_some (option_map (λ u. u.serial) (first_of (has_state t) us)) ≡ true
some_first s t [] h = absurd (false≢true h)
some_first s t (u ∷ us) h =
    ⊎_elim
    (λ (e : has_state t u ≡ true). rw e refl)
    (λ (e : has_state t u ≡ false).
    let n : is_at s t u ≡ false = and_right_false (eqb u.serial s) (has_state t u) e in
    let k : list_any (is_at s t) us ≡ true = rw n at h in
    rw e (some_first s t us k))
    (cases_Bool (has_state t u))
  where
    and_right_false : (a b : Bool) → b ≡ false → (a && b) ≡ false
    and_right_false true b e = e
    and_right_false false b e = refl

enters_can : (d : DeviceState) (ws : List Delayed) (s : ℕ) → entered_or_full d ws ≡ enter.Entered s → can_enter d ws ≡ true
enters_can d [] s h = absurd (cc)
enters_can d (w ∷ ws) s h =
    ⊎_elim
    (λ (a : fits_ring d w.command ≡ true).
    ⊎_elim
    (λ (b : fits_blocks d w.command ≡ true). rw (a, b) refl)
    (λ (b : fits_blocks d w.command ≡ false). let k : enter.FullBlocks (blocks_in d w.command) (free_blocks d) ≡ enter.Entered s = rw (a, b) at h in absurd (cc))
    (cases_Bool (fits_blocks d w.command)))
    (λ (a : fits_ring d w.command ≡ false).
    let k : enter.FullRing (need d.ring (entry_length_in d w.command)) (free d.ring) ≡ enter.Entered s = rw a at h in absurd (cc))
    (cases_Bool (fits_ring d w.command))

waits_turn : (d : DeviceState) (f : EventData) → Applies d f → slice_get (due (all_todo d)) (turn f) ≡ Some true
unfolding enter_answer
waits_turn d (ev.Handle s) h = ap Some (some_first s Out d.unfinished h)
waits_turn d (ev.Respond s) h = ap Some (some_first s Handled d.unfinished h)
waits_turn d ev.Publish h = ap Some (lt-ltb d.ring.published (publishable d) h)
waits_turn d ev.Clean h = ap Some (lt-ltb d.ring.cleared d.ring.published h)
waits_turn d ev.Enter h = ap Some (enters_can d d.delayed h.0 h.1)
waits_turn d ev.Dispatch h = ap Some (lt-ltb d.ring.dispatched (length d.ring.laid) h)
waits_turn d _ h = absurd h

before : (bs : List Bool) (k : ℕ) → slice_get bs k ≡ Some true → prefix_len not bs ≤ k
before [] k h = absurd (cc)
before (true ∷ bs) k h = omega arith
before (false ∷ bs) zero h = absurd (cc)
before (false ∷ bs) (suc k) h = omega (arith, before bs k h)

pub first_turn : (d : DeviceState) (e f : EventData) → drain_event d ≡ Some e → Applies d f → turn e ≤ turn f
first_turn d e f h a =
    let b : prefix_len not (due (all_todo d)) ≤ turn f = before (due (all_todo d)) (turn f) (waits_turn d f a) in
    omega (arith, (turned_of d e h).turned, b)

-- ==== something is chosen

some_chosen : (h r : Option ℕ) (p c n x : Bool) (k : ℕ) → let t : Todo = record { handle = h; respond = r; publish = p; clean = c; enter = n; dispatch = x } in slice_get (due t) k ≡ Some true → (f : EventData) × (chosen t ≡ Some f)
some_chosen (Some s) r p c n x k h = (ev.Handle s, refl)
some_chosen None (Some s) p c n x k h = (ev.Respond s, refl)
some_chosen None None true c n x k h = (ev.Publish, refl)
some_chosen None None false true n x k h = (ev.Clean, refl)
some_chosen None None false false true x k h = (ev.Enter, refl)
some_chosen None None false false false true k h = (ev.Dispatch, refl)
some_chosen None None false false false false k h =
    let bs : List Bool = false ∷ false ∷ false ∷ false ∷ false ∷ false ∷ [] in
    let a : 6 ≤ k = before bs k h in
    let b : k < 6 = within bs k true h in
    absurd (omega (arith, a, b))

pub goes_on : (d : DeviceState) (e : EventData) → d.attached ≡ true → Applies d e → (f : EventData) × (drain_event d ≡ Some f)
unfolding drain_event
goes_on d e at a =
    let t : all_todo d ≡ todo_of d = sym (todo_attached d at) in
    subst (λ (x : Todo). (f : EventData) × (chosen x ≡ Some f)) t (some_chosen _ _ _ _ _ _ (turn e) (waits_turn d e a))

-- ==== of several commands the one of the least serial

least_first : (c : CommandState) (low : ℕ) (us : List Unfinished) (high : ℕ) (u : Unfinished) → Rise low (map (λ v. v.serial) us) high → first_of (has_state c) us ≡ Some u → Every (λ v. u.serial ≤ v.serial) (filter (has_state c) us)
least_first c low [] high u r h = tt
least_first c low (v ∷ us) high u r h =
    ⊎_elim
    (λ (e : has_state c v ≡ true).
    let k : Some v ≡ Some u = rw e at h in
    let l : v ≡ u = cc in
    let w : Every (λ s. (v.serial < s) × (s ≤ high)) (map (λ (x : Unfinished). x.serial) us) = rise_within v.serial (map (λ (x : Unfinished). x.serial) us) high r.1 in
    let z : Every (λ (y : Unfinished). v.serial ≤ y.serial) us = every-weaker (λ (y : Unfinished). (v.serial < y.serial) × (y.serial ≤ high)) (λ (y : Unfinished). v.serial ≤ y.serial) us (λ y b. omega (arith, b.0))
    (every-mapped (λ (x : Unfinished). x.serial) (λ s. (v.serial < s) × (s ≤ high)) us w) in
    let all : Every (λ (y : Unfinished). v.serial ≤ y.serial) (v ∷ filter (has_state c) us) = (omega arith, every-filter (has_state c) (λ (y : Unfinished). v.serial ≤ y.serial) us z) in
    rw e (subst (λ (x : Unfinished). Every (λ (y : Unfinished). x.serial ≤ y.serial) (v ∷ filter (has_state c) us)) l all))
    (λ (e : has_state c v ≡ false).
    let k : first_of (has_state c) us ≡ Some u = rw e at h in
    rw e (least_first c v.serial us high u r.1 k))
    (cases_Bool (has_state c v))

-- a command of this serial in the state is among those in the state
among_state : (c : CommandState) (t n : ℕ) (us : List Unfinished) → Every (λ v. n ≤ v.serial) (filter (has_state c) us) → list_any (is_at t c) us ≡ true → n ≤ t
among_state c t n [] a h = absurd (false≢true h)
among_state c t n (v ∷ us) a h =
    ⊎_elim
    (λ (e : is_at t c v ≡ true).
    let p : (eqb v.serial t ≡ true) × (has_state c v ≡ true) = and_parts _ _ e in
    let b : Every (λ (x : Unfinished). n ≤ x.serial) (v ∷ filter (has_state c) us) = rw (p.1) at a in
    omega (arith, b.0, eqb-true v.serial t p.0))
    (λ (e : is_at t c v ≡ false).
    let k : list_any (is_at t c) us ≡ true = rw e at h in
    among_state c t n us (rest (has_state c v) refl) k)
    (cases_Bool (is_at t c v))
  where
    rest : (b : Bool) → has_state c v ≡ b → Every (λ (x : Unfinished). n ≤ x.serial) (filter (has_state c) us)
    rest true e = let b : Every (λ (x : Unfinished). n ≤ x.serial) (v ∷ filter (has_state c) us) = rw e at a in b.1
    rest false e = let b : Every (λ (x : Unfinished). n ≤ x.serial) (filter (has_state c) us) = rw e at a in b

least_of : (d : DeviceState) (c : CommandState) (s t : ℕ) → IsSound d → least_serial (has_state c) d ≡ Some s → list_any (is_at t c) d.unfinished ≡ true → s ≤ t
least_of d c s t g h a = found (first_of (has_state c) d.unfinished) refl
  where
    found : (o : Option Unfinished) → first_of (has_state c) d.unfinished ≡ o → s ≤ t
    found None e = let k : None ≡ Some s = rw e at h in absurd (cc)
    found (Some u) e =
        let k : Some u.serial ≡ Some s = rw e at h in
        let l : u.serial ≡ s = cc in
        let m : u.serial ≤ t = among_state c t u.serial d.unfinished (least_first c 0 d.unfinished d.accepted u (rows_rise d g.serials) e) a in
        omega (arith, l, m)

pub least_out : (d : DeviceState) (s t : ℕ) → IsSound d → drain_event d ≡ Some (ev.Handle s) → Applies d (ev.Handle t) → s ≤ t
least_out d s t g h a = least_of d Out s t g (turned_of d (ev.Handle s) h).told a

pub least_handled : (d : DeviceState) (s t : ℕ) → IsSound d → drain_event d ≡ Some (ev.Respond s) → Applies d (ev.Respond t) → s ≤ t
least_handled d s t g h a = least_of d Handled s t g (turned_of d (ev.Respond s) h).told a
