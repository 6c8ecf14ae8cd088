-- Where the drain of an attached device has nothing to do, no command is unfinished or delayed.
use Rattle.std.proofs.Common.{◌≡◌, ℕ, ◌+◌, ◌≤◌, Bool, true, false, not, cond, List, [], ◌∷◌, length, take, map, refl, sym, ap, ◌∙◌, arith, ⊎_elim, subst, ◌||◌, nat_lt, Some, None, Option}
use Rattle.std.specs.List.{list_any, filter, count_by, sum_by}
use Rattle.std.specs.Option.{is_some, option_map}
use Rattle.std.proofs.lemmas.Bool.{cases_Bool, true≢false, false≢true, ltb-false, le-leb}
use Rattle.std.proofs.lemmas.List.{take_all, drop_all}
use Rattle.std.proofs.lemmas.List.Sums.{sum_by-cons}
use Rattle.tcmu_types.specs.declared.stat.Todo.{Todo}
use Rattle.tcmu_model.specs.declared.state.CommandState.{CommandState}
use Rattle.tcmu_model.specs.declared.state.CommandState.TheVariants.{Waiting, Out, Handled, Parked, Placed, Lost}
use Rattle.tcmu_types.specs.Lists.{first_of, Every}
use Rattle.tcmu_model.specs.States.{same_state}
use Rattle.tcmu_model.specs.RingState.{lengths, used, commands_in, serials_in, cleared_commands, published_commands}
use Rattle.tcmu_model.specs.Device.{Unfinished, Delayed, DeviceState, has_state}
use Rattle.tcmu_model.specs.Events.{publishable, held_blocks, free_blocks, blocks_in, entry_length_in, fits_ring, fits_blocks}
use Rattle.tcmu_types.specs.Numbers.{is_among}
use Rattle.tcmu_model.specs.Drain.{least_serial, can_enter, chosen, drain_event}
use Rattle.tcmu_model.specs.Sound.{CanWait, finished, dispatched_serials, state_fits, is_right, parked_rightly, IsSound}
use Rattle.tcmu_types.proofs.Firsts.{none_first}
use Rattle.tcmu_model.proofs.Draining.{all_todo, todo_attached}
use Rattle.tcmu_types.proofs.Everies.{every-weaker, every-map, every-both, none-every}
use Rattle.tcmu_types.proofs.Rises.{count_differ, among-take, every-among}
use Rattle.tcmu_model.proofs.Laying.{empty_takes}
use Rattle.tcmu_model.proofs.SoundLaying.{entry_least}
use Rattle.tcmu_model.proofs.Basics.{laid_rise, rows_among, commands_serials, placed_every}
use Rattle.tcmu_model.proofs.Facts.{count_rows, waiting_undispatched, publishable_most}

-- nothing is to do
record Quiet (d : DeviceState) : Type 0 where
  out : list_any (has_state Out) d.unfinished ≡ false
  handled : list_any (has_state Handled) d.unfinished ≡ false
  publish : publishable d ≤ d.ring.published
  clean : d.ring.published ≤ d.ring.cleared
  enter : can_enter d d.delayed ≡ false
  dispatch : length d.ring.laid ≤ d.ring.dispatched

record Idle (h r : Option ℕ) (p c n x : Bool) : Type 0 where
  handle : h ≡ None
  respond : r ≡ None
  publish : p ≡ false
  clean : c ≡ false
  enter : n ≡ false
  dispatch : x ≡ false

idle : (h r : Option ℕ) (p c n x : Bool) → let t : Todo = record { handle = h; respond = r; publish = p; clean = c; enter = n; dispatch = x } in chosen t ≡ None → Idle h r p c n x
idle (Some s) r p c n x e = absurd (cc)
idle None (Some s) p c n x e = absurd (cc)
idle None None true c n x e = absurd (cc)
idle None None false true n x e = absurd (cc)
idle None None false false true x e = absurd (cc)
idle None None false false false true e = absurd (cc)
idle None None false false false false e = record { handle = refl; respond = refl; publish = refl; clean = refl; enter = refl; dispatch = refl }

no_serial : (o : Option Unfinished) → option_map (λ u. u.serial) o ≡ None → o ≡ None
no_serial None h = refl
no_serial (Some u) h = absurd (cc)

quiet : (d : DeviceState) → d.attached ≡ true → drain_event d ≡ None → Quiet d
unfolding drain_event
quiet d a e =
    let k : chosen (all_todo d) ≡ None = sym (ap chosen (todo_attached d a)) ∙ e in
    let i = idle (least_serial (has_state Out) d) (least_serial (has_state Handled) d) (nat_lt d.ring.published (publishable d)) (nat_lt d.ring.cleared d.ring.published) (can_enter d d.delayed) (nat_lt d.ring.dispatched (length d.ring.laid)) k in
    record {
      out = none_first (has_state Out) d.unfinished (no_serial (first_of (has_state Out) d.unfinished) i.handle);
      handled = none_first (has_state Handled) d.unfinished (no_serial (first_of (has_state Handled) d.unfinished) i.respond);
      publish = ltb-false _ _ i.publish;
      clean = ltb-false _ _ i.clean;
      enter = i.enter;
      dispatch = ltb-false _ _ i.dispatch;
    }

-- ==== what is left is placed

parked_or_placed : (dispatched placed published : Bool) (t : CommandState) (r : Bool) → state_fits dispatched placed published true t r ≡ true →
    same_state t Waiting ≡ false → same_state t Out ≡ false → same_state t Handled ≡ false → same_state t Placed ≡ false → same_state t Parked ≡ true
parked_or_placed a b p Waiting r f w o h n = absurd (true≢false w)
parked_or_placed a b p Out r f w o h n = absurd (true≢false o)
parked_or_placed a b p Handled r f w o h n = absurd (true≢false h)
parked_or_placed a b p Parked r f w o h n = refl
parked_or_placed a b p Placed r f w o h n = absurd (true≢false n)
parked_or_placed true b p Lost r f w o h n = absurd (false≢true f)
parked_or_placed false b p Lost r f w o h n = absurd (false≢true f)

-- where all that is not placed is parked, none is parked
all_placed : (ooo : Bool) (us : List Unfinished) → Every (λ u. has_state Placed u ≡ false → has_state Parked u ≡ true) us → parked_rightly ooo us ≡ true → Every (λ u. has_state Placed u ≡ true) us
all_placed true us h k = none us h k
  where
    none : (us : List Unfinished) → Every (λ u. has_state Placed u ≡ false → has_state Parked u ≡ true) us → not (list_any (has_state Parked) us) ≡ true → Every (λ u. has_state Placed u ≡ true) us
    none [] h k = tt
    none (u ∷ us) h k =
        ⊎_elim
        (λ (e : has_state Parked u ≡ true). let z : not (true || list_any (has_state Parked) us) ≡ true = rw e at k in absurd (false≢true z))
        (λ (e : has_state Parked u ≡ false).
        let z : not (list_any (has_state Parked) us) ≡ true = rw e at k in
        (⊎_elim (λ (q : has_state Placed u ≡ true). q) (λ (q : has_state Placed u ≡ false). absurd (false≢true (sym e ∙ h.0 q))) (cases_Bool (has_state Placed u)), none us h.1 z))
        (cases_Bool (has_state Parked u))
all_placed false us h k = first us h k
  where
    first : (us : List Unfinished) → Every (λ u. has_state Placed u ≡ false → has_state Parked u ≡ true) us → parked_rightly false us ≡ true → Every (λ u. has_state Placed u ≡ true) us
    first [] h k = tt
    first (u ∷ us) h k =
        ⊎_elim
        (λ (e : has_state Placed u ≡ true). let z : parked_rightly false us ≡ true = rw e at k in (e, first us h.1 z))
        (λ (e : has_state Placed u ≡ false).
        let p : has_state Parked u ≡ true = h.0 e in
        let z : not true ≡ true = rw (e, p) at k in
        absurd (false≢true z))
        (cases_Bool (has_state Placed u))

placed_among : (dispatched placed published attached : Bool) (t : CommandState) (r : Bool) → state_fits dispatched placed published attached t r ≡ true → same_state t Placed ≡ true → placed ≡ true
placed_among true true p q Placed r f h = refl
placed_among true false p q Placed r f h = absurd (false≢true f)
placed_among false b p q Placed r f h = absurd (false≢true f)
placed_among a b p q Waiting r f h = absurd (false≢true h)
placed_among a b p q Out r f h = absurd (false≢true h)
placed_among a b p q Handled r f h = absurd (false≢true h)
placed_among a b p q Parked r f h = absurd (false≢true h)
placed_among a b p q Lost r f h = absurd (false≢true h)

rows_placed : (d : DeviceState) → IsSound d → d.attached ≡ true → Quiet d → Every (λ u. has_state Placed u ≡ true) d.unfinished
rows_placed d h a q =
    let us = d.unfinished in
    let whole : dispatched_serials d.ring ≡ serials_in d.ring.laid = ap serials_in (take_all d.ring.dispatched d.ring.laid q.dispatch) in
    all_placed d.settings.flags.ooo us
    (every-weaker
    (λ u. ((is_right d u ≡ true) × (has_state Waiting u ≡ not (is_among (dispatched_serials d.ring) u.serial))) × ((is_among (serials_in d.ring.laid) u.serial ≡ true) × ((has_state Out u ≡ false) × (has_state Handled u ≡ false))))
    (λ u. has_state Placed u ≡ false → has_state Parked u ≡ true) us
    (λ u k n.
    let w : has_state Waiting u ≡ false = k.0.1 ∙ ap not (ap (λ (xs : List ℕ). is_among xs u.serial) whole ∙ k.1.0) in
    let f : state_fits (is_among (dispatched_serials d.ring) u.serial) (is_among d.placed u.serial) (is_among (take (published_commands d.ring) d.placed) u.serial) true u.state (is_some u.reply) ≡ true =
    subst (λ (b : Bool). state_fits (is_among (dispatched_serials d.ring) u.serial) (is_among d.placed u.serial) (is_among (take (published_commands d.ring) d.placed) u.serial) b u.state (is_some u.reply) ≡ true) a k.0.0 in
    parked_or_placed (is_among (dispatched_serials d.ring) u.serial) (is_among d.placed u.serial) (is_among (take (published_commands d.ring) d.placed) u.serial) u.state (is_some u.reply) f w k.1.1.0 k.1.1.1 n)
    (every-both (λ u. (is_right d u ≡ true) × (has_state Waiting u ≡ not (is_among (dispatched_serials d.ring) u.serial))) (λ u. (is_among (serials_in d.ring.laid) u.serial ≡ true) × ((has_state Out u ≡ false) × (has_state Handled u ≡ false))) us
    (every-both (λ u. is_right d u ≡ true) (λ u. has_state Waiting u ≡ not (is_among (dispatched_serials d.ring) u.serial)) us h.answers.states (waiting_undispatched d h))
    (every-both (λ u. is_among (serials_in d.ring.laid) u.serial ≡ true) (λ u. (has_state Out u ≡ false) × (has_state Handled u ≡ false)) us (rows_among d h.serials)
    (every-both (λ u. has_state Out u ≡ false) (λ u. has_state Handled u ≡ false) us (none-every (has_state Out) us q.out) (none-every (has_state Handled) us q.handled)))))
    h.answers.parked

-- each serial that passes or is kept
kept_or : (p : ℕ → Bool) (P : ℕ → Type 0) (xs : List ℕ) → ((x : ℕ) → p x ≡ false → P x) → Every P (filter p xs) → Every P xs
kept_or p P [] h e = tt
kept_or p P (x ∷ xs) h e =
    ⊎_elim
    (λ (z : p x ≡ true). let k : Every P (x ∷ filter p xs) = rw z at e in (k.0, kept_or p P xs h k.1))
    (λ (z : p x ≡ false). let k : Every P (filter p xs) = rw z at e in (h x z, kept_or p P xs h k))
    (cases_Bool (p x))

all_answered : (d : DeviceState) → IsSound d → Every (λ u. has_state Placed u ≡ true) d.unfinished → commands_in d.ring.laid ≤ length d.placed
all_answered d h e =
    let L : List ℕ = serials_in d.ring.laid in
    let F : List ℕ = finished d in
    let rows : Every (λ s. is_among d.placed s ≡ true) (map (λ u. u.serial) d.unfinished) = every-map (λ (u : Unfinished). u.serial) (λ u. is_among d.placed u.serial ≡ true) (λ s. is_among d.placed s ≡ true) d.unfinished (λ u k. k)
    (every-weaker (λ u. (is_right d u ≡ true) × (has_state Placed u ≡ true)) (λ u. is_among d.placed u.serial ≡ true) d.unfinished
    (λ u k. placed_among (is_among (dispatched_serials d.ring) u.serial) (is_among d.placed u.serial) (is_among (take (published_commands d.ring) d.placed) u.serial) d.attached u.state (is_some u.reply) k.0 k.1)
    (every-both (λ u. is_right d u ≡ true) (λ u. has_state Placed u ≡ true) d.unfinished h.answers.states e)) in
    let all : Every (λ s. is_among d.placed s ≡ true) L = kept_or (λ s. not (is_among F s)) (λ s. is_among d.placed s ≡ true) L (λ s z. cleared s z)
    (subst (λ (xs : List ℕ). Every (λ s. is_among d.placed s ≡ true) xs) h.serials.order rows) in
    let a : count_by (is_among d.placed) L ≡ length d.placed = count_differ 0 L d.accepted d.placed (laid_rise d h.serials) h.answers.differ
    (placed_every (λ s. is_among L s ≡ true) d h.answers (every-among L)) in
    omega (arith, a, count_all (is_among d.placed) L all, commands_serials d.ring.laid)
  where
    cleared : (s : ℕ) → not (is_among (finished d) s) ≡ false → is_among d.placed s ≡ true
    cleared s z =
        ⊎_elim
        (λ (e : is_among d.placed s ≡ true). e)
        (λ (e : is_among d.placed s ≡ false). let w : not (is_among (finished d) s) ≡ true = rw (among-take (cleared_commands d.ring) d.placed s e) refl in absurd (true≢false (sym w ∙ z)))
        (cases_Bool (is_among d.placed s))

    count_all : (p : ℕ → Bool) (xs : List ℕ) → Every (λ x. p x ≡ true) xs → count_by p xs ≡ length xs
    count_all p [] h = refl
    count_all p (x ∷ xs) h =
        let b : count_by p (x ∷ xs) ≡ cond (p x) 1 0 + count_by p xs = sum_by-cons (λ (y : ℕ). cond {A = ℕ} (p y) 1 0) x xs in
        let c : cond {A = ℕ} (p x) 1 0 ≡ 1 = ap (λ t. cond {A = ℕ} t 1 0) (h.0) in
        omega (arith, b, c, count_all p xs h.1)

-- ==== nothing is left

record Emptied (d : DeviceState) : Type 0 where
  pub rows : d.unfinished ≡ []
  pub cleared : length d.ring.laid ≤ d.ring.cleared

no_rows : (d : DeviceState) → IsSound d → d.attached ≡ true → Quiet d → Emptied d
no_rows d h a q =
    let n : ℕ = length d.ring.laid in
    let ans : commands_in d.ring.laid ≤ length d.placed = all_answered d h (rows_placed d h a q) in
    let whole : take n d.ring.laid ≡ d.ring.laid = take_all n d.ring.laid (omega arith) in
    let p : n ≤ publishable d = publishable_most d n h q.dispatch (omega (arith, ap commands_in whole, ans)) in
    let c : n ≤ d.ring.cleared = omega (arith, p, q.publish, q.clean) in
    let all : cleared_commands d.ring ≡ commands_in d.ring.laid = ap commands_in (take_all d.ring.cleared d.ring.laid c) in
    record { rows = none d.unfinished (omega (arith, count_rows d h, all)); cleared = c }
  where
    none : (us : List Unfinished) → length us ≡ 0 → us ≡ []
    none [] e = refl
    none (u ∷ us) e = absurd (omega (arith, e))

no_delayed : (d : DeviceState) (ws : List Delayed) → IsSound d → Emptied d → d.delayed ≡ ws → can_enter d ws ≡ false → ws ≡ []
no_delayed d [] h z e n = refl
no_delayed d (w ∷ ws) h z e n =
    let can : Every (λ v. CanWait d.settings v.command) (w ∷ ws) = subst (λ (vs : List Delayed). Every (λ v. CanWait d.settings v.command) vs) e h.room.delayed in
    let empty : used d.ring ≡ 0 = ap lengths (drop_all d.ring.cleared d.ring.laid z.cleared) in
    let least : 112 ≤ entry_length_in d w.command = entry_least d.settings.pages w.command in
    let r : fits_ring d w.command ≡ true = empty_takes d.ring (entry_length_in d w.command) empty (omega (arith, least)) (omega (arith, can.0.ring, h.ring.size)) in
    let held : held_blocks d ≡ 0 = ap (sum_by (λ u. blocks_in d u.command)) z.rows in
    let b : fits_blocks d w.command ≡ true = le-leb (blocks_in d w.command) (free_blocks d) (omega (arith, held, can.0.blocks)) in
    let yes : can_enter d (w ∷ ws) ≡ true = rw (r, b) refl in
    absurd (true≢false (sym yes ∙ n))

pub drained : (d : DeviceState) → IsSound d → d.attached ≡ true → drain_event d ≡ None → (d.unfinished ≡ []) × (d.delayed ≡ [])
drained d h a e =
    let q = quiet d a e in
    let z = no_rows d h a q in
    (z.rows, no_delayed d d.delayed h z refl q.enter)
