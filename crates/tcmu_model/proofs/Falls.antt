-- The work of a drain falls at each event that it chooses.
use Rattle.std.proofs.Common.{◌≡◌, ℕ, ◌+◌, ◌<◌, ◌≤◌, Bool, true, false, List, [], ◌∷◌, ◌++◌, length, take, Option, Some, None, refl, sym, ap, ◌∙◌, arith, suc, ⊎_elim, eqb, length-append}
use Rattle.std.specs.List.{list_any, sum_by}
use Rattle.std.proofs.lemmas.Bool.{cases_Bool, false≢true, and_parts}
use Rattle.std.proofs.lemmas.List.{length-take-le}
use Rattle.std.proofs.lemmas.List.Sums.{sum_by_push}
use Rattle.tcmu_types.specs.Data.{ReplyData}
use Rattle.tcmu_model.specs.declared.state.CommandState.{CommandState}
use Rattle.tcmu_model.specs.declared.state.CommandState.TheVariants.{Waiting, Out, Handled, Parked, Placed}
use Rattle.tcmu_types.specs.Lists.{first_of, with_first}
use Rattle.tcmu_model.specs.RingState.{Item, Laid, Pad, Cmd, Tmr, pad, pads, with_item, next_place}
use Rattle.tcmu_model.specs.Device.{Unfinished, Delayed, DeviceState, is_at}
use Rattle.tcmu_model.specs.Events.{entry_length_in, waiting, with_command, with_placed, run_placed, placed_by, placing, is_handled, with_parked, in_state, Placing, after_respond, command_out, with_reply, after_handle, publishable, after_publish, Books, finish, finish_all, books, answered, cleaned_books, after_clean, after_enter, enter_answer, fits_ring, fits_blocks, next_item, after_item, after_dispatch}
use Rattle.tcmu_types.specs.Numbers.{is_among}
use Rattle.tcmu_model.specs.Drain.{can_enter}
use Rattle.tcmu_model.specs.Sound.{RingSound}
use Rattle.tcmu_model.specs.Work.{weight, work}
use Rattle.tcmu_model.proofs.CommandStates.{state_at}
use Rattle.tcmu_types.proofs.Counts.{sum-with_first_less, sum-with_first_same, sum-without_first}
use Rattle.tcmu_model.proofs.Fronts.{front_short}
use Rattle.tcmu_model.proofs.Places.{next_within}
use Rattle.tcmu_types.proofs.Places.{within, get_none}
use Rattle.tcmu_types.proofs.Firsts.{any_first}

weighs : (s : ℕ) (t : CommandState) (u : Unfinished) → is_at s t u ≡ true → weight u ≡ weight (in_state t u)
weighs s t u h = let e : u.state ≡ t = state_at s t u h in ap (λ x. weight (record u { state = x })) e

-- ==== handle

pub falls_handle : (d : DeviceState) (s : ℕ) (reply : ReplyData) (u : Unfinished) → command_out d s ≡ Some u → work (after_handle d s reply) < work d
unfolding after_handle
falls_handle d s reply u h =
    let e : sum_by weight (with_first (is_at s Out) (with_reply reply) d.unfinished) + 1 ≡ sum_by weight d.unfinished =
    sum-with_first_less (is_at s Out) (with_reply reply) weight 1 d.unfinished (λ v k. sym (weighs s Out v k)) (any_first (is_at s Out) d.unfinished u h) in
    omega (arith, e)

-- ==== respond

run_weighs : (p : Placing) (ss : List ℕ) → sum_by weight (run_placed p ss).unfinished ≡ sum_by weight p.unfinished
run_weighs p [] = refl
run_weighs p (s ∷ ss) =
    ⊎_elim
    (λ (e : is_among p.placed s ≡ true). rw e (run_weighs p ss))
    (λ (e : is_among p.placed s ≡ false).
    ⊎_elim
    (λ (z : list_any (is_at s Parked) p.unfinished ≡ true). rw (e, z) (run_weighs (with_placed p s) ss ∙ placed_weighs p s))
    (λ (z : list_any (is_at s Parked) p.unfinished ≡ false). rw (e, z) refl)
    (cases_Bool (list_any (is_at s Parked) p.unfinished)))
    (cases_Bool (is_among p.placed s))
  where
    placed_weighs : (p : Placing) (s : ℕ) → sum_by weight (with_placed p s).unfinished ≡ sum_by weight p.unfinished
    placed_weighs p s = sum-with_first_same (is_at s Parked) (in_state Placed) weight p.unfinished (λ v k. sym (weighs s Parked v k))

placing_weighs : (ooo : Bool) (p : Placing) (s : ℕ) (ss : List ℕ) → sum_by weight (placed_by ooo p s ss).unfinished ≡ sum_by weight p.unfinished
placing_weighs true p s ss = sum-with_first_same (is_at s Parked) (in_state Placed) weight p.unfinished (λ v k. sym (weighs s Parked v k))
placing_weighs false p s ss = run_weighs p ss

pub falls_respond : (d : DeviceState) (s : ℕ) → is_handled d s ≡ true → work (after_respond d s) < work d
unfolding after_respond
falls_respond d s h =
    let a : sum_by weight (with_parked d s) + 1 ≡ sum_by weight d.unfinished =
    sum-with_first_less (is_at s Handled) (in_state Parked) weight 1 d.unfinished (λ v k. sym (weighs s Handled v k)) h in
    let b : sum_by weight (placing d s).unfinished ≡ sum_by weight (with_parked d s) =
    placing_weighs d.settings.flags.ooo (record { placed = d.placed; unfinished = with_parked d s }) s _ in
    rw h (omega (arith, a, b))

-- ==== publish

pub falls_publish : (d : DeviceState) → RingSound d.settings d.ring → d.attached ≡ true → d.ring.published < publishable d → work (after_publish d) < work d
unfolding after_publish
falls_publish d h e l =
    let a : publishable d ≤ length (take d.ring.dispatched d.ring.laid) = front_short (length d.placed) (take d.ring.dispatched d.ring.laid) in
    let b : length (take d.ring.dispatched d.ring.laid) ≡ d.ring.dispatched = length-take-le d.ring.dispatched d.ring.laid h.dispatched in
    rw e (omega (arith, a, b, l, h.dispatched))

-- ==== clean

finish_weighs : (read_len : Bool) (b : Books) (s : ℕ) (o : Option Unfinished) → first_of (is_at s Placed) b.unfinished ≡ o → sum_by weight (finish read_len b s).unfinished ≤ sum_by weight b.unfinished
finish_weighs read_len b s None h = rw (finish, h) (omega arith)
finish_weighs read_len b s (Some u) h = rw (finish, h) (omega (arith, sum-without_first (is_at s Placed) weight b.unfinished u h))

all_weighs : (read_len : Bool) (b : Books) (ss : List ℕ) → sum_by weight (finish_all read_len b ss).unfinished ≤ sum_by weight b.unfinished
all_weighs read_len b [] = omega arith
all_weighs read_len b (s ∷ ss) =
    omega (arith, all_weighs read_len (finish read_len b s) ss, finish_weighs read_len b s (first_of (is_at s Placed) b.unfinished) refl)

pub falls_clean : (d : DeviceState) → RingSound d.settings d.ring → d.ring.cleared < d.ring.published → work (after_clean d) < work d
unfolding after_clean
falls_clean d h l =
    let a : sum_by weight (cleaned_books d).unfinished ≤ sum_by weight d.unfinished = all_weighs d.settings.flags.read_len (books d) (answered d) in
    omega (arith, a, l, h.published, h.dispatched)

-- ==== enter

length_pads : (n : ℕ) → length (pads n) ≤ 1
length_pads n =
    ⊎_elim
    (λ (e : eqb n 0 ≡ true). rw e (omega arith))
    (λ (e : eqb n 0 ≡ false). rw e (omega arith))
    (cases_Bool (eqb n 0))

entering_falls : (d : DeviceState) (ws : List Delayed) → d.delayed ≡ ws → can_enter d ws ≡ true → work (after_enter d (enter_answer d)) < work d
unfolding after_enter enter_answer with_command
entering_falls d [] e h = absurd (false≢true h)
entering_falls d (w ∷ ws) e h =
    let f : (fits_ring d w.command ≡ true) × (fits_blocks d w.command ≡ true) = and_parts _ _ h in
    let i : Item = record { len = entry_length_in d w.command; laid = Cmd w.serial w.command } in
    let l : length (with_item d.ring i).laid ≡ length d.ring.laid + length (pads (pad d.ring i.len)) + 1 =
    length-append (d.ring.laid ++ pads (pad d.ring i.len)) (i ∷ []) ∙ ap (λ k. k + 1) (length-append d.ring.laid (pads (pad d.ring i.len))) in
    let s : sum_by weight (d.unfinished ++ waiting d w.serial w.command ∷ []) ≡ sum_by weight d.unfinished + 2 = sum_by_push weight d.unfinished (waiting d w.serial w.command) in
    let n : length d.delayed ≡ suc (length ws) = ap length e in
    rw (e, f.0, f.1) (omega (arith, l, s, n, length_pads (pad d.ring i.len)))

pub falls_enter : (d : DeviceState) → can_enter d d.delayed ≡ true → work (after_enter d (enter_answer d)) < work d
falls_enter d h = entering_falls d d.delayed refl h

-- ==== dispatch

item_weighs : (us : List Unfinished) (n : ℕ) (l : Laid) → sum_by weight (after_item us (record { len = n; laid = l })) ≡ sum_by weight us
item_weighs us n Pad = refl
item_weighs us n (Tmr k ss) = refl
item_weighs us n (Cmd s c) = sum-with_first_same (is_at s Waiting) (in_state Out) weight us (λ v k. sym (weighs s Waiting v k))

found_falls : (d : DeviceState) (o : Option Item) → RingSound d.settings d.ring → d.attached ≡ true → d.ring.dispatched < length d.ring.laid → next_item d ≡ o → work (after_dispatch d) < work d
unfolding after_dispatch
found_falls d None h a l e =
    let n : length d.ring.laid ≤ next_place d.ring = get_none d.ring.laid (next_place d.ring) e in
    let m : next_place d.ring < length d.ring.laid = next_within d.ring h.ends l in
    absurd (omega (arith, n, m))
found_falls d (Some i) h a l e =
    let n : next_place d.ring < length d.ring.laid = within d.ring.laid (next_place d.ring) i e in
    let w : sum_by weight (after_item d.unfinished i) ≡ sum_by weight d.unfinished = item_weighs d.unfinished i.len i.laid in
    rw (a, e) (omega (arith, n, w, l))

pub falls_dispatch : (d : DeviceState) → RingSound d.settings d.ring → d.attached ≡ true → d.ring.dispatched < length d.ring.laid → work (after_dispatch d) < work d
falls_dispatch d h a l = found_falls d (next_item d) h a l refl
