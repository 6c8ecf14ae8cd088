-- Each event leaves the rows rising, and their tallies right.
use Rattle.std.proofs.Common.{◌≡◌, ℕ, ◌+◌, ◌<◌, ◌≤◌, Bool, true, false, List, [], ◌∷◌, ◌++◌, map, drop, None, refl, sym, ap, subst, ◌∙◌, arith, ⊎_elim, if◌then◌else◌, ◌==◌}
use Rattle.std.specs.List.{list_any, count_by}
use Rattle.std.proofs.lemmas.Bool.{cases_Bool, false≢true, and_from, eq-eqb}
use Rattle.tcmu_types.specs.Data.{ReplyData}
use Rattle.tcmu_model.specs.declared.state.CommandState.{CommandState}
use Rattle.tcmu_model.specs.declared.state.CommandState.TheVariants.{Waiting, Out, Handled, Parked, Placed, Lost}
use Rattle.tcmu_model.specs.States.{same_state}
use Rattle.tcmu_types.specs.Lists.{IsFirst, with_first, without_first, Every}
use Rattle.tcmu_types.specs.Numbers.{IsRising}
use Rattle.tcmu_model.specs.Device.{Unfinished, is_at, has_state}
use Rattle.tcmu_model.specs.Events.{turned, in_state, with_reply, expire, is_due, lose, is_losing}
use Rattle.tcmu_model.proofs.CommandStates.{state_at, serial_at, state_is}
use Rattle.tcmu_types.proofs.Everies.{map_kept}
use Rattle.tcmu_types.proofs.Firsts.{any_at}
use Rattle.tcmu_path.specs.Tallies.{serials_of, least_in, lesser, without, IsTally, AreRows}
use Rattle.tcmu_path.specs.declared.tally.Tally.{Tally}
use Rattle.tcmu_path.proofs.Rising.{rises_pushed, rises_taken, serials_turned}
use Rattle.tcmu_path.proofs.Tallying.{entered, entered_count, some_counted, left, left_count, stays, stays_count, taken, taken_count, pushed, pushed_count, mapped, mapped_count, none_left, none_left_count}
use Rattle.tcmu_path.proofs.Rooms.{expire_same, lose_same}

-- ==== a command at a serial in a state

other_state : (s : ℕ) (t other : CommandState) → same_state t other ≡ false → (u : Unfinished) → is_at s t u ≡ true → has_state other u ≡ false
other_state s t other h u e = ap (λ x. same_state x other) (state_at s t u e) ∙ h

this_state : (s : ℕ) (t : CommandState) → same_state t t ≡ true → (u : Unfinished) → is_at s t u ≡ true → has_state t u ≡ true
this_state s t h u e = ap (λ x. same_state x t) (state_at s t u e) ∙ h

at_serial : (s : ℕ) (t : CommandState) (u : Unfinished) → has_state t u ≡ true → u.serial ≡ s → is_at s t u ≡ true
at_serial s t u h e = and_from _ _ (eq-eqb u.serial s e) h

turned-rising : (p : Unfinished → Bool) (g : Unfinished → Unfinished) (us : List Unfinished) → ((u : Unfinished) → (g u).serial ≡ u.serial) → IsRising (serials_of us) → IsRising (serials_of (with_first p g us))
turned-rising p g us h r = subst (λ (ss : List ℕ). IsRising ss) (sym (serials_turned p g us h)) r

-- ==== the tally of a state, after one command is changed

-- it comes into the state
enters : (t from : CommandState) (g : Unfinished → Unfinished) (s : ℕ) (us : List Unfinished) (a a' : Tally)
    → same_state from t ≡ false → ((u : Unfinished) → has_state t (g u) ≡ true) → ((u : Unfinished) → (g u).serial ≡ u.serial)
    → IsRising (serials_of us) → list_any (is_at s from) us ≡ true → IsTally t us a → a'.least ≡ lesser a.least s → a'.count ≡ a.count + 1 → IsTally t (with_first (is_at s from) g us) a'
enters t from g s us a a' other is serial r f h l c =
    record {
      least_is = l ∙ (ap (λ x. lesser x s) h.least_is ∙ sym (entered (has_state t) (is_at s from) g s us (serial_at s from) (other_state s from t other) is serial r f));
      count_is = omega (arith, c, h.count_is, entered_count (has_state t) (is_at s from) g us (other_state s from t other) is f);
    }

-- it leaves the state
leaves : (t : CommandState) (g : Unfinished → Unfinished) (s : ℕ) (us : List Unfinished) (at : ℕ) (a a' : Tally)
    → same_state t t ≡ true → ((u : Unfinished) → has_state t (g u) ≡ false)
    → IsFirst (is_at s t) us at → IsTally t us a
    → a'.least ≡ without a.least s (if a'.count == 0 then None else least_in t (drop (at + 1) us)) → a'.count + 1 ≡ a.count → IsTally t (with_first (is_at s t) g us) a'
leaves t g s us at a a' this is f h l c =
    let k : count_by (has_state t) (with_first (is_at s t) g us) + 1 ≡ count_by (has_state t) us = left_count (has_state t) (is_at s t) g us (this_state s t this) is (any_at (is_at s t) us at f) in
    let count : a'.count ≡ count_by (has_state t) (with_first (is_at s t) g us) = omega (arith, k, c, h.count_is) in
    record {
      least_is = left (has_state t) (is_at s t) g s us at a.least a'.least a'.count (serial_at s t) (this_state s t this) (at_serial s t) is f h.least_is count l;
      count_is = count;
    }

-- it was not in the state, and is not
keeps : (t from : CommandState) (g : Unfinished → Unfinished) (s : ℕ) (us : List Unfinished) (a : Tally)
    → same_state from t ≡ false → ((u : Unfinished) → has_state t (g u) ≡ false) → IsTally t us a → IsTally t (with_first (is_at s from) g us) a
keeps t from g s us a other is h =
    record {
      least_is = h.least_is ∙ sym (stays (has_state t) (is_at s from) g us (other_state s from t other) is);
      count_is = h.count_is ∙ sym (stays_count (has_state t) (is_at s from) g us (other_state s from t other) is);
    }

-- ==== the events

-- a command stands in the state, so the tally counts some
pub some_there : (t : CommandState) (s : ℕ) (us : List Unfinished) (at : ℕ) (a : Tally) → same_state t t ≡ true → IsFirst (is_at s t) us at → IsTally t us a → 1 ≤ a.count
some_there t s us at a this f h =
    omega (arith, h.count_is, some_counted (has_state t) (is_at s t) us (this_state s t this) (any_at (is_at s t) us at f))

pub rows_sent : (us : List Unfinished) (out handled out' : Tally) (s at : ℕ) → AreRows us out handled → IsFirst (is_at s Waiting) us at
    → out'.least ≡ lesser out.least s → out'.count ≡ out.count + 1 → AreRows (turned s Waiting Out us) out' handled
rows_sent us out handled out' s at h f l c =
    record {
      rising = turned-rising (is_at s Waiting) (in_state Out) us (λ u. refl) h.rising;
      out_is = enters Out Waiting (in_state Out) s us out out' refl (λ u. refl) (λ u. refl) h.rising (any_at (is_at s Waiting) us at f) h.out_is l c;
      handled_is = keeps Handled Waiting (in_state Out) s us handled refl (λ u. refl) h.handled_is;
    }

pub rows_replied : (us : List Unfinished) (out handled out' handled' : Tally) (s at : ℕ) (reply : ReplyData) → AreRows us out handled → IsFirst (is_at s Out) us at
    → out'.least ≡ without out.least s (if out'.count == 0 then None else least_in Out (drop (at + 1) us)) → out'.count + 1 ≡ out.count
    → handled'.least ≡ lesser handled.least s → handled'.count ≡ handled.count + 1 → AreRows (with_first (is_at s Out) (with_reply reply) us) out' handled'
rows_replied us out handled out' handled' s at reply h f l c m d =
    record {
      rising = turned-rising (is_at s Out) (with_reply reply) us (λ u. refl) h.rising;
      out_is = leaves Out (with_reply reply) s us at out out' refl (λ u. refl) f h.out_is l c;
      handled_is = enters Handled Out (with_reply reply) s us handled handled' refl (λ u. refl) (λ u. refl) h.rising (any_at (is_at s Out) us at f) h.handled_is m d;
    }

pub rows_parked : (us : List Unfinished) (out handled handled' : Tally) (s at : ℕ) → AreRows us out handled → IsFirst (is_at s Handled) us at
    → handled'.least ≡ without handled.least s (if handled'.count == 0 then None else least_in Handled (drop (at + 1) us)) → handled'.count + 1 ≡ handled.count
    → AreRows (turned s Handled Parked us) out handled'
rows_parked us out handled handled' s at h f l c =
    record {
      rising = turned-rising (is_at s Handled) (in_state Parked) us (λ u. refl) h.rising;
      out_is = keeps Out Handled (in_state Parked) s us out refl (λ u. refl) h.out_is;
      handled_is = leaves Handled (in_state Parked) s us at handled handled' refl (λ u. refl) f h.handled_is l c;
    }

pub rows_placed : (us : List Unfinished) (out handled : Tally) (s : ℕ) → AreRows us out handled → AreRows (turned s Parked Placed us) out handled
rows_placed us out handled s h =
    record {
      rising = turned-rising (is_at s Parked) (in_state Placed) us (λ u. refl) h.rising;
      out_is = keeps Out Parked (in_state Placed) s us out refl (λ u. refl) h.out_is;
      handled_is = keeps Handled Parked (in_state Placed) s us handled refl (λ u. refl) h.handled_is;
    }

tally_taken : (t : CommandState) (s : ℕ) (us : List Unfinished) (a : Tally) → same_state Placed t ≡ false → IsTally t us a → IsTally t (without_first (is_at s Placed) us) a
tally_taken t s us a other h =
    record {
      least_is = h.least_is ∙ sym (taken (has_state t) (is_at s Placed) us (other_state s Placed t other));
      count_is = h.count_is ∙ sym (taken_count (has_state t) (is_at s Placed) us (other_state s Placed t other));
    }

pub rows_taken : (us : List Unfinished) (out handled : Tally) (s : ℕ) → AreRows us out handled → AreRows (without_first (is_at s Placed) us) out handled
rows_taken us out handled s h =
    record {
      rising = rises_taken (is_at s Placed) us h.rising;
      out_is = tally_taken Out s us out refl h.out_is;
      handled_is = tally_taken Handled s us handled refl h.handled_is;
    }

tally_pushed : (t : CommandState) (us : List Unfinished) (u : Unfinished) (a : Tally) → has_state t u ≡ false → IsTally t us a → IsTally t (us ++ u ∷ []) a
tally_pushed t us u a out h =
    record {
      least_is = h.least_is ∙ sym (pushed (has_state t) us u out);
      count_is = h.count_is ∙ sym (pushed_count (has_state t) us u out);
    }

pub rows_pushed : (us : List Unfinished) (u : Unfinished) (out handled : Tally) → AreRows us out handled → u.state ≡ Waiting → Every (λ s. s < u.serial) (serials_of us) → AreRows (us ++ u ∷ []) out handled
rows_pushed us u out handled h w e =
    record {
      rising = rises_pushed us u h.rising e;
      out_is = tally_pushed Out us u out (ap (λ x. same_state x Out) w) h.out_is;
      handled_is = tally_pushed Handled us u handled (ap (λ x. same_state x Handled) w) h.handled_is;
    }

expire_kept : (now : ℕ) (u : Unfinished) (g : Unfinished → Bool) → g (record u { expired = true }) ≡ g u → g (expire now u) ≡ g u
expire_kept now u g h =
    ⊎_elim
    (λ (e : is_due now u ≡ true). rw e h)
    (λ (e : is_due now u ≡ false). rw e refl)
    (cases_Bool (is_due now u))

expire-state : (now : ℕ) (u : Unfinished) (t : CommandState) → has_state t (expire now u) ≡ has_state t u
expire-state now u t = expire_kept now u (has_state t) refl

tally_expired : (t : CommandState) (now : ℕ) (us : List Unfinished) (a : Tally) → IsTally t us a → IsTally t (map (expire now) us) a
tally_expired t now us a h =
    record {
      least_is = h.least_is ∙ sym (mapped (has_state t) (expire now) us (λ u. expire-state now u t) (λ u. expire_same now u (λ v. v.serial) refl));
      count_is = h.count_is ∙ sym (mapped_count (has_state t) (expire now) us (λ u. expire-state now u t));
    }

pub rows_expired : (us : List Unfinished) (out handled : Tally) (now : ℕ) → AreRows us out handled → AreRows (map (expire now) us) out handled
rows_expired us out handled now h =
    record {
      rising = subst (λ (ss : List ℕ). IsRising ss) (sym (map_kept (expire now) (λ u. u.serial) us (λ u. expire_same now u (λ v. v.serial) refl))) h.rising;
      out_is = tally_expired Out now us out h.out_is;
      handled_is = tally_expired Handled now us handled h.handled_is;
    }

taking_out : (ps : List ℕ) (u : Unfinished) → has_state Out u ≡ true → is_losing ps u ≡ true
taking_out ps u h = let e : u.state ≡ Out = state_is u.state Out h in rw e refl

taking_handled : (ps : List ℕ) (u : Unfinished) → has_state Handled u ≡ true → is_losing ps u ≡ true
taking_handled ps u h = let e : u.state ≡ Handled = state_is u.state Handled h in rw e refl

stays-out : (ps : List ℕ) (u : Unfinished) (t : CommandState) → ((v : Unfinished) → has_state t v ≡ true → is_losing ps v ≡ true) → is_losing ps u ≡ false → has_state t u ≡ false
stays-out ps u t taking e =
    ⊎_elim
    (λ (h : has_state t u ≡ true). absurd (false≢true (sym e ∙ taking u h)))
    (λ (h : has_state t u ≡ false). h)
    (cases_Bool (has_state t u))

-- what is in hand is lost
lost-state : (ps : List ℕ) (u : Unfinished) (t : CommandState) → same_state Lost t ≡ false → ((v : Unfinished) → has_state t v ≡ true → is_losing ps v ≡ true) → has_state t (lose ps u) ≡ false
lost-state ps u t other taking =
    ⊎_elim
    (λ (e : is_losing ps u ≡ true). rw e other)
    (λ (e : is_losing ps u ≡ false). rw e (stays-out ps u t taking e))
    (cases_Bool (is_losing ps u))

tally_lost : (t : CommandState) (ps : List ℕ) (us : List Unfinished) (a : Tally) → ((u : Unfinished) → has_state t (lose ps u) ≡ false) → a.least ≡ None → a.count ≡ 0 → IsTally t (map (lose ps) us) a
tally_lost t ps us a gone l c =
    record {
      least_is = l ∙ sym (none_left (has_state t) (lose ps) us gone);
      count_is = c ∙ sym (none_left_count (has_state t) (lose ps) us gone);
    }

pub rows_lost : (us : List Unfinished) (out handled out' handled' : Tally) (ps : List ℕ) → AreRows us out handled
    → out'.least ≡ None → out'.count ≡ 0 → handled'.least ≡ None → handled'.count ≡ 0 → AreRows (map (lose ps) us) out' handled'
rows_lost us out handled out' handled' ps h l c m d =
    record {
      rising = subst (λ (ss : List ℕ). IsRising ss) (sym (map_kept (lose ps) (λ u. u.serial) us (λ u. lose_same ps u (λ v. v.serial) refl))) h.rising;
      out_is = tally_lost Out ps us out' (λ u. lost-state ps u Out refl (taking_out ps)) l c;
      handled_is = tally_lost Handled ps us handled' (λ u. lost-state ps u Handled refl (taking_handled ps)) m d;
    }
