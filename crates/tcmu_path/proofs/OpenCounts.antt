-- The commands that are open, from the numbers that a device shows.
use Rattle.std.proofs.Common.{◌≡◌, ℕ, ◌+◌, ◌-◌, ◌≤◌, Bool, true, false, cond, not, List, [], ◌∷◌, ◌++◌, length, refl, arith, length-append}
use Rattle.std.specs.List.{count_by}
use Rattle.std.proofs.lemmas.List.{length-map}
use Rattle.std.proofs.lemmas.List.Sums.{sum_by-cons}
use Rattle.tcmu_types.specs.declared.stat.Stat.{Stat}
use Rattle.tcmu_model.specs.declared.state.CommandState.{CommandState}
use Rattle.tcmu_model.specs.declared.state.CommandState.TheVariants.{Waiting, Out, Handled, Parked, Placed, Lost}
use Rattle.tcmu_model.specs.States.{same_state}
use Rattle.tcmu_model.specs.RingState.{serials_in}
use Rattle.tcmu_model.specs.Device.{Unfinished, DeviceState, has_state}
use Rattle.tcmu_model.specs.Events.{is_open, stat_answer}
use Rattle.tcmu_model.specs.Sound.{open_count, IsSound, delayed_serials}
use Rattle.tcmu_types.specs.Numbers.{Rise}

-- a number for a test that passes
abbrev one : Bool → ℕ
one b = cond b 1 0

-- a command is in one state
one_state : (s : CommandState) → one (same_state s Waiting) + one (same_state s Out) + one (same_state s Handled) + one (same_state s Parked) + one (same_state s Placed) + one (same_state s Lost) ≡ 1
one_state Waiting = refl
one_state Out = refl
one_state Handled = refl
one_state Parked = refl
one_state Placed = refl
one_state Lost = refl

one_open : (b : Bool) → one (not b) + one b ≡ 1
one_open true = refl
one_open false = refl

abbrev count_in : List Unfinished → CommandState → ℕ
count_in us t = count_by (has_state t) us

all_states : (us : List Unfinished) → count_in us Waiting + count_in us Out + count_in us Handled + count_in us Parked + count_in us Placed + count_in us Lost ≡ length us
all_states [] = refl
all_states (u ∷ us) =
    omega (
      arith,
      all_states us,
      one_state u.state,
      sum_by-cons (λ v. one (has_state Waiting v)) u us,
      sum_by-cons (λ v. one (has_state Out v)) u us,
      sum_by-cons (λ v. one (has_state Handled v)) u us,
      sum_by-cons (λ v. one (has_state Parked v)) u us,
      sum_by-cons (λ v. one (has_state Placed v)) u us,
      sum_by-cons (λ v. one (has_state Lost v)) u us,
    )

open_or_expired : (us : List Unfinished) → count_by is_open us + count_by (λ u. u.expired) us ≡ length us
open_or_expired [] = refl
open_or_expired (u ∷ us) =
    omega (arith, open_or_expired us, one_open u.expired, sum_by-cons (λ v. one (is_open v)) u us, sum_by-cons (λ (v : Unfinished). one v.expired) u us)

-- numbers that rise are no more than the last of them
rise_length : (low : ℕ) (xs : List ℕ) (high : ℕ) → Rise low xs high → low + length xs ≤ high
rise_length low [] high h = omega (arith, h)
rise_length low (x ∷ xs) high h = omega (arith, h.0, rise_length x xs high h.1)

pub few_delayed : (d : DeviceState) → IsSound d → length d.delayed ≤ d.accepted
few_delayed d h =
    omega (arith, rise_length 0 (serials_in d.ring.laid ++ delayed_serials d.delayed) d.accepted h.serials.rise, length-append (serials_in d.ring.laid) (delayed_serials d.delayed), length-map d.delayed (λ w. w.serial))

abbrev in_ring : Stat → ℕ
in_ring t = t.waiting + t.out + t.handled + t.parked + t.placed + t.lost

pub expired_within : (d : DeviceState) (t : Stat) → t ≡ stat_answer d → t.expired ≤ in_ring t
unfolding stat_answer
expired_within d t e = rw e (omega (arith, all_states d.unfinished, open_or_expired d.unfinished))

pub delayed_few : (d : DeviceState) (t : Stat) → IsSound d → t ≡ stat_answer d → t.delayed ≤ d.accepted
unfolding stat_answer
delayed_few d t h e = rw e (few_delayed d h)

pub open_counted : (d : DeviceState) (t : Stat) → t ≡ stat_answer d → (in_ring t - t.expired) + t.delayed ≡ open_count d
unfolding stat_answer
open_counted d t e = rw e (omega (arith, all_states d.unfinished, open_or_expired d.unfinished))
