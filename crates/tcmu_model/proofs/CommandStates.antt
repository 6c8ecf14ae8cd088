-- Sums and counts over a list whose first item that passes a test is changed or taken out.
use Rattle.std.proofs.Common.{◌≡◌, ℕ, true, refl}
use Rattle.std.proofs.lemmas.Bool.{false≢true, and_parts, eqb-true}
use Rattle.tcmu_model.specs.declared.state.CommandState.{CommandState}
use Rattle.tcmu_model.specs.declared.state.CommandState.TheVariants.{Waiting, Out, Handled, Parked, Placed, Lost}
use Rattle.tcmu_model.specs.States.{same_state}
use Rattle.tcmu_model.specs.Device.{Unfinished, is_at}

pub state_is : (a b : CommandState) → same_state a b ≡ true → a ≡ b
state_is Waiting Waiting h = refl
state_is Out Out h = refl
state_is Handled Handled h = refl
state_is Parked Parked h = refl
state_is Placed Placed h = refl
state_is Lost Lost h = refl
state_is _ _ h = absurd (false≢true h)

-- what is at a serial in a state has that serial and is in that state
pub state_at : (s : ℕ) (t : CommandState) (u : Unfinished) → is_at s t u ≡ true → u.state ≡ t
state_at s t u h = state_is u.state t (and_parts _ _ h).1

pub serial_at : (s : ℕ) (t : CommandState) (u : Unfinished) → is_at s t u ≡ true → u.serial ≡ s
serial_at s t u h = eqb-true u.serial s (and_parts _ _ h).0

pub state_same : (t : CommandState) → same_state t t ≡ true
state_same Waiting = refl
state_same Out = refl
state_same Handled = refl
state_same Parked = refl
state_same Placed = refl
state_same Lost = refl
