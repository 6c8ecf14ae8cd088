-- When two states of an unfinished command are the same.
use Rattle.std.specs.Prelude.{Bool, true, false}
use Rattle.tcmu_model.specs.declared.state.CommandState.{CommandState}
use Rattle.tcmu_model.specs.declared.state.CommandState.TheVariants.{Waiting, Out, Handled, Parked, Placed, Lost}

abbrev pub same_state : CommandState → CommandState → Bool
same_state Waiting Waiting = true
same_state Out Out = true
same_state Handled Handled = true
same_state Parked Parked = true
same_state Placed Placed = true
same_state Lost Lost = true
same_state _ _ = false
