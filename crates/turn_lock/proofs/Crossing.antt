-- A pass may go to another thread, and a turn may be shared with one, wherever the value may go.
use denote.RattleType.{RattleType}
use denote.Param.Send.{IsSend, IsSync, sendable}
use Rattle.std.proofs.Crossing.{crosses}
use Rattle.atomic_table.specs.contracts.shared.Seat.{the_row as seat_row}
use Rattle.atomic_table.proofs.shared.Seat.TheSendSync.{the_send as seat_send}
use Rattle.atomic_table.proofs.shared.Shared.TheSendSync.{the_sync as shared_sync}
use Rattle.atomic_table.proofs.send_lease.SendLease.TheSendSync.{the_sync as lease_sync}
use Rattle.turn_lock.specs.declared.stepped.Stepped.{Ghosts}
use Rattle.turn_lock.specs.contracts.rule.Slot.{the_row as slot_row}
use Rattle.turn_lock.specs.contracts.rule.View.{the_row as view_row}
use Rattle.turn_lock.specs.contracts.turn.Pass.{the_row as pass_row}
use Rattle.turn_lock.specs.contracts.turn.Turn.{the_row as turn_row}

pub slot_goes : (K A T : RattleType) → IsSend K → IsSend (slot_row K A T)
slot_goes K A T k = search (sendable, crosses) depth 30

pub seat_goes : (K A T V : RattleType) → IsSend K → IsSend (seat_row (slot_row K A T) V)
seat_goes K A T V k = seat_send (slot_row K A T) V (slot_goes K A T k)

pub pass_goes : (K A T S E : RattleType) (g : Ghosts K.Denot A.Denot T.Denot S.Denot E.Denot) → IsSend K → IsSend (pass_row K A T S E g)
pass_goes K A T S E g k = let s = seat_goes K A T (view_row K E A T) k in search sendable depth 12

pub turn_shares : (K A T S E : RattleType) (g : Ghosts K.Denot A.Denot T.Denot S.Denot E.Denot) → IsSend K → IsSync (turn_row K A T S E g)
turn_shares K A T S E g k = let h = slot_goes K A T k in search (sendable, crosses, shared_sync, lease_sync) depth 20
