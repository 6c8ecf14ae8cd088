-- Gates may be shared by threads.
use denote.Param.Send.{IsSync, sendable}
use Rattle.std.proofs.Crossing.{crosses}
use Rattle.gate.specs.contracts.passing.OpenGate.{the_row as open_gate_row}
use Rattle.gate.specs.contracts.holding.HoldGate.{the_row as hold_gate_row}

pub open_gate_shares : IsSync open_gate_row
open_gate_shares = search (sendable, crosses) depth 30

pub hold_gate_shares : IsSync hold_gate_row
hold_gate_shares = search (sendable, crosses) depth 30
