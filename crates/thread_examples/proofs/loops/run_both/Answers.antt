use denote.Param.Send.{sendable}
use Rattle.std.proofs.Crossing.{crosses}
use Rattle.turn_lock.proofs.Crossing.{pass_goes, turn_shares}
use Rattle.thread_examples.proofs.loops.run_both.Goals as goal

pub run_all-requires-send-L : goal.run_all-requires-send-L
run_all-requires-send-L g c κs within = search (sendable, crosses, pass_goes) depth 14

pub run_all-requires-send-L-Done : goal.run_all-requires-send-L-Done
run_all-requires-send-L-Done g c κs within = search (sendable, crosses, pass_goes) depth 14

pub run_all-requires-sync-L-About : goal.run_all-requires-sync-L-About
run_all-requires-sync-L-About g c κs within = search (sendable, crosses, turn_shares) depth 14
