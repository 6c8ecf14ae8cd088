-- A kept device may go to another thread wherever its path may.
use denote.RattleType.{RattleType}
use denote.Param.Send.{IsSend, IsSync, sendable}
use Rattle.std.proofs.Crossing.{crosses}
use Rattle.tcmu_path.specs.declared.path.Path.{Ghosts}
use Rattle.journal_kept.specs.contracts.kept.Kept.{the_row as kept_row}

pub kept_goes : (P : RattleType) (g : Ghosts P.Denot) → IsSend P → IsSend (kept_row P g)
kept_goes P g p = search (sendable, crosses) depth 60 fits 100000
