use Rattle.std.proofs.Common.{◌≡◌, ℕ, List, ◌++◌, length}
use Rattle.std.specs.Io.KnownBytes.{Appends}
use Rattle.edge.proofs.standard.StdSinkSink.write.Given as goal

abbrev pub invariant-loop-rest : goal.invariant-loop-rest
invariant-loop-rest g l =
    (l.self-inside.faults ≡ l.fn.self.faults)
    × ((done : List ℕ) × (l.fn.piece ≡ done ++ l.rest) × Appends (g.W.Write.contents l.fn.self.inner) (g.W.Write.contents l.self-inside.writer) done)

abbrev pub decreases-loop-rest : goal.decreases-loop-rest
decreases-loop-rest g l = length l.rest
