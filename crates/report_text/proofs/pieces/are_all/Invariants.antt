use Rattle.std.proofs.Common.{◌≡◌, true, take, replicate}
use Rattle.report_text.proofs.pieces.are_all.Given as goal

abbrev pub invariant-loop-b : goal.invariant-loop-b
invariant-loop-b l = l.same ≡ true → take l.b-index l.bytes ≡ replicate l.b-index l.byte
