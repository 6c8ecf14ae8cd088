use Rattle.std.proofs.Common.{rules, take, arith, ◌≤◌, length}
use Rattle.tcmu_top.proofs.Telling.{took_two}
use Rattle.tcmu_top.proofs.reading.read_all.Goals as goal

pub returns-clause-taken : goal.returns-clause-taken
returns-clause-taken g c =
    let i = c.loop-piece.invariant in
    record { piece = c.loop-piece.bytes.items; gave = i.given; most = i.most; few = omega (arith, i.reads, i.few, c.loop-piece-test.false, c.len.ensures) }

pub returns-in_err-extend_from_slice-clause-taken : goal.returns-in_err-extend_from_slice-clause-taken
returns-in_err-extend_from_slice-clause-taken g c =
    let few : length (take c.in-Ok.n c.read.new.into) ≤ 4096 = search rules in
    took_two _ _ _ c.loop-piece.bytes.items (take c.in-Ok.n c.read.new.into) _ _ (omega (arith, c.loop-piece-test.true, c.len.ensures)) few c.loop-piece.invariant.given c.in-Ok.ensures.takes
    (omega (arith, c.loop-piece.invariant.reads, c.read.ensures.reads))
