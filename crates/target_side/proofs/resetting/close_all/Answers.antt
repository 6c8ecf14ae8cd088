use Rattle.std.proofs.Common.{◌≡◌, ◌<◌, List, length, drop, ap, ◌∙◌, arith}
use Rattle.region_model.specs.Sides.{PendingRow}
use Rattle.target_side.specs.HeldRows.{HeldRows}
use Rattle.target_side.proofs.Closed.{logs_next, rows_next}
use Rattle.target_side.proofs.resetting.close_all.Goals as goal

pub loop-preserved : goal.loop-preserved
loop-preserved c =
    let rows : List PendingRow = c.args.commands.now.rows in
    let h : c.loop.counter < length rows = omega (arith, c.loop-test.true, c.len-end.ensures) in
    let at : c.loop.commands.rows ≡ drop c.loop.counter rows = ap (λ (x : HeldRows). x.rows) c.loop.invariant.rows in
    let limit : c.loop.commands.limit ≡ c.args.commands.now.limit = ap (λ (x : HeldRows). x.limit) c.loop.invariant.rows in
    record {
      rows = c.close_first.ensures.rows
          ∙ (ap (λ n. record { limit = n; rows = drop 1 c.loop.commands.rows }) limit
          ∙ ap (λ xs. record { limit = c.args.commands.now.limit; rows = xs }) (rows_next rows c.loop.commands.rows c.loop.counter at h));
      log = logs_next c.args.level rows c.loop.commands.rows c.loop.counter c.args.log.now.items c.loop.log.items c.close_first.new.log.items h at c.loop.invariant.log c.close_first.ensures.log;
      room = omega (arith, c.loop.invariant.room, c.close_first.ensures.room);
    }
