use Rattle.std.proofs.Common.{sym, arith}
use Rattle.shm_region.proofs.Over.{over_is, over_past, over_before}
use Rattle.shm_region.proofs.region.overlay.Goals.{then-start-part-via-then-start-part, then-start-part-via-else-start-part+then-skip-bytes}
use Rattle.shm_region.proofs.region.overlay.Goals as goal

pub returns : goal.returns
returns c =
    over_is c.args.place c.args.at c.saturating_sub-start.result c.saturating_sub-skip.result c.min-count.result c.args.bytes.now c.args.part.now c.put_bytes.new.into
    c.saturating_sub-start.ensures c.saturating_sub-skip.ensures c.min-count.ensures c.put_bytes.ensures

pub returns-then-start-part : goal.returns-then-start-part
returns-then-start-part c =
    elim c.then-start-part.branch [
      | then-start-part-via-then-start-part w ↦ sym (over_past c.args.place c.args.at c.args.bytes.now c.args.part.now (omega arith))
      | then-start-part-via-else-start-part+then-skip-bytes w ↦ sym (over_before c.args.place c.args.at c.args.bytes.now c.args.part.now (omega arith))
    ]
