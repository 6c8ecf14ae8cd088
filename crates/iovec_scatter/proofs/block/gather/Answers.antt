use Rattle.std.proofs.Common.{◌≡◌, ◌+◌, ◌∙◌, ap, arith, length, drop, get_or, ◌∷◌}
use Rattle.region_model.specs.Iovecs.{room_of}
use Rattle.iovec_scatter.proofs.Steps.{gather_step, rest_of}
use Rattle.iovec_scatter.proofs.block.gather.Goals as goal

pub loop-block-preserved : goal.loop-block-preserved
loop-block-preserved c =
    let inv = c.loop-block.invariant in
    let items = c.as_slice-block-items.result.now in
    let i = c.loop-block.block-index in
    let more : room_of (drop i items) ≡ room_of (get_or items i c.block-item.result ∷ drop (i + 1) items) = ap room_of (rest_of items i c.block-item.result c.loop-block-test.true) in
    let is : c.as_slice-bytes.result.now ≡ get_or items i c.block-item.result = c.as_slice-bytes.ensures ∙ c.block-item.is in
    let size : length c.as_slice-bytes.result.now ≡ length (get_or items i c.block-item.result) = ap length is in (
      inv.0,
      omega arith,
      omega arith,
      omega arith,
      gather_step items i c.loop-block.done c.min-count.result (length c.args.into.now) c.as_slice-bytes.result.now c.loop-block.into c.put_bytes.new.into c.block-item.result c.loop-block-test.true is (omega arith) (omega arith) (omega arith) c.put_bytes.ensures
          ∙ inv.4,
    )
