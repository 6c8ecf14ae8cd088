use Rattle.std.proofs.Common.{◌≡◌, ◌∙◌, ap, arith, refl, length}
use Rattle.tcmu_types.specs.ByteFields.{put}
use Rattle.region_model.specs.Layout.{iovs_bytes}
use Rattle.entry_codec.proofs.Lists.{iovs_step, iovs_end}
use Rattle.entry_codec.proofs.writing.put_iovs.Goals as goal

pub loop-iov-preserved : goal.loop-iov-preserved
loop-iov-preserved c =
    let inv = c.loop-iov.invariant in
    let items : length c.as_slice-iov-items.result.now ≡ length c.args.iovs.now.items = ap length inv.0 in (
      inv.0,
      omega arith,
      omega arith,
      iovs_step c.as_slice-iov-items.result.now c.loop-iov.iov-index _ c.loop-iov.front _ _ c.loop-iov.at _ _ c.loop-iov-test.true c.put_u64.ensures c.put_u64-in-loop-iov.ensures refl refl (omega arith)
          ∙ inv.3,
    )

pub returns : goal.returns
returns c =
    let inv = c.loop-iov.invariant in
    iovs_end c.as_slice-iov-items.result.now c.loop-iov.iov-index c.loop-iov.front c.loop-iov.at c.loop-iov-test.false
    ∙ inv.3
    ∙ ap (λ (w : _). put c.args.front.now c.args.start (iovs_bytes w)) inv.0
