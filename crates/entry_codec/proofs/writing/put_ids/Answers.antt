use Rattle.std.proofs.Common.{◌≡◌, ◌∙◌, ap, arith, refl, length}
use Rattle.tcmu_types.specs.ByteFields.{put}
use Rattle.region_model.specs.Layout.{ids_bytes}
use Rattle.entry_codec.proofs.Lists.{ids_step, ids_end}
use Rattle.entry_codec.proofs.writing.put_ids.Goals as goal

pub loop-id-preserved : goal.loop-id-preserved
loop-id-preserved c =
    let inv = c.loop-id.invariant in
    let items : length c.as_slice-id-items.result.now ≡ length c.args.ids.now.items = ap length inv.0 in (
      inv.0,
      omega arith,
      omega arith,
      ids_step c.as_slice-id-items.result.now c.loop-id.id-index c.loop-id.front _ c.loop-id.at _ c.loop-id-test.true c.put_u16.ensures refl (omega arith)
          ∙ inv.3,
    )

pub returns : goal.returns
returns c =
    let inv = c.loop-id.invariant in
    ids_end c.as_slice-id-items.result.now c.loop-id.id-index c.loop-id.front c.loop-id.at c.loop-id-test.false
    ∙ inv.3
    ∙ ap (λ (w : _). put c.args.front.now c.args.start (ids_bytes w)) inv.0
