use Rattle.std.proofs.Common.{◌+◌}
use Rattle.region_model.specs.Layout.{entry_header}
use Rattle.tcmu_types.proofs.ByteFields.{lengths, then_put}
use Rattle.entry_codec.proofs.writing.put_header.Goals as goal

pub returns : goal.returns
unfolding entry_header
returns c =
    let o = c.args.start in
    let w2 = then_put _ _ _ o (o + 4) _ _ c.put_u32.ensures c.put_u16.ensures (omega lengths) (omega lengths) in
    then_put _ _ _ o (o + 6) _ _ w2 c.put_zeros.ensures (omega lengths) (omega lengths)
