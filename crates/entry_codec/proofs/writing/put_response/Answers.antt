use Rattle.std.proofs.Common.{◌+◌}
use Rattle.region_model.specs.Layout.{answer_bytes}
use Rattle.tcmu_types.proofs.ByteFields.{lengths, then_put, length-padded}
use Rattle.entry_codec.proofs.writing.put_response.Goals as goal

pub returns : goal.returns
unfolding answer_bytes
returns c =
    let o = c.args.start in
    let w2 = then_put _ _ _ o (o + 1) _ _ c.put_u8.ensures c.put_u8-2.ensures (omega lengths) (omega lengths) in
    let w3 = then_put _ _ _ o (o + 2) _ _ w2 c.put_zeros.ensures (omega lengths) (omega lengths) in
    let w4 = then_put _ _ _ o (o + 5) _ _ w3 c.put_u32.ensures (omega lengths) (omega lengths) in
    then_put _ _ _ o (o + 9) _ _ w4 c.put_padded.ensures (omega lengths) (omega (lengths, length-padded 96 c.args.sense.now c.requires.sense))
