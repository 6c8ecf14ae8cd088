use Rattle.std.proofs.Common.{◌+◌, length}
use Rattle.tcmu_types.specs.ByteFields.{padded}
use Rattle.tcmu_types.proofs.ByteFields.{lengths, then_put}
use Rattle.entry_codec.proofs.writing.put_padded.Goals as goal

pub returns : goal.returns
unfolding padded
returns c =
    then_put _ _ _ c.args.start (c.args.start + length c.args.bytes.now) _ _ c.put_bytes.ensures c.put_zeros.ensures (omega lengths) (omega lengths)
