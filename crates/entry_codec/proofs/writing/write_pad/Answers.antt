use Rattle.std.proofs.Common.{◌+◌}
use Rattle.region_model.specs.Layout.{pad_bytes}
use Rattle.tcmu_types.proofs.ByteFields.{lengths, then_put}
use Rattle.region_model.proofs.HeaderLengths.{length-entry_header}
use Rattle.entry_codec.proofs.writing.write_pad.Goals as goal

pub returns : goal.returns
unfolding pad_bytes
returns c =
    let o = 128 + c.args.at in
    then_put _ _ _ o (o + 8) _ _ c.put_header.ensures c.put_zeros.ensures (omega (lengths, length-entry_header)) (omega (lengths, length-entry_header))
