use Rattle.std.proofs.Common.{◌+◌}
use Rattle.region_model.specs.Layout.{command_head}
use Rattle.tcmu_types.proofs.ByteFields.{lengths, then_put}
use Rattle.region_model.proofs.HeaderLengths.{length-entry_header}
use Rattle.entry_codec.proofs.writing.put_command_head.Goals as goal

ruleset sizes = (lengths, length-entry_header)

pub returns : goal.returns
unfolding command_head
returns c =
    let o = c.args.start in
    let w2 = then_put _ _ _ o (o + 8) _ _ c.put_header.ensures c.put_u32.ensures (omega sizes) (omega sizes) in
    let w3 = then_put _ _ _ o (o + 12) _ _ w2 c.put_u32-2.ensures (omega sizes) (omega sizes) in
    let w4 = then_put _ _ _ o (o + 16) _ _ w3 c.put_u32-3.ensures (omega sizes) (omega sizes) in
    let w5 = then_put _ _ _ o (o + 20) _ _ w4 c.put_zeros.ensures (omega sizes) (omega sizes) in
    let w6 = then_put _ _ _ o (o + 24) _ _ w5 c.put_u64.ensures (omega sizes) (omega sizes) in
    then_put _ _ _ o (o + 32) _ _ w6 c.put_zeros-2.ensures (omega sizes) (omega sizes)
