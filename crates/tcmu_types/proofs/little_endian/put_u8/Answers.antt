use Rattle.std.proofs.Common.{◌∙◌, ap, arith}
use Rattle.tcmu_types.specs.ByteFields.{put}
use Rattle.tcmu_types.proofs.ByteFields.{le-one}
use Rattle.tcmu_types.proofs.little_endian.put_u8.Goals as goal

pub returns : goal.returns
returns c =
    c.put_bytes.ensures ∙ ap (put c.args.into.now c.args.at) (le-one c.args.value (omega arith))
