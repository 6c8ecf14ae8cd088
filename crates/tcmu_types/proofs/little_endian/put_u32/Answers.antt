use Rattle.std.proofs.Common.{sym, refl}
use Rattle.tcmu_types.specs.ByteFields.{le}
use Rattle.tcmu_types.proofs.ByteFields.{length-le, rest_put}
use Rattle.tcmu_types.proofs.little_endian.put_u32.Goals as goal

pub returns : goal.returns
unfolding le
returns c =
    rest_put c.args.at _ 4 c.args.into.now _ (le 4 c.args.value) (sym (length-le 4 c.args.value)) refl c.write_u32.ensures
