use Rattle.std.proofs.Common.{sym, refl}
use Rattle.tcmu_types.specs.ByteFields.{le}
use Rattle.tcmu_types.proofs.ByteFields.{length-le, rest_put}
use Rattle.tcmu_types.proofs.little_endian.put_u64.Goals as goal

pub returns : goal.returns
unfolding le
returns c =
    rest_put c.args.at _ 8 c.args.into.now _ (le 8 c.args.value) (sym (length-le 8 c.args.value)) refl c.write_u64.ensures
