use Rattle.std.proofs.Common.{sym, refl}
use Rattle.tcmu_types.specs.ByteFields.{le}
use Rattle.tcmu_types.proofs.ByteFields.{length-le, rest_put}
use Rattle.tcmu_types.proofs.little_endian.put_u16.Goals as goal

pub returns : goal.returns
unfolding le
returns c =
    rest_put c.args.at _ 2 c.args.into.now _ (le 2 c.args.value) (sym (length-le 2 c.args.value)) refl c.write_u16.ensures
