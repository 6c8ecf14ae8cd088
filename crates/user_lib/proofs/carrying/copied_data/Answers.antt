use Rattle.user_lib.proofs.Entries.{lies_in_region}
use Rattle.user_lib.proofs.carrying.copied_data.Goals as goal

pub copy_out-requires-clause-inside : goal.copy_out-requires-clause-inside
copy_out-requires-clause-inside c = lies_in_region c.args.region.now c.args.iovs.now.items c.requires
