-- How many bytes the headers of entries have.
use Rattle.std.proofs.Common.{length, ℕ, ◌≡◌}
use Rattle.region_model.specs.Layout.{command_head, entry_header}
use Rattle.tcmu_types.proofs.ByteFields.{lengths}

pub length-entry_header : (op len id : ℕ) → length (entry_header op len id) ≡ 8
unfolding entry_header
length-entry_header op len id = omega lengths

pub length-command_head : (len id count cdb_off : ℕ) → length (command_head len id count cdb_off) ≡ 48
unfolding command_head
length-command_head len id count cdb_off = omega (lengths, length-entry_header)
