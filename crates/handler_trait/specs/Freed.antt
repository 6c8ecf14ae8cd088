-- Which blocks of a store are free, by the changes of them.
use Rattle.std.specs.Prelude.{ℕ, List, []}
use Rattle.scsi_model.specs.Base.{without_blocks, with_blocks}
use Rattle.handler_trait.specs.declared.free_blocks.Change.{Change, None, Wrote', Failed'}

abbrev pub free_behind : Change → List ℕ
free_behind None = []
free_behind (Wrote' first count marker before) = without_blocks first.value count.value (free_behind before)
free_behind (Failed' first count marker before) = with_blocks first.value count.value (free_behind before)
