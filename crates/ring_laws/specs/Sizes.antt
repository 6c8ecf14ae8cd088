-- The blocks of a region.
use Rattle.tcmu_model.specs.Lengths.{block_size}
use Rattle.region_model.specs.Regions.{AreSized, RegionState}

-- each block that is at home has the size of a block
abbrev pub IsSized : RegionState → Type 0
IsSized r = AreSized (block_size r.pages) r.blocks
