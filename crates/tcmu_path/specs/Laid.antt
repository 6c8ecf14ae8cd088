-- What stands in an item of a plain ring.
use Rattle.tcmu_model.specs.RingState.{Laid, Pad, Cmd, Tmr}
use Rattle.tcmu_path.specs.declared.ring.Content.{Content}
use Rattle.tcmu_path.specs.declared.ring.Content.TheVariants as content

-- what an item stands for; a command's own fields are those that its row has
abbrev pub laid_in : Content → Laid
laid_in content.Pad = Pad
laid_in (content.Command s c) = Cmd s c.value
laid_in (content.Note k ss) = Tmr k ss.items
