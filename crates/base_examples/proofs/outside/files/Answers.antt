use Rattle.std.proofs.Common.{◌∙◌, ap}
use Rattle.std.specs.Prelude.{codes}
use Rattle.edge.specs.Stores.{FilesState}
use Rattle.edge.specs.Memory.{FilesInMemory, place_in}
use Rattle.base_examples.proofs.outside.files.Goals as goal

-- the second name is another one than the first
pub add-requires-2 : goal.add-requires-2
add-requires-2 c =
    ap (λ (f : FilesState). f.places (codes "half")) c.in_ok-add.ensures.ok
    ∙ ap (λ (m : FilesInMemory). place_in m.files (codes "half")) c.new-files.ensures
