use Rattle.std.proofs.Common.{◌≡◌, ◌+◌, ◌%◌, ◌++◌, drop, take}
use Rattle.std.specs.List.{sum_by}
use Rattle.region_model.specs.Sides.{Recorded}
use Rattle.ring_laws.specs.PictureRead.{items_read}
use Rattle.ring_path.specs.Dumped.{HaveCounts}
use Rattle.ring_path.proofs.state.showing_items.items_of.Given as goal

abbrev pub invariant-loop-index : goal.invariant-loop-index
invariant-loop-index l = record {
  told : l.items.items ++ items_read l.front l.target.settings.ring ((l.target.cleaned + sum_by (λ (y : Recorded). y.len) (take l.index l.target.items)) % l.target.settings.ring) (drop l.index l.target.items)
      ≡ items_read l.front l.target.settings.ring l.target.cleaned l.target.items;
  counts : HaveCounts l.front l.target.settings.ring ((l.target.cleaned + sum_by (λ (y : Recorded). y.len) (take l.index l.target.items)) % l.target.settings.ring) (drop l.index l.target.items);
}
