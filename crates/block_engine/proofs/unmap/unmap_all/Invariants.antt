use Rattle.std.proofs.Common.{◌≡◌, false, drop}
use Rattle.std.specs.List.{list_any}
use Rattle.scsi_model.specs.Scsi.{is_beyond}
use Rattle.block_engine.proofs.Unmapping.{UnmapsOn}
use Rattle.block_engine.proofs.unmap.unmap_all.Given as goal

abbrev pub invariant-loop-extent : goal.invariant-loop-extent
invariant-loop-extent g l =
    let rest = drop l.extent-index l.extents in
    let old = g.M.Medium.state l.initial.medium in
    let now = g.M.Medium.state l.medium in
    record {
      goes_on : UnmapsOn l.extents old rest now;
      inside : list_any (is_beyond now.blocks) rest ≡ false;
      calm : g.M.Medium.faults l.medium ≡ g.M.Medium.faults l.initial.medium;
    }
