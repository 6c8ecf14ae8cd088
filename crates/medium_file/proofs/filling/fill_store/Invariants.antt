use Rattle.std.proofs.Common.{◌≡◌}
use Rattle.scsi_model.specs.Medium.{repeated}
use Rattle.edge.specs.Stores.{Puts}
use Rattle.handler_trait.specs.OverStore.{base_of}
use Rattle.medium_file.proofs.StoreCalls.{FillsOn}
use Rattle.medium_file.proofs.filling.fill_store.Given as goal

abbrev pub invariant-loop-k : goal.invariant-loop-k
invariant-loop-k g l = record {
  size : (g.S.Store.state l.store).size ≡ (g.S.Store.state l.fn.store).size;
  base : FillsOn l.at l.block l.k (base_of (g.S.Store.state l.fn.store) l.fn.free) (base_of (g.S.Store.state l.store) l.free);
  bytes : Puts l.at (repeated l.k l.block) (g.S.Store.state l.fn.store).bytes (g.S.Store.state l.store).bytes;
  faults : g.S.Store.faults l.store ≡ g.S.Store.faults l.fn.store;
}
