use Rattle.std.proofs.Common.{◌≡◌, ◌+◌, ◌≤◌, take, ◌++◌}
use Rattle.tcmu_model.specs.BlockLists.{free_from}
use Rattle.data_blocks.proofs.Several.{TookSo}
use Rattle.data_blocks.proofs.blocks.Blocks.take.Given as goal

abbrev pub invariant-loop : goal.invariant-loop
invariant-loop l =
    let least = free_from l.fn.self.held 0 l.fn.self.limit in
    record {
      so_far : TookSo l.fn.self l.counter least l.self;
      appended : l.into.items ≡ l.fn.into.items ++ take l.counter least;
      room : l.fn.into.spare ≤ l.into.spare + l.counter;
    }
