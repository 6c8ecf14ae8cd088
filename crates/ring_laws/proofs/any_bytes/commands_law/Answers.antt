use Rattle.ring_laws.proofs.target_over_any_bytes.AnyCommands.{of_opening, rows_of_opening}
use Rattle.ring_laws.proofs.any_bytes.commands_law.Goals as goal

pub returns : goal.returns
returns c =
    record {
      count = λ s calls t k. (of_opening s calls t k).count;
      rows = rows_of_opening;
      delayed = λ s calls t k. (of_opening s calls t k).delayed;
      log = λ s calls t k. (of_opening s calls t k).log;
    }
