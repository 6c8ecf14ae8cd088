-- What the target shows of itself.
use Rattle.std.specs.Prelude.{length}
use Rattle.std.specs.List.{count_by}
use Rattle.region_model.specs.Sides.{TargetState}
use Rattle.region_model.specs.TargetSteps.{blocks_held, can_enter, head_in, used_in}
use Rattle.target_table.specs.Rows.{is_expired}
use Rattle.target_side.specs.RingRecord.{RingRecord}
use Rattle.target_side.specs.declared.numbers.TargetNumbers.{TargetNumbers}

abbrev pub ring_of : TargetState → RingRecord
ring_of t = record { size = t.settings.ring; cleaned = t.cleaned; items = t.items }

abbrev pub numbers_of : TargetState → TargetNumbers
numbers_of t =
    record {
      now = t.now;
      blocked = t.blocked;
      accepted = t.accepted;
      head = head_in t;
      used = used_in t;
      cleaned = t.cleaned;
      laid = t.laid;
      cleared = t.cleared;
      pending = length t.rows;
      expired = count_by is_expired t.rows;
      held = length (blocks_held t.rows);
      delayed = length t.delayed;
      enters = can_enter t t.delayed;
    }
