-- A command that is added behind all others.
use Rattle.std.specs.Prelude.{◌≡◌, ℕ, ◌≤◌, false, List, [], ◌∷◌, ◌++◌}
use Rattle.std.specs.List.{list_any}
use Rattle.tcmu_model.specs.BlockLists.{least_free}
use Rattle.region_model.specs.Pending.{PendingData}
use Rattle.region_model.specs.Represents.{has_id}
use Rattle.region_model.specs.TargetSteps.{blocks_held}
use Rattle.target_side.specs.declared.entrant.Entrant.{Entrant}
use Rattle.target_side.specs.HeldRows.{HeldRows}

-- the least free blocks
abbrev pub blocks_for_next : HeldRows → ℕ → List ℕ
blocks_for_next h count = least_free h.limit (blocks_held h.rows) count

abbrev pub pending_of_entrant : HeldRows → Entrant → PendingData
pending_of_entrant h e =
    record {
      serial = e.serial;
      init = e.init;
      tag = e.tag;
      in_len = e.in_len;
      blocks = blocks_for_next h e.count;
      deadline = e.deadline;
      expired = false;
      buffer = e.buffer.items;
    }

-- it stands behind all others, under an id that none of them has
pub record Added (before : HeldRows) (e : Entrant) (id : ℕ) (after : HeldRows) : Type 0 where
  pub rows : after ≡ record before { rows = before.rows ++ record { id = id; pending = pending_of_entrant before e } ∷ [] }
  pub low : 1 ≤ id
  pub high : id ≤ 65535
  pub fresh : list_any (has_id id) before.rows ≡ false
