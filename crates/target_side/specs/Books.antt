-- The target's books as contracts see them, and what their numbers keep.
use Rattle.std.specs.Prelude.{◌≡◌, ℕ, ◌+◌, ◌^◌, ◌≤◌, not, Bool, List, length, Option}
use Rattle.std.specs.List.{count_by}
use Rattle.tcmu_types.specs.Data.{DoneData}
use Rattle.tcmu_types.specs.Rules.{IsSettings}
use Rattle.tcmu_types.specs.declared.settings.Flags.{Flags}
use Rattle.tcmu_model.specs.Device.{Delayed}
use Rattle.region_model.specs.Sides.{PendingRow, TargetState}
use Rattle.target_side.specs.declared.entries.Entries.{Entries}

abbrev pub books_of : Flags → ℕ → ℕ → ℕ → Bool → ℕ → Entries → List Delayed → ℕ → ℕ → Option ℕ → List DoneData → TargetState
books_of flags timeout qfull now blocked accepted entries delayed laid cleared broken log =
    record {
      settings = record {
        ring = entries.places.ring.size;
        blocks = entries.commands.limit;
        flags = flags;
        timeout = timeout;
        qfull = qfull;
        pages = entries.pages;
      };
      now = now;
      blocked = blocked;
      accepted = accepted;
      rows = entries.commands.rows;
      delayed = delayed;
      items = entries.places.ring.items;
      cleaned = entries.places.ring.cleaned;
      laid = laid;
      cleared = cleared;
      broken = broken;
      log = log;
    }

-- its completion is still to be logged
abbrev pub is_unlogged : PendingRow → Bool
is_unlogged e = not e.pending.expired

abbrev pub to_log : List PendingRow → ℕ
to_log rows = count_by is_unlogged rows

pub record IsBooks (t : TargetState) (spare : ℕ) : Type 0 where
  pub settings : IsSettings t.settings
  -- the moment stops there
  pub moment : t.now ≤ 2 ^ 63
  -- as many commands were laid as are cleared and pending, and each of them was accepted
  pub counted : t.laid ≡ t.cleared + length t.rows
  pub accepted : t.laid + length t.delayed ≤ t.accepted
  pub few : t.accepted ≤ 2 ^ 63
  -- each completion that is still to come has its room
  pub room : to_log t.rows + length t.delayed ≤ spare
