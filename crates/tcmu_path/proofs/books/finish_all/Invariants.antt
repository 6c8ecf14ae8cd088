use Rattle.std.proofs.Common.{◌≡◌, ◌≤◌, ◌+◌, drop, length}
use Rattle.tcmu_model.specs.Events.{finish_all}
use Rattle.tcmu_path.specs.Changing.{books_of}
use Rattle.tcmu_path.specs.Room.{to_log, blocks_of_commands, to_place}
use Rattle.tcmu_path.proofs.books.finish_all.Given as goal

abbrev pub invariant-loop-serial : goal.invariant-loop-serial
invariant-loop-serial l = record {
  rest : finish_all l.settings.flags.read_len (books_of l.rows l.log) (drop l.serial-index l.serials) ≡ finish_all l.settings.flags.read_len (books_of l.fn.rows l.fn.log) l.serials;
  room : to_log l.rows.items ≤ l.log.spare;
  spent : to_log l.rows.items + l.fn.log.spare ≤ l.log.spare + to_log l.fn.rows.items;
  held : l.held ≡ blocks_of_commands l.settings.pages l.rows.items;
  less : l.held ≤ l.fn.held;
  to_place : to_place l.rows.items ≤ to_place l.fn.rows.items;
  grows : length l.fn.log.items ≤ length l.log.items;
}
