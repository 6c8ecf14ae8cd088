-- What placing answers and finishing commands change: the unfinished commands, with the answers placed or with the log.
use Rattle.std.specs.Prelude.{ℕ}
use Rattle.tcmu_types.specs.Data.{Spared, DoneData}
use Rattle.tcmu_model.specs.Device.{Unfinished, DeviceState}
use Rattle.tcmu_model.specs.Events.{Placing, Books}

-- the answers placed, with the unfinished commands
abbrev pub placing_of : Spared ℕ → Spared Unfinished → Placing
placing_of placed rows = record { placed = placed.items; unfinished = rows.items }

-- the unfinished commands, with the log
abbrev pub books_of : Spared Unfinished → Spared DoneData → Books
books_of rows log = record { unfinished = rows.items; log = log.items }

-- the device with these answers placed and these commands unfinished
abbrev pub with_placing : DeviceState → Placing → DeviceState
with_placing d p = record d { placed = p.placed; unfinished = p.unfinished }
