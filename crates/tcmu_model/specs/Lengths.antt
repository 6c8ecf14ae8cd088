-- The lengths of a command: its data blocks and its entry in the ring.
use Rattle.std.specs.Prelude.{ℕ, ◌+◌, ◌-◌, ◌*◌, ◌/◌, max, length}
use Rattle.tcmu_types.specs.Data.{CommandData}
use Rattle.tcmu_types.specs.Rules.{payload_length}

-- the bytes of a data block of so many pages
abbrev pub block_size : ℕ → ℕ
block_size pages = 4096 * pages

-- how many data blocks hold n bytes
abbrev pub blocks_for : ℕ → ℕ → ℕ
blocks_for pages n = (n + (block_size pages - 1)) / block_size pages

abbrev pub blocks_of : ℕ → CommandData → ℕ
blocks_of pages c = blocks_for pages (payload_length c)

-- the next multiple of 8
abbrev pub round_up : ℕ → ℕ
round_up n = (n + 7) / 8 * 8

-- one iovec slot of 16 bytes a block behind 48 bytes, but at least 112, and then the command descriptor block
abbrev pub entry_length : ℕ → CommandData → ℕ
entry_length pages c = max 112 (48 + 16 * blocks_of pages c) + round_up (length c.cdb)

-- 32 bytes, and then an id of 2 bytes for each command that is named
abbrev pub tmr_length : ℕ → ℕ
tmr_length count = round_up (32 + 2 * count)
