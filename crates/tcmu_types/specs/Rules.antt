-- The rules that command descriptor blocks, commands, replies and settings keep.
use Rattle.std.specs.Prelude.{◌≡◌, ◌≢◌, ℕ, ◌*◌, ◌%◌, ◌<◌, ◌≤◌, ◌||◌, ◌&&◌, ◌==◌, nat_lt, nat_le, Bool, List, length, IfSome, is_some, IsTrue, if◌then◌else◌, slice_index}
use Rattle.tcmu_types.specs.Naming.{is_name}
use Rattle.tcmu_types.specs.Data.{CommandData, ReplyData, SettingsData}

-- ==== command descriptor blocks

-- the length of a block, by the group in the top three bits of its operation code: group 0 has 6 bytes, 1 and 2 have 10,
-- 4 has 16, 5 has 12, and 3, 6 and 7 are carried as 16
abbrev pub group_length : ℕ → ℕ
group_length code =
    if nat_lt code 0x20 then 6 else (if nat_lt code 0x60 then 10 else (if nat_lt code 0xa0 then 16 else (if nat_lt code 0xc0 then 12 else 16)))

-- a block has the length of its group
pub record IsCdb (cdb : List ℕ) : Type 0 where
  pub some : 0 < length cdb
  pub group : length cdb ≡ group_length (slice_index cdb 0)

-- the length that a block of these bytes should have, 0 where there is no first byte
abbrev pub wanted_length : List ℕ → ℕ
wanted_length cdb = if length cdb == 0 then 0 else group_length (slice_index cdb 0)

-- the operation codes whose commands carry data out: WRITE(6), (10), (12), (16), WRITE SAME(10), (16), UNMAP,
-- COMPARE AND WRITE, PERSISTENT RESERVE OUT
abbrev pub is_data_out : ℕ → Bool
is_data_out code =
    (code == 0x0a) || (code == 0x2a) || (code == 0xaa) || (code == 0x8a) || (code == 0x41) || (code == 0x93) || (code == 0x42) || (code == 0x89) || (code == 0x5f)

abbrev pub takes_payload : List ℕ → Bool
takes_payload cdb = is_data_out (slice_index cdb 0)

-- ==== commands

-- data goes in the direction of the operation code alone
abbrev pub is_directed : CommandData → Bool
is_directed c = if takes_payload c.cdb then c.in_len == 0 else length c.sent == 0

-- and is at most 1,048,576 bytes
abbrev pub is_sendable : CommandData → Bool
is_sendable c = is_directed c && nat_le (length c.sent) 1048576 && nat_le c.in_len 1048576

-- what every command keeps
pub record IsCommand (c : CommandData) : Type 0 where
  pub init : IsTrue (is_name c.init)
  pub cdb : IsCdb c.cdb
  pub directed : IsTrue (is_directed c)
  pub sent : length c.sent ≤ 1048576
  pub in_len : c.in_len ≤ 1048576

-- how many bytes a command carries
abbrev pub payload_length : CommandData → ℕ
payload_length c = if takes_payload c.cdb then length c.sent else c.in_len

-- ==== replies

-- what every reply keeps: a status of one byte, sense data exactly with CHECK CONDITION, with a key below 16, and bytes only with GOOD
pub record IsReply (r : ReplyData) : Type 0 where
  pub byte : r.status < 256
  pub sense : is_some r.sense ≡ (r.status == 2)
  pub key : IfSome r.sense (λ s. s.key < 16)
  pub good : r.status ≢ 0 → length r.payload ≡ 0

-- ==== settings

-- a ring is whole pages, up to 4 MiB
pub record IsRingSize (n : ℕ) : Type 0 where
  pub least : 4096 ≤ n
  pub most : n ≤ 4194304
  pub pages : n % 4096 ≡ 0

-- the limits that every device keeps: ring and data area stay below 21 MiB
pub record IsSettings (s : SettingsData) : Type 0 where
  pub ring : IsRingSize s.ring
  pub blocks_low : 1 ≤ s.blocks
  pub pages_low : 1 ≤ s.pages
  pub pages_high : s.pages ≤ 16
  pub area : s.blocks * s.pages ≤ 4096
  pub timeout : s.timeout ≤ 1000000
  pub qfull : s.qfull ≤ 1000000
