-- What a command descriptor block asks: for each operation code that is served, the rules of its fields and the operation (SPC-4
-- and SBC-3, by the names of the commands). Numbers stand with the highest byte first; bytes and bits that are not named here are
-- not looked at.
use Rattle.std.specs.Prelude.{ℕ, ◌+◌, ◌*◌, ◌%◌, ◌<◌, Bool, not, ◌||◌, ◌==◌, nat_lt, nat_le, List, [], ◌∷◌, slice_index, Option, Some, None, IfSome, IsTrue, Result, Ok, Err, if◌then◌else◌}
use Rattle.byteorder.specs.Endian.{big_from}
use Rattle.scsi_model.specs.declared.op.Op.{Op}
use Rattle.scsi_model.specs.declared.op.Op.TheVariants.{TestUnitReady, RequestSense, Inquiry, ModeSense, Capacity10, Capacity16, ReportLuns, Read, Write, Sync, WriteSame, Unmap, CompareWrite}
use Rattle.scsi_model.specs.declared.op.CdbFault.{CdbFault}
use Rattle.scsi_model.specs.declared.op.CdbFault.TheVariants.{Opcode, Field}

-- ==== rules of fields

-- a byte, and whether a field in it breaks its rule
pub record FieldRule : Type 0 where
  pub at : ℕ
  pub broken : Bool

abbrev pub rule : ℕ → Bool → FieldRule
rule at broken = record { at = at; broken = broken }

-- the lowest bit, the low five bits, or the high three bits of byte 1 are 0
abbrev pub no_low_bit : List ℕ → FieldRule
no_low_bit cdb = rule 1 (slice_index cdb 1 % 2 == 1)

abbrev pub no_low_bits : List ℕ → FieldRule
no_low_bits cdb = rule 1 (not (slice_index cdb 1 % 32 == 0))

abbrev pub no_high_bits : List ℕ → FieldRule
no_high_bits cdb = rule 1 (nat_le 32 (slice_index cdb 1))

-- the count of WRITE SAME, from this byte on, is 1 to 2048 blocks
abbrev pub same_count : ℕ → ℕ → FieldRule
same_count at count = rule at ((count == 0) || nat_lt 2048 count)

-- supported pages, unit serial number, device identification, block limits
abbrev pub is_vpd_page : ℕ → Bool
is_vpd_page page = (page == 0x00) || (page == 0x80) || (page == 0x83) || (page == 0xb0)

-- caching, control, all pages
abbrev pub is_mode_page : ℕ → Bool
is_mode_page page = (page == 0x08) || (page == 0x0a) || (page == 0x3f)

-- INQUIRY asks for a page of vital product data where EVPD, the lowest bit of byte 1, is set, and then for one that there is
abbrev pub asks_page : List ℕ → Bool
asks_page cdb = slice_index cdb 1 % 2 == 1

abbrev pub asked_page : List ℕ → Option ℕ
asked_page cdb = if asks_page cdb then Some (slice_index cdb 2) else None

abbrev pub inquiry_page : List ℕ → FieldRule
inquiry_page cdb = rule 2 (if asks_page cdb then not (is_vpd_page (slice_index cdb 2)) else not (slice_index cdb 2 == 0))

-- ==== ranges of logical blocks, by the length of the block

-- in 6 bytes a count of 0 is 256
abbrev pub count6 : List ℕ → ℕ
count6 cdb = if slice_index cdb 4 == 0 then 256 else slice_index cdb 4

abbrev pub range6 : (ℕ → ℕ → Op) → List ℕ → Op
range6 op cdb = op (65536 * (slice_index cdb 1 % 32) + big_from 2 2 cdb) (count6 cdb)

abbrev pub range10 : (ℕ → ℕ → Op) → List ℕ → Op
range10 op cdb = op (big_from 2 4 cdb) (big_from 7 2 cdb)

abbrev pub range12 : (ℕ → ℕ → Op) → List ℕ → Op
range12 op cdb = op (big_from 2 4 cdb) (big_from 6 4 cdb)

abbrev pub range16 : (ℕ → ℕ → Op) → List ℕ → Op
range16 op cdb = op (big_from 2 8 cdb) (big_from 10 4 cdb)

-- ==== the table

-- an operation code, the rules of its fields from the lowest byte on, and the operation
pub record Row : Type 0 where
  pub code : ℕ
  pub rules : List FieldRule
  pub op : Op

abbrev pub row : ℕ → List FieldRule → Op → Row
row code rules op = record { code = code; rules = rules; op = op }

abbrev pub rows : List ℕ → List Row
rows cdb =
    row 0x00 [] TestUnitReady
    ∷ row 0x03 (no_low_bit cdb ∷ []) (RequestSense (slice_index cdb 4))
    ∷ row 0x12 (inquiry_page cdb ∷ []) (Inquiry (asked_page cdb) (big_from 3 2 cdb))
    ∷ row 0x1a (rule 2 (not (is_mode_page (slice_index cdb 2))) ∷ rule 3 (not (slice_index cdb 3 == 0)) ∷ []) (ModeSense (slice_index cdb 2) (slice_index cdb 4))
    ∷ row 0x25 [] Capacity10
    ∷ row 0x9e (rule 1 (not (slice_index cdb 1 % 32 == 0x10)) ∷ []) (Capacity16 (big_from 10 4 cdb))
    ∷ row 0xa0 (rule 2 (nat_lt 2 (slice_index cdb 2)) ∷ []) (ReportLuns (slice_index cdb 2) (big_from 6 4 cdb))
    ∷ row 0x08 [] (range6 Read cdb)
    ∷ row 0x28 (no_high_bits cdb ∷ []) (range10 Read cdb)
    ∷ row 0xa8 (no_high_bits cdb ∷ []) (range12 Read cdb)
    ∷ row 0x88 (no_high_bits cdb ∷ []) (range16 Read cdb)
    ∷ row 0x0a [] (range6 Write cdb)
    ∷ row 0x2a (no_high_bits cdb ∷ []) (range10 Write cdb)
    ∷ row 0xaa (no_high_bits cdb ∷ []) (range12 Write cdb)
    ∷ row 0x8a (no_high_bits cdb ∷ []) (range16 Write cdb)
    ∷ row 0x35 [] (range10 Sync cdb)
    ∷ row 0x91 [] (range16 Sync cdb)
    ∷ row 0x41 (no_low_bits cdb ∷ same_count 7 (big_from 7 2 cdb) ∷ []) (range10 WriteSame cdb)
    ∷ row 0x93 (no_low_bits cdb ∷ same_count 10 (big_from 10 4 cdb) ∷ []) (range16 WriteSame cdb)
    ∷ row 0x42 (no_low_bit cdb ∷ []) (Unmap (big_from 7 2 cdb))
    ∷ row 0x89 (no_high_bits cdb ∷ []) (CompareWrite (big_from 2 8 cdb) (slice_index cdb 13))
    ∷ []

-- the operation, unless a rule is broken: then the byte of the first such rule
abbrev pub ruled : List FieldRule → Op → Result Op CdbFault
ruled [] op = Ok op
ruled (r ∷ rest) op = if r.broken then Err (Field r.at) else ruled rest op

-- the row of a code decides, and none refuses the code
abbrev pub looked_up : ℕ → List Row → Result Op CdbFault
looked_up code [] = Err (Opcode code)
looked_up code (r ∷ rest) = if code == r.code then ruled r.rules r.op else looked_up code rest

unfoldable pub decoded : List ℕ → Result Op CdbFault
decoded cdb = looked_up (slice_index cdb 0) (rows cdb)

-- what holds of each operation that is decoded
abbrev pub IsDecoded : Op → Type 0
IsDecoded (Inquiry page limit) = IfSome page (λ p. IsTrue (is_vpd_page p))
IsDecoded (ModeSense page limit) = IsTrue (is_mode_page page)
IsDecoded (WriteSame lba count) = 0 < count
IsDecoded (Unmap length) = length < 65536
IsDecoded _ = Unit {0}
