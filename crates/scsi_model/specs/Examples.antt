-- Worked examples: what command descriptor blocks ask, the bytes that describe a device, and what requests get that make no call of
-- their medium; byte by byte, as SPC-4 and SBC-3 lay them out.
use Rattle.std.specs.Prelude.{◌≡◌, ℕ, Bool, true, false, List, [], ◌∷◌, ◌++◌, replicate, Some, None, Ok, Err}
use Rattle.tcmu_types.specs.Data.{ReplyData}
use Rattle.tcmu_types.specs.SenseBytes.{fixed_sense}
use Rattle.tcmu_model.specs.MediumState.{Below, MediumState}
use Rattle.tcmu_model.specs.Steps.{Asked}
use Rattle.scsi_model.specs.Decoding.{decoded}
use Rattle.scsi_model.specs.Medium.{opened_medium}
use Rattle.scsi_model.specs.Pages.{standard_inquiry, vpd_page, mode_sense, capacity10, capacity16, report_luns}
use Rattle.scsi_model.specs.Scsi.{Serves, good, refused, extents_of, has_bad_lengths, fault_sense}
use Rattle.scsi_model.specs.Senses.{sense_with}
use Rattle.scsi_model.specs.declared.op.CdbFault.TheVariants as fault
use Rattle.scsi_model.specs.declared.op.Op.TheVariants as op

-- ==== what blocks ask

-- READ(6): 21 bits of an address, and a count of 0, which is 256
abbrev pub ReadOfSix : Type 0
ReadOfSix = decoded (0x08 ∷ 0xff ∷ 0x12 ∷ 0x34 ∷ 0 ∷ 0 ∷ []) ≡ Ok (op.Read 0x1f1234 256)

-- READ(10): the address in bytes 2 to 5, the count in bytes 7 and 8
abbrev pub ReadOfTen : Type 0
ReadOfTen = decoded (0x28 ∷ 0x1f ∷ 1 ∷ 2 ∷ 3 ∷ 4 ∷ 0xff ∷ 5 ∷ 6 ∷ 0 ∷ []) ≡ Ok (op.Read 0x01020304 0x0506)

-- READ(16): the address in bytes 2 to 9, the count in bytes 10 to 13
abbrev pub ReadOfSixteen : Type 0
ReadOfSixteen = decoded (0x88 ∷ 0 ∷ 0 ∷ 0 ∷ 0 ∷ 1 ∷ 2 ∷ 3 ∷ 4 ∷ 5 ∷ 0 ∷ 1 ∷ 0 ∷ 2 ∷ 0 ∷ 0 ∷ []) ≡ Ok (op.Read 0x0102030405 65538)

-- WRITE(10) of two blocks at 3
abbrev pub WriteOfTen : Type 0
WriteOfTen = decoded (0x2a ∷ 0 ∷ 0 ∷ 0 ∷ 0 ∷ 3 ∷ 0 ∷ 0 ∷ 2 ∷ 0 ∷ []) ≡ Ok (op.Write 3 2)

-- INQUIRY without a page, and with page 83h
abbrev pub InquiryOfStandard : Type 0
InquiryOfStandard = decoded (0x12 ∷ 0 ∷ 0 ∷ 1 ∷ 2 ∷ 0 ∷ []) ≡ Ok (op.Inquiry None 258)

abbrev pub InquiryOfPage : Type 0
InquiryOfPage = decoded (0x12 ∷ 1 ∷ 0x83 ∷ 0 ∷ 36 ∷ 0 ∷ []) ≡ Ok (op.Inquiry (Some 0x83) 36)

-- FORMAT UNIT is not served
abbrev pub CodeNotServed : Type 0
CodeNotServed = decoded (0x04 ∷ 0 ∷ 0 ∷ 0 ∷ 0 ∷ 0 ∷ []) ≡ Err (fault.Opcode 0x04)

-- INQUIRY of a page without EVPD; MODE SENSE(6) of a subpage; READ(10) with protection information
abbrev pub PageWithoutBit : Type 0
PageWithoutBit = decoded (0x12 ∷ 0 ∷ 0x83 ∷ 0 ∷ 36 ∷ 0 ∷ []) ≡ Err (fault.Field 2)

abbrev pub SubpageAsked : Type 0
SubpageAsked = decoded (0x1a ∷ 0 ∷ 0x3f ∷ 1 ∷ 36 ∷ 0 ∷ []) ≡ Err (fault.Field 3)

abbrev pub ProtectionAsked : Type 0
ProtectionAsked = decoded (0x28 ∷ 0x20 ∷ 0 ∷ 0 ∷ 0 ∷ 0 ∷ 0 ∷ 0 ∷ 1 ∷ 0 ∷ []) ≡ Err (fault.Field 1)

-- ==== data of a device named d0

abbrev pub d0 : List ℕ
d0 = 0x64 ∷ 0x30 ∷ []

-- RTLTCMU and a blank
abbrev pub vendor_bytes : List ℕ
vendor_bytes = 0x52 ∷ 0x54 ∷ 0x4c ∷ 0x54 ∷ 0x43 ∷ 0x4d ∷ 0x55 ∷ 0x20 ∷ []

-- ring disk and seven blanks
abbrev pub product_bytes : List ℕ
product_bytes = 0x72 ∷ 0x69 ∷ 0x6e ∷ 0x67 ∷ 0x20 ∷ 0x64 ∷ 0x69 ∷ 0x73 ∷ 0x6b ∷ replicate 7 0x20

-- standard INQUIRY data
abbrev pub StandardData : Type 0
StandardData =
    standard_inquiry
    ≡ (0x00 ∷ 0x00 ∷ 0x05 ∷ 0x02 ∷ 0x1f ∷ 0 ∷ 0 ∷ 0 ∷ []) ++ vendor_bytes ++ product_bytes ++ (0x30 ∷ 0x30 ∷ 0x30 ∷ 0x31 ∷ [])

-- the pages 00h, 80h and 83h
abbrev pub SupportedPages : Type 0
SupportedPages = vpd_page d0 0x00 ≡ 0x00 ∷ 0x00 ∷ 0x00 ∷ 0x04 ∷ 0x00 ∷ 0x80 ∷ 0x83 ∷ 0xb0 ∷ []

abbrev pub UnitSerialNumber : Type 0
UnitSerialNumber = vpd_page d0 0x80 ≡ 0x00 ∷ 0x80 ∷ 0x00 ∷ 0x02 ∷ 0x64 ∷ 0x30 ∷ []

abbrev pub DeviceIdentification : Type 0
DeviceIdentification =
    vpd_page d0 0x83
    ≡ (0x00 ∷ 0x83 ∷ 0x00 ∷ 0x0e ∷ 0x02 ∷ 0x01 ∷ 0x00 ∷ 0x0a ∷ []) ++ vendor_bytes ++ (0x64 ∷ 0x30 ∷ [])

-- page B0h: no WRITE SAME of no blocks, 255 blocks to compare and write, 32,768 blocks and 256 descriptors to unmap, 2048 blocks of
-- one WRITE SAME
abbrev pub BlockLimits : Type 0
BlockLimits =
    vpd_page d0 0xb0
    ≡ (0x00 ∷ 0xb0 ∷ 0x00 ∷ 0x3c ∷ 0x01 ∷ 0xff ∷ []) ++ replicate 14 0 ++ (0 ∷ 0 ∷ 0x80 ∷ 0 ∷ 0 ∷ 0 ∷ 0x01 ∷ 0 ∷ []) ++ replicate 14 0
    ++ (0x08 ∷ 0x00 ∷ []) ++ replicate 20 0

-- ==== capacities, mode data, logical units, sense data

-- of 64 blocks the last is 63
abbrev pub CapacityOfTen : Type 0
CapacityOfTen = capacity10 64 ≡ 0 ∷ 0 ∷ 0 ∷ 0x3f ∷ 0 ∷ 0 ∷ 2 ∷ 0 ∷ []

-- 2^32 + 1 blocks have a last one that 32 bits do not hold
abbrev pub CapacityTooLarge : Type 0
CapacityTooLarge = capacity10 4294967297 ≡ 0xff ∷ 0xff ∷ 0xff ∷ 0xff ∷ 0 ∷ 0 ∷ 2 ∷ 0 ∷ []

abbrev pub CapacityOfSixteen : Type 0
CapacityOfSixteen = capacity16 4294967297 ≡ (0 ∷ 0 ∷ 0 ∷ 1 ∷ 0 ∷ 0 ∷ 0 ∷ 0 ∷ 0 ∷ 0 ∷ 2 ∷ 0 ∷ []) ++ replicate 20 0

-- the caching page of a medium that may be written
abbrev pub CachingData : Type 0
CachingData = mode_sense 0x08 false ≡ (0x17 ∷ 0x00 ∷ 0x00 ∷ 0x00 ∷ 0x08 ∷ 0x12 ∷ []) ++ replicate 18 0

-- both pages of a protected one, whose header has WP
abbrev pub AllModeData : Type 0
AllModeData =
    mode_sense 0x3f true
    ≡ (0x23 ∷ 0x00 ∷ 0x80 ∷ 0x00 ∷ 0x08 ∷ 0x12 ∷ []) ++ replicate 18 0 ++ (0x0a ∷ 0x0a ∷ []) ++ replicate 10 0

-- one logical unit, and no well known one
abbrev pub OneUnit : Type 0
OneUnit = report_luns 0 ≡ (0 ∷ 0 ∷ 0 ∷ 8 ∷ []) ++ replicate 12 0

abbrev pub NoWellKnownUnit : Type 0
NoWellKnownUnit = report_luns 1 ≡ replicate 8 0

-- INVALID COMMAND OPERATION CODE in fixed format
abbrev pub SenseOfCode : Type 0
SenseOfCode =
    fixed_sense (fault_sense (fault.Opcode 0x04))
    ≡ 0x70 ∷ 0 ∷ 0x05 ∷ 0 ∷ 0 ∷ 0 ∷ 0 ∷ 0x0a ∷ 0 ∷ 0 ∷ 0 ∷ 0 ∷ 0x20 ∷ 0x00 ∷ 0 ∷ 0 ∷ 0 ∷ 0 ∷ []

-- ==== replies

-- a medium of 64 logical blocks, whatever they hold
abbrev pub of_64 : Bool → Below → MediumState
of_64 protected below = opened_medium 64 protected [] below

-- no bytes go with a block, and so many may come back
abbrev pub asks : List ℕ → ℕ → Asked
asks cdb in_len = record { cdb = cdb; sent = []; in_len = in_len }

-- a request of d0 may get this reply, leaves the medium as it was, and may get no other
pub record GetsOnly (protected : Bool) (request : Asked) (given : ReplyData) : Type 0 where
  pub may : (below : Below) → Serves d0 (of_64 protected below) request given (of_64 protected below)
  pub other : (below : Below) (reply : ReplyData) (after : MediumState) → Serves d0 (of_64 protected below) request reply after → (reply ≡ given) × (after ≡ of_64 protected below)

-- a code that is not served
abbrev pub RefusesCode : Type 0
RefusesCode = GetsOnly false (asks (0x04 ∷ 0 ∷ 0 ∷ 0 ∷ 0 ∷ 0 ∷ []) 0) (refused (sense_with 0x5 0x20 0x00))

-- a field that breaks its rule
abbrev pub RefusesField : Type 0
RefusesField = GetsOnly false (asks (0x12 ∷ 1 ∷ 0xb1 ∷ 0 ∷ 36 ∷ 0 ∷ []) 36) (refused (sense_with 0x5 0x24 0x00))

-- READ(10) of two blocks at the last one
abbrev pub RefusesRange : Type 0
RefusesRange = GetsOnly false (asks (0x28 ∷ 0 ∷ 0 ∷ 0 ∷ 0 ∷ 63 ∷ 0 ∷ 0 ∷ 2 ∷ 0 ∷ []) 1024) (refused (sense_with 0x5 0x21 0x00))

-- READ(10) of no blocks behind the last one, and one further
abbrev pub ReadsNothingAtEnd : Type 0
ReadsNothingAtEnd = GetsOnly false (asks (0x28 ∷ 0 ∷ 0 ∷ 0 ∷ 0 ∷ 64 ∷ 0 ∷ 0 ∷ 0 ∷ 0 ∷ []) 512) (good [])

abbrev pub RefusesBeyondEnd : Type 0
RefusesBeyondEnd = GetsOnly false (asks (0x28 ∷ 0 ∷ 0 ∷ 0 ∷ 0 ∷ 65 ∷ 0 ∷ 0 ∷ 0 ∷ 0 ∷ []) 512) (refused (sense_with 0x5 0x21 0x00))

-- a protected medium refuses WRITE(10) of no blocks, before the range is looked at and behind the length of the data
abbrev pub RefusesWrite : Type 0
RefusesWrite = GetsOnly true (asks (0x2a ∷ 0 ∷ 0 ∷ 0 ∷ 0 ∷ 65 ∷ 0 ∷ 0 ∷ 0 ∷ 0 ∷ []) 0) (refused (sense_with 0x7 0x27 0x00))

abbrev pub RefusesLengthFirst : Type 0
RefusesLengthFirst = GetsOnly true (asks (0x2a ∷ 0 ∷ 0 ∷ 0 ∷ 0 ∷ 65 ∷ 0 ∷ 0 ∷ 1 ∷ 0 ∷ []) 0) (refused (sense_with 0x5 0x24 0x00))

-- INQUIRY of page 80h is cut to its allocation length, and to what may be answered
abbrev pub CutToAllocation : Type 0
CutToAllocation = GetsOnly false (asks (0x12 ∷ 1 ∷ 0x80 ∷ 0 ∷ 5 ∷ 0 ∷ []) 36) (good (0x00 ∷ 0x80 ∷ 0x00 ∷ 0x02 ∷ 0x64 ∷ []))

abbrev pub CutToAsked : Type 0
CutToAsked = GetsOnly false (asks (0x12 ∷ 1 ∷ 0x80 ∷ 0 ∷ 36 ∷ 0 ∷ []) 4) (good (0x00 ∷ 0x80 ∷ 0x00 ∷ 0x02 ∷ []))

-- READ CAPACITY(10)
abbrev pub TellsCapacity : Type 0
TellsCapacity = GetsOnly false (asks (0x25 ∷ replicate 9 0) 8) (good (0 ∷ 0 ∷ 0 ∷ 0x3f ∷ 0 ∷ 0 ∷ 2 ∷ 0 ∷ []))

-- ==== lists of UNMAP

-- two descriptors: one block at 3, and two at 5
unfoldable pub list_of_two : List ℕ
list_of_two =
    (0x00 ∷ 0x26 ∷ 0x00 ∷ 0x20 ∷ 0 ∷ 0 ∷ 0 ∷ 0 ∷ []) ++ (0 ∷ 0 ∷ 0 ∷ 0 ∷ 0 ∷ 0 ∷ 0 ∷ 3 ∷ 0 ∷ 0 ∷ 0 ∷ 1 ∷ 0 ∷ 0 ∷ 0 ∷ 0 ∷ [])
    ++ (0 ∷ 0 ∷ 0 ∷ 0 ∷ 0 ∷ 0 ∷ 0 ∷ 5 ∷ 0 ∷ 0 ∷ 0 ∷ 2 ∷ 0 ∷ 0 ∷ 0 ∷ 0 ∷ [])

abbrev pub TwoRanges : Type 0
TwoRanges = extents_of list_of_two ≡ record { lba = 3; count = 1 } ∷ record { lba = 5; count = 2 } ∷ []

-- whose header tells both lengths
abbrev pub HeaderOfTwo : Type 0
HeaderOfTwo = has_bad_lengths list_of_two ≡ false
