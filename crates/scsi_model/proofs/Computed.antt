-- The definitions give what the worked examples say.
use Rattle.std.proofs.Common.{refl}
use Rattle.scsi_model.specs.Decoding.{decoded}
use Rattle.scsi_model.specs.Pages.{standard_inquiry, vpd_page, mode_sense, capacity10, capacity16, report_luns}
use Rattle.scsi_model.specs.Examples.{list_of_two, ReadOfSix, ReadOfTen, ReadOfSixteen, WriteOfTen, InquiryOfStandard, InquiryOfPage, CodeNotServed, PageWithoutBit, SubpageAsked, ProtectionAsked, StandardData, SupportedPages, UnitSerialNumber, DeviceIdentification, BlockLimits, CachingData, AllModeData, CapacityOfTen, CapacityTooLarge, CapacityOfSixteen, OneUnit, NoWellKnownUnit, SenseOfCode, RefusesCode, RefusesField, RefusesRange, ReadsNothingAtEnd, RefusesBeyondEnd, RefusesWrite, RefusesLengthFirst, CutToAllocation, CutToAsked, TellsCapacity, TwoRanges, HeaderOfTwo}

-- ==== what blocks ask

pub read_of_six : ReadOfSix
unfolding decoded
read_of_six = refl

pub read_of_ten : ReadOfTen
unfolding decoded
read_of_ten = refl

pub read_of_sixteen : ReadOfSixteen
unfolding decoded
read_of_sixteen = refl

pub write_of_ten : WriteOfTen
unfolding decoded
write_of_ten = refl

pub inquiry_of_standard : InquiryOfStandard
unfolding decoded
inquiry_of_standard = refl

pub inquiry_of_page : InquiryOfPage
unfolding decoded
inquiry_of_page = refl

pub code_not_served : CodeNotServed
unfolding decoded
code_not_served = refl

pub page_without_bit : PageWithoutBit
unfolding decoded
page_without_bit = refl

pub subpage_asked : SubpageAsked
unfolding decoded
subpage_asked = refl

pub protection_asked : ProtectionAsked
unfolding decoded
protection_asked = refl

-- ==== data of a device

pub standard_data : StandardData
unfolding standard_inquiry vpd_page mode_sense
standard_data = refl

pub supported_pages : SupportedPages
unfolding standard_inquiry vpd_page mode_sense
supported_pages = refl

pub unit_serial_number : UnitSerialNumber
unfolding standard_inquiry vpd_page mode_sense
unit_serial_number = refl

pub device_identification : DeviceIdentification
unfolding standard_inquiry vpd_page mode_sense
device_identification = refl

pub block_limits : BlockLimits
unfolding standard_inquiry vpd_page mode_sense
block_limits = refl

pub caching_data : CachingData
unfolding standard_inquiry vpd_page mode_sense
caching_data = refl

pub all_mode_data : AllModeData
unfolding standard_inquiry vpd_page mode_sense
all_mode_data = refl

-- ==== numbers and sense data

pub capacity_of_ten : CapacityOfTen
unfolding capacity10 capacity16 report_luns
capacity_of_ten = refl

pub capacity_too_large : CapacityTooLarge
unfolding capacity10 capacity16 report_luns
capacity_too_large = refl

pub capacity_of_sixteen : CapacityOfSixteen
unfolding capacity10 capacity16 report_luns
capacity_of_sixteen = refl

pub one_unit : OneUnit
unfolding capacity10 capacity16 report_luns
one_unit = refl

pub no_well_known_unit : NoWellKnownUnit
unfolding capacity10 capacity16 report_luns
no_well_known_unit = refl

pub sense_of_code : SenseOfCode
unfolding capacity10 capacity16 report_luns
sense_of_code = refl

-- ==== replies

pub refuses_code : RefusesCode
unfolding decoded vpd_page capacity10
refuses_code = record { may = λ below. (refl, refl); other = λ below reply after serves. serves }

pub refuses_field : RefusesField
unfolding decoded vpd_page capacity10
refuses_field = record { may = λ below. (refl, refl); other = λ below reply after serves. serves }

pub refuses_range : RefusesRange
unfolding decoded vpd_page capacity10
refuses_range = record { may = λ below. (refl, refl); other = λ below reply after serves. serves }

pub reads_nothing_at_end : ReadsNothingAtEnd
unfolding decoded vpd_page capacity10
reads_nothing_at_end = record { may = λ below. (refl, refl); other = λ below reply after serves. serves }

pub refuses_beyond_end : RefusesBeyondEnd
unfolding decoded vpd_page capacity10
refuses_beyond_end = record { may = λ below. (refl, refl); other = λ below reply after serves. serves }

pub refuses_write : RefusesWrite
unfolding decoded vpd_page capacity10
refuses_write = record { may = λ below. (refl, refl); other = λ below reply after serves. serves }

pub refuses_length_first : RefusesLengthFirst
unfolding decoded vpd_page capacity10
refuses_length_first = record { may = λ below. (refl, refl); other = λ below reply after serves. serves }

pub cut_to_allocation : CutToAllocation
unfolding decoded vpd_page capacity10
cut_to_allocation = record { may = λ below. (refl, refl); other = λ below reply after serves. serves }

pub cut_to_asked : CutToAsked
unfolding decoded vpd_page capacity10
cut_to_asked = record { may = λ below. (refl, refl); other = λ below reply after serves. serves }

pub tells_capacity : TellsCapacity
unfolding decoded vpd_page capacity10
tells_capacity = record { may = λ below. (refl, refl); other = λ below reply after serves. serves }

-- ==== lists of UNMAP

pub two_ranges : TwoRanges
unfolding list_of_two
two_ranges = refl

pub header_of_two : HeaderOfTwo
unfolding list_of_two
header_of_two = refl
