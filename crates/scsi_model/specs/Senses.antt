-- Sense data: a sense key, an additional sense code and its qualifier, by the names of SPC-4 (sense key and additional sense code
-- assignments).
use Rattle.std.specs.Prelude.{ℕ}
use Rattle.tcmu_types.specs.Data.{SenseData}

abbrev pub sense_with : ℕ → ℕ → ℕ → SenseData
sense_with key asc ascq = record { key = key; asc = asc; ascq = ascq }

-- ==== NO SENSE

abbrev pub no_additional_sense_information : SenseData
no_additional_sense_information = sense_with 0x0 0x00 0x00

-- ==== MEDIUM ERROR

abbrev pub unrecovered_read_error : SenseData
unrecovered_read_error = sense_with 0x3 0x11 0x00

abbrev pub write_error : SenseData
write_error = sense_with 0x3 0x0c 0x00

-- ==== ILLEGAL REQUEST

abbrev pub parameter_list_length_error : SenseData
parameter_list_length_error = sense_with 0x5 0x1a 0x00

abbrev pub invalid_command_operation_code : SenseData
invalid_command_operation_code = sense_with 0x5 0x20 0x00

abbrev pub logical_block_address_out_of_range : SenseData
logical_block_address_out_of_range = sense_with 0x5 0x21 0x00

abbrev pub invalid_field_in_cdb : SenseData
invalid_field_in_cdb = sense_with 0x5 0x24 0x00

abbrev pub invalid_field_in_parameter_list : SenseData
invalid_field_in_parameter_list = sense_with 0x5 0x26 0x00

abbrev pub invalid_release_of_persistent_reservation : SenseData
invalid_release_of_persistent_reservation = sense_with 0x5 0x26 0x04

-- ==== DATA PROTECT

abbrev pub write_protected : SenseData
write_protected = sense_with 0x7 0x27 0x00

-- ==== MISCOMPARE

abbrev pub miscompare_during_verify_operation : SenseData
miscompare_during_verify_operation = sense_with 0xe 0x1d 0x00
