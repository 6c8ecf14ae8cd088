use Rattle.scsi_model.proofs.Computed.{standard_data, supported_pages, unit_serial_number, device_identification, block_limits, caching_data, all_mode_data}
use Rattle.scsi_model.proofs.worked.page_examples.Goals as goal

pub returns : goal.returns
returns c = record { standard = standard_data; supported = supported_pages; serial_number = unit_serial_number; identification = device_identification; block_limits = block_limits; caching = caching_data; all_modes = all_mode_data }
