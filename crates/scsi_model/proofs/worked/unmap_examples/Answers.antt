use Rattle.scsi_model.proofs.Computed.{two_ranges, header_of_two}
use Rattle.scsi_model.proofs.worked.unmap_examples.Goals as goal

pub returns : goal.returns
returns c = record { ranges = two_ranges; header = header_of_two }
