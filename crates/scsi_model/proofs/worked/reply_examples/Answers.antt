use Rattle.scsi_model.proofs.Computed.{refuses_code, refuses_field, refuses_range, reads_nothing_at_end, refuses_beyond_end, refuses_write, refuses_length_first, cut_to_allocation, cut_to_asked, tells_capacity}
use Rattle.scsi_model.proofs.worked.reply_examples.Goals as goal

pub returns : goal.returns
returns c = record { code = refuses_code; field = refuses_field; range = refuses_range; at_end = reads_nothing_at_end; beyond_end = refuses_beyond_end; protected_write = refuses_write; length_first = refuses_length_first; cut_to_allocation = cut_to_allocation; cut_to_asked = cut_to_asked; capacity = tells_capacity }
