use Rattle.region_model.proofs.Computed.{no_length, head_unaligned, op_unknown, iovec_before, other_size, area_gone, area_there, copies_out, notes_again}
use Rattle.region_model.proofs.worked.user_examples.Goals as goal

pub returns : goal.returns
returns c = record { no_length = no_length; head_unaligned = head_unaligned; op_unknown = op_unknown; iovec_before = iovec_before; other_size = other_size; area_gone = area_gone; area_there = area_there; copies_out = copies_out; notes_again = notes_again }
