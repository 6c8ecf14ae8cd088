use Rattle.scsi_model.proofs.Computed.{read_of_six, read_of_ten, read_of_sixteen, write_of_ten, inquiry_of_standard, inquiry_of_page, code_not_served, page_without_bit, subpage_asked, protection_asked}
use Rattle.scsi_model.proofs.worked.decoding_examples.Goals as goal

pub returns : goal.returns
returns c = record { read_of_six = read_of_six; read_of_ten = read_of_ten; read_of_sixteen = read_of_sixteen; write_of_ten = write_of_ten; inquiry = inquiry_of_standard; inquiry_of_page = inquiry_of_page; code_not_served = code_not_served; page_without_bit = page_without_bit; subpage = subpage_asked; protection = protection_asked }
