use Rattle.scsi_model.proofs.Computed.{capacity_of_ten, capacity_too_large, capacity_of_sixteen, one_unit, no_well_known_unit, sense_of_code}
use Rattle.scsi_model.proofs.worked.number_examples.Goals as goal

pub returns : goal.returns
returns c = record { capacity = capacity_of_ten; too_large = capacity_too_large; capacity_of_sixteen = capacity_of_sixteen; one_unit = one_unit; no_well_known_unit = no_well_known_unit; sense = sense_of_code }
