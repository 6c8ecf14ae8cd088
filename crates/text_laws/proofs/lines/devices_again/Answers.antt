use Rattle.text_laws.proofs.Devices.{devices_again}
use Rattle.text_laws.proofs.lines.devices_again.Goals as goal

pub returns : goal.returns
returns c = devices_again
