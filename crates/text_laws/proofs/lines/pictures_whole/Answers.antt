use Rattle.text_laws.proofs.Pictured.{picture_value}
use Rattle.text_laws.proofs.lines.pictures_whole.Goals as goal

pub returns : goal.returns
returns c = picture_value
