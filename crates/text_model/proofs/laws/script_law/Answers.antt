use Rattle.text_model.proofs.ScriptLaws.{script_is}
use Rattle.text_model.proofs.laws.script_law.Goals as goal

pub returns : goal.returns
returns c = script_is
