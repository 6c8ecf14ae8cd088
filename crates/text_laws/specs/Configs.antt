-- What is written of a config is read again.
use Rattle.std.specs.Prelude.{◌≡◌, ℕ, ◌<◌, ◌==◌, Bool, false, not, IsTrue, length, Ok}
use Rattle.std.specs.List.{list_all}
use Rattle.text_model.specs.Config.{ConfigData, MediumData, InMemory, InFile, config_of}
use Rattle.text_model.specs.ScenarioRules.{IsConfig}
use Rattle.text_model.specs.Text.{config_text}

abbrev pub is_other : ℕ → ℕ → Bool
is_other at b = not (b == at)

-- no such byte stands in the file's name
abbrev pub FileLacks : ℕ → MediumData → Type 0
FileLacks at (InMemory blocks) = Unit {0}
FileLacks at (InFile name) = IsTrue (list_all (is_other at) name)

-- A config that has a text: either it is write-protected or some of its calls fail, and no colon stands in the name of its file.
pub record IsSpelledConfig (c : ConfigData) : Type 0 where
  pub config : IsConfig c
  pub one : 0 < length c.fails → c.protected ≡ false
  pub file : FileLacks 58 c.kind

abbrev pub ConfigsAgain : Type 0
ConfigsAgain = (c : ConfigData) → IsSpelledConfig c → config_of (config_text c) ≡ Ok c
