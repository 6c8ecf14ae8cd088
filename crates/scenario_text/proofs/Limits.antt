-- What is read keeps what the reading keeps.
use Rattle.std.proofs.Common.{◌≡◌, ◌≤◌, ◌+◌, ℕ, List, [], ◌∷◌, length, Ok, Err, sym, ap, ◌∙◌, subst}
use Rattle.std.proofs.lemmas.Bool.{cond-false, le-ltb}
use Rattle.text_model.specs.ScenarioData.{ScenarioData}
use Rattle.text_model.specs.Said.{Said, SaysDevice, SaysLine}
use Rattle.tcmu_types.specs.Fields.{pieces}
use Rattle.text_model.specs.Scenario.{with_text, with_lines, nothing_yet, scenario_within}
use Rattle.text_model.specs.Script.{ScriptData, script_of}
use Rattle.text_model.specs.ScenarioRules.{IsScenarioWithin, IsScenario, IsScript}
use Rattle.text_model.specs.declared.limits.Limits.{Limits}
use Rattle.text_model.proofs.ScenarioLaws.{scenario_is}
use Rattle.text_model.proofs.ScriptLaws.{script_is}
use Rattle.text_model.proofs.SaidLaws.{IsSaid}
use Rattle.scenario_text.specs.Giving.{HasPlace}

-- a line opens a device with a new name, or speaks of a device that is there
pub has_place : (s : ScenarioData) (said : Said) → IsSaid s said → HasPlace s said
has_place s (SaysDevice d) is = record { name = is.line.name; other = is.name }
has_place s (SaysLine l) is = is.device

pub playable : (x : ScriptData) (s : ScenarioData) (device : ℕ) → x ≡ script_of s device → IsScenario s → IsScript x
playable x s device e k = subst IsScript (sym e) (script_is s device k)

whole : (limits : Limits) (bytes rest : List ℕ) (n : ℕ) (s t : ScenarioData) → length bytes ≤ limits.bytes → with_lines limits n s (pieces 10 rest) ≡ with_lines limits 1 nothing_yet (pieces 10 bytes) → pieces 10 rest ≡ rest ∷ [] → with_text limits s rest ≡ Ok t
    → scenario_within limits bytes ≡ Ok t
unfolding scenario_within
whole limits bytes rest n s t short so_far last e =
    cond-false _ _ _ (le-ltb _ _ short) ∙ sym so_far ∙ ap (with_lines limits n s) last ∙ ap (λ r. elim r [ Ok u ↦ with_lines limits (n + 1) u [] | Err f ↦ Err (record { line = n; why = f }) ]) e

-- the last line ends the reading
pub read_to_the_end : (limits : Limits) (bytes rest : List ℕ) (n : ℕ) (s t : ScenarioData) → length bytes ≤ limits.bytes → with_lines limits n s (pieces 10 rest) ≡ with_lines limits 1 nothing_yet (pieces 10 bytes) → pieces 10 rest ≡ rest ∷ []
    → with_text limits s rest ≡ Ok t → IsScenarioWithin limits t
read_to_the_end limits bytes rest n s t short so_far last e = scenario_is limits bytes t (whole limits bytes rest n s t short so_far last e)
