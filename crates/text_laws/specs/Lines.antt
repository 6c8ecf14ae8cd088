-- What is written of a line is read again.
use Rattle.std.specs.Prelude.{◌≡◌, ℕ, ◌≤◌, ◌++◌, IsTrue, List, ◌∷◌, Some, Ok, codes}
use Rattle.tcmu_types.specs.Naming.{is_name}
use Rattle.tcmu_types.specs.Data.{CommandData, DoneData}
use Rattle.tcmu_types.specs.Events.{EventData}
use Rattle.tcmu_types.specs.Events as ev
use Rattle.text_model.specs.Replay.{made}
use Rattle.text_model.specs.ScenarioData.{ScenarioData}
use Rattle.text_model.specs.ScenarioRules.{IsEvent}
use Rattle.text_model.specs.Said.{device_at, SaysLine}
use Rattle.text_model.specs.Scenario.{with_said, with_text}
use Rattle.text_model.specs.Text.{event_text, completion_text, end_text}
use Rattle.text_model.specs.declared.limits.Limits.{Limits}
use Rattle.text_laws.specs.Bytes.{AreBytes}

-- its bytes are bytes, and its tag is a number of 32 bits
pub record IsCarried (c : CommandData) : Type 0 where
  pub tag : c.tag ≤ 4294967295
  pub cdb : AreBytes c.cdb
  pub sent : AreBytes c.sent

-- the command of a submit is so; other events carry none
abbrev pub CarriesBytes : EventData → Type 0
CarriesBytes (ev.Submit c) = IsCarried c
CarriesBytes _ = Unit {0}

-- The line of an event within its limits, on a device that is there, is the event's line; what stands behind it, as the event's
-- answer does, is a comment.
abbrev pub EventsAgain : Type 0
EventsAgain =
    (limits : Limits) (s : ScenarioData) (at : ℕ) (name : List ℕ) (e : EventData) (answer : List ℕ)
    → device_at s name ≡ Some at → IsTrue (is_name name) → IsEvent e → CarriesBytes e
    → with_text limits s (event_text name e ++ (codes " # " ++ answer)) ≡ with_said limits s (SaysLine (made at e))

-- A line that begins with `#`, as each completion and each end line does, is ignored.
abbrev pub CommentsIgnored : Type 0
CommentsIgnored = (limits : Limits) (s : ScenarioData) (text : List ℕ) → with_text limits s (35 ∷ text) ≡ Ok s

abbrev pub CompletionsIgnored : Type 0
CompletionsIgnored = (name : List ℕ) (c : DoneData) → (text : List ℕ) × (completion_text name c ≡ 35 ∷ text)

abbrev pub EndsIgnored : Type 0
EndsIgnored = (name : List ℕ) (n : ℕ) → (text : List ℕ) × (end_text name n ≡ 35 ∷ text)
