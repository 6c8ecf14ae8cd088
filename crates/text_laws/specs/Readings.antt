-- A text of a list of device lines, entries, dumps and end lines has one reading.
use Rattle.std.specs.Prelude.{◌≡◌, ◌≢◌, ℕ, List, slice_get, Some}
use Rattle.std.specs.List.{AllPairs}
use Rattle.tcmu_model.specs.Device.{Device}
use Rattle.tcmu_model.specs.Steps.{HandlerRelation}
use Rattle.tcmu_types.specs.Lists.{Every}
use Rattle.text_model.specs.ScenarioData.{DeviceLineData}
use Rattle.text_model.specs.Printed.{Printed}
use Rattle.text_laws.specs.Devices.{IsSpelledDevice}
use Rattle.text_laws.specs.Printed.{IsValue, AreValues, IsListOf, IsPrintOf}

-- devices of a scenario: each has a line, and their names differ
pub record AreNamed (ls : List DeviceLineData) : Type 0 where
  pub spelled : Every IsSpelledDevice ls
  pub names : AllPairs (λ d e. d.name ≢ e.name) ls

-- the devices of one number are in one state
abbrev pub AreAlike : List Device → List Device → Type 0
AreAlike ds es = (at : ℕ) (d e : Device) → slice_get ds at ≡ Some d → slice_get es at ≡ Some e → d.state ≡ e.state

-- The lists are the same, item by item, and their devices end in the same states.
pub record AreSame (ls ks : List DeviceLineData) (ps qs : List Printed) (ends lasts : List Device) : Type 0 where
  pub devices : ls ≡ ks
  pub printed : ps ≡ qs
  pub states : AreAlike ends lasts

-- Over any two handlers: two lists whose dumps are pictures, and which have one text, are the same: the devices, the entries, each with
-- its event, its answer and its completions, and the dumps between them.
abbrev pub HasOneReading : HandlerRelation → HandlerRelation → Type 0
HasOneReading R Q =
    (ls ks : List DeviceLineData) (opened started : List Device) (ps qs : List Printed) (ends lasts : List Device) (text : List ℕ)
    → AreNamed ls → AreNamed ks → AreValues ps → AreValues qs
    → IsPrintOf R ls opened ps ends text → IsPrintOf Q ks started qs lasts text
    → AreSame ls ks ps qs ends lasts

-- So are lists whose dumps are any of the code, whatever their length.
abbrev pub HasOneReadingOfAny : HandlerRelation → HandlerRelation → Type 0
HasOneReadingOfAny R Q =
    (ls ks : List DeviceLineData) (opened started : List Device) (ps qs : List Printed) (ends lasts : List Device) (text : List ℕ)
    → AreNamed ls → AreNamed ks → Every IsValue ps → Every IsValue qs
    → IsListOf R ls opened ps ends text → IsListOf Q ks started qs lasts text
    → AreSame ls ks ps qs ends lasts
