-- Lists of what several devices print, and their text.
use Rattle.std.specs.Prelude.{◌≡◌, ℕ, ◌<◌, List, ◌++◌, length}
use Rattle.std.specs.List.{flat_map}
use Rattle.tcmu_types.specs.Lists.{Every}
use Rattle.tcmu_model.specs.Device.{Device}
use Rattle.tcmu_model.specs.Steps.{HandlerRelation}
use Rattle.region_model.specs.Picture.{picture_of}
use Rattle.text_model.specs.Journals.{IsLegalEach}
use Rattle.text_model.specs.Printed.{Printed, AnEntry, ADump, OutsideLine, device_of, entries_in, printed_text, NamesItsDevice, IsLegalPrint}
use Rattle.text_model.specs.ScenarioData.{DeviceLineData}
use Rattle.text_model.specs.Several.{ends_text}
use Rattle.text_model.specs.Text.{device_text}
use Rattle.text_laws.specs.Dumps.{IsDumpValue}
use Rattle.text_laws.specs.Replays.{OpenAs}
use Rattle.text_laws.specs.Values.{IsNumber, IsEventValue}

-- ==== what the types of the code keep

-- the event of an entry is one of the code
abbrev pub HasEventValue : Printed → Type 0
HasEventValue (AnEntry j) = IsEventValue j.entry.event
HasEventValue (ADump at dump) = Unit {0}
HasEventValue (OutsideLine at text) = Unit {0}

-- the event of an entry is one of the code, and so is a dump
abbrev pub IsValue : Printed → Type 0
IsValue (AnEntry j) = IsEventValue j.entry.event
IsValue (ADump at dump) = IsDumpValue dump
IsValue (OutsideLine at text) = Unit {0}

-- What the types of the code keep of every list: the numbers and bytes of its events, and how long it is.
pub record AreValues (ps : List Printed) : Type 0 where
  pub few : IsNumber (length ps)
  pub events : Every HasEventValue ps

-- ==== the text

-- The text of a list: the device lines; entries that are legal on each device from its opening to its end, with dumps and outside lines
-- between them; and how many commands are open on each device at its end.
pub record IsListOf (R : HandlerRelation) (ls : List DeviceLineData) (opened : List Device) (ps : List Printed) (ends : List Device) (text : List ℕ) : Type 0 where
  pub opens : OpenAs ls opened
  pub count : length ends ≡ length ls
  pub devices : Every (λ p. device_of p < length ls) ps
  pub outside : Every (NamesItsDevice ls) ps
  pub legal : IsLegalEach R opened (entries_in ps) ends
  pub whole : text ≡ flat_map device_text ls ++ flat_map (printed_text ls) ps ++ ends_text ls ends

-- The same where each dump is the picture of its device at that point, with the block lists of its run.
pub record IsPrintOf (R : HandlerRelation) (ls : List DeviceLineData) (opened : List Device) (ps : List Printed) (ends : List Device) (text : List ℕ) : Type 0 where
  pub list : IsListOf R ls opened ps ends text
  pub pictures : IsLegalPrint R picture_of opened ps ends
