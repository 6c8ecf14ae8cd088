-- What several devices print: entries with their completions, dumps, and outside lines.
use Rattle.std.specs.Prelude.{◌≡◌, ℕ, Bool, true, ◌==◌, not, List, [], ◌∷◌, ◌++◌, slice_get, Some, None}
use Rattle.std.specs.List.{filter, list_all}
use Rattle.tcmu_types.specs.Dumps.{DumpData}
use Rattle.tcmu_types.specs.Events.{EntryData}
use Rattle.tcmu_types.specs.Fields.{line_feed}
use Rattle.tcmu_model.specs.BlockLists.{Taken, lists_after, BlockRun}
use Rattle.tcmu_model.specs.Device.{DeviceState, Device}
use Rattle.tcmu_model.specs.Steps.{HandlerRelation, Step}
use Rattle.text_model.specs.Fields.{IsWord}
use Rattle.text_model.specs.Journals.{Journaled, journaled_text}
use Rattle.text_model.specs.ScenarioData.{DeviceLineData}
use Rattle.text_model.specs.Text.{spaced, line, dump_text}
use Rattle.text_model.specs.Words.{verb_of}

-- ==== what is printed

-- an entry with its completions, a dump of the device of a number, or a line of that device which no event of it makes
pub data Printed : Type 0 where
  AnEntry : Journaled → Printed
  ADump : ℕ → DumpData → Printed
  OutsideLine : ℕ → List ℕ → Printed

abbrev pub device_of : Printed → ℕ
device_of (AnEntry j) = j.entry.device
device_of (ADump at dump) = at
device_of (OutsideLine at text) = at

abbrev pub is_about : ℕ → Printed → Bool
is_about at p = device_of p == at

-- the entries, without what stands between them
abbrev pub entries_in : List Printed → List Journaled
entries_in [] = []
entries_in (AnEntry j ∷ ps) = j ∷ entries_in ps
entries_in (ADump at dump ∷ ps) = entries_in ps
entries_in (OutsideLine at text ∷ ps) = entries_in ps

-- its lines, under the name of its device
abbrev pub printed_text : List DeviceLineData → Printed → List ℕ
printed_text ls (AnEntry j) = journaled_text ls j
printed_text ls (ADump at dump) = elim (slice_get ls at) [ Some l ↦ dump_text l.name dump | None ↦ [] ]
printed_text ls (OutsideLine at text) = line text

-- a line of a device that no scenario has: a word that is no verb, the device's name, and what follows
pub record IsOutsideLine (name text : List ℕ) : Type 0 where
  pub word : List ℕ
  pub rest : List ℕ
  pub spelled : text ≡ spaced word (name ∷ rest ∷ [])
  pub shown : IsWord word
  pub verb : verb_of word ≡ None
  pub one_line : list_all (λ b. not (b == line_feed)) rest ≡ true

-- each names its device
abbrev pub NamesItsDevice : List DeviceLineData → Printed → Type 0
NamesItsDevice ls (AnEntry j) = Unit {0}
NamesItsDevice ls (ADump at dump) = Unit {0}
NamesItsDevice ls (OutsideLine at text) = (l : DeviceLineData) × (slice_get ls at ≡ Some l) × IsOutsideLine l.name text

-- ==== what a device prints

-- how a device is told with the block lists of its run
abbrev pub Picture : Type 0
Picture = DeviceState → List Taken → DumpData

-- The entries are made one after another, and the completions of each are what the log grew by. The block lists go along, and each dump
-- is the picture of the device with the lists of its run so far. Outside lines leave the device as it is.
abbrev pub RunPrints : HandlerRelation → Picture → Device → List Taken → List Printed → Device → List Taken → Type 0
RunPrints R picture d lists [] d' lists' = (d' ≡ d) × (lists' ≡ lists)
RunPrints R picture d lists (AnEntry j ∷ ps) d' lists' =
    (mid : Device) × Step R d j.entry mid × (mid.state.log ≡ d.state.log ++ j.completions)
    × RunPrints R picture mid (lists_after d.state lists j.entry.event j.entry.answer mid.state) ps d' lists'
RunPrints R picture d lists (ADump at dump ∷ ps) d' lists' = (dump ≡ picture d.state lists) × RunPrints R picture d lists ps d' lists'
RunPrints R picture d lists (OutsideLine at text ∷ ps) d' lists' = RunPrints R picture d lists ps d' lists'

-- A dump behind these entries of a device, from its opening on, is the picture of the device that they lead to, with the block lists of their
-- run.
pub record ShowsRun (R : HandlerRelation) (picture : Picture) (d : Device) (es : List EntryData) (dump : DumpData) : Type 0 where
  pub device : Device
  pub lists : List Taken
  pub run : BlockRun R d [] es device lists
  pub shows : dump ≡ picture device.state lists

-- what a device prints from its opening on, when it has no lists
pub record PrintsFrom (R : HandlerRelation) (picture : Picture) (d : Device) (ps : List Printed) (d' : Device) : Type 0 where
  pub lists : List Taken
  pub run : RunPrints R picture d [] ps d' lists

-- each device is the end of the run of its own entries, and its dumps are its pictures
abbrev pub IsLegalPrint : HandlerRelation → Picture → List Device → List Printed → List Device → Type 0
IsLegalPrint R picture opened ps ends =
    (at : ℕ) (d d' : Device) → slice_get opened at ≡ Some d → slice_get ends at ≡ Some d' → PrintsFrom R picture d (filter (is_about at) ps) d'
