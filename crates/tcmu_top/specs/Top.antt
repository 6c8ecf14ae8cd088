-- What the top call says of what it read and wrote.
use Rattle.std.specs.Prelude.{◌≡◌, ◌≢◌, ◌⊎◌, ℕ, true, false, List, [], ◌∷◌, ◌++◌, map, Option, Some, None, IfSome, Ok, Err, length, codes}
use Rattle.std.specs.List.{flat_map}
use Rattle.std.specs.Fmt.{decimal}
use Rattle.tcmu_types.specs.Numbered.{Rose}
use Rattle.edge.specs.Outside.{Tells, Gained, GainedFront}
use Rattle.edge.specs.Stores.{FilesState}
use Rattle.scsi_model.specs.Scsi.{Serves}
use Rattle.tcmu_model.specs.Device.{Device}
use Rattle.tcmu_model.specs.Steps.{HandlerRelation}
use Rattle.text_model.specs.ScenarioData.{DeviceLineData, LineData, ScenarioData}
use Rattle.text_model.specs.Scenario.{Bad, scenario_of}
use Rattle.text_model.specs.Text.{device_text}
use Rattle.text_model.specs.Words.{why_word}
use Rattle.region_model.specs.Picture.{picture_of}
use Rattle.text_model.specs.Printed.{AnEntry}
use Rattle.text_model.specs.Replay.{Plays}
use Rattle.text_model.specs.Several.{ReplaysEach, ends_text, IsReplayOf}
use Rattle.text_model.specs.declared.faults.Why.{Why}
use Rattle.text_model.specs.declared.faults.Why.TheVariants as why
use Rattle.text_model.specs.Journals.{Journaled, IsLegalEach, journaled_text}
use Rattle.tcmu_top.specs.Opened.{OpenEach, file_names, a_fetch_fails, KeptFiles, NoneFailed, NextFailed, AsTheyWere}
use Rattle.tcmu_top.specs.Loads.{LoadEnds}
use Rattle.tcmu_top.specs.Calls.{Outside, TookFront, Calm, FilesAndSink}
use Rattle.tcmu_top.specs.Playing.{AllButLast}
use Rattle.tcmu_top.specs.InPart.{ReplaysEachInPart}
use Rattle.tcmu_top.specs.declared.words.Task.{Task}
use Rattle.tcmu_top.specs.declared.words.Task.TheVariants as task
use Rattle.tcmu_top.specs.declared.status.Status.{Status}
use Rattle.tcmu_top.specs.declared.status.Status.TheVariants as status

-- ==== several devices, over any handler

-- the whole text of a replay was written, and the devices are as the replay ended
pub record Replayed (R : HandlerRelation) (ls : List DeviceLineData) (opened : List Device) (lines : List LineData) (ds' : List Device) (old new : Option (List ℕ)) : Type 0 where
  pub text : List ℕ
  pub is : IsReplayOf R picture_of ls opened lines text
  pub ends : is.ends ≡ ds'
  pub gained : Gained old text new

-- A part of what the lines ask for was made, and each device is the end of the run of its own entries that were made. What was written is a
-- front of the device lines and the lines of these entries; the end lines come once all is made. Of what was made all is written whole but
-- the last entry: a sink that fails stops the replay at once.
pub record MadeInPart (R : HandlerRelation) (ls : List DeviceLineData) (opened : List Device) (lines : List LineData) (ds' : List Device) (old new : Option (List ℕ)) : Type 0 where
  pub made : List Journaled
  pub asked : ReplaysEachInPart R opened lines (map (λ j. j.entry) made) ds'
  pub legal : IsLegalEach R opened made ds'
  pub told : GainedFront old (flat_map device_text ls ++ flat_map (journaled_text ls) made) new
      ⊎ (ReplaysEach (Plays R) opened lines (map (λ j. j.entry) made) ds' × GainedFront old (flat_map device_text ls ++ flat_map (journaled_text ls) made ++ ends_text ls ds') new)
  pub stopped : (made ≡ []) ⊎ AllButLast made (λ js. flat_map device_text ls ++ flat_map (journaled_text ls) js) old new

-- And what was written is a front of a whole text, which goes on behind what was made.
pub record ReplayedInPart (R : HandlerRelation) (ls : List DeviceLineData) (opened : List Device) (lines : List LineData) (ds' : List Device) (old new : Option (List ℕ)) : Type 0 where
  pub part : MadeInPart R ls opened lines ds' old new
  pub text : List ℕ
  pub is : IsReplayOf R picture_of ls opened lines text
  pub rest : List Journaled
  pub order : is.printed ≡ map AnEntry (part.made ++ rest)
  pub gained : GainedFront old text new

-- ==== a scenario

-- what came of a scenario: by the files before and after, and what the sink had and has
abbrev pub CameOf : Type 1
CameOf = Option FilesState → Option FilesState → ScenarioData → Option (List ℕ) → Option (List ℕ) → Type 0

-- What may come of a scenario in one kind of run: all was done; or it was stopped on the way, as the sink failed, or as memory was wanting.
pub record RunKind : Type 1 where
  pub whole : CameOf
  pub cut_short : CameOf
  pub stopped : CameOf

-- the text is that of a replay of a scenario, on its devices as they open over these files
pub record IsTextOf (files : Option FilesState) (s : ScenarioData) (text : List ℕ) : Type 0 where
  pub opened : List Device
  pub opens : OpenEach files s.devices opened
  pub replay : IsReplayOf Serves picture_of s.devices opened s.lines text

-- The whole text of a scenario's replay was written: every file could be fetched, and each has what its device left in it.
pub record TextWritten (files files' : Option FilesState) (s : ScenarioData) (old new : Option (List ℕ)) : Type 0 where
  pub text : List ℕ
  pub is : IsTextOf files s text
  pub gained : Gained old text new
  pub fetched : IfSome files (λ f. a_fetch_fails (file_names s.devices) f ≡ false)
  pub kept : KeptFiles s.devices is.replay.ends files files'

-- It was stopped on the way: a front of such a text was written. Every file could be fetched, and each has what its device left in it
-- behind those of its entries that were made.
pub record CutShort (files files' : Option FilesState) (s : ScenarioData) (old new : Option (List ℕ)) : Type 0 where
  pub opened : List Device
  pub opens : OpenEach files s.devices opened
  pub ends : List Device
  -- one for each device line
  pub count : length ends ≡ length s.devices
  pub replay : ReplayedInPart Serves s.devices opened s.lines ends old new
  pub fetched : IfSome files (λ f. a_fetch_fails (file_names s.devices) f ≡ false)
  pub kept : KeptFiles s.devices ends files files'

-- it did not begin: nothing was written, each file is as it was, and no fetch that was made failed
pub record NotBegun (files files' : Option FilesState) (s : ScenarioData) (old new : Option (List ℕ)) : Type 0 where
  pub nothing : new ≡ old
  pub same : AsTheyWere NoneFailed s.devices files files'

-- want of memory stopped it, before it began or on the way
abbrev pub StoppedByMemory : CameOf → CameOf
StoppedByMemory OnTheWay files files' s old new = NotBegun files files' s old new ⊎ OnTheWay files files' s old new

-- A file could not be fetched: its fetch is the last that was made, and the first that failed. Nothing was written, and each file is as
-- it was.
pub record NotOpened (files files' : Option FilesState) (s : ScenarioData) (old new : Option (List ℕ)) : Type 0 where
  pub fails : IfSome files (λ f. a_fetch_fails (file_names s.devices) f ≡ true)
  pub nothing : new ≡ old
  pub same : AsTheyWere NextFailed s.devices files files'

-- in a replay
abbrev pub replay : RunKind
replay = record { whole = TextWritten; cut_short = CutShort; stopped = CutShort }

-- ==== what the source had

-- all that the source had is this scenario, and it was read to its end
pub record HadScenario (left left' : Option (List ℕ)) (s : ScenarioData) : Type 0 where
  pub bytes : List ℕ
  pub told : Tells left bytes
  pub end : Tells left' []
  pub reads : scenario_of bytes ≡ Ok s

-- all that the source had is a scenario, of which this holds between two moments: by the files, and by what the sink has
abbrev pub Had : CameOf → Outside → Outside → Type 0
Had So before after = (s : ScenarioData) × HadScenario before.left after.left s × So before.files after.files s before.written after.written

-- the fault of bytes that are more than a scenario has
abbrev pub too_long : Bad
too_long = record { line = 0; why = why.TooLong }

-- what the source had is no scenario, for this fault: it had more than a scenario has, or it was read to its end
abbrev pub IsNoScenario : (left left' : Option (List ℕ)) → Bad → Type 0
IsNoScenario left left' bad =
    ((bad ≡ too_long) × IfSome left (λ bytes. scenario_of bytes ≡ Err bad)) ⊎ (Tells left' [] × ((bytes : List ℕ) × Tells left bytes × (scenario_of bytes ≡ Err bad)))

-- ==== the statuses

-- the exit status of the program
abbrev pub code_of : Status → ℕ
code_of status.Ok = 0
code_of status.ReadFault = 1
code_of status.WriteFault = 2
code_of status.NoMemory = 3
code_of (status.BadScenario line why) = 4
code_of status.BadWords = 5
code_of status.OpenFault = 6

-- nothing was written, and the files are as they were
pub record Untouched (files files' : Option FilesState) (old new : Option (List ℕ)) : Type 0 where
  pub wrote : new ≡ old
  pub same : files' ≡ files

-- the same, between two moments
abbrev pub NothingDone : Outside → Outside → Type 0
NothingDone before after = Untouched before.files after.files before.written after.written

-- How such a run ends, and what it wrote: by the outside before and after it, and the status.
pub record Ends (run : RunKind) (before after : Outside) (ended : Status) : Type 0 where
  -- all was done of the scenario that the source had
  pub ok : ended ≡ status.Ok → Had run.whole before after
  -- the source failed, and nothing was written
  pub read_fault : ended ≡ status.ReadFault → Rose before.source_faults after.source_faults × NothingDone before after
  -- the sink failed
  pub write_fault : ended ≡ status.WriteFault → Rose before.sink_faults after.sink_faults × Had run.cut_short before after
  -- memory was wanting: before the scenario was read, or later
  pub no_memory : ended ≡ status.NoMemory → NothingDone before after ⊎ Had (StoppedByMemory run.stopped) before after
  -- what the source had is no scenario, and nothing was written
  pub bad_scenario : (line : ℕ) (reason : Why) → ended ≡ status.BadScenario line reason → IsNoScenario before.left after.left (record { line = line; why = reason }) × NothingDone before after
  -- a file could not be fetched, and nothing was written
  pub open_fault : ended ≡ status.OpenFault → Rose before.files_faults after.files_faults × Had NotOpened before after
  -- the words are not its own
  pub words : ended ≢ status.BadWords
  -- however it ends, nothing but a front was taken of what the source had
  pub taken : TookFront before.left after.left before.reads after.reads
  -- no fault of the source, of the files or of the sink is passed over
  pub calm_source : Calm status.ReadFault ended before.source_faults after.source_faults
  pub calm_files : Calm status.OpenFault ended before.files_faults after.files_faults
  pub calm_sink : Calm status.WriteFault ended before.sink_faults after.sink_faults

-- the same, where the scenario is at hand
pub record ScenarioEnds (run : RunKind) (s : ScenarioData) (before after : FilesAndSink) (ended : Status) : Type 0 where
  pub ok : ended ≡ status.Ok → run.whole before.files after.files s before.written after.written
  pub write_fault : ended ≡ status.WriteFault → Rose before.sink_faults after.sink_faults × run.cut_short before.files after.files s before.written after.written
  pub no_memory : ended ≡ status.NoMemory → StoppedByMemory run.stopped before.files after.files s before.written after.written
  pub open_fault : ended ≡ status.OpenFault → Rose before.files_faults after.files_faults × NotOpened before.files after.files s before.written after.written
  pub reads : ended ≢ status.ReadFault
  pub scenario : (line : ℕ) (reason : Why) → ended ≢ status.BadScenario line reason
  pub words : ended ≢ status.BadWords
  pub calm_files : Calm status.OpenFault ended before.files_faults after.files_faults
  pub calm_sink : Calm status.WriteFault ended before.sink_faults after.sink_faults

-- the bytes are a scenario of which this holds
abbrev pub Spells : List ℕ → (ScenarioData → Type 0) → Type 0
Spells bytes So = (s : ScenarioData) × (scenario_of bytes ≡ Ok s) × So s

-- the same, where the bytes are at hand
pub record BytesEnd (run : RunKind) (bytes : List ℕ) (before after : FilesAndSink) (ended : Status) : Type 0 where
  pub ok : ended ≡ status.Ok → Spells bytes (λ s. run.whole before.files after.files s before.written after.written)
  pub write_fault : ended ≡ status.WriteFault → Rose before.sink_faults after.sink_faults × Spells bytes (λ s. run.cut_short before.files after.files s before.written after.written)
  pub no_memory : ended ≡ status.NoMemory → Untouched before.files after.files before.written after.written ⊎ Spells bytes (λ s. StoppedByMemory run.stopped before.files after.files s before.written after.written)
  pub bad_scenario : (line : ℕ) (reason : Why) → ended ≡ status.BadScenario line reason → (scenario_of bytes ≡ Err (record { line = line; why = reason })) × Untouched before.files after.files before.written after.written
  pub open_fault : ended ≡ status.OpenFault → Rose before.files_faults after.files_faults × Spells bytes (λ s. NotOpened before.files after.files s before.written after.written)
  pub words : ended ≢ status.BadWords
  pub reads : ended ≢ status.ReadFault
  pub calm_files : Calm status.OpenFault ended before.files_faults after.files_faults
  pub calm_sink : Calm status.WriteFault ended before.sink_faults after.sink_faults

-- ==== the words

-- a load calls the sink alone
pub record LoadAlone (seed count : ℕ) (before after : Outside) (ended : Status) : Type 0 where
  pub ends : LoadEnds seed count before.written after.written before.sink_faults after.sink_faults ended
  pub same : after ≡ record before { written = after.written; sink_faults = after.sink_faults }

-- How the program ends, by what its words ask for: a replay; a load; or nothing, where they are none that it knows.
abbrev pub TaskEnds : Option Task → Outside → Outside → Status → Type 0
TaskEnds (Some task.Replay) before after ended = Ends replay before after ended
TaskEnds (Some (task.Load seed count)) before after ended = LoadAlone seed count before after ended
TaskEnds None before after ended = (ended ≡ status.BadWords) × (after ≡ before)

-- ==== the fault line

-- the line that goes to the error stream
abbrev pub fault_text : Status → List ℕ
fault_text (status.BadScenario line why) = codes "tcmu_lab: line " ++ decimal line ++ codes ": " ++ why_word why ++ 10 ∷ []
fault_text status.BadWords = codes "tcmu_lab: words" ++ 10 ∷ []
fault_text status.Ok = []
fault_text status.ReadFault = []
fault_text status.WriteFault = []
fault_text status.NoMemory = []
fault_text status.OpenFault = []

-- it was written, whole where the error stream did not fail
abbrev pub Reported : Status → Option (List ℕ) → Option (List ℕ) → Type 0 → Type 0
Reported s old new rose = Gained old (fault_text s) new ⊎ (rose × GainedFront old (fault_text s) new)
