-- What a run does to the outside: what it sees of it, what it takes of a source, and that it passes no fault over.
use Rattle.std.specs.Prelude.{◌≡◌, ◌≢◌, ℕ, ◌+◌, ◌≤◌, min, List, length, Option, Result, OnOk, IsErrOf}
use Rattle.tcmu_types.specs.Numbered.{Rose}
use Rattle.edge.specs.Outside.{Gave}
use Rattle.edge.specs.Stores.{FilesState}
use Rattle.tcmu_top.specs.declared.status.Status.{Status}
use Rattle.tcmu_top.specs.declared.writing.Stop.{Stop}
use Rattle.tcmu_top.specs.declared.writing.Stop.TheVariants as stop

-- The outside at one moment, as far as it tells: what the source has left and how many reads were made of it, the files, what the sink has,
-- and each one's count of faults.
pub record Outside : Type 0 where
  pub left : Option (List ℕ)
  pub reads : ℕ
  pub source_faults : ℕ
  pub files : Option FilesState
  pub files_faults : ℕ
  pub written : Option (List ℕ)
  pub sink_faults : ℕ

abbrev pub outside : Option (List ℕ) → ℕ → ℕ → Option FilesState → ℕ → Option (List ℕ) → ℕ → Outside
outside left reads source_faults files files_faults written sink_faults = record {
  left = left;
  reads = reads;
  source_faults = source_faults;
  files = files;
  files_faults = files_faults;
  written = written;
  sink_faults = sink_faults;
}

-- the part of it that a replay may change: the files and what the sink has, each with its count of faults
pub record FilesAndSink : Type 0 where
  pub files : Option FilesState
  pub files_faults : ℕ
  pub written : Option (List ℕ)
  pub sink_faults : ℕ

abbrev pub files_and_sink : Option FilesState → ℕ → Option (List ℕ) → ℕ → FilesAndSink
files_and_sink files files_faults written sink_faults = record { files = files; files_faults = files_faults; written = written; sink_faults = sink_faults }

-- A front of what the source had left was taken, and nothing else: at most 4,194,304 bytes and one piece of 4,096 more. Each read but the
-- last gave a byte at least, of the first 4,194,304. So it is over every source, also one that gives a byte a read: no read is made behind
-- one that found the end, nor behind one that made the text too long.
pub record TookFront (left left' : Option (List ℕ)) (reads reads' : ℕ) : Type 0 where
  pub piece : List ℕ
  pub gave : Gave left piece left'
  pub most : length piece ≤ 4194304 + 4096
  pub few : reads' ≤ reads + min (length piece) 4194304 + 1

-- where a run ended otherwise than by this fault, the count of such faults is as it was
abbrev pub Calm : Status → Status → ℕ → ℕ → Type 0
Calm fault ended old new = ended ≢ fault → new ≡ old

-- The sink's count of faults behind a piece of a replay: it rose where the sink failed, and else it is as it was.
pub record SinkFaults {T : Type 0} (old new : ℕ) (result : Result T Stop) : Type 0 where
  pub failed : IsErrOf result stop.WriteFault → Rose old new
  pub wanting : IsErrOf result stop.NoMemory → new ≡ old
  pub calm : OnOk result (new ≡ old)
  pub later : old ≤ new
