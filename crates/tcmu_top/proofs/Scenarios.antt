-- How the replay of a scenario ends, from what its parts say.
use Rattle.std.proofs.Common.{◌≡◌, ℕ, ◌<◌, false, List, length, Option, Some, None, Err, IfSome, refl, sym, ap, ◌∙◌, subst, inl}
use Rattle.std.specs.List.{AllPairs}
use Rattle.std.proofs.lemmas.Bool.{lt-ltb}
use Rattle.tcmu_types.specs.Numbered.{Rose}
use Rattle.edge.specs.Stores.{FilesState}
use Rattle.scsi_model.specs.Scsi.{Serves}
use Rattle.tcmu_model.specs.Device.{Device}
use Rattle.text_model.specs.Said.{same_file}
use Rattle.text_model.specs.ScenarioData.{DeviceLineData, ScenarioData}
use Rattle.text_model.specs.Scenario.{Bad, scenario_within, scenario_of}
use Rattle.text_model.specs.ScenarioRules.{IsScenario}
use Rattle.region_model.specs.Picture.{picture_of}
use Rattle.text_model.specs.Printed.{entries_in}
use Rattle.text_model.proofs.PrintedJournals.{legal_entries}
use Rattle.text_model.specs.declared.faults.Why.TheVariants as why
use Rattle.text_model.specs.Journals.{Journaled, IsLegalEach}
use Rattle.tcmu_top.specs.declared.status.Status.{Status}
use Rattle.tcmu_top.specs.declared.status.Status.TheVariants as status
use Rattle.tcmu_top.specs.Calls.{TookFront, outside, files_and_sink}
use Rattle.tcmu_top.specs.Opened.{file_names, NoneFailed, AsTheyWere, KeptFiles, after_fetches, AreOpen, OpenFailed, KeepsEach}
use Rattle.tcmu_top.specs.Top.{Replayed, ReplayedInPart, CameOf, RunKind, TextWritten, CutShort, StoppedByMemory, NotOpened, too_long, ScenarioEnds, Ends}
use Rattle.tcmu_top.proofs.Fetching.{place_free, fetches_fails, own_files}
use Rattle.tcmu_top.proofs.Keeping.{fetched_out}
use Rattle.tcmu_top.proofs.GivenBack.{tell_files}
use Rattle.tcmu_top.proofs.Opened.{open_as}
use Rattle.text_laws.proofs.Replays.{opened_count}

-- ==== the scenario

kept_files : (files mid files' : Option FilesState) (ls : List DeviceLineData) (ds ends : List Device) (js : List Journaled) → AllPairs (λ d e. same_file d.config.kind e.config.kind ≡ false) ls
    → AreOpen files mid ls ds → IsLegalEach Serves ds js ends → KeepsEach ls ends mid files' → KeptFiles ls ends files files'
kept_files None mid files' ls ds ends js own h legal k = tt
kept_files (Some f) mid files' ls ds ends js own h legal k =
    let x = k (own_files ls own) (tell_files f ls ds ends js h.opens legal) (after_fetches (file_names ls) f) h.fetched.after (λ at l name e kind. fetched_out ls f at l name e kind) in (
      x.0,
      x.1,
      record {
        named = x.2.named;
        others = λ name free. x.2.others name free ∙ place_free (file_names ls) f name free;
        fails = x.2.fails ∙ fetches_fails (file_names ls) f;
        fetches = x.2.fetches;
      },
    )

pub text_written : (s : ScenarioData) (files mid files' : Option FilesState) (ds ends : List Device) (old new : Option (List ℕ)) → IsScenario s → AreOpen files mid s.devices ds
    → Replayed Serves s.devices ds s.lines ends old new → KeepsEach s.devices ends mid files' → TextWritten files files' s old new
text_written s files mid files' ds ends old new rules h r k =
    record {
      text = r.text;
      is = record { opened = ds; opens = h.opens; replay = r.is };
      gained = r.gained;
      fetched = h.fetched.none;
      kept = kept_files files mid files' s.devices ds r.is.ends (entries_in r.is.printed) rules.files h (legal_entries Serves picture_of ds r.is.printed r.is.ends r.is.legal) (subst (λ (x : List Device). KeepsEach s.devices x mid files') (sym r.ends) k);
    }

pub cut_short : (s : ScenarioData) (files mid files' : Option FilesState) (ds ends : List Device) (old new : Option (List ℕ)) → IsScenario s → AreOpen files mid s.devices ds
    → length ends ≡ length ds → ReplayedInPart Serves s.devices ds s.lines ends old new → KeepsEach s.devices ends mid files' → CutShort files files' s old new
cut_short s files mid files' ds ends old new rules h count r k =
    let each : length ends ≡ length s.devices = count ∙ opened_count s.devices ds (open_as files s.devices ds h.opens) in
    record { opened = ds; opens = h.opens; ends = ends; count = each; replay = r; fetched = h.fetched.none; kept = kept_files files mid files' s.devices ds ends r.part.made rules.files h r.part.legal k }

pub wanting_early : (OnTheWay : CameOf) (s : ScenarioData) (files files' : Option FilesState) (old : Option (List ℕ)) → AsTheyWere NoneFailed s.devices files files' → StoppedByMemory OnTheWay files files' s old old
wanting_early OnTheWay s files files' old same = inl (record { nothing = refl; same = same })

pub not_opened : (s : ScenarioData) (files files' : Option FilesState) (faults faults' : ℕ) (old : Option (List ℕ)) → OpenFailed s.devices files files' faults faults' → Rose faults faults' × NotOpened files files' s old old
not_opened s files files' faults faults' old h = (h.rose, record { fails = h.fails; nothing = refl; same = h.same })

-- ==== a fault

-- more bytes than a scenario has are refused for that
pub long_is : (bytes : List ℕ) → 4194304 < length bytes → scenario_of bytes ≡ Err too_long
unfolding scenario_within
long_is bytes h = rw (lt-ltb 4194304 (length bytes) h) refl

pub long_left : (left : Option (List ℕ)) → IfSome left (λ bytes. 4194304 < length bytes) → IfSome left (λ bytes. scenario_of bytes ≡ Err too_long)
long_left None h = tt
long_left (Some bytes) h = long_is bytes h

abbrev bad_of : Status → Bad
bad_of (status.BadScenario line why) = record { line = line; why = why }
bad_of status.Ok = too_long
bad_of status.ReadFault = too_long
bad_of status.WriteFault = too_long
bad_of status.NoMemory = too_long
bad_of status.BadWords = too_long
bad_of status.OpenFault = too_long

-- the source had more
pub ends_too_long : (run : RunKind) (left left' : Option (List ℕ)) (reads reads' read read' opened wrote : ℕ) (files : Option FilesState) (old : Option (List ℕ)) → IfSome left (λ bytes. 4194304 < length bytes)
    → TookFront left left' reads reads' → read' ≡ read → Ends run (outside left reads read files opened old wrote) (outside left' reads' read' files opened old wrote) (status.BadScenario 0 why.TooLong)
ends_too_long run left left' reads reads' read read' opened wrote files old h took calm =
    record {
      ok = λ e. absurd (cc);
      read_fault = λ e. absurd (cc);
      write_fault = λ e. absurd (cc);
      no_memory = λ e. absurd (cc);
      bad_scenario = λ line reason e. (inl (sym (ap bad_of e), subst (λ (b : Bad). IfSome left (λ bytes. scenario_of bytes ≡ Err b)) (ap bad_of e) (long_left left h)), record { wrote = refl; same = refl });
      open_fault = λ e. absurd (cc);
      words = λ e. absurd (cc);
      taken = took;
      calm_source = λ ne. calm;
      calm_files = λ ne. refl;
      calm_sink = λ ne. refl;
    }

-- ==== the statuses of a scenario

pub scenario_ok : (run : RunKind) (s : ScenarioData) (files files' : Option FilesState) (opened opened' : ℕ) (old new : Option (List ℕ)) (wrote wrote' : ℕ) → opened' ≡ opened → wrote' ≡ wrote → run.whole files files' s old new
    → ScenarioEnds run s (files_and_sink files opened old wrote) (files_and_sink files' opened' new wrote') status.Ok
scenario_ok run s files files' opened opened' old new wrote wrote' calm still h =
    record { ok = λ e. h; write_fault = λ e. absurd (cc); no_memory = λ e. absurd (cc); open_fault = λ e. absurd (cc); reads = λ e. absurd (cc); scenario = λ line reason e. absurd (cc); words = λ e. absurd (cc); calm_files = λ ne. calm; calm_sink = λ ne. still }

pub scenario_cut : (run : RunKind) (s : ScenarioData) (files files' : Option FilesState) (opened opened' : ℕ) (old new : Option (List ℕ)) (wrote wrote' : ℕ) → opened' ≡ opened → Rose wrote wrote' → run.cut_short files files' s old new
    → ScenarioEnds run s (files_and_sink files opened old wrote) (files_and_sink files' opened' new wrote') status.WriteFault
scenario_cut run s files files' opened opened' old new wrote wrote' calm rose h =
    record { ok = λ e. absurd (cc); write_fault = λ e. (rose, h); no_memory = λ e. absurd (cc); open_fault = λ e. absurd (cc); reads = λ e. absurd (cc); scenario = λ line reason e. absurd (cc); words = λ e. absurd (cc); calm_files = λ ne. calm; calm_sink = λ ne. absurd (ne refl) }

pub scenario_wanting : (run : RunKind) (s : ScenarioData) (files files' : Option FilesState) (opened opened' : ℕ) (old new : Option (List ℕ)) (wrote wrote' : ℕ) → opened' ≡ opened → wrote' ≡ wrote → StoppedByMemory run.stopped files files' s old new
    → ScenarioEnds run s (files_and_sink files opened old wrote) (files_and_sink files' opened' new wrote') status.NoMemory
scenario_wanting run s files files' opened opened' old new wrote wrote' calm still h =
    record { ok = λ e. absurd (cc); write_fault = λ e. absurd (cc); no_memory = λ e. h; open_fault = λ e. absurd (cc); reads = λ e. absurd (cc); scenario = λ line reason e. absurd (cc); words = λ e. absurd (cc); calm_files = λ ne. calm; calm_sink = λ ne. still }

pub scenario_not_opened : (run : RunKind) (s : ScenarioData) (files files' : Option FilesState) (opened opened' : ℕ) (old new : Option (List ℕ)) (wrote wrote' : ℕ) → wrote' ≡ wrote → Rose opened opened' × NotOpened files files' s old new
    → ScenarioEnds run s (files_and_sink files opened old wrote) (files_and_sink files' opened' new wrote') status.OpenFault
scenario_not_opened run s files files' opened opened' old new wrote wrote' still h =
    record { ok = λ e. absurd (cc); write_fault = λ e. absurd (cc); no_memory = λ e. absurd (cc); open_fault = λ e. h; reads = λ e. absurd (cc); scenario = λ line reason e. absurd (cc); words = λ e. absurd (cc); calm_files = λ ne. absurd (ne refl); calm_sink = λ ne. still }
