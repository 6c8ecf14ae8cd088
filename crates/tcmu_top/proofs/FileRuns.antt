-- What a device leaves of its medium is behind a run of the medium's calls.
use Rattle.std.proofs.Common.{◌≡◌, List, [], ◌∷◌, sym, subst}
use Rattle.tcmu_types.specs.Events.{EventData, AnswerData}
use Rattle.tcmu_types.specs.Events as ev
use Rattle.tcmu_types.specs.declared.answer.Handle.TheVariants as handle
use Rattle.tcmu_model.specs.Device.{DeviceState, Device}
use Rattle.tcmu_model.specs.Steps.{Makes, asked, moved}
use Rattle.scsi_model.specs.Runs.{IsRun}
use Rattle.scsi_model.specs.Scsi.{Serves}
use Rattle.scsi_model.proofs.Running.{run_none, run_then}
use Rattle.text_model.specs.Journals.{Journaled, RunLogs}
use Rattle.block_engine.proofs.Settling.{request_runs}

same_medium : (d d' : Device) (s : DeviceState) → d' ≡ moved d s → IsRun d.medium d'.medium
same_medium d d' s e = subst (λ (x : Device). IsRun d.medium x.medium) (sym e) (run_none d.medium)

same_device : (d d' : Device) → d' ≡ d → IsRun d.medium d'.medium
same_device d d' e = subst (λ (x : Device). IsRun d.medium x.medium) (sym e) (run_none d.medium)

event_runs : (d d' : Device) (e : EventData) (a : AnswerData) → Makes Serves d e a d' → IsRun d.medium d'.medium
event_runs d d' (ev.Submit c) (ev.Submitted a) h = same_medium d d' _ h.after
event_runs d d' ev.Dispatch (ev.Dispatched a) h = same_medium d d' _ h.after
event_runs d d' (ev.Handle s) (ev.Answered (handle.Done reply)) h = request_runs d.name d.medium (asked h.0.command) reply d'.medium h.1.relation
event_runs d d' (ev.Handle s) (ev.Answered (handle.NotOut t)) h = same_device d d' h.2
event_runs d d' (ev.Respond s) (ev.Responded a) h = same_medium d d' _ h.after
event_runs d d' ev.Publish (ev.Published a) h = same_medium d d' _ h.after
event_runs d d' ev.Clean (ev.Logged n) h = same_medium d d' _ h.after
event_runs d d' (ev.Tick n) (ev.Logged count) h = same_medium d d' _ h.after
event_runs d d' ev.Block (ev.Changed b) h = same_medium d d' _ h.after
event_runs d d' ev.Unblock (ev.Changed b) h = same_medium d d' _ h.after
event_runs d d' (ev.Reset level) (ev.WasReset a) h = same_medium d d' _ h.after
event_runs d d' ev.Restart (ev.Lost n) h = same_medium d d' _ h.after
event_runs d d' (ev.Tmr kind ss) (ev.Noted a) h = same_medium d d' _ h.after
event_runs d d' ev.Stat (ev.Told a) h = same_device d d' h.after
event_runs d d' ev.Enter (ev.Entered a) h = same_medium d d' _ h.after
event_runs d d' _ _ h = absurd h

pub device_runs : (d d' : Device) (js : List Journaled) → RunLogs Serves d js d' → IsRun d.medium d'.medium
device_runs d d' [] h = same_device d d' h
device_runs d d' (j ∷ js) h = run_then d.medium h.0.medium d'.medium (event_runs d h.0 j.entry.event j.entry.answer h.1.makes) (device_runs h.0 d' js h.3)
