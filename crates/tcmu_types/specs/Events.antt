-- What contracts see of the events of a device, of their answers and of journal entries: the code's, without the room of lists.
use Rattle.std.specs.Prelude.{ℕ, Bool, List}
use Rattle.tcmu_types.specs.Data.{CommandData}
use Rattle.tcmu_types.specs.declared.answer.Submit as answer_submit
use Rattle.tcmu_types.specs.declared.answer.Handle as answer_handle
use Rattle.tcmu_types.specs.declared.answer.Respond as answer_respond
use Rattle.tcmu_types.specs.declared.answer.Publish as answer_publish
use Rattle.tcmu_types.specs.declared.answer.Enter as answer_enter
use Rattle.tcmu_types.specs.declared.answer.Reset as answer_reset
use Rattle.tcmu_types.specs.declared.answer.Tmr as answer_tmr
use Rattle.tcmu_types.specs.declared.stat.Stat as answer_stat

pub data EventData : Type 0 where
  Submit : CommandData → EventData
  Dispatch : EventData
  Handle : ℕ → EventData
  Respond : ℕ → EventData
  Publish : EventData
  Clean : EventData
  Tick : ℕ → EventData
  Block : EventData
  Unblock : EventData
  Reset : ℕ → EventData
  Restart : EventData
  Tmr : ℕ → List ℕ → EventData
  Stat : EventData
  Enter : EventData

pub data DispatchData : Type 0 where
  Job : ℕ → DispatchData
  Note : ℕ → List ℕ → DispatchData
  Nothing : DispatchData
  Detached : DispatchData

pub data AnswerData : Type 0 where
  Submitted : answer_submit.Submit → AnswerData
  Dispatched : DispatchData → AnswerData
  Answered : answer_handle.Handle → AnswerData
  Responded : answer_respond.Respond → AnswerData
  Published : answer_publish.Publish → AnswerData
  Logged : ℕ → AnswerData
  Changed : Bool → AnswerData
  WasReset : answer_reset.Reset → AnswerData
  Lost : ℕ → AnswerData
  Noted : answer_tmr.Tmr → AnswerData
  Told : answer_stat.Stat → AnswerData
  Entered : answer_enter.Enter → AnswerData

pub record EntryData : Type 0 where
  pub device : ℕ
  pub event : EventData
  pub answer : AnswerData
  pub logged : ℕ
