-- The code's events and answers as contracts see them.
use Rattle.tcmu_types.specs.Events.{EventData, DispatchData, AnswerData}
use Rattle.tcmu_types.specs.Events as ev
use Rattle.tcmu_types.specs.declared.event.Event.{Event}
use Rattle.tcmu_types.specs.declared.event.Event.TheVariants as event
use Rattle.tcmu_types.specs.declared.answer.Answer.{Answer}
use Rattle.tcmu_types.specs.declared.answer.Answer.TheVariants as answer
use Rattle.tcmu_types.specs.declared.answer.Dispatch.{Dispatch}
use Rattle.tcmu_types.specs.declared.answer.Dispatch.TheVariants as dispatch

abbrev pub event_data : Event → EventData
event_data (event.Submit c) = ev.Submit c
event_data event.Dispatch = ev.Dispatch
event_data (event.Handle s) = ev.Handle s
event_data (event.Respond s) = ev.Respond s
event_data event.Publish = ev.Publish
event_data event.Clean = ev.Clean
event_data (event.Tick n) = ev.Tick n
event_data event.Block = ev.Block
event_data event.Unblock = ev.Unblock
event_data (event.Reset level) = ev.Reset level
event_data event.Restart = ev.Restart
event_data (event.Tmr kind serials) = ev.Tmr kind serials.items
event_data event.Stat = ev.Stat
event_data event.Enter = ev.Enter

abbrev pub dispatch_data : Dispatch → DispatchData
dispatch_data (dispatch.Job s) = ev.Job s
dispatch_data (dispatch.Note kind serials) = ev.Note kind serials.items
dispatch_data dispatch.Nothing = ev.Nothing
dispatch_data dispatch.Detached = ev.Detached

abbrev pub answer_data : Answer → AnswerData
answer_data (answer.Submit a) = ev.Submitted a
answer_data (answer.Dispatch a) = ev.Dispatched (dispatch_data a)
answer_data (answer.Handle a) = ev.Answered a
answer_data (answer.Respond a) = ev.Responded a
answer_data (answer.Publish a) = ev.Published a
answer_data (answer.Logged n) = ev.Logged n
answer_data (answer.Changed b) = ev.Changed b
answer_data (answer.Reset a) = ev.WasReset a
answer_data (answer.Lost n) = ev.Lost n
answer_data (answer.Tmr a) = ev.Noted a
answer_data (answer.Stat a) = ev.Told a
answer_data (answer.Enter a) = ev.Entered a
