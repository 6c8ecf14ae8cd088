-- Worked examples: events of a device, with the answers and completions that they are to give.
use Rattle.std.specs.Prelude.{◌≡◌, ℕ, true, false, List, [], ◌∷◌, ◌++◌, map, Some, None, Option, suc, zero}
use Rattle.tcmu_types.specs.Overwriting.{zeros}
use Rattle.tcmu_types.specs.Data.{CommandData, ReplyData, DoneData, SettingsData}
use Rattle.tcmu_types.specs.declared.settings.Flags.{Flags}
use Rattle.tcmu_types.specs.Events.{EventData, AnswerData, EntryData, Job, Note, Detached}
use Rattle.tcmu_types.specs.Events as ev
use Rattle.tcmu_types.specs.declared.answer.Handle.TheVariants as handle
use Rattle.tcmu_types.specs.declared.answer.Submit.TheVariants as submit
use Rattle.tcmu_types.specs.declared.answer.Enter.TheVariants as enter
use Rattle.tcmu_types.specs.declared.answer.Respond.TheVariants as respond
use Rattle.tcmu_types.specs.declared.answer.Publish.TheVariants as publish
use Rattle.tcmu_types.specs.declared.answer.Reset.TheVariants as reset
use Rattle.tcmu_types.specs.declared.answer.Tmr.TheVariants as tmr
use Rattle.tcmu_model.specs.Device.{Unfinished, DeviceState, opening_state}
use Rattle.tcmu_model.specs.Events.{submit_answer, after_submit, enter_answer, after_enter, dispatch_answer, after_dispatch, command_out, after_handle, respond_answer, after_respond, publish_answer, after_publish, clean_answer, after_clean, tick_answer, after_tick, block_answer, after_block, reset_answer, after_reset, restart_answer, after_restart, tmr_answer, after_tmr, stat_answer, check_condition, closing}
use Rattle.tcmu_model.specs.Drain.{drain_event}
use Rattle.tcmu_model.specs.Journals.{IsExplainedAt}

-- an event, and a handler's reply
pub data Ask : Type 0 where
  does : EventData → Ask
  replies : ℕ → ReplyData → Ask

unfoldable pub answer_of : DeviceState → Option Unfinished → ℕ → ReplyData → AnswerData
answer_of d None s reply = ev.Answered (handle.NotOut s)
answer_of d (Some u) s reply = ev.Answered (handle.Done reply)

unfoldable pub answer : DeviceState → Ask → AnswerData
answer d (does (ev.Submit c)) = ev.Submitted (submit_answer d c)
answer d (does ev.Dispatch) = ev.Dispatched (dispatch_answer d)
answer d (does (ev.Handle s)) = ev.Answered (handle.NotOut s)
answer d (does (ev.Respond s)) = ev.Responded (respond_answer d s)
answer d (does ev.Publish) = ev.Published (publish_answer d)
answer d (does ev.Clean) = ev.Logged (clean_answer d)
answer d (does (ev.Tick n)) = ev.Logged (tick_answer d n)
answer d (does ev.Block) = ev.Changed (block_answer d true)
answer d (does ev.Unblock) = ev.Changed (block_answer d false)
answer d (does (ev.Reset level)) = ev.WasReset (reset_answer d level)
answer d (does ev.Restart) = ev.Lost (restart_answer d)
answer d (does (ev.Tmr kind ss)) = ev.Noted (tmr_answer d ss)
answer d (does ev.Stat) = ev.Told (stat_answer d)
answer d (does ev.Enter) = ev.Entered (enter_answer d)
answer d (replies s reply) = answer_of d (command_out d s) s reply

unfoldable pub after : DeviceState → Ask → DeviceState
after d (does (ev.Submit c)) = after_submit d c (submit_answer d c)
after d (does ev.Dispatch) = after_dispatch d
after d (does (ev.Handle s)) = d
after d (does (ev.Respond s)) = after_respond d s
after d (does ev.Publish) = after_publish d
after d (does ev.Clean) = after_clean d
after d (does (ev.Tick n)) = after_tick d n
after d (does ev.Block) = after_block d true
after d (does ev.Unblock) = after_block d false
after d (does (ev.Reset level)) = after_reset d level
after d (does ev.Restart) = after_restart d
after d (does (ev.Tmr kind ss)) = after_tmr d kind ss (tmr_answer d ss)
after d (does ev.Stat) = d
after d (does ev.Enter) = after_enter d (enter_answer d)
after d (replies s reply) = after_handle d s reply

unfoldable pub answers : DeviceState → List Ask → List AnswerData
answers d [] = []
answers d (a ∷ rest) = answer d a ∷ answers (after d a) rest

unfoldable pub afterwards : DeviceState → List Ask → DeviceState
afterwards d [] = d
afterwards d (a ∷ rest) = afterwards (after d a) rest

-- ==== devices and commands

unfoldable pub flags_ooo : Flags
flags_ooo = record { ooo = true; read_len = false; tmr = false }

unfoldable pub flags_none : Flags
flags_none = record { ooo = false; read_len = false; tmr = false }

-- 4096 bytes of ring, 16 blocks, out of order, 30 ticks
unfoldable pub dev : SettingsData
dev = record { ring = 4096; blocks = 16; flags = flags_ooo; timeout = 30; qfull = 0; pages = 1 }

-- READ(10) of one logical block
unfoldable pub read_one : ℕ → CommandData
read_one tag = record { init = 97 ∷ []; tag = tag; cdb = 0x28 ∷ 0 ∷ 0 ∷ 0 ∷ 0 ∷ 0 ∷ 0 ∷ 0 ∷ 1 ∷ 0 ∷ []; sent = []; in_len = 512 }

unfoldable pub good : ReplyData
good = record { status = 0; sense = None; payload = 1 ∷ [] }

-- READ(10) that asks for so many bytes
unfoldable pub read_of : ℕ → ℕ → CommandData
read_of tag n = record { init = 97 ∷ []; tag = tag; cdb = 0x28 ∷ 0 ∷ 0 ∷ 0 ∷ 0 ∷ 0 ∷ 0 ∷ 0 ∷ 1 ∷ 0 ∷ []; sent = []; in_len = n }

-- TEST UNIT READY
unfoldable pub test_unit : ℕ → CommandData
test_unit tag = record { init = 97 ∷ []; tag = tag; cdb = 0 ∷ 0 ∷ 0 ∷ 0 ∷ 0 ∷ 0 ∷ []; sent = []; in_len = 0 }

unfoldable pub times : ℕ → Ask → List Ask
times zero a = []
times (suc n) a = a ∷ times n a

-- the drain's choices, each request answered with GOOD
unfoldable pub asked_by : EventData → Ask
asked_by (ev.Handle s) = replies s good
asked_by e = does e

unfoldable pub drained_by : ℕ → DeviceState → List Ask
drained_by zero d = []
drained_by (suc n) d = elim (drain_event d) [ None ↦ [] | Some e ↦ asked_by e ∷ drained_by n (after d (asked_by e)) ]

unfoldable pub drained : DeviceState → List Ask
drained d = drained_by 40 d

unfoldable pub submits : CommandData → Ask
submits c = does (ev.Submit c)

unfoldable pub logged : DeviceState → List ℕ
logged d = map (λ e. e.serial) d.log

unfoldable pub statuses : DeviceState → List ℕ
statuses d = map (λ e. e.status) d.log

unfoldable pub device_with : SettingsData → List Ask → DeviceState
device_with s asks = afterwards (opening_state s) asks

-- ==== room

-- 31 entries of 128 bytes leave 127 bytes, so the next does not fit
abbrev pub RingFills : Type 0
RingFills = answers (afterwards (opening_state (record dev { blocks = 64 })) (times 30 (submits (read_one 1)))) (submits (read_one 1) ∷ submits (read_one 1) ∷ []) ≡ ev.Submitted (submit.Queued 31) ∷ ev.Submitted (submit.FullRing 128 127) ∷ []

unfoldable pub exact_fit : List Ask
exact_fit = submits (read_one 1) ∷ submits (test_unit 1) ∷ submits (read_one 1) ∷ submits (test_unit 1) ∷ []

-- an item fits exactly, and the one behind it would need padding
abbrev pub ExactlyFull : Type 0
ExactlyFull = answers (afterwards (opening_state (record dev { blocks = 64 })) (times 29 (submits (read_one 1)))) exact_fit ≡ ev.Submitted (submit.Queued 30) ∷ ev.Submitted (submit.Queued 31) ∷ ev.Submitted (submit.Queued 32) ∷ ev.Submitted (submit.FullRing 128 7) ∷ []

unfoldable pub blocks_row : List Ask
blocks_row = submits (read_of 1 65536) ∷ does (ev.Tick 30) ∷ submits (read_one 2) ∷ []

-- an expired command keeps its blocks
abbrev pub BlocksFill : Type 0
BlocksFill = answers (opening_state dev) blocks_row ≡ ev.Submitted (submit.Queued 1) ∷ ev.Logged 1 ∷ ev.Submitted (submit.FullBlocks 1 0) ∷ []

-- until it is drained
abbrev pub BlocksFree : Type 0
BlocksFree = let d : DeviceState = device_with dev blocks_row in answers (afterwards d (drained d)) (submits (read_one 2) ∷ []) ≡ ev.Submitted (submit.Queued 2) ∷ []

-- an entry over half the ring is too big, also where there are blocks
abbrev pub TooLong : Type 0
TooLong = answers (opening_state (record dev { ring = 8192; blocks = 256 })) (submits (read_of 1 1048576) ∷ []) ≡ ev.Submitted (submit.TooBig 4160 4096) ∷ []

-- and fits a ring of 12 KiB
abbrev pub LongEnough : Type 0
LongEnough = answers (opening_state (record dev { ring = 12288; blocks = 256 })) (submits (read_of 1 1048576) ∷ []) ≡ ev.Submitted (submit.Queued 1) ∷ []

-- a command of more blocks than the data area has is too big
abbrev pub TooManyBlocks : Type 0
TooManyBlocks = answers (opening_state dev) (submits (read_of 1 69632) ∷ []) ≡ ev.Submitted (submit.TooBig 17 16) ∷ []

-- ==== answers out of order and in order

unfoldable pub three_reads : List Ask
three_reads = submits (read_one 1) ∷ does ev.Dispatch ∷ replies 1 good ∷ does (ev.Respond 1) ∷ does ev.Publish ∷ does ev.Clean ∷ submits (read_one 2) ∷ submits (read_one 3) ∷ submits (read_one 4) ∷ does ev.Dispatch ∷ does ev.Dispatch ∷ does ev.Dispatch ∷ replies 4 good ∷ does (ev.Respond 4) ∷ replies 2 good ∷ does (ev.Respond 2) ∷ replies 3 good ∷ does (ev.Respond 3) ∷ does ev.Publish ∷ does ev.Clean ∷ []

-- out of order each answer is placed at once
abbrev pub OutOfOrder : Type 0
OutOfOrder = answers (opening_state dev) three_reads ≡ ev.Submitted (submit.Queued 1) ∷ ev.Dispatched (Job 1) ∷ ev.Answered (handle.Done good) ∷ ev.Responded respond.Placed ∷ ev.Published (publish.Moved 1 1) ∷ ev.Logged 1 ∷ ev.Submitted (submit.Queued 2) ∷ ev.Submitted (submit.Queued 3) ∷ ev.Submitted (submit.Queued 4) ∷ ev.Dispatched (Job 2) ∷ ev.Dispatched (Job 3) ∷ ev.Dispatched (Job 4) ∷ ev.Answered (handle.Done good) ∷ ev.Responded respond.Placed ∷ ev.Answered (handle.Done good) ∷ ev.Responded respond.Placed ∷ ev.Answered (handle.Done good) ∷ ev.Responded respond.Placed ∷ ev.Published (publish.Moved 3 3) ∷ ev.Logged 3 ∷ []

-- and completed in that order
abbrev pub LoggedAsPlaced : Type 0
LoggedAsPlaced = logged (device_with dev three_reads) ≡ 1 ∷ 4 ∷ 2 ∷ 3 ∷ []

-- in order an answer waits for those of earlier commands
abbrev pub InOrder : Type 0
InOrder = answers (opening_state (record dev { flags = flags_none })) three_reads ≡ ev.Submitted (submit.Queued 1) ∷ ev.Dispatched (Job 1) ∷ ev.Answered (handle.Done good) ∷ ev.Responded respond.Placed ∷ ev.Published (publish.Moved 1 1) ∷ ev.Logged 1 ∷ ev.Submitted (submit.Queued 2) ∷ ev.Submitted (submit.Queued 3) ∷ ev.Submitted (submit.Queued 4) ∷ ev.Dispatched (Job 2) ∷ ev.Dispatched (Job 3) ∷ ev.Dispatched (Job 4) ∷ ev.Answered (handle.Done good) ∷ ev.Responded respond.Parked ∷ ev.Answered (handle.Done good) ∷ ev.Responded respond.Placed ∷ ev.Answered (handle.Done good) ∷ ev.Responded respond.Placed ∷ ev.Published (publish.Moved 3 3) ∷ ev.Logged 3 ∷ []

-- and completions come as the commands were laid
abbrev pub LoggedAsLaid : Type 0
LoggedAsLaid = logged (device_with (record dev { flags = flags_none }) three_reads) ≡ 1 ∷ 2 ∷ 3 ∷ 4 ∷ []

-- ==== expiry

unfoldable pub expired_row : List Ask
expired_row = submits (read_one 1) ∷ does ev.Dispatch ∷ does (ev.Tick 5) ∷ does ev.Stat ∷ []

-- an expired command is logged at its deadline and stays in the ring
abbrev pub Expires : Type 0
Expires = answers (opening_state (record dev { timeout = 5 })) expired_row ≡ ev.Submitted (submit.Queued 1) ∷ ev.Dispatched (Job 1) ∷ ev.Logged 1 ∷ ev.Told (record { now = 5; blocked = false; attached = true; head = 128; used = 128; waiting = 0; out = 1; handled = 0; parked = 0; placed = 0; lost = 0; expired = 1; held = 1; delayed = 0 }) ∷ []

-- with ABORTED COMMAND, LOGICAL UNIT COMMUNICATION TIME-OUT
abbrev pub ExpiredSense : Type 0
ExpiredSense = (device_with (record dev { timeout = 5 }) expired_row).log ≡ record { serial = 1; init = 97 ∷ []; tag = 1; status = 2; sense = Some (record { key = 11; asc = 8; ascq = 1 }); payload = [] } ∷ []

-- the drain finishes it and logs nothing
abbrev pub LoggedOnce : Type 0
LoggedOnce = let d : DeviceState = device_with (record dev { timeout = 5 }) expired_row in answers d (drained d) ≡ ev.Answered (handle.Done good) ∷ ev.Responded respond.Placed ∷ ev.Published (publish.Moved 1 1) ∷ ev.Logged 0 ∷ []

-- before its deadline nothing expires
abbrev pub NotDue : Type 0
NotDue = answers (opening_state (record dev { timeout = 5 })) (submits (read_one 1) ∷ does (ev.Tick 4) ∷ []) ≡ ev.Submitted (submit.Queued 1) ∷ ev.Logged 0 ∷ []

-- without a timeout nothing ever does
abbrev pub NeverDue : Type 0
NeverDue = answers (opening_state (record dev { timeout = 0 })) (submits (read_one 1) ∷ does (ev.Tick 1000000) ∷ []) ≡ ev.Submitted (submit.Queued 1) ∷ ev.Logged 0 ∷ []

-- ==== block, reset and restart

unfoldable pub reset_row : List Ask
reset_row = submits (read_one 1) ∷ does ev.Dispatch ∷ does (ev.Reset 1) ∷ does ev.Block ∷ does ev.Block ∷ does (ev.Reset 1) ∷ does ev.Restart ∷ does (ev.Reset 1) ∷ does ev.Stat ∷ submits (read_one 2) ∷ []

-- a reset wants a blocked device with no command in a handler's hand
abbrev pub ResetAnswers : Type 0
ResetAnswers = answers (opening_state dev) reset_row ≡ ev.Submitted (submit.Queued 1) ∷ ev.Dispatched (Job 1) ∷ ev.WasReset reset.NotBlocked ∷ ev.Changed true ∷ ev.Changed false ∷ ev.WasReset (reset.HandlersOut 1) ∷ ev.Lost 1 ∷ ev.WasReset (reset.Reset 1) ∷ ev.Told (record { now = 0; blocked = true; attached = true; head = 0; used = 0; waiting = 0; out = 0; handled = 0; parked = 0; placed = 0; lost = 0; expired = 0; held = 0; delayed = 0 }) ∷ ev.Submitted submit.Busy ∷ []

-- and completes what is open with BUSY
abbrev pub ResetStatus : Type 0
ResetStatus = (device_with dev reset_row).log ≡ record { serial = 1; init = 97 ∷ []; tag = 1; status = 8; sense = None; payload = [] } ∷ []

unfoldable pub lost_row : List Ask
lost_row = submits (read_one 1) ∷ submits (read_one 2) ∷ does ev.Dispatch ∷ does ev.Dispatch ∷ replies 2 good ∷ does (ev.Respond 2) ∷ does ev.Publish ∷ does ev.Restart ∷ does ev.Block ∷ []

-- an answer that was published before the user side went is cleaned first
abbrev pub LostReset : Type 0
LostReset = answers (opening_state dev) lost_row ≡ ev.Submitted (submit.Queued 1) ∷ ev.Submitted (submit.Queued 2) ∷ ev.Dispatched (Job 1) ∷ ev.Dispatched (Job 2) ∷ ev.Answered (handle.Done good) ∷ ev.Responded respond.Placed ∷ ev.Published (publish.Moved 1 1) ∷ ev.Lost 1 ∷ ev.Changed true ∷ []

-- then what is open is completed
abbrev pub LostLog : Type 0
LostLog = (device_with dev (lost_row ++ does (ev.Reset 1) ∷ [])).log ≡ record { serial = 2; init = 97 ∷ []; tag = 2; status = 0; sense = None; payload = 1 ∷ zeros 511 } ∷ record { serial = 1; init = 97 ∷ []; tag = 1; status = 8; sense = None; payload = [] } ∷ []

-- a target reset says HARDWARE ERROR, INTERNAL TARGET FAILURE
abbrev pub LostLogTarget : Type 0
LostLogTarget = (device_with dev (lost_row ++ does (ev.Reset 2) ∷ [])).log ≡ record { serial = 2; init = 97 ∷ []; tag = 2; status = 0; sense = None; payload = 1 ∷ zeros 511 } ∷ record { serial = 1; init = 97 ∷ []; tag = 1; status = 2; sense = Some (record { key = 4; asc = 68; ascq = 0 }); payload = [] } ∷ []

-- both are counted
abbrev pub LostCount : Type 0
LostCount = answers (device_with dev lost_row) (does (ev.Reset 1) ∷ []) ≡ ev.WasReset (reset.Reset 2) ∷ []

unfoldable pub detached_row : List Ask
detached_row = submits (read_one 1) ∷ does ev.Dispatch ∷ does ev.Restart ∷ does ev.Dispatch ∷ does ev.Publish ∷ replies 1 good ∷ does (ev.Respond 1) ∷ []

-- a detached device dispatches and publishes nothing
abbrev pub DoesNothingDetached : Type 0
DoesNothingDetached = answers (opening_state dev) detached_row ≡ ev.Submitted (submit.Queued 1) ∷ ev.Dispatched (Job 1) ∷ ev.Lost 1 ∷ ev.Dispatched Detached ∷ ev.Published publish.Detached ∷ ev.Answered (handle.NotOut 1) ∷ ev.Responded (respond.NotHandled 1) ∷ []

-- ==== task management

unfoldable pub note_front : List Ask
note_front = submits (read_one 1) ∷ does ev.Dispatch ∷ replies 1 good ∷ does (ev.Respond 1) ∷ does ev.Publish ∷ does ev.Clean ∷ []

unfoldable pub note_row : List Ask
note_row = does (ev.Tmr 1 (1 ∷ [])) ∷ submits (read_one 2) ∷ does ev.Dispatch ∷ replies 2 good ∷ does (ev.Respond 2) ∷ does (ev.Tmr 1 (2 ∷ [])) ∷ does ev.Dispatch ∷ []

-- a note names unfinished commands alone, and tells the user side of those that run
abbrev pub NoteAnswers : Type 0
NoteAnswers = answers (device_with (record dev { flags = record { ooo = true; read_len = false; tmr = true } }) note_front) note_row ≡ ev.Noted (tmr.Unknown 1) ∷ ev.Submitted (submit.Queued 2) ∷ ev.Dispatched (Job 2) ∷ ev.Answered (handle.Done good) ∷ ev.Responded respond.Placed ∷ ev.Noted tmr.Noted ∷ ev.Dispatched (Note 1 []) ∷ []

-- it is published and cleared with what stands before it
abbrev pub NotesPass : Type 0
NotesPass = let d : DeviceState = device_with (record dev { flags = record { ooo = true; read_len = false; tmr = true } }) (note_front ++ note_row) in answers d (drained d) ≡ ev.Published (publish.Moved 2 1) ∷ ev.Logged 1 ∷ []

-- without the flag there are none
abbrev pub NotesOff : Type 0
NotesOff = answers (opening_state dev) (does (ev.Tmr 5 []) ∷ []) ≡ ev.Noted tmr.Off ∷ []

-- ==== waiting for room

unfoldable pub waits_row : List Ask
waits_row = submits (read_one 1) ∷ submits (read_one 2) ∷ does ev.Enter ∷ []

-- a command for which room lacks waits, and leaves with TASK SET FULL at its moment
abbrev pub Waits : Type 0
Waits = answers (opening_state (record dev { blocks = 1; qfull = 5 })) (waits_row ++ does (ev.Tick 5) ∷ does ev.Enter ∷ []) ≡ ev.Submitted (submit.Queued 1) ∷ ev.Submitted (submit.Delayed 2) ∷ ev.Entered (enter.FullBlocks 1 0) ∷ ev.Logged 1 ∷ ev.Entered enter.Empty ∷ []

-- its completion
abbrev pub LeavesFull : Type 0
LeavesFull = (device_with (record dev { blocks = 1; qfull = 5 }) (waits_row ++ does (ev.Tick 5) ∷ [])).log ≡ record { serial = 2; init = 97 ∷ []; tag = 2; status = 40; sense = None; payload = [] } ∷ []

-- before its moment it stays
abbrev pub StaysDelayed : Type 0
StaysDelayed = answers (opening_state (record dev { blocks = 1; qfull = 5 })) (waits_row ++ does (ev.Tick 4) ∷ []) ≡ ev.Submitted (submit.Queued 1) ∷ ev.Submitted (submit.Delayed 2) ∷ ev.Entered (enter.FullBlocks 1 0) ∷ ev.Logged 0 ∷ []

-- a reset completes it too
abbrev pub WaitsReset : Type 0
WaitsReset = logged (device_with (record dev { blocks = 1; qfull = 5 }) (waits_row ++ does ev.Block ∷ does (ev.Reset 1) ∷ [])) ≡ 1 ∷ 2 ∷ []

-- with BUSY
abbrev pub WaitsBusy : Type 0
WaitsBusy = statuses (device_with (record dev { blocks = 1; qfull = 5 }) (waits_row ++ does ev.Block ∷ does (ev.Reset 1) ∷ [])) ≡ 8 ∷ 8 ∷ []

-- the drain lets it enter when there is room
abbrev pub WaitsDrained : Type 0
WaitsDrained = let d : DeviceState = device_with (record dev { blocks = 1; qfull = 5 }) (submits (read_one 1) ∷ submits (read_one 2) ∷ []) in answers d (drained d) ≡ ev.Dispatched (Job 1) ∷ ev.Answered (handle.Done good) ∷ ev.Responded respond.Placed ∷ ev.Published (publish.Moved 1 1) ∷ ev.Logged 1 ∷ ev.Entered (enter.Entered 2) ∷ ev.Dispatched (Job 2) ∷ ev.Answered (handle.Done good) ∷ ev.Responded respond.Placed ∷ ev.Published (publish.Moved 1 1) ∷ ev.Logged 1 ∷ []

-- ==== causes of completions

unfoldable pub entry : EventData → AnswerData → EntryData
entry event answer = record { device = 0; event = event; answer = answer; logged = 0 }

-- a command is queued, another has to wait, so many ticks pass, the ring is cleaned
unfoldable pub queued_one : EntryData
queued_one = entry (ev.Submit (read_one 1)) (ev.Submitted (submit.Queued 1))

unfoldable pub delayed_two : EntryData
delayed_two = entry (ev.Submit (read_one 2)) (ev.Submitted (submit.Delayed 2))

unfoldable pub ticked : ℕ → EntryData
ticked n = entry (ev.Tick n) (ev.Logged 1)

unfoldable pub was_cleaned : EntryData
was_cleaned = entry ev.Clean (ev.Logged 1)

-- the one expires, the other finds no room
unfoldable pub timed_out : DoneData
timed_out = check_condition 0x0b 0x08 0x01 1 (read_one 1)

unfoldable pub left_full : DoneData
left_full = closing 0x28 None 2 (read_one 2)

-- a device of one block, in which a command waits for 5 ticks
unfoldable pub small : SettingsData
small = record dev { blocks = 1; qfull = 5 }

-- a command of 30 ticks expires at the tick to moment 30
abbrev pub ExpiresInTime : Type 0
ExpiresInTime = IsExplainedAt dev (queued_one ∷ ticked 29 ∷ []) (ticked 1) timed_out

-- and not a tick early
abbrev pub ExpiresNotEarly : Type 0
ExpiresNotEarly = ¬ IsExplainedAt dev (queued_one ∷ []) (ticked 29) timed_out

-- nor a tick late
abbrev pub ExpiresNotLate : Type 0
ExpiresNotLate = ¬ IsExplainedAt dev (queued_one ∷ ticked 30 ∷ []) (ticked 1) timed_out

-- no clean lets it expire
abbrev pub CleanExpiresNone : Type 0
CleanExpiresNone = ¬ IsExplainedAt dev (queued_one ∷ ticked 30 ∷ []) was_cleaned timed_out

-- a command that waits for 5 ticks leaves at the tick to the fifth
abbrev pub LeavesInTime : Type 0
LeavesInTime = IsExplainedAt small (queued_one ∷ delayed_two ∷ ticked 4 ∷ []) (ticked 1) left_full

abbrev pub LeavesNotEarly : Type 0
LeavesNotEarly = ¬ IsExplainedAt small (queued_one ∷ delayed_two ∷ []) (ticked 4) left_full

abbrev pub LeavesNotLate : Type 0
LeavesNotLate = ¬ IsExplainedAt small (queued_one ∷ delayed_two ∷ ticked 5 ∷ []) (ticked 1) left_full
