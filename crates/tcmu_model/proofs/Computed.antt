-- The definitions give what the worked examples say.
use Rattle.std.proofs.Common.{refl}
use Rattle.tcmu_model.specs.Events.{queued_or_full, queued_or_delayed, with_command, with_delayed, with_note, submit_answer, after_submit, enter_answer, after_enter, dispatch_answer, after_dispatch, after_handle, respond_answer, after_respond, publish_answer, after_publish, clean_answer, after_clean, tick_answer, after_tick, block_answer, after_block, reset_answer, after_reset, restart_answer, after_restart, tmr_answer, after_tmr, stat_answer}
use Rattle.tcmu_model.specs.Drain.{todo_of, drain_event}
use Rattle.tcmu_model.specs.Examples.{answer_of, answer, after, answers, afterwards, flags_ooo, flags_none, dev, read_one, good, read_of, test_unit, times, asked_by, drained_by, drained, submits, logged, statuses, device_with, exact_fit, blocks_row, three_reads, expired_row, reset_row, lost_row, detached_row, note_front, note_row, waits_row, RingFills, ExactlyFull, BlocksFill, BlocksFree, TooLong, LongEnough, TooManyBlocks, OutOfOrder, LoggedAsPlaced, InOrder, LoggedAsLaid, Expires, ExpiredSense, LoggedOnce, NotDue, NeverDue, ResetAnswers, ResetStatus, LostReset, LostLog, LostLogTarget, LostCount, DoesNothingDetached, NoteAnswers, NotesPass, NotesOff, Waits, LeavesFull, StaysDelayed, WaitsReset, WaitsBusy, WaitsDrained}
use Rattle.tcmu_types.specs.Overwriting.{zeros}

-- ==== room

pub ring_fills : RingFills
unfolding answers answer after afterwards answer_of times dev flags_ooo flags_none read_one read_of test_unit good zeros queued_or_full queued_or_delayed with_command with_delayed with_note submit_answer after_submit enter_answer after_enter dispatch_answer after_dispatch after_handle respond_answer after_respond publish_answer after_publish clean_answer after_clean tick_answer after_tick block_answer after_block reset_answer after_reset restart_answer after_restart tmr_answer after_tmr stat_answer todo_of drain_event drained drained_by asked_by submits logged statuses device_with
ring_fills = refl

pub exactly_full : ExactlyFull
unfolding answers answer after afterwards answer_of times dev flags_ooo flags_none read_one read_of test_unit good zeros queued_or_full queued_or_delayed with_command with_delayed with_note submit_answer after_submit enter_answer after_enter dispatch_answer after_dispatch after_handle respond_answer after_respond publish_answer after_publish clean_answer after_clean tick_answer after_tick block_answer after_block reset_answer after_reset restart_answer after_restart tmr_answer after_tmr stat_answer todo_of drain_event drained drained_by asked_by submits logged statuses device_with exact_fit
exactly_full = refl

pub blocks_fill : BlocksFill
unfolding answers answer after afterwards answer_of times dev flags_ooo flags_none read_one read_of test_unit good zeros queued_or_full queued_or_delayed with_command with_delayed with_note submit_answer after_submit enter_answer after_enter dispatch_answer after_dispatch after_handle respond_answer after_respond publish_answer after_publish clean_answer after_clean tick_answer after_tick block_answer after_block reset_answer after_reset restart_answer after_restart tmr_answer after_tmr stat_answer todo_of drain_event drained drained_by asked_by submits logged statuses device_with blocks_row
blocks_fill = refl

pub blocks_free : BlocksFree
unfolding answers answer after afterwards answer_of times dev flags_ooo flags_none read_one read_of test_unit good zeros queued_or_full queued_or_delayed with_command with_delayed with_note submit_answer after_submit enter_answer after_enter dispatch_answer after_dispatch after_handle respond_answer after_respond publish_answer after_publish clean_answer after_clean tick_answer after_tick block_answer after_block reset_answer after_reset restart_answer after_restart tmr_answer after_tmr stat_answer todo_of drain_event drained drained_by asked_by submits logged statuses device_with blocks_row
blocks_free = refl

pub too_long : TooLong
unfolding answers answer after afterwards answer_of times dev flags_ooo flags_none read_one read_of test_unit good zeros queued_or_full queued_or_delayed with_command with_delayed with_note submit_answer after_submit enter_answer after_enter dispatch_answer after_dispatch after_handle respond_answer after_respond publish_answer after_publish clean_answer after_clean tick_answer after_tick block_answer after_block reset_answer after_reset restart_answer after_restart tmr_answer after_tmr stat_answer todo_of drain_event drained drained_by asked_by submits logged statuses device_with
too_long = refl

pub long_enough : LongEnough
unfolding answers answer after afterwards answer_of times dev flags_ooo flags_none read_one read_of test_unit good zeros queued_or_full queued_or_delayed with_command with_delayed with_note submit_answer after_submit enter_answer after_enter dispatch_answer after_dispatch after_handle respond_answer after_respond publish_answer after_publish clean_answer after_clean tick_answer after_tick block_answer after_block reset_answer after_reset restart_answer after_restart tmr_answer after_tmr stat_answer todo_of drain_event drained drained_by asked_by submits logged statuses device_with
long_enough = refl

pub too_many_blocks : TooManyBlocks
unfolding answers answer after afterwards answer_of times dev flags_ooo flags_none read_one read_of test_unit good zeros queued_or_full queued_or_delayed with_command with_delayed with_note submit_answer after_submit enter_answer after_enter dispatch_answer after_dispatch after_handle respond_answer after_respond publish_answer after_publish clean_answer after_clean tick_answer after_tick block_answer after_block reset_answer after_reset restart_answer after_restart tmr_answer after_tmr stat_answer todo_of drain_event drained drained_by asked_by submits logged statuses device_with
too_many_blocks = refl

-- ==== answers out of order and in order

pub out_of_order : OutOfOrder
unfolding answers answer after afterwards answer_of times dev flags_ooo flags_none read_one read_of test_unit good zeros queued_or_full queued_or_delayed with_command with_delayed with_note submit_answer after_submit enter_answer after_enter dispatch_answer after_dispatch after_handle respond_answer after_respond publish_answer after_publish clean_answer after_clean tick_answer after_tick block_answer after_block reset_answer after_reset restart_answer after_restart tmr_answer after_tmr stat_answer todo_of drain_event drained drained_by asked_by submits logged statuses device_with three_reads
out_of_order = refl

pub logged_as_placed : LoggedAsPlaced
unfolding answers answer after afterwards answer_of times dev flags_ooo flags_none read_one read_of test_unit good zeros queued_or_full queued_or_delayed with_command with_delayed with_note submit_answer after_submit enter_answer after_enter dispatch_answer after_dispatch after_handle respond_answer after_respond publish_answer after_publish clean_answer after_clean tick_answer after_tick block_answer after_block reset_answer after_reset restart_answer after_restart tmr_answer after_tmr stat_answer todo_of drain_event drained drained_by asked_by submits logged statuses device_with three_reads
logged_as_placed = refl

pub in_order : InOrder
unfolding answers answer after afterwards answer_of times dev flags_ooo flags_none read_one read_of test_unit good zeros queued_or_full queued_or_delayed with_command with_delayed with_note submit_answer after_submit enter_answer after_enter dispatch_answer after_dispatch after_handle respond_answer after_respond publish_answer after_publish clean_answer after_clean tick_answer after_tick block_answer after_block reset_answer after_reset restart_answer after_restart tmr_answer after_tmr stat_answer todo_of drain_event drained drained_by asked_by submits logged statuses device_with three_reads
in_order = refl

pub logged_as_laid : LoggedAsLaid
unfolding answers answer after afterwards answer_of times dev flags_ooo flags_none read_one read_of test_unit good zeros queued_or_full queued_or_delayed with_command with_delayed with_note submit_answer after_submit enter_answer after_enter dispatch_answer after_dispatch after_handle respond_answer after_respond publish_answer after_publish clean_answer after_clean tick_answer after_tick block_answer after_block reset_answer after_reset restart_answer after_restart tmr_answer after_tmr stat_answer todo_of drain_event drained drained_by asked_by submits logged statuses device_with three_reads
logged_as_laid = refl

-- ==== expiry

pub expires : Expires
unfolding answers answer after afterwards answer_of times dev flags_ooo flags_none read_one read_of test_unit good zeros queued_or_full queued_or_delayed with_command with_delayed with_note submit_answer after_submit enter_answer after_enter dispatch_answer after_dispatch after_handle respond_answer after_respond publish_answer after_publish clean_answer after_clean tick_answer after_tick block_answer after_block reset_answer after_reset restart_answer after_restart tmr_answer after_tmr stat_answer todo_of drain_event drained drained_by asked_by submits logged statuses device_with expired_row
expires = refl

pub expired_sense : ExpiredSense
unfolding answers answer after afterwards answer_of times dev flags_ooo flags_none read_one read_of test_unit good zeros queued_or_full queued_or_delayed with_command with_delayed with_note submit_answer after_submit enter_answer after_enter dispatch_answer after_dispatch after_handle respond_answer after_respond publish_answer after_publish clean_answer after_clean tick_answer after_tick block_answer after_block reset_answer after_reset restart_answer after_restart tmr_answer after_tmr stat_answer todo_of drain_event drained drained_by asked_by submits logged statuses device_with expired_row
expired_sense = refl

pub logged_once : LoggedOnce
unfolding answers answer after afterwards answer_of times dev flags_ooo flags_none read_one read_of test_unit good zeros queued_or_full queued_or_delayed with_command with_delayed with_note submit_answer after_submit enter_answer after_enter dispatch_answer after_dispatch after_handle respond_answer after_respond publish_answer after_publish clean_answer after_clean tick_answer after_tick block_answer after_block reset_answer after_reset restart_answer after_restart tmr_answer after_tmr stat_answer todo_of drain_event drained drained_by asked_by submits logged statuses device_with expired_row
logged_once = refl

pub not_due : NotDue
unfolding answers answer after afterwards answer_of times dev flags_ooo flags_none read_one read_of test_unit good zeros queued_or_full queued_or_delayed with_command with_delayed with_note submit_answer after_submit enter_answer after_enter dispatch_answer after_dispatch after_handle respond_answer after_respond publish_answer after_publish clean_answer after_clean tick_answer after_tick block_answer after_block reset_answer after_reset restart_answer after_restart tmr_answer after_tmr stat_answer todo_of drain_event drained drained_by asked_by submits logged statuses device_with
not_due = refl

pub never_due : NeverDue
unfolding answers answer after afterwards answer_of times dev flags_ooo flags_none read_one read_of test_unit good zeros queued_or_full queued_or_delayed with_command with_delayed with_note submit_answer after_submit enter_answer after_enter dispatch_answer after_dispatch after_handle respond_answer after_respond publish_answer after_publish clean_answer after_clean tick_answer after_tick block_answer after_block reset_answer after_reset restart_answer after_restart tmr_answer after_tmr stat_answer todo_of drain_event drained drained_by asked_by submits logged statuses device_with
never_due = refl

-- ==== block, reset and restart

pub resets : ResetAnswers
unfolding answers answer after afterwards answer_of times dev flags_ooo flags_none read_one read_of test_unit good zeros queued_or_full queued_or_delayed with_command with_delayed with_note submit_answer after_submit enter_answer after_enter dispatch_answer after_dispatch after_handle respond_answer after_respond publish_answer after_publish clean_answer after_clean tick_answer after_tick block_answer after_block reset_answer after_reset restart_answer after_restart tmr_answer after_tmr stat_answer todo_of drain_event drained drained_by asked_by submits logged statuses device_with reset_row
resets = refl

pub reset_status : ResetStatus
unfolding answers answer after afterwards answer_of times dev flags_ooo flags_none read_one read_of test_unit good zeros queued_or_full queued_or_delayed with_command with_delayed with_note submit_answer after_submit enter_answer after_enter dispatch_answer after_dispatch after_handle respond_answer after_respond publish_answer after_publish clean_answer after_clean tick_answer after_tick block_answer after_block reset_answer after_reset restart_answer after_restart tmr_answer after_tmr stat_answer todo_of drain_event drained drained_by asked_by submits logged statuses device_with reset_row
reset_status = refl

pub lost_reset : LostReset
unfolding answers answer after afterwards answer_of times dev flags_ooo flags_none read_one read_of test_unit good zeros queued_or_full queued_or_delayed with_command with_delayed with_note submit_answer after_submit enter_answer after_enter dispatch_answer after_dispatch after_handle respond_answer after_respond publish_answer after_publish clean_answer after_clean tick_answer after_tick block_answer after_block reset_answer after_reset restart_answer after_restart tmr_answer after_tmr stat_answer todo_of drain_event drained drained_by asked_by submits logged statuses device_with lost_row
lost_reset = refl

pub lost_log : LostLog
unfolding answers answer after afterwards answer_of times dev flags_ooo flags_none read_one read_of test_unit good zeros queued_or_full queued_or_delayed with_command with_delayed with_note submit_answer after_submit enter_answer after_enter dispatch_answer after_dispatch after_handle respond_answer after_respond publish_answer after_publish clean_answer after_clean tick_answer after_tick block_answer after_block reset_answer after_reset restart_answer after_restart tmr_answer after_tmr stat_answer todo_of drain_event drained drained_by asked_by submits logged statuses device_with lost_row
lost_log = refl

pub lost_log_target : LostLogTarget
unfolding answers answer after afterwards answer_of times dev flags_ooo flags_none read_one read_of test_unit good zeros queued_or_full queued_or_delayed with_command with_delayed with_note submit_answer after_submit enter_answer after_enter dispatch_answer after_dispatch after_handle respond_answer after_respond publish_answer after_publish clean_answer after_clean tick_answer after_tick block_answer after_block reset_answer after_reset restart_answer after_restart tmr_answer after_tmr stat_answer todo_of drain_event drained drained_by asked_by submits logged statuses device_with lost_row
lost_log_target = refl

pub lost_count : LostCount
unfolding answers answer after afterwards answer_of times dev flags_ooo flags_none read_one read_of test_unit good zeros queued_or_full queued_or_delayed with_command with_delayed with_note submit_answer after_submit enter_answer after_enter dispatch_answer after_dispatch after_handle respond_answer after_respond publish_answer after_publish clean_answer after_clean tick_answer after_tick block_answer after_block reset_answer after_reset restart_answer after_restart tmr_answer after_tmr stat_answer todo_of drain_event drained drained_by asked_by submits logged statuses device_with lost_row
lost_count = refl

pub detached : DoesNothingDetached
unfolding answers answer after afterwards answer_of times dev flags_ooo flags_none read_one read_of test_unit good zeros queued_or_full queued_or_delayed with_command with_delayed with_note submit_answer after_submit enter_answer after_enter dispatch_answer after_dispatch after_handle respond_answer after_respond publish_answer after_publish clean_answer after_clean tick_answer after_tick block_answer after_block reset_answer after_reset restart_answer after_restart tmr_answer after_tmr stat_answer todo_of drain_event drained drained_by asked_by submits logged statuses device_with detached_row
detached = refl

-- ==== task management

pub notes : NoteAnswers
unfolding answers answer after afterwards answer_of times dev flags_ooo flags_none read_one read_of test_unit good zeros queued_or_full queued_or_delayed with_command with_delayed with_note submit_answer after_submit enter_answer after_enter dispatch_answer after_dispatch after_handle respond_answer after_respond publish_answer after_publish clean_answer after_clean tick_answer after_tick block_answer after_block reset_answer after_reset restart_answer after_restart tmr_answer after_tmr stat_answer todo_of drain_event drained drained_by asked_by submits logged statuses device_with note_front note_row
notes = refl

pub notes_pass : NotesPass
unfolding answers answer after afterwards answer_of times dev flags_ooo flags_none read_one read_of test_unit good zeros queued_or_full queued_or_delayed with_command with_delayed with_note submit_answer after_submit enter_answer after_enter dispatch_answer after_dispatch after_handle respond_answer after_respond publish_answer after_publish clean_answer after_clean tick_answer after_tick block_answer after_block reset_answer after_reset restart_answer after_restart tmr_answer after_tmr stat_answer todo_of drain_event drained drained_by asked_by submits logged statuses device_with note_front note_row
notes_pass = refl

pub notes_off : NotesOff
unfolding answers answer after afterwards answer_of times dev flags_ooo flags_none read_one read_of test_unit good zeros queued_or_full queued_or_delayed with_command with_delayed with_note submit_answer after_submit enter_answer after_enter dispatch_answer after_dispatch after_handle respond_answer after_respond publish_answer after_publish clean_answer after_clean tick_answer after_tick block_answer after_block reset_answer after_reset restart_answer after_restart tmr_answer after_tmr stat_answer todo_of drain_event drained drained_by asked_by submits logged statuses device_with
notes_off = refl

-- ==== waiting for room

pub waits : Waits
unfolding answers answer after afterwards answer_of times dev flags_ooo flags_none read_one read_of test_unit good zeros queued_or_full queued_or_delayed with_command with_delayed with_note submit_answer after_submit enter_answer after_enter dispatch_answer after_dispatch after_handle respond_answer after_respond publish_answer after_publish clean_answer after_clean tick_answer after_tick block_answer after_block reset_answer after_reset restart_answer after_restart tmr_answer after_tmr stat_answer todo_of drain_event drained drained_by asked_by submits logged statuses device_with waits_row
waits = refl

pub leaves : LeavesFull
unfolding answers answer after afterwards answer_of times dev flags_ooo flags_none read_one read_of test_unit good zeros queued_or_full queued_or_delayed with_command with_delayed with_note submit_answer after_submit enter_answer after_enter dispatch_answer after_dispatch after_handle respond_answer after_respond publish_answer after_publish clean_answer after_clean tick_answer after_tick block_answer after_block reset_answer after_reset restart_answer after_restart tmr_answer after_tmr stat_answer todo_of drain_event drained drained_by asked_by submits logged statuses device_with waits_row
leaves = refl

pub stays : StaysDelayed
unfolding answers answer after afterwards answer_of times dev flags_ooo flags_none read_one read_of test_unit good zeros queued_or_full queued_or_delayed with_command with_delayed with_note submit_answer after_submit enter_answer after_enter dispatch_answer after_dispatch after_handle respond_answer after_respond publish_answer after_publish clean_answer after_clean tick_answer after_tick block_answer after_block reset_answer after_reset restart_answer after_restart tmr_answer after_tmr stat_answer todo_of drain_event drained drained_by asked_by submits logged statuses device_with waits_row
stays = refl

pub waits_reset : WaitsReset
unfolding answers answer after afterwards answer_of times dev flags_ooo flags_none read_one read_of test_unit good zeros queued_or_full queued_or_delayed with_command with_delayed with_note submit_answer after_submit enter_answer after_enter dispatch_answer after_dispatch after_handle respond_answer after_respond publish_answer after_publish clean_answer after_clean tick_answer after_tick block_answer after_block reset_answer after_reset restart_answer after_restart tmr_answer after_tmr stat_answer todo_of drain_event drained drained_by asked_by submits logged statuses device_with waits_row
waits_reset = refl

pub waits_busy : WaitsBusy
unfolding answers answer after afterwards answer_of times dev flags_ooo flags_none read_one read_of test_unit good zeros queued_or_full queued_or_delayed with_command with_delayed with_note submit_answer after_submit enter_answer after_enter dispatch_answer after_dispatch after_handle respond_answer after_respond publish_answer after_publish clean_answer after_clean tick_answer after_tick block_answer after_block reset_answer after_reset restart_answer after_restart tmr_answer after_tmr stat_answer todo_of drain_event drained drained_by asked_by submits logged statuses device_with waits_row
waits_busy = refl

pub waits_drained : WaitsDrained
unfolding answers answer after afterwards answer_of times dev flags_ooo flags_none read_one read_of test_unit good zeros queued_or_full queued_or_delayed with_command with_delayed with_note submit_answer after_submit enter_answer after_enter dispatch_answer after_dispatch after_handle respond_answer after_respond publish_answer after_publish clean_answer after_clean tick_answer after_tick block_answer after_block reset_answer after_reset restart_answer after_restart tmr_answer after_tmr stat_answer todo_of drain_event drained drained_by asked_by submits logged statuses device_with
waits_drained = refl
