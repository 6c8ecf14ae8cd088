-- The definitions give what the worked examples of dumps, and of a command on its way, say.
use Rattle.std.proofs.Common.{refl}
use Rattle.tcmu_model.specs.Events.{queued_or_full, queued_or_delayed, with_command, with_delayed, with_note, submit_answer, after_submit, enter_answer, after_enter, dispatch_answer, after_dispatch, after_handle, respond_answer, after_respond, publish_answer, after_publish, clean_answer, after_clean, tick_answer, after_tick, block_answer, after_block, reset_answer, after_reset, restart_answer, after_restart, tmr_answer, after_tmr, stat_answer}
use Rattle.tcmu_model.specs.Drain.{todo_of, drain_event}
use Rattle.tcmu_model.specs.Examples.{answer_of, answer, after, answers, afterwards, flags_ooo, flags_none, dev, read_one, good, read_of, test_unit, times, asked_by, drained_by, drained, submits}
use Rattle.tcmu_types.specs.Overwriting.{zeros}
use Rattle.region_model.specs.Layout.{mailbox_bytes, entry_header, pad_bytes, command_head, command_bytes, answer_bytes}
use Rattle.tcmu_types.specs.ByteFields.{le, field, padded, put}
use Rattle.region_model.specs.Iovecs.{merged, iovs_along}
use Rattle.region_model.specs.EntryReading.{response_at, tmr_id_at, iov_at, first_outside, cdb_at, command_read, tmr_read, limit_of, least_of, kind_read, sized_read, entry_read}
use Rattle.region_model.specs.MailboxReading.{mailbox_in, judged, mailbox_read}
use Rattle.region_model.specs.Regions.{overlaid}
use Rattle.region_model.specs.Picture.{picture_of}
use Rattle.region_model.specs.TargetSteps.{opening_target, front_with, region_laid, target_laid}
use Rattle.region_model.specs.TargetCleans.{target_cleaned, target_clean_answer}
use Rattle.region_model.specs.UserSteps.{user_mailbox, user_attached, user_responded, user_published, region_published}
use Rattle.region_model.specs.UserNext.{nexted}
use Rattle.region_model.specs.Shown.{read_forty, after_reads, inquiry, used_region, laid_region, job_of, reply_of, served, served_region, laid_target, payloads_of, dev_len, read_sixteen, ShowsMailbox, ShowsPadding, ShowsTwoPages, Clears, Serves}

pub shows_mailbox : ShowsMailbox
unfolding answers answer after afterwards answer_of times dev flags_ooo flags_none read_one read_of test_unit good zeros queued_or_full queued_or_delayed with_command with_delayed with_note submit_answer after_submit enter_answer after_enter dispatch_answer after_dispatch after_handle respond_answer after_respond publish_answer after_publish clean_answer after_clean tick_answer after_tick block_answer after_block reset_answer after_reset restart_answer after_restart tmr_answer after_tmr stat_answer todo_of drain_event drained drained_by asked_by submits le field padded put mailbox_bytes entry_header pad_bytes command_head command_bytes answer_bytes merged iovs_along picture_of read_forty after_reads
shows_mailbox = refl

pub shows_padding : ShowsPadding
unfolding answers answer after afterwards answer_of times dev flags_ooo flags_none read_one read_of test_unit good zeros queued_or_full queued_or_delayed with_command with_delayed with_note submit_answer after_submit enter_answer after_enter dispatch_answer after_dispatch after_handle respond_answer after_respond publish_answer after_publish clean_answer after_clean tick_answer after_tick block_answer after_block reset_answer after_reset restart_answer after_restart tmr_answer after_tmr stat_answer todo_of drain_event drained drained_by asked_by submits le field padded put mailbox_bytes entry_header pad_bytes command_head command_bytes answer_bytes merged iovs_along picture_of read_forty after_reads
shows_padding = refl

pub shows_two_pages : ShowsTwoPages
unfolding answers answer after afterwards answer_of times dev flags_ooo flags_none read_one read_of test_unit good zeros queued_or_full queued_or_delayed with_command with_delayed with_note submit_answer after_submit enter_answer after_enter dispatch_answer after_dispatch after_handle respond_answer after_respond publish_answer after_publish clean_answer after_clean tick_answer after_tick block_answer after_block reset_answer after_reset restart_answer after_restart tmr_answer after_tmr stat_answer todo_of drain_event drained drained_by asked_by submits le field padded put mailbox_bytes entry_header pad_bytes command_head command_bytes answer_bytes merged iovs_along picture_of read_sixteen
shows_two_pages = refl

pub clears : Clears
unfolding le field zeros padded put mailbox_bytes entry_header pad_bytes command_head command_bytes answer_bytes merged iovs_along response_at tmr_id_at iov_at first_outside cdb_at command_read tmr_read limit_of least_of kind_read sized_read entry_read mailbox_in judged mailbox_read overlaid opening_target front_with region_laid target_laid target_cleaned target_clean_answer user_mailbox user_attached user_responded user_published region_published nexted inquiry used_region laid_region job_of reply_of served served_region laid_target flags_ooo dev read_of
clears = refl

pub serves : Serves
unfolding le field zeros padded put mailbox_bytes entry_header pad_bytes command_head command_bytes answer_bytes merged iovs_along response_at tmr_id_at iov_at first_outside cdb_at command_read tmr_read limit_of least_of kind_read sized_read entry_read mailbox_in judged mailbox_read overlaid opening_target front_with region_laid target_laid target_cleaned target_clean_answer user_mailbox user_attached user_responded user_published region_published nexted inquiry used_region laid_region job_of reply_of served served_region laid_target payloads_of dev_len flags_ooo dev read_of
serves = record { answer = refl; payload = refl; told = refl }
