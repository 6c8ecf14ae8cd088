-- The definitions give what the worked examples say.
use Rattle.std.proofs.Common.{refl}
use Rattle.region_model.specs.Layout.{mailbox_bytes, entry_header, pad_bytes, command_head, command_bytes, tmr_bytes, answer_bytes}
use Rattle.tcmu_types.specs.ByteFields.{le, field, padded, put}
use Rattle.tcmu_types.specs.Overwriting.{zeros}
use Rattle.region_model.specs.Iovecs.{merged, iovs_along}
use Rattle.region_model.specs.EntryReading.{response_at, tmr_id_at, iov_at, first_outside, cdb_at, command_read, tmr_read, limit_of, least_of, kind_read, sized_read, entry_read}
use Rattle.region_model.specs.MailboxReading.{mailbox_in, judged, mailbox_read}
use Rattle.region_model.specs.Regions.{overlaid}
use Rattle.tcmu_model.specs.Examples.{flags_ooo, dev, read_one}
use Rattle.region_model.specs.TargetSteps.{opening_target, front_with, region_laid, target_laid, target_submit_answer, target_submitted, region_submitted, target_blocked}
use Rattle.region_model.specs.TargetCleans.{target_cleaned, target_clean_answer, target_reset}
use Rattle.region_model.specs.UserSteps.{user_mailbox, user_attached, user_responded}
use Rattle.region_model.specs.UserNext.{nexted}
use Rattle.region_model.specs.Hostile.{with_submitted, two_reads, scrawled, with_tail, cleaned_once, serials_logged, statuses_logged, id_zero, responded_at, one_id_twice, huge_length, payloads_logged, said_unknown, next_twice, region_next, finds_twice, with_head, with_len_op, reading, iovec_inside, inside_job, good_reply, then_responds, first_next, IdOfNone, TailInside, IdTwice, LengthPastData, SaidUnknown, NoLength, HeadUnaligned, OpUnknown, IovecBefore, OtherSize, AreaGone, answers_inside, write_cdb, full_block, write_inside, named_again, AreaThere, CopiesOut, NotesAgain}

-- ==== the target

pub id_of_none : IdOfNone
unfolding le field zeros padded put mailbox_bytes entry_header pad_bytes command_head command_bytes answer_bytes flags_ooo dev read_one merged iovs_along response_at tmr_id_at iov_at first_outside cdb_at command_read tmr_read limit_of least_of kind_read sized_read entry_read mailbox_in judged mailbox_read overlaid opening_target front_with region_laid target_laid target_submit_answer target_submitted region_submitted target_blocked target_cleaned target_clean_answer target_reset user_mailbox user_attached user_responded nexted with_submitted two_reads scrawled with_tail cleaned_once serials_logged statuses_logged id_zero responded_at one_id_twice huge_length payloads_logged said_unknown next_twice region_next finds_twice with_head with_len_op reading iovec_inside inside_job good_reply then_responds first_next
id_of_none = record { first = refl; again = refl; log = refl; reset = refl; busy = refl }

pub tail_inside : TailInside
unfolding le field zeros padded put mailbox_bytes entry_header pad_bytes command_head command_bytes answer_bytes flags_ooo dev read_one merged iovs_along response_at tmr_id_at iov_at first_outside cdb_at command_read tmr_read limit_of least_of kind_read sized_read entry_read mailbox_in judged mailbox_read overlaid opening_target front_with region_laid target_laid target_submit_answer target_submitted region_submitted target_blocked target_cleaned target_clean_answer target_reset user_mailbox user_attached user_responded nexted with_submitted two_reads scrawled with_tail cleaned_once serials_logged statuses_logged id_zero responded_at one_id_twice huge_length payloads_logged said_unknown next_twice region_next finds_twice with_head with_len_op reading iovec_inside inside_job good_reply then_responds first_next
tail_inside = record { answer = refl; same = refl }

pub id_twice : IdTwice
unfolding le field zeros padded put mailbox_bytes entry_header pad_bytes command_head command_bytes answer_bytes flags_ooo dev read_one merged iovs_along response_at tmr_id_at iov_at first_outside cdb_at command_read tmr_read limit_of least_of kind_read sized_read entry_read mailbox_in judged mailbox_read overlaid opening_target front_with region_laid target_laid target_submit_answer target_submitted region_submitted target_blocked target_cleaned target_clean_answer target_reset user_mailbox user_attached user_responded nexted with_submitted two_reads scrawled with_tail cleaned_once serials_logged statuses_logged id_zero responded_at one_id_twice huge_length payloads_logged said_unknown next_twice region_next finds_twice with_head with_len_op reading iovec_inside inside_job good_reply then_responds first_next
id_twice = record { answer = refl; log = refl }

pub length_past_data : LengthPastData
unfolding le field zeros padded put mailbox_bytes entry_header pad_bytes command_head command_bytes answer_bytes flags_ooo dev read_one merged iovs_along response_at tmr_id_at iov_at first_outside cdb_at command_read tmr_read limit_of least_of kind_read sized_read entry_read mailbox_in judged mailbox_read overlaid opening_target front_with region_laid target_laid target_submit_answer target_submitted region_submitted target_blocked target_cleaned target_clean_answer target_reset user_mailbox user_attached user_responded nexted with_submitted two_reads scrawled with_tail cleaned_once serials_logged statuses_logged id_zero responded_at one_id_twice huge_length payloads_logged said_unknown next_twice region_next finds_twice with_head with_len_op reading iovec_inside inside_job good_reply then_responds first_next
length_past_data = record { answer = refl; payload = refl }

pub said_unknown_is : SaidUnknown
unfolding le field zeros padded put mailbox_bytes entry_header pad_bytes command_head command_bytes answer_bytes flags_ooo dev read_one merged iovs_along response_at tmr_id_at iov_at first_outside cdb_at command_read tmr_read limit_of least_of kind_read sized_read entry_read mailbox_in judged mailbox_read overlaid opening_target front_with region_laid target_laid target_submit_answer target_submitted region_submitted target_blocked target_cleaned target_clean_answer target_reset user_mailbox user_attached user_responded nexted with_submitted two_reads scrawled with_tail cleaned_once serials_logged statuses_logged id_zero responded_at one_id_twice huge_length payloads_logged said_unknown next_twice region_next finds_twice with_head with_len_op reading iovec_inside inside_job good_reply then_responds first_next
said_unknown_is = record { answer = refl; status = refl; sense = refl }

-- ==== the user side

pub no_length : NoLength
unfolding le field zeros padded put mailbox_bytes entry_header pad_bytes command_head command_bytes answer_bytes flags_ooo dev read_one merged iovs_along response_at tmr_id_at iov_at first_outside cdb_at command_read tmr_read limit_of least_of kind_read sized_read entry_read mailbox_in judged mailbox_read overlaid opening_target front_with region_laid target_laid target_submit_answer target_submitted region_submitted target_blocked target_cleaned target_clean_answer target_reset user_mailbox user_attached user_responded nexted with_submitted two_reads scrawled with_tail cleaned_once serials_logged statuses_logged id_zero responded_at one_id_twice huge_length payloads_logged said_unknown next_twice region_next finds_twice with_head with_len_op reading iovec_inside inside_job good_reply then_responds first_next
no_length = refl

pub head_unaligned : HeadUnaligned
unfolding le field zeros padded put mailbox_bytes entry_header pad_bytes command_head command_bytes answer_bytes flags_ooo dev read_one merged iovs_along response_at tmr_id_at iov_at first_outside cdb_at command_read tmr_read limit_of least_of kind_read sized_read entry_read mailbox_in judged mailbox_read overlaid opening_target front_with region_laid target_laid target_submit_answer target_submitted region_submitted target_blocked target_cleaned target_clean_answer target_reset user_mailbox user_attached user_responded nexted with_submitted two_reads scrawled with_tail cleaned_once serials_logged statuses_logged id_zero responded_at one_id_twice huge_length payloads_logged said_unknown next_twice region_next finds_twice with_head with_len_op reading iovec_inside inside_job good_reply then_responds first_next
head_unaligned = refl

pub op_unknown : OpUnknown
unfolding le field zeros padded put mailbox_bytes entry_header pad_bytes command_head command_bytes answer_bytes flags_ooo dev read_one merged iovs_along response_at tmr_id_at iov_at first_outside cdb_at command_read tmr_read limit_of least_of kind_read sized_read entry_read mailbox_in judged mailbox_read overlaid opening_target front_with region_laid target_laid target_submit_answer target_submitted region_submitted target_blocked target_cleaned target_clean_answer target_reset user_mailbox user_attached user_responded nexted with_submitted two_reads scrawled with_tail cleaned_once serials_logged statuses_logged id_zero responded_at one_id_twice huge_length payloads_logged said_unknown next_twice region_next finds_twice with_head with_len_op reading iovec_inside inside_job good_reply then_responds first_next
op_unknown = record { answer = refl; marked = refl }

pub iovec_before : IovecBefore
unfolding le field zeros padded put mailbox_bytes entry_header pad_bytes command_head command_bytes answer_bytes flags_ooo dev read_one merged iovs_along response_at tmr_id_at iov_at first_outside cdb_at command_read tmr_read limit_of least_of kind_read sized_read entry_read mailbox_in judged mailbox_read overlaid opening_target front_with region_laid target_laid target_submit_answer target_submitted region_submitted target_blocked target_cleaned target_clean_answer target_reset user_mailbox user_attached user_responded nexted with_submitted two_reads scrawled with_tail cleaned_once serials_logged statuses_logged id_zero responded_at one_id_twice huge_length payloads_logged said_unknown next_twice region_next finds_twice with_head with_len_op reading iovec_inside inside_job good_reply then_responds first_next
iovec_before = refl

pub other_size : OtherSize
unfolding le field zeros padded put mailbox_bytes entry_header pad_bytes command_head command_bytes answer_bytes flags_ooo dev read_one merged iovs_along response_at tmr_id_at iov_at first_outside cdb_at command_read tmr_read limit_of least_of kind_read sized_read entry_read mailbox_in judged mailbox_read overlaid opening_target front_with region_laid target_laid target_submit_answer target_submitted region_submitted target_blocked target_cleaned target_clean_answer target_reset user_mailbox user_attached user_responded nexted with_submitted two_reads scrawled with_tail cleaned_once serials_logged statuses_logged id_zero responded_at one_id_twice huge_length payloads_logged said_unknown next_twice region_next finds_twice with_head with_len_op reading iovec_inside inside_job good_reply then_responds first_next
other_size = refl

pub area_gone : AreaGone
unfolding le field zeros padded put mailbox_bytes entry_header pad_bytes command_head command_bytes answer_bytes flags_ooo dev read_one merged iovs_along response_at tmr_id_at iov_at first_outside cdb_at command_read tmr_read limit_of least_of kind_read sized_read entry_read mailbox_in judged mailbox_read overlaid opening_target front_with region_laid target_laid target_submit_answer target_submitted region_submitted target_blocked target_cleaned target_clean_answer target_reset user_mailbox user_attached user_responded nexted with_submitted two_reads scrawled with_tail cleaned_once serials_logged statuses_logged id_zero responded_at one_id_twice huge_length payloads_logged said_unknown next_twice region_next finds_twice with_head with_len_op reading iovec_inside inside_job good_reply then_responds first_next
area_gone = record { job = refl; only = refl }

pub area_there : AreaThere
unfolding le field zeros padded put mailbox_bytes entry_header pad_bytes command_head command_bytes tmr_bytes answer_bytes flags_ooo dev read_one merged iovs_along response_at tmr_id_at iov_at first_outside cdb_at command_read tmr_read limit_of least_of kind_read sized_read entry_read mailbox_in judged mailbox_read overlaid opening_target front_with region_laid target_laid target_submit_answer target_submitted region_submitted target_blocked target_cleaned target_clean_answer target_reset user_mailbox user_attached user_responded nexted with_submitted two_reads scrawled with_tail cleaned_once serials_logged statuses_logged id_zero responded_at one_id_twice huge_length payloads_logged said_unknown next_twice region_next finds_twice with_head with_len_op reading iovec_inside inside_job good_reply then_responds first_next answers_inside write_cdb full_block write_inside named_again
area_there = record { only = refl }

pub copies_out : CopiesOut
unfolding le field zeros padded put mailbox_bytes entry_header pad_bytes command_head command_bytes tmr_bytes answer_bytes flags_ooo dev read_one merged iovs_along response_at tmr_id_at iov_at first_outside cdb_at command_read tmr_read limit_of least_of kind_read sized_read entry_read mailbox_in judged mailbox_read overlaid opening_target front_with region_laid target_laid target_submit_answer target_submitted region_submitted target_blocked target_cleaned target_clean_answer target_reset user_mailbox user_attached user_responded nexted with_submitted two_reads scrawled with_tail cleaned_once serials_logged statuses_logged id_zero responded_at one_id_twice huge_length payloads_logged said_unknown next_twice region_next finds_twice with_head with_len_op reading iovec_inside inside_job good_reply then_responds first_next answers_inside write_cdb full_block write_inside named_again
copies_out = refl

pub notes_again : NotesAgain
unfolding le field zeros padded put mailbox_bytes entry_header pad_bytes command_head command_bytes tmr_bytes answer_bytes flags_ooo dev read_one merged iovs_along response_at tmr_id_at iov_at first_outside cdb_at command_read tmr_read limit_of least_of kind_read sized_read entry_read mailbox_in judged mailbox_read overlaid opening_target front_with region_laid target_laid target_submit_answer target_submitted region_submitted target_blocked target_cleaned target_clean_answer target_reset user_mailbox user_attached user_responded nexted with_submitted two_reads scrawled with_tail cleaned_once serials_logged statuses_logged id_zero responded_at one_id_twice huge_length payloads_logged said_unknown next_twice region_next finds_twice with_head with_len_op reading iovec_inside inside_job good_reply then_responds first_next answers_inside write_cdb full_block write_inside named_again
notes_again = refl
