-- The definitions give what the worked examples of the two sides' own steps say.
use Rattle.std.proofs.Common.{refl}
use Rattle.tcmu_types.specs.Overwriting.{zeros}
use Rattle.region_model.specs.Layout.{mailbox_bytes, entry_header, pad_bytes, command_head, command_bytes, answer_bytes}
use Rattle.tcmu_types.specs.ByteFields.{le, field, padded, put}
use Rattle.region_model.specs.Iovecs.{merged, iovs_along}
use Rattle.region_model.specs.EntryReading.{response_at, tmr_id_at, iov_at, first_outside, cdb_at, command_read, tmr_read, limit_of, least_of, kind_read, sized_read, entry_read}
use Rattle.region_model.specs.MailboxReading.{mailbox_in, judged, mailbox_read}
use Rattle.region_model.specs.Regions.{overlaid}
use Rattle.tcmu_model.specs.Examples.{flags_ooo, dev, read_one, read_of}
use Rattle.region_model.specs.TargetSteps.{opening_target, front_with, region_laid, target_laid, target_submit_answer, target_submitted, region_submitted, target_ticked}
use Rattle.region_model.specs.TargetCleans.{target_cleaned, target_clean_answer, region_cleaned}
use Rattle.region_model.specs.UserSteps.{user_mailbox, user_attached, user_responded, user_publish_answer}
use Rattle.region_model.specs.UserNext.{nexted}
use Rattle.region_model.specs.Hostile.{with_submitted, two_reads, scrawled, with_tail, responded_at, serials_logged}
use Rattle.region_model.specs.Shown.{inquiry, used_region, laid_region, job_of, reply_of}
use Rattle.region_model.specs.SideExamples.{both_expired, one_answered, user_dispatched, user_answered, jobs_of, WaitsFive, ExpireOnce, CleansOne, Answers}

pub waits_five : WaitsFive
unfolding le field zeros padded put mailbox_bytes entry_header pad_bytes command_head command_bytes answer_bytes flags_ooo dev read_one read_of merged iovs_along response_at tmr_id_at iov_at first_outside cdb_at command_read tmr_read limit_of least_of kind_read sized_read entry_read mailbox_in judged mailbox_read overlaid opening_target front_with region_laid target_laid target_submit_answer target_submitted region_submitted target_ticked target_cleaned target_clean_answer region_cleaned user_mailbox user_attached user_responded user_publish_answer nexted with_submitted two_reads scrawled with_tail responded_at serials_logged inquiry used_region laid_region job_of reply_of both_expired one_answered user_dispatched user_answered jobs_of
waits_five = refl

pub expire_once : ExpireOnce
unfolding le field zeros padded put mailbox_bytes entry_header pad_bytes command_head command_bytes answer_bytes flags_ooo dev read_one read_of merged iovs_along response_at tmr_id_at iov_at first_outside cdb_at command_read tmr_read limit_of least_of kind_read sized_read entry_read mailbox_in judged mailbox_read overlaid opening_target front_with region_laid target_laid target_submit_answer target_submitted region_submitted target_ticked target_cleaned target_clean_answer region_cleaned user_mailbox user_attached user_responded user_publish_answer nexted with_submitted two_reads scrawled with_tail responded_at serials_logged inquiry used_region laid_region job_of reply_of both_expired one_answered user_dispatched user_answered jobs_of
expire_once = record { logged = refl; again = refl; late = refl }

pub cleans_one : CleansOne
unfolding le field zeros padded put mailbox_bytes entry_header pad_bytes command_head command_bytes answer_bytes flags_ooo dev read_one read_of merged iovs_along response_at tmr_id_at iov_at first_outside cdb_at command_read tmr_read limit_of least_of kind_read sized_read entry_read mailbox_in judged mailbox_read overlaid opening_target front_with region_laid target_laid target_submit_answer target_submitted region_submitted target_ticked target_cleaned target_clean_answer region_cleaned user_mailbox user_attached user_responded user_publish_answer nexted with_submitted two_reads scrawled with_tail responded_at serials_logged inquiry used_region laid_region job_of reply_of both_expired one_answered user_dispatched user_answered jobs_of
cleans_one = record { idle = refl; one = refl; area = refl }

pub answers_are : Answers
unfolding le field zeros padded put mailbox_bytes entry_header pad_bytes command_head command_bytes answer_bytes flags_ooo dev read_one read_of merged iovs_along response_at tmr_id_at iov_at first_outside cdb_at command_read tmr_read limit_of least_of kind_read sized_read entry_read mailbox_in judged mailbox_read overlaid opening_target front_with region_laid target_laid target_submit_answer target_submitted region_submitted target_ticked target_cleaned target_clean_answer region_cleaned user_mailbox user_attached user_responded user_publish_answer nexted with_submitted two_reads scrawled with_tail responded_at serials_logged inquiry used_region laid_region job_of reply_of both_expired one_answered user_dispatched user_answered jobs_of
answers_are = record { early = λ u. refl; answered = λ u. refl; gone = λ u. refl }
