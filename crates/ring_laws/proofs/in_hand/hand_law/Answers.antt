use Rattle.ring_laws.proofs.jobs_in_hand.HandRises.{hand_rises}
use Rattle.ring_laws.proofs.jobs_in_hand.HandTells.{answered_handled, asked_data, asked_out, can_respond, job_asked, not_handled}
use Rattle.tcmu_model.proofs.SentNone.{sent_none}
use Rattle.ring_laws.proofs.in_hand.hand_law.Goals as goal

pub returns : goal.returns
returns c = record { asked = asked_out; answered = answered_handled; job = job_asked; request = asked_data; none = sent_none; begins = can_respond; rising = hand_rises; refused = not_handled }
