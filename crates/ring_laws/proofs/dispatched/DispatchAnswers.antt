-- The user side answers to a dispatch what the device does.
use Rattle.std.proofs.Common.{ap, ◌∙◌}
use Rattle.tcmu_model.specs.declared.state.CommandState.TheVariants.{Out}
use Rattle.tcmu_types.specs.Lists.{first_of}
use Rattle.tcmu_model.specs.RingState as ring
use Rattle.tcmu_model.specs.Device.{DeviceState, is_at}
use Rattle.tcmu_model.specs.Events.{dispatch_answer, in_state}
use Rattle.tcmu_model.specs.BlockLists.{Taken, list_of}
use Rattle.region_model.specs.Regions.{RegionState, taken}
use Rattle.region_model.specs.Sides.{InHand, TargetState, UserState}
use Rattle.region_model.specs.UserNext.{nexted}
use Rattle.std.specs.Prelude.{List, Some}
use Rattle.ring_laws.specs.Dispatched.{AnswersDispatch, CanDispatch}
use Rattle.ring_laws.proofs.dispatched.DispatchJobs.{job_sent}
use Rattle.ring_laws.proofs.dispatched.NextCases.{after_at, by_next}
use Rattle.ring_laws.proofs.dispatched.NotesAnswered.{note_there, notes_answered}
use Rattle.ring_laws.proofs.dispatched.Sending.{Sends, sends, found-sent}

pub answer_dispatched : (r : RegionState) (t : TargetState) (user : UserState) (hand : List InHand) (d : DeviceState) (lists : List Taken) → CanDispatch r t user hand d lists →
    AnswersDispatch t.rows d lists (dispatch_answer d) (nexted r user).answer
answer_dispatched r t user hand d lists h =
    by_next (λ z a e. AnswersDispatch t.rows d lists a z.answer) r t user hand d lists h
    (record {
      none = λ e. tt;
      job = λ n s c g.
          let k : Sends d s c = sends d n s c h.sound g in
          (in_state Out k.command, taken r.blocks (list_of lists s), ap (λ (e : DeviceState). first_of (is_at s Out) e.unfinished) (after_at d (Some (record { len = n; laid = ring.Cmd s c })) h.attached g) ∙ found-sent d s c k, job_sent r t user hand d lists n s c h g k);
      note = λ n type_ read ss g byte. (byte (note_there r t user hand d lists n type_ ss h g).byte, notes_answered r t user hand d lists n type_ ss h g);
    })
