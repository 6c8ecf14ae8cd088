use Rattle.text_model.proofs.LiveSchedules.{schedule_again, schedules_again}
use Rattle.text_model.proofs.schedules.schedule_again_law.Goals as goal

pub returns-clause-one : goal.returns-clause-one
returns-clause-one g c = schedule_again _

pub returns-clause-each : goal.returns-clause-each
returns-clause-each g c s opened ends js count within legal are = schedules_again _ s opened js ends count within legal are
