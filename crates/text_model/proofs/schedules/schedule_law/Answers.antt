use Rattle.text_model.proofs.LiveSchedules.{schedule_exists, live_run, schedule_sends, works_attached}
use Rattle.text_model.proofs.schedules.schedule_law.Goals as goal

pub returns-clause-exists : goal.returns-clause-exists
returns-clause-exists g c = schedule_exists _

pub returns-clause-legal : goal.returns-clause-legal
returns-clause-legal g c device x d d' es is = live_run _ d d' es is.run

pub returns-clause-sends : goal.returns-clause-sends
returns-clause-sends g c device x d d' es k i script is found = schedule_sends _ device x d d' es k i script is found

pub returns-clause-admin : goal.returns-clause-admin
returns-clause-admin g c device x d d' es is = is.made.admin

pub returns-clause-attached : goal.returns-clause-attached
returns-clause-attached g c device x d d' before later e is work = works_attached _ d d' before later e is.run work
