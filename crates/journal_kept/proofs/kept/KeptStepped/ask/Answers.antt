use Rattle.journal_kept.proofs.Tell.{told_appends, told_nothing}
use Rattle.journal_kept.proofs.kept.KeptStepped.ask.Goals as goal

pub returns-in_ok-make-in-Some-clause-told : goal.returns-in_ok-make-in-Some-clause-told
returns-in_ok-make-in-Some-clause-told g c = told_appends g.P.Path.relation c.args.self.now c.make.new.self c.args.ask.now _ c.event_of.ensures.front.run c.in_ok-make-in-Some.ensures.asked

pub returns-in-None-clause-told : goal.returns-in-None-clause-told
returns-in-None-clause-told g c = told_appends g.P.Path.relation c.args.self.now c.args.self.now c.args.ask.now c.told_none.result c.event_of.ensures.front.run (told_nothing g.P.Path.relation c.args.self.now c.args.ask.now c.told_none.result c.told_none.ensures)
