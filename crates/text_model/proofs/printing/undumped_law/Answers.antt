use Rattle.text_model.proofs.PrintedJournals.{replays_alone, legal_undumped, replays_undumped}
use Rattle.text_model.proofs.printing.undumped_law.Goals as goal

pub returns-clause-alone : goal.returns-clause-alone
returns-clause-alone g c = replays_alone _

pub returns-clause-legal : goal.returns-clause-legal
returns-clause-legal g c picture opened ends js h = legal_undumped _ picture opened js ends h

pub returns-clause-asked : goal.returns-clause-asked
returns-clause-asked g c = replays_undumped _
