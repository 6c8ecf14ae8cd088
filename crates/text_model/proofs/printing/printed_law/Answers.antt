use Rattle.text_model.proofs.PrintedJournals.{legal_entries, legal_shows, replays_entries}
use Rattle.text_model.proofs.printing.printed_law.Goals as goal

pub returns-clause-legal : goal.returns-clause-legal
returns-clause-legal g c picture opened ends ps h = legal_entries _ picture opened ps ends h

pub returns-clause-asked : goal.returns-clause-asked
returns-clause-asked g c = replays_entries _

pub returns-clause-dumps : goal.returns-clause-dumps
returns-clause-dumps g c picture opened ends ps qs at dump d d' h e f = legal_shows _ picture opened ends ps qs at dump d d' h e f
