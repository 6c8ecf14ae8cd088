use Rattle.cmd_ring.proofs.Laid as laid
use Rattle.cmd_ring.proofs.Follows as follows
use Rattle.cmd_ring.proofs.laws.places_law.Goals as goal

pub returns-clause-opening : goal.returns-clause-opening
returns-clause-opening c = follows.opening

pub returns-clause-laying : goal.returns-clause-laying
returns-clause-laying c = laid.laying

pub returns-clause-clearing : goal.returns-clause-clearing
returns-clause-clearing c = laid.clearing

pub returns-clause-calls : goal.returns-clause-calls
returns-clause-calls c = follows.calls
