use Rattle.tcmu_model.proofs.Journals.{run_explains, run_clock, run_senders}
use Rattle.tcmu_model.proofs.Serials.{one_command}
use Rattle.tcmu_model.proofs.laws_journal.journal_law.Goals as goal

pub returns : goal.returns
returns c c' =
    record {
      explained = λ s name medium es d r. run_explains _ s name medium es d r;
      clock = λ s name medium es d r. run_clock _ s name medium es d r;
      sender = λ s name medium es d r. run_senders _ s name medium es d r;
      one = λ s name medium es d serial a b r. one_command _ s name medium es d serial a b r;
    }
