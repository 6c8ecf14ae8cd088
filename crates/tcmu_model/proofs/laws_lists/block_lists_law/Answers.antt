use Rattle.tcmu_model.proofs.ListsRun.{has_lists, block_run, lists_more, lists_step, opened_lists}
use Rattle.tcmu_model.proofs.laws_lists.block_lists_law.Goals as goal

pub returns : goal.returns
returns c c' =
    record {
      exist = λ d d' lists es. has_lists _ d d' lists es;
      run = λ d d' lists lists' es. block_run _ d d' lists lists' es;
      more = λ d m d' lists lists' es e. lists_more _ d m d' lists lists' es e;
      step = λ d d' lists e. lists_step _ d d' lists e;
      sound = λ s name medium es d lists. opened_lists _ s name medium es d lists;
    }
