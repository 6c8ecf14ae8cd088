use Rattle.tcmu_model.proofs.GoesOn.{goes_on_first, goes_on_more, drains_run}
use Rattle.tcmu_model.proofs.laws_drain.drain_goes_on.Goals as goal

pub returns : goal.returns
returns c c' = record { first = λ device start. goes_on_first _ device start; more = λ device start d d' sofar e. goes_on_more _ device start d d' sofar e; run = λ device d d' es. drains_run _ device d d' es }
