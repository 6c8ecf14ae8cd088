use Rattle.tcmu_model.proofs.LaidAfter.{laid_blocked, laid_cleaned, laid_delayed, laid_dispatched, laid_entered, laid_handled, laid_noted, laid_published, laid_queued, laid_reset, laid_responded, laid_restarted, laid_ticked}
use Rattle.tcmu_model.proofs.laws_laid.laid_law.Goals as goal

pub returns : goal.returns
returns c = record {
  queued = laid_queued;
  delayed = laid_delayed;
  entered = laid_entered;
  noted = laid_noted;
  dispatch = laid_dispatched;
  handle = laid_handled;
  respond = laid_responded;
  publish = laid_published;
  clean = laid_cleaned;
  tick = laid_ticked;
  block = laid_blocked;
  restart = laid_restarted;
  reset = laid_reset;
}
