use Rattle.ring_laws.proofs.sized.Sized.{sized_opening, sized_nexted, sized_responded, sized_back, sized_abandoned, sized_published, sized_cleaned, sized_reset}
use Rattle.ring_laws.proofs.sizes.sizes_law.Goals as goal

pub returns : goal.returns
returns c =
    record {
      opening = sized_opening;
      next = sized_nexted;
      respond = sized_responded;
      back = sized_back;
      abandon = sized_abandoned;
      publish = sized_published;
      clean = sized_cleaned;
      reset = sized_reset;
    }
