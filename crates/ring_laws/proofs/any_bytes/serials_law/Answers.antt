use Rattle.ring_laws.proofs.target_over_any_bytes.AnyCalls.{sound_from_opening}
use Rattle.ring_laws.proofs.target_over_any_bytes.AnySerials.{logged_once, logged_accepted, expired_logged}
use Rattle.ring_laws.proofs.any_bytes.serials_law.Goals as goal

pub returns : goal.returns
returns c =
    record {
      once = λ s calls t k. logged_once t (sound_from_opening s calls t k);
      given = λ s calls t k. logged_accepted t (sound_from_opening s calls t k);
      accounted = λ s calls t n k. (sound_from_opening s calls t k).serials.accounted n;
      expired = λ s calls t k. expired_logged t (sound_from_opening s calls t k);
    }
