-- What is read keeps what the reading keeps.
use Rattle.std.proofs.Common.{◌≡◌, Result, Ok, Err, IfOk}
use Rattle.text_model.specs.declared.faults.ConfigFault.{ConfigFault}
use Rattle.device_config.specs.Giving.{Gives}

pub kept : {X : Type 0} (P : X → Type 0) (result read : Result X ConfigFault) → Gives (λ x. x) result read → ((x : X) → read ≡ Ok x → P x) → IfOk result P
kept P (Ok x) read gives law = law x gives
kept P (Err e) read gives law = tt
