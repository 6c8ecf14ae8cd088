-- A command that takes no payload has sent none.
use Rattle.std.proofs.Common.{◌≡◌, ◌==◌, true, false, cond, length, []}
use Rattle.std.proofs.lemmas.Bool.{eqb-true}
use Rattle.std.proofs.lemmas.List.{nil_from_length}
use Rattle.tcmu_types.specs.Data.{CommandData}
use Rattle.tcmu_types.specs.Lists.{Every}
use Rattle.tcmu_types.specs.Rules.{IsCommand, takes_payload}
use Rattle.tcmu_types.proofs.Everies.{every-weaker}
use Rattle.tcmu_model.specs.Device.{DeviceState}
use Rattle.tcmu_model.specs.Sound.{IsSound}
use Rattle.tcmu_model.proofs.DrainEnds.{rows_commands}

none_sent : (c : CommandData) → IsCommand c → takes_payload c.cdb ≡ false → c.sent ≡ []
none_sent c h t =
    let d : cond (takes_payload c.cdb) (c.in_len == 0) (length c.sent == 0) ≡ true = h.directed in
    let z : (length c.sent == 0) ≡ true = rw t at d in
    nil_from_length c.sent (eqb-true (length c.sent) 0 z)

pub sent_none : (d : DeviceState) → IsSound d → Every (λ u. takes_payload u.command.cdb ≡ false → u.command.sent ≡ []) d.unfinished
sent_none d h = every-weaker (λ u. IsCommand u.command) (λ u. takes_payload u.command.cdb ≡ false → u.command.sent ≡ []) d.unfinished (λ u c. none_sent u.command c) (rows_commands d h)
