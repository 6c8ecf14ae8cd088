use Rattle.std.proofs.Common.{◌≡◌, ◌-◌, length, option_map, slice_get, ◌∙◌, ap, sym}
use Rattle.device_set.specs.Sets.{devices}
use Rattle.device_set.proofs.Places.{last_is}
use Rattle.device_set.proofs.set.DeviceSet.pop.Goals as goal
use Rattle.device_set.proofs.set.DeviceSet.pop.Goals.{in-Some, in-None}

pub returns-clause-last : goal.returns-clause-last
returns-clause-last g c =
    let last = last_is c.self.inside.devices.entries c.pop.new.self.entries c.pop.result c.pop.ensures.entries c.pop.ensures.found in
    let told : c.match-pop.result ≡ option_map (λ e. e.1) c.pop.result = elim c.match-pop.branch [ in-Some w ↦ w.result-is ∙ sym (ap (option_map (λ e. e.1)) w.in-Some.is) | in-None w ↦ w.result-is ∙ sym (ap (option_map (λ e. e.1)) w.in-None.is) ] in
    told ∙ last ∙ ap (λ xs. slice_get (devices xs) (length xs - 1)) c.self.view_is
