use Rattle.std.proofs.Common.{ℕ, ◌<◌, ◌∙◌, refl, sym, ap, subst, length, List, slice_get}
use Rattle.device_set.specs.Sets.{devices, with_device}
use Rattle.device_set.proofs.Places.{with_device-set_value_at, length-with_device}
use Rattle.device_set.proofs.set.DeviceSet.get_mut.Goals as goal

pub invariant_of-self-lent : goal.invariant_of-self-lent
invariant_of-self-lent g c w =
    subst (λ (n : ℕ). n < 4294967296) (sym (ap (λ (xs : List (List ℕ × g.row.P.Denot)). length xs) (with_device-set_value_at c.self.inside.devices.entries c.args.at w) ∙ length-with_device c.self.inside.devices.entries c.args.at w)) c.self.invariant

pub returns : goal.returns
returns g c = (
  (
    refl,
    (λ w. with_device-set_value_at c.self.inside.devices.entries c.args.at w ∙ ap (λ (xs : List (List ℕ × g.row.P.Denot)). with_device xs c.args.at w) c.self.view_is),
  ),
  record { writes_back = tt; value = ap (λ (xs : List (List ℕ × g.row.P.Denot)). slice_get (devices xs) c.args.at) (sym c.self.view_is) ∙ c.index_mut.ensures.value },
)
