-- What a sound ring gives of its items, and of what stands before the next one.
use Rattle.std.proofs.Common.{◌≡◌, ℕ, ◌+◌, ◌%◌, ◌≤◌, take, sym, ap, ◌∙◌, arith, subst}
use Rattle.tcmu_model.specs.RingState.{lengths}
use Rattle.tcmu_model.specs.Device.{DeviceState}
use Rattle.ring_laws.specs.Placed.{HoldsItems}
use Rattle.tcmu_model.specs.Sound.{IsSound}
use Rattle.tcmu_model.proofs.Indexed.{item_at}
use Rattle.tcmu_model.proofs.Laying.{aligned}

pub holds : (d : DeviceState) → IsSound d → HoldsItems d.ring
holds d h =
    let size : d.ring.size ≡ d.settings.ring = h.ring.size in
    let low : 4096 ≤ d.settings.ring = h.settings.ring.least in
    let pages : d.settings.ring % 4096 ≡ 0 = h.settings.ring.pages in
    let even : d.settings.ring % 8 ≡ 0 = omega arith in
    record {
      size = omega arith;
      even = ap (λ n. n % 8) size ∙ even;
      aligned = aligned d.settings 0 d.ring.laid h.ring.items;
      room = h.ring.room;
      whole = λ i x g. subst (λ (n : ℕ). lengths (take i d.ring.laid) % n + x.len ≤ n) (sym size) (item_at d i x h g).whole;
      some = λ i x g. (item_at d i x h g).some;
    }
