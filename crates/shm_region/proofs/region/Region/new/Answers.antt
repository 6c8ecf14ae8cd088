use Rattle.std.proofs.Common.{◌≡◌, ◌∙◌, ap, arith, length, ◌+◌}
use Rattle.tcmu_types.proofs.ByteFields.{length-padded}
use Rattle.region_model.specs.Layout.{device_mailbox}
use Rattle.shm_region.proofs.region.Region.new.Goals as goal
use Rattle.region_model.proofs.PartLengths.{length-mailbox}

pub invariant_of-result : goal.invariant_of-result
invariant_of-result c =
    let limits = c.settings.invariant in
    let size : length c.in_ok-front.front.items ≡ 4096 + c.settings.inside.ring =
    ap length c.in_ok-front.ensures ∙ length-padded (4096 + c.settings.inside.ring) _ (omega (arith, length-mailbox (device_mailbox c.settings.inside.flags c.settings.inside.ring 0 0))) in
    let count : length c.new.result.items ≡ 0 = ap length c.new.ensures.items in
    record {
      least = limits.pages_low;
      most = limits.pages_high;
      mailbox = omega arith;
      whole = omega (arith, limits.ring.most);
      count = omega arith;
      sized = rw c.new.ensures.items tt;
    }
