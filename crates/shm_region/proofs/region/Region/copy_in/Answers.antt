use Rattle.std.proofs.Common.{subst, sym, List}
use Rattle.tcmu_types.specs.declared.iovec.Iov.{Iov}
use Rattle.region_model.specs.Iovecs.{EndBelow}
use Rattle.shm_region.proofs.Shown.{region_small, ends_below}
use Rattle.shm_region.proofs.region.Region.copy_in.Goals as goal

pub write_along-requires : goal.write_along-requires
write_along-requires c =
    subst (λ (iovs : List Iov). EndBelow iovs) (sym c.as_slice.ensures)
    (ends_below c.args.self.now c.args.iovs.now.items (region_small c.args.self.now c.data_off.ensures.limits) c.requires)
