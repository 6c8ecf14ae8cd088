use Rattle.std.proofs.Common.{◌≡◌, ℕ, ◌-◌, length, get_or, min, ◌∙◌, ap, arith}
use Rattle.tcmu_types.specs.declared.iovec.Iov.{Iov}
use Rattle.region_model.specs.Regions.{bytes_of}
use Rattle.shm_region.proofs.Shown.{read_step, lies_rest, total_rest, length-chunk}
use Rattle.shm_region.proofs.region.Region.read_along.Goals as goal

abbrev none : Iov
none = record { base = 0; len = 0 }

pub loop-iov-preserved : goal.loop-iov-preserved
loop-iov-preserved c =
    let inv = c.loop-iov.invariant in
    let total : ℕ = length c.args.into.now in
    let here = lies_rest c.args.self.now c.args.iovs.now c.loop-iov.iov-index none c.loop-iov-test.true inv.3 in
    let left = total_rest c.args.iovs.now c.loop-iov.iov-index none c.loop-iov-test.true in
    let most : c.min-count.result ≡ min (get_or c.args.iovs.now c.loop-iov.iov-index none).len (total - c.loop-iov.done) =
    c.min-count.ensures ∙ ap (λ (n : ℕ). min (get_or c.args.iovs.now c.loop-iov.iov-index none).len (n - c.loop-iov.done)) inv.0 in (
      length-chunk c.loop-iov.into c.read_range.new.into (bytes_of c.args.self.now) c.loop-iov.done _ _ (omega (arith, inv.0, inv.1, most)) c.read_range.ensures ∙ inv.0,
      omega (arith, most, inv.1),
      omega (arith, most, left, inv.2),
      here.1,
      read_step c.loop-iov.into c.read_range.new.into (bytes_of c.args.self.now) c.args.iovs.now c.loop-iov.iov-index c.loop-iov.done c.min-count.result total none c.loop-iov-test.true inv.1 inv.0 most here.0 c.read_range.ensures
          ∙ inv.4,
    )
