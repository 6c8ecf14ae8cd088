use Rattle.std.proofs.Common.{◌≡◌, ◌-◌, ◌≤◌, length, take, drop}
use Rattle.tcmu_types.specs.ByteFields.{put}
use Rattle.region_model.specs.Regions.{bytes_of}
use Rattle.shm_region.proofs.region.Region.read_range.Given as goal

abbrev pub decreases-loop-done : goal.decreases-loop-done
decreases-loop-done l = l.end - l.done

abbrev pub invariant-loop-done : goal.invariant-loop-done
invariant-loop-done l =
    (l.from ≤ l.done)
    × (l.done ≤ l.end)
    × (length l.into ≡ length l.fn.into)
    × (l.into ≡ put l.fn.into l.from (take (l.done - l.from) (drop l.at (bytes_of l.self))))
