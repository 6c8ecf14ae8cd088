use Rattle.std.proofs.Common.{◌≡◌, length, take}
use Rattle.tcmu_top.specs.Playing.{states_of}
use Rattle.tcmu_top.proofs.Keeping.{KeptFrom}
use Rattle.tcmu_top.proofs.opening.keep_files.Given as goal

abbrev pub invariant-loop-opened : goal.invariant-loop-opened
invariant-loop-opened g l = record {
  kept : KeptFrom l.devices (states_of (λ d. d) l.fn.set) (g.F.Files.state l.fn.files) (g.F.Files.state l.files) (length l.set);
  front : l.set ≡ take (length l.set) l.fn.set;
  count : length l.devices ≡ length l.fn.set;
  same : g.F.Files.faults l.files ≡ g.F.Files.faults l.fn.files;
}

abbrev pub decreases-loop-opened : goal.decreases-loop-opened
decreases-loop-opened g l = length l.set
