use Rattle.std.proofs.Common.{◌≡◌, ◌≤◌, ◌*◌, ◌^◌, take}
use Rattle.std.specs.List.{sum_by}
use Rattle.load_run.specs.Tallies.{good_bytes}
use Rattle.load_run.proofs.summary.sum_bytes.Given as goal

abbrev pub invariant-loop-done : goal.invariant-loop-done
invariant-loop-done l = record {
  sum : l.bytes ≡ sum_by (good_bytes l.sizes) (take l.done-index l.log);
  small : l.bytes ≤ l.done-index * 2 ^ 64;
}
