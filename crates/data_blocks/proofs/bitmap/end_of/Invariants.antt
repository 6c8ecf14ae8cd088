use Rattle.std.proofs.Common.{◌≡◌, ℕ, ◌<◌, ◌≤◌, false}
use Rattle.data_blocks.specs.Bitmap.{is_set}
use Rattle.data_blocks.proofs.bitmap.end_of.Given as goal

abbrev pub invariant-loop-end : goal.invariant-loop-end
invariant-loop-end l = record {
  within : l.end ≤ l.fn.end;
  clear : (n : ℕ) → l.end ≤ n → n < l.fn.end → is_set l.words n ≡ false;
}

abbrev pub decreases-loop-end : goal.decreases-loop-end
decreases-loop-end l = l.end
