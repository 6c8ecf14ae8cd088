use Rattle.std.proofs.Common.{◌≡◌, length}
use Rattle.region_model.specs.UserSteps.{placed_front}
use Rattle.user_lib.proofs.Placings.{FrontKept}
use Rattle.user_lib.proofs.books.UserBooks.place_front.Given as goal

abbrev pub invariant-loop-parked : goal.invariant-loop-parked
invariant-loop-parked l = record {
  same : placed_front (record { region = l.region; user = l.self }) l.self.jobs ≡ placed_front (record { region = l.fn.region; user = l.fn.self }) l.fn.self.jobs;
  kept : FrontKept l.region l.self;
}

abbrev pub decreases-loop-parked : goal.decreases-loop-parked
decreases-loop-parked l = length l.self.jobs
