use Rattle.std.proofs.Common.{◌≡◌, length}
use Rattle.region_model.specs.UserSteps.{region_abandoned}
use Rattle.ring_laws.specs.UserKept.{AreWholeJobs, HasPages, HasRing}
use Rattle.user_lib.proofs.books.UserBooks.abandon_in_order.Given as goal

abbrev pub invariant-loop-taken : goal.invariant-loop-taken
invariant-loop-taken l = record {
  same : region_abandoned l.region l.self.jobs ≡ region_abandoned l.fn.region l.fn.self.jobs;
  user : l.self ≡ record l.fn.self { jobs = l.self.jobs };
  ring : HasRing l.region l.self;
  pages : HasPages l.region l.self;
  whole : AreWholeJobs l.self;
}

abbrev pub decreases-loop-taken : goal.decreases-loop-taken
decreases-loop-taken l = length l.self.jobs
