-- The user side's books as contracts see them: without the room of lists.
use Rattle.std.specs.Prelude.{◌≡◌, ℕ, Bool, List}
use Rattle.tcmu_types.specs.declared.settings.Flags.{Flags}
use Rattle.region_model.specs.Sides.{Recorded, UserState}
use Rattle.ring_laws.specs.UserKept.{UserSound}
use Rattle.user_lib.specs.Given.{GivenJobs}

abbrev pub books_of : ℕ → ℕ → Flags → ℕ → ℕ → GivenJobs → List ℕ → List Recorded → ℕ → ℕ → ℕ → UserState
books_of ring pages flags place tail jobs offsets items dispatched placed published =
    record {
      ring = ring;
      pages = pages;
      flags = flags;
      place = place;
      tail = tail;
      jobs = jobs.jobs;
      offsets = offsets;
      items = items;
      dispatched = dispatched;
      placed = placed;
      published = published;
    }

-- the jobs are kept by the order that the flag wants
pub record AreBooks (u : UserState) (any_order : Bool) : Type 0 where
  pub sound : UserSound u
  pub order : any_order ≡ u.flags.ooo
