use Rattle.std.proofs.Common.{◌≡◌, ◌+◌, length}
use Rattle.std.specs.List.{count_by}
use Rattle.region_model.specs.UserSteps.{is_cmd, moving, moving_items, user_published}
use Rattle.user_lib.proofs.books.UserBooks.publish.Given as goal

abbrev pub invariant-loop : goal.invariant-loop
invariant-loop l = record {
  same : user_published l.self ≡ user_published l.fn.self;
  items : length l.self.items + moving l.fn.self ≡ length l.fn.self.items + moving l.self;
  commands : l.self.published + count_by is_cmd (moving_items l.self) ≡ l.fn.self.published + count_by is_cmd (moving_items l.fn.self);
}

abbrev pub decreases-loop : goal.decreases-loop
decreases-loop l = moving l.self
