use Rattle.std.proofs.Common.{◌≡◌, length}
use Rattle.user_lib.specs.Told.{Passes, WentOn}
use Rattle.user_lib.proofs.books.UserBooks.next.Given as goal

abbrev pub invariant-loop : goal.invariant-loop
invariant-loop l = record {
  passed : Passes l.mailbox l.counter l.fn.region l.fn.self l.region l.self;
  went : WentOn l.fn.self l.self;
  front : length l.region.front ≡ length l.fn.region.front;
  pages : l.region.pages ≡ l.fn.region.pages;
  ring : l.self.ring ≡ l.fn.self.ring;
  same : l.self.dispatched ≡ l.fn.self.dispatched;
}
