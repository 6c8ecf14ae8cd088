use Rattle.target_side.proofs.Cleaned.{Going}
use Rattle.target_side.proofs.books.Books.clean_items.Given as goal

abbrev pub invariant-loop : goal.invariant-loop
invariant-loop l = Going l.region l.tail l.fn.self l.self l.counter
