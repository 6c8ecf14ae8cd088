use Rattle.ring_laws.proofs.shown.TodoSame.{todo_same}
use Rattle.ring_laws.proofs.showing.todo_law.Goals as goal

pub returns : goal.returns
returns c = todo_same
