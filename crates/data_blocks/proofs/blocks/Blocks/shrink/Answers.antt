use Rattle.std.proofs.Common.{refl}
use Rattle.data_blocks.proofs.Sets.{Ending, shrunk-kept, shrunk-end}
use Rattle.data_blocks.proofs.blocks.Blocks.shrink.Goals as goal

ending : (c : goal.After-self-1) → Ending c.self.inside.words.items c.self.inside.limit c.self.inside.grown c.end_of-end.result
ending c = record {
  within = c.end_of-end.ensures.within;
  clear = λ n a b. rw (← c.deref.ensures.value) (c.end_of-end.ensures.clear n a b);
  set = λ a. rw (← c.deref.ensures.value) (c.end_of-end.ensures.set a);
}

pub invariant_of-self : goal.invariant_of-self
invariant_of-self c = shrunk-kept _ _ _ _ _ _ c.self.invariant (ending c)

pub returns-clause-value : goal.returns-clause-value
returns-clause-value c = rw (← c.self.view_is) (shrunk-end _ _ _ _ _ _ c.self.invariant (ending c))

pub returns-clause-new : goal.returns-clause-new
returns-clause-new c = rw (← c.self.view_is) (rw (shrunk-end _ _ _ _ _ _ c.self.invariant (ending c)) refl)
