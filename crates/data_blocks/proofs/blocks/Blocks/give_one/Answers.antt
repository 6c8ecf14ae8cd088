use Rattle.data_blocks.proofs.Sets.{Giving, given-kept, given-tells}
use Rattle.data_blocks.proofs.blocks.Blocks.give_one.Goals as goal

giving : (c : goal.After-self-1) → Giving c.self.inside.words.items c.clear.new.words.items c.self.inside.limit c.self.inside.held c.self.inside.spare c.self.inside.grown c.args.number
giving c = record {
  kept = c.self.invariant;
  holds = rw (← c.self.view_is) at c.requires;
  bits = c.clear.ensures.bits;
  as_long = c.clear.ensures.length;
}

pub invariant_of-self : goal.invariant_of-self
invariant_of-self c = given-kept _ _ _ _ _ _ _ (giving c)

pub returns : goal.returns
returns c = rw (← c.self.view_is) (given-tells _ _ _ _ _ _ _ (giving c))
