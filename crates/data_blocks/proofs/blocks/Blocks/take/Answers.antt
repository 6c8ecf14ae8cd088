use Rattle.std.proofs.Common.{◌≡◌, ◌+◌, sym, ap, ◌∙◌, arith, [], ◌∷◌, ◌++◌, append_assoc, take}
use Rattle.tcmu_model.specs.BlockLists.{free_from}
use Rattle.data_blocks.proofs.Several.{next-front, took-next}
use Rattle.data_blocks.proofs.blocks.Blocks.take.Goals as goal

pub loop-preserved : goal.loop-preserved
loop-preserved c =
    let least = free_from c.args.self.now.held 0 c.args.self.now.limit in
    let so = c.loop.invariant.so_far in
    let e : take (c.loop.counter + 1) least ≡ take c.loop.counter least ++ c.take_one-number.result ∷ [] =
    next-front c.loop.counter least _ _ (sym so.rest ∙ c.take_one-number.ensures.least) in
    record {
      so_far = took-next _ _ _ _ _ _ so c.take_one-number.ensures.least c.take_one-number.ensures.new;
      appended =
          c.push.ensures.items ∙ ap (λ xs. xs ++ c.take_one-number.result ∷ []) c.loop.invariant.appended
          ∙ append_assoc c.args.into.now.items (take c.loop.counter least) (c.take_one-number.result ∷ [])
          ∙ ap (λ xs. c.args.into.now.items ++ xs) (sym e);
      room = omega arith;
    }
