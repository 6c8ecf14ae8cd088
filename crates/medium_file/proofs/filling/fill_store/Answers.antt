use Rattle.std.proofs.Common.{◌≡◌, ◌+◌, ◌*◌, ◌≤◌, length, arith, rules, subst, ◌∙◌, refl}
use Rattle.std.proofs.lemmas.Result.{err_from_is_err_and}
use Rattle.edge.specs.Stores.{Spoils}
use Rattle.medium_file.proofs.StoreCalls.{fills_none, fills_more, fills_stop, fills_all, puts_none, puts_more, spoils_more}
use Rattle.medium_file.proofs.filling.fill_store.Goals as goal

pub loop-k-init : goal.loop-k-init
loop-k-init g c = record { size = refl; base = fills_none c.args.at c.args.block.now _; bytes = puts_none c.args.at c.args.block.now _; faults = refl }

pub loop-k-preserved : goal.loop-k-preserved
loop-k-preserved g c =
    let block : length c.args.block.now ≡ 512 = search rules in
    let room : c.args.at + 512 * c.loop-k.k + 512 ≤ (g.S.Store.state c.args.store.now).size = omega (arith, c.requires.inside, c.loop-k-test.true) in
    record {
      size = c.in_ok-write_blocks.ensures.size ∙ c.loop-k.invariant.size;
      base = fills_more c.args.at c.loop-k.k c.args.block.now _ _ _ c.loop-k.invariant.base c.in_ok-write_blocks.ensures.base;
      bytes = puts_more c.args.at c.loop-k.k c.args.block.now _ _ _ _ block room (g.S.Store.sized c.args.store.now) c.loop-k.invariant.bytes c.in_ok-write_blocks.ensures.put;
      faults = c.in_ok-write_blocks.ensures.count ∙ c.loop-k.invariant.faults;
    }

pub returns-in_err-write_blocks-clause-base : goal.returns-in_err-write_blocks-clause-base
returns-in_err-write_blocks-clause-base g c =
    let stopped = err_from_is_err_and c.from_residual.result c.from_residual.ensures.1 in
    rw (stopped.1) (fills_stop c.args.at c.loop-k.k c.args.count c.args.block.now _ _ _ c.loop-k.invariant.base c.loop-k-test.true c.in_err-write_blocks.ensures.base)

pub returns-in_err-write_blocks-clause-failed : goal.returns-in_err-write_blocks-clause-failed
returns-in_err-write_blocks-clause-failed g c =
    let block : length c.args.block.now ≡ 512 = search rules in
    let spoiled = subst (λ n. Spoils (c.args.at + 512 * c.loop-k.k) n (g.S.Store.state c.loop-k.store).bytes (g.S.Store.state c.write_blocks.new.store).bytes) block c.in_err-write_blocks.ensures.spoiled in
    let stopped = err_from_is_err_and c.from_residual.result c.from_residual.ensures.1 in
    rw (stopped.1) (spoils_more c.args.at c.loop-k.k c.args.count c.args.block.now _ _ _ _ block c.loop-k-test.true c.requires.inside (g.S.Store.sized c.args.store.now) c.loop-k.invariant.bytes spoiled)

pub returns-clause-base : goal.returns-clause-base
returns-clause-base g c =
    let end : c.loop-k.k ≡ c.args.count = omega (arith, c.loop-k-test.false, c.loop-k.auto.k-end) in
    fills_all c.args.at c.loop-k.k c.args.count c.args.block.now _ _ c.loop-k.invariant.base end
