use Rattle.std.proofs.Common.{◌+◌, sym, ◌∙◌, arith}
use Rattle.region_model.specs.Layout.{ring_start}
use Rattle.user_lib.proofs.Entries.{iovs_end, iovs_step}
use Rattle.user_lib.proofs.carrying.read_iovs.Goals as goal

pub loop-index-preserved : goal.loop-index-preserved
loop-index-preserved c =
    record {
      items = iovs_step c.args.front.now (ring_start + c.args.at) c.loop-index.index c.args.count c.loop-index.iovs.items c.push.new.self.items c.read_iov.result c.loop-index-test.true c.read_iov.ensures c.push.ensures.items ∙ c.loop-index.invariant.items;
      room = let a = c.push.ensures.room in let b = c.loop-index.invariant.room in omega (arith, a, b);
    }

pub returns : goal.returns
returns c = sym (iovs_end c.args.front.now (ring_start + c.args.at) c.loop-index.index c.args.count c.loop-index.iovs.items c.loop-index-test.false) ∙ c.loop-index.invariant.items
