use Rattle.std.proofs.Common.{◌≡◌, ◌+◌, ◌∙◌, sym, rules, true, false}
use Rattle.entry_codec.proofs.Outside.{outside_hit, outside_miss, outside_end}
use Rattle.entry_codec.proofs.reading.first_outside.Goals as goal

pub returns-then-not-lies_inside : goal.returns-then-not-lies_inside
returns-then-not-lies_inside c =
    let out : c.lies_inside.result ≡ false = search rules in
    sym (outside_hit c.args.front.now (128 + c.args.at) c.args.low (c.args.low + c.args.area) c.loop-index.index c.args.count c.read_iov-iov.result c.loop-index-test.true c.read_iov-iov.ensures (sym c.lies_inside.ensures ∙ out))
    ∙ c.loop-index.invariant

pub loop-index-preserved : goal.loop-index-preserved
loop-index-preserved c =
    let inside : c.lies_inside.result ≡ true = search rules in
    sym (outside_miss c.args.front.now (128 + c.args.at) c.args.low (c.args.low + c.args.area) c.loop-index.index c.args.count c.read_iov-iov.result c.loop-index-test.true c.read_iov-iov.ensures (sym c.lies_inside.ensures ∙ inside))
    ∙ c.loop-index.invariant

pub returns : goal.returns
returns c =
    sym (outside_end c.args.front.now (128 + c.args.at) c.args.low (c.args.low + c.args.area) c.loop-index.index c.args.count c.loop-index-test.false)
    ∙ c.loop-index.invariant
