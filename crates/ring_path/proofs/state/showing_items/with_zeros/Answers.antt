use Rattle.std.proofs.Common.{◌∙◌}
use Rattle.ring_path.proofs.Items.{put_told}
use Rattle.ring_path.proofs.state.showing_items.with_zeros.Goals as goal

pub returns : goal.returns
returns c =
    put_told c.args.bytes.now c.reserve.new.self.items c.extend.new.self.items c.fill.new.self.items c.extend-2.new.self.items c.first-front.result.now c.behind-rest.result.now c.args.at c.args.count
    (c.reserve.ensures.items ∙ c.new-copy.ensures) c.extend.ensures.items c.fill.ensures.items c.extend-2.ensures.items c.first-front.ensures c.behind-rest.ensures
