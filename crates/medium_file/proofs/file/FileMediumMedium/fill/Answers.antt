use Rattle.std.proofs.Common.{ap, arith, rules, ◌≡◌, ◌≤◌, ◌+◌, ◌*◌, length}
use Rattle.medium_file.specs.FileState.{FileData, lost_span}
use Rattle.medium_file.proofs.FileCalls.{filled_file}
use Rattle.medium_file.proofs.file.FileMediumMedium.fill.Goals as goal

pub returns-clause-fills : goal.returns-clause-fills
returns-clause-fills g c =
    let here = c.self.invariant in
    let blocks : c.self.inside.blocks ≡ c.args.self.now.medium.blocks = ap (λ (v : FileData _). v.medium.blocks) c.self.view_is in
    let block : length c.args.block.now ≡ 512 = search rules in
    let room : c.args.at + 512 * c.args.count ≤ (g.S.Store.state c.self.inside.store).size = omega (arith, c.requires.inside, here.long, blocks) in
    rw (← c.self.view_is) (filled_file c.fill_store-outcome.result c.args.at c.args.count c.self.inside.blocks c.self.inside.calls _ (lost_span c.self.inside.lost) _ c.self.inside.free _ (g.S.Store.state c.self.inside.store) (g.S.Store.state c.fill_store-outcome.new.store)
    c.args.block.now c.saturating_add-self-inside.ensures (g.S.Store.sized c.self.inside.store) (record { ordered = here.ordered; ends = here.inside }) room block
    c.lost_after-self-inside.ensures.narrowed c.lost_after-self-inside.ensures.widened c.fill_store-outcome.ensures.base c.fill_store-outcome.ensures.put c.fill_store-outcome.ensures.failed)
