use Rattle.std.proofs.Common.{ap, ◌≡◌, arith, ◌≤◌, ◌+◌, length}
use Rattle.medium_file.specs.FileState.{FileData, lost_span}
use Rattle.medium_file.proofs.FileCalls.{written_file}
use Rattle.medium_file.proofs.file.FileMediumMedium.write.Goals as goal

pub returns-clause-writes : goal.returns-clause-writes
returns-clause-writes g c =
    let here = c.self.invariant in
    let blocks : c.self.inside.blocks ≡ c.args.self.now.medium.blocks = ap (λ (v : FileData _). v.medium.blocks) c.self.view_is in
    let room : c.args.at + length c.args.bytes.now ≤ (g.S.Store.state c.self.inside.store).size = omega (arith, c.requires.inside, here.long, blocks) in
    rw (← c.self.view_is) (written_file c.write_blocks-outcome.result c.args.at c.self.inside.blocks c.self.inside.calls _ (lost_span c.self.inside.lost) _ c.self.inside.free _ (g.S.Store.state c.self.inside.store) (g.S.Store.state c.write_blocks-outcome.new.store)
    c.args.bytes.now c.saturating_add-self-inside.ensures (g.S.Store.sized c.self.inside.store) (record { ordered = here.ordered; ends = here.inside }) room
    c.lost_after-self-inside.ensures.narrowed c.lost_after-self-inside.ensures.widened c.write_blocks-outcome.ensures.base c.write_blocks-outcome.ensures.put c.write_blocks-outcome.ensures.spoiled)
