use Rattle.std.proofs.Common.{ap, ◌∙◌}
use Rattle.region_model.specs.Iovecs.{room_of}
use Rattle.iovec_scatter.proofs.Steps.{room-scattered}
use Rattle.iovec_scatter.proofs.block.scatter.Goals as goal

pub returns-clause-room : goal.returns-clause-room
returns-clause-room c = ap room_of c.write_blocks.ensures.items ∙ room-scattered c.args.parts.now.items c.args.bytes.now
