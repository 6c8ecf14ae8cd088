use Rattle.std.proofs.Common.{rules}
use Rattle.media.proofs.Opening.{opens_memory, opens_file}
use Rattle.media.proofs.make.make_medium.Goals as goal

pub returns-in_ok-memory-in-Memory-clause-opened :
    goal.returns-in_ok-memory-in-Memory-clause-opened
returns-in_ok-memory-in-Memory-clause-opened g c =
    opens_memory c.args.config.now c.in-Memory.blocks c.config.inside.protected c.in_ok-fails.fails.items c.in_ok-memory-in-Memory.memory _ _
    (search rules) (search rules) (search rules) (search rules) c.new-in-Memory.ensures.state

pub returns-in_ok-fetch_file-in-File-clause-opened :
    goal.returns-in_ok-fetch_file-in-File-clause-opened
returns-in_ok-fetch_file-in-File-clause-opened g c =
    opens_file c.args.config.now c.as_slice-in-File.result.now (g.F.File.Store.state c.in_ok-fetch_file-in-File.field-0) c.config.inside.protected c.in_ok-fails.fails.items _ _ _ _
    (search rules) (search rules) (search rules) c.new-file.ensures.medium c.new-in-File.ensures.state c.in_ok-fetch_file-in-File.ensures.fetched
