use Rattle.load_gen.proofs.Sendable.{write_sendable, read_sendable}
use Rattle.load_gen.proofs.commands.load_command.Goals as goal

pub command_of-requires : goal.command_of-requires
command_of-requires c =
    rw (c.cdb_of-cdb.ensures, c.in_ok-sent.ensures) (write_sendable c.args.tag c.load_lba-lba.result c.load_count-count.result c.load_fill.result c.load_count-count.ensures.most)

pub command_of-requires-2 : goal.command_of-requires-2
command_of-requires-2 c =
    rw (c.cdb_of-cdb-2.ensures, c.new.ensures, c.from-in_len.ensures) (read_sendable c.args.tag c.load_lba-lba.result c.load_count-count.result c.load_count-count.ensures.most)
