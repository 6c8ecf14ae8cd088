-- Requests that read nothing lost.
use Rattle.block_engine.specs.Determined.{OneKnownReply, KnowsWithoutLoss}
use Rattle.block_engine.proofs.Settling.{one_reply, stays_told, reads_nothing_lost, one_reply_without_loss}

pub one_known_reply : OneKnownReply
one_known_reply name m r first second one other told known any =
    let same = one_reply name m r first second one other told known.0 known.1 any in
    (same.0, same.1, stays_told name m r first one told known.1)

pub knows_without_loss : KnowsWithoutLoss
knows_without_loss name m r reply after k served =
    ((reads_nothing_lost m r k.lossless.lost, served), (one_reply_without_loss name m r reply reply after after k served served).2)
