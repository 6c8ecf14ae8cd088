use Rattle.std.proofs.Common.{ap, Err}
use Rattle.tcmu_top.specs.declared.reading.Unread.{Unread}
use Rattle.tcmu_top.specs.Top.{replay}
use Rattle.tcmu_top.proofs.Scenarios.{ends_too_long}
use Rattle.tcmu_top.proofs.top.run_replay.Goals as goal

pub returns-in-Err-TooLong-clause-ends : goal.returns-in-Err-TooLong-clause-ends
returns-in-Err-TooLong-clause-ends g c =
    let which = ap (λ (x : Unread). Err x) c.in-Err-TooLong.field-0-is in
    ends_too_long replay _ _ _ _ _ _ _ _ _ _ (c.in-Err-TooLong.ensures.too_long which) c.in-Err-TooLong.ensures.taken (c.in-Err-TooLong.ensures.calm_long which)
