-- Answers after which nothing has changed.
use Rattle.std.specs.Prelude.{Bool, true, false}
use Rattle.tcmu_types.specs.declared.answer.Submit.{Submit}
use Rattle.tcmu_types.specs.declared.answer.Submit.TheVariants as submit
use Rattle.tcmu_types.specs.declared.answer.Enter.{Enter}
use Rattle.tcmu_types.specs.declared.answer.Enter.TheVariants as enter
use Rattle.tcmu_types.specs.declared.answer.Tmr.{Tmr}
use Rattle.tcmu_types.specs.declared.answer.Tmr.TheVariants as tmr

-- a command that is refused is not accepted
abbrev pub is_refusal : Submit → Bool
is_refusal (submit.Queued s) = false
is_refusal (submit.Delayed s) = false
is_refusal submit.Busy = true
is_refusal (submit.TooBig have limit) = true
is_refusal (submit.FullRing need free) = true
is_refusal (submit.FullBlocks need free) = true

-- no command enters
abbrev pub enters_none : Enter → Bool
enters_none (enter.Entered s) = false
enters_none enter.Empty = true
enters_none (enter.FullRing need free) = true
enters_none (enter.FullBlocks need free) = true

-- no note is laid
abbrev pub is_unnoted : Tmr → Bool
is_unnoted tmr.Noted = false
is_unnoted tmr.Off = true
is_unnoted tmr.Busy = true
is_unnoted (tmr.Unknown s) = true
is_unnoted (tmr.FullRing need free) = true
