-- The same lines over media of which nothing lost is read print the same, and have one text.
use Rattle.std.specs.Prelude.{◌≡◌, ℕ, List}
use Rattle.tcmu_types.specs.Lists.{Every}
use Rattle.tcmu_model.specs.Device.{Device}
use Rattle.tcmu_model.specs.Steps.{HandlerRelation}
use Rattle.scsi_model.specs.ReadsLost.{ServesKnown}
use Rattle.scsi_model.specs.Scsi.{Serves}
use Rattle.block_engine.specs.Determined.{IsTold, LosesNothing}
use Rattle.text_model.specs.Printed.{Picture}
use Rattle.text_model.specs.ScenarioData.{DeviceLineData, LineData}
use Rattle.text_model.specs.Several.{IsReplayOf}

-- Two replays, over one relation and another, print the same, lead to the same ends, and have the same text.
pub record IsSameReplay (R S : HandlerRelation) (picture : Picture) (ls : List DeviceLineData) (opened : List Device) (lines : List LineData) (t u : List ℕ) (is : IsReplayOf R picture ls opened lines t) (it : IsReplayOf S picture ls opened lines u) : Type 0 where
  pub printed : is.printed ≡ it.printed
  pub ends : is.ends ≡ it.ends
  pub text : t ≡ u

-- So do any two of the same lines on the same devices, dumps and all, over media that tell their bytes and their failing calls, whichever of
-- these fail, where no request of the one reads or compares what is lost.
abbrev pub OneKnownText : Type 0
OneKnownText =
    (picture : Picture) (ls : List DeviceLineData) (lines : List LineData) (opened : List Device) (t u : List ℕ)
    → Every (λ d. IsTold d.medium) opened
    → (is : IsReplayOf ServesKnown picture ls opened lines t) → (it : IsReplayOf Serves picture ls opened lines u)
    → IsSameReplay ServesKnown Serves picture ls opened lines t u is it

-- Where the media lie in memory, or in files whose stores list no failing call, every replay is such a one: no request reads what is lost.
abbrev pub KnownWithoutLoss : Type 0
KnownWithoutLoss =
    (picture : Picture) (ls : List DeviceLineData) (lines : List LineData) (opened : List Device) (text : List ℕ)
    → Every (λ d. LosesNothing d.medium) opened → IsReplayOf Serves picture ls opened lines text → IsReplayOf ServesKnown picture ls opened lines text
