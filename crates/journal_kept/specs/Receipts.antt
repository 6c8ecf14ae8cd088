-- What a receipt of a kept device tells.
use Rattle.std.specs.Prelude.{◌≡◌, ℕ, ◌+◌, List, ◌∷◌, ◌++◌, length, Some}
use Rattle.tcmu_types.specs.Events.{EntryData}
use Rattle.tcmu_types.specs.Views.{answer_data}
use Rattle.tcmu_types.specs.declared.answer.Answer.{Answer}
use Rattle.tcmu_model.specs.Device.{Device}
use Rattle.tcmu_model.specs.Steps.{HandlerRelation, Step}
use Rattle.text_model.specs.Schedule.{LiveRun}
use Rattle.turn_lock.specs.declared.rule.Receipt.{Receipt}
use Rattle.turn_lock.specs.Receipts.{FitsAt}
use Rattle.journal_kept.specs.Asked.{PlanData, asked_event}
use Rattle.journal_kept.specs.Answering.{tells_answer, MayTell}
use Rattle.journal_kept.specs.declared.asking.Ask.{Ask}
use Rattle.journal_kept.specs.declared.asking.Told.{Told}
use Rattle.journal_kept.specs.declared.asking.Told.TheVariants as told

-- the entry of a receipt's number: the event that its ask makes behind the entries before, with the answer that it was told
pub record IsEntryOf (R : HandlerRelation) (p : PlanData) (history : List EntryData) (r : Receipt Ask Told) (answer : Answer) : Type 0 where
  pub before : List EntryData
  pub entry : EntryData
  pub later : List EntryData
  pub stands : history ≡ before ++ entry ∷ later
  pub number : length before + 1 ≡ r.number
  pub device : Device
  pub run : LiveRun R p.opening before device
  pub event : asked_event p.script before device.state r.ask ≡ Some entry.event
  pub own : entry.device ≡ p.device
  pub tells : entry.answer ≡ answer_data answer
  pub after : Device
  pub step : Step R device entry after

-- a receipt that fits a history, and tells an answer, is of the entry of its number
abbrev pub ReceiptsTell : HandlerRelation → Type 0
ReceiptsTell R =
    (p : PlanData) (history : List EntryData) (r : Receipt Ask Told) (answer : Answer)
    → FitsAt tells_answer (MayTell R) p history r → r.told ≡ told.Answered answer → IsEntryOf R p history r answer
