use Rattle.std.proofs.Common.{◌≡◌, ℕ, List, subst}
use Rattle.tcmu_types.specs.Events.{EntryData}
use Rattle.tcmu_model.specs.Device.{Device}
use Rattle.text_model.specs.Schedule.{IsSchedule}
use Rattle.text_model.proofs.LiveSchedules.{schedule_again}
use Rattle.journal_kept.specs.Asked.{PlanData}
use Rattle.journal_kept.proofs.laws.again_law.Goals as goal

pub returns : goal.returns
returns g c = λ (p : PlanData) (es : List EntryData) (d : Device) first is. schedule_again g.P.Path.relation p.script p.opening d es (subst (λ (n : ℕ). IsSchedule g.P.Path.relation n p.script p.opening es d) first is)
