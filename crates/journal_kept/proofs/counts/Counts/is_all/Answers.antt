use Rattle.std.proofs.Common.{◌≡◌, ◌≤◌, Bool, true, false, List, ℕ, length, map, ap, sym, ◌∙◌, arith, subst}
use Rattle.std.proofs.lemmas.List.{length-map}
use Rattle.tcmu_types.specs.Views.{event_data}
use Rattle.journal_kept.proofs.Tell.{all_counted}
use Rattle.journal_kept.proofs.counts.Counts.is_all.Goals as goal

pub returns : goal.returns
returns c = rw (← c.self.view_is, ← c.script.view_is) (all_counted c.are_all_sent.result _ _ (omega (arith, c.if-self-len.false, c.len.ensures, length-map c.script.inside.admin.items event_data)) (rw (← c.as_slice.ensures, ← c.as_slice-2.ensures.value) c.are_all_sent.ensures))
