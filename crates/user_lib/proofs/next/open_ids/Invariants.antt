use Rattle.std.proofs.Common.{◌≡◌, ◌+◌, ◌-◌, ◌≤◌, ◌++◌}
use Rattle.std.specs.List.{filter, list_any}
use Rattle.region_model.specs.Layout.{ring_start}
use Rattle.region_model.specs.UserSteps.{is_open_job}
use Rattle.region_model.specs.UserNext.{tmr_ids_in}
use Rattle.user_lib.proofs.next.open_ids.Given as goal

abbrev pub invariant-loop-index : goal.invariant-loop-index
invariant-loop-index l = record {
  items : l.ids.items ++ filter (λ id. list_any (is_open_job id) l.jobs.jobs) (tmr_ids_in l.front (ring_start + l.at) l.index (l.count - l.index)) ≡ filter (λ id. list_any (is_open_job id) l.jobs.jobs) (tmr_ids_in l.front (ring_start + l.at) 0 l.count);
  room : l.count ≤ l.ids.spare + l.index;
}
