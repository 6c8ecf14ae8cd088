use Rattle.std.proofs.Common.{ℕ, List, map, ap, ◌∙◌}
use Rattle.std.specs.List.{count_by}
use Rattle.tcmu_model.specs.Device.{Unfinished}
use Rattle.tcmu_model.specs.RingState.{cleared_commands, published_commands}
use Rattle.tcmu_model.specs.Events.{lose, is_losing}
use Rattle.tcmu_path.proofs.Cleared.{lose_behind, count_behind}
use Rattle.tcmu_path.proofs.books.lose_unpublished.Goals as goal

pub returns-clause-rows : goal.returns-clause-rows
returns-clause-rows c =
    let us = c.args.rows.now.items in
    c.mark_lost.ensures.items ∙ (ap (λ (ss : List ℕ). map (lose ss) us) c.published-serials.ensures.value ∙ lose_behind (cleared_commands c.args.ring.now) (published_commands c.args.ring.now) c.args.placed.now.items us c.published-serials.ensures.cleared c.requires.away)

pub returns-clause-count : goal.returns-clause-count
returns-clause-count c =
    let us = c.args.rows.now.items in
    c.losing-count.ensures ∙ (ap (λ (vs : List Unfinished). count_by (is_losing c.published-serials.result.now) vs) c.all.ensures ∙ (ap (λ (ss : List ℕ). count_by (is_losing ss) us) c.published-serials.ensures.value ∙ count_behind (cleared_commands c.args.ring.now) (published_commands c.args.ring.now) c.args.placed.now.items us c.published-serials.ensures.cleared c.requires.away))
