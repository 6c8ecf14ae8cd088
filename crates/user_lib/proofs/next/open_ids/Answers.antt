use Rattle.std.proofs.Common.{ℕ, ◌+◌, ◌∙◌, arith}
use Rattle.std.specs.List.{list_any}
use Rattle.region_model.specs.Layout.{ring_start}
use Rattle.region_model.specs.UserSteps.{is_open_job}
use Rattle.user_lib.proofs.Entries.{ids_step}
use Rattle.user_lib.proofs.next.open_ids.Goals as goal

pub loop-index-preserved : goal.loop-index-preserved
loop-index-preserved c =
    record {
      items = ids_step (λ (id : ℕ). list_any (is_open_job id) c.args.jobs.now.jobs) c.args.front.now (ring_start + c.args.at) c.loop-index.index c.args.count c.loop-index.ids.items c.keep_open.new.ids.items c.read_tmr_id.result
          c.loop-index-test.true c.read_tmr_id.ensures c.keep_open.ensures.items ∙ c.loop-index.invariant.items;
      room = let a = c.keep_open.ensures.room in let b = c.loop-index.invariant.room in omega (arith, a, b);
    }
