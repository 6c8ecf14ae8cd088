use Rattle.std.proofs.Common.{◌≡◌, true, sym, ap, ◌∙◌, subst, arith}
use Rattle.std.specs.List.{list_any}
use Rattle.tcmu_types.specs.Lists.{with_first}
use Rattle.tcmu_types.proofs.Firsts.{length-with_first}
use Rattle.region_model.specs.UserSteps.{is_open_job, with_parked}
use Rattle.user_lib.specs.Given.{AreKept, OrderState, is_open, jobs_of, with_key}
use Rattle.user_lib.proofs.Keys.{any_open, free_key, jobs_parked, keyed_parked, keys_fewer}
use Rattle.user_lib.proofs.jobs.Jobs.park.Goals as goal

pub park-requires-clause-is_open : goal.park-requires-clause-is_open
park-requires-clause-is_open c =
    sym (any_open c.self.inside.parked c.args.id c.self.inside.order.given c.self.invariant.keyed.apart) ∙ (ap (λ v. list_any (is_open_job c.args.id) v.jobs) c.self.view_is ∙ c.requires.is_open)

pub insert_reserved-key-requires : goal.insert_reserved-key-requires
insert_reserved-key-requires c =
    let gs = c.self.inside.order.given in
    let there : list_any (is_open c.args.id) gs ≡ true =
    sym (any_open c.self.inside.parked c.args.id gs c.self.invariant.keyed.apart) ∙ (ap (λ v. list_any (is_open_job c.args.id) v.jobs) c.self.view_is ∙ c.requires.is_open) in
    let k = keys_fewer c.args.id gs there in
    let n = c.self.invariant.keyed.count in
    let r = c.self.invariant.room (ap (λ v. v.any_order) c.self.view_is ∙ c.requires.order) in
    omega (arith, k, n, r)

pub invariant_of-self : goal.invariant_of-self
invariant_of-self c =
    let gs = c.self.inside.order.given in
    let key = c.insert_reserved-key.result in
    let there : list_any (is_open c.args.id) gs ≡ true =
    sym (any_open c.self.inside.parked c.args.id gs c.self.invariant.keyed.apart) ∙ (ap (λ v. list_any (is_open_job c.args.id) v.jobs) c.self.view_is ∙ c.requires.is_open) in
    let r = c.self.invariant.room (ap (λ v. v.any_order) c.self.view_is ∙ c.requires.order) in
    let more = c.insert_reserved-key.ensures.capacity in
    subst (AreKept c.insert_reserved-key.new.self) (sym c.park.ensures)
    (record {
      keyed = keyed_parked c.self.inside.parked c.insert_reserved-key.new.self c.args.id key _ gs c.insert_reserved-key.ensures.updates c.insert_reserved-key.ensures.was_vacant there c.insert_reserved-key.ensures.len c.self.invariant.keyed;
      room = λ e. let l = length-with_first (is_open c.args.id) (with_key key) gs in omega (arith, r, more, l);
    })

pub returns-clause-jobs : goal.returns-clause-jobs
returns-clause-jobs c =
    let gs = c.self.inside.order.given in
    let key = c.insert_reserved-key.result in
    ap (λ (o : OrderState). jobs_of c.insert_reserved-key.new.self o.given) c.park.ensures
    ∙ (jobs_parked c.self.inside.parked c.insert_reserved-key.new.self c.args.id key c.args.parked gs c.insert_reserved-key.ensures.updates c.self.invariant.keyed.apart
    (free_key c.self.inside.parked key gs c.self.invariant.keyed.apart c.insert_reserved-key.ensures.was_vacant)
    ∙ ap (λ v. with_first (is_open_job c.args.id) (with_parked c.args.parked) v.jobs) c.self.view_is)
