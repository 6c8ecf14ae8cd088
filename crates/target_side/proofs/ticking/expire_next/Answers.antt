use Rattle.std.proofs.Common.{[], ◌∷◌, ◌++◌, refl, ap, ◌∙◌, arith}
use Rattle.tcmu_types.specs.Data.{DoneData}
use Rattle.region_model.specs.Pending.{PendingData}
use Rattle.region_model.specs.TargetSteps.{checked}
use Rattle.target_side.proofs.Expires.{expires_none, expires_one, next_pending, one_waits}
use Rattle.target_side.proofs.ticking.expire_next.Goals as goal

pub returns-in_default-clause-next : goal.returns-in_default-clause-next
returns-in_default-clause-next c = expires_none c.args.now c.args.commands.now c.args.commands.now c.args.log.now.items c.args.log.now.items c.in_default.ensures refl refl

pub push-requires : goal.push-requires
push-requires c = let one = one_waits c.args.now c.args.commands.now.rows c.in-Some.id c.in-Some.ensures in omega (arith, one, c.requires)

pub returns-clause-next : goal.returns-clause-next
returns-clause-next c =
    expires_one c.args.now c.args.commands.now c.expire.new.self c.args.log.now.items c.push.new.self.items c.in-Some.id c.in-Some.ensures c.expire.ensures
    (c.push.ensures.items ∙ ap (λ (d : DoneData). c.args.log.now.items ++ d ∷ []) (c.expiry.ensures ∙ ap (λ (p : PendingData). checked 0x0b 0x08 0x01 p) (next_pending c.args.now c.args.commands.now.rows c.in-Some.id c.in-Some-get.pending.now c.in-Some.ensures c.in-Some-get.ensures)))

pub returns-clause-room : goal.returns-clause-room
returns-clause-room c =
    let one = returns-clause-next c in
    omega (arith, one.less, c.push.ensures.room)
