use Rattle.std.proofs.Common.{◌≡◌, ℕ, ◌+◌, ◌-◌, ◌∙◌, arith, subst}
use Rattle.std.specs.List.{count_by}
use Rattle.target_table.specs.Rows.{is_expired}
use Rattle.target_side.specs.Ticking.{ExpiresNext, ExpiresOne}
use Rattle.target_side.proofs.Expires.{Expires, Expiring, expires_all, expires_end, expiring_next}
use Rattle.target_side.proofs.Completions.{counted}
use Rattle.target_side.proofs.ticking.expire_due.Goals as goal

pub loop-preserved : goal.loop-preserved
loop-preserved c =
    let from : ℕ = count_by is_expired c.args.commands.now.rows in
    let inv = c.loop.invariant in
    let one : ExpiresOne c.args.now c.loop.commands c.loop.log.items c.expire_next.new.commands c.expire_next.new.log.items =
    subst (λ b. ExpiresNext c.args.now c.loop.commands c.loop.log.items b c.expire_next.new.commands c.expire_next.new.log.items) c.if-not-expire_next.false c.expire_next.ensures.next in
    let next : c.loop.counter - from + 1 ≡ c.loop.counter + 1 - from = (let f = inv.from in omega (arith, f)) in
    record {
      steps = subst (λ n. Expiring c.args.now c.args.commands.now c.args.log.now.items n c.expire_next.new.commands c.expire_next.new.log.items) next
          (expiring_next c.args.now c.args.commands.now c.loop.commands c.expire_next.new.commands c.args.log.now.items c.loop.log.items c.expire_next.new.log.items (c.loop.counter - from) inv.steps one);
      room = omega (arith, inv.room, c.expire_next.ensures.room);
      from = omega (arith, inv.from);
    }

pub returns-then-not-expire_next-clause-rows : goal.returns-then-not-expire_next-clause-rows
returns-then-not-expire_next-clause-rows c =
    c.if-not-expire_next.ensures.next.same
    ∙ (expires_end c.args.now c.args.commands.now c.loop.commands c.args.log.now.items c.loop.log.items (c.loop.counter - count_by is_expired c.args.commands.now.rows) c.loop.invariant.steps c.if-not-expire_next.ensures.next.none).rows

all : (c : goal.After-loop) → Expires c.args.now c.args.commands.now c.args.log.now.items c.loop.commands c.loop.log.items
all c =
    let total = counted c.args.commands.now.rows in
    expires_all c.args.now c.args.commands.now c.loop.commands c.args.log.now.items c.loop.log.items (c.loop.counter - count_by is_expired c.args.commands.now.rows) c.loop.invariant.steps (omega (arith, total, c.len-end.ensures, c.loop-test.false))

pub returns-clause-rows : goal.returns-clause-rows
returns-clause-rows c = (all c).rows

pub returns-clause-log : goal.returns-clause-log
returns-clause-log c = (all c).log
