use Rattle.std.proofs.Common.{rules, arith, ◌∙◌}
use Rattle.turn_lock.proofs.Asking.{counts_up, passes_on}
use Rattle.turn_lock.proofs.Serving.{counted, passed_on}
use Rattle.turn_lock.proofs.turn.serve.Goals as goal

pub fetch_add-requires : goal.fetch_add-requires
fetch_add-requires g c =
    let asked = c.ask_value-told.ensures in
    (asked.same.0 ∙ c.requires.own.0, omega arith, counts_up _ _ _ _ _ _ _ asked.asked (omega (arith, asked.grown)) (omega arith))

pub fetch_add-requires-2 : goal.fetch_add-requires-2
fetch_add-requires-2 g c =
    let asked = c.ask_value-told.ensures in
    let counts = c.fetch_add.ensures in
    let turn = (counted _ _ _ _ _ asked.asked (omega (arith, asked.grown)) counts.2.0).0 in
    (counts.0 ∙ asked.same.0 ∙ c.requires.own.0, omega arith, passes_on _ _ _ turn)

pub returns-clause-idle : goal.returns-clause-idle
returns-clause-idle g c =
    let asked = c.ask_value-told.ensures in
    let got = (counted _ _ _ _ _ asked.asked (omega (arith, asked.grown)) c.fetch_add.ensures.2.0).1 in
    (passed_on _ c.ask_value-told.new.seat.me c.fetch_add.new.seat.me c.fetch_add-2.new.seat.me c.args.ask.now c.ask_value-told.result.0 c.ask_value-told.result.2 asked.asked.live got c.fetch_add-2.ensures.2.0).0

pub returns-clause-receives : goal.returns-clause-receives
returns-clause-receives g c =
    let asked = c.ask_value-told.ensures in
    let got = (counted _ _ _ _ _ asked.asked (omega (arith, asked.grown)) c.fetch_add.ensures.2.0).1 in
    let r = (passed_on _ c.ask_value-told.new.seat.me c.fetch_add.new.seat.me c.fetch_add-2.new.seat.me c.args.ask.now c.ask_value-told.result.0 c.ask_value-told.result.2 asked.asked.live got c.fetch_add-2.ensures.2.0).1 in
    search rules
