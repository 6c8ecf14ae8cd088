use Rattle.std.proofs.Common.{ℕ, ◌<◌, ◌≤◌, ◌+◌, ◌≡◌, length, get_or, Some, slice_get, ap, sym, ◌∙◌, arith, subst, ⊎_elim}
use Rattle.std.proofs.lemmas.Bool.{cases_lt}
use Rattle.std.proofs.lemmas.Option.{slice_get_within, slice_get-get_or, get_or_from_slice_get, same_Some}
use Rattle.tcmu_types.proofs.Places.{get_within}
use Rattle.text_model.specs.Script.{InitLineData}
use Rattle.journal_kept.proofs.Lists.{got_is}
use Rattle.journal_kept.proofs.counts.are_all_sent.Goals as goal

pub returns-then-sent-at : goal.returns-then-sent-at
returns-then-sent-at c = λ all.
    let got = get_within c.args.inits.now c.loop-at.at (omega (arith, c.loop-at-test.true)) in
    let h = all c.loop-at.at got.0 got.1 in
    omega (arith, c.if-sent-at.true, slice_get_within c.args.sent.now c.loop-at.at h.0 h.1)

pub returns-then-sent-at-2 : goal.returns-then-sent-at-2
returns-then-sent-at-2 c = λ all.
    let got = got_is c.args.inits.now c.loop-at.at c.index-inits-at.result (omega (arith, c.loop-at-test.true)) c.index-inits-at.is in
    let h = all c.loop-at.at c.index-inits-at.result got in
    let is : c.len.result ≡ length c.index-inits-at.result.commands = c.len.ensures ∙ ap (λ (i : InitLineData). length i.commands) c.init.view_is in
    omega (arith, c.if-sent-at-2.true, is, h.2, get_or_from_slice_get c.args.sent.now c.loop-at.at h.0 0 h.1)

pub loop-at-preserved : goal.loop-at-preserved
loop-at-preserved c = λ k i less found.
    ⊎_elim
    (λ (low : k < c.loop-at.at). c.loop-at.invariant k i low found)
    (λ (high : c.loop-at.at ≤ k).
    let here : c.loop-at.at ≡ k = omega (arith, high, less) in
    let got = got_is c.args.inits.now c.loop-at.at c.index-inits-at.result (omega (arith, c.loop-at-test.true)) c.index-inits-at.is in
    let same : c.index-inits-at.result ≡ i = same_Some c.index-inits-at.result i (sym got ∙ ap (slice_get c.args.inits.now) here ∙ found) in
    let is : c.len.result ≡ length i.commands = c.len.ensures ∙ ap (λ (x : InitLineData). length x.commands) (c.init.view_is ∙ same) in
    let held = slice_get-get_or c.args.sent.now c.loop-at.at 0 (omega (arith, c.if-sent-at.false)) in
    (get_or c.args.sent.now c.loop-at.at 0, ap (slice_get c.args.sent.now) (sym here) ∙ held, omega (arith, c.if-sent-at-2.false, is)))
    (cases_lt k c.loop-at.at)

pub returns : goal.returns
returns c = λ at i found. c.loop-at.invariant at i (omega (arith, c.loop-at-test.false, slice_get_within c.args.inits.now at i found)) found
