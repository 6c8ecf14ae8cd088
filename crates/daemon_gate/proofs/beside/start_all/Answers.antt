use Rattle.std.proofs.Common.{rules, ◌+◌, ◌≡◌}
use Rattle.std.proofs.lemmas.List.Elements.{All-push}
use Rattle.daemon_gate.proofs.beside.start_all.Goals as goal

pub loop-lane-preserved-in-Ok : goal.loop-lane-preserved-in-Ok
loop-lane-preserved-in-Ok g c =
    let was = c.loop-lane.invariant in
    let step = c.in-Some.ensures.steps in
    let pushed = c.push_reserved.ensures in
    let ready = was.0 in
    ((λ k d below. let h = ready (k + 1) d in grind rules), search rules, search rules, was.3, rw pushed.items (All-push (λ h. h.promise.about.value ≡ c.args.about.now) _ _ was.4 c.in-Ok.ensures.started), was.5)

pub loop-lane-preserved : goal.loop-lane-preserved
loop-lane-preserved g c =
    let was = c.loop-lane.invariant in
    let step = c.in-Some.ensures.steps in
    let pushed = c.push_reserved-in-Err.ensures in
    let ready = was.0 in
    ((λ k d below. let h = ready (k + 1) d in grind rules), search rules, was.2, search rules, was.4, rw pushed.items (All-push (g.L.Lane.done c.args.about.now) _ _ was.5 c.in-Err.ensures.ran))
