use Rattle.std.proofs.Common.{rules, subst, ◌+◌, ◌≡◌}
use Rattle.std.proofs.lemmas.List.Elements.{All-push}
use Rattle.daemon_gate.proofs.beside.join_all.Goals as goal

pub loop-child-preserved : goal.loop-child-preserved
loop-child-preserved g c =
    let was = c.loop-child.invariant in
    let step = c.in-Some.ensures.steps in
    let pushed = c.push_reserved.ensures in
    let next : c.in-Some.child.promise.about.value ≡ c.args.about.now = let h = was.2 0 c.in-Some.child in grind rules in
    let here : g.L.Lane.done c.args.about.now c.join.result = subst (λ a. g.L.Lane.done a c.join.result) next c.join.ensures in
    (search rules, search rules, (λ k d below. let h = was.2 (k + 1) d in grind rules), rw pushed.items (All-push (g.L.Lane.done c.args.about.now) _ _ was.3 here))
