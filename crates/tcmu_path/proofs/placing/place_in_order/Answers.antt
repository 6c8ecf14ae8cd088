use Rattle.std.proofs.Common.{◌≡◌, ℕ, List, ◌++◌, take, drop, sym, ap, subst, ◌∙◌}
use Rattle.tcmu_model.specs.RingState.{Item, serials_in}
use Rattle.tcmu_model.specs.Events.{Placing, run_placed}
use Rattle.tcmu_types.specs.Numbers.{Differ}
use Rattle.tcmu_path.specs.Changing.{placing_of}
use Rattle.tcmu_path.proofs.Placings.{run_from, serials-cut, serials-front}
use Rattle.tcmu_path.proofs.placing.place_in_order.Goals as goal

pub place_run-requires-clause-differ : goal.place_run-requires-clause-differ
place_run-requires-clause-differ c =
    let laid = c.args.ring.now.laid in
    let front : c.args.placed.now.items ≡ serials_in (take c.args.passed laid) = c.requires.ordered in
    let behind : c.items_from-items.result.now ≡ drop c.args.passed laid = c.items_from-items.ensures.value in
    let all : serials_in laid ≡ c.args.placed.now.items ++ serials_in c.items_from-items.result.now =
    serials-cut laid c.args.passed ∙ (ap (λ (ss : List ℕ). ss ++ serials_in (drop c.args.passed laid)) (sym front) ∙ ap (λ (xs : List Item). c.args.placed.now.items ++ serials_in xs) (sym behind)) in
    subst (λ (ss : List ℕ). Differ ss) all c.requires.differ

pub returns-clause-placing : goal.returns-clause-placing
returns-clause-placing c =
    let p : Placing = placing_of c.args.placed.now c.args.rows.now in
    c.place_run.ensures.placing ∙ (ap (λ (xs : List Item). run_placed p (serials_in xs)) c.items_from-items.ensures.value ∙ run_from c.args.placed.now.items c.args.rows.now.items c.args.ring.now.laid c.args.passed c.requires.ordered)

pub returns-clause-ordered : goal.returns-clause-ordered
returns-clause-ordered c =
    let laid = c.args.ring.now.laid in
    let front : c.args.placed.now.items ≡ serials_in (take c.args.passed laid) = c.requires.ordered in
    let behind : c.items_from-items.result.now ≡ drop c.args.passed laid = c.items_from-items.ensures.value in
    c.place_run.ensures.passed ∙ (ap (λ (ss : List ℕ). ss ++ serials_in (take c.place_run.result c.items_from-items.result.now)) front ∙ (ap (λ (xs : List Item). serials_in (take c.args.passed laid) ++ serials_in (take c.place_run.result xs)) behind ∙ sym (serials-front laid c.args.passed c.place_run.result)))
