use Rattle.std.proofs.Common.{ℕ, ◌≤◌, List, length, subst, sym, arith, ap, ◌∙◌}
use Rattle.tcmu_types.specs.Numbers.{IsRising}
use Rattle.tcmu_path.proofs.Bounds.{few_known}
use Rattle.tcmu_path.proofs.state.State.unknown.Goals as goal

pub returns-clause-few : goal.returns-clause-few
returns-clause-few c = λ none.
    let e = c.as_slice.ensures in
    let rising : IsRising c.as_slice.result.now = subst (λ (ss : List ℕ). IsRising ss) (sym e) c.requires.rising in
    let known : length c.as_slice.result.now ≤ length c.unfinished.result.now.items = few_known c.as_slice.result.now c.unfinished.result.now.items rising (sym c.unknown.ensures ∙ none) in
    omega (arith, known, c.unfinished.ensures.few, ap (λ (ss : List ℕ). length ss) e)
