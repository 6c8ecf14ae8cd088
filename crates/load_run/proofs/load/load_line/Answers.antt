use Rattle.std.proofs.Common.{◌≡◌, ℕ, ap, sym, ◌∙◌, ◌++◌, subst, arith, length, List, [], ◌∷◌, Option, None}
use Rattle.std.proofs.lemmas.Result.{IfOk-weaker}
use Rattle.tcmu_model.specs.Device.{Device}
use Rattle.tcmu_types.specs.Lists.{Every}
use Rattle.text_model.specs.ScenarioData.{LineData}
use Rattle.load_gen.proofs.Limits.{lines_few}
use Rattle.text_model.specs.ScenarioRules.{IsFitFor}
use Rattle.load_run.specs.Tallies.{numbers_in}
use Rattle.load_run.specs.Loading.{opened_over}
use Rattle.load_run.proofs.Loads.{opened_none, lines_fit, load_played, load_text}
use Rattle.load_run.proofs.load.load_line.Goals as goal

pub play_lines-requires-clause-few : goal.play_lines-requires-clause-few
play_lines-requires-clause-few c =
    let start = c.in_ok-path.ensures ∙ ap (opened_over 4096) c.load_device.ensures in
    let lines = c.as_slice.ensures ∙ c.in_ok-lines.ensures in
    omega (arith, ap (λ (d : Device). d.state.accepted) start, opened_none, ap length lines, lines_few c.args.seed c.args.count, c.requires)

pub play_lines-requires-clause-fit : goal.play_lines-requires-clause-fit
play_lines-requires-clause-fit c =
    let lines = c.as_slice.ensures ∙ c.in_ok-lines.ensures in
    subst (λ (ls : List LineData). Every (IsFitFor 1) ls) (sym lines) (lines_fit c.args.seed c.args.count)

pub numbers_of-numbers-requires-clause-few : goal.numbers_of-numbers-requires-clause-few
numbers_of-numbers-requires-clause-few c =
    let start = c.in_ok-path.ensures ∙ ap (opened_over 4096) c.load_device.ensures in
    let lines = c.as_slice.ensures ∙ c.in_ok-lines.ensures in
    omega (arith, ap (λ (d : Device). d.state.accepted) start, opened_none, ap length lines, lines_few c.args.seed c.args.count, c.requires, c.in_ok-play_lines.ensures.accepts.most)

pub returns : goal.returns
returns c =
    let start = c.in_ok-path.ensures ∙ ap (opened_over 4096) c.load_device.ensures in
    let lines = c.as_slice.ensures ∙ c.in_ok-lines.ensures in
    let first : c.push.new.self.items ≡ None ∷ [] = c.in_ok-push.ensures.items ∙ ap (λ (l : List (Option ℕ)). l ++ None ∷ []) c.new-sizes.ensures.items in
    let d : Device = c.play_lines.new.path in
    let played = load_played c.args.seed c.args.count c.in_ok-path.path d c.as_slice.result.now c.push.new.self.items c.play_lines.new.sizes.items start lines first c.in_ok-play_lines.ensures.made in
    let numbers : c.numbers_of-numbers.result ≡ numbers_in c.play_lines.new.sizes.items d.state = c.numbers_of-numbers.ensures ∙ ap (λ (l : List (Option ℕ)). numbers_in l d.state) c.deref.ensures.value in
    IfOk-weaker c.summary.result _ _ (λ text h. load_text c.args.seed c.args.count d c.play_lines.new.sizes.items c.numbers_of-numbers.result _ played numbers h) c.summary.ensures
