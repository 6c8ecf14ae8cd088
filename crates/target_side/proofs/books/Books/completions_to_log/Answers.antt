use Rattle.std.proofs.Common.{length, ap, arith}
use Rattle.region_model.specs.Sides.{TargetState}
use Rattle.target_side.specs.Books.{to_log}
use Rattle.target_side.proofs.Completions.{to_log_most}
use Rattle.target_side.proofs.books.Books.completions_to_log.Goals as goal

pub returns : goal.returns
returns c =
    let most = to_log_most c.self.inside.entries.commands.rows in
    let a = ap (λ (t : TargetState). to_log t.rows) c.self.view_is in
    let b = ap (λ (t : TargetState). length t.delayed) c.self.view_is in
    omega (arith, most, a, b, c.len.ensures, c.len-2.ensures.value)
