use Rattle.std.proofs.Common.{ap, ◌∙◌}
use Rattle.std.specs.Prelude.{◌==◌, ◌||◌}
use Rattle.region_model.specs.Sides.{TargetState}
use Rattle.region_model.specs.TargetCleans.{ends_at}
use Rattle.target_side.proofs.books.Books.is_end.Goals as goal

pub returns : goal.returns
returns c = c.is_end.ensures ∙ ap (λ (t : TargetState). (c.args.tail == t.cleaned) || ends_at t.settings.ring t.cleaned t.items c.args.tail) c.self.view_is
