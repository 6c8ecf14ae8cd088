use Rattle.std.proofs.Common.{◌∷◌, [], length-append, sym, ap, ◌∙◌, subst, arith}
use Rattle.user_lib.specs.Given.{AreKept, awaited}
use Rattle.user_lib.proofs.ById.{given_now}
use Rattle.user_lib.proofs.Keys.{keyed_push}
use Rattle.user_lib.proofs.jobs.Jobs.push.Goals as goal

pub invariant_of-self : goal.invariant_of-self
invariant_of-self c =
    let gs = c.self.inside.order.given in
    let ready = ap (λ v. awaited v.ready) c.self.view_is ∙ ap awaited c.requires in
    subst (AreKept c.self.inside.parked) (sym c.push.ensures)
    (record {
      keyed = keyed_push c.self.inside.parked gs c.args.id c.self.invariant.keyed;
      room = λ n. let r = c.self.invariant.room n in omega (arith, r, ready, length-append gs (given_now c.args.id ∷ []));
    })
