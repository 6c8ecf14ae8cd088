use Rattle.std.proofs.Common.{◌∙◌, sym, ap}
use Rattle.edge.specs.Stores.{Place, can_open, with_place}
use Rattle.edge.specs.Memory.{NamedStore, place_in, place_of}
use Rattle.edge.proofs.NamedFiles.{place_none, place_found, place_changed, opens, opened, if_some}
use Rattle.edge.proofs.memory_files.take_out.Goals as goal

pub returns-in_default-clause-exact : goal.returns-in_default-clause-exact
returns-in_default-clause-exact c = ap can_open (sym (place_none c.args.files.now c.args.name.now (sym c.in_default.ensures)))

pub returns-then-can_open-clause-exact : goal.returns-then-can_open-clause-exact
returns-then-can_open-clause-exact c =
    let found = λ (d : NamedStore). place_found c.args.files.now c.args.name.now c.in-Some.at d (sym c.in-Some.ensures) in
    let seen = ap can_open (found c.index-files-at.result) ∙ sym c.if-can_open.ensures in
    let taken = found c.index-files-at-then-can_open.result ∙ ap place_of (sym c.vacate.ensures.store) in
    opens c.vacate.result (ap can_open (sym taken) ∙ seen) ∙ sym seen

pub returns-then-can_open-clause-store : goal.returns-then-can_open-clause-store
returns-then-can_open-clause-store c =
    opened c.vacate.result (place_in c.args.files.now c.args.name.now)
    (place_found c.args.files.now c.args.name.now c.in-Some.at c.index-files-at-then-can_open.result (sym c.in-Some.ensures)
    ∙ ap place_of (sym c.vacate.ensures.store))

pub returns-then-can_open-clause-out : goal.returns-then-can_open-clause-out
returns-then-can_open-clause-out c = if_some c.vacate.result _ (λ n.
    place_changed c.args.files.now c.args.name.now c.in-Some.at c.index-files-at-then-can_open.result c.vacate.new.file (sym c.in-Some.ensures) c.vacate.ensures.name n
    ∙ ap (λ (p : Place). with_place c.args.name.now p (place_in c.args.files.now) n) (ap place_of c.vacate.ensures.out))

pub returns-else-can_open-clause-exact : goal.returns-else-can_open-clause-exact
returns-else-can_open-clause-exact c =
    c.if-can_open.ensures
    ∙ ap can_open (sym (place_found c.args.files.now c.args.name.now c.in-Some.at c.index-files-at.result (sym c.in-Some.ensures)))
