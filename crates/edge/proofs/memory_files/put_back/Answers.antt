use Rattle.std.proofs.Common.{◌∙◌, sym, ap}
use Rattle.edge.specs.Stores.{Place, with_place, given_back}
use Rattle.edge.specs.Memory.{place_in, content_of}
use Rattle.edge.proofs.NamedFiles.{place_none, place_found, place_changed, kept_missing}
use Rattle.edge.proofs.memory_files.put_back.Goals as goal

pub returns-in-Some : goal.returns-in-Some
returns-in-Some c = λ n.
    let here = c.index-files-at.result in
    place_changed c.args.files.now c.args.name.now c.in-Some.at here c.occupy.new.file (sym c.in-Some.ensures) c.occupy.ensures.name n
    ∙ ap (λ (p : Place). with_place c.args.name.now p (place_in c.args.files.now) n)
    (c.occupy.ensures.place
    ∙ ap (given_back (content_of c.args.store)) (sym (place_found c.args.files.now c.args.name.now c.in-Some.at here (sym c.in-Some.ensures))))

pub returns-in_default : goal.returns-in_default
returns-in_default c = kept_missing c.args.files.now c.args.name.now (content_of c.args.store) (place_none c.args.files.now c.args.name.now (sym c.in_default.ensures))
