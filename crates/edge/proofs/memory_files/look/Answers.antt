use Rattle.std.proofs.Common.{◌≡◌, ◌∙◌, Bor, Option, Some, None, refl, sym, ap}
use Rattle.std.specs.Option.{option_map, option_copied}
use Rattle.edge.specs.Memory.{StoreInMemory, NamedStore, content_of, place_of, content_at}
use Rattle.edge.proofs.NamedFiles.{place_none, place_found}
use Rattle.edge.proofs.memory_files.look.Goals as goal

shown : (r : Option (Bor StoreInMemory)) → option_map (λ s. content_of s.now) r ≡ content_at (place_of (option_copied r))
shown None = refl
shown (Some s) = refl

pub returns-in-Some : goal.returns-in-Some
returns-in-Some c =
    let here = c.index-files-at.result in
    shown c.as_ref.result
    ∙ ap (λ o. content_at (place_of o)) c.as_ref.ensures.value
    ∙ ap (λ (f : NamedStore). content_at (place_of f.store)) (c.file.view_is ∙ c.index-files-at.is)
    ∙ sym (ap content_at (place_found c.args.files.now c.args.name.now c.in-Some.at here (sym c.in-Some.ensures)))

pub returns-in-None : goal.returns-in-None
returns-in-None c = sym (ap content_at (place_none c.args.files.now c.args.name.now (sym c.in-None.ensures)))
