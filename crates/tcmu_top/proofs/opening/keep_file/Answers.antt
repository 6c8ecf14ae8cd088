use Rattle.std.proofs.Common.{◌≡◌, ◌∙◌, sym, ap, subst}
use Rattle.text_model.specs.Config.{MediumData, InFile}
use Rattle.device_config.specs.Views.{medium_data}
use Rattle.tcmu_top.specs.Opened.{Returns}
use Rattle.tcmu_top.proofs.Keeping.{returned_file}
use Rattle.tcmu_top.proofs.opening.keep_file.Goals as goal

pub returns-in-File-clause-kept : goal.returns-in-File-clause-kept
returns-in-File-clause-kept g c =
    let kind : c.args.device.now.config.kind ≡ InFile c.in-File.name.items = sym c.medium_kind.ensures ∙ ap medium_data c.in-File.is in
    let stored = rw (c.into_medium.ensures, c.into_handler.ensures.medium) at c.in-Some.ensures in
    let kept = rw c.as_slice.ensures at c.keep.ensures.kept in
    subst (λ (k : MediumData). Returns k c.args.opened.medium (g.F.Files.state c.args.files.now) (g.F.Files.state c.keep.new.self)) (sym kind)
    (returned_file c.in-File.name.items (g.F.File.Store.state c.in-Some.store) c.args.opened.medium (g.F.Files.state c.args.files.now) (g.F.Files.state c.keep.new.self) (g.F.File.Store.sized c.in-Some.store) stored kept)
