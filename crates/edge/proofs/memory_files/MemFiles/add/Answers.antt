use Rattle.std.proofs.Common.{◌∙◌, refl, ap}
use Rattle.edge.specs.Memory.{FilesInMemory, content_of, files_state, after_add, place_in}
use Rattle.edge.proofs.NamedFiles.{added_state}
use Rattle.edge.proofs.memory_files.MemFiles.add.Goals as goal

pub returns-clause-ok : goal.returns-clause-ok
returns-clause-ok c =
    let name = c.args.name.now in
    let old = c.self.inside in
    added_state (record { files = old.files.items; fails = old.fetches.fails; fetches = old.fetches.calls; faults = old.fetches.faults }) c.push.new.self.items _ name c.args.store
    c.in_ok-push.ensures.items c.in_ok-name.ensures refl (ap (λ (m : FilesInMemory). place_in m.files name) c.self.view_is ∙ c.requires)
    ∙ ap (λ m. after_add name (content_of c.args.store) (files_state m)) c.self.view_is
