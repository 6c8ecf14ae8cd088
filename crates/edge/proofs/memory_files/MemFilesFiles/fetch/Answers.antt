use Rattle.std.proofs.Common.{◌≡◌, ◌∙◌, List, length, Some, sym, ap, subst}
use Rattle.std.specs.Vec.{with_items}
use Rattle.std.proofs.lemmas.List.{with_items_is}
use Rattle.edge.specs.Stores.{FetchGives, store_of}
use Rattle.edge.specs.Memory.{CallsInMemory, FilesInMemory, NamedStore, content_of, place_in, files_state}
use Rattle.edge.proofs.NamedFiles.{fetched_state}
use Rattle.edge.proofs.memory_files.MemFilesFiles.fetch.Goals as goal

pub returns-in-Some-clause-fetched : goal.returns-in-Some-clause-fetched
returns-in-Some-clause-fetched c =
    let name = c.args.name.now in
    let inside = c.self.inside in
    let begun = c.in_ok-begin.ensures in
    let opened = c.in-Some.ensures in
    let calls : CallsInMemory = c.begin.new.self in
    let old : FilesInMemory = record { files = c.deref_mut.result.now; fails = inside.fetches.fails; fetches = inside.fetches.calls; faults = inside.fetches.faults } in
    let files : List NamedStore = (with_items inside.files c.take_out.new.files).items in
    let written : files ≡ c.take_out.new.files = with_items_is inside.files c.take_out.new.files (c.take_out.auto.files ∙ ap length c.deref_mut.ensures.value ∙ sym inside.files.ok.0) in
    let new : FilesInMemory = record { files = files; fails = calls.fails; fetches = calls.calls; faults = calls.faults } in
    let same = ap (λ files. record old { files = files }) c.deref_mut.ensures.value ∙ c.self.view_is in
    subst (λ (m : FilesInMemory). FetchGives name (store_of (content_of c.in-Some.store)) (Some (files_state m)) (Some (files_state new))) same
    (fetched_state old calls files name c.in-Some.store begun.calls begun.fails (sym begun.exact)
    (sym opened.exact) opened.store (λ q. ap (λ (fs : List NamedStore). place_in fs q) written ∙ opened.out q))
