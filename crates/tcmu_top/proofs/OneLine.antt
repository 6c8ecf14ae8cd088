-- A seed and a count have one line.
use Rattle.std.proofs.Common.{◌≡◌, inl, List, [], ◌∷◌, refl, sym, ap, ◌∙◌}
use Rattle.tcmu_types.specs.Events.{EntryData}
use Rattle.tcmu_model.specs.Device.{Device}
use Rattle.text_model.specs.Load.{load_lines, load_numbers, summary_text}
use Rattle.block_engine.specs.Determined.{LosesNothing}
use Rattle.load_run.specs.Loading.{opened_over, opened_load}
use Rattle.text_laws.proofs.Settled.{one_replay}
use Rattle.tcmu_top.specs.Laws.{HasOneLine}

load_loses_nothing : LosesNothing opened_load.medium
unfolding opened_over
load_loses_nothing = record { told = record { own = refl; store = refl; bytes = refl }; lossless = record { place = inl refl; lost = refl } }

abbrev first_or : Device → List Device → Device
first_or d [] = d
first_or d (e ∷ ds) = e

pub has_one_line : HasOneLine
has_one_line seed count t u h k =
    let one = one_replay (opened_load ∷ []) (load_lines seed count) h.entries k.entries (h.end ∷ []) (k.end ∷ []) (load_loses_nothing, tt) h.replays k.replays in
    let last : h.end ≡ k.end = ap (first_or h.end) one.1 in
    h.whole ∙ ap (λ (es : List EntryData). summary_text seed count (load_numbers es h.end.state)) one.0 ∙ ap (λ (d : Device). summary_text seed count (load_numbers k.entries d.state)) last ∙ sym k.whole
