-- Entries with the same parts are the same.
use Rattle.std.proofs.Common.{◌≡◌, ℕ, List, ap, ◌∙◌}
use Rattle.tcmu_types.specs.Data.{DoneData}
use Rattle.tcmu_types.specs.Events.{EventData, AnswerData, EntryData}
use Rattle.text_model.specs.Journals.{Journaled}

pub entry_same : (e f : EntryData) → e.device ≡ f.device → e.event ≡ f.event → e.answer ≡ f.answer → e.logged ≡ f.logged → e ≡ f
entry_same e f p q r s =
    ap (λ (x : ℕ). let y : EntryData = record { device = x; event = e.event; answer = e.answer; logged = e.logged } in y) p
    ∙ ap (λ (x : EventData). let y : EntryData = record { device = f.device; event = x; answer = e.answer; logged = e.logged } in y) q
    ∙ ap (λ (x : AnswerData). let y : EntryData = record { device = f.device; event = f.event; answer = x; logged = e.logged } in y) r
    ∙ ap (λ (x : ℕ). let y : EntryData = record { device = f.device; event = f.event; answer = f.answer; logged = x } in y) s

pub journaled_same : (j f : Journaled) → j.entry ≡ f.entry → j.completions ≡ f.completions → j ≡ f
journaled_same j f p q =
    ap (λ (x : EntryData). let y : Journaled = record { entry = x; completions = j.completions } in y) p
    ∙ ap (λ (x : List DoneData). let y : Journaled = record { entry = f.entry; completions = x } in y) q
