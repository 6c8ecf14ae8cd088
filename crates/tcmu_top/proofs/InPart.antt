-- Parts of what lines and drains ask for: how they begin, how they grow, and that the whole is one.
use Rattle.std.proofs.Common.{◌≡◌, ℕ, ◌+◌, List, [], ◌∷◌, ◌++◌, length, slice_set, Some, refl, sym, subst, inl, inr}
use Rattle.tcmu_types.specs.Events.{EntryData}
use Rattle.tcmu_types.specs.Lists.{Every}
use Rattle.tcmu_model.specs.Device.{Device}
use Rattle.tcmu_model.specs.Steps.{HandlerRelation, Step}
use Rattle.tcmu_model.specs.Drain.{drain_event}
use Rattle.text_model.specs.ScenarioData.{LineData, LineWhat}
use Rattle.text_model.specs.ScenarioData as line
use Rattle.text_model.specs.Replay.{Plays}
use Rattle.text_model.specs.Several.{DrainsEach, ReplaysEach}
use Rattle.text_model.specs.ScenarioRules.{IsFit, IsFitFor}
use Rattle.tcmu_top.specs.InPart.{DrainsInPart, PlaysInPart, DrainsEachInPart, ReplaysEachInPart}
use Rattle.text_laws.proofs.Matching.{AreOf}
use Rattle.tcmu_top.proofs.Legal.{plays_own}
use Rattle.tcmu_top.proofs.Places.{set_same}
use Rattle.tcmu_types.proofs.Places.{get_within}

-- a drain made one event more
pub drains_part_more : (R : HandlerRelation) (at : ℕ) (start d d' : Device) (es : List EntryData) (e : EntryData) → DrainsInPart R at start es d → e.device ≡ at → drain_event d.state ≡ Some e.event → Step R d e d'
    → DrainsInPart R at start (es ++ e ∷ []) d'
drains_part_more R at start d d' [] e h own picked step = subst (λ (x : Device). DrainsInPart R at x (e ∷ []) d') h (own, picked, d', step, refl)
drains_part_more R at start d d' (x ∷ es) e h own picked step = (h.0, h.1, h.2, h.3, drains_part_more R at h.2 d d' es e h.4 own picked step)

pub drains_part_own : (R : HandlerRelation) (at : ℕ) (d d' : Device) (es : List EntryData) → DrainsInPart R at d es d' → AreOf at es
drains_part_own R at d d' [] h = tt
drains_part_own R at d d' (e ∷ es) h = (h.0, drains_part_own R at h.2 d' es h.4)

pub plays_part_own : (R : HandlerRelation) (at : ℕ) (d d' : Device) (what : LineWhat) (es : List EntryData) → PlaysInPart R at d what es d' → AreOf at es
plays_part_own R at d d' (line.EventLine event) es (inl none) = subst (AreOf at) (sym none.0) tt
plays_part_own R at d d' (line.EventLine event) es (inr h) = plays_own R at d d' (line.EventLine event) es h
plays_part_own R at d d' line.DrainLine es h = drains_part_own R at d d' es h
plays_part_own R at d d' line.DumpLine es h = plays_own R at d d' line.DumpLine es h

-- ==== nothing was made

none_played : (R : HandlerRelation) (at : ℕ) (d : Device) (what : LineWhat) → IsFit what → PlaysInPart R at d what [] d
none_played R at d (line.EventLine event) fit = inl (refl, refl)
none_played R at d line.DrainLine fit = refl
none_played R at d line.DumpLine fit = (refl, refl)

none_drained : (R : HandlerRelation) (at : ℕ) (ds : List Device) → DrainsEachInPart R at ds [] ds
none_drained R at [] = (refl, refl)
none_drained R at (d ∷ ds) = inl (d, refl, refl)

pub none_replayed : (R : HandlerRelation) (ds : List Device) (ls : List LineData) → Every (IsFitFor (length ds)) ls → ReplaysEachInPart R ds ls [] ds
none_replayed R ds [] fit = none_drained R 0 ds
none_replayed R ds (l ∷ ls) fit =
    let d = get_within ds l.device fit.0.device in
    inl (d.0, d.0, d.1, none_played R l.device d.0 l.what fit.0.what, sym (set_same ds l.device d.0 d.1))

-- ==== all was made

all_drained : (R : HandlerRelation) (at : ℕ) (ds : List Device) (es : List EntryData) (ends : List Device) → DrainsEach (Plays R) at ds es ends → DrainsEachInPart R at ds es ends
all_drained R at [] es ends h = h
all_drained R at (d ∷ ds) es ends h = inr (h.0, h.1, h.2, h.3, h.4, h.5, h.6, all_drained R (at + 1) ds h.1 h.3 h.7)

pub all_replayed : (R : HandlerRelation) (ds : List Device) (ls : List LineData) (es : List EntryData) (ends : List Device) → ReplaysEach (Plays R) ds ls es ends → ReplaysEachInPart R ds ls es ends
all_replayed R ds [] es ends h = all_drained R 0 ds es ends h
all_replayed R ds (l ∷ ls) es ends h = inr (h.0, h.1, h.2, h.3, h.4, h.5, h.6, all_replayed R (slice_set ds l.device h.3) ls h.1 ends h.7)
