-- A drain goes on, event by event.
use Rattle.std.proofs.Common.{◌≡◌, ℕ, List, [], ◌∷◌, ◌++◌, Some, sym, subst, append_assoc}
use Rattle.tcmu_types.specs.Events.{EntryData}
use Rattle.tcmu_model.specs.Device.{Device}
use Rattle.tcmu_model.specs.Steps.{HandlerRelation, Step, Run}
use Rattle.tcmu_model.specs.Drain.{drain_event, Drains}
use Rattle.tcmu_model.specs.Work.{DrainGoesOn}

pub goes_on_first : (R : HandlerRelation) (device : ℕ) (start : Device) → DrainGoesOn R device start [] start
goes_on_first R device start rest end h = h

pub goes_on_more : (R : HandlerRelation) (device : ℕ) (start d d' : Device) (sofar : List EntryData) (e : EntryData) → e.device ≡ device → drain_event d.state ≡ Some e.event → Step R d e d' → DrainGoesOn R device start sofar d → DrainGoesOn R device start (sofar ++ e ∷ []) d'
goes_on_more R device start d d' sofar e here picked step g rest end h =
    subst (λ (es : List EntryData). Drains R device start es end) (sym (append_assoc sofar (e ∷ []) rest)) (g (e ∷ rest) end (here, picked, d', step, h))

-- the entries of a drain make a run
pub drains_run : (R : HandlerRelation) (device : ℕ) (d d' : Device) (es : List EntryData) → Drains R device d es d' → Run R d es d'
drains_run R device d d' [] h = h.1
drains_run R device d d' (e ∷ es) h = (h.2, h.3, drains_run R device h.2 d' es h.4)
