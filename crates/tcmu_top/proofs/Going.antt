-- A replay over several devices goes on by the drain of one, or by a line.
use Rattle.std.proofs.Common.{◌≡◌, ℕ, ◌+◌, ◌<◌, ◌≤◌, List, ◌∷◌, length, slice_set, Option, refl, sym, ap, ◌∙◌, arith, subst, inl, inr}
use Rattle.std.proofs.lemmas.List.{length-set}
use Rattle.tcmu_types.specs.Events.{EntryData}
use Rattle.tcmu_model.specs.Device.{Device}
use Rattle.tcmu_model.specs.Steps.{HandlerRelation}
use Rattle.tcmu_model.specs.Drain.{Drains}
use Rattle.text_model.specs.Replay.{Plays}
use Rattle.tcmu_model.specs.Sound.{IsSound}
use Rattle.tcmu_types.specs.Lists.{Every}
use Rattle.text_model.specs.ScenarioData.{DeviceLineData, LineData}
use Rattle.text_model.specs.Several.{DrainsEach, ReplaysEach}
use Rattle.tcmu_types.proofs.Everies.{every-weaker, every_at}
use Rattle.tcmu_top.specs.Playing.{WroteOn, WroteOnFront, WroteEach, WroteEachFront}
use Rattle.tcmu_top.specs.InPart.{DrainsInPart, PlaysInPart, DrainsEachInPart, ReplaysEachInPart}
use Rattle.text_model.specs.ScenarioRules.{IsFitFor}
use Rattle.tcmu_top.proofs.Each.{Aims, SoFar, sofar_first, sofar_more, sofar_stopped, sofar_done}
use Rattle.tcmu_top.proofs.Endings.{DrainsFrom, DrainsFromInPart, drains_step, drains_part_step, drains_part_stop, drains_none, ending_drains, ending_lines}
use Rattle.tcmu_top.proofs.InPart.{drains_part_own, plays_part_own}
use Rattle.text_laws.proofs.Matching.{drains_own}
use Rattle.tcmu_top.proofs.Legal.{plays_own}
use Rattle.text_laws.proofs.Sets.{every_set}

-- what one device keeps, all keep
pub every_kept : (P : Device → Type 0) (R : HandlerRelation) (ls : List DeviceLineData) (at n : ℕ) (so : Device → List EntryData → Device → Type 0) (ds ds' : List Device) (old new : Option (List ℕ))
    → (w : WroteOn R ls at n so ds ds' old new) → (P w.before → P w.after) → Every P ds → Every P ds'
every_kept P R ls at n so ds ds' old new w keeps h =
    subst (Every P) (sym w.others) (every_set P ds at w.after h (keeps (every_at P ds at w.before h w.found)))

pub count_kept : (R : HandlerRelation) (ls : List DeviceLineData) (at n : ℕ) (so : Device → List EntryData → Device → Type 0) (ds ds' : List Device) (old new : Option (List ℕ))
    → WroteOn R ls at n so ds ds' old new → length ds' ≡ length ds
count_kept R ls at n so ds ds' old new w = ap (λ (l : List Device). length l) w.others ∙ length-set ds at w.after

-- ==== drains

abbrev pub drains_each : HandlerRelation → ℕ → List Device → Aims
drains_each R at ds = record { whole = DrainsEach (Plays R) at ds; part = DrainsEachInPart R at ds }

abbrev pub drains_from : HandlerRelation → ℕ → List Device → Aims
drains_from R at ds = record { whole = DrainsFrom R at ds; part = DrainsFromInPart R at ds }

pub drains_first : (R : HandlerRelation) (ls : List DeviceLineData) (ds : List Device) (old : Option (List ℕ)) → Every (λ d. IsSound d.state) ds → SoFar R ls (drains_from R 0 ds) (drains_each R 0 ds) ds ds old old
drains_first R ls ds old sound =
    let s = sofar_first R ls (drains_each R 0 ds) ds old sound in
    record { sofar = s.sofar; legal = s.legal; goes_on = λ rest ends h. s.goes_on rest ends h.0; stops = λ rest ends h. s.stops rest ends h.0; wrote = s.wrote; sound = s.sound; count = s.count }

pub drained_more : (R : HandlerRelation) (ls : List DeviceLineData) (at : ℕ) (Whole : Aims) (start ds ds' : List Device) (old mid now : Option (List ℕ))
    → SoFar R ls (drains_from R at ds) Whole start ds old mid → WroteOn R ls at 0 (Drains R at) ds ds' mid now → SoFar R ls (drains_from R (at + 1) ds') Whole start ds' old now
drained_more R ls at Whole start ds ds' old mid now s w =
    sofar_more R ls (drains_from R at ds) (drains_from R (at + 1) ds') Whole (Drains R at) at 0 start ds ds' old mid now s w (λ d d' es h. drains_own R at d d' es h)
    (λ rest ends h k. drains_step R at ds ends w.before w.after w.wrote.entries rest w.found h (subst (λ (l : List Device). DrainsFrom R (at + 1) l rest ends) w.others k))
    (λ rest ends h k. drains_part_step R at ds ends w.before w.after w.wrote.entries rest w.found h (subst (λ (l : List Device). DrainsFromInPart R (at + 1) l rest ends) w.others k))

pub drained_stopped : (R : HandlerRelation) (ls : List DeviceLineData) (at : ℕ) (Whole : Aims) (start ds ds' : List Device) (old mid now : Option (List ℕ)) → at < length ds
    → SoFar R ls (drains_from R at ds) Whole start ds old mid → WroteOnFront R ls at (DrainsInPart R at) (Drains R at) ds ds' mid now → WroteEachFront R ls Whole.part Whole.whole start ds' old now
drained_stopped R ls at Whole start ds ds' old mid now lt s w =
    sofar_stopped R ls (drains_from R at ds) Whole (λ d'. DrainsFrom R (at + 1) (slice_set ds at d')) (DrainsInPart R at) (Drains R at) at start ds ds' old mid now s w
    (λ d d' es h. drains_part_own R at d d' es h)
    (λ es d d' found h. drains_part_stop R at ds d d' es found h)
    (λ d d' es h. drains_own R at d d' es h)
    (λ es rest d d' ends found h k. drains_step R at ds ends d d' es rest found h k)
    (λ outcomes d' sound. ending_drains R (at + 1) (slice_set ds at d') (omega (arith, lt, length-set ds at d')) outcomes (every_set (λ (d : Device). IsSound d.state) ds at d' s.sound sound))

pub drained_all : (R : HandlerRelation) (ls : List DeviceLineData) (at : ℕ) (Whole : Aims) (start ds : List Device) (old now : Option (List ℕ)) → length ds ≤ at
    → SoFar R ls (drains_from R at ds) Whole start ds old now → WroteEach R ls Whole.whole start ds old now
drained_all R ls at Whole start ds old now le s = sofar_done R ls (drains_from R at ds) Whole start ds old now s (drains_none R at ds le)

-- ==== lines

abbrev pub replays_each : HandlerRelation → List Device → List LineData → Aims
replays_each R ds ls = record { whole = ReplaysEach (Plays R) ds ls; part = ReplaysEachInPart R ds ls }

abbrev pub PlaysLine : HandlerRelation → LineData → Device → List EntryData → Device → Type 0
PlaysLine R l d es d' = Plays R l.device d l.what es d'

abbrev pub PlaysLineInPart : HandlerRelation → LineData → Device → List EntryData → Device → Type 0
PlaysLineInPart R l d es d' = PlaysInPart R l.device d l.what es d'

pub played_more : (R : HandlerRelation) (ls : List DeviceLineData) (l : LineData) (more : List LineData) (Whole : Aims) (start ds ds' : List Device) (old mid now : Option (List ℕ))
    → SoFar R ls (replays_each R ds (l ∷ more)) Whole start ds old mid → WroteOn R ls l.device 1 (PlaysLine R l) ds ds' mid now → SoFar R ls (replays_each R ds' more) Whole start ds' old now
played_more R ls l more Whole start ds ds' old mid now s w =
    sofar_more R ls (replays_each R ds (l ∷ more)) (replays_each R ds' more) Whole (PlaysLine R l) l.device 1 start ds ds' old mid now s w (λ d d' es h. plays_own R l.device d d' l.what es h)
    (λ rest ends h k. (w.wrote.entries, rest, w.before, w.after, refl, w.found, h, subst (λ (x : List Device). ReplaysEach (Plays R) x more rest ends) w.others k))
    (λ rest ends h k. inr (w.wrote.entries, rest, w.before, w.after, refl, w.found, h, subst (λ (x : List Device). ReplaysEachInPart R x more rest ends) w.others k))

pub played_stopped : (R : HandlerRelation) (ls : List DeviceLineData) (l : LineData) (more : List LineData) (Whole : Aims) (start ds ds' : List Device) (old mid now : Option (List ℕ))
    → Every (IsFitFor (length ds)) more → SoFar R ls (replays_each R ds (l ∷ more)) Whole start ds old mid → WroteOnFront R ls l.device (PlaysLineInPart R l) (PlaysLine R l) ds ds' mid now
    → WroteEachFront R ls Whole.part Whole.whole start ds' old now
played_stopped R ls l more Whole start ds ds' old mid now fit s w =
    sofar_stopped R ls (replays_each R ds (l ∷ more)) Whole (λ d'. ReplaysEach (Plays R) (slice_set ds l.device d') more) (PlaysLineInPart R l) (PlaysLine R l) l.device start ds ds' old mid now s w
    (λ d d' es h. plays_part_own R l.device d d' l.what es h)
    (λ es d d' found h. inl (d, d', found, h, refl))
    (λ d d' es h. plays_own R l.device d d' l.what es h)
    (λ es rest d d' ends found h k. (es, rest, d, d', refl, found, h, k))
    (λ outcomes d' sound. ending_lines R (slice_set ds l.device d') more outcomes (every_set (λ (d : Device). IsSound d.state) ds l.device d' s.sound sound)
    (subst (λ (n : ℕ). Every (IsFitFor n) more) (sym (length-set ds l.device d')) fit))

-- what holds of one device behind its turn, and what of all others
pub every_turned : (P Q : Device → Type 0) (R : HandlerRelation) (ls : List DeviceLineData) (at n : ℕ) (so : Device → List EntryData → Device → Type 0) (ds ds' : List Device) (old new : Option (List ℕ))
    → (w : WroteOn R ls at n so ds ds' old new) → ((d : Device) → P d → Q d) → (P w.before → Q w.after) → Every P ds → Every Q ds'
every_turned P Q R ls at n so ds ds' old new w weaker turned h =
    subst (Every Q) (sym w.others) (every_set Q ds at w.after (every-weaker P Q ds weaker h) (turned (every_at P ds at w.before h w.found)))
