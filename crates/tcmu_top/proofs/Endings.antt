-- Every replay over several devices can be ended.
use Rattle.std.proofs.Common.{◌≡◌, ℕ, zero, suc, ◌+◌, ◌≤◌, List, [], ◌∷◌, ◌++◌, length, take, drop, slice_get, slice_set, Some, refl, sym, ap, ◌∙◌, arith, subst, add-one, inl, inr}
use Rattle.std.proofs.lemmas.List.{map-append, length-set, drop-set-lt, drop_all}
use Rattle.tcmu_types.specs.Events.{EntryData}
use Rattle.tcmu_model.specs.Device.{Device}
use Rattle.tcmu_model.specs.Steps.{HandlerRelation, Run}
use Rattle.tcmu_model.specs.Drain.{Drains}
use Rattle.tcmu_model.specs.Sound.{IsSound}
use Rattle.tcmu_types.specs.Lists.{Every}
use Rattle.tcmu_model.specs.Work.{HasOutcomes}
use Rattle.text_model.specs.ScenarioData.{LineData}
use Rattle.text_model.specs.Replay.{Plays}
use Rattle.text_model.specs.Several.{DrainsEach, ReplaysEach}
use Rattle.tcmu_model.proofs.GoesOn.{drains_run}
use Rattle.tcmu_model.proofs.Runs.{sound_run}
use Rattle.text_model.specs.ScenarioRules.{IsFitFor}
use Rattle.text_model.specs.Journals.{Journaled, entries_of}
use Rattle.tcmu_top.specs.InPart.{DrainsInPart, DrainsEachInPart}
use Rattle.tcmu_top.proofs.Each.{Leads, Ending}
use Rattle.tcmu_top.proofs.Legal.{piece_of, legal_none, legal_one, legal_append, plays_own}
use Rattle.tcmu_top.proofs.Places.{agrees}
use Rattle.tcmu_top.proofs.Playing.{drained, plays_total, plays_run}
use Rattle.tcmu_types.proofs.Places.{get_within, drop_from}
use Rattle.tcmu_types.proofs.Everies.{every_at}
use Rattle.text_laws.proofs.Matching.{AreOf, drains_own}
use Rattle.text_laws.proofs.Sets.{every_set}

-- ==== drains in order

-- the devices from a number on are so, and those before it stay
abbrev pub From : (List Device → List EntryData → List Device → Type 0) → ℕ → List Device → Leads
From So at ds es ends = So (drop at ds) es (drop at ends) × (take at ends ≡ take at ds)

abbrev pub DrainsFrom : HandlerRelation → ℕ → List Device → Leads
DrainsFrom R at ds = From (DrainsEach (Plays R) at) at ds

abbrev pub DrainsFromInPart : HandlerRelation → ℕ → List Device → Leads
DrainsFromInPart R at ds = From (DrainsEachInPart R at) at ds

from_step : (So Next : List Device → List EntryData → List Device → Type 0) (at : ℕ) (ds ends : List Device) (d d' : Device) (es rest : List EntryData) → slice_get ds at ≡ Some d
    → ((others : List Device) → Next (drop (suc at) ds) rest others → So (d ∷ drop (suc at) ds) (es ++ rest) (d' ∷ others))
    → From Next (at + 1) (slice_set ds at d') rest ends → From So at ds (es ++ rest) ends
from_step So Next at ds ends d d' es rest found one h =
    let kept : drop (at + 1) (slice_set ds at d') ≡ drop (suc at) ds = drop-set-lt (at + 1) ds at d' (omega arith) ∙ ap (λ (n : ℕ). drop n ds) (add-one at) in
    let front : take (suc at) ends ≡ take (suc at) (slice_set ds at d') = subst (λ (n : ℕ). take n ends ≡ take n (slice_set ds at d')) (add-one at) h.1 in
    let a = agrees ds ends at d d' found front in
    let others : Next (drop (suc at) ds) rest (drop (suc at) ends) =
    subst (λ (l : List Device). Next l rest (drop (suc at) ends)) kept
    (subst (λ (l : List Device). Next (drop (at + 1) (slice_set ds at d')) rest l) (ap (λ (n : ℕ). drop n ends) (add-one at)) h.0) in (
      subst (λ (l : List Device). So l (es ++ rest) (drop at ends)) (sym (drop_from ds at d found))
          (subst (λ (l : List Device). So (d ∷ drop (suc at) ds) (es ++ rest) l) (sym a.from) (one (drop (suc at) ends) others)),
      a.before,
    )

pub drains_step : (R : HandlerRelation) (at : ℕ) (ds ends : List Device) (d d' : Device) (es rest : List EntryData) → slice_get ds at ≡ Some d → Drains R at d es d'
    → DrainsFrom R (at + 1) (slice_set ds at d') rest ends → DrainsFrom R at ds (es ++ rest) ends
drains_step R at ds ends d d' es rest found drain h =
    from_step (DrainsEach (Plays R) at) (DrainsEach (Plays R) (at + 1)) at ds ends d d' es rest found (λ others k. (es, rest, d', others, refl, refl, drain, k)) h

pub drains_part_step : (R : HandlerRelation) (at : ℕ) (ds ends : List Device) (d d' : Device) (es rest : List EntryData) → slice_get ds at ≡ Some d → Drains R at d es d'
    → DrainsFromInPart R (at + 1) (slice_set ds at d') rest ends → DrainsFromInPart R at ds (es ++ rest) ends
drains_part_step R at ds ends d d' es rest found drain h =
    from_step (DrainsEachInPart R at) (DrainsEachInPart R (at + 1)) at ds ends d d' es rest found (λ others k. inr (es, rest, d', others, refl, refl, drain, k)) h

-- one device is drained in part, and none behind it
pub drains_part_stop : (R : HandlerRelation) (at : ℕ) (ds : List Device) (d d' : Device) (es : List EntryData) → slice_get ds at ≡ Some d → DrainsInPart R at d es d' → DrainsFromInPart R at ds es (slice_set ds at d')
drains_part_stop R at ds d d' es found drain =
    let a = agrees ds (slice_set ds at d') at d d' found refl in
    let kept : drop (suc at) (slice_set ds at d') ≡ drop (suc at) ds = drop-set-lt (suc at) ds at d' (omega arith) in (
      subst (λ (l : List Device). DrainsEachInPart R at l es (drop at (slice_set ds at d'))) (sym (drop_from ds at d found))
          (subst (λ (l : List Device). DrainsEachInPart R at (d ∷ drop (suc at) ds) es l) (sym a.from) (inl (d', drain, ap (λ (l : List Device). d' ∷ l) kept))),
      a.before,
    )

pub drains_none : (R : HandlerRelation) (at : ℕ) (ds : List Device) → length ds ≤ at → DrainsFrom R at ds [] ds
drains_none R at ds h = (subst (λ (l : List Device). DrainsEach (Plays R) at l [] l) (sym (drop_all at ds h)) (refl, refl), refl)

-- ==== endings

pub ending_as : (R : HandlerRelation) (Next Then : Leads) (ds : List Device) → Ending R Then ds → ((es : List EntryData) (ends : List Device) → Then es ends → Next es ends) → Ending R Next ds
ending_as R Next Then ds e turns = record { journal = e.journal; ends = e.ends; right = turns (entries_of e.journal) e.ends e.right; legal = e.legal }

-- one device goes on, and then all is ended
ending_more : (R : HandlerRelation) (Next Then : Leads) (at : ℕ) (ds : List Device) (d d' : Device) (es : List EntryData) → slice_get ds at ≡ Some d → Run R d es d' → AreOf at es
    → Ending R Then (slice_set ds at d') → ((rest : List EntryData) (ends : List Device) → Then rest ends → Next (es ++ rest) ends) → Ending R Next ds
ending_more R Next Then at ds d d' es found run own last step =
    let p = piece_of R at d d' es run own in
    record {
      journal = p.journal ++ last.journal;
      ends = last.ends;
      right = subst (λ (x : List EntryData). Next x last.ends) (ap (λ (x : List EntryData). x ++ entries_of last.journal) (sym p.are) ∙ sym (map-append (λ (j : Journaled). j.entry) p.journal last.journal))
          (step (entries_of last.journal) last.ends last.right);
      legal = legal_append R ds (slice_set ds at d') last.ends p.journal last.journal (length-set ds at d') (legal_one R ds at d d' p.journal found p.run p.own) last.legal;
    }

drains_from_end : (R : HandlerRelation) (k at : ℕ) (ds : List Device) → at + k ≡ length ds → HasOutcomes R → Every (λ d. IsSound d.state) ds → Ending R (DrainsFrom R at ds) ds
drains_from_end R zero at ds long outcomes sound = record { journal = []; ends = ds; right = drains_none R at ds (omega (arith, long)); legal = legal_none R ds }
drains_from_end R (suc k) at ds long outcomes sound =
    let d = get_within ds at (omega (arith, long)) in
    let first = drained R at d.0 outcomes (every_at (λ (x : Device). IsSound x.state) ds at d.0 sound d.1) in
    let then_sound = sound_run R d.0 first.1 first.0 (every_at (λ (x : Device). IsSound x.state) ds at d.0 sound d.1) (drains_run R at d.0 first.1 first.0 first.2) in
    let last = drains_from_end R k (at + 1) (slice_set ds at first.1) (omega (arith, long, length-set ds at first.1)) outcomes (every_set (λ (x : Device). IsSound x.state) ds at first.1 sound then_sound) in
    ending_more R (DrainsFrom R at ds) (DrainsFrom R (at + 1) (slice_set ds at first.1)) at ds d.0 first.1 first.0 d.1 (drains_run R at d.0 first.1 first.0 first.2) (drains_own R at d.0 first.1 first.0 first.2) last
    (λ rest ends h. drains_step R at ds ends d.0 first.1 first.0 rest d.1 first.2 h)

-- the drains from a device on can be ended
pub ending_drains : (R : HandlerRelation) (at : ℕ) (ds : List Device) → at ≤ length ds → HasOutcomes R → Every (λ d. IsSound d.state) ds → Ending R (DrainsFrom R at ds) ds
ending_drains R at ds within outcomes sound = let k = rest_of at (length ds) within in drains_from_end R k.0 at ds k.1 outcomes sound
  where
    rest_of : (n m : ℕ) → n ≤ m → (k : ℕ) × (n + k ≡ m)
    rest_of zero m h = (m, omega arith)
    rest_of (suc n) zero h = absurd (omega (arith, h))
    rest_of (suc n) (suc m) h = let r = rest_of n m (omega (arith, h)) in (r.0, omega (arith, r.1))

-- and so can a replay of lines
pub ending_lines : (R : HandlerRelation) (ds : List Device) (ls : List LineData) → HasOutcomes R → Every (λ d. IsSound d.state) ds → Every (IsFitFor (length ds)) ls → Ending R (ReplaysEach (Plays R) ds ls) ds
ending_lines R ds [] outcomes sound fit = ending_as R (ReplaysEach (Plays R) ds []) (DrainsFrom R 0 ds) ds (ending_drains R 0 ds (omega arith) outcomes sound) (λ es ends h. h.0)
ending_lines R ds (l ∷ ls) outcomes sound fit =
    let d = get_within ds l.device fit.0.device in
    let here = every_at (λ (x : Device). IsSound x.state) ds l.device d.0 sound d.1 in
    let first = plays_total R l.device d.0 l.what outcomes here fit.0.what in
    let run = plays_run R l.device d.0 first.1 l.what first.0 first.2 in
    let ds' = slice_set ds l.device first.1 in
    let still = every_set (λ (x : Device). IsSound x.state) ds l.device first.1 sound (sound_run R d.0 first.1 first.0 here run) in
    let last = ending_lines R ds' ls outcomes still (subst (λ (n : ℕ). Every (IsFitFor n) ls) (sym (length-set ds l.device first.1)) fit.1) in
    ending_more R (ReplaysEach (Plays R) ds (l ∷ ls)) (ReplaysEach (Plays R) ds' ls) l.device ds d.0 first.1 first.0 d.1 run (plays_own R l.device d.0 first.1 l.what first.0 first.2) last
    (λ rest ends h. (first.0, rest, d.0, first.1, refl, d.1, first.2, h))
