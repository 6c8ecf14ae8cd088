-- The text of a whole replay of several devices, and fronts of one.
use Rattle.std.proofs.Common.{◌≡◌, ℕ, zero, suc, ◌+◌, ◌<◌, true, false, List, [], ◌∷◌, ◌++◌, length, take, drop, slice_get, Option, Some, refl, sym, ap, ◌∙◌, arith, subst, append_assoc, inl, inr, add-one}
use Rattle.std.specs.List.{flat_map, All}
use Rattle.std.proofs.lemmas.List.{append-nil}
use Rattle.std.proofs.lemmas.List.Concat.{flat_map-append}
use Rattle.std.proofs.lemmas.List.Elements.{All-tail}
use Rattle.edge.specs.Outside.{Gained, GainedFront}
use Rattle.tcmu_model.specs.Device.{Device}
use Rattle.tcmu_model.specs.Steps.{HandlerRelation}
use Rattle.tcmu_model.specs.Sound.{IsSound, open_count}
use Rattle.tcmu_types.specs.Lists.{Every}
use Rattle.tcmu_model.specs.Work.{HasOutcomes}
use Rattle.text_model.specs.ScenarioData.{DeviceLineData, LineData, LineWhat}
use Rattle.text_model.specs.ScenarioData as line
use Rattle.text_model.specs.Scenario.{is_dump}
use Rattle.text_model.specs.ScenarioRules.{IsLine, IsWhat, IsFit, IsFitFor}
use Rattle.region_model.specs.Picture.{picture_of}
use Rattle.text_model.proofs.PrintedJournals.{undumped, DumpNothing, text_undumped, legal_undumped, replays_undumped}
use Rattle.text_model.specs.Replay.{Plays}
use Rattle.text_model.specs.Several.{ReplaysEach, ends_text, IsReplayOf}
use Rattle.text_model.specs.Text.{device_text, end_text}
use Rattle.text_model.specs.Journals.{Journaled, IsLegalEach, journaled_text, entries_of}
use Rattle.tcmu_top.specs.Playing.{WroteEach, WroteEachFront}
use Rattle.tcmu_top.specs.InPart.{ReplaysEachInPart}
use Rattle.tcmu_top.specs.Top.{Replayed, MadeInPart, ReplayedInPart}
use Rattle.tcmu_top.proofs.InPart.{none_replayed, all_replayed}
use Rattle.tcmu_top.proofs.Endings.{ending_lines}
use Rattle.tcmu_top.proofs.Legal.{legal_none}
use Rattle.tcmu_top.proofs.Telling.{gained_more, gained_as, front_first, front_more, front_behind}

-- ==== the parts of the text

abbrev lines_text : List DeviceLineData → List ℕ
lines_text ls = flat_map device_text ls

abbrev journal_of : List DeviceLineData → List Journaled → List ℕ
journal_of ls js = flat_map (journaled_text ls) js

-- no line is a dump, so what is printed is a journal
abbrev is_text : (R : HandlerRelation) (ls : List DeviceLineData) (ds ends : List Device) (lines : List LineData) (js : List Journaled) → DumpNothing lines → ReplaysEach (Plays R) ds lines (entries_of js) ends → IsLegalEach R ds js ends
    → IsReplayOf R picture_of ls ds lines (lines_text ls ++ journal_of ls js ++ ends_text ls ends)
is_text R ls ds ends lines js dumpless h k =
    record {
      printed = undumped js;
      ends = ends;
      replays = replays_undumped R ds ends lines js dumpless h;
      legal = legal_undumped R picture_of ds js ends k;
      whole = ap (λ (x : List ℕ). lines_text ls ++ x ++ ends_text ls ends) (sym (text_undumped ls js));
    }

-- the device lines were written in part
abbrev pub made_of_ready : (R : HandlerRelation) (ls : List DeviceLineData) (ds : List Device) (lines : List LineData) (old new : Option (List ℕ)) → Every (IsFitFor (length ds)) lines → GainedFront old (lines_text ls) new
    → MadeInPart R ls ds lines ds old new
made_of_ready R ls ds lines old new fit f =
    record { made = []; asked = none_replayed R ds lines fit; legal = legal_none R ds; told = inl (front_first old new (lines_text ls) [] _ refl f); stopped = inl refl }

pub front_of_ready : (R : HandlerRelation) (ls : List DeviceLineData) (ds : List Device) (lines : List LineData) (old new : Option (List ℕ)) → Every (λ d. IsSound d.state) ds
    → DumpNothing lines → Every (IsFitFor (length ds)) lines → GainedFront old (lines_text ls) new → HasOutcomes R → ReplayedInPart R ls ds lines ds old new
front_of_ready R ls ds lines old new sound dumpless fit f outcomes =
    let e = ending_lines R ds lines outcomes sound fit in
    record {
      part = made_of_ready R ls ds lines old new fit f;
      text = lines_text ls ++ journal_of ls e.journal ++ ends_text ls e.ends;
      is = is_text R ls ds e.ends lines e.journal dumpless e.right e.legal;
      rest = e.journal;
      order = refl;
      gained = front_first old new (lines_text ls) (journal_of ls e.journal ++ ends_text ls e.ends) _ (append_assoc (lines_text ls) (journal_of ls e.journal) (ends_text ls e.ends)) f;
    }

-- the journal was
abbrev pub made_of_run : (R : HandlerRelation) (ls : List DeviceLineData) (ds ds' : List Device) (lines : List LineData) (old mid new : Option (List ℕ)) → Gained old (lines_text ls) mid
    → WroteEachFront R ls (ReplaysEachInPart R ds lines) (ReplaysEach (Plays R) ds lines) ds ds' mid new → MadeInPart R ls ds lines ds' old new
made_of_run R ls ds ds' lines old mid new g w =
    record {
      made = w.made;
      asked = w.asked;
      legal = w.legal;
      told = inl (front_behind old mid new (lines_text ls) (journal_of ls w.made) _ refl g w.wrote);
      stopped = inr (record {
        written = w.stopped.written;
        last = w.stopped.last;
        split = w.stopped.split;
        one = w.stopped.one;
        piece = w.stopped.piece;
        gained = gained_as old new _ _ (sym (append_assoc (lines_text ls) (journal_of ls w.stopped.written) w.stopped.piece)) (gained_more old mid new _ _ g w.stopped.gained);
      });
    }

pub front_of_run : (R : HandlerRelation) (ls : List DeviceLineData) (ds ds' : List Device) (lines : List LineData) (old mid new : Option (List ℕ)) → DumpNothing lines → Gained old (lines_text ls) mid
    → WroteEachFront R ls (ReplaysEachInPart R ds lines) (ReplaysEach (Plays R) ds lines) ds ds' mid new → HasOutcomes R → ReplayedInPart R ls ds lines ds' old new
front_of_run R ls ds ds' lines old mid new dumpless g w outcomes =
    let x = w.ends outcomes in
    let made = journal_of ls w.made in
    let rest = journal_of ls x.rest in
    let last = ends_text ls x.ends in
    record {
      part = made_of_run R ls ds ds' lines old mid new g w;
      text = lines_text ls ++ journal_of ls (w.made ++ x.rest) ++ last;
      is = is_text R ls ds x.ends lines (w.made ++ x.rest) dumpless x.right x.legal;
      rest = x.rest;
      order = refl;
      gained = front_more old mid new (lines_text ls) made (rest ++ last) _
          (ap (λ (y : List ℕ). lines_text ls ++ y ++ last) (flat_map-append (journaled_text ls) w.made x.rest) ∙ regroup (lines_text ls) made rest last) g w.wrote;
    }
  where
    regroup : (a b c e : List ℕ) → a ++ (b ++ c) ++ e ≡ a ++ (b ++ (c ++ e))
    regroup a b c e = append_assoc a (b ++ c) e ∙ ap (λ (x : List ℕ). a ++ x) (append_assoc b c e)

-- the end lines were
abbrev pub made_of_last : (R : HandlerRelation) (ls : List DeviceLineData) (ds ds' : List Device) (lines : List LineData) (old m1 m2 new : Option (List ℕ)) → Gained old (lines_text ls) m1
    → WroteEach R ls (ReplaysEach (Plays R) ds lines) ds ds' m1 m2 → GainedFront m2 (ends_text ls ds') new → MadeInPart R ls ds lines ds' old new
made_of_last R ls ds ds' lines old m1 m2 new g w f =
    record {
      made = w.journal;
      asked = all_replayed R ds lines (entries_of w.journal) ds' w.right;
      legal = w.legal;
      told = inr (w.right, front_behind old m2 new (lines_text ls ++ journal_of ls w.journal) (ends_text ls ds') _ refl (gained_more old m1 m2 _ _ g w.wrote) f);
      stopped = inr (record {
        written = w.journal;
        last = [];
        split = sym (append-nil w.journal);
        one = omega arith;
        piece = f.0;
        gained = gained_more old m2 new _ _ (gained_more old m1 m2 _ _ g w.wrote) f.3;
      });
    }

pub front_of_last : (R : HandlerRelation) (ls : List DeviceLineData) (ds ds' : List Device) (lines : List LineData) (old m1 m2 new : Option (List ℕ)) → DumpNothing lines → Gained old (lines_text ls) m1
    → WroteEach R ls (ReplaysEach (Plays R) ds lines) ds ds' m1 m2 → GainedFront m2 (ends_text ls ds') new → ReplayedInPart R ls ds lines ds' old new
front_of_last R ls ds ds' lines old m1 m2 new dumpless g w f =
    record {
      part = made_of_last R ls ds ds' lines old m1 m2 new g w f;
      text = lines_text ls ++ journal_of ls w.journal ++ ends_text ls ds';
      is = is_text R ls ds ds' lines w.journal dumpless w.right w.legal;
      rest = [];
      order = ap undumped (sym (append-nil w.journal));
      gained = front_behind old m2 new (lines_text ls ++ journal_of ls w.journal) (ends_text ls ds') _ refl (gained_more old m1 m2 _ _ g w.wrote) f;
    }

pub whole : (R : HandlerRelation) (ls : List DeviceLineData) (ds ds' : List Device) (lines : List LineData) (old m1 m2 new : Option (List ℕ)) → DumpNothing lines → Gained old (lines_text ls) m1
    → WroteEach R ls (ReplaysEach (Plays R) ds lines) ds ds' m1 m2 → Gained m2 (ends_text ls ds') new → Replayed R ls ds lines ds' old new
whole R ls ds ds' lines old m1 m2 new dumpless g w f =
    record {
      text = lines_text ls ++ journal_of ls w.journal ++ ends_text ls ds';
      is = is_text R ls ds ds' lines w.journal dumpless w.right w.legal;
      ends = refl;
      gained = gained_more old m2 new _ _ (gained_more old m1 m2 _ _ g w.wrote) f;
    }

-- ==== the end lines

abbrev pub last_text : DeviceLineData → Device → List ℕ
last_text l d = end_text l.name (open_count d.state)

pub ends_more : (ls : List DeviceLineData) (ds : List Device) (at : ℕ) (l : DeviceLineData) (d : Device) → slice_get ls at ≡ Some l → slice_get ds at ≡ Some d
    → ends_text (take (at + 1) ls) (take (at + 1) ds) ≡ ends_text (take at ls) (take at ds) ++ last_text l d
ends_more ls ds at l d g h = subst (λ (n : ℕ). ends_text (take n ls) (take n ds) ≡ ends_text (take at ls) (take at ds) ++ last_text l d) (sym (add-one at)) (go ls ds at g h)
  where
    go : (ls : List DeviceLineData) (ds : List Device) (at : ℕ) → slice_get ls at ≡ Some l → slice_get ds at ≡ Some d → ends_text (take (suc at) ls) (take (suc at) ds) ≡ ends_text (take at ls) (take at ds) ++ last_text l d
    go [] ds at g h = absurd (cc)
    go (k ∷ ls) [] zero g h = absurd (cc)
    go (k ∷ ls) [] (suc at) g h = absurd (cc)
    go (k ∷ ls) (e ∷ ds) zero g h = let a : k ≡ l = cc in let b : e ≡ d = cc in append-nil (last_text k e) ∙ ap (λ (x : DeviceLineData). last_text x e) a ∙ ap (last_text l) b
    go (k ∷ ls) (e ∷ ds) (suc at) g h = ap (λ (x : List ℕ). last_text k e ++ x) (go ls ds at g h) ∙ sym (append_assoc (last_text k e) (ends_text (take at ls) (take at ds)) (last_text l d))

pub ends_at : (ls : List DeviceLineData) (ds : List Device) (at : ℕ) (l : DeviceLineData) (d : Device) → slice_get ls at ≡ Some l → slice_get ds at ≡ Some d
    → ends_text ls ds ≡ ends_text (take at ls) (take at ds) ++ (last_text l d ++ ends_text (drop (suc at) ls) (drop (suc at) ds))
ends_at [] ds at l d g h = absurd (cc)
ends_at (k ∷ ls) [] zero l d g h = absurd (cc)
ends_at (k ∷ ls) [] (suc at) l d g h = absurd (cc)
ends_at (k ∷ ls) (e ∷ ds) zero l d g h =
    let a : k ≡ l = cc in let b : e ≡ d = cc in ap (λ (x : DeviceLineData). last_text x e ++ ends_text ls ds) a ∙ ap (λ (x : Device). last_text l x ++ ends_text ls ds) b
ends_at (k ∷ ls) (e ∷ ds) (suc at) l d g h =
    ap (λ (x : List ℕ). last_text k e ++ x) (ends_at ls ds at l d g h)
    ∙ sym (append_assoc (last_text k e) (ends_text (take at ls) (take at ds)) (last_text l d ++ ends_text (drop (suc at) ls) (drop (suc at) ds)))

-- ==== lines

fit_line : (w : LineWhat) (l : LineData) → l.what ≡ w → IsWhat w → is_dump l ≡ false → IsFit w
fit_line (line.EventLine e) l is k dumpless = k
fit_line line.DrainLine l is k dumpless = tt
fit_line line.DumpLine l is k dumpless = let yes : is_dump l ≡ true = rw is refl in absurd (cc)

pub lines_fit : (ds : List DeviceLineData) (n : ℕ) (ls : List LineData) → length ds ≡ n → All (IsLine ds) ls → All (λ l. is_dump l ≡ false) ls → Every (IsFitFor n) ls
lines_fit ds n [] e k dumpless = tt
lines_fit ds n (l ∷ ls) e k dumpless =
    let here = k 0 l (omega arith) in (
      record { device = subst (λ (m : ℕ). l.device < m) e here.device; what = fit_line l.what l refl here.what (dumpless 0 l (omega arith)) },
      lines_fit ds n ls e (All-tail (IsLine ds) l ls k) (All-tail (λ x. is_dump x ≡ false) l ls dumpless),
    )
