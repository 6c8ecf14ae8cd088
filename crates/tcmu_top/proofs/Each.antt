-- A replay over several devices, as far as it has come.
use Rattle.std.proofs.Common.{◌≡◌, ℕ, List, [], ◌++◌, length, slice_get, slice_set, Option, Some, refl, sym, ap, ◌∙◌, arith, subst, append_assoc}
use Rattle.std.specs.List.{flat_map}
use Rattle.std.proofs.lemmas.List.{append-nil, map-append, length-set, set-set}
use Rattle.std.proofs.lemmas.List.Concat.{flat_map-append}
use Rattle.tcmu_types.specs.Events.{EntryData}
use Rattle.edge.specs.Outside.{Gained, GainedFront}
use Rattle.tcmu_model.specs.Device.{Device}
use Rattle.tcmu_model.specs.Steps.{HandlerRelation, Run}
use Rattle.tcmu_model.specs.Sound.{IsSound}
use Rattle.tcmu_types.specs.Lists.{Every}
use Rattle.text_model.specs.ScenarioData.{DeviceLineData}
use Rattle.tcmu_types.proofs.Everies.{every-front, every-back, every_at}
use Rattle.tcmu_model.proofs.Runs.{sound_run}
use Rattle.tcmu_model.specs.Work.{HasOutcomes}
use Rattle.text_model.specs.Journals.{Journaled, IsLegalEach, journaled_text, entries_of}
use Rattle.tcmu_top.specs.Playing.{CanEnd, WroteOn, WroteOnFront, CanEndEach, WroteEach, WroteEachFront}
use Rattle.tcmu_top.proofs.Legal.{Piece, piece_of, piece_append, piece_count, piece_text, legal_none, legal_one, legal_append}
use Rattle.tcmu_top.proofs.RunTexts.{run_append}
use Rattle.tcmu_top.proofs.Telling.{gained_none, gained_more, gained_as, front_behind}
use Rattle.tcmu_types.proofs.Places.{get_set}
use Rattle.text_laws.proofs.Matching.{AreOf}
use Rattle.text_laws.proofs.Sets.{every_set}

-- what entries there may be, and where they may lead
abbrev pub Leads : Type 1
Leads = List EntryData → List Device → Type 0

-- what all the entries may be that are to come, and what a part of them
pub record Aims : Type 1 where
  pub whole : Leads
  pub part : Leads

-- What was made and written so far: what comes next leads on to the whole, and a part of it to a part.
pub record SoFar (R : HandlerRelation) (ls : List DeviceLineData) (Next Whole : Aims) (start ds : List Device) (old now : Option (List ℕ)) : Type 0 where
  pub sofar : List Journaled
  pub legal : IsLegalEach R start sofar ds
  pub goes_on : (rest : List EntryData) (ends : List Device) → Next.whole rest ends → Whole.whole (entries_of sofar ++ rest) ends
  pub stops : (rest : List EntryData) (ends : List Device) → Next.part rest ends → Whole.part (entries_of sofar ++ rest) ends
  pub wrote : Gained old (flat_map (journaled_text ls) sofar) now
  pub sound : Every (λ d. IsSound d.state) ds
  pub count : length ds ≡ length start

pub sofar_first : (R : HandlerRelation) (ls : List DeviceLineData) (Whole : Aims) (ds : List Device) (old : Option (List ℕ)) → Every (λ d. IsSound d.state) ds → SoFar R ls Whole Whole ds ds old old
sofar_first R ls Whole ds old sound =
    record { sofar = []; legal = legal_none R ds; goes_on = λ rest ends h. h; stops = λ rest ends h. h; wrote = gained_none old; sound = sound; count = refl }

entries_append : (xs ys : List Journaled) (rest : List EntryData) → entries_of xs ++ (entries_of ys ++ rest) ≡ entries_of (xs ++ ys) ++ rest
entries_append xs ys rest = sym (append_assoc (entries_of xs) (entries_of ys) rest) ∙ ap (λ (l : List EntryData). l ++ rest) (sym (map-append (λ (j : Journaled). j.entry) xs ys))

-- a device went on
pub sofar_more : (R : HandlerRelation) (ls : List DeviceLineData) (Next Then Whole : Aims) (so : Device → List EntryData → Device → Type 0) (at n : ℕ) (start ds ds' : List Device) (old mid now : Option (List ℕ))
    → SoFar R ls Next Whole start ds old mid → (w : WroteOn R ls at n so ds ds' mid now)
    → ((d d' : Device) (es : List EntryData) → so d es d' → AreOf at es)
    → ((rest : List EntryData) (ends : List Device) → so w.before w.wrote.entries w.after → Then.whole rest ends → Next.whole (w.wrote.entries ++ rest) ends)
    → ((rest : List EntryData) (ends : List Device) → so w.before w.wrote.entries w.after → Then.part rest ends → Next.part (w.wrote.entries ++ rest) ends)
    → SoFar R ls Then Whole start ds' old now
sofar_more R ls Next Then Whole so at n start ds ds' old mid now s w own step stop =
    let p = piece_of R at w.before w.after w.wrote.entries w.wrote.run (own w.before w.after w.wrote.entries w.wrote.right) in
    let all : SoFar R ls Then Whole start (slice_set ds at w.after) old now =
    record {
      sofar = s.sofar ++ p.journal;
      legal = legal_append R start ds (slice_set ds at w.after) s.sofar p.journal s.count s.legal (legal_one R ds at w.before w.after p.journal w.found p.run p.own);
      goes_on = λ rest ends h.
          subst (λ (es : List EntryData). Whole.whole es ends) (entries_append s.sofar p.journal rest)
          (s.goes_on (entries_of p.journal ++ rest) ends (subst (λ (es : List EntryData). Next.whole (es ++ rest) ends) (sym p.are) (step rest ends w.wrote.right h)));
      stops = λ rest ends h.
          subst (λ (es : List EntryData). Whole.part es ends) (entries_append s.sofar p.journal rest)
          (s.stops (entries_of p.journal ++ rest) ends (subst (λ (es : List EntryData). Next.part (es ++ rest) ends) (sym p.are) (stop rest ends w.wrote.right h)));
      wrote = gained_as old now _ _ (sym (flat_map-append (journaled_text ls) s.sofar p.journal))
          (gained_more old mid now _ _ s.wrote (gained_as mid now _ _ (piece_text R ls w.line at w.before w.after w.wrote.entries p w.named) w.wrote.wrote));
      sound = every_set (λ (d : Device). IsSound d.state) ds at w.after s.sound
          (sound_run R w.before w.after w.wrote.entries (every_at (λ (d : Device). IsSound d.state) ds at w.before s.sound w.found) w.wrote.run);
      count = length-set ds at w.after ∙ s.count;
    } in
    subst (λ (x : List Device). SoFar R ls Then Whole start x old now) (sym w.others) all

-- a journal by which a replay can be ended
pub record Ending (R : HandlerRelation) (Next : Leads) (ds : List Device) : Type 0 where
  pub journal : List Journaled
  pub ends : List Device
  pub right : Next (entries_of journal) ends
  pub legal : IsLegalEach R ds journal ends

-- a piece behind the texts of two journals
gained_behind : (ls : List DeviceLineData) (old mid now : Option (List ℕ)) (xs ys : List Journaled) (piece : List ℕ) → Gained old (flat_map (journaled_text ls) xs) mid → Gained mid (flat_map (journaled_text ls) ys ++ piece) now
    → Gained old (flat_map (journaled_text ls) (xs ++ ys) ++ piece) now
gained_behind ls old mid now xs ys piece g h =
    gained_as old now _ _
    (sym (append_assoc (flat_map (journaled_text ls) xs) (flat_map (journaled_text ls) ys) piece) ∙ ap (λ (t : List ℕ). t ++ piece) (sym (flat_map-append (journaled_text ls) xs ys)))
    (gained_more old mid now _ _ g h)

append_entries : (xs ys : List Journaled) → entries_of (xs ++ ys) ≡ entries_of xs ++ entries_of ys
append_entries xs ys = map-append (λ (j : Journaled). j.entry) xs ys

-- where one device can end, and then the others, all can end
sofar_ends : (R : HandlerRelation) (ls : List DeviceLineData) (Next Whole : Aims) (Then : Device → Leads) (so : Device → List EntryData → Device → Type 0) (at : ℕ) (start ds : List Device) (b a : Device) (es : List EntryData)
    (old mid : Option (List ℕ)) → (s : SoFar R ls Next Whole start ds old mid) → slice_get ds at ≡ Some b → Run R b es a → (made : Piece R at b a es) → CanEnd R (so b) es a
    → ((d d' : Device) (es : List EntryData) → so d es d' → AreOf at es)
    → ((es rest : List EntryData) (d d' : Device) (ends : List Device) → slice_get ds at ≡ Some d → so d es d' → Then d' rest ends → Next.whole (es ++ rest) ends)
    → ((d' : Device) → IsSound d'.state → Ending R (Then d') (slice_set ds at d'))
    → CanEndEach R Whole.whole start (s.sofar ++ made.journal)
sofar_ends R ls Next Whole Then so at start ds b a es old mid s found run made x own step ending =
    let all = es ++ x.rest in
    let all_run : Run R b all x.end = run_append R b a x.end es x.rest run x.more in
    let sound : IsSound b.state = every_at (λ (d : Device). IsSound d.state) ds at b s.sound found in
    let rest = piece_of R at a x.end x.rest x.more (every-back (λ (e : EntryData). e.device ≡ at) es x.rest (own b x.end all x.right)) in
    let last = ending x.end (sound_run R b x.end all sound all_run) in
    let now_at : IsLegalEach R ds made.journal (slice_set ds at a) = legal_one R ds at b a made.journal found made.run made.own in
    let here : IsLegalEach R start (s.sofar ++ made.journal) (slice_set ds at a) = legal_append R start ds (slice_set ds at a) s.sofar made.journal s.count s.legal now_at in
    let then_at : IsLegalEach R (slice_set ds at a) rest.journal (slice_set ds at x.end) =
    subst (λ (l : List Device). IsLegalEach R (slice_set ds at a) rest.journal l) (set-set ds at a x.end)
    (legal_one R (slice_set ds at a) at a x.end rest.journal (get_set ds at b a found) rest.run rest.own) in
    let end_count : length (slice_set ds at x.end) ≡ length (slice_set ds at a) = length-set ds at x.end ∙ sym (length-set ds at a) in
    let more : IsLegalEach R (slice_set ds at a) (rest.journal ++ last.journal) last.ends =
    legal_append R (slice_set ds at a) (slice_set ds at x.end) last.ends rest.journal last.journal end_count then_at last.legal in
    let names : entries_of s.sofar ++ (all ++ entries_of last.journal) ≡ entries_of ((s.sofar ++ made.journal) ++ (rest.journal ++ last.journal)) =
    ap (λ (l : List EntryData). entries_of s.sofar ++ (l ++ entries_of last.journal)) (ap (λ (l : List EntryData). l ++ x.rest) (sym made.are) ∙ ap (λ (l : List EntryData). entries_of made.journal ++ l) (sym rest.are))
    ∙ regroup s.sofar made.journal rest.journal last.journal in
    record {
      rest = rest.journal ++ last.journal;
      ends = last.ends;
      right = subst (λ (es : List EntryData). Whole.whole es last.ends) names
          (s.goes_on (all ++ entries_of last.journal) last.ends (step all (entries_of last.journal) b x.end last.ends found x.right last.right));
      legal = legal_append R start (slice_set ds at a) last.ends (s.sofar ++ made.journal) (rest.journal ++ last.journal) (length-set ds at a ∙ s.count) here more;
    }
  where
    regroup : (a b c e : List Journaled) → entries_of a ++ ((entries_of b ++ entries_of c) ++ entries_of e) ≡ entries_of ((a ++ b) ++ (c ++ e))
    regroup a b c e = sym (append_entries (a ++ b) (c ++ e) ∙ ap (λ (l : List EntryData). l ++ entries_of (c ++ e)) (append_entries a b) ∙ ap (λ (l : List EntryData). (entries_of a ++ entries_of b) ++ l) (append_entries c e)
        ∙ append_assoc (entries_of a) (entries_of b) (entries_of c ++ entries_of e) ∙ ap (λ (l : List EntryData). entries_of a ++ l) (sym (append_assoc (entries_of b) (entries_of c) (entries_of e))))

-- a device stopped on the way
pub sofar_stopped : (R : HandlerRelation) (ls : List DeviceLineData) (Next Whole : Aims) (Then : Device → Leads) (part so : Device → List EntryData → Device → Type 0) (at : ℕ) (start ds ds' : List Device) (old mid now : Option (List ℕ))
    → SoFar R ls Next Whole start ds old mid → (w : WroteOnFront R ls at part so ds ds' mid now)
    → ((d d' : Device) (es : List EntryData) → part d es d' → AreOf at es)
    → ((es : List EntryData) (d d' : Device) → slice_get ds at ≡ Some d → part d es d' → Next.part es (slice_set ds at d'))
    → ((d d' : Device) (es : List EntryData) → so d es d' → AreOf at es)
    → ((es rest : List EntryData) (d d' : Device) (ends : List Device) → slice_get ds at ≡ Some d → so d es d' → Then d' rest ends → Next.whole (es ++ rest) ends)
    → (HasOutcomes R → (d' : Device) → IsSound d'.state → Ending R (Then d') (slice_set ds at d'))
    → WroteEachFront R ls Whole.part Whole.whole start ds' old now
sofar_stopped R ls Next Whole Then part so at start ds ds' old mid now s w part_own stop own step ending =
    let x = w.wrote in
    let stopped = x.stopped in
    let parts = stopped.parts in
    let parts_own = subst (AreOf at) parts.split (part_own w.before w.after x.made x.asked) in
    let told = piece_of R at w.before stopped.before parts.written stopped.first (every-front (λ (e : EntryData). e.device ≡ at) parts.written parts.last parts_own) in
    let last_told = piece_of R at stopped.before w.after parts.last stopped.second (every-back (λ (e : EntryData). e.device ≡ at) parts.written parts.last parts_own) in
    let made = piece_append R at w.before stopped.before w.after x.made parts.written parts.last parts.split told last_told in
    let front : WroteEachFront R ls Whole.part Whole.whole start (slice_set ds at w.after) old now =
    record {
      made = s.sofar ++ made.journal;
      asked = subst (λ (es : List EntryData). Whole.part es (slice_set ds at w.after)) (ap (λ (l : List EntryData). entries_of s.sofar ++ l) (sym made.are) ∙ sym (append_entries s.sofar made.journal))
          (s.stops x.made (slice_set ds at w.after) (stop x.made w.before w.after w.found x.asked));
      legal = legal_append R start ds (slice_set ds at w.after) s.sofar made.journal s.count s.legal (legal_one R ds at w.before w.after made.journal w.found made.run made.own);
      wrote = front_behind old mid now (flat_map (journaled_text ls) s.sofar) (flat_map (journaled_text ls) made.journal) _ (flat_map-append (journaled_text ls) s.sofar made.journal) s.wrote
          (subst (λ (t : List ℕ). GainedFront mid t now) (piece_text R ls w.line at w.before w.after x.made made w.named) x.wrote);
      stopped = record {
        written = s.sofar ++ told.journal;
        last = last_told.journal;
        split = sym (append_assoc s.sofar told.journal last_told.journal);
        one = omega (arith, parts.one, piece_count R at stopped.before w.after parts.last last_told);
        piece = parts.piece;
        gained = gained_behind ls old mid now s.sofar told.journal parts.piece s.wrote
            (gained_as mid now _ _ (ap (λ (t : List ℕ). t ++ parts.piece) (piece_text R ls w.line at w.before stopped.before parts.written told w.named)) parts.gained);
      };
      ends = λ outcomes. sofar_ends R ls Next Whole Then so at start ds w.before w.after x.made old mid s w.found x.run made (x.ends outcomes) own step (ending outcomes);
    } in
    subst (λ (l : List Device). WroteEachFront R ls Whole.part Whole.whole start l old now) (sym w.others) front

-- nothing more comes
pub sofar_done : (R : HandlerRelation) (ls : List DeviceLineData) (Next Whole : Aims) (start ds : List Device) (old now : Option (List ℕ))
    → SoFar R ls Next Whole start ds old now → Next.whole [] ds → WroteEach R ls Whole.whole start ds old now
sofar_done R ls Next Whole start ds old now s h =
    record {
      journal = s.sofar;
      right = subst (λ (es : List EntryData). Whole.whole es ds) (append-nil (entries_of s.sofar)) (s.goes_on [] ds h);
      legal = s.legal;
      wrote = s.wrote;
    }

-- what comes next was made
pub sofar_then : (R : HandlerRelation) (ls : List DeviceLineData) (Next Whole : Aims) (start ds ds' : List Device) (old mid now : Option (List ℕ))
    → SoFar R ls Next Whole start ds old mid → WroteEach R ls Next.whole ds ds' mid now → WroteEach R ls Whole.whole start ds' old now
sofar_then R ls Next Whole start ds ds' old mid now s w =
    record {
      journal = s.sofar ++ w.journal;
      right = subst (λ (es : List EntryData). Whole.whole es ds') (sym (map-append (λ (j : Journaled). j.entry) s.sofar w.journal)) (s.goes_on (entries_of w.journal) ds' w.right);
      legal = legal_append R start ds ds' s.sofar w.journal s.count s.legal w.legal;
      wrote = gained_as old now _ _ (sym (flat_map-append (journaled_text ls) s.sofar w.journal)) (gained_more old mid now _ _ s.wrote w.wrote);
    }

-- it was made in part
pub sofar_then_front : (R : HandlerRelation) (ls : List DeviceLineData) (Next Whole : Aims) (start ds ds' : List Device) (old mid now : Option (List ℕ))
    → SoFar R ls Next Whole start ds old mid → WroteEachFront R ls Next.part Next.whole ds ds' mid now → WroteEachFront R ls Whole.part Whole.whole start ds' old now
sofar_then_front R ls Next Whole start ds ds' old mid now s w =
    record {
      made = s.sofar ++ w.made;
      asked = subst (λ (es : List EntryData). Whole.part es ds') (sym (append_entries s.sofar w.made)) (s.stops (entries_of w.made) ds' w.asked);
      legal = legal_append R start ds ds' s.sofar w.made s.count s.legal w.legal;
      wrote = front_behind old mid now (flat_map (journaled_text ls) s.sofar) (flat_map (journaled_text ls) w.made) _ (flat_map-append (journaled_text ls) s.sofar w.made) s.wrote w.wrote;
      stopped = record {
        written = s.sofar ++ w.stopped.written;
        last = w.stopped.last;
        split = ap (λ (l : List Journaled). s.sofar ++ l) w.stopped.split ∙ sym (append_assoc s.sofar w.stopped.written w.stopped.last);
        one = w.stopped.one;
        piece = w.stopped.piece;
        gained = gained_behind ls old mid now s.sofar w.stopped.written w.stopped.piece s.wrote w.stopped.gained;
      };
      ends = λ outcomes.
          let x = w.ends outcomes in
          record {
            rest = x.rest;
            ends = x.ends;
            right = subst (λ (es : List EntryData). Whole.whole es x.ends)
                (sym (append_entries s.sofar (w.made ++ x.rest)) ∙ ap entries_of (sym (append_assoc s.sofar w.made x.rest)))
                (s.goes_on (entries_of (w.made ++ x.rest)) x.ends x.right);
            legal = subst (λ (js : List Journaled). IsLegalEach R start js x.ends) (sym (append_assoc s.sofar w.made x.rest))
                (legal_append R start ds x.ends s.sofar (w.made ++ x.rest) s.count s.legal x.legal);
          };
    }
