-- What is printed, and the journal in it: that of a list, and the list of a journal.
use Rattle.std.proofs.Common.{◌≡◌, ℕ, ◌+◌, Bool, true, false, cond, nat_eq, List, [], ◌∷◌, ◌++◌, map, slice_get, slice_set, Some, All, refl, sym, ap, ◌∙◌, subst}
use Rattle.std.specs.List.{filter, flat_map}
use Rattle.std.proofs.lemmas.List.{map-append}
use Rattle.std.proofs.lemmas.Bool.{cond-true, eq-eqb}
use Rattle.std.proofs.lemmas.List.Elements.{All-head, All-tail, filter-append}
use Rattle.tcmu_types.specs.Dumps.{DumpData}
use Rattle.tcmu_types.specs.Events.{EntryData}
use Rattle.tcmu_model.specs.BlockLists.{Taken, lists_after, BlockRun}
use Rattle.tcmu_model.specs.Device.{Device}
use Rattle.tcmu_model.specs.Steps.{HandlerRelation}
use Rattle.text_model.specs.Journals.{Journaled, is_of, entries_of, RunLogs, IsLegalEach, journaled_text}
use Rattle.text_model.specs.Printed.{Printed, AnEntry, ADump, OutsideLine, is_about, entries_in, printed_text, Picture, RunPrints, ShowsRun, IsLegalPrint}
use Rattle.text_model.specs.Replay.{LineRelation, Plays, Prints}
use Rattle.text_model.specs.Scenario.{is_dump}
use Rattle.text_model.specs.ScenarioData.{DeviceLineData, LineWhat, LineData}
use Rattle.text_model.specs.ScenarioData as line
use Rattle.text_model.specs.Several.{DrainsEach, ReplaysEach}

-- ==== lists

-- a journal as a list without dumps
abbrev pub undumped : List Journaled → List Printed
undumped js = map AnEntry js

pub entries_again : (js : List Journaled) → entries_in (undumped js) ≡ js
entries_again [] = refl
entries_again (j ∷ js) = ap (λ (xs : List Journaled). j ∷ xs) (entries_again js)

pub entries_in-append : (ps qs : List Printed) → entries_in (ps ++ qs) ≡ entries_in ps ++ entries_in qs
entries_in-append [] qs = refl
entries_in-append (AnEntry j ∷ ps) qs = ap (λ (xs : List Journaled). j ∷ xs) (entries_in-append ps qs)
entries_in-append (ADump at dump ∷ ps) qs = entries_in-append ps qs
entries_in-append (OutsideLine at text ∷ ps) qs = entries_in-append ps qs

pub text_undumped : (ls : List DeviceLineData) (js : List Journaled) → flat_map (printed_text ls) (undumped js) ≡ flat_map (journaled_text ls) js
text_undumped ls [] = refl
text_undumped ls (j ∷ js) = ap (λ (t : List ℕ). journaled_text ls j ++ t) (text_undumped ls js)

-- what is about one device

about_undumped : (at : ℕ) (js : List Journaled) → filter (is_about at) (undumped js) ≡ undumped (filter (is_of at) js)
about_undumped at [] = refl
about_undumped at (j ∷ js) = go (is_of at j) (about_undumped at js)
  where
    go : (b : Bool) → filter (is_about at) (undumped js) ≡ undumped (filter (is_of at) js) → cond b (AnEntry j ∷ filter (is_about at) (undumped js)) (filter (is_about at) (undumped js)) ≡ undumped (cond b (j ∷ filter (is_of at) js) (filter (is_of at) js))
    go true h = ap (λ (ps : List Printed). AnEntry j ∷ ps) h
    go false h = h

about_entries : (at : ℕ) (ps : List Printed) → entries_in (filter (is_about at) ps) ≡ filter (is_of at) (entries_in ps)
about_entries at [] = refl
about_entries at (AnEntry j ∷ ps) = go (is_of at j) (about_entries at ps)
  where
    go : (b : Bool) → entries_in (filter (is_about at) ps) ≡ filter (is_of at) (entries_in ps) → entries_in (cond b (AnEntry j ∷ filter (is_about at) ps) (filter (is_about at) ps)) ≡ cond b (j ∷ filter (is_of at) (entries_in ps)) (filter (is_of at) (entries_in ps))
    go true h = ap (λ (js : List Journaled). j ∷ js) h
    go false h = h
about_entries at (ADump to dump ∷ ps) = go (nat_eq to at) (about_entries at ps)
  where
    go : (b : Bool) → entries_in (filter (is_about at) ps) ≡ filter (is_of at) (entries_in ps) → entries_in (cond b (ADump to dump ∷ filter (is_about at) ps) (filter (is_about at) ps)) ≡ filter (is_of at) (entries_in ps)
    go true h = h
    go false h = h
about_entries at (OutsideLine to text ∷ ps) = go (nat_eq to at) (about_entries at ps)
  where
    go : (b : Bool) → entries_in (filter (is_about at) ps) ≡ filter (is_of at) (entries_in ps) → entries_in (cond b (OutsideLine to text ∷ filter (is_about at) ps) (filter (is_about at) ps)) ≡ filter (is_of at) (entries_in ps)
    go true h = h
    go false h = h

-- ==== runs

-- the entries that a device prints are its journal
pub prints_logs : (R : HandlerRelation) (picture : Picture) (d d' : Device) (lists lists' : List Taken) (ps : List Printed) → RunPrints R picture d lists ps d' lists' → RunLogs R d (entries_in ps) d'
prints_logs R picture d d' lists lists' [] h = h.0
prints_logs R picture d d' lists lists' (AnEntry j ∷ ps) h = (h.0, h.1, h.2, prints_logs R picture h.0 d' (lists_after d.state lists j.entry.event j.entry.answer h.0.state) lists' ps h.3)
prints_logs R picture d d' lists lists' (ADump at dump ∷ ps) h = prints_logs R picture d d' lists lists' ps h.1
prints_logs R picture d d' lists lists' (OutsideLine at text ∷ ps) h = prints_logs R picture d d' lists lists' ps h

-- a journal is what a device prints without dumps, whichever lists it has
pub logs_prints : (R : HandlerRelation) (picture : Picture) (d d' : Device) (lists : List Taken) (js : List Journaled) → RunLogs R d js d' → (lists' : List Taken) × RunPrints R picture d lists (undumped js) d' lists'
logs_prints R picture d d' lists [] h = (lists, (h, refl))
logs_prints R picture d d' lists (j ∷ js) h =
    let rest = logs_prints R picture h.0 d' (lists_after d.state lists j.entry.event j.entry.answer h.0.state) js h.3 in
    (rest.0, (h.0, h.1, h.2, rest.1))

-- one run behind another
pub prints_append : (R : HandlerRelation) (picture : Picture) (d m d' : Device) (lists mids lists' : List Taken) (ps qs : List Printed) → RunPrints R picture d lists ps m mids → RunPrints R picture m mids qs d' lists' → RunPrints R picture d lists (ps ++ qs) d' lists'
prints_append R picture d m d' lists mids lists' [] qs h k =
    subst (λ (x : Device). RunPrints R picture x lists qs d' lists') h.0 (subst (λ (x : List Taken). RunPrints R picture m x qs d' lists') h.1 k)
prints_append R picture d m d' lists mids lists' (AnEntry j ∷ ps) qs h k =
    (h.0, h.1, h.2, prints_append R picture h.0 m d' (lists_after d.state lists j.entry.event j.entry.answer h.0.state) mids lists' ps qs h.3 k)
prints_append R picture d m d' lists mids lists' (ADump at dump ∷ ps) qs h k = (h.0, prints_append R picture d m d' lists mids lists' ps qs h.1 k)
prints_append R picture d m d' lists mids lists' (OutsideLine at text ∷ ps) qs h k = prints_append R picture d m d' lists mids lists' ps qs h k

-- each dump shows the run before it
dump_shown : (R : HandlerRelation) (picture : Picture) (d d' : Device) (lists lists' : List Taken) (at : ℕ) (dump : DumpData) (ps qs : List Printed) → RunPrints R picture d lists (ps ++ ADump at dump ∷ qs) d' lists'
    → (m : Device) × (mids : List Taken) × BlockRun R d lists (entries_of (entries_in ps)) m mids × (dump ≡ picture m.state mids)
dump_shown R picture d d' lists lists' at dump [] qs h = (d, lists, (refl, refl), h.0)
dump_shown R picture d d' lists lists' at dump (AnEntry j ∷ ps) qs h =
    let rest = dump_shown R picture h.0 d' (lists_after d.state lists j.entry.event j.entry.answer h.0.state) lists' at dump ps qs h.3 in
    (rest.0, rest.1, (h.0, h.1, rest.2), rest.3)
dump_shown R picture d d' lists lists' at dump (ADump to other ∷ ps) qs h = dump_shown R picture d d' lists lists' at dump ps qs h.1
dump_shown R picture d d' lists lists' at dump (OutsideLine to text ∷ ps) qs h = dump_shown R picture d d' lists lists' at dump ps qs h

pub legal_shows : (R : HandlerRelation) (picture : Picture) (opened ends : List Device) (ps qs : List Printed) (at : ℕ) (dump : DumpData) (d d' : Device) → IsLegalPrint R picture opened (ps ++ ADump at dump ∷ qs) ends → slice_get opened at ≡ Some d → slice_get ends at ≡ Some d'
    → ShowsRun R picture d (entries_of (filter (is_of at) (entries_in ps))) dump
legal_shows R picture opened ends ps qs at dump d d' h e f =
    let own = h at d d' e f in
    let here : filter (is_about at) (ps ++ ADump at dump ∷ qs) ≡ filter (is_about at) ps ++ ADump at dump ∷ filter (is_about at) qs =
    filter-append (is_about at) ps (ADump at dump ∷ qs) ∙ ap (λ (l : List Printed). filter (is_about at) ps ++ l) (cond-true _ _ _ (eq-eqb at at refl)) in
    let shown = dump_shown R picture d d' [] own.lists at dump (filter (is_about at) ps) (filter (is_about at) qs) (subst (λ (l : List Printed). RunPrints R picture d [] l d' own.lists) here own.run) in
    record {
      device = shown.0;
      lists = shown.1;
      run = subst (λ (js : List Journaled). BlockRun R d [] (entries_of js) shown.0 shown.1) (about_entries at ps) shown.2;
      shows = shown.3;
    }

pub legal_entries : (R : HandlerRelation) (picture : Picture) (opened : List Device) (ps : List Printed) (ends : List Device) → IsLegalPrint R picture opened ps ends → IsLegalEach R opened (entries_in ps) ends
legal_entries R picture opened ps ends h at d d' e f =
    let own = h at d d' e f in
    subst (λ (js : List Journaled). RunLogs R d js d') (about_entries at ps) (prints_logs R picture d d' [] own.lists (filter (is_about at) ps) own.run)

pub legal_undumped : (R : HandlerRelation) (picture : Picture) (opened : List Device) (js : List Journaled) (ends : List Device) → IsLegalEach R opened js ends → IsLegalPrint R picture opened (undumped js) ends
legal_undumped R picture opened js ends h at d d' e f =
    let own = logs_prints R picture d d' [] (filter (is_of at) js) (h at d d' e f) in
    record { lists = own.0; run = subst (λ (ps : List Printed). RunPrints R picture d [] ps d' own.0) (sym (about_undumped at js)) own.1 }

-- ==== replays

-- what comes of lines is turned list by list
drains_turned : {X Y : Type 0} (comes : LineRelation X) (turned : LineRelation Y) (f : List X → List Y) → f [] ≡ [] → ((xs zs : List X) → f (xs ++ zs) ≡ f xs ++ f zs)
    → ((at : ℕ) (d d' : Device) (what : LineWhat) (xs : List X) → comes at d what xs d' → turned at d what (f xs) d')
    → (at : ℕ) (ds ends : List Device) (xs : List X) → DrainsEach comes at ds xs ends → DrainsEach turned at ds (f xs) ends
drains_turned comes turned f none both turns at [] ends xs h = (ap f h.0 ∙ none, h.1)
drains_turned comes turned f none both turns at (d ∷ ds) ends xs h =
    (f h.0, f h.1, h.2, h.3, ap f h.4 ∙ both h.0 h.1, h.5, turns at d h.2 line.DrainLine h.0 h.6, drains_turned comes turned f none both turns (at + 1) ds h.3 h.1 h.7)

replays_turned : {X Y : Type 0} (comes : LineRelation X) (turned : LineRelation Y) (f : List X → List Y) → f [] ≡ [] → ((xs zs : List X) → f (xs ++ zs) ≡ f xs ++ f zs)
    → ((at : ℕ) (d d' : Device) (what : LineWhat) (xs : List X) → comes at d what xs d' → turned at d what (f xs) d')
    → (ds ends : List Device) (ls : List LineData) (xs : List X) → ReplaysEach comes ds ls xs ends → ReplaysEach turned ds ls (f xs) ends
replays_turned comes turned f none both turns ds ends [] xs h = drains_turned comes turned f none both turns 0 ds ends xs h
replays_turned comes turned f none both turns ds ends (l ∷ ls) xs h =
    (f h.0, f h.1, h.2, h.3, ap f h.4 ∙ both h.0 h.1, h.5, turns l.device h.2 h.3 l.what h.0 h.6, replays_turned comes turned f none both turns (slice_set ds l.device h.3) ends ls h.1 h.7)

-- the entries that are printed
abbrev pub entries_printed : List Printed → List EntryData
entries_printed ps = entries_of (entries_in ps)

printed-append : (ps qs : List Printed) → entries_printed (ps ++ qs) ≡ entries_printed ps ++ entries_printed qs
printed-append ps qs = ap entries_of (entries_in-append ps qs) ∙ map-append (λ (j : Journaled). j.entry) (entries_in ps) (entries_in qs)

prints_plays : (R : HandlerRelation) (at : ℕ) (d d' : Device) (what : LineWhat) (ps : List Printed) → Prints R at d what ps d' → Plays R at d what (entries_printed ps) d'
prints_plays R at d d' (line.EventLine event) ps h =
    subst (λ (es : List EntryData). Plays R at d (line.EventLine event) es d') (sym (ap entries_printed h.are ∙ ap entries_of (entries_again h.journal))) h.plays
prints_plays R at d d' line.DrainLine ps h =
    subst (λ (es : List EntryData). Plays R at d line.DrainLine es d') (sym (ap entries_printed h.are ∙ ap entries_of (entries_again h.journal))) h.plays
prints_plays R at d d' line.DumpLine ps h = (ap entries_printed h.is, h.same)

-- the entries of what is printed are those that the lines ask for
pub replays_entries : (R : HandlerRelation) (ds ends : List Device) (ls : List LineData) (ps : List Printed) → ReplaysEach (Prints R) ds ls ps ends → ReplaysEach (Plays R) ds ls (entries_printed ps) ends
replays_entries R ds ends ls ps h = replays_turned (Prints R) (Plays R) entries_printed refl printed-append (λ at d d' what xs k. prints_plays R at d d' what xs k) ds ends ls ps h

-- ==== lines of which none is a dump

abbrev pub DumpNothing : List LineData → Type 0
DumpNothing ls = All (λ l. is_dump l ≡ false) ls

plays_prints : (R : HandlerRelation) (at : ℕ) (d d' : Device) (l : LineData) (what : LineWhat) (js : List Journaled) → l.what ≡ what → is_dump l ≡ false → Plays R at d what (entries_of js) d' → Prints R at d what (undumped js) d'
plays_prints R at d d' l (line.EventLine event) js is dumpless h = record { journal = js; are = refl; plays = h }
plays_prints R at d d' l line.DrainLine js is dumpless h = record { journal = js; are = refl; plays = h }
plays_prints R at d d' l line.DumpLine js is dumpless h = let yes : is_dump l ≡ true = rw is refl in absurd (cc)

-- a journal in two parts, by their entries
record Parts (js : List Journaled) (a b : List EntryData) : Type 0 where
  first : List Journaled
  rest : List Journaled
  both : js ≡ first ++ rest
  first_are : entries_of first ≡ a
  rest_are : entries_of rest ≡ b

abbrev first_or : EntryData → List EntryData → EntryData
first_or e [] = e
first_or e (f ∷ fs) = f

abbrev behind_first : List EntryData → List EntryData
behind_first [] = []
behind_first (e ∷ es) = es

parts : (js : List Journaled) (a b : List EntryData) → entries_of js ≡ a ++ b → Parts js a b
parts js [] b e = record { first = []; rest = js; both = refl; first_are = refl; rest_are = e }
parts [] (x ∷ a) b e = absurd (cc)
parts (j ∷ js) (x ∷ a) b e =
    let more = parts js a b (ap behind_first e) in
    record {
      first = j ∷ more.first;
      rest = more.rest;
      both = ap (λ (l : List Journaled). j ∷ l) more.both;
      first_are = ap (λ (y : EntryData). y ∷ entries_of more.first) (ap (first_or j.entry) e) ∙ ap (λ (l : List EntryData). x ∷ l) more.first_are;
      rest_are = more.rest_are;
    }

no_entries : (js : List Journaled) → entries_of js ≡ [] → js ≡ []
no_entries [] e = refl
no_entries (j ∷ js) e = absurd (cc)

printed_parts : (js : List Journaled) (a b : List EntryData) (p : Parts js a b) → undumped js ≡ undumped p.first ++ undumped p.rest
printed_parts js a b p = ap undumped p.both ∙ map-append AnEntry p.first p.rest

drains_undumped : (R : HandlerRelation) (at : ℕ) (ds ends : List Device) (js : List Journaled) (es : List EntryData) → entries_of js ≡ es → DrainsEach (Plays R) at ds es ends → DrainsEach (Prints R) at ds (undumped js) ends
drains_undumped R at [] ends js es e h = (ap undumped (no_entries js (e ∙ h.0)), h.1)
drains_undumped R at (d ∷ ds) ends js es e h =
    let p = parts js h.0 h.1 (e ∙ h.4) in
    (undumped p.first, undumped p.rest, h.2, h.3, printed_parts js h.0 h.1 p, h.5, record { journal = p.first; are = refl; plays = subst (λ (xs : List EntryData). Plays R at d line.DrainLine xs h.2) (sym p.first_are) h.6 }, drains_undumped R (at + 1) ds h.3 p.rest h.1 p.rest_are h.7)

replays_parts : (R : HandlerRelation) (ds ends : List Device) (ls : List LineData) (js : List Journaled) (es : List EntryData) → DumpNothing ls → entries_of js ≡ es → ReplaysEach (Plays R) ds ls es ends → ReplaysEach (Prints R) ds ls (undumped js) ends
replays_parts R ds ends [] js es dumpless e h = drains_undumped R 0 ds ends js es e h
replays_parts R ds ends (l ∷ ls) js es dumpless e h =
    let p = parts js h.0 h.1 (e ∙ h.4) in
    let played = subst (λ (xs : List EntryData). Plays R l.device h.2 l.what xs h.3) (sym p.first_are) h.6 in (
      undumped p.first,
      undumped p.rest,
      h.2,
      h.3,
      printed_parts js h.0 h.1 p,
      h.5,
      plays_prints R l.device h.2 h.3 l l.what p.first refl (All-head (λ x. is_dump x ≡ false) l ls dumpless) played,
      replays_parts R (slice_set ds l.device h.3) ends ls p.rest h.1 (All-tail (λ x. is_dump x ≡ false) l ls dumpless) p.rest_are h.7,
    )

-- a journal of the entries that the lines ask for is what is printed
pub replays_undumped : (R : HandlerRelation) (ds ends : List Device) (ls : List LineData) (js : List Journaled) → DumpNothing ls → ReplaysEach (Plays R) ds ls (entries_of js) ends → ReplaysEach (Prints R) ds ls (undumped js) ends
replays_undumped R ds ends ls js dumpless h = replays_parts R ds ends ls js (entries_of js) dumpless refl h

-- these are entries alone
abbrev AreAlone : List Printed → Type 0
AreAlone ps = ps ≡ undumped (entries_in ps)

alone : (ps : List Printed) (js : List Journaled) → ps ≡ undumped js → AreAlone ps
alone ps js e = e ∙ ap undumped (sym (ap entries_in e ∙ entries_again js))

alone_append : (all ps qs : List Printed) → all ≡ ps ++ qs → AreAlone ps → AreAlone qs → AreAlone all
alone_append all ps qs e h k =
    alone all (entries_in ps ++ entries_in qs)
    (e ∙ ap (λ (l : List Printed). l ++ qs) h ∙ ap (λ (l : List Printed). undumped (entries_in ps) ++ l) k ∙ sym (map-append AnEntry (entries_in ps) (entries_in qs)))

prints_alone : (R : HandlerRelation) (at : ℕ) (d d' : Device) (l : LineData) (what : LineWhat) (ps : List Printed) → l.what ≡ what → is_dump l ≡ false → Prints R at d what ps d' → AreAlone ps
prints_alone R at d d' l (line.EventLine event) ps is dumpless h = alone ps h.journal h.are
prints_alone R at d d' l line.DrainLine ps is dumpless h = alone ps h.journal h.are
prints_alone R at d d' l line.DumpLine ps is dumpless h = let yes : is_dump l ≡ true = rw is refl in absurd (cc)

drains_alone : (R : HandlerRelation) (at : ℕ) (ds ends : List Device) (ps : List Printed) → DrainsEach (Prints R) at ds ps ends → AreAlone ps
drains_alone R at [] ends ps h = alone ps [] h.0
drains_alone R at (d ∷ ds) ends ps h = alone_append ps h.0 h.1 h.4 (alone h.0 h.6.journal h.6.are) (drains_alone R (at + 1) ds h.3 h.1 h.7)

pub replays_alone : (R : HandlerRelation) (ds ends : List Device) (ls : List LineData) (ps : List Printed) → DumpNothing ls → ReplaysEach (Prints R) ds ls ps ends → ps ≡ undumped (entries_in ps)
replays_alone R ds ends [] ps dumpless h = drains_alone R 0 ds ends ps h
replays_alone R ds ends (l ∷ ls) ps dumpless h =
    alone_append ps h.0 h.1 h.4 (prints_alone R l.device h.2 h.3 l l.what h.0 refl (All-head (λ x. is_dump x ≡ false) l ls dumpless) h.6)
    (replays_alone R (slice_set ds l.device h.3) ends ls h.1 (All-tail (λ x. is_dump x ≡ false) l ls dumpless) h.7)
