-- Lists of what is printed that match: they are the same but for completions and the bytes of dumps.
use Rattle.std.proofs.Common.{◌≡◌, ℕ, suc, ◌+◌, ◌<◌, Bool, true, false, cond, nat_eq, List, [], ◌∷◌, ◌++◌, length, slice_set, refl, sym, ap, ◌∙◌, subst, arith}
use Rattle.std.specs.List.{filter}
use Rattle.std.proofs.lemmas.Bool.{cond-true, cond-false, eq-eqb}
use Rattle.std.proofs.lemmas.List.{length-set}
use Rattle.std.proofs.lemmas.Option.{slice_get_within}
use Rattle.tcmu_types.specs.Events.{EntryData}
use Rattle.tcmu_types.specs.Lists.{Every}
use Rattle.tcmu_types.proofs.Everies.{every-append, every-weaker}
use Rattle.tcmu_model.specs.Device.{Device}
use Rattle.tcmu_model.specs.Steps.{HandlerRelation}
use Rattle.tcmu_model.specs.Drain.{Drains}
use Rattle.text_model.specs.Journals.{Journaled, entries_of}
use Rattle.text_model.specs.Printed.{Printed, AnEntry, ADump, OutsideLine, device_of, is_about}
use Rattle.text_model.specs.Replay.{LineRelation, Prints}
use Rattle.text_model.specs.ScenarioData.{LineWhat, LineData}
use Rattle.text_model.specs.ScenarioData as line
use Rattle.text_model.specs.Several.{DrainsEach, ReplaysEach}
use Rattle.text_model.proofs.PrintedJournals.{undumped}

-- ---- lists that match

abbrev pub Matches : Printed → Printed → Type 0
Matches (AnEntry j) (AnEntry f) = j.entry ≡ f.entry
Matches (ADump at d) (ADump to e) = at ≡ to
Matches (OutsideLine at t) (OutsideLine to u) = (at ≡ to) × (t ≡ u)
Matches (AnEntry j) (ADump to e) = ⊥
Matches (AnEntry j) (OutsideLine to u) = ⊥
Matches (ADump at d) (AnEntry f) = ⊥
Matches (ADump at d) (OutsideLine to u) = ⊥
Matches (OutsideLine at t) (AnEntry f) = ⊥
Matches (OutsideLine at t) (ADump to e) = ⊥

abbrev pub AllMatch : List Printed → List Printed → Type 0
AllMatch [] [] = Unit {0}
AllMatch [] (q ∷ qs) = ⊥
AllMatch (p ∷ ps) [] = ⊥
AllMatch (p ∷ ps) (q ∷ qs) = Matches p q × AllMatch ps qs

pub match_as : (ps qs us vs : List Printed) → ps ≡ us → qs ≡ vs → AllMatch us vs → AllMatch ps qs
match_as ps qs us vs e f h = subst (λ (x : List Printed). AllMatch x qs) (sym e) (subst (λ (x : List Printed). AllMatch us x) (sym f) h)

pub match_append : (ps us qs vs : List Printed) → AllMatch ps us → AllMatch qs vs → AllMatch (ps ++ qs) (us ++ vs)
match_append [] [] qs vs h k = k
match_append [] (u ∷ us) qs vs h k = absurd h
match_append (p ∷ ps) [] qs vs h k = absurd h
match_append (p ∷ ps) (u ∷ us) qs vs h k = (h.0, match_append ps us qs vs h.1 k)

abbrev first_or : EntryData → List EntryData → EntryData
first_or e [] = e
first_or e (f ∷ fs) = f

abbrev behind_first : List EntryData → List EntryData
behind_first [] = []
behind_first (e ∷ es) = es

pub match_undumped : (js fs : List Journaled) → entries_of js ≡ entries_of fs → AllMatch (undumped js) (undumped fs)
match_undumped [] [] e = tt
match_undumped [] (f ∷ fs) e = absurd (cc)
match_undumped (j ∷ js) [] e = absurd (cc)
match_undumped (j ∷ js) (f ∷ fs) e = (ap (first_or j.entry) e, match_undumped js fs (ap behind_first e))

-- ---- what is about one device

match_device : (p q : Printed) → Matches p q → device_of p ≡ device_of q
match_device (AnEntry j) (AnEntry f) h = ap (λ (e : EntryData). e.device) h
match_device (ADump at d) (ADump to e) h = h
match_device (OutsideLine at t) (OutsideLine to u) h = h.0
match_device (AnEntry j) (ADump to e) h = absurd h
match_device (AnEntry j) (OutsideLine to u) h = absurd h
match_device (ADump at d) (AnEntry f) h = absurd h
match_device (ADump at d) (OutsideLine to u) h = absurd h
match_device (OutsideLine at t) (AnEntry f) h = absurd h
match_device (OutsideLine at t) (ADump to e) h = absurd h

pub match_filter : (at : ℕ) (ps qs : List Printed) → AllMatch ps qs → AllMatch (filter (is_about at) ps) (filter (is_about at) qs)
match_filter at [] [] h = tt
match_filter at [] (q ∷ qs) h = absurd h
match_filter at (p ∷ ps) [] h = absurd h
match_filter at (p ∷ ps) (q ∷ qs) h = go (nat_eq (device_of p) at) (nat_eq (device_of q) at) (ap (λ (n : ℕ). nat_eq n at) (match_device p q h.0)) (match_filter at ps qs h.1)
  where
    go : (a b : Bool) → a ≡ b → AllMatch (filter (is_about at) ps) (filter (is_about at) qs) → AllMatch (cond a (p ∷ filter (is_about at) ps) (filter (is_about at) ps)) (cond b (q ∷ filter (is_about at) qs) (filter (is_about at) qs))
    go true true e k = (h.0, k)
    go false false e k = k
    go true false e k = absurd (cc)
    go false true e k = absurd (cc)

abbrev head_or : Printed → List Printed → Printed
head_or p [] = p
head_or p (q ∷ qs) = q

abbrev tail_of : List Printed → List Printed
tail_of [] = []
tail_of (p ∷ ps) = ps

-- lists that match are the same where what is about each device is
pub rejoined : (n : ℕ) (ps qs : List Printed) → AllMatch ps qs → Every (λ p. device_of p < n) ps → ((at : ℕ) → at < n → filter (is_about at) ps ≡ filter (is_about at) qs) → ps ≡ qs
rejoined n [] [] h within own = refl
rejoined n [] (q ∷ qs) h within own = absurd h
rejoined n (p ∷ ps) [] h within own = absurd h
rejoined n (p ∷ ps) (q ∷ qs) h within own =
    let same = match_device p q h.0 in
    let mine : p ∷ filter (is_about (device_of p)) ps ≡ q ∷ filter (is_about (device_of p)) qs =
    sym (cond-true _ _ _ (eq-eqb (device_of p) (device_of p) refl)) ∙ own (device_of p) within.0 ∙ cond-true _ _ _ (eq-eqb (device_of q) (device_of p) (sym same)) in
    let rest = rejoined n ps qs h.1 within.1 (λ at lt. go at (nat_eq (device_of p) at) refl (own at lt)) in
    ap (λ (x : Printed). x ∷ ps) (ap (head_or p) mine) ∙ ap (λ (xs : List Printed). q ∷ xs) rest
  where
    go : (at : ℕ) (b : Bool) → nat_eq (device_of p) at ≡ b → filter (is_about at) (p ∷ ps) ≡ filter (is_about at) (q ∷ qs) → filter (is_about at) ps ≡ filter (is_about at) qs
    go at true e k =
        let other : nat_eq (device_of q) at ≡ true = ap (λ (m : ℕ). nat_eq m at) (sym (match_device p q h.0)) ∙ e in
        ap tail_of (sym (cond-true _ _ _ e) ∙ k ∙ cond-true _ _ _ other)
    go at false e k =
        let other : nat_eq (device_of q) at ≡ false = ap (λ (m : ℕ). nat_eq m at) (sym (match_device p q h.0)) ∙ e in
        sym (cond-false _ _ _ e) ∙ k ∙ cond-false _ _ _ other

-- ---- what a replay prints is of its devices

-- these entries are of the device of this number
abbrev pub AreOf : ℕ → List EntryData → Type 0
AreOf at es = Every (λ e. e.device ≡ at) es

pub drains_own : (R : HandlerRelation) (at : ℕ) (d d' : Device) (es : List EntryData) → Drains R at d es d' → AreOf at es
drains_own R at d d' [] h = tt
drains_own R at d d' (e ∷ es) h = (h.0, drains_own R at h.2 d' es h.4)

undumped_own : (at : ℕ) (js : List Journaled) → AreOf at (entries_of js) → Every (λ p. device_of p ≡ at) (undumped js)
undumped_own at [] h = tt
undumped_own at (j ∷ js) h = (h.0, undumped_own at js h.1)

prints_own : (R : HandlerRelation) (at : ℕ) (d d' : Device) (what : LineWhat) (ps : List Printed) → Prints R at d what ps d' → Every (λ p. device_of p ≡ at) ps
prints_own R at d d' (line.EventLine event) ps h =
    let one : AreOf at (entries_of h.journal) = subst (AreOf at) (sym h.plays.4) (h.plays.1, tt) in
    subst (Every (λ p. device_of p ≡ at)) (sym h.are) (undumped_own at h.journal one)
prints_own R at d d' line.DrainLine ps h = subst (Every (λ p. device_of p ≡ at)) (sym h.are) (undumped_own at h.journal (drains_own R at d d' (entries_of h.journal) h.plays))
prints_own R at d d' line.DumpLine ps h = subst (Every (λ p. device_of p ≡ at)) (sym h.is) (refl, tt)

within : (n at : ℕ) (ps : List Printed) → at < n → Every (λ p. device_of p ≡ at) ps → Every (λ p. device_of p < n) ps
within n at ps lt own = every-weaker (λ p. device_of p ≡ at) (λ p. device_of p < n) ps (λ p e. omega (arith, e, lt)) own

both_within : (n : ℕ) (all ps qs : List Printed) → all ≡ ps ++ qs → Every (λ p. device_of p < n) ps → Every (λ p. device_of p < n) qs → Every (λ p. device_of p < n) all
both_within n all ps qs e h k = subst (Every (λ p. device_of p < n)) (sym e) (every-append (λ p. device_of p < n) ps qs h k)

drains_within : (R : HandlerRelation) (n at : ℕ) (ds ends : List Device) (ps : List Printed) → at + length ds ≡ n → DrainsEach (Prints R) at ds ps ends → Every (λ p. device_of p < n) ps
drains_within R n at [] ends ps e h = subst (Every (λ p. device_of p < n)) (sym h.0) tt
drains_within R n at (d ∷ ds) ends ps e h =
    both_within n ps h.0 h.1 h.4 (within n at h.0 (omega (arith, e)) (prints_own R at d h.2 line.DrainLine h.0 h.6)) (drains_within R n (at + 1) ds h.3 h.1 (omega (arith, e)) h.7)

replays_of : (R : HandlerRelation) (n : ℕ) (ds ends : List Device) (ls : List LineData) (ps : List Printed) → length ds ≡ n → ReplaysEach (Prints R) ds ls ps ends → Every (λ p. device_of p < n) ps
replays_of R n ds ends [] ps e h = drains_within R n 0 ds ends ps (omega (arith, e)) h
replays_of R n ds ends (l ∷ ls) ps e h =
    let lt = slice_get_within ds l.device h.2 h.5 in
    both_within n ps h.0 h.1 h.4 (within n l.device h.0 (omega (arith, lt, e)) (prints_own R l.device h.2 h.3 l.what h.0 h.6)) (replays_of R n (slice_set ds l.device h.3) ends ls h.1 (length-set ds l.device h.3 ∙ e) h.7)

pub replays_within : (R : HandlerRelation) (ds ends : List Device) (ls : List LineData) (ps : List Printed) → ReplaysEach (Prints R) ds ls ps ends → Every (λ p. device_of p < length ds) ps
replays_within R ds ends ls ps h = replays_of R (length ds) ds ends ls ps refl h

-- ---- a replay keeps the number of devices

drains_count : {X : Type 0} (comes : LineRelation X) (at : ℕ) (ds ends : List Device) (xs : List X) → DrainsEach comes at ds xs ends → length ends ≡ length ds
drains_count comes at [] ends xs h = ap (λ (x : List Device). length x) h.1
drains_count comes at (d ∷ ds) ends xs h = ap (λ (x : List Device). length x) h.5 ∙ ap suc (drains_count comes (at + 1) ds h.3 h.1 h.7)

pub replays_count : {X : Type 0} (comes : LineRelation X) (ds ends : List Device) (ls : List LineData) (xs : List X) → ReplaysEach comes ds ls xs ends → length ends ≡ length ds
replays_count comes ds ends [] xs h = drains_count comes 0 ds ends xs h
replays_count comes ds ends (l ∷ ls) xs h = replays_count comes (slice_set ds l.device h.3) ends ls h.1 h.7 ∙ length-set ds l.device h.3
