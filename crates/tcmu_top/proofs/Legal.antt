-- Journals of several devices: the runs of each device's own entries, and their text.
use Rattle.std.proofs.Common.{◌≡◌, ℕ, ◌<◌, true, false, List, [], ◌∷◌, ◌++◌, length, drop, slice_get, slice_set, Option, Some, None, refl, sym, ap, ◌∙◌, subst, eq-eqb, ⊎_elim}
use Rattle.std.specs.List.{filter, flat_map}
use Rattle.std.proofs.lemmas.Bool.{cases_eq, ne_eqb}
use Rattle.std.proofs.lemmas.Option.{same_Some, slice_get_within}
use Rattle.std.proofs.lemmas.List.{length-map, map-append}
use Rattle.std.proofs.lemmas.List.Elements.{filter-append}
use Rattle.tcmu_types.specs.Events.{EntryData}
use Rattle.tcmu_model.specs.Device.{Device}
use Rattle.tcmu_model.specs.Steps.{HandlerRelation, Run}
use Rattle.tcmu_types.specs.Lists.{Every}
use Rattle.text_model.specs.ScenarioData.{DeviceLineData, LineWhat}
use Rattle.text_model.specs.ScenarioData as line
use Rattle.text_model.specs.Replay.{Plays}
use Rattle.text_model.specs.Text.{entry_text}
use Rattle.tcmu_types.proofs.Everies.{filter_all, every-append, every-weaker}
use Rattle.tcmu_model.proofs.Logs.{makes_grows}
use Rattle.text_model.specs.Journals.{Journaled, is_of, RunLogs, IsLegalEach, journaled_text, entries_of}
use Rattle.tcmu_top.specs.Playing.{run_text}
use Rattle.tcmu_top.proofs.RunTexts.{drop_front, text_more, text_one}
use Rattle.tcmu_types.proofs.Places.{get_within, get_set, get_set_other}
use Rattle.text_laws.proofs.Matching.{AreOf, drains_own}

-- ==== one device

-- the entries of a run, each with what it logged
pub record Piece (R : HandlerRelation) (at : ℕ) (d d' : Device) (es : List EntryData) : Type 0 where
  pub journal : List Journaled
  pub are : entries_of journal ≡ es
  pub run : RunLogs R d journal d'
  pub own : Every (λ j. j.entry.device ≡ at) journal

pub piece_of : (R : HandlerRelation) (at : ℕ) (d d' : Device) (es : List EntryData) → Run R d es d' → AreOf at es → Piece R at d d' es
piece_of R at d d' [] h own = record { journal = []; are = refl; run = h; own = tt }
piece_of R at d d' (e ∷ es) h own =
    let more = piece_of R at h.0 d' es h.2 own.1 in
    let logged = makes_grows R d h.0 e.event e.answer h.1.makes in
    record {
      journal = record { entry = e; completions = logged.0 } ∷ more.journal;
      are = ap (λ (l : List EntryData). e ∷ l) more.are;
      run = (h.0, h.1, logged.1, more.run);
      own = (own.0, more.own);
    }

pub logs_run : (R : HandlerRelation) (d d' : Device) (js : List Journaled) → RunLogs R d js d' → Run R d (entries_of js) d'
logs_run R d d' [] h = h
logs_run R d d' (j ∷ js) h = (h.0, h.1, logs_run R h.0 d' js h.3)

pub logs_append : (R : HandlerRelation) (d m d' : Device) (xs ys : List Journaled) → RunLogs R d xs m → RunLogs R m ys d' → RunLogs R d (xs ++ ys) d'
logs_append R d m d' [] ys h k = subst (λ (x : Device). RunLogs R x ys d') h k
logs_append R d m d' (x ∷ xs) ys h k = (h.0, h.1, h.2, logs_append R h.0 m d' xs ys h.3 k)

-- the entries of two runs, one behind the other
abbrev pub piece_append : (R : HandlerRelation) (at : ℕ) (d m d' : Device) (es xs ys : List EntryData) → es ≡ xs ++ ys → Piece R at d m xs → Piece R at m d' ys → Piece R at d d' es
piece_append R at d m d' es xs ys e p q =
    record {
      journal = p.journal ++ q.journal;
      are = map-append (λ (j : Journaled). j.entry) p.journal q.journal ∙ ap (λ (l : List EntryData). l ++ entries_of q.journal) p.are ∙ ap (λ (l : List EntryData). xs ++ l) q.are ∙ sym e;
      run = logs_append R d m d' p.journal q.journal p.run q.run;
      own = every-append (λ j. j.entry.device ≡ at) p.journal q.journal p.own q.own;
    }

pub piece_count : (R : HandlerRelation) (at : ℕ) (d d' : Device) (es : List EntryData) (p : Piece R at d d' es) → length p.journal ≡ length es
piece_count R at d d' es p = sym (length-map p.journal (λ (j : Journaled). j.entry)) ∙ ap (λ (l : List EntryData). length l) p.are

named_text : (ls : List DeviceLineData) (l : DeviceLineData) (j : Journaled) (o : Option DeviceLineData) → o ≡ Some l
    → (elim o [ Some k ↦ entry_text k.name k.settings.qfull j.entry j.completions | None ↦ [] ]) ≡ entry_text l.name l.settings.qfull j.entry j.completions
named_text ls l j o e = rw e refl

-- the text of a device's own entries
pub journal_text : (R : HandlerRelation) (ls : List DeviceLineData) (l : DeviceLineData) (at : ℕ) (d d' : Device) (js : List Journaled) → slice_get ls at ≡ Some l → RunLogs R d js d'
    → Every (λ j. j.entry.device ≡ at) js → run_text l d (entries_of js) d' ≡ flat_map (journaled_text ls) js
journal_text R ls l at d d' [] named h own = refl
journal_text R ls l at d d' (j ∷ js) named h own =
    let logged : drop (length d.state.log) h.0.state.log ≡ j.completions = ap (drop (length d.state.log)) h.2 ∙ drop_front d.state.log j.completions (length d.state.log) refl in
    let first : run_text l d (j.entry ∷ []) h.0 ≡ journaled_text ls j =
    text_one R l d h.0 j.entry h.1 ∙ ap (entry_text l.name l.settings.qfull j.entry) logged ∙ sym (named_text ls l j (slice_get ls j.entry.device) (ap (slice_get ls) own.0 ∙ named)) in
    text_more R l d h.0 d' (j.entry ∷ []) (entries_of js) (h.0, h.1, refl) (logs_run R h.0 d' js h.3)
    ∙ ap (λ (t : List ℕ). t ++ run_text l h.0 (entries_of js) d') first
    ∙ ap (λ (t : List ℕ). journaled_text ls j ++ t) (journal_text R ls l at h.0 d' js named h.3 own.1)

pub piece_text : (R : HandlerRelation) (ls : List DeviceLineData) (l : DeviceLineData) (at : ℕ) (d d' : Device) (es : List EntryData) (p : Piece R at d d' es) → slice_get ls at ≡ Some l
    → run_text l d es d' ≡ flat_map (journaled_text ls) p.journal
piece_text R ls l at d d' es p named = ap (λ (x : List EntryData). run_text l d x d') (sym p.are) ∙ journal_text R ls l at d d' p.journal named p.run p.own

pub plays_own : (R : HandlerRelation) (at : ℕ) (d d' : Device) (what : LineWhat) (es : List EntryData) → Plays R at d what es d' → AreOf at es
plays_own R at d d' (line.EventLine event) es h = subst (AreOf at) (sym h.4) (h.1, tt)
plays_own R at d d' line.DrainLine es h = drains_own R at d d' es h
plays_own R at d d' line.DumpLine es h = subst (AreOf at) (sym h.0) tt

-- ==== each device

pub legal_none : (R : HandlerRelation) (ds : List Device) → IsLegalEach R ds [] ds
legal_none R ds at d d' g g' = same_Some d' d (sym g' ∙ g)

all_own : (at : ℕ) (js : List Journaled) → Every (λ j. j.entry.device ≡ at) js → filter (is_of at) js ≡ js
all_own at js own = filter_all (is_of at) js (every-weaker (λ j. j.entry.device ≡ at) (λ j. is_of at j ≡ true) js (λ j e. eq-eqb j.entry.device at e) own)

none_own : (at other : ℕ) (js : List Journaled) → (at ≡ other → ⊥) → Every (λ j. j.entry.device ≡ other) js → filter (is_of at) js ≡ []
none_own at other [] ne own = refl
none_own at other (j ∷ js) ne own =
    let differs : is_of at j ≡ false = ne_eqb j.entry.device at (λ e. ne (sym e ∙ own.0)) in
    rw differs (none_own at other js ne own.1)

-- one device runs, and all others stay
pub legal_one : (R : HandlerRelation) (ds : List Device) (k : ℕ) (b a : Device) (js : List Journaled) → slice_get ds k ≡ Some b → RunLogs R b js a → Every (λ j. j.entry.device ≡ k) js
    → IsLegalEach R ds js (slice_set ds k a)
legal_one R ds k b a js found run own at d d' g g' =
    ⊎_elim
    (λ (e : at ≡ k).
    let before : d ≡ b = same_Some d b (sym g ∙ ap (slice_get ds) e ∙ found) in
    let after : d' ≡ a = same_Some d' a (sym g' ∙ ap (slice_get (slice_set ds k a)) e ∙ get_set ds k b a found) in
    let mine : filter (is_of at) js ≡ js = ap (λ (n : ℕ). filter (is_of n) js) e ∙ all_own k js own in
    subst (λ (x : List Journaled). RunLogs R d x d') (sym mine)
    (subst (λ (x : Device). RunLogs R x js d') (sym before) (subst (λ (x : Device). RunLogs R b js x) (sym after) run)))
    (λ (ne : at ≡ k → ⊥).
    let same : d' ≡ d = same_Some d' d (sym g' ∙ get_set_other ds k at a (λ q. ne (sym q)) ∙ g) in
    subst (λ (x : List Journaled). RunLogs R d x d') (sym (none_own at k js ne own)) same)
    (cases_eq at k)

-- one journal behind another
pub legal_append : (R : HandlerRelation) (ds ms es : List Device) (xs ys : List Journaled) → length ms ≡ length ds → IsLegalEach R ds xs ms → IsLegalEach R ms ys es → IsLegalEach R ds (xs ++ ys) es
legal_append R ds ms es xs ys long h k at d d' g g' =
    let m = get_within ms at (subst (λ (n : ℕ). at < n) (sym long) (slice_get_within ds at d g)) in
    subst (λ (x : List Journaled). RunLogs R d x d') (sym (filter-append (is_of at) xs ys))
    (logs_append R d m.0 d' (filter (is_of at) xs) (filter (is_of at) ys) (h at d m.0 g m.1) (k at m.0 d' m.1 g'))
