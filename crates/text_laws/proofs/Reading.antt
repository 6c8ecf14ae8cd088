-- The whole text of a journal is read line by line.
use Rattle.std.proofs.Common.{◌≡◌, ◌≢◌, ℕ, suc, ◌+◌, ◌<◌, ◌≤◌, Bool, true, false, cond, not, nat_eq, List, [], ◌∷◌, ◌++◌, length, All, get_or, slice_get, Option, Some, None, Ok, Err, refl, sym, ap, subst, ◌∙◌, arith, codes, append_assoc, length-append}
use Rattle.std.specs.List.{flat_map, list_any, sum_by, count_by, AllPairs, position_or_len}
use Rattle.std.specs.Str.{bytes_eq}
use Rattle.std.specs.Fmt.{decimal}
use Rattle.std.proofs.lemmas.Bool.{eq-eqb, le-ltb, lt-ltb, cond-true, cond-false}
use Rattle.std.proofs.lemmas.Option.{get_or_from_slice_get, slice_get_within}
use Rattle.std.proofs.lemmas.List.{append-nil}
use Rattle.std.proofs.lemmas.List.Splits.{slice_split_at}
use Rattle.std.proofs.lemmas.List.Sums.{AllPass-from_list_all, sum_by-append, position_or_len_is}
use Rattle.tcmu_types.specs.Data.{CommandData, DoneData}
use Rattle.tcmu_types.specs.Events.{EventData, EntryData}
use Rattle.tcmu_types.specs.Naming.{is_name}
use Rattle.tcmu_model.specs.Device.{Device}
use Rattle.tcmu_types.specs.Fields.{pieces}
use Rattle.tcmu_model.specs.Sound.{open_count}
use Rattle.text_model.specs.Several.{ends_text}
use Rattle.tcmu_types.specs.Lists.{Every}
use Rattle.text_model.specs.ScenarioData.{DeviceLineData, LineData, ScenarioData, command_of}
use Rattle.text_model.specs.ScenarioRules.{IsEvent, IsScenarioWithin}
use Rattle.text_model.specs.Said.{has_name, same_file, device_at, SaysLine, SaysDevice}
use Rattle.text_model.specs.Scenario.{is_event, bytes_in, bytes_out, with_name, with_initiator, initiators, initiators_from, breaks_dump, breaks_many, with_line, with_device, is_not_yet, with_said, with_text, with_lines, nothing_yet, scenario_within}
use Rattle.text_model.specs.Text.{spaced, line, device_text, event_text, answer_text, completion_text, event_line, entry_text, end_text}
use Rattle.tcmu_types.proofs.Everies.{every-weaker, every-none, every_at}
use Rattle.tcmu_types.proofs.Readings.{same_bytes}
use Rattle.text_model.proofs.ScenarioLaws.{initiators_append}
use Rattle.text_model.specs.declared.limits.Limits.{Limits}
use Rattle.text_model.specs.Journals.{Journaled, journaled_text, entries_of}
use Rattle.text_model.specs.Replay.{made, lines_of}
use Rattle.tcmu_types.proofs.Places.{get_within}
use Rattle.text_laws.specs.Configs.{is_other}
use Rattle.text_laws.specs.Devices.{IsSpelledDevice, IsNew}
use Rattle.text_laws.specs.Lines.{CarriesBytes}
use Rattle.text_laws.specs.Replays.{written}
use Rattle.text_laws.proofs.Asked.{IsWithinLines}
use Rattle.text_laws.proofs.Asks.{line_asks, line_value}
use Rattle.text_laws.proofs.Comments.{comments_ignored, empty_ignored}
use Rattle.text_laws.proofs.Devices.{devices_again, same_text}
use Rattle.text_laws.proofs.Events.{events_again}
use Rattle.text_laws.proofs.Unbroken.{Unbroken}
use Rattle.text_laws.proofs.WholeLines.{Named, done_fields, done_line, end_line, told_event, told_line, told_device, device_told_line}

-- ---- lines are cut again

pub first_line : (t rest : List ℕ) → Unbroken t → pieces 10 (line t ++ rest) ≡ t ∷ pieces 10 rest
first_line t rest h = ap (pieces 10) (append_assoc t (10 ∷ []) rest) ∙ slice_split_at (λ b. nat_eq b 10) t 10 rest whole (eq-eqb 10 10 refl)
  where
    no_feed : (x : ℕ) → is_other 10 x ≡ true → nat_eq x 10 ≡ false
    no_feed x e = go (nat_eq x 10) e
      where
        go : (b : Bool) → not b ≡ true → b ≡ false
        go false e = refl
        go true e = absurd (cc)

    whole : All (λ x. nat_eq x 10 ≡ false) t
    whole = λ k d lt. no_feed (get_or t k d) (AllPass-from_list_all (is_other 10) t h.bytes k d lt)

-- lines that are read one after another, wherever they begin
abbrev pub Reads : Limits → ScenarioData → List ℕ → ScenarioData → Type 0
Reads limits s text t = (n : ℕ) → with_lines limits n s (pieces 10 text) ≡ Ok t

reads_line : (limits : Limits) (s m t : ScenarioData) (text rest : List ℕ) → Unbroken text → with_text limits s text ≡ Ok m → Reads limits m rest t → Reads limits s (line text ++ rest) t
reads_line limits s m t text rest h e k = λ n.
    ap (with_lines limits n s) (first_line text rest h)
    ∙ ap (λ r. elim r [ Ok x ↦ with_lines limits (n + 1) x (pieces 10 rest) | Err f ↦ Err (record { line = n; why = f }) ]) e ∙ k (n + 1)

reads_nothing : (limits : Limits) (s : ScenarioData) → Reads limits s [] s
reads_nothing limits s = λ n. ap (λ r. elim r [ Ok x ↦ with_lines limits (n + 1) x [] | Err f ↦ Err (record { line = n; why = f }) ]) (empty_ignored limits s)

-- ---- completions and end lines

reads_done : (limits : Limits) (s t : ScenarioData) (name : List ℕ) (c : DoneData) (rest : List ℕ) → is_name name ≡ true → Named c → Reads limits s rest t → Reads limits s (completion_text name c ++ rest) t
unfolding completion_text
reads_done limits s t name c rest n h k = reads_line limits s s t (spaced (codes "# done") (done_fields name c)) rest (done_line name c n h) (comments_ignored limits s _) k

reads_dones : (limits : Limits) (s t : ScenarioData) (name : List ℕ) (cs : List DoneData) (rest : List ℕ) → is_name name ≡ true → Every Named cs → Reads limits s rest t → Reads limits s (flat_map (completion_text name) cs ++ rest) t
reads_dones limits s t name [] rest n h k = k
reads_dones limits s t name (c ∷ cs) rest n h k =
    subst (λ text. Reads limits s text t) (sym (append_assoc (completion_text name c) (flat_map (completion_text name) cs) rest))
    (reads_done limits s t name c (flat_map (completion_text name) cs ++ rest) n h.0 (reads_dones limits s t name cs rest n h.1 k))

reads_end : (limits : Limits) (s t : ScenarioData) (name : List ℕ) (k : ℕ) (rest : List ℕ) → is_name name ≡ true → Reads limits s rest t → Reads limits s (end_text name k ++ rest) t
unfolding end_text
reads_end limits s t name k rest n more = reads_line limits s s t (spaced (codes "# open") (name ∷ decimal k ∷ [])) rest (end_line name k n) (comments_ignored limits s _) more

pub reads_ends : (limits : Limits) (s : ScenarioData) (ls : List DeviceLineData) (ends : List Device) → Every IsSpelledDevice ls → Reads limits s (ends_text ls ends) s
reads_ends limits s [] ends h = reads_nothing limits s
reads_ends limits s (l ∷ ls) [] h = reads_nothing limits s
reads_ends limits s (l ∷ ls) (d ∷ ends) h = reads_end limits s s l.name (open_count d.state) (ends_text ls ends) h.0.line.name (reads_ends limits s ls ends h.1)

-- ---- the limits of a front of the lines

pub record Fits (limits : Limits) (ls : List LineData) : Type 0 where
  pub few : length ls ≤ limits.lines
  pub events : count_by is_event ls ≤ limits.events
  pub initiators : (device : ℕ) → length (initiators device ls) ≤ 16
  pub ins : sum_by bytes_in ls ≤ 67108864
  pub outs : sum_by bytes_out ls ≤ 67108864

fits_whole : (limits : Limits) (s : ScenarioData) → IsScenarioWithin limits s → Fits limits s.lines
fits_whole limits s is = record { few = is.few_lines; events = is.few_events; initiators = is.few_initiators; ins = is.few_in; outs = is.few_out }

grows_by : (names : List (List ℕ)) (name : List ℕ) → length names ≤ length (with_name names name)
grows_by names name = go (list_any (λ n. bytes_eq n name) names)
  where
    go : (b : Bool) → length names ≤ length (cond b names (names ++ name ∷ []))
    go true = omega arith
    go false = omega (arith, length-append names (name ∷ []))

grows_with : (d : ℕ) (names : List (List ℕ)) (l : LineData) → length names ≤ length (with_initiator d names l)
grows_with d names l = go (command_of l)
  where
    pick : (c : CommandData) (b : Bool) → length names ≤ length (cond b (with_name names c.init) names)
    pick c true = grows_by names c.init
    pick c false = omega arith

    go : (o : Option CommandData) → length names ≤ length {A = List ℕ} (elim o [ Some c ↦ cond (nat_eq l.device d) (with_name names c.init) names | None ↦ names ])
    go None = omega arith
    go (Some c) = pick c (nat_eq l.device d)

grows : (d : ℕ) (names : List (List ℕ)) (ls : List LineData) → length names ≤ length (initiators_from d names ls)
grows d names [] = omega arith
grows d names (l ∷ ls) = omega (arith, grows_with d names l, grows d (with_initiator d names l) ls)

sum_front : (f : LineData → ℕ) (xs ys : List LineData) → sum_by f xs ≤ sum_by f (xs ++ ys)
sum_front f xs ys = omega (arith, sum_by-append f xs ys)

fits_front : (limits : Limits) (xs ys : List LineData) → Fits limits (xs ++ ys) → Fits limits xs
fits_front limits xs ys h = record {
  few = omega (arith, h.few, length-append xs ys);
  events = omega (arith, h.events, sum_front (λ l. cond (is_event l) 1 0) xs ys);
  initiators = λ d. omega (arith, h.initiators d, ap (λ (l : List (List ℕ)). length l) (initiators_append d [] xs ys), grows d (initiators_from d [] xs) ys);
  ins = omega (arith, h.ins, sum_front bytes_in xs ys);
  outs = omega (arith, h.outs, sum_front bytes_out xs ys);
}

keeps_many : (limits : Limits) (ls : List LineData) (device : ℕ) → Fits limits ls → breaks_many limits ls device ≡ false
unfolding breaks_many
keeps_many limits ls device h = rw (le-ltb _ _ (h.initiators device), le-ltb _ _ h.few, le-ltb _ _ h.events, le-ltb _ _ h.ins, le-ltb _ _ h.outs) refl

-- ---- event lines

-- these devices, and lines up to here
abbrev pub so_far : List DeviceLineData → List LineData → ScenarioData
so_far ls front = record { devices = ls; lines = front }

pub adds : (limits : Limits) (ls : List DeviceLineData) (front : List LineData) (at : ℕ) (e : EventData) → Fits limits (front ++ made at e ∷ []) → with_said limits (so_far ls front) (SaysLine (made at e)) ≡ Ok (so_far ls (front ++ made at e ∷ []))
unfolding with_said with_line breaks_dump is_not_yet
adds limits ls front at e h = rw (keeps_many limits (front ++ made at e ∷ []) at h) refl

abbrev DifferInName : DeviceLineData → DeviceLineData → Type 0
DifferInName d e = d.name ≢ e.name

differ : (a b : List ℕ) → a ≢ b → bytes_eq a b ≡ false
differ a b ne = go (bytes_eq a b) refl
  where
    go : (x : Bool) → bytes_eq a b ≡ x → x ≡ false
    go true e = absurd (ne (same_bytes a b e))
    go false e = refl

-- a device is found under its name
pub its_number : (ls : List DeviceLineData) (front : List LineData) (at : ℕ) (l : DeviceLineData) → AllPairs DifferInName ls → slice_get ls at ≡ Some l → device_at (so_far ls front) l.name ≡ Some at
its_number ls front at l pairs e =
    let lt = slice_get_within ls at l e in
    let here : get_or ls at l ≡ l = get_or_from_slice_get ls at l l e in
    let place : position_or_len (has_name l.name) ls ≡ at = position_or_len_is (has_name l.name) ls at l (omega (arith, lt)) (λ k less. before k less here) (λ less. same_text (get_or ls at l).name l.name (ap (λ (d : DeviceLineData). d.name) here)) in
    cond-true _ _ _ (lt-ltb (position_or_len (has_name l.name) ls) (length ls) (omega (arith, place, lt))) ∙ ap (λ (k : ℕ). Some k) place
  where
    before : (k : ℕ) → k < at → get_or ls at l ≡ l → has_name l.name (get_or ls k l) ≡ false
    before k less here = differ (get_or ls k l).name l.name (λ q. pairs k at l less (slice_get_within ls at l e) (q ∙ ap (λ (d : DeviceLineData). d.name) (sym here)))

reads_event : (limits : Limits) (ls : List DeviceLineData) (l : DeviceLineData) (front : List LineData) (e : EntryData) (rest : List ℕ) (t : ScenarioData) → AllPairs DifferInName ls → slice_get ls e.device ≡ Some l → is_name l.name ≡ true → IsEvent e.event → CarriesBytes e.event
    → Fits limits (front ++ made e.device e.event ∷ []) → Reads limits (so_far ls (front ++ made e.device e.event ∷ [])) rest t → Reads limits (so_far ls front) (event_line l.name l.settings.qfull e.event e.answer ++ rest) t
unfolding event_line
reads_event limits ls l front e rest t pairs found n is h fits k =
    let shown = answer_text l.settings.qfull e.event e.answer in
    reads_line limits (so_far ls front) (so_far ls (front ++ made e.device e.event ∷ [])) t (told_event l.name l.settings.qfull e.event e.answer) rest (told_line l.name l.settings.qfull e.event e.answer n (line_asks e.event is) (line_value e.event is h))
    (ap (with_text limits (so_far ls front)) (append_assoc (event_text l.name e.event) (codes " # ") shown)
    ∙ events_again limits (so_far ls front) e.device l.name e.event shown (its_number ls front e.device l pairs found) n is h ∙ adds limits ls front e.device e.event fits) k

reads_entry : (limits : Limits) (ls : List DeviceLineData) (l : DeviceLineData) (front : List LineData) (j : Journaled) (rest : List ℕ) (t : ScenarioData) → AllPairs DifferInName ls → slice_get ls j.entry.device ≡ Some l → is_name l.name ≡ true → IsEvent j.entry.event → CarriesBytes j.entry.event
    → Every Named j.completions → Fits limits (front ++ made j.entry.device j.entry.event ∷ []) → Reads limits (so_far ls (front ++ made j.entry.device j.entry.event ∷ [])) rest t
    → Reads limits (so_far ls front) (entry_text l.name l.settings.qfull j.entry j.completions ++ rest) t
unfolding entry_text
reads_entry limits ls l front j rest t pairs found n is h named fits k =
    let e = j.entry in
    let dones = reads_dones limits (so_far ls (front ++ made e.device e.event ∷ [])) t l.name j.completions rest n named k in
    subst (λ text. Reads limits (so_far ls front) text t) (sym (append_assoc (event_line l.name l.settings.qfull e.event e.answer) (flat_map (completion_text l.name) j.completions) rest))
    (reads_event limits ls l front e (flat_map (completion_text l.name) j.completions ++ rest) t pairs found n is h fits dones)

pub reads_journal : (limits : Limits) (ls : List DeviceLineData) (js : List Journaled) (front : List LineData) (rest : List ℕ) (t : ScenarioData) → AllPairs DifferInName ls → Every IsSpelledDevice ls → Every (λ j. IsWithinLines (length ls) j.entry) js
    → Every (λ j. Every Named j.completions) js → Fits limits (front ++ lines_of (entries_of js)) → Reads limits (so_far ls (front ++ lines_of (entries_of js))) rest t → Reads limits (so_far ls front) (flat_map (journaled_text ls) js ++ rest) t
reads_journal limits ls [] front rest t pairs spelled within named fits k = subst (λ (xs : List LineData). Reads limits (so_far ls xs) rest t) (append-nil front) k
reads_journal limits ls (j ∷ js) front rest t pairs spelled within named fits k =
    let e = j.entry in
    let found = get_within ls e.device within.0.device in
    let l = found.0 in
    let next : front ++ made e.device e.event ∷ [] ++ lines_of (entries_of js) ≡ front ++ made e.device e.event ∷ lines_of (entries_of js) = append_assoc front (made e.device e.event ∷ []) (lines_of (entries_of js)) in
    let fits_next = subst (Fits limits) (sym next) fits in
    let later = reads_journal limits ls js (front ++ made e.device e.event ∷ []) rest t pairs spelled within.1 named.1 fits_next (subst (λ (xs : List LineData). Reads limits (so_far ls xs) rest t) (sym next) k) in
    let sp = every_at IsSpelledDevice ls e.device l spelled found.1 in
    let one = reads_entry limits ls l front j (flat_map (journaled_text ls) js ++ rest) t pairs found.1 sp.line.name within.0.event within.0.bytes named.0 (fits_front limits (front ++ made e.device e.event ∷ []) (lines_of (entries_of js)) fits_next) later in
    let text_is : journaled_text ls j ≡ entry_text l.name l.settings.qfull j.entry j.completions = ap (λ o. elim o [ Some m ↦ entry_text m.name m.settings.qfull j.entry j.completions | None ↦ [] ]) found.1 in
    subst (λ text. Reads limits (so_far ls front) text t)
    (ap (λ (x : List ℕ). x ++ (flat_map (journaled_text ls) js ++ rest)) (sym text_is) ∙ sym (append_assoc (journaled_text ls j) (flat_map (journaled_text ls) js) rest)) one

-- ---- device lines

-- what stands of each pair stands of each item before another
get_behind : {X : Type 0} (xs : List X) (y d : X) (ys : List X) → get_or (xs ++ y ∷ ys) (length xs) d ≡ y
get_behind [] y d ys = refl
get_behind (x ∷ xs) y d ys = get_behind xs y d ys

pairs_before : {X : Type 0} (R : X → X → Type 0) (xs : List X) (y : X) (ys : List X) → AllPairs R (xs ++ y ∷ ys) → Every (λ x. R x y) xs
pairs_before R [] y ys h = tt
pairs_before R (x ∷ xs) y ys h = (
  subst (R x) (get_behind xs y y ys) (h 0 (suc (length xs)) y (omega arith) (omega (arith, length-append xs (y ∷ ys)))),
  pairs_before R xs y ys (λ i j d less lt. h (suc i) (suc j) d (omega (arith, less)) (omega (arith, lt))),
)

abbrev DifferInFile : DeviceLineData → DeviceLineData → Type 0
DifferInFile d e = same_file d.config.kind e.config.kind ≡ false

pub opens : (limits : Limits) (ds : List DeviceLineData) (l : DeviceLineData) → length ds + 1 ≤ 16 → with_said limits (so_far ds []) (SaysDevice l) ≡ Ok (so_far (ds ++ l ∷ []) [])
unfolding with_said with_device is_not_yet
opens limits ds l few = rw (le-ltb _ _ few) refl

is_new : (ds : List DeviceLineData) (l : DeviceLineData) (more : List DeviceLineData) → AllPairs DifferInName (ds ++ l ∷ more) → AllPairs DifferInFile (ds ++ l ∷ more) → IsNew (so_far ds []) l
is_new ds l more names files = record {
  name = every-none (has_name l.name) ds (every-weaker (λ d. DifferInName d l) (λ d. has_name l.name d ≡ false) ds (λ d ne. differ d.name l.name ne) (pairs_before DifferInName ds l more names));
  file = every-none (λ e. same_file e.config.kind l.config.kind) ds (pairs_before DifferInFile ds l more files);
}

pub reads_devices : (limits : Limits) (ds ls : List DeviceLineData) (rest : List ℕ) (t : ScenarioData) → Every IsSpelledDevice ls → AllPairs DifferInName (ds ++ ls) → AllPairs DifferInFile (ds ++ ls) → length (ds ++ ls) ≤ 16
    → Reads limits (so_far (ds ++ ls) []) rest t → Reads limits (so_far ds []) (flat_map device_text ls ++ rest) t
unfolding device_text
reads_devices limits ds [] rest t spelled names files few k = subst (λ (xs : List DeviceLineData). Reads limits (so_far xs []) rest t) (append-nil ds) k
reads_devices limits ds (l ∷ ls) rest t spelled names files few k =
    let next : ds ++ l ∷ [] ++ ls ≡ ds ++ l ∷ ls = append_assoc ds (l ∷ []) ls in
    let later = reads_devices limits (ds ++ l ∷ []) ls rest t spelled.1 (subst (AllPairs DifferInName) (sym next) names) (subst (AllPairs DifferInFile) (sym next) files)
    (omega (arith, few, ap (λ (xs : List DeviceLineData). length xs) next)) (subst (λ (xs : List DeviceLineData). Reads limits (so_far xs []) rest t) (sym next) k) in
    let room : length ds + 1 ≤ 16 = omega (arith, few, length-append ds (l ∷ ls)) in
    subst (λ text. Reads limits (so_far ds []) text t) (sym (append_assoc (device_text l) (flat_map device_text ls) rest))
    (reads_line limits (so_far ds []) (so_far (ds ++ l ∷ []) []) t (told_device l) (flat_map device_text ls ++ rest) (device_told_line l spelled.0)
    (devices_again limits (so_far ds []) l (codes "ready") spelled.0 (is_new ds l ls names files) ∙ opens limits ds l room) later)

-- ---- whole texts

pub reads_whole : (limits : Limits) (ls : List DeviceLineData) (js : List Journaled) (ends : List Device) → Every IsSpelledDevice ls → IsScenarioWithin limits (written ls (entries_of js)) → Every (λ j. IsWithinLines (length ls) j.entry) js → Every (λ j. Every Named j.completions) js
    → length (flat_map device_text ls ++ flat_map (journaled_text ls) js ++ ends_text ls ends) ≤ limits.bytes
    → scenario_within limits (flat_map device_text ls ++ flat_map (journaled_text ls) js ++ ends_text ls ends) ≡ Ok (written ls (entries_of js))
unfolding scenario_within
reads_whole limits ls js ends spelled is within named size =
    let journal = reads_journal limits ls js [] (ends_text ls ends) (written ls (entries_of js)) is.names spelled within named (fits_whole limits (written ls (entries_of js)) is) (reads_ends limits (written ls (entries_of js)) ls ends spelled) in
    cond-false _ _ _ (le-ltb _ _ size)
    ∙ ap (λ text. with_lines limits 1 nothing_yet (pieces 10 text)) (append_assoc (flat_map device_text ls) (flat_map (journaled_text ls) js) (ends_text ls ends))
    ∙ reads_devices limits [] ls (flat_map (journaled_text ls) js ++ ends_text ls ends) (written ls (entries_of js)) spelled is.names is.files is.few_devices journal 1
