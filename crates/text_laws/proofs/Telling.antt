-- What the lines of a text tell: the devices, each entry's device and event and the text of its answer, and each dump.
use Rattle.std.proofs.Common.{◌≡◌, ◌≢◌, ℕ, ◌<◌, false, List, [], ◌∷◌, ◌++◌, length, map, drop, slice_get, Some, None, refl, sym, ap, ◌∙◌, subst, arith, codes}
use Rattle.std.specs.List.{flat_map, AllPairs}
use Rattle.tcmu_types.proofs.Everies.{every_at}
use Rattle.tcmu_types.specs.Dumps.{DumpData}
use Rattle.tcmu_types.specs.Events.{EventData}
use Rattle.text_model.specs.Said.{device_at}
use Rattle.text_model.specs.ScenarioData.{DeviceLineData, ScenarioData}
use Rattle.text_model.specs.Scenario.{scenario_limits, with_text}
use Rattle.tcmu_types.specs.Lists.{Every}
use Rattle.text_model.specs.Text.{event_text, answer_text}
use Rattle.text_model.specs.Journals.{Journaled}
use Rattle.text_model.specs.Printed.{Printed, AnEntry, ADump, OutsideLine, device_of, IsOutsideLine, NamesItsDevice}
use Rattle.tcmu_types.proofs.Readings.{same_ok, same_some}
use Rattle.tcmu_types.proofs.Places.{get_within}
use Rattle.text_model.specs.Words.{verb_of}
use Rattle.text_laws.specs.Devices.{IsSpelledDevice}
use Rattle.text_laws.proofs.Apart.{head_or, behind_same, apart, StartsOther, fronts_told, told_apart}
use Rattle.text_laws.proofs.Devices.{devices_again}
use Rattle.text_laws.proofs.Dumped.{first_of_dump, dump_lines, dump_lines_told}
use Rattle.text_laws.proofs.EventLines.{event_told}
use Rattle.text_laws.proofs.OutsideLines.{has_verb, outside_told, outside_verb}
use Rattle.text_laws.proofs.Reading.{so_far, opens, its_number}
use Rattle.text_laws.proofs.Spoken.{is_comment, is_device_line, begins_dump, event_marks, inner_lines, inner_comments, told, told_is, told_lines, dump_told_is, outside_comment, IsReadable, device_lines, no_device_lines}
use Rattle.text_laws.proofs.WholeLines.{told_event, told_device}

-- ---- devices

pub two_parts : (ls ks : List DeviceLineData) (ps qs : List Printed) → Every (NamesItsDevice ls) ps → Every (NamesItsDevice ks) qs → map told_device ls ++ flat_map (told_lines ls) ps ≡ map told_device ks ++ flat_map (told_lines ks) qs
    → (map told_device ls ≡ map told_device ks) × (flat_map (told_lines ls) ps ≡ flat_map (told_lines ks) qs)
two_parts ls ks ps qs h k e = told_apart is_device_line (map told_device ls) (flat_map (told_lines ls) ps) (map told_device ks) (flat_map (told_lines ks) qs) (device_lines ls) (no_device_lines ls ps h) (device_lines ks) (no_device_lines ks qs k) e

abbrev first_device : DeviceLineData → ScenarioData → DeviceLineData
first_device l s = elim (slice_get s.devices 0) [ Some k ↦ k | None ↦ l ]

device_told : (l k : DeviceLineData) → IsSpelledDevice l → IsSpelledDevice k → told_device l ≡ told_device k → l ≡ k
device_told l k h m e =
    let read = devices_again scenario_limits (so_far [] []) l (codes "ready") h (record { name = refl; file = refl }) ∙ opens scenario_limits [] l (omega arith) in
    let read' = devices_again scenario_limits (so_far [] []) k (codes "ready") m (record { name = refl; file = refl }) ∙ opens scenario_limits [] k (omega arith) in
    ap (first_device l) (same_ok (so_far (l ∷ []) []) (so_far (k ∷ []) []) (sym read ∙ ap (with_text scenario_limits (so_far [] [])) e ∙ read'))

pub devices_told : (ls ks : List DeviceLineData) → Every IsSpelledDevice ls → Every IsSpelledDevice ks → map told_device ls ≡ map told_device ks → ls ≡ ks
devices_told [] [] h m e = refl
devices_told [] (k ∷ ks) h m e = absurd (cc)
devices_told (l ∷ ls) [] h m e = absurd (cc)
devices_told (l ∷ ls) (k ∷ ks) h m e =
    ap (λ (x : DeviceLineData). x ∷ ls) (device_told l k h.0 m.0 (ap (head_or []) e)) ∙ ap (λ (xs : List DeviceLineData). k ∷ xs) (devices_told ls ks h.1 m.1 (ap (λ (l : List (List ℕ)). drop 1 l) e))

-- ---- entries and dumps

abbrev pub AreNamedApart : List DeviceLineData → Type 0
AreNamedApart ls = AllPairs (λ d e. d.name ≢ e.name) ls

-- a device is told by its name
same_place : (ls : List DeviceLineData) (at to : ℕ) (l m : DeviceLineData) → AreNamedApart ls → slice_get ls at ≡ Some l → slice_get ls to ≡ Some m → l.name ≡ m.name → at ≡ to
same_place ls at to l m pairs e f same = same_some at to (sym (its_number ls [] at l pairs e) ∙ ap (device_at (so_far ls [])) same ∙ its_number ls [] to m pairs f)

-- the device of an entry, its event, and the text of its answer
pub record Tells (ls : List DeviceLineData) (j f : Journaled) : Type 0 where
  pub device : j.entry.device ≡ f.entry.device
  pub event : j.entry.event ≡ f.entry.event
  pub line : DeviceLineData
  pub answer : answer_text line.settings.qfull j.entry.event j.entry.answer ≡ answer_text line.settings.qfull j.entry.event f.entry.answer

entry_told : (ls : List DeviceLineData) (j f : Journaled) → AreNamedApart ls → Every IsSpelledDevice ls → IsReadable ls (AnEntry j) → IsReadable ls (AnEntry f) → told ls j ≡ told ls f → Tells ls j f
entry_told ls j f pairs sp h k e =
    let found = get_within ls j.entry.device h.device in
    let found' = get_within ls f.entry.device k.device in
    let l = found.0 in
    let m = found'.0 in
    let same : told_event l.name l.settings.qfull j.entry.event j.entry.answer ≡ told_event m.name m.settings.qfull f.entry.event f.entry.answer = sym (told_is ls l j found.1) ∙ e ∙ told_is ls m f found'.1 in
    let both = event_told l.name m.name j.entry.event f.entry.event (answer_text l.settings.qfull j.entry.event j.entry.answer) (answer_text m.settings.qfull f.entry.event f.entry.answer)
    (every_at IsSpelledDevice ls j.entry.device l sp found.1).line.name (every_at IsSpelledDevice ls f.entry.device m sp found'.1).line.name h.asks h.value k.asks k.value same in
    let device_is : j.entry.device ≡ f.entry.device = same_place ls j.entry.device f.entry.device l m pairs found.1 found'.1 both.0 in
    let l_is : m ≡ l = same_some m l (sym found'.1 ∙ ap (slice_get ls) (sym device_is) ∙ found.1) in
    let aligned : told_event l.name l.settings.qfull j.entry.event j.entry.answer ≡ told_event l.name l.settings.qfull j.entry.event f.entry.answer =
    same ∙ ap (λ (x : DeviceLineData). told_event x.name x.settings.qfull f.entry.event f.entry.answer) l_is ∙ ap (λ (x : EventData). told_event l.name l.settings.qfull x f.entry.answer) (sym both.1) in
    record {
      device = device_is;
      event = both.1;
      line = l;
      answer = behind_same (event_text l.name j.entry.event ++ codes " # ") (answer_text l.settings.qfull j.entry.event j.entry.answer) (answer_text l.settings.qfull j.entry.event f.entry.answer) aligned;
    }

-- both tell the same
abbrev pub Tell : List DeviceLineData → Printed → Printed → Type 0
Tell ls (AnEntry j) (AnEntry f) = Tells ls j f
Tell ls (ADump at d) (ADump to e) = (at ≡ to) × (d ≡ e)
Tell ls (OutsideLine at text) (OutsideLine to other) = (at ≡ to) × (text ≡ other)
Tell ls (AnEntry j) (ADump to e) = ⊥
Tell ls (AnEntry j) (OutsideLine to other) = ⊥
Tell ls (ADump at d) (AnEntry f) = ⊥
Tell ls (ADump at d) (OutsideLine to other) = ⊥
Tell ls (OutsideLine at text) (AnEntry f) = ⊥
Tell ls (OutsideLine at text) (ADump to e) = ⊥

-- an event line begins no dump
no_dump : (ls : List DeviceLineData) (j : Journaled) (l : DeviceLineData) (d : DumpData) → IsReadable ls (AnEntry j) → told ls j ≡ first_of_dump l.name d → ⊥
no_dump ls j l d h e =
    let found = get_within ls j.entry.device h.device in
    let m = found.0 in
    apart begins_dump (told_event m.name m.settings.qfull j.entry.event j.entry.answer) (first_of_dump l.name d) (event_marks m.name m.settings.qfull j.entry.event j.entry.answer).dump refl (sym (told_is ls m j found.1) ∙ e)

-- an outside line is no event line, and begins no dump
no_event : (ls : List DeviceLineData) (j : Journaled) (text : List ℕ) (at : ℕ) → IsReadable ls (AnEntry j) → NamesItsDevice ls (OutsideLine at text) → told ls j ≡ text → ⊥
no_event ls j text at h names e =
    let found = get_within ls j.entry.device h.device in
    let m = found.0 in
    apart has_verb text (told_event m.name m.settings.qfull j.entry.event j.entry.answer) (outside_verb names.0.name text names.2) (event_marks m.name m.settings.qfull j.entry.event j.entry.answer).verb (sym e ∙ told_is ls m j found.1)

no_dump_line : (ls : List DeviceLineData) (l : DeviceLineData) (d : DumpData) (text : List ℕ) (at : ℕ) → NamesItsDevice ls (OutsideLine at text) → text ≡ first_of_dump l.name d → ⊥
unfolding verb_of
no_dump_line ls l d text at names e = apart has_verb text (first_of_dump l.name d) (outside_verb names.0.name text names.2) refl e

-- what is printed first tells the same, and so does the rest, which begins with no comment
one_told : (ls : List DeviceLineData) (p q : Printed) (xs ys : List (List ℕ)) → AreNamedApart ls → Every IsSpelledDevice ls → IsReadable ls p → IsReadable ls q → StartsOther is_comment xs → StartsOther is_comment ys
    → told_lines ls p ++ xs ≡ told_lines ls q ++ ys → Tell ls p q × (xs ≡ ys)
one_told ls (AnEntry j) (AnEntry f) xs ys pairs sp h k a b e = (entry_told ls j f pairs sp h k (ap (head_or []) e), ap (λ (l : List (List ℕ)). drop 1 l) e)
one_told ls (AnEntry j) (ADump to d) xs ys pairs sp h k a b e =
    let found = get_within ls to k.device in
    absurd (no_dump ls j found.0 d h (ap (head_or []) (e ∙ ap (λ (l : List (List ℕ)). l ++ ys) (dump_told_is ls found.0 to d found.1))))
one_told ls (ADump at d) (AnEntry f) xs ys pairs sp h k a b e =
    let found = get_within ls at h.device in
    absurd (no_dump ls f found.0 d k (ap (head_or []) (sym e ∙ ap (λ (l : List (List ℕ)). l ++ xs) (dump_told_is ls found.0 at d found.1))))
one_told ls (ADump at d) (ADump to c) xs ys pairs sp h k a b e =
    let found = get_within ls at h.device in
    let found' = get_within ls to k.device in
    let l = found.0 in
    let m = found'.0 in
    let same : dump_lines l.name d ++ xs ≡ dump_lines m.name c ++ ys =
    sym (ap (λ (t : List (List ℕ)). t ++ xs) (dump_told_is ls l at d found.1)) ∙ e ∙ ap (λ (t : List (List ℕ)). t ++ ys) (dump_told_is ls m to c found'.1) in
    let first : first_of_dump l.name d ≡ first_of_dump m.name c = ap (head_or []) same in
    let inner = fronts_told is_comment (inner_lines d) xs (inner_lines c) ys (inner_comments d) a (inner_comments c) b (ap (λ (t : List (List ℕ)). drop 1 t) same) in
    let lines : dump_lines l.name d ≡ dump_lines m.name c = ap (λ (t : List ℕ). t ∷ inner_lines d) first ∙ ap (λ (ts : List (List ℕ)). first_of_dump m.name c ∷ ts) inner.0 in
    let both = dump_lines_told l.name m.name d c (every_at IsSpelledDevice ls at l sp found.1).line.name (every_at IsSpelledDevice ls to m sp found'.1).line.name h.value k.value lines in
    ((same_place ls at to l m pairs found.1 found'.1 both.0, both.1), inner.1)
one_told ls (AnEntry j) (OutsideLine to other) xs ys pairs sp h k a b e = absurd (no_event ls j other to h k.outside (ap (head_or []) e))
one_told ls (OutsideLine at text) (AnEntry f) xs ys pairs sp h k a b e = absurd (no_event ls f text at k h.outside (sym (ap (head_or []) e)))
one_told ls (ADump at d) (OutsideLine to other) xs ys pairs sp h k a b e =
    let found = get_within ls at h.device in
    absurd (no_dump_line ls found.0 d other to k.outside (ap (head_or []) (sym e ∙ ap (λ (l : List (List ℕ)). l ++ xs) (dump_told_is ls found.0 at d found.1))))
one_told ls (OutsideLine at text) (ADump to c) xs ys pairs sp h k a b e =
    let found = get_within ls to k.device in
    absurd (no_dump_line ls found.0 c text at h.outside (ap (head_or []) (e ∙ ap (λ (l : List (List ℕ)). l ++ ys) (dump_told_is ls found.0 to c found.1))))
one_told ls (OutsideLine at text) (OutsideLine to other) xs ys pairs sp h k a b e =
    let l = h.outside.0 in
    let m = k.outside.0 in
    let same : text ≡ other = ap (head_or []) e in
    let named = outside_told l.name m.name other (every_at IsSpelledDevice ls at l sp h.outside.1).line.name (every_at IsSpelledDevice ls to m sp k.outside.1).line.name (subst (IsOutsideLine l.name) same h.outside.2) k.outside.2 in
    ((same_place ls at to l m pairs h.outside.1 k.outside.1 named, same), ap (λ (l : List (List ℕ)). drop 1 l) e)

-- ---- lists of them

-- its first line, which is no comment
record First (ls : List DeviceLineData) (p : Printed) : Type 0 where
  line : List ℕ
  others : List (List ℕ)
  is : told_lines ls p ≡ line ∷ others
  comment : is_comment line ≡ false

first_of_one : (ls : List DeviceLineData) (p : Printed) → device_of p < length ls → NamesItsDevice ls p → First ls p
first_of_one ls (OutsideLine at text) lt names = record { line = text; others = []; is = refl; comment = outside_comment names.0.name text names.2 }
first_of_one ls (AnEntry j) lt names =
    let found = get_within ls j.entry.device lt in
    let l = found.0 in
    record { line = told ls j; others = []; is = refl; comment = subst (λ (t : List ℕ). is_comment t ≡ false) (sym (told_is ls l j found.1)) (event_marks l.name l.settings.qfull j.entry.event j.entry.answer).comment }
first_of_one ls (ADump at d) lt names =
    let found = get_within ls at lt in
    record { line = first_of_dump found.0.name d; others = inner_lines d; is = dump_told_is ls found.0 at d found.1; comment = refl }

starts : (ls : List DeviceLineData) (ps : List Printed) → Every (IsReadable ls) ps → StartsOther is_comment (flat_map (told_lines ls) ps)
starts ls [] h = tt
starts ls (p ∷ ps) h =
    let first = first_of_one ls p h.0.device h.0.outside in
    subst (StartsOther is_comment) (sym (ap (λ (ts : List (List ℕ)). ts ++ flat_map (told_lines ls) ps) first.is)) first.comment

no_first : (ls : List DeviceLineData) (p : Printed) (ts : List (List ℕ)) → device_of p < length ls → NamesItsDevice ls p → told_lines ls p ++ ts ≡ [] → ⊥
no_first ls p ts lt names e = let first = first_of_one ls p lt names in some first.line (first.others ++ ts) (sym (ap (λ (us : List (List ℕ)). us ++ ts) first.is) ∙ e)
  where
    some : (u : List ℕ) (us : List (List ℕ)) → u ∷ us ≡ [] → ⊥
    some u us q = absurd (cc)

-- one after another, both tell the same
abbrev pub AllTell : List DeviceLineData → List Printed → List Printed → Type 0
AllTell ls [] [] = Unit {0}
AllTell ls [] (q ∷ qs) = ⊥
AllTell ls (p ∷ ps) [] = ⊥
AllTell ls (p ∷ ps) (q ∷ qs) = Tell ls p q × AllTell ls ps qs

pub lines_tell : (ls : List DeviceLineData) (ps qs : List Printed) → AreNamedApart ls → Every IsSpelledDevice ls → Every (IsReadable ls) ps → Every (IsReadable ls) qs
    → flat_map (told_lines ls) ps ≡ flat_map (told_lines ls) qs → AllTell ls ps qs
lines_tell ls [] [] pairs sp h k e = tt
lines_tell ls [] (q ∷ qs) pairs sp h k e = no_first ls q (flat_map (told_lines ls) qs) k.0.device k.0.outside (sym e)
lines_tell ls (p ∷ ps) [] pairs sp h k e = no_first ls p (flat_map (told_lines ls) ps) h.0.device h.0.outside e
lines_tell ls (p ∷ ps) (q ∷ qs) pairs sp h k e =
    let one = one_told ls p q (flat_map (told_lines ls) ps) (flat_map (told_lines ls) qs) pairs sp h.0 k.0 (starts ls ps h.1) (starts ls qs k.1) e in
    (one.0, lines_tell ls ps qs pairs sp h.1 k.1 one.1)
