-- The lines of a text that tell something: the device lines, the event lines, and the lines of dumps.
use Rattle.std.proofs.Common.{◌≡◌, ℕ, ◌<◌, Bool, true, false, cond, ◌&&◌, ◌||◌, not, nat_eq, List, [], ◌∷◌, ◌++◌, length, map, take, get_or, slice_get, Option, Some, None, refl, sym, ap, ◌∙◌, subst, codes, append_assoc}
use Rattle.std.specs.List.{filter, flat_map}
use Rattle.std.specs.Str.{bytes_eq}
use Rattle.std.specs.Fmt.{decimal}
use Rattle.std.proofs.lemmas.List.Elements.{filter-append}
use Rattle.tcmu_types.specs.Naming.{is_name}
use Rattle.tcmu_types.specs.Data.{DoneData}
use Rattle.tcmu_types.specs.Dumps.{ItemData, HeldData, DumpData}
use Rattle.tcmu_types.specs.Events.{EventData, AnswerData}
use Rattle.tcmu_types.specs.Events as ev
use Rattle.tcmu_model.specs.Device.{Device}
use Rattle.tcmu_types.specs.Fields.{pieces}
use Rattle.tcmu_model.specs.Sound.{open_count}
use Rattle.text_model.specs.ScenarioData.{DeviceLineData}
use Rattle.text_model.specs.Several.{ends_text}
use Rattle.tcmu_types.specs.Lists.{Every}
use Rattle.text_model.specs.Text.{spaced, line, device_spelling, device_text, event_text, command_text, completion_text, event_line, entry_text, end_text, dump_text}
use Rattle.text_model.specs.Journals.{Journaled, journaled_text}
use Rattle.text_model.specs.Printed.{Printed, AnEntry, ADump, OutsideLine, device_of, printed_text, IsOutsideLine, NamesItsDevice}
use Rattle.text_model.specs.Words.{verb_of}
use Rattle.tcmu_types.proofs.Everies.{every-append, filter_all, every_at}
use Rattle.tcmu_types.proofs.Places.{get_within}
use Rattle.text_laws.specs.Devices.{IsSpelledDevice}
use Rattle.text_laws.specs.Printed.{IsValue}
use Rattle.text_laws.specs.Values.{IsEventValue}
use Rattle.text_laws.proofs.Asks.{AsksCommand}
use Rattle.text_laws.proofs.Dumped.{item_line, held_line, box_line, dump_lines, dump_cut}
use Rattle.text_laws.proofs.OutsideLines.{first_word, has_verb, begins_outside, no_such_word, outside_line}
use Rattle.text_laws.proofs.Reading.{first_line}
use Rattle.text_laws.proofs.Unbroken.{Unbroken}
use Rattle.text_laws.proofs.WholeLines.{Named, done_fields, done_line, end_line, told_event, told_line, told_device, device_told_line}

-- ---- the lines that pass a test

-- completions and end lines begin with `# done` and `# open`; the lines of a dump with `# box`, `# item` and `# held`
abbrev is_ended : ℕ → Bool
is_ended mark = nat_eq mark 100 || nat_eq mark 111

-- a line that is neither empty nor a completion nor an end line
abbrev pub is_telling : List ℕ → Bool
is_telling [] = false
is_telling (x ∷ xs) = not (nat_eq x 35 && is_ended (get_or xs 1 0))

-- the lines of this text that are so
abbrev Speaks : List ℕ → List (List ℕ) → Type 0
Speaks text ts = (rest : List ℕ) → filter is_telling (pieces 10 (text ++ rest)) ≡ ts ++ filter is_telling (pieces 10 rest)

spoken_line : (t : List ℕ) → Unbroken t → is_telling t ≡ true → Speaks (line t) (t ∷ [])
spoken_line t h e = λ rest. ap (filter is_telling) (first_line t rest h) ∙ ap (λ b. cond b (t ∷ filter is_telling (pieces 10 rest)) (filter is_telling (pieces 10 rest))) e

quiet_line : (t : List ℕ) → Unbroken t → is_telling t ≡ false → Speaks (line t) []
quiet_line t h e = λ rest. ap (filter is_telling) (first_line t rest h) ∙ ap (λ b. cond b (t ∷ filter is_telling (pieces 10 rest)) (filter is_telling (pieces 10 rest))) e

both_speak : (a b : List ℕ) (xs ys : List (List ℕ)) → Speaks a xs → Speaks b ys → Speaks (a ++ b) (xs ++ ys)
both_speak a b xs ys h k = λ rest.
    ap (λ text. filter is_telling (pieces 10 text)) (append_assoc a b rest) ∙ h (b ++ rest) ∙ ap (λ (l : List (List ℕ)). xs ++ l) (k rest)
    ∙ sym (append_assoc xs ys (filter is_telling (pieces 10 rest)))

nothing_speaks : Speaks [] []
nothing_speaks = λ rest. refl

-- ---- device lines, completions and end lines

spoken_devices : (ls : List DeviceLineData) → Every IsSpelledDevice ls → Speaks (flat_map device_text ls) (map told_device ls)
unfolding device_text device_spelling
spoken_devices [] h = nothing_speaks
spoken_devices (l ∷ ls) h = both_speak (device_text l) (flat_map device_text ls) (told_device l ∷ []) (map told_device ls) (spoken_line (told_device l) (device_told_line l h.0) refl) (spoken_devices ls h.1)

quiet_dones : (name : List ℕ) (cs : List DoneData) → is_name name ≡ true → Every Named cs → Speaks (flat_map (completion_text name) cs) []
unfolding completion_text
quiet_dones name [] n h = nothing_speaks
quiet_dones name (c ∷ cs) n h =
    both_speak (completion_text name c) (flat_map (completion_text name) cs) [] [] (quiet_line (spaced (codes "# done") (done_fields name c)) (done_line name c n h.0) refl) (quiet_dones name cs n h.1)

quiet_end : (name : List ℕ) (k : ℕ) → is_name name ≡ true → Speaks (end_text name k) []
unfolding end_text
quiet_end name k n = quiet_line (spaced (codes "# open") (name ∷ decimal k ∷ [])) (end_line name k n) refl

quiet_ends : (ls : List DeviceLineData) (ends : List Device) → Every IsSpelledDevice ls → Speaks (ends_text ls ends) []
quiet_ends [] ends h = nothing_speaks
quiet_ends (l ∷ ls) [] h = nothing_speaks
quiet_ends (l ∷ ls) (d ∷ ends) h = both_speak (end_text l.name (open_count d.state)) (ends_text ls ends) [] [] (quiet_end l.name (open_count d.state) h.0.line.name) (quiet_ends ls ends h.1)

-- ---- what tells lines apart

abbrev pub is_comment : List ℕ → Bool
is_comment t = nat_eq (get_or t 0 0) 35

abbrev pub is_device_line : List ℕ → Bool
is_device_line t = bytes_eq (first_word t) (codes "device")

abbrev pub begins_dump : List ℕ → Bool
begins_dump t = bytes_eq (take 2 t) (codes "du")

pub device_marked : (l : DeviceLineData) → is_device_line (told_device l) ≡ true
unfolding device_spelling
device_marked l = refl

-- a line that tells an event
pub record IsEventLine (t : List ℕ) : Type 0 where
  pub telling : is_telling t ≡ true
  pub device : is_device_line t ≡ false
  pub dump : begins_dump t ≡ false
  pub comment : is_comment t ≡ false
  pub verb : has_verb t ≡ true

pub event_marks : (name : List ℕ) (qfull : ℕ) (e : EventData) (a : AnswerData) → IsEventLine (told_event name qfull e a)
unfolding event_text command_text verb_of
event_marks name qfull (ev.Submit c) a = record { telling = refl; device = refl; dump = refl; comment = refl; verb = refl }
event_marks name qfull ev.Dispatch a = record { telling = refl; device = refl; dump = refl; comment = refl; verb = refl }
event_marks name qfull (ev.Handle s) a = record { telling = refl; device = refl; dump = refl; comment = refl; verb = refl }
event_marks name qfull (ev.Respond s) a = record { telling = refl; device = refl; dump = refl; comment = refl; verb = refl }
event_marks name qfull ev.Publish a = record { telling = refl; device = refl; dump = refl; comment = refl; verb = refl }
event_marks name qfull ev.Clean a = record { telling = refl; device = refl; dump = refl; comment = refl; verb = refl }
event_marks name qfull ev.Enter a = record { telling = refl; device = refl; dump = refl; comment = refl; verb = refl }
event_marks name qfull (ev.Tick k) a = record { telling = refl; device = refl; dump = refl; comment = refl; verb = refl }
event_marks name qfull ev.Block a = record { telling = refl; device = refl; dump = refl; comment = refl; verb = refl }
event_marks name qfull ev.Unblock a = record { telling = refl; device = refl; dump = refl; comment = refl; verb = refl }
event_marks name qfull (ev.Reset k) a = record { telling = refl; device = refl; dump = refl; comment = refl; verb = refl }
event_marks name qfull ev.Restart a = record { telling = refl; device = refl; dump = refl; comment = refl; verb = refl }
event_marks name qfull (ev.Tmr k ss) a = record { telling = refl; device = refl; dump = refl; comment = refl; verb = refl }
event_marks name qfull ev.Stat a = record { telling = refl; device = refl; dump = refl; comment = refl; verb = refl }

-- ---- dumps

-- the lines of a dump behind its first
abbrev pub inner_lines : DumpData → List (List ℕ)
inner_lines d = box_line d ∷ (map item_line d.items ++ map held_line d.held)

-- what holds of each line of a dump behind its first
every_inner : (p : List ℕ → Bool) (b : Bool) (d : DumpData) → ((text : List ℕ) → p (codes "# box " ++ text) ≡ b) → ((text : List ℕ) → p (codes "# item" ++ text) ≡ b) → ((text : List ℕ) → p (codes "# held" ++ text) ≡ b)
    → Every (λ t. p t ≡ b) (inner_lines d)
every_inner p b d box item held = (box _, every-append (λ t. p t ≡ b) (map item_line d.items) (map held_line d.held) (items d.items) (helds d.held))
  where
    items : (is : List ItemData) → Every (λ t. p t ≡ b) (map item_line is)
    items [] = tt
    items (i ∷ is) = (item _, items is)

    helds : (hs : List HeldData) → Every (λ t. p t ≡ b) (map held_line hs)
    helds [] = tt
    helds (h ∷ hs) = (held _, helds hs)

pub inner_comments : (d : DumpData) → Every (λ t. is_comment t ≡ true) (inner_lines d)
inner_comments d = every_inner is_comment true d (λ t. refl) (λ t. refl) (λ t. refl)

dump_telling : (name : List ℕ) (d : DumpData) → Every (λ t. is_telling t ≡ true) (dump_lines name d)
dump_telling name d = (refl, every_inner is_telling true d (λ t. refl) (λ t. refl) (λ t. refl))

dump_no_device : (name : List ℕ) (d : DumpData) → Every (λ t. is_device_line t ≡ false) (dump_lines name d)
dump_no_device name d = (refl, every_inner is_device_line false d (λ t. refl) (λ t. refl) (λ t. refl))

dump_speaks : (name : List ℕ) (d : DumpData) → is_name name ≡ true → Speaks (dump_text name d) (dump_lines name d)
dump_speaks name d n = λ rest.
    ap (filter is_telling) (dump_cut name d n rest) ∙ filter-append is_telling (dump_lines name d) (pieces 10 rest)
    ∙ ap (λ (l : List (List ℕ)). l ++ filter is_telling (pieces 10 rest)) (filter_all is_telling (dump_lines name d) (dump_telling name d))

-- ---- entries and dumps

-- the line of an entry's event, under the name of its device
abbrev pub told : List DeviceLineData → Journaled → List ℕ
told ls j = elim (slice_get ls j.entry.device) [ Some l ↦ told_event l.name l.settings.qfull j.entry.event j.entry.answer | None ↦ [] ]

pub told_is : (ls : List DeviceLineData) (l : DeviceLineData) (j : Journaled) → slice_get ls j.entry.device ≡ Some l → told ls j ≡ told_event l.name l.settings.qfull j.entry.event j.entry.answer
told_is ls l j e = ap (λ o. elim o [ Some m ↦ told_event m.name m.settings.qfull j.entry.event j.entry.answer | None ↦ [] ]) e

entry_speaks : (l : DeviceLineData) (j : Journaled) → IsSpelledDevice l → AsksCommand j.entry.event → IsEventValue j.entry.event → Every Named j.completions
    → Speaks (entry_text l.name l.settings.qfull j.entry j.completions) (told_event l.name l.settings.qfull j.entry.event j.entry.answer ∷ [])
unfolding entry_text event_line
entry_speaks l j sp is h named =
    let e = j.entry in
    let t = told_event l.name l.settings.qfull e.event e.answer in
    both_speak (line t) (flat_map (completion_text l.name) j.completions) (t ∷ []) []
    (spoken_line t (told_line l.name l.settings.qfull e.event e.answer sp.line.name is h) (event_marks l.name l.settings.qfull e.event e.answer).telling) (quiet_dones l.name j.completions sp.line.name named)

-- the lines of what is printed that tell something
abbrev pub told_lines : List DeviceLineData → Printed → List (List ℕ)
told_lines ls (AnEntry j) = told ls j ∷ []
told_lines ls (ADump at dump) = elim (slice_get ls at) [ Some l ↦ dump_lines l.name dump | None ↦ [] ]
told_lines ls (OutsideLine at text) = text ∷ []

pub dump_told_is : (ls : List DeviceLineData) (l : DeviceLineData) (at : ℕ) (d : DumpData) → slice_get ls at ≡ Some l → told_lines ls (ADump at d) ≡ dump_lines l.name d
dump_told_is ls l at d e = ap (λ o. elim o [ Some m ↦ dump_lines m.name d | None ↦ [] ]) e

-- the command of a submit is one
abbrev pub Asks : Printed → Type 0
Asks (AnEntry j) = AsksCommand j.entry.event
Asks (ADump at dump) = Unit {0}
Asks (OutsideLine at text) = Unit {0}

-- the initiators of its completions are names
abbrev pub IsNamed : Printed → Type 0
IsNamed (AnEntry j) = Every Named j.completions
IsNamed (ADump at dump) = Unit {0}
IsNamed (OutsideLine at text) = Unit {0}

-- it is of one of these devices, and can be read
pub record IsReadable (ls : List DeviceLineData) (p : Printed) : Type 0 where
  pub device : device_of p < length ls
  pub outside : NamesItsDevice ls p
  pub asks : Asks p
  pub value : IsValue p
  pub named : IsNamed p

outside_telling : (name text : List ℕ) → IsOutsideLine name text → is_telling text ≡ true
outside_telling name text h =
    let begins = begins_outside name text h in
    ap is_telling begins.is ∙ ap (λ (b : Bool). not (b && is_ended (get_or begins.rest 1 0))) begins.comment

pub outside_comment : (name text : List ℕ) → IsOutsideLine name text → is_comment text ≡ false
outside_comment name text h = let begins = begins_outside name text h in ap is_comment begins.is ∙ begins.comment

one_speaks : (ls : List DeviceLineData) (p : Printed) → Every IsSpelledDevice ls → IsReadable ls p → Speaks (printed_text ls p) (told_lines ls p)
one_speaks ls (AnEntry j) sp h =
    let found = get_within ls j.entry.device h.device in
    let l = found.0 in
    let one = entry_speaks l j (every_at IsSpelledDevice ls j.entry.device l sp found.1) h.asks h.value h.named in
    let text_is : journaled_text ls j ≡ entry_text l.name l.settings.qfull j.entry j.completions = ap (λ o. elim o [ Some m ↦ entry_text m.name m.settings.qfull j.entry j.completions | None ↦ [] ]) found.1 in
    subst (λ (text : List ℕ). Speaks text (told ls j ∷ [])) (sym text_is) (subst (λ (t : List ℕ). Speaks (entry_text l.name l.settings.qfull j.entry j.completions) (t ∷ [])) (sym (told_is ls l j found.1)) one)
one_speaks ls (ADump at d) sp h =
    let found = get_within ls at h.device in
    let l = found.0 in
    let text_is : printed_text ls (ADump at d) ≡ dump_text l.name d = ap (λ o. elim o [ Some m ↦ dump_text m.name d | None ↦ [] ]) found.1 in
    subst (λ (text : List ℕ). Speaks text (told_lines ls (ADump at d))) (sym text_is)
    (subst (λ (ts : List (List ℕ)). Speaks (dump_text l.name d) ts) (sym (dump_told_is ls l at d found.1)) (dump_speaks l.name d (every_at IsSpelledDevice ls at l sp found.1).line.name))
one_speaks ls (OutsideLine at text) sp h =
    let l = h.outside.0 in
    spoken_line text (outside_line l.name text (every_at IsSpelledDevice ls at l sp h.outside.1).line.name h.outside.2) (outside_telling l.name text h.outside.2)

spoken_list : (ls : List DeviceLineData) (ps : List Printed) → Every IsSpelledDevice ls → Every (IsReadable ls) ps → Speaks (flat_map (printed_text ls) ps) (flat_map (told_lines ls) ps)
spoken_list ls [] sp h = nothing_speaks
spoken_list ls (p ∷ ps) sp h = both_speak (printed_text ls p) (flat_map (printed_text ls) ps) (told_lines ls p) (flat_map (told_lines ls) ps) (one_speaks ls p sp h.0) (spoken_list ls ps sp h.1)

pub spoken_whole : (ls : List DeviceLineData) (ps : List Printed) (ends : List Device) → Every IsSpelledDevice ls → Every (IsReadable ls) ps
    → filter is_telling (pieces 10 ((flat_map device_text ls ++ flat_map (printed_text ls) ps ++ ends_text ls ends) ++ [])) ≡ ((map told_device ls ++ flat_map (told_lines ls) ps) ++ []) ++ []
spoken_whole ls ps ends sp h =
    both_speak (flat_map device_text ls ++ flat_map (printed_text ls) ps) (ends_text ls ends) (map told_device ls ++ flat_map (told_lines ls) ps) []
    (both_speak (flat_map device_text ls) (flat_map (printed_text ls) ps) (map told_device ls) (flat_map (told_lines ls) ps) (spoken_devices ls sp) (spoken_list ls ps sp h)) (quiet_ends ls ends sp) []

-- ---- none of them is a device line

pub device_lines : (ls : List DeviceLineData) → Every (λ t. is_device_line t ≡ true) (map told_device ls)
device_lines [] = tt
device_lines (l ∷ ls) = (device_marked l, device_lines ls)

one_no_device : (ls : List DeviceLineData) (p : Printed) → NamesItsDevice ls p → Every (λ t. is_device_line t ≡ false) (told_lines ls p)
unfolding verb_of
one_no_device ls (OutsideLine at text) names = (no_such_word names.0.name text (codes "device") refl names.2, tt)
one_no_device ls (AnEntry j) names = (go (slice_get ls j.entry.device), tt)
  where
    go : (o : Option DeviceLineData) → is_device_line (elim o [ Some l ↦ told_event l.name l.settings.qfull j.entry.event j.entry.answer | None ↦ [] ]) ≡ false
    go None = refl
    go (Some l) = (event_marks l.name l.settings.qfull j.entry.event j.entry.answer).device
one_no_device ls (ADump at d) names = go (slice_get ls at)
  where
    go : (o : Option DeviceLineData) → Every (λ t. is_device_line t ≡ false) (elim o [ Some l ↦ dump_lines l.name d | None ↦ [] ])
    go None = tt
    go (Some l) = dump_no_device l.name d

pub no_device_lines : (ls : List DeviceLineData) (ps : List Printed) → Every (NamesItsDevice ls) ps → Every (λ t. is_device_line t ≡ false) (flat_map (told_lines ls) ps)
no_device_lines ls [] names = tt
no_device_lines ls (p ∷ ps) names = every-append (λ t. is_device_line t ≡ false) (told_lines ls p) (flat_map (told_lines ls) ps) (one_no_device ls p names.0) (no_device_lines ls ps names.1)
