-- What the line of an event tells: the name of its device, and the event with all its numbers and bytes.
use Rattle.std.proofs.Common.{◌≡◌, ℕ, true, List, [], ◌∷◌, ◌++◌, map, drop, Option, Some, None, Ok, Err, cond, refl, sym, ap, ◌∙◌, arith, codes, append_assoc}
use Rattle.std.specs.List.{flat_map}
use Rattle.std.specs.Option.{option_and_then}
use Rattle.std.specs.Str.{bytes_eq}
use Rattle.std.specs.Fmt.{decimal}
use Rattle.std.specs.Str.Parse.{digits_value}
use Rattle.std.proofs.lemmas.Bool.{cond-false}
use Rattle.std.proofs.lemmas.Fmt.{decimal_is_IsNumeral}
use Rattle.tcmu_types.specs.Naming.{is_name}
use Rattle.tcmu_types.specs.Data.{CommandData}
use Rattle.tcmu_types.specs.Events.{EventData}
use Rattle.tcmu_types.specs.Events as ev
use Rattle.text_model.specs.declared.words.Verb.{Verb}
use Rattle.text_model.specs.declared.words.Verb.TheVariants as verb
use Rattle.tcmu_types.specs.Hex.{bytes_of_hex, hex_byte}
use Rattle.tcmu_types.specs.Fields.{pieces, before_hash, fields_of}
use Rattle.text_model.specs.Lines.{PayloadField, payload_fields}
use Rattle.text_model.specs.Said.{payload_of}
use Rattle.text_model.specs.Words.{verb_of}
use Rattle.text_model.specs.Text.{spaced, numbers_text, serials_text, data_fields, event_text, command_text}
use Rattle.text_model.specs.Fields.{IsWord, AreWords}
use Rattle.tcmu_types.proofs.Readings.{same_some}
use Rattle.text_laws.specs.Values.{IsNumber, AreNumbers, IsEventValue}
use Rattle.text_laws.proofs.Apart.{head_or}
use Rattle.text_laws.proofs.Asks.{AsksCommand}
use Rattle.text_laws.proofs.Events.{data_words, payload_again}
use Rattle.text_laws.proofs.Fields.{name_word, number_word, hex_word, serials_word}
use Rattle.text_laws.proofs.Hex.{bytes_again}
use Rattle.text_laws.proofs.Lists.{EachLacks, pieces_again, number_lacks, not_none, joined, shown}
use Rattle.text_laws.proofs.Words.{before_again, fields_again}

-- ---- the fields of an event's line

abbrev word_of : EventData → List ℕ
word_of (ev.Submit c) = codes "submit"
word_of ev.Dispatch = codes "dispatch"
word_of (ev.Handle s) = codes "handle"
word_of (ev.Respond s) = codes "respond"
word_of ev.Publish = codes "publish"
word_of ev.Clean = codes "clean"
word_of ev.Enter = codes "enter"
word_of (ev.Tick n) = codes "tick"
word_of ev.Block = codes "block"
word_of ev.Unblock = codes "unblock"
word_of (ev.Reset n) = codes "reset"
word_of ev.Restart = codes "restart"
word_of (ev.Tmr k ss) = codes "tmr"
word_of ev.Stat = codes "stat"

-- those behind the name
abbrev fields_behind : EventData → List (List ℕ)
fields_behind (ev.Submit c) = c.init ∷ decimal c.tag ∷ flat_map hex_byte c.cdb ∷ data_fields c
fields_behind (ev.Handle s) = decimal s ∷ []
fields_behind (ev.Respond s) = decimal s ∷ []
fields_behind (ev.Tick n) = decimal n ∷ []
fields_behind (ev.Reset n) = decimal n ∷ []
fields_behind (ev.Tmr k ss) = decimal k ∷ serials_text ss ∷ []
fields_behind _ = []

spaced_event : (name : List ℕ) (e : EventData) → event_text name e ≡ spaced (word_of e) (name ∷ fields_behind e)
unfolding event_text command_text
spaced_event name (ev.Submit c) = refl
spaced_event name ev.Dispatch = refl
spaced_event name (ev.Handle s) = refl
spaced_event name (ev.Respond s) = refl
spaced_event name ev.Publish = refl
spaced_event name ev.Clean = refl
spaced_event name ev.Enter = refl
spaced_event name (ev.Tick n) = refl
spaced_event name ev.Block = refl
spaced_event name ev.Unblock = refl
spaced_event name (ev.Reset n) = refl
spaced_event name ev.Restart = refl
spaced_event name (ev.Tmr k ss) = refl
spaced_event name ev.Stat = refl

word_is : (e : EventData) → IsWord (word_of e)
word_is (ev.Submit c) = record { some = omega arith; bytes = refl }
word_is ev.Dispatch = record { some = omega arith; bytes = refl }
word_is (ev.Handle s) = record { some = omega arith; bytes = refl }
word_is (ev.Respond s) = record { some = omega arith; bytes = refl }
word_is ev.Publish = record { some = omega arith; bytes = refl }
word_is ev.Clean = record { some = omega arith; bytes = refl }
word_is ev.Enter = record { some = omega arith; bytes = refl }
word_is (ev.Tick n) = record { some = omega arith; bytes = refl }
word_is ev.Block = record { some = omega arith; bytes = refl }
word_is ev.Unblock = record { some = omega arith; bytes = refl }
word_is (ev.Reset n) = record { some = omega arith; bytes = refl }
word_is ev.Restart = record { some = omega arith; bytes = refl }
word_is (ev.Tmr k ss) = record { some = omega arith; bytes = refl }
word_is ev.Stat = record { some = omega arith; bytes = refl }

words_behind : (e : EventData) → AsksCommand e → IsEventValue e → AreWords (fields_behind e)
words_behind (ev.Submit c) is h = (name_word c.init is.init, (number_word c.tag (omega (arith, h.tag)), (hex_word c.cdb h.cdb is.cdb.some, data_words c is h)))
words_behind ev.Dispatch is h = tt
words_behind (ev.Handle s) is h = (number_word s h, tt)
words_behind (ev.Respond s) is h = (number_word s h, tt)
words_behind ev.Publish is h = tt
words_behind ev.Clean is h = tt
words_behind ev.Enter is h = tt
words_behind (ev.Tick n) is h = (number_word n h, tt)
words_behind ev.Block is h = tt
words_behind ev.Unblock is h = tt
words_behind (ev.Reset n) is h = (number_word n h, tt)
words_behind ev.Restart is h = tt
words_behind (ev.Tmr k ss) is h = (number_word k h.0, (serials_word ss h.1, tt))
words_behind ev.Stat is h = tt

-- a line begins with its fields
fields_told : (name : List ℕ) (e : EventData) (rest : List ℕ) → is_name name ≡ true → AsksCommand e → IsEventValue e → fields_of (before_hash (event_text name e ++ codes " # " ++ rest)) ≡ word_of e ∷ name ∷ fields_behind e
fields_told name e rest n is h =
    let words : AreWords (name ∷ fields_behind e) = (name_word name n, words_behind e is h) in
    ap (λ (t : List ℕ). fields_of (before_hash (t ++ codes " # " ++ rest))) (spaced_event name e)
    ∙ ap (λ (t : List ℕ). fields_of (before_hash t)) (append_assoc (spaced (word_of e) (name ∷ fields_behind e)) (codes " # ") rest)
    ∙ ap fields_of (before_again (word_of e) (name ∷ fields_behind e) (32 ∷ rest) (word_is e) words)
    ∙ fields_again (word_of e) (name ∷ fields_behind e) (word_is e) words

-- ---- the event of its fields, whatever its numbers are

abbrev number_in : List (List ℕ) → ℕ
number_in fs = digits_value 10 (head_or [] fs)

abbrev numbers_in : List ℕ → List ℕ
numbers_in text = cond (bytes_eq text (codes "none")) [] (map (digits_value 10) (pieces 44 text))

abbrev command_in : List (List ℕ) → Option EventData
command_in (init ∷ tag ∷ cdb ∷ more) =
    option_and_then
    (λ (p : PayloadField). option_and_then (λ (bytes : List ℕ). elim (payload_of p) [ Ok x ↦ Some (ev.Submit (record { init = init; tag = digits_value 10 tag; cdb = bytes; sent = x.0; in_len = x.1 })) | Err f ↦ None ]) (bytes_of_hex cdb))
    (payload_fields more)
command_in _ = None

abbrev event_by : List (List ℕ) → Verb → Option EventData
event_by fs verb.Submit = command_in fs
event_by fs verb.Dispatch = Some ev.Dispatch
event_by fs verb.Handle = Some (ev.Handle (number_in fs))
event_by fs verb.Respond = Some (ev.Respond (number_in fs))
event_by fs verb.Publish = Some ev.Publish
event_by fs verb.Clean = Some ev.Clean
event_by fs verb.Enter = Some ev.Enter
event_by fs verb.Tick = Some (ev.Tick (number_in fs))
event_by fs verb.Block = Some ev.Block
event_by fs verb.Unblock = Some ev.Unblock
event_by fs verb.Reset = Some (ev.Reset (number_in fs))
event_by fs verb.Restart = Some ev.Restart
event_by fs verb.Tmr = Some (ev.Tmr (number_in fs) (numbers_in (head_or [] (drop 1 fs))))
event_by fs verb.Stat = Some ev.Stat
event_by fs _ = None

abbrev event_in : List (List ℕ) → Option EventData
event_in fs = option_and_then (event_by (drop 2 fs)) (verb_of (head_or [] fs))

number_back : (n : ℕ) → IsNumber n → digits_value 10 (decimal n) ≡ n
number_back n lt = (decimal_is_IsNumeral n lt).1

each_back : (ns : List ℕ) → AreNumbers ns → map (digits_value 10) (map decimal ns) ≡ ns
each_back [] h = refl
each_back (n ∷ ns) h = ap (λ (x : ℕ). x ∷ map (digits_value 10) (map decimal ns)) (number_back n h.0) ∙ ap (λ (xs : List ℕ). n ∷ xs) (each_back ns h.1)

each_lacks : (ns : List ℕ) → AreNumbers ns → EachLacks 44 (map decimal ns)
each_lacks [] h = tt
each_lacks (n ∷ ns) h = (number_lacks 44 n (omega arith) h.0, each_lacks ns h.1)

listed_back : (n : ℕ) (ns : List ℕ) → AreNumbers (n ∷ ns) → numbers_in (numbers_text 44 (n ∷ ns)) ≡ n ∷ ns
unfolding numbers_text
listed_back n ns h =
    let j = joined 44 n ns in
    let lack = each_lacks (n ∷ ns) h in
    cond-false _ _ _ (ap (λ t. bytes_eq t (codes "none")) j.1 ∙ not_none n j.0 h.0)
    ∙ ap (map (digits_value 10)) (pieces_again 44 (decimal n) (map decimal ns) lack.0 lack.1) ∙ each_back (n ∷ ns) h

serials_back : (ns : List ℕ) → AreNumbers ns → numbers_in (serials_text ns) ≡ ns
unfolding serials_text
serials_back [] h = refl
serials_back (n ∷ ns) h = ap numbers_in (shown n ns) ∙ listed_back n ns h

command_back : (c : CommandData) → AsksCommand (ev.Submit c) → IsEventValue (ev.Submit c) → command_in (fields_behind (ev.Submit c)) ≡ Some (ev.Submit c)
command_back c is h =
    let p = payload_again c is h in
    rw (p.field, bytes_again c.cdb h.cdb, p.says, number_back c.tag (omega (arith, h.tag))) refl

event_back : (name : List ℕ) (e : EventData) → AsksCommand e → IsEventValue e → event_in (word_of e ∷ name ∷ fields_behind e) ≡ Some e
unfolding verb_of
event_back name (ev.Submit c) is h = command_back c is h
event_back name ev.Dispatch is h = refl
event_back name (ev.Handle s) is h = ap (λ (n : ℕ). Some (ev.Handle n)) (number_back s h)
event_back name (ev.Respond s) is h = ap (λ (n : ℕ). Some (ev.Respond n)) (number_back s h)
event_back name ev.Publish is h = refl
event_back name ev.Clean is h = refl
event_back name ev.Enter is h = refl
event_back name (ev.Tick k) is h = ap (λ (n : ℕ). Some (ev.Tick n)) (number_back k h)
event_back name ev.Block is h = refl
event_back name ev.Unblock is h = refl
event_back name (ev.Reset k) is h = ap (λ (n : ℕ). Some (ev.Reset n)) (number_back k h)
event_back name ev.Restart is h = refl
event_back name (ev.Tmr k ss) is h = ap (λ (n : ℕ). Some (ev.Tmr n (numbers_in (serials_text ss)))) (number_back k h.0) ∙ ap (λ (ns : List ℕ). Some (ev.Tmr k ns)) (serials_back ss h.1)
event_back name ev.Stat is h = refl

-- ---- lines of events that are the same

pub event_told : (name other : List ℕ) (e f : EventData) (x y : List ℕ) → is_name name ≡ true → is_name other ≡ true → AsksCommand e → IsEventValue e → AsksCommand f → IsEventValue f
    → event_text name e ++ codes " # " ++ x ≡ event_text other f ++ codes " # " ++ y → (name ≡ other) × (e ≡ f)
event_told name other e f x y n m is h it k q =
    let same : word_of e ∷ name ∷ fields_behind e ≡ word_of f ∷ other ∷ fields_behind f =
    sym (fields_told name e x n is h) ∙ ap (λ (t : List ℕ). fields_of (before_hash t)) q ∙ fields_told other f y m it k in (
      ap (λ (l : List (List ℕ)). head_or [] (drop 1 l)) same,
      same_some e f (sym (event_back name e is h) ∙ ap event_in same ∙ event_back other f it k),
    )
