-- The lines of events are read again.
use Rattle.std.proofs.Common.{◌≡◌, ℕ, ◌<◌, ◌≤◌, Bool, true, false, cond, nat_eq, List, [], ◌∷◌, ◌++◌, length, Some, Ok, Err, refl, sym, ap, ◌∙◌, arith, codes}
use Rattle.std.specs.List.{list_all, flat_map}
use Rattle.std.specs.Option.{option_map, ok_or}
use Rattle.std.specs.Fmt.{decimal}
use Rattle.std.proofs.lemmas.Bool.{and_from, cond-true, eqb-true}
use Rattle.std.proofs.lemmas.List.{nil_from_length}
use Rattle.tcmu_types.specs.Naming.{is_name}
use Rattle.tcmu_types.specs.Rules.{IsCommand, is_directed, takes_payload}
use Rattle.tcmu_types.specs.Data.{CommandData}
use Rattle.tcmu_types.specs.Events.{EventData}
use Rattle.tcmu_types.specs.Events as ev
use Rattle.text_model.specs.declared.faults.Why.TheVariants as why
use Rattle.text_model.specs.Fields.{name_of, IsWord, AreWords}
use Rattle.tcmu_types.specs.Fields.{only_if, is_allowed, fields_of}
use Rattle.text_model.specs.Words.{verb_of}
use Rattle.text_model.specs.Lines.{submit_fields, PayloadField, NoPayload, InBytes, OutRuns, payload_fields}
use Rattle.text_model.specs.ScenarioData.{ScenarioData, LineWhat}
use Rattle.text_model.specs.ScenarioRules.{IsNote}
use Rattle.text_model.specs.Said.{SaysLine, device_at, said_by, plain_line, number_at, tmr_line, submit_line, payload_of}
use Rattle.text_model.specs.Scenario.{with_said, with_fields, with_text}
use Rattle.text_model.specs.Text.{spaced, event_text, command_text, data_fields, serials_text, runs_text}
use Rattle.text_model.specs.declared.limits.Limits.{Limits}
use Rattle.text_model.specs.Replay.{made}
use Rattle.tcmu_types.specs.Hex.{hex_byte}
use Rattle.text_laws.specs.Lines.{IsCarried, EventsAgain}
use Rattle.text_laws.proofs.Numbers.{number_again}
use Rattle.text_laws.proofs.Hex.{cdb_again}
use Rattle.text_laws.proofs.Lists.{serials_again, rising_numbers}
use Rattle.text_laws.proofs.Runs.{runs_again}
use Rattle.text_laws.proofs.Words.{before_again, fields_again, all_allowed}
use Rattle.text_laws.proofs.Fields.{name_word, number_word, words_join, hex_word, serials_word, runs_fit}

pub line_again : (limits : Limits) (s : ScenarioData) (w : List ℕ) (fs : List (List ℕ)) (rest : List ℕ) → IsWord w → AreWords fs → with_text limits s (spaced w fs ++ 32 ∷ 35 ∷ rest) ≡ with_fields limits s (w ∷ fs)
unfolding with_text
line_again limits s w fs rest h t =
    ap (λ l. cond (list_all is_allowed l) (with_fields limits s (fields_of l)) (Err why.Byte)) (before_again w fs rest h t)
    ∙ cond-true _ _ _ (all_allowed w fs h t) ∙ ap (with_fields limits s) (fields_again w fs h t)

-- ---- lines of a name alone

plain_said : (s : ScenarioData) (at : ℕ) (name : List ℕ) (what : LineWhat) → device_at s name ≡ Some at → plain_line s what (name ∷ []) ≡ Ok (SaysLine (record { device = at; what = what }))
unfolding plain_line
plain_said s at name what d = rw d refl

abbrev Again : Limits → ScenarioData → ℕ → List ℕ → EventData → List ℕ → Type 0
Again limits s at name e answer = with_text limits s (event_text name e ++ (codes " # " ++ answer)) ≡ with_said limits s (SaysLine (made at e))

dispatch_again : (limits : Limits) (s : ScenarioData) (at : ℕ) (name answer : List ℕ) → device_at s name ≡ Some at → is_name name ≡ true → Again limits s at name ev.Dispatch answer
unfolding event_text with_fields verb_of said_by plain_line
dispatch_again limits s at name answer d n = line_again limits s (codes "dispatch") (name ∷ []) (32 ∷ answer) (record { some = omega arith; bytes = refl }) (name_word name n, tt) ∙ rw d refl

publish_again : (limits : Limits) (s : ScenarioData) (at : ℕ) (name answer : List ℕ) → device_at s name ≡ Some at → is_name name ≡ true → Again limits s at name ev.Publish answer
unfolding event_text with_fields verb_of said_by plain_line
publish_again limits s at name answer d n = line_again limits s (codes "publish") (name ∷ []) (32 ∷ answer) (record { some = omega arith; bytes = refl }) (name_word name n, tt) ∙ rw d refl

clean_again : (limits : Limits) (s : ScenarioData) (at : ℕ) (name answer : List ℕ) → device_at s name ≡ Some at → is_name name ≡ true → Again limits s at name ev.Clean answer
unfolding event_text with_fields verb_of said_by plain_line
clean_again limits s at name answer d n = line_again limits s (codes "clean") (name ∷ []) (32 ∷ answer) (record { some = omega arith; bytes = refl }) (name_word name n, tt) ∙ rw d refl

enter_again : (limits : Limits) (s : ScenarioData) (at : ℕ) (name answer : List ℕ) → device_at s name ≡ Some at → is_name name ≡ true → Again limits s at name ev.Enter answer
unfolding event_text with_fields verb_of said_by plain_line
enter_again limits s at name answer d n = line_again limits s (codes "enter") (name ∷ []) (32 ∷ answer) (record { some = omega arith; bytes = refl }) (name_word name n, tt) ∙ rw d refl

block_again : (limits : Limits) (s : ScenarioData) (at : ℕ) (name answer : List ℕ) → device_at s name ≡ Some at → is_name name ≡ true → Again limits s at name ev.Block answer
unfolding event_text with_fields verb_of said_by plain_line
block_again limits s at name answer d n = line_again limits s (codes "block") (name ∷ []) (32 ∷ answer) (record { some = omega arith; bytes = refl }) (name_word name n, tt) ∙ rw d refl

unblock_again : (limits : Limits) (s : ScenarioData) (at : ℕ) (name answer : List ℕ) → device_at s name ≡ Some at → is_name name ≡ true → Again limits s at name ev.Unblock answer
unfolding event_text with_fields verb_of said_by plain_line
unblock_again limits s at name answer d n = line_again limits s (codes "unblock") (name ∷ []) (32 ∷ answer) (record { some = omega arith; bytes = refl }) (name_word name n, tt) ∙ rw d refl

restart_again : (limits : Limits) (s : ScenarioData) (at : ℕ) (name answer : List ℕ) → device_at s name ≡ Some at → is_name name ≡ true → Again limits s at name ev.Restart answer
unfolding event_text with_fields verb_of said_by plain_line
restart_again limits s at name answer d n = line_again limits s (codes "restart") (name ∷ []) (32 ∷ answer) (record { some = omega arith; bytes = refl }) (name_word name n, tt) ∙ rw d refl

stat_again : (limits : Limits) (s : ScenarioData) (at : ℕ) (name answer : List ℕ) → device_at s name ≡ Some at → is_name name ≡ true → Again limits s at name ev.Stat answer
unfolding event_text with_fields verb_of said_by plain_line
stat_again limits s at name answer d n = line_again limits s (codes "stat") (name ∷ []) (32 ∷ answer) (record { some = omega arith; bytes = refl }) (name_word name n, tt) ∙ rw d refl

-- ---- lines of a name and a number

handle_again : (limits : Limits) (s : ScenarioData) (at : ℕ) (name answer : List ℕ) (k : ℕ) → device_at s name ≡ Some at → is_name name ≡ true → 1 ≤ k → k ≤ 1000000000 → Again limits s at name (ev.Handle k) answer
unfolding event_text with_fields verb_of said_by number_at
handle_again limits s at name answer k d n low high =
    line_again limits s (codes "handle") (name ∷ decimal k ∷ []) (32 ∷ answer) (record { some = omega arith; bytes = refl }) (name_word name n, (number_word k (omega (arith, high)), tt))
    ∙ rw (d, number_again 1 1000000000 k low high (omega arith)) refl

respond_again : (limits : Limits) (s : ScenarioData) (at : ℕ) (name answer : List ℕ) (k : ℕ) → device_at s name ≡ Some at → is_name name ≡ true → 1 ≤ k → k ≤ 1000000000 → Again limits s at name (ev.Respond k) answer
unfolding event_text with_fields verb_of said_by number_at
respond_again limits s at name answer k d n low high =
    line_again limits s (codes "respond") (name ∷ decimal k ∷ []) (32 ∷ answer) (record { some = omega arith; bytes = refl }) (name_word name n, (number_word k (omega (arith, high)), tt))
    ∙ rw (d, number_again 1 1000000000 k low high (omega arith)) refl

tick_again : (limits : Limits) (s : ScenarioData) (at : ℕ) (name answer : List ℕ) (k : ℕ) → device_at s name ≡ Some at → is_name name ≡ true → 0 ≤ k → k ≤ 1000000 → Again limits s at name (ev.Tick k) answer
unfolding event_text with_fields verb_of said_by number_at
tick_again limits s at name answer k d n low high =
    line_again limits s (codes "tick") (name ∷ decimal k ∷ []) (32 ∷ answer) (record { some = omega arith; bytes = refl }) (name_word name n, (number_word k (omega (arith, high)), tt))
    ∙ rw (d, number_again 0 1000000 k low high (omega arith)) refl

reset_again : (limits : Limits) (s : ScenarioData) (at : ℕ) (name answer : List ℕ) (k : ℕ) → device_at s name ≡ Some at → is_name name ≡ true → 1 ≤ k → k ≤ 2 → Again limits s at name (ev.Reset k) answer
unfolding event_text with_fields verb_of said_by number_at
reset_again limits s at name answer k d n low high =
    line_again limits s (codes "reset") (name ∷ decimal k ∷ []) (32 ∷ answer) (record { some = omega arith; bytes = refl }) (name_word name n, (number_word k (omega (arith, high)), tt))
    ∙ rw (d, number_again 1 2 k low high (omega arith)) refl

-- ---- task management

tmr_again : (limits : Limits) (s : ScenarioData) (at : ℕ) (name answer : List ℕ) (kind : ℕ) (serials : List ℕ) → device_at s name ≡ Some at → is_name name ≡ true → IsNote kind serials → Again limits s at name (ev.Tmr kind serials) answer
unfolding event_text with_fields verb_of said_by tmr_line
tmr_again limits s at name answer kind serials d n is =
    line_again limits s (codes "tmr") (name ∷ decimal kind ∷ serials_text serials ∷ []) (32 ∷ answer) (record { some = omega arith; bytes = refl })
    (name_word name n, (number_word kind (omega (arith, is.known.most)), (serials_word serials (rising_numbers serials is.rising), tt)))
    ∙ rw (d, number_again 1 7 kind is.known.least is.known.most (omega arith), serials_again serials is.rising) refl

-- ---- submits

pub data_words : (c : CommandData) → IsCommand c → IsCarried c → AreWords (data_fields c)
unfolding data_fields
data_words c is h = go (takes_payload c.cdb)
  where
    out : (t : Bool) → nat_eq (length c.sent) 0 ≡ t → AreWords (cond t [] ((codes "out=" ++ runs_text c.sent) ∷ []))
    out true e = tt
    out false e = (record { some = omega arith; bytes = and_from _ _ refl (and_from _ _ refl (and_from _ _ refl (and_from _ _ refl (runs_fit c.sent h.sent is.sent)))) }, tt)

    into : (t : Bool) → AreWords (cond t [] ((codes "in=" ++ decimal c.in_len) ∷ []))
    into true = tt
    into false = (words_join (codes "in=") (decimal c.in_len) refl (number_word c.in_len (omega (arith, is.in_len))), tt)

    go : (t : Bool) → AreWords (cond t (cond (nat_eq (length c.sent) 0) [] ((codes "out=" ++ runs_text c.sent) ∷ [])) (cond (nat_eq c.in_len 0) [] ((codes "in=" ++ decimal c.in_len) ∷ [])))
    go true = out (nat_eq (length c.sent) 0) refl
    go false = into (nat_eq c.in_len 0)

-- what the last field of a submit says, where there is one
pub record SaysPayload (c : CommandData) (fields : List (List ℕ)) : Type 0 where
  pub payload : PayloadField
  pub field : payload_fields fields ≡ Some payload
  pub says : payload_of payload ≡ Ok (c.sent, c.in_len)

pub payload_again : (c : CommandData) → IsCommand c → IsCarried c → SaysPayload c (data_fields c)
unfolding data_fields
payload_again c is h = go (takes_payload c.cdb) is.directed
  where
    out : (t : Bool) → nat_eq (length c.sent) 0 ≡ t → c.in_len ≡ 0 → SaysPayload c (cond t [] ((codes "out=" ++ runs_text c.sent) ∷ []))
    out true e z = record { payload = NoPayload; field = refl; says = ap (λ (x : List ℕ × ℕ). Ok x) (ap (λ (l : List ℕ). (l, 0)) (sym (nil_from_length c.sent (eqb-true _ _ e))) ∙ ap (λ (k : ℕ). (c.sent, k)) (sym z)) }
    out false e z = record {
      payload = OutRuns (runs_text c.sent);
      field = refl;
      says = ap (λ o. ok_or (option_map (λ (bytes : List ℕ). let y : List ℕ × ℕ = (bytes, 0) in y) o) why.Runs) (runs_again c.sent h.sent (some c.sent e) is.sent) ∙ ap (λ (k : ℕ). Ok (c.sent, k)) (sym z);
    }
      where
        some : (xs : List ℕ) → nat_eq (length xs) 0 ≡ false → 0 < length xs
        some [] f = absurd (cc)
        some (x ∷ xs) f = omega arith

    into : (t : Bool) → nat_eq c.in_len 0 ≡ t → length c.sent ≡ 0 → SaysPayload c (cond t [] ((codes "in=" ++ decimal c.in_len) ∷ []))
    into true e z = record { payload = NoPayload; field = refl; says = ap (λ (x : List ℕ × ℕ). Ok x) (ap (λ (l : List ℕ). (l, 0)) (sym (nothing z)) ∙ ap (λ (k : ℕ). (c.sent, k)) (sym (eqb-true _ _ e))) }
      where
        nothing : length c.sent ≡ 0 → c.sent ≡ []
        nothing y = nil_from_length c.sent y
    into false e z = record {
      payload = InBytes (decimal c.in_len);
      field = refl;
      says = ap (λ o. ok_or (option_map (λ (n : ℕ). let y : List ℕ × ℕ = ([], n) in y) o) why.Number) (number_again 0 1048576 c.in_len (omega arith) is.in_len (omega arith)) ∙ ap (λ (l : List ℕ). Ok (l, c.in_len)) (sym (nil_from_length c.sent z));
    }

    go : (t : Bool) → cond t (nat_eq c.in_len 0) (nat_eq (length c.sent) 0) ≡ true → SaysPayload c (cond t (cond (nat_eq (length c.sent) 0) [] ((codes "out=" ++ runs_text c.sent) ∷ [])) (cond (nat_eq c.in_len 0) [] ((codes "in=" ++ decimal c.in_len) ∷ [])))
    go true e = out (nat_eq (length c.sent) 0) refl (eqb-true _ _ e)
    go false e = into (nat_eq c.in_len 0) refl (eqb-true _ _ e)

submit_said : (s : ScenarioData) (at : ℕ) (name : List ℕ) (c : CommandData) → device_at s name ≡ Some at → IsCommand c → IsCarried c → submit_line s (name ∷ c.init ∷ decimal c.tag ∷ flat_map hex_byte c.cdb ∷ data_fields c) ≡ Ok (SaysLine (made at (ev.Submit c)))
unfolding submit_line submit_fields
submit_said s at name c d is h =
    let p = payload_again c is h in
    let named : name_of c.init ≡ Some c.init = cond-true _ _ _ is.init in
    let way : only_if is_directed c ≡ Some c = cond-true _ _ _ is.directed in
    rw (p.field, d, named, number_again 0 4294967295 c.tag (omega arith) h.tag (omega arith), cdb_again c.cdb h.cdb is.cdb, p.says, way) refl

submit_again : (limits : Limits) (s : ScenarioData) (at : ℕ) (name answer : List ℕ) (c : CommandData) → device_at s name ≡ Some at → is_name name ≡ true → IsCommand c → IsCarried c → Again limits s at name (ev.Submit c) answer
unfolding event_text command_text with_fields verb_of said_by
submit_again limits s at name answer c d n is h =
    line_again limits s (codes "submit") (name ∷ c.init ∷ decimal c.tag ∷ flat_map hex_byte c.cdb ∷ data_fields c) (32 ∷ answer) (record { some = omega arith; bytes = refl })
    (name_word name n, (name_word c.init is.init, (number_word c.tag (omega (arith, h.tag)), (hex_word c.cdb h.cdb is.cdb.some, data_words c is h))))
    ∙ rw (submit_said s at name c d is h) refl

pub events_again : EventsAgain
events_again limits s at name (ev.Submit c) answer d n is h = submit_again limits s at name answer c d n is h
events_again limits s at name ev.Dispatch answer d n is h = dispatch_again limits s at name answer d n
events_again limits s at name (ev.Handle k) answer d n is h = handle_again limits s at name answer k d n is.least is.most
events_again limits s at name (ev.Respond k) answer d n is h = respond_again limits s at name answer k d n is.least is.most
events_again limits s at name ev.Publish answer d n is h = publish_again limits s at name answer d n
events_again limits s at name ev.Clean answer d n is h = clean_again limits s at name answer d n
events_again limits s at name ev.Enter answer d n is h = enter_again limits s at name answer d n
events_again limits s at name (ev.Tick k) answer d n is h = tick_again limits s at name answer k d n (omega arith) is
events_again limits s at name ev.Block answer d n is h = block_again limits s at name answer d n
events_again limits s at name ev.Unblock answer d n is h = unblock_again limits s at name answer d n
events_again limits s at name (ev.Reset k) answer d n is h = reset_again limits s at name answer k d n is.least is.most
events_again limits s at name ev.Restart answer d n is h = restart_again limits s at name answer d n
events_again limits s at name (ev.Tmr kind serials) answer d n is h = tmr_again limits s at name answer kind serials d n is
events_again limits s at name ev.Stat answer d n is h = stat_again limits s at name answer d n
