-- What is read of a text can be served, whatever its limits.
use Rattle.std.proofs.Common.{◌≡◌, ℕ, ◌+◌, Bool, true, false, cond, nat_lt, List, [], ◌∷◌, ◌++◌, length, Result, Ok, Err, refl, subst}
use Rattle.std.specs.List.{list_all}
use Rattle.std.proofs.lemmas.List.Elements.{All-nil, All-push}
use Rattle.tcmu_types.specs.Fields.{pieces, before_hash, fields_of, is_allowed}
use Rattle.text_model.specs.Words.{verb_of}
use Rattle.text_model.specs.ScenarioData.{ScenarioData, DeviceLineData, LineData}
use Rattle.text_model.specs.Said.{Said, SaysDevice, SaysLine, said_by}
use Rattle.text_model.specs.Scenario.{is_dump, with_line, with_device, with_rules, is_not_yet, with_said, with_fields, with_text, with_lines, nothing_yet, scenario_within, Bad}
use Rattle.text_model.specs.ScenarioRules.{IsServed}
use Rattle.text_model.specs.declared.faults.Why.{Why}
use Rattle.text_model.specs.declared.faults.Why.TheVariants as why
use Rattle.text_model.specs.declared.limits.Limits.{Limits}
use Rattle.tcmu_types.proofs.Readings.{same_ok, step, read_step}
use Rattle.text_model.proofs.ScenarioLaws.{kept_line, kept_device}

device_served : (s t : ScenarioData) (d : DeviceLineData) → IsServed s → with_device s d ≡ Ok t → IsServed t
device_served s t d k e =
    let served : IsServed (record s { devices = s.devices ++ d ∷ [] }) = record { no_dumps = k.no_dumps } in
    subst IsServed (kept_device s t d e).0 served

line_served : (limits : Limits) (s t : ScenarioData) (l : LineData) → IsServed s → is_not_yet s (SaysLine l) ≡ false → with_line limits s l ≡ Ok t → IsServed t
unfolding is_not_yet
line_served limits s t l k n e =
    let served : IsServed (record s { lines = s.lines ++ l ∷ [] }) = record {
      no_dumps = All-push (λ x. is_dump x ≡ false) s.lines l k.no_dumps n;
    } in
    subst IsServed (kept_line limits s t l e).0 served

said_served : (limits : Limits) (s t : ScenarioData) (said : Said) → IsServed s → with_said limits s said ≡ Ok t → IsServed t
unfolding with_said
said_served limits s t said k e =
    let a = step (with_rules limits s said) _ t e in
    let both = parts (is_not_yet s said) a.0 a.2 in
    subst IsServed both.1 (by_rules said a.0 both.0 a.1)
  where
    parts : (b : Bool) (u : ScenarioData) → ◌≡◌ {A = Result ScenarioData Why} (cond b (Err why.NotYet) (Ok u)) (Ok t) → (b ≡ false) × (u ≡ t)
    parts true u e = absurd (cc)
    parts false u e = (refl, same_ok u t e)

    by_rules : (said : Said) (u : ScenarioData) → is_not_yet s said ≡ false → with_rules limits s said ≡ Ok u → IsServed u
    by_rules (SaysDevice d) u n e = device_served s u d k e
    by_rules (SaysLine l) u n e = line_served limits s u l k n e

fields_served : (limits : Limits) (s t : ScenarioData) (fields : List (List ℕ)) → IsServed s → with_fields limits s fields ≡ Ok t → IsServed t
unfolding with_fields
fields_served limits s t [] k e = subst IsServed (same_ok s t e) k
fields_served limits s t (word ∷ fields) k e =
    let v = read_step (verb_of word) why.Verb _ t e in
    let said = step (said_by s v.0 fields) _ t v.2 in
    said_served limits s t said.0 k said.2

text_served : (limits : Limits) (s t : ScenarioData) (text : List ℕ) → IsServed s → with_text limits s text ≡ Ok t → IsServed t
unfolding with_text
text_served limits s t text k e = go (list_all is_allowed (before_hash text)) e
  where
    go : (b : Bool) → ◌≡◌ {A = Result ScenarioData Why} (cond b (with_fields limits s (fields_of (before_hash text))) (Err why.Byte)) (Ok t) → IsServed t
    go true e = fields_served limits s t (fields_of (before_hash text)) k e
    go false e = absurd (cc)

lines_served : (limits : Limits) (n : ℕ) (s t : ScenarioData) (texts : List (List ℕ)) → IsServed s → with_lines limits n s texts ≡ Ok t → IsServed t
lines_served limits n s t [] k e = subst IsServed (same_ok s t e) k
lines_served limits n s t (text ∷ texts) k e = go (with_text limits s text) refl e (λ u. lines_served limits (n + 1) u t texts)
  where
    go : (r : Result ScenarioData Why) → with_text limits s text ≡ r → ◌≡◌ {A = Result ScenarioData Bad} (elim r [ Ok u ↦ with_lines limits (n + 1) u texts | Err f ↦ Err (record { line = n; why = f }) ]) (Ok t) → ((u : ScenarioData) → IsServed u → with_lines limits (n + 1) u texts ≡ Ok t → IsServed t) → IsServed t
    go (Err f) is e more = absurd (cc)
    go (Ok u) is e more = more u (text_served limits s u text k is) e

nothing_served : IsServed nothing_yet
nothing_served = record { no_dumps = All-nil _ }

pub scenario_served : (limits : Limits) (bytes : List ℕ) (s : ScenarioData) → scenario_within limits bytes ≡ Ok s → IsServed s
unfolding scenario_within
scenario_served limits bytes s e = go (nat_lt limits.bytes (length bytes)) e
  where
    go : (b : Bool) → ◌≡◌ {A = Result ScenarioData Bad} (cond b (Err (record { line = 0; why = why.TooLong })) (with_lines limits 1 nothing_yet (pieces 10 bytes))) (Ok s) → IsServed s
    go true e = absurd (cc)
    go false e = lines_served limits 1 nothing_yet s (pieces 10 bytes) nothing_served e
