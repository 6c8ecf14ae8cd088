-- What is read of a text keeps the limits of the reading.
use Rattle.std.proofs.Common.{◌≡◌, ◌≢◌, ℕ, ◌+◌, ◌≤◌, Bool, true, false, cond, ◌&&◌, ◌||◌, not, nat_eq, nat_lt, List, [], ◌∷◌, ◌++◌, length, Option, Some, None, Result, Ok, Err, refl, sym, ap, ◌∙◌, arith, subst, length-append}
use Rattle.std.specs.List.{list_all, count_by, sum_by}
use Rattle.std.proofs.lemmas.Bool.{cond-false, ltb-false, eqb-true, or_parts}
use Rattle.std.proofs.lemmas.List.Elements.{All-nil, All-push}
use Rattle.std.proofs.lemmas.List.Quantifiers.{all_pairs_push}
use Rattle.std.proofs.lemmas.List.Sums.{sum_by_push}
use Rattle.tcmu_types.specs.Data.{CommandData}
use Rattle.tcmu_types.specs.Fields.{pieces, before_hash, fields_of, is_allowed}
use Rattle.text_model.specs.Words.{verb_of}
use Rattle.text_model.specs.ScenarioData.{ScenarioData, DeviceLineData, LineData, command_of}
use Rattle.text_model.specs.Said.{Said, SaysDevice, SaysLine, has_name, same_file, said_by}
use Rattle.text_model.specs.Scenario.{with_name, with_initiator, initiators, initiators_from, is_dump, is_event, bytes_in, bytes_out, small_at, breaks_dump, breaks_many, with_line, with_device, with_rules, is_not_yet, with_said, with_fields, with_text, with_lines, nothing_yet, scenario_within, Bad}
use Rattle.text_model.specs.ScenarioRules.{IsDeviceLine, IsLine, IsScenarioWithin}
use Rattle.text_model.specs.declared.faults.Why.{Why}
use Rattle.text_model.specs.declared.faults.Why.TheVariants as why
use Rattle.text_model.specs.declared.limits.Limits.{Limits}
use Rattle.tcmu_types.proofs.Readings.{same_ok, step, read_step, not_false, none_any, other_bytes}
use Rattle.text_model.proofs.SaidLaws.{IsNewDevice, IsNewLine, IsSaid, said_is}

-- ---- initiators

pub initiators_append : (d : ℕ) (names : List (List ℕ)) (xs ys : List LineData) → initiators_from d names (xs ++ ys) ≡ initiators_from d (initiators_from d names xs) ys
initiators_append d names [] ys = refl
initiators_append d names (x ∷ xs) ys = initiators_append d (with_initiator d names x) xs ys

pub initiators_push : (d : ℕ) (names : List (List ℕ)) (ls : List LineData) (l : LineData) → initiators_from d names (ls ++ l ∷ []) ≡ with_initiator d (initiators_from d names ls) l
initiators_push d names ls l = initiators_append d names ls (l ∷ [])

-- a line of another device brings no initiator
others_stay : (d : ℕ) (names : List (List ℕ)) (l : LineData) → nat_eq l.device d ≡ false → with_initiator d names l ≡ names
others_stay d names l e = go (command_of l)
  where
    go : (o : Option CommandData) → elim o [ Some c ↦ cond (nat_eq l.device d) (with_name names c.init) names | None ↦ names ] ≡ names
    go None = refl
    go (Some c) = cond-false _ _ _ e

-- ---- one more line

dump_room : (s : ScenarioData) (l : LineData) → breaks_dump s l ≡ false → is_dump l ≡ true → (count_by is_dump (s.lines ++ l ∷ []) ≤ 16) × (small_at s.devices l.device ≡ true)
unfolding breaks_dump
dump_room s l e d =
    let h = or_parts (nat_lt 16 (count_by is_dump (s.lines ++ l ∷ []))) (not (small_at s.devices l.device)) (ap (λ b. b && (nat_lt 16 (count_by is_dump (s.lines ++ l ∷ [])) || not (small_at s.devices l.device))) (sym d) ∙ e) in
    (ltb-false _ _ h.0, not_false _ h.1)

-- the limits on many
record IsFew (limits : Limits) (ls : List LineData) (device : ℕ) : Type 0 where
  initiators : length (initiators device ls) ≤ 16
  lines : length ls ≤ limits.lines
  events : count_by is_event ls ≤ limits.events
  ins : sum_by bytes_in ls ≤ 67108864
  outs : sum_by bytes_out ls ≤ 67108864

many_room : (limits : Limits) (ls : List LineData) (device : ℕ) → breaks_many limits ls device ≡ false → IsFew limits ls device
unfolding breaks_many
many_room limits ls device e =
    let names = nat_lt 16 (length (initiators device ls)) in
    let lines = nat_lt limits.lines (length ls) in
    let events = nat_lt limits.events (count_by is_event ls) in
    let ins = nat_lt 67108864 (sum_by bytes_in ls) in
    let a = or_parts (names || lines || events || ins) (nat_lt 67108864 (sum_by bytes_out ls)) e in
    let b = or_parts (names || lines || events) ins a.0 in
    let c = or_parts (names || lines) events b.0 in
    let d = or_parts names lines c.0 in
    record { initiators = ltb-false _ _ d.0; lines = ltb-false _ _ d.1; events = ltb-false _ _ c.1; ins = ltb-false _ _ b.1; outs = ltb-false _ _ a.1 }

pub kept_line : (limits : Limits) (s t : ScenarioData) (l : LineData) → with_line limits s l ≡ Ok t → (record s { lines = s.lines ++ l ∷ [] } ≡ t) × (breaks_dump s l ≡ false) × (breaks_many limits (s.lines ++ l ∷ []) l.device ≡ false)
unfolding with_line
kept_line limits s t l e = go (breaks_dump s l) (breaks_many limits (s.lines ++ l ∷ []) l.device) e
  where
    go : (b c : Bool) → ◌≡◌ {A = Result ScenarioData Why} (cond b (Err why.Dump) (cond c (Err why.Many) (Ok (record s { lines = s.lines ++ l ∷ [] })))) (Ok t) → (record s { lines = s.lines ++ l ∷ [] } ≡ t) × (b ≡ false) × (c ≡ false)
    go true c e = absurd (cc)
    go false true e = absurd (cc)
    go false false e = (same_ok _ t e, refl, refl)

line_is : (limits : Limits) (s t : ScenarioData) (l : LineData) → IsScenarioWithin limits s → IsNewLine s l → with_line limits s l ≡ Ok t → IsScenarioWithin limits t
line_is limits s t l k n e =
    let h = kept_line limits s t l e in
    let m = many_room limits (s.lines ++ l ∷ []) l.device h.2 in
    let line : IsLine s.devices l = record { device = n.device; what = n.what; dumped = λ d. (dump_room s l h.1 d).1 } in
    let sound : IsScenarioWithin limits (record s { lines = s.lines ++ l ∷ [] }) = record {
      few_devices = k.few_devices;
      devices = k.devices;
      names = k.names;
      files = k.files;
      few_lines = m.lines;
      few_events = m.events;
      lines = All-push (IsLine s.devices) s.lines l k.lines line;
      few_initiators = λ d. few d (nat_eq l.device d) refl m.initiators;
      few_dumps = few_dumps (is_dump l) refl h.1;
      few_in = m.ins;
      few_out = m.outs;
    } in
    subst (IsScenarioWithin limits) h.0 sound
  where
    few : (d : ℕ) (b : Bool) → nat_eq l.device d ≡ b → length (initiators l.device (s.lines ++ l ∷ [])) ≤ 16 → length (initiators d (s.lines ++ l ∷ [])) ≤ 16
    few d true e le = subst (λ n. length (initiators n (s.lines ++ l ∷ [])) ≤ 16) (eqb-true l.device d e) le
    few d false e le =
        let same : initiators d (s.lines ++ l ∷ []) ≡ initiators d s.lines = initiators_push d [] s.lines l ∙ others_stay d (initiators d s.lines) l e in
        subst (λ (names : List (List ℕ)). length names ≤ 16) (sym same) (k.few_initiators d)

    few_dumps : (b : Bool) → is_dump l ≡ b → breaks_dump s l ≡ false → count_by is_dump (s.lines ++ l ∷ []) ≤ 16
    few_dumps true e f = (dump_room s l f e).0
    few_dumps false e f =
        let more : count_by is_dump (s.lines ++ l ∷ []) ≡ count_by is_dump s.lines + cond (is_dump l) 1 0 = sum_by_push (λ x. cond (is_dump x) 1 0) s.lines l in
        let none : cond (is_dump l) 1 0 ≡ 0 = cond-false {A = ℕ} _ _ _ e in
        omega (arith, more, none, k.few_dumps)

-- ---- one more device

pub kept_device : (s t : ScenarioData) (d : DeviceLineData) → with_device s d ≡ Ok t → (record s { devices = s.devices ++ d ∷ [] } ≡ t) × (nat_lt 0 (length s.lines) ≡ false) × (nat_lt 16 (length s.devices + 1) ≡ false)
unfolding with_device
kept_device s t d e = go (nat_lt 0 (length s.lines)) (nat_lt 16 (length s.devices + 1)) e
  where
    go : (b c : Bool) → ◌≡◌ {A = Result ScenarioData Why} (cond b (Err why.Order) (cond c (Err why.Many) (Ok (record s { devices = s.devices ++ d ∷ [] })))) (Ok t) → (record s { devices = s.devices ++ d ∷ [] } ≡ t) × (b ≡ false) × (c ≡ false)
    go true c e = absurd (cc)
    go false true e = absurd (cc)
    go false false e = (same_ok _ t e, refl, refl)

device_is : (limits : Limits) (s t : ScenarioData) (d : DeviceLineData) → IsScenarioWithin limits s → IsNewDevice s d → with_device s d ≡ Ok t → IsScenarioWithin limits t
device_is limits s t d k n e =
    let h = kept_device s t d e in
    let none : length s.lines ≤ 0 = ltb-false _ _ h.1 in
    let few : length s.devices + 1 ≤ 16 = ltb-false _ _ h.2 in
    let named = none_any (has_name d.name) s.devices n.name in
    let filed = none_any (λ x. same_file x.config.kind d.config.kind) s.devices n.file in
    let sound : IsScenarioWithin limits (record s { devices = s.devices ++ d ∷ [] }) = record {
      few_devices = omega (arith, few, length-append s.devices (d ∷ []));
      devices = All-push IsDeviceLine s.devices d k.devices n.line;
      names = all_pairs_push (λ x y. x.name ≢ y.name) s.devices d k.names (λ i x lt. other_bytes _ _ (named i x lt));
      files = all_pairs_push (λ x y. same_file x.config.kind y.config.kind ≡ false) s.devices d k.files (λ i x lt. filed i x lt);
      few_lines = k.few_lines;
      few_events = k.few_events;
      lines = λ i x lt. absurd (omega (arith, lt, none));
      few_initiators = k.few_initiators;
      few_dumps = k.few_dumps;
      few_in = k.few_in;
      few_out = k.few_out;
    } in
    subst (IsScenarioWithin limits) h.0 sound

-- ---- lines

with_said_is : (limits : Limits) (s t : ScenarioData) (said : Said) → IsScenarioWithin limits s → IsSaid s said → with_said limits s said ≡ Ok t → IsScenarioWithin limits t
unfolding with_said
with_said_is limits s t said k n e =
    let a = step (with_rules limits s said) _ t e in
    let same : a.0 ≡ t = served (is_not_yet s said) a.0 a.2 in
    subst (IsScenarioWithin limits) same (rules_are said a.0 n a.1)
  where
    served : (b : Bool) (u : ScenarioData) → ◌≡◌ {A = Result ScenarioData Why} (cond b (Err why.NotYet) (Ok u)) (Ok t) → u ≡ t
    served true u e = absurd (cc)
    served false u e = same_ok u t e

    rules_are : (said : Said) (u : ScenarioData) → IsSaid s said → with_rules limits s said ≡ Ok u → IsScenarioWithin limits u
    rules_are (SaysDevice d) u n e = device_is limits s u d k n e
    rules_are (SaysLine l) u n e = line_is limits s u l k n e

with_fields_is : (limits : Limits) (s t : ScenarioData) (fields : List (List ℕ)) → IsScenarioWithin limits s → with_fields limits s fields ≡ Ok t → IsScenarioWithin limits t
unfolding with_fields
with_fields_is limits s t [] k e = subst (IsScenarioWithin limits) (same_ok s t e) k
with_fields_is limits s t (word ∷ fields) k e =
    let v = read_step (verb_of word) why.Verb _ t e in
    let said = step (said_by s v.0 fields) _ t v.2 in
    with_said_is limits s t said.0 k (said_is s v.0 fields said.0 said.1) said.2

with_text_is : (limits : Limits) (s t : ScenarioData) (text : List ℕ) → IsScenarioWithin limits s → with_text limits s text ≡ Ok t → IsScenarioWithin limits t
unfolding with_text
with_text_is limits s t text k e = go (list_all is_allowed (before_hash text)) e
  where
    go : (b : Bool) → ◌≡◌ {A = Result ScenarioData Why} (cond b (with_fields limits s (fields_of (before_hash text))) (Err why.Byte)) (Ok t) → IsScenarioWithin limits t
    go true e = with_fields_is limits s t (fields_of (before_hash text)) k e
    go false e = absurd (cc)

with_lines_is : (limits : Limits) (n : ℕ) (s t : ScenarioData) (texts : List (List ℕ)) → IsScenarioWithin limits s → with_lines limits n s texts ≡ Ok t → IsScenarioWithin limits t
with_lines_is limits n s t [] k e = subst (IsScenarioWithin limits) (same_ok s t e) k
with_lines_is limits n s t (text ∷ texts) k e = go (with_text limits s text) refl e (λ u. with_lines_is limits (n + 1) u t texts)
  where
    go : (r : Result ScenarioData Why) → with_text limits s text ≡ r → ◌≡◌ {A = Result ScenarioData Bad} (elim r [ Ok u ↦ with_lines limits (n + 1) u texts | Err f ↦ Err (record { line = n; why = f }) ]) (Ok t)
        → ((u : ScenarioData) → IsScenarioWithin limits u → with_lines limits (n + 1) u texts ≡ Ok t → IsScenarioWithin limits t) → IsScenarioWithin limits t
    go (Err f) is e more = absurd (cc)
    go (Ok u) is e more = more u (with_text_is limits s u text k is) e

nothing_is : (limits : Limits) → IsScenarioWithin limits nothing_yet
nothing_is limits = record {
  few_devices = omega arith;
  devices = All-nil IsDeviceLine;
  names = λ i j x lt within. absurd (omega (arith, within));
  files = λ i j x lt within. absurd (omega (arith, within));
  few_lines = omega arith;
  few_events = omega arith;
  lines = All-nil (IsLine []);
  few_initiators = λ d. omega arith;
  few_dumps = omega arith;
  few_in = omega arith;
  few_out = omega arith;
}

pub scenario_is : (limits : Limits) (bytes : List ℕ) (s : ScenarioData) → scenario_within limits bytes ≡ Ok s → IsScenarioWithin limits s
unfolding scenario_within
scenario_is limits bytes s e = go (nat_lt limits.bytes (length bytes)) e
  where
    go : (b : Bool) → ◌≡◌ {A = Result ScenarioData Bad} (cond b (Err (record { line = 0; why = why.TooLong })) (with_lines limits 1 nothing_yet (pieces 10 bytes))) (Ok s) → IsScenarioWithin limits s
    go true e = absurd (cc)
    go false e = with_lines_is limits 1 nothing_yet s (pieces 10 bytes) (nothing_is limits) e
