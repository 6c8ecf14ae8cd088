-- A replay keeps the limits of its scenario: the lines that it makes send the same commands.
use Rattle.std.proofs.Common.{◌≡◌, ℕ, suc, ◌+◌, ◌≤◌, Bool, true, false, cond, nat_eq, List, [], ◌∷◌, length, All, Option, Some, None, refl, sym, ap, ◌∙◌, subst, arith}
use Rattle.std.specs.List.{count_by, sum_by}
use Rattle.std.proofs.lemmas.List.Elements.{All-nil, All-cons}
use Rattle.std.proofs.lemmas.List.Sums.{sum_by-cons}
use Rattle.tcmu_types.specs.Data.{CommandData}
use Rattle.tcmu_types.specs.Events.{EntryData}
use Rattle.text_model.specs.ScenarioData.{DeviceLineData, LineData, ScenarioData, command_of}
use Rattle.text_model.specs.ScenarioRules.{IsLine, IsScenario}
use Rattle.text_model.specs.Scenario.{is_dump, is_event, bytes_in, bytes_out, with_name, initiators, initiators_from}
use Rattle.text_model.specs.Replay.{made, lines_of}
use Rattle.tcmu_types.specs.Lists.{Every}
use Rattle.text_laws.specs.Replays.{written}
use Rattle.text_laws.proofs.Asked.{sends, sent, IsWithinLines}

-- ---- what the lines that send commands tell

initiators_sent : (d : ℕ) (names : List (List ℕ)) (ls : List LineData) → initiators_from d names ls ≡ initiators_from d names (sent ls)
initiators_sent d names [] = refl
initiators_sent d names (l ∷ ls) = go (command_of l) refl (λ ns. initiators_sent d ns ls)
  where
    go : (o : Option CommandData) → command_of l ≡ o → ((ns : List (List ℕ)) → initiators_from d ns ls ≡ initiators_from d ns (sent ls))
        → initiators_from d (elim o [ Some c ↦ cond (nat_eq l.device d) (with_name names c.init) names | None ↦ names ]) ls ≡ initiators_from d names (cond (elim o [ Some c ↦ true | None ↦ false ]) (l ∷ sent ls) (sent ls))
    go None is more = more names
    go (Some c) is more =
        more (cond (nat_eq l.device d) (with_name names c.init) names)
        ∙ ap (λ (o : Option CommandData). initiators_from d (elim o [ Some e ↦ cond (nat_eq l.device d) (with_name names e.init) names | None ↦ names ]) (sent ls)) (sym is)

sum_sent : (f : LineData → ℕ) → ((l : LineData) → sends l ≡ false → f l ≡ 0) → (ls : List LineData) → sum_by f ls ≡ sum_by f (sent ls)
sum_sent f quiet [] = refl
sum_sent f quiet (l ∷ ls) = sum_by-cons f l ls ∙ go (sends l) refl (sum_sent f quiet ls)
  where
    go : (b : Bool) → sends l ≡ b → sum_by f ls ≡ sum_by f (sent ls) → f l + sum_by f ls ≡ sum_by f (cond b (l ∷ sent ls) (sent ls))
    go true is more = ap (λ (n : ℕ). f l + n) more ∙ sym (sum_by-cons f l (sent ls))
    go false is more = omega (arith, quiet l is, more)

quiet_in : (l : LineData) → sends l ≡ false → bytes_in l ≡ 0
quiet_in l e = go (command_of l) e
  where
    go : (o : Option CommandData) → elim o [ Some c ↦ true | None ↦ false ] ≡ false → ◌≡◌ {A = ℕ} (elim o [ Some c ↦ c.in_len | None ↦ 0 ]) 0
    go None e = refl
    go (Some c) e = absurd (cc)

quiet_out : (l : LineData) → sends l ≡ false → bytes_out l ≡ 0
quiet_out l e = go (command_of l) e
  where
    go : (o : Option CommandData) → elim o [ Some c ↦ true | None ↦ false ] ≡ false → ◌≡◌ {A = ℕ} (elim o [ Some c ↦ length c.sent | None ↦ 0 ]) 0
    go None e = refl
    go (Some c) e = absurd (cc)

no_dumps : (es : List EntryData) → count_by is_dump (lines_of es) ≡ 0
no_dumps [] = refl
no_dumps (e ∷ es) = omega (arith, sum_by-cons {X = LineData} (λ x. cond (is_dump x) 1 0) (made e.device e.event) (lines_of es), no_dumps es)

as_many : (es : List EntryData) → length (lines_of es) ≡ length es
as_many [] = refl
as_many (e ∷ es) = ap suc (as_many es)

events_count : (es : List EntryData) → count_by is_event (lines_of es) ≡ length es
events_count [] = refl
events_count (e ∷ es) = omega (arith, sum_by-cons {X = LineData} (λ x. cond (is_event x) 1 0) (made e.device e.event) (lines_of es), events_count es)

lines_are : (ls : List DeviceLineData) (es : List EntryData) → Every (IsWithinLines (length ls)) es → All (IsLine ls) (lines_of es)
lines_are ls [] h = All-nil (IsLine ls)
lines_are ls (e ∷ es) h =
    let first : IsLine ls (made e.device e.event) = record { device = h.0.device; what = h.0.event; dumped = λ d. absurd (cc) } in
    All-cons (IsLine ls) (made e.device e.event) (lines_of es) first (lines_are ls es h.1)

-- ---- the scenario of a replay's events

pub replay_keeps : (s : ScenarioData) (es : List EntryData) → IsScenario s → Every (IsWithinLines (length s.devices)) es → sent (lines_of es) ≡ sent s.lines → length es ≤ 20000 → IsScenario (written s.devices es)
replay_keeps s es is within same few =
    record {
      few_devices = is.few_devices;
      devices = is.devices;
      names = is.names;
      files = is.files;
      few_lines = omega (arith, as_many es, few);
      few_events = omega (arith, events_count es, few);
      lines = lines_are s.devices es within;
      few_initiators = λ d. subst (λ (names : List (List ℕ)). length names ≤ 16) (initiators_same d) (is.few_initiators d);
      few_dumps = omega (arith, no_dumps es);
      few_in = omega (arith, is.few_in, sums_same bytes_in quiet_in);
      few_out = omega (arith, is.few_out, sums_same bytes_out quiet_out);
    }
  where
    initiators_same : (d : ℕ) → initiators d s.lines ≡ initiators d (lines_of es)
    initiators_same d = initiators_sent d [] s.lines ∙ ap (initiators_from d []) (sym same) ∙ sym (initiators_sent d [] (lines_of es))

    sums_same : (f : LineData → ℕ) → ((l : LineData) → sends l ≡ false → f l ≡ 0) → sum_by f (lines_of es) ≡ sum_by f s.lines
    sums_same f quiet = sum_sent f quiet (lines_of es) ∙ ap (λ (ls : List LineData). sum_by f ls) same ∙ sym (sum_sent f quiet s.lines)
