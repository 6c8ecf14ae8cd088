-- The scenario of a load keeps the limits.
use Rattle.std.proofs.Common.{◌≡◌, ◌⊎◌, inl, inr, ℕ, suc, zero, ◌+◌, ◌*◌, ◌%◌, ◌==◌, ◌<◌, ◌≤◌, Bool, true, false, cond, nat_eq, List, [], ◌∷◌, ◌++◌, length, codes, refl, sym, ap, ◌∙◌, subst, arith, length-append}
use Rattle.std.specs.List.{All, sum_by}
use Rattle.std.proofs.lemmas.List.Sums.{sum_by-append, sum_by-cons}
use Rattle.std.proofs.lemmas.List.Elements.{All-append, All-cons}
use Rattle.tcmu_types.specs.Events as ev
use Rattle.text_model.specs.ScenarioData.{DeviceLineData, LineData, ScenarioData, command_of}
use Rattle.text_model.specs.ScenarioData as line
use Rattle.text_model.specs.Scenario.{with_name, is_dump, is_event, bytes_in, bytes_out, initiators, initiators_from}
use Rattle.text_model.specs.ScenarioRules.{IsScenario, IsDeviceLine, IsLine}
use Rattle.text_model.specs.Load.{load_command, load_writes, load_lba, load_count, load_fill, load_line, load_step, load_lines, load_device, load_config, load_settings, load_scenario_data, random_of}
use Rattle.load_gen.proofs.Sendable.{IsLoad, write_is, read_is}
use Rattle.text_model.proofs.ScenarioLaws.{initiators_append}

-- ==== commands

count_few : (x : ℕ) → load_count x ≤ 8
unfolding load_count
count_few x = omega arith

pub command_is : (tag x : ℕ) → IsLoad (load_command tag x)
unfolding load_command
command_is tag x = go (load_writes x) refl
  where
    go : (b : Bool) → load_writes x ≡ b → IsLoad (load_command tag x)
    go true e = rw e (write_is tag (load_lba x) (load_count x) (load_fill x) (count_few x))
    go false e = rw e (read_is tag (load_lba x) (load_count x) (count_few x))

abbrev pub submit_line : ℕ → ℕ → LineData
submit_line i x = load_line (line.EventLine (ev.Submit (load_command i x)))

abbrev pub drain_if : Bool → List LineData
drain_if b = cond b (load_line line.DrainLine ∷ []) []

step_is : (i x : ℕ) → load_step i x ≡ submit_line i x ∷ drain_if (i % 16 == 0)
unfolding load_step
step_is i x = refl

pub lines_none : (seed : ℕ) → load_lines seed zero ≡ []
unfolding load_lines
lines_none seed = refl

pub lines_more : (seed i : ℕ) → load_lines seed (suc i) ≡ load_lines seed i ++ (submit_line (suc i) (random_of seed (suc i)) ∷ drain_if (suc i % 16 == 0))
unfolding load_lines
lines_more seed i = ap (λ (ls : List LineData). load_lines seed i ++ ls) (step_is (suc i) (random_of seed (suc i)))

-- ==== what is counted

drain_length : (b : Bool) → length (drain_if b) ≤ 1
drain_length true = omega arith
drain_length false = omega arith

pub lines_few : (seed i : ℕ) → length (load_lines seed i) ≤ i + i
lines_few seed zero = rw (lines_none seed) (omega arith)
lines_few seed (suc i) =
    let x = random_of seed (suc i) in
    let d = drain_if (suc i % 16 == 0) in
    omega (arith, ap length (lines_more seed i), length-append (load_lines seed i) (submit_line (suc i) x ∷ d), lines_few seed i, drain_length (suc i % 16 == 0))

drain_sum : (f : LineData → ℕ) (b : Bool) → f (load_line line.DrainLine) ≡ 0 → sum_by f (drain_if b) ≡ 0
drain_sum f true e = omega (arith, e)
drain_sum f false e = refl

sum_few : (f : LineData → ℕ) (most : ℕ) → f (load_line line.DrainLine) ≡ 0 → ((i x : ℕ) → f (submit_line i x) ≤ most) → (seed i : ℕ) → sum_by f (load_lines seed i) ≤ i * most
sum_few f most none few seed zero = rw (lines_none seed) (omega arith)
sum_few f most none few seed (suc i) =
    let x = random_of seed (suc i) in
    let d = drain_if (suc i % 16 == 0) in
    omega (arith, ap (sum_by f) (lines_more seed i), sum_by-append f (load_lines seed i) (submit_line (suc i) x ∷ d), sum_by-cons f (submit_line (suc i) x) d, drain_sum f (suc i % 16 == 0) none, few (suc i) x, sum_few f most none few seed i)

-- ==== one initiator

abbrev IsOne : List (List ℕ) → Type 0
IsOne names = (names ≡ []) ⊎ (names ≡ codes "a" ∷ [])

one_named : (names : List (List ℕ)) (name : List ℕ) → name ≡ codes "a" → IsOne names → IsOne (with_name names name)
one_named names name e (inl none) = inr (rw (none, e) refl)
one_named names name e (inr one) = inr (rw (one, e) refl)

one_if : (b : Bool) (names more : List (List ℕ)) → IsOne names → IsOne more → IsOne (cond b more names)
one_if true names more h k = k
one_if false names more h k = h

one_step : (d : ℕ) (names : List (List ℕ)) (i x : ℕ) (b : Bool) → IsOne names → IsOne (initiators_from d names (submit_line i x ∷ drain_if b))
one_step d names i x true h = one_if (nat_eq 0 d) names _ h (one_named names (load_command i x).init (command_is i x).init h)
one_step d names i x false h = one_if (nat_eq 0 d) names _ h (one_named names (load_command i x).init (command_is i x).init h)

one_initiator : (d seed i : ℕ) → IsOne (initiators d (load_lines seed i))
one_initiator d seed zero = rw (lines_none seed) (inl refl)
one_initiator d seed (suc i) =
    let x = random_of seed (suc i) in
    let b = suc i % 16 == 0 in
    let e : initiators d (load_lines seed (suc i)) ≡ initiators_from d (initiators d (load_lines seed i)) (submit_line (suc i) x ∷ drain_if b) = ap (initiators d) (lines_more seed i) ∙ initiators_append d [] (load_lines seed i) (submit_line (suc i) x ∷ drain_if b) in
    subst IsOne (sym e) (one_step d (initiators d (load_lines seed i)) (suc i) x b (one_initiator d seed i))

one_few : (names : List (List ℕ)) → IsOne names → length names ≤ 16
one_few names (inl e) = omega (arith, ap length e)
one_few names (inr e) = omega (arith, ap length e)

-- ==== each line, and the device

submit_is : (ds : List DeviceLineData) (i x : ℕ) → 0 < length ds → IsLine ds (submit_line i x)
submit_is ds i x lt = record { device = lt; what = (command_is i x).command; dumped = λ e. absurd (cc) }

drain_is : (ds : List DeviceLineData) (b : Bool) → 0 < length ds → All (IsLine ds) (drain_if b)
drain_is ds true lt = All-cons (IsLine ds) (load_line line.DrainLine) [] (record { device = lt; what = tt; dumped = λ e. absurd (cc) }) (λ k d lt. absurd (omega arith))
drain_is ds false lt = λ k d lt. absurd (omega arith)

lines_are : (ds : List DeviceLineData) (seed i : ℕ) → 0 < length ds → All (IsLine ds) (load_lines seed i)
lines_are ds seed zero lt = rw (lines_none seed) (λ k d lt. absurd (omega arith))
lines_are ds seed (suc i) lt =
    let x = random_of seed (suc i) in
    let b = suc i % 16 == 0 in
    let step = All-cons (IsLine ds) (submit_line (suc i) x) (drain_if b) (submit_is ds (suc i) x lt) (drain_is ds b lt) in
    rw (lines_more seed i) (All-append (IsLine ds) (load_lines seed i) (submit_line (suc i) x ∷ drain_if b) (lines_are ds seed i lt) step)

pub device_is : IsDeviceLine load_device
unfolding load_device load_config load_settings
device_is =
    record {
      name = refl;
      config = record {
        hba = omega arith;
        name = refl;
        medium = record { least = omega arith; most = omega arith };
        fails = record { few = omega arith; rising = refl; each = λ k d lt. absurd (omega arith) };
      };
      config_name = refl;
      settings = record {
        ring = record { least = omega arith; most = omega arith; pages = refl };
        blocks_low = omega arith;
        pages_low = omega arith;
        pages_high = omega arith;
        area = omega arith;
        timeout = omega arith;
        qfull = omega arith;
      };
    }

pub scenario_is : (seed count : ℕ) → count ≤ 10000 → IsScenario (load_scenario_data seed count)
unfolding load_scenario_data
scenario_is seed count few =
    record {
      few_devices = omega arith;
      devices = All-cons IsDeviceLine load_device [] device_is (λ k d lt. absurd (omega arith));
      names = λ i j d lt within. absurd (omega arith);
      files = λ i j d lt within. absurd (omega arith);
      few_lines = omega (arith, lines_few seed count);
      few_events = omega (arith, few, sum_few (λ l. cond (is_event l) 1 0) 1 refl (λ i x. omega arith) seed count);
      lines = lines_are (load_device ∷ []) seed count (omega arith);
      few_initiators = λ d. one_few (initiators d (load_lines seed count)) (one_initiator d seed count);
      few_dumps = omega (arith, sum_few (λ l. cond (is_dump l) 1 0) 0 refl (λ i x. omega arith) seed count);
      few_in = omega (arith, sum_few bytes_in 4096 refl (λ i x. (command_is i x).in_len) seed count);
      few_out = omega (arith, sum_few bytes_out 4096 refl (λ i x. (command_is i x).sent) seed count);
    }
