-- Runs are read again.
use Rattle.std.proofs.Common.{◌≡◌, ℕ, zero, suc, ◌+◌, ◌^◌, ◌<◌, ◌≤◌, Bool, true, false, cond, nat_le, nat_lt, nat_eq, ◌/◌, ◌%◌, List, [], ◌∷◌, ◌++◌, length, map, replicate, Option, Some, refl, sym, ap, ◌∙◌, arith}
use Rattle.std.specs.List.{flat_map, join_with_byte}
use Rattle.std.specs.Option.{option_and_then}
use Rattle.std.proofs.lemmas.Bool.{le-leb, le-ltb, ne_eqb, cond-true, cond-false, eqb-true}
use Rattle.tcmu_types.specs.Reading.{each}
use Rattle.text_model.specs.Fields.{run_of, runs_of}
use Rattle.tcmu_types.specs.Fields.{pieces, only_if}
use Rattle.text_model.specs.Text.{onto_run, runs, run_text, runs_text}
use Rattle.tcmu_types.specs.Hex.{hex_digit, hex_byte}
use Rattle.text_laws.specs.Bytes.{AreBytes}
use Rattle.text_laws.proofs.Numbers.{number_again}
use Rattle.text_laws.proofs.Hex.{pair_again}
use Rattle.text_laws.proofs.Lists.{Lacks, EachLacks, pieces_again, number_lacks}

abbrev pub of_run : ℕ × ℕ → List ℕ
of_run r = replicate r.1 r.0

abbrev pub AreRuns : ℕ → List (ℕ × ℕ) → Type 0
AreRuns most [] = Unit {0}
AreRuns most (r ∷ rs) = (r.0 < 256) × (1 ≤ r.1) × (r.1 ≤ most) × AreRuns most rs

pub run_again : (b n : ℕ) → b < 256 → 1 ≤ n → n ≤ 1048576 → run_of (run_text (b, n)) ≡ Some (replicate n b)
unfolding run_text hex_byte
run_again b n lt some few =
    let three : 3 ≤ length (run_text (b, n)) = omega arith in
    cond-false _ _ _ (le-ltb _ _ three) ∙ rw (pair_again b lt) (rw (number_again 1 1048576 n some few (omega arith)) refl)

pub hex_big : (n : ℕ) → 48 ≤ hex_digit n
hex_big n = go (nat_lt n 10)
  where
    go : (t : Bool) → 48 ≤ cond t (48 + n) (87 + n)
    go true = omega arith
    go false = omega arith

pub run_lacks : (b n : ℕ) → n < 2 ^ 64 → Lacks 44 (run_text (b, n))
unfolding run_text hex_byte
run_lacks b n lt zero d in_it = ne_eqb _ _ (λ e. omega (arith, hex_big (b / 16), e))
run_lacks b n lt (suc zero) d in_it = ne_eqb _ _ (λ e. omega (arith, hex_big (b % 16), e))
run_lacks b n lt (suc (suc zero)) d in_it = refl
run_lacks b n lt (suc (suc (suc k))) d in_it = number_lacks 44 n (omega arith) lt k d (omega (arith, in_it))

pub more_room : (a b : ℕ) (rs : List (ℕ × ℕ)) → a ≤ b → AreRuns a rs → AreRuns b rs
more_room a b [] le h = tt
more_room a b (r ∷ rs) le h = (h.0, h.1, omega (arith, le, h.2), more_room a b rs le h.3)

pub are_runs : (bytes : List ℕ) → AreBytes bytes → AreRuns (length bytes) (runs bytes)
unfolding runs
are_runs [] h = tt
are_runs (b ∷ bytes) h = onto (runs bytes) (are_runs bytes h.1)
  where
    pick : (r : ℕ × ℕ) (rs : List (ℕ × ℕ)) (t : Bool) → AreRuns (length bytes) (r ∷ rs) → AreRuns (suc (length bytes)) (cond t ((b, suc r.1) ∷ rs) ((b, 1) ∷ r ∷ rs))
    pick r rs true k = (h.0, omega arith, omega (arith, k.2), more_room _ _ rs (omega arith) k.3)
    pick r rs false k = (h.0, omega arith, omega arith, more_room _ _ (r ∷ rs) (omega arith) k)

    onto : (rs : List (ℕ × ℕ)) → AreRuns (length bytes) rs → AreRuns (suc (length bytes)) (onto_run b rs)
    onto [] k = (h.0, omega arith, omega arith, tt)
    onto (r ∷ rs) k = pick r rs (nat_eq r.0 b) k

pub runs_whole : (bytes : List ℕ) → flat_map (λ x. x) (map of_run (runs bytes)) ≡ bytes
unfolding runs
runs_whole [] = refl
runs_whole (b ∷ bytes) = onto (runs bytes) ∙ ap (λ (l : List ℕ). b ∷ l) (runs_whole bytes)
  where
    pick : (r : ℕ × ℕ) (rs : List (ℕ × ℕ)) (t : Bool) → nat_eq r.0 b ≡ t → flat_map (λ x. x) (map of_run (cond t ((b, suc r.1) ∷ rs) ((b, 1) ∷ r ∷ rs))) ≡ b ∷ flat_map (λ x. x) (map of_run (r ∷ rs))
    pick r rs true e = ap (λ k. b ∷ (replicate r.1 k ++ flat_map (λ x. x) (map of_run rs))) (sym (eqb-true _ _ e))
    pick r rs false e = refl

    onto : (rs : List (ℕ × ℕ)) → flat_map (λ x. x) (map of_run (onto_run b rs)) ≡ b ∷ flat_map (λ x. x) (map of_run rs)
    onto [] = refl
    onto (r ∷ rs) = pick r rs (nat_eq r.0 b) refl

runs_each : (rs : List (ℕ × ℕ)) → AreRuns 1048576 rs → each run_of (map run_text rs) ≡ Some (map of_run rs)
runs_each [] h = refl
runs_each (r ∷ rs) h = rw (run_again r.0 r.1 h.0 h.1 h.2) (rw (runs_each rs h.3) refl)

runs_lack : (rs : List (ℕ × ℕ)) → AreRuns 1048576 rs → EachLacks 44 (map run_text rs)
runs_lack [] h = tt
runs_lack (r ∷ rs) h = (run_lacks r.0 r.1 (omega (arith, h.2)), runs_lack rs h.3)

abbrev fits : List ℕ → Option (List ℕ)
fits bytes = only_if (λ l. nat_le (length l) 1048576) bytes

read_of : (bytes : List ℕ) (r : ℕ × ℕ) (rs : List (ℕ × ℕ)) → runs bytes ≡ r ∷ rs → AreRuns 1048576 (r ∷ rs) → length bytes ≤ 1048576 → runs_of (runs_text bytes) ≡ Some bytes
unfolding runs_of runs_text
read_of bytes r rs e h few =
    let cut = pieces_again 44 (run_text r) (map run_text rs) (runs_lack (r ∷ rs) h).0 (runs_lack (r ∷ rs) h).1 in
    let whole : flat_map (λ x. x) (map of_run (r ∷ rs)) ≡ bytes = ap (λ l. flat_map (λ x. x) (map of_run l)) (sym e) ∙ runs_whole bytes in
    ap (λ l. option_and_then (λ xs. fits (flat_map (λ x. x) xs)) (each run_of (pieces 44 (join_with_byte 44 (map run_text l))))) e
    ∙ ap (λ ps. option_and_then (λ xs. fits (flat_map (λ x. x) xs)) (each run_of ps)) cut
    ∙ ap (option_and_then (λ xs. fits (flat_map (λ x. x) xs))) (runs_each (r ∷ rs) h)
    ∙ ap fits whole
    ∙ cond-true _ _ _ (le-leb _ _ few)

two_ways : (b : ℕ) (r : ℕ × ℕ) (rs : List (ℕ × ℕ)) (t : Bool) → ◌≡◌ {A = List (ℕ × ℕ)} (cond t ((b, suc r.1) ∷ rs) ((b, 1) ∷ r ∷ rs)) [] → ⊥
two_ways b r rs true q = absurd (cc)
two_ways b r rs false q = absurd (cc)

onto_some : (b : ℕ) (rs : List (ℕ × ℕ)) → onto_run b rs ≡ [] → ⊥
onto_some b [] q = absurd (cc)
onto_some b (r ∷ rs) q = two_ways b r rs (nat_eq r.0 b) q

pub none_left : (bytes : List ℕ) → 0 < length bytes → runs bytes ≡ [] → ⊥
unfolding runs
none_left [] s e = omega (arith, s)
none_left (b ∷ bytes) s e = onto_some b (runs bytes) e

pub runs_again : (bytes : List ℕ) → AreBytes bytes → 0 < length bytes → length bytes ≤ 1048576 → runs_of (runs_text bytes) ≡ Some bytes
runs_again bytes h some few = go (runs bytes) refl (more_room _ _ (runs bytes) few (are_runs bytes h))
  where
    go : (rs : List (ℕ × ℕ)) → runs bytes ≡ rs → AreRuns 1048576 rs → runs_of (runs_text bytes) ≡ Some bytes
    go [] e k = absurd (none_left bytes some e)
    go (r ∷ rs) e k = read_of bytes r rs e k few
