-- What the text of a reply tells: no other reply has it.
use Rattle.std.proofs.Common.{◌≡◌, ℕ, suc, ◌+◌, ◌/◌, ◌%◌, ◌^◌, ◌<◌, ◌≤◌, Bool, true, false, cond, nat_eq, nat_lt, List, [], ◌∷◌, ◌++◌, length, map, drop, get_or, Option, Some, None, refl, sym, ap, ◌∙◌, arith}
use Rattle.std.specs.List.{flat_map, join_with_byte}
use Rattle.std.specs.Fmt.{decimal}
use Rattle.std.specs.Str.Parse.{digits_value}
use Rattle.std.proofs.lemmas.Bool.{ltb-true, eqb-true}
use Rattle.std.proofs.lemmas.Fmt.{decimal_is_IsNumeral}
use Rattle.std.proofs.lemmas.List.{append-nil, nil_from_length}
use Rattle.tcmu_types.specs.Data.{SenseData, ReplyData}
use Rattle.tcmu_types.specs.declared.answer.Handle.TheVariants as handle_answer
use Rattle.tcmu_types.specs.Fields.{pieces}
use Rattle.text_model.specs.Text.{onto_run, runs, run_text, runs_text, sense_text, payload_text, handle_text}
use Rattle.tcmu_types.specs.Hex.{hex_digit, hex_byte}
use Rattle.tcmu_types.specs.Lists.{Every}
use Rattle.tcmu_types.proofs.Everies.{every-weaker}
use Rattle.text_laws.proofs.Apart.{head_or}
use Rattle.text_laws.proofs.Lists.{EachLacks, pieces_again}
use Rattle.text_laws.proofs.Runs.{hex_big, run_lacks, of_run, runs_whole, none_left}

-- ---- numbers

pub hex_digit_told : (m n : ℕ) → hex_digit m ≡ hex_digit n → m ≡ n
hex_digit_told m n e = go (nat_lt m 10) (nat_lt n 10) refl refl e
  where
    go : (a b : Bool) → nat_lt m 10 ≡ a → nat_lt n 10 ≡ b → cond {A = ℕ} a (48 + m) (87 + m) ≡ cond b (48 + n) (87 + n) → m ≡ n
    go true true p q e = omega (arith, e)
    go true false p q e = let small : m < 10 = ltb-true m 10 p in absurd (omega (arith, e, small))
    go false true p q e = let small : n < 10 = ltb-true n 10 q in absurd (omega (arith, e, small))
    go false false p q e = omega (arith, e)

pub byte_told : (a b : ℕ) → hex_digit (a / 16) ≡ hex_digit (b / 16) → hex_digit (a % 16) ≡ hex_digit (b % 16) → a ≡ b
byte_told a b e f = omega (arith, hex_digit_told (a / 16) (b / 16) e, hex_digit_told (a % 16) (b % 16) f)

pub decimal_told : (m n : ℕ) → m < 2 ^ 64 → n < 2 ^ 64 → decimal m ≡ decimal n → m ≡ n
decimal_told m n p q e = sym (decimal_is_IsNumeral m p).1 ∙ ap (digits_value 10) e ∙ (decimal_is_IsNumeral n q).1

-- ---- runs

abbrev AreShort : List (ℕ × ℕ) → Type 0
AreShort rs = Every (λ r. r.1 < 2 ^ 64) rs

abbrev AreUpTo : ℕ → List (ℕ × ℕ) → Type 0
AreUpTo most rs = Every (λ r. r.1 ≤ most) rs

run_told : (r q : ℕ × ℕ) → r.1 < 2 ^ 64 → q.1 < 2 ^ 64 → run_text r ≡ run_text q → r ≡ q
unfolding run_text hex_byte
run_told r q p s e =
    let byte : r.0 ≡ q.0 = byte_told r.0 q.0 (ap (λ (l : List ℕ). get_or l 0 0) e) (ap (λ (l : List ℕ). get_or l 1 0) e) in
    let count : r.1 ≡ q.1 = decimal_told r.1 q.1 p s (ap (λ (l : List ℕ). drop 3 l) e) in
    ap (λ (x : ℕ). let y : ℕ × ℕ = (x, r.1) in y) byte ∙ ap (λ (x : ℕ). let y : ℕ × ℕ = (q.0, x) in y) count

each_run_told : (rs qs : List (ℕ × ℕ)) → AreShort rs → AreShort qs → map run_text rs ≡ map run_text qs → rs ≡ qs
each_run_told [] [] h k e = refl
each_run_told [] (q ∷ qs) h k e = absurd (cc)
each_run_told (r ∷ rs) [] h k e = absurd (cc)
each_run_told (r ∷ rs) (q ∷ qs) h k e =
    ap (λ (x : ℕ × ℕ). x ∷ rs) (run_told r q h.0 k.0 (ap (head_or []) e)) ∙ ap (λ (xs : List (ℕ × ℕ)). q ∷ xs) (each_run_told rs qs h.1 k.1 (ap (λ (l : List (List ℕ)). drop 1 l) e))

short_lack : (rs : List (ℕ × ℕ)) → AreShort rs → EachLacks 44 (map run_text rs)
short_lack [] h = tt
short_lack (r ∷ rs) h = (run_lacks r.0 r.1 h.0, short_lack rs h.1)

up_to : (bytes : List ℕ) → AreUpTo (length bytes) (runs bytes)
unfolding runs
up_to [] = tt
up_to (b ∷ bytes) = onto (runs bytes) (up_to bytes)
  where
    pick : (r : ℕ × ℕ) (rs : List (ℕ × ℕ)) (t : Bool) → AreUpTo (length bytes) (r ∷ rs) → AreUpTo (suc (length bytes)) (cond t ((b, suc r.1) ∷ rs) ((b, 1) ∷ r ∷ rs))
    pick r rs true k = (omega (arith, k.0), every-weaker (λ (x : ℕ × ℕ). x.1 ≤ length bytes) (λ (x : ℕ × ℕ). x.1 ≤ suc (length bytes)) rs (λ x h. omega (arith, h)) k.1)
    pick r rs false k = (omega arith, every-weaker (λ (x : ℕ × ℕ). x.1 ≤ length bytes) (λ (x : ℕ × ℕ). x.1 ≤ suc (length bytes)) (r ∷ rs) (λ x h. omega (arith, h)) k)

    onto : (rs : List (ℕ × ℕ)) → AreUpTo (length bytes) rs → AreUpTo (suc (length bytes)) (onto_run b rs)
    onto [] k = (omega arith, tt)
    onto (r ∷ rs) k = pick r rs (nat_eq r.0 b) k

short : (bytes : List ℕ) → length bytes < 2 ^ 64 → AreShort (runs bytes)
short bytes few = every-weaker (λ (x : ℕ × ℕ). x.1 ≤ length bytes) (λ (x : ℕ × ℕ). x.1 < 2 ^ 64) (runs bytes) (λ x h. omega (arith, h, few)) (up_to bytes)

joined_told : (rs qs : List (ℕ × ℕ)) → AreShort rs → AreShort qs → (rs ≡ [] → ⊥) → (qs ≡ [] → ⊥) → join_with_byte 44 (map run_text rs) ≡ join_with_byte 44 (map run_text qs) → rs ≡ qs
joined_told [] qs h k some other e = absurd (some refl)
joined_told (r ∷ rs) [] h k some other e = absurd (other refl)
joined_told (r ∷ rs) (q ∷ qs) h k some other e =
    let a = short_lack (r ∷ rs) h in
    let b = short_lack (q ∷ qs) k in
    each_run_told (r ∷ rs) (q ∷ qs) h k (sym (pieces_again 44 (run_text r) (map run_text rs) a.0 a.1) ∙ ap (pieces 44) e ∙ pieces_again 44 (run_text q) (map run_text qs) b.0 b.1)

pub runs_told : (a b : List ℕ) → length a < 2 ^ 64 → length b < 2 ^ 64 → 0 < length a → 0 < length b → runs_text a ≡ runs_text b → a ≡ b
unfolding runs_text
runs_told a b few less some other e =
    let same = joined_told (runs a) (runs b) (short a few) (short b less) (none_left a some) (none_left b other) e in
    sym (runs_whole a) ∙ ap (λ (rs : List (ℕ × ℕ)). flat_map (λ x. x) (map of_run rs)) same ∙ runs_whole b

-- ---- payloads

joined_first : (rs : List (ℕ × ℕ)) → (rs ≡ [] → ⊥) → 48 ≤ get_or (join_with_byte 44 (map run_text rs)) 0 0
unfolding run_text hex_byte
joined_first [] some = absurd (some refl)
joined_first (r ∷ []) some = hex_big (r.0 / 16)
joined_first (r ∷ q ∷ rs) some = hex_big (r.0 / 16)

runs_first : (a : List ℕ) → 0 < length a → 48 ≤ get_or (runs_text a) 0 0
unfolding runs_text
runs_first a some = joined_first (runs a) (none_left a some)

positive : (a : List ℕ) → nat_eq (length a) 0 ≡ false → 0 < length a
positive [] e = absurd (cc)
positive (x ∷ a) e = omega arith

pub payload_told : (a b : List ℕ) → length a < 2 ^ 64 → length b < 2 ^ 64 → payload_text a ≡ payload_text b → a ≡ b
unfolding payload_text
payload_told a b few less e = go (nat_eq (length a) 0) (nat_eq (length b) 0) refl refl e
  where
    go : (x y : Bool) → nat_eq (length a) 0 ≡ x → nat_eq (length b) 0 ≡ y → cond {A = List ℕ} x (45 ∷ []) (runs_text a) ≡ cond y (45 ∷ []) (runs_text b) → a ≡ b
    go true true p q e = nil_from_length a (eqb-true _ _ p) ∙ sym (nil_from_length b (eqb-true _ _ q))
    go true false p q e = absurd (omega (arith, runs_first b (positive b q), ap (λ (l : List ℕ). get_or l 0 0) e))
    go false true p q e = absurd (omega (arith, runs_first a (positive a p), ap (λ (l : List ℕ). get_or l 0 0) e))
    go false false p q e = runs_told a b few less (positive a p) (positive b q) e

-- ---- sense and replies

sense_same : (s t : SenseData) → s.key ≡ t.key → s.asc ≡ t.asc → s.ascq ≡ t.ascq → s ≡ t
sense_same s t p q r =
    ap (λ (x : ℕ). let y : SenseData = record { key = x; asc = s.asc; ascq = s.ascq } in y) p
    ∙ ap (λ (x : ℕ). let y : SenseData = record { key = t.key; asc = x; ascq = s.ascq } in y) q
    ∙ ap (λ (x : ℕ). let y : SenseData = record { key = t.key; asc = t.asc; ascq = x } in y) r

pub sense_told : (a b : Option SenseData) (x y : List ℕ) → sense_text a ++ 32 ∷ x ≡ sense_text b ++ 32 ∷ y → (a ≡ b) × (x ≡ y)
unfolding sense_text hex_byte
sense_told None None x y e = (refl, ap (λ (l : List ℕ). drop 2 l) e)
sense_told None (Some t) x y e = absurd (omega (arith, hex_big (t.key / 16), ap (λ (l : List ℕ). get_or l 0 0) e))
sense_told (Some s) None x y e = absurd (omega (arith, hex_big (s.key / 16), ap (λ (l : List ℕ). get_or l 0 0) e))
sense_told (Some s) (Some t) x y e =
    let key = byte_told s.key t.key (ap (λ (l : List ℕ). get_or l 0 0) e) (ap (λ (l : List ℕ). get_or l 1 0) e) in
    let asc = byte_told s.asc t.asc (ap (λ (l : List ℕ). get_or l 3 0) e) (ap (λ (l : List ℕ). get_or l 4 0) e) in
    let ascq = byte_told s.ascq t.ascq (ap (λ (l : List ℕ). get_or l 6 0) e) (ap (λ (l : List ℕ). get_or l 7 0) e) in
    (ap (λ (z : SenseData). Some z) (sense_same s t key asc ascq), ap (λ (l : List ℕ). drop 9 l) e)

pub reply_told : (r q : ReplyData) → length r.payload < 2 ^ 64 → length q.payload < 2 ^ 64 → handle_text (handle_answer.Done r) ≡ handle_text (handle_answer.Done q) → r ≡ q
unfolding handle_text hex_byte
reply_told r q few less e =
    let status = byte_told r.status q.status (ap (λ (l : List ℕ). get_or l 6 0) e) (ap (λ (l : List ℕ). get_or l 7 0) e) in
    let rest = sense_told r.sense q.sense (payload_text r.payload ++ []) (payload_text q.payload ++ []) (ap (λ (l : List ℕ). drop 9 l) e) in
    let payload = payload_told r.payload q.payload few less (sym (append-nil (payload_text r.payload)) ∙ rest.1 ∙ append-nil (payload_text q.payload)) in
    ap (λ (x : ℕ). let y : ReplyData = record { status = x; sense = r.sense; payload = r.payload } in y) status
    ∙ ap (λ (x : Option SenseData). let y : ReplyData = record { status = q.status; sense = x; payload = r.payload } in y) rest.0
    ∙ ap (λ (x : List ℕ). let y : ReplyData = record { status = q.status; sense = q.sense; payload = x } in y) payload
