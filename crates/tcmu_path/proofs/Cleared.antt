-- Answers that are cleared are of commands that are finished: what goes over the placed answers may begin behind them.
use Rattle.std.proofs.Common.{◌≡◌, ℕ, ◌+◌, ◌-◌, ◌≤◌, Bool, false, cond, not, eqb, List, [], ◌∷◌, ◌++◌, take, drop, map, None, refl, sym, ap, ◌∙◌, arith, ◌||◌, ◌&&◌, if◌then◌else◌}
use Rattle.std.specs.List.{list_any, count_by}
use Rattle.std.proofs.Math.Seq.{take-add}
use Rattle.std.proofs.lemmas.Bool.{or_parts, eqb-false, ne_eqb}
use Rattle.std.proofs.lemmas.List.Sums.{sum_by-cons}
use Rattle.std.proofs.lemmas.List.Folds.{list_any-append}
use Rattle.tcmu_model.specs.declared.state.CommandState.TheVariants.{Placed, Lost}
use Rattle.tcmu_types.specs.Lists.{first_of}
use Rattle.tcmu_model.specs.Device.{Unfinished, has_state, is_at}
use Rattle.tcmu_model.specs.Events.{is_losing, is_in_hand, lose, Books, finish, finish_all}
use Rattle.tcmu_types.specs.Numbers.{is_among}
use Rattle.tcmu_types.proofs.Firsts.{first_of_none}
use Rattle.tcmu_path.specs.Away.{AreAway}

-- the first m of a list, cut at n
pub parts : (n m : ℕ) (xs : List ℕ) → n ≤ m → take m xs ≡ take n xs ++ take (m - n) (drop n xs)
parts n m xs l = let e : m ≡ n + (m - n) = omega (arith, l) in ap (λ k. take k xs) e ∙ take-add n (m - n) xs

none-placed : (s : ℕ) (gone : List ℕ) (us : List Unfinished) → AreAway (s ∷ gone) us → (list_any (is_at s Placed) us ≡ false) × AreAway gone us
none-placed s gone [] h = (refl, tt)
none-placed s gone (u ∷ us) h =
    let t = or_parts (eqb s u.serial) (is_among gone u.serial) h.0 in
    let no : eqb u.serial s ≡ false = ne_eqb u.serial s (λ q. eqb-false s u.serial t.0 (sym q)) in
    let r = none-placed s gone us h.1 in
    (rw no r.0, (t.1, r.1))

finish-none : (read_len : Bool) (b : Books) (s : ℕ) → first_of (is_at s Placed) b.unfinished ≡ None → finish read_len b s ≡ b
finish-none read_len b s n = rw (n, finish) refl

finish-away : (read_len : Bool) (b : Books) (gone rest : List ℕ) → AreAway gone b.unfinished → finish_all read_len b (gone ++ rest) ≡ finish_all read_len b rest
finish-away read_len b [] rest h = refl
finish-away read_len b (s ∷ gone) rest h =
    let r = none-placed s gone b.unfinished h in
    let same : finish read_len b s ≡ b = finish-none read_len b s (first_of_none (is_at s Placed) b.unfinished r.0) in
    ap (λ (x : Books). finish_all read_len x (gone ++ rest)) same ∙ finish-away read_len b gone rest r.1

pub finish_behind : (read_len : Bool) (b : Books) (n m : ℕ) (placed : List ℕ) → n ≤ m → AreAway (take n placed) b.unfinished → finish_all read_len b (take (m - n) (drop n placed)) ≡ finish_all read_len b (take m placed)
finish_behind read_len b n m placed l h =
    sym (ap (finish_all read_len b) (parts n m placed l) ∙ finish-away read_len b (take n placed) (take (m - n) (drop n placed)) h)

lost-same : (gone rest all : List ℕ) (u : Unfinished) → all ≡ gone ++ rest → is_among gone u.serial ≡ false → is_losing rest u ≡ is_losing all u
lost-same gone rest all u e h =
    let b : is_among (gone ++ rest) u.serial ≡ (is_among gone u.serial || is_among rest u.serial) = list_any-append (λ k. eqb k u.serial) gone rest in
    let c : is_among all u.serial ≡ is_among rest u.serial = ap (λ (ss : List ℕ). is_among ss u.serial) e ∙ (b ∙ rw h refl) in
    ap (λ x. is_in_hand u || (has_state Placed u && not x)) (sym c)

lost-map : (gone rest all : List ℕ) (us : List Unfinished) → all ≡ gone ++ rest → AreAway gone us → map (lose rest) us ≡ map (lose all) us
lost-map gone rest all [] e h = refl
lost-map gone rest all (u ∷ us) e h =
    let b : is_losing rest u ≡ is_losing all u = lost-same gone rest all u e h.0 in
    let one : lose rest u ≡ lose all u = ap (λ x. if x then record u { state = Lost; reply = if has_state Placed u then u.reply else None } else u) b in
    ap (λ (v : Unfinished). v ∷ map (lose rest) us) one ∙ ap (λ (vs : List Unfinished). lose all u ∷ vs) (lost-map gone rest all us e h.1)

lost-count : (gone rest all : List ℕ) (us : List Unfinished) → all ≡ gone ++ rest → AreAway gone us → count_by (is_losing rest) us ≡ count_by (is_losing all) us
lost-count gone rest all [] e h = refl
lost-count gone rest all (u ∷ us) e h =
    let b : is_losing rest u ≡ is_losing all u = lost-same gone rest all u e h.0 in
    let one : cond {A = ℕ} (is_losing rest u) 1 0 ≡ cond {A = ℕ} (is_losing all u) 1 0 = ap (λ x. cond {A = ℕ} x 1 0) b in
    omega (arith, sum_by-cons (λ x. cond {A = ℕ} (is_losing rest x) 1 0) u us, sum_by-cons (λ x. cond {A = ℕ} (is_losing all x) 1 0) u us, one, lost-count gone rest all us e h.1)

pub lose_behind : (n m : ℕ) (placed : List ℕ) (us : List Unfinished) → n ≤ m → AreAway (take n placed) us → map (lose (take (m - n) (drop n placed))) us ≡ map (lose (take m placed)) us
lose_behind n m placed us l h = lost-map (take n placed) (take (m - n) (drop n placed)) (take m placed) us (parts n m placed l) h

pub count_behind : (n m : ℕ) (placed : List ℕ) (us : List Unfinished) → n ≤ m → AreAway (take n placed) us → count_by (is_losing (take (m - n) (drop n placed))) us ≡ count_by (is_losing (take m placed)) us
count_behind n m placed us l h = lost-count (take n placed) (take (m - n) (drop n placed)) (take m placed) us (parts n m placed l) h
