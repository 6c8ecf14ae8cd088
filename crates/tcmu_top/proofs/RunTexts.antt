-- The text of a run, piece by piece.
use Rattle.std.proofs.Common.{◌≡◌, ℕ, zero, suc, ◌+◌, ◌≤◌, List, [], ◌∷◌, ◌++◌, length, take, drop, refl, sym, ap, ◌∙◌, subst, arith, append_assoc, length-append}
use Rattle.std.specs.List.{sum_by}
use Rattle.std.proofs.lemmas.List.{append-nil}
use Rattle.std.proofs.lemmas.List.Sums.{sum_by-cons}
use Rattle.tcmu_types.specs.Data.{DoneData}
use Rattle.tcmu_types.specs.Events.{EntryData}
use Rattle.tcmu_model.specs.Device.{Device}
use Rattle.tcmu_model.specs.Steps.{HandlerRelation, Step, Run}
use Rattle.text_model.specs.ScenarioData.{DeviceLineData}
use Rattle.text_model.specs.Text.{entry_text, entries_text}
use Rattle.tcmu_model.proofs.Logs.{makes_grows}
use Rattle.tcmu_top.specs.Playing.{run_text}

-- how many completions these entries logged
abbrev pub logged_in : List EntryData → ℕ
logged_in es = sum_by (λ e. e.logged) es

-- a front of a list, and what stands behind it
pub drop_front : {X : Type 0} (xs ys : List X) (n : ℕ) → n ≡ length xs → drop n (xs ++ ys) ≡ ys
drop_front [] ys n e = rw e refl
drop_front (x ∷ xs) ys n e = rw e (drop_front xs ys (length xs) refl)

take_within : {X : Type 0} (n : ℕ) (xs ys : List X) → n ≤ length xs → take n (xs ++ ys) ≡ take n xs
take_within zero xs ys h = refl
take_within (suc n) [] ys h = absurd (omega (arith, h))
take_within (suc n) (x ∷ xs) ys h = ap (λ l. x ∷ l) (take_within n xs ys (omega (arith, h)))

drop_within : {X : Type 0} (n : ℕ) (xs ys : List X) → n ≤ length xs → drop n (xs ++ ys) ≡ drop n xs ++ ys
drop_within zero xs ys h = refl
drop_within (suc n) [] ys h = absurd (omega (arith, h))
drop_within (suc n) (x ∷ xs) ys h = drop_within n xs ys (omega (arith, h))

length_dropped : {X : Type 0} (n k : ℕ) (xs : List X) → length xs ≡ n + k → length (drop n xs) ≡ k
length_dropped zero k xs h = omega (arith, h)
length_dropped (suc n) k [] h = omega (arith, h)
length_dropped (suc n) k (x ∷ xs) h = length_dropped n k xs (omega (arith, h))

nil_of : {X : Type 0} (xs : List X) → length xs ≡ 0 → xs ≡ []
nil_of [] h = refl
nil_of (x ∷ xs) h = absurd (omega (arith, h))

-- the text of more entries, with what these logged and what the others did
pub entries_more : (name : List ℕ) (qfull : ℕ) (xs ys : List EntryData) (a b : List DoneData) → length a ≡ logged_in xs
    → entries_text name qfull (xs ++ ys) (a ++ b) ≡ entries_text name qfull xs a ++ entries_text name qfull ys b
entries_more name qfull [] ys a b h = ap (λ (l : List DoneData). entries_text name qfull ys (l ++ b)) (nil_of a h)
entries_more name qfull (x ∷ xs) ys a b h =
    let sum : logged_in (x ∷ xs) ≡ x.logged + logged_in xs = sum_by-cons (λ (e : EntryData). e.logged) x xs in
    let fits : x.logged ≤ length a = omega (arith, h, sum) in
    let left : length (drop x.logged a) ≡ logged_in xs = length_dropped x.logged (logged_in xs) a (h ∙ sum) in
    let front : take x.logged (a ++ b) ≡ take x.logged a = take_within x.logged a b fits in
    let back : drop x.logged (a ++ b) ≡ drop x.logged a ++ b = drop_within x.logged a b fits in
    rw (front, back) (ap (λ (l : List ℕ). entry_text name qfull x (take x.logged a) ++ l) (entries_more name qfull xs ys (drop x.logged a) b left)
    ∙ sym (append_assoc (entry_text name qfull x (take x.logged a)) (entries_text name qfull xs (drop x.logged a)) (entries_text name qfull ys b)))

-- what a run logged stands behind what was logged before, and is as much as its entries say
pub record Logged (d : Device) (es : List EntryData) (d' : Device) : Type 0 where
  pub done : List DoneData
  pub log : d'.state.log ≡ d.state.log ++ done
  pub count : length done ≡ logged_in es

step_logged : (R : HandlerRelation) (d d' : Device) (e : EntryData) → Step R d e d' → (done : List DoneData) × (d'.state.log ≡ d.state.log ++ done) × (length done ≡ e.logged)
step_logged R d d' e s =
    let g = makes_grows R d d' e.event e.answer s.makes in
    (g.0, g.1, omega (arith, s.logged, ap length g.1, length-append d.state.log g.0))

pub run_logged : (R : HandlerRelation) (d d' : Device) (es : List EntryData) → Run R d es d' → Logged d es d'
run_logged R d d' [] h = record { done = []; log = ap (λ (x : Device). x.state.log) h ∙ sym (append-nil d.state.log); count = refl }
run_logged R d d' (e ∷ es) h =
    let one = step_logged R d h.0 e h.1 in
    let more = run_logged R h.0 d' es h.2 in
    record {
      done = one.0 ++ more.done;
      log = more.log ∙ ap (λ (l : List DoneData). l ++ more.done) one.1 ∙ append_assoc d.state.log one.0 more.done;
      count = omega (arith, length-append one.0 more.done, one.2, more.count, sum_by-cons (λ (x : EntryData). x.logged) e es);
    }

pub run_append : (R : HandlerRelation) (d m d' : Device) (xs ys : List EntryData) → Run R d xs m → Run R m ys d' → Run R d (xs ++ ys) d'
run_append R d m d' [] ys h k = subst (λ (x : Device). Run R x ys d') h k
run_append R d m d' (x ∷ xs) ys h k = (h.0, h.1, run_append R h.0 m d' xs ys h.2 k)

text_of : (l : DeviceLineData) (d d' : Device) (es : List EntryData) (done : List DoneData) → d'.state.log ≡ d.state.log ++ done
    → run_text l d es d' ≡ entries_text l.name l.settings.qfull es done
text_of l d d' es done e =
    ap (entries_text l.name l.settings.qfull es) (ap (drop (length d.state.log)) e ∙ drop_front d.state.log done (length d.state.log) refl)

-- one run behind another: their texts stand behind one another
pub text_more : (R : HandlerRelation) (l : DeviceLineData) (d m d' : Device) (xs ys : List EntryData) → Run R d xs m → Run R m ys d'
    → run_text l d (xs ++ ys) d' ≡ run_text l d xs m ++ run_text l m ys d'
text_more R l d m d' xs ys h k =
    let a = run_logged R d m xs h in
    let b = run_logged R m d' ys k in
    let all : d'.state.log ≡ d.state.log ++ (a.done ++ b.done) = b.log ∙ ap (λ (x : List DoneData). x ++ b.done) a.log ∙ append_assoc d.state.log a.done b.done in
    text_of l d d' (xs ++ ys) (a.done ++ b.done) all
    ∙ entries_more l.name l.settings.qfull xs ys a.done b.done a.count
    ∙ ap (λ (x : List ℕ). x ++ entries_text l.name l.settings.qfull ys b.done) (sym (text_of l d m xs a.done a.log))
    ∙ ap (λ (x : List ℕ). run_text l d xs m ++ x) (sym (text_of l m d' ys b.done b.log))

-- the text of one entry, with the completions that it logged
pub text_one : (R : HandlerRelation) (l : DeviceLineData) (d d' : Device) (e : EntryData) → Step R d e d'
    → run_text l d (e ∷ []) d' ≡ entry_text l.name l.settings.qfull e (drop (length d.state.log) d'.state.log)
text_one R l d d' e s =
    let one = step_logged R d d' e s in
    let logged : drop (length d.state.log) d'.state.log ≡ one.0 = ap (drop (length d.state.log)) one.1 ∙ drop_front d.state.log one.0 (length d.state.log) refl in
    let whole : take e.logged one.0 ≡ one.0 = take_whole e.logged one.0 (sym one.2) in
    rw logged (append-nil (entry_text l.name l.settings.qfull e (take e.logged one.0)) ∙ ap (entry_text l.name l.settings.qfull e) whole)
  where
    take_whole : (n : ℕ) (xs : List DoneData) → n ≡ length xs → take n xs ≡ xs
    take_whole n [] h = rw h refl
    take_whole n (x ∷ xs) h = rw h (ap (λ (l : List DoneData). x ∷ l) (take_whole (length xs) xs refl))
