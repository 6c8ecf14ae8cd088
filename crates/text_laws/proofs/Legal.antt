-- What holds along the runs of journals.
use Rattle.std.proofs.Common.{◌≡◌, ℕ, ◌<◌, Bool, true, false, cond, nat_eq, List, [], ◌∷◌, ◌++◌, map, refl, subst}
use Rattle.std.specs.List.{filter}
use Rattle.std.proofs.lemmas.Bool.{eq-eqb, cond-true}
use Rattle.tcmu_types.specs.Data.{DoneData}
use Rattle.tcmu_model.specs.Device.{Device}
use Rattle.tcmu_model.specs.Steps.{HandlerRelation, Run}
use Rattle.text_model.specs.Journals.{Journaled, RunLogs}
use Rattle.tcmu_types.specs.Lists.{Every}
use Rattle.tcmu_types.proofs.Everies.{every-front, every-back}

-- ---- runs

pub run_entries : (R : HandlerRelation) (d d' : Device) (js : List Journaled) → RunLogs R d js d' → Run R d (map (λ j. j.entry) js) d'
run_entries R d d' [] r = r
run_entries R d d' (j ∷ js) r = (r.0, r.1, run_entries R r.0 d' js r.3)

-- what holds of each completion of the log holds of those of the entries
pub completions_keep : (R : HandlerRelation) (P : DoneData → Type 0) (d d' : Device) (js : List Journaled) → RunLogs R d js d' → Every P d'.state.log → Every (λ j. Every P j.completions) js × Every P d.state.log
completions_keep R P d d' [] r h = (tt, subst (λ (x : Device). Every P x.state.log) r h)
completions_keep R P d d' (j ∷ js) r h =
    let rest = completions_keep R P r.0 d' js r.3 h in
    let both : Every P (d.state.log ++ j.completions) = subst (Every P) r.2 rest.1 in
    ((every-back P d.state.log j.completions both, rest.0), every-front P d.state.log j.completions both)

-- what holds of the items of each number holds of all
pub each_of : {X : Type 0} (number : X → ℕ) (P : X → Type 0) (n : ℕ) (xs : List X) → Every (λ x. number x < n) xs → ((k : ℕ) → k < n → Every P (filter (λ x. nat_eq (number x) k) xs)) → Every P xs
each_of number P n [] within h = tt
each_of {X} number P n (x ∷ xs) within h =
    let own : filter (λ y. nat_eq (number y) (number x)) (x ∷ xs) ≡ x ∷ filter (λ y. nat_eq (number y) (number x)) xs = cond-true _ _ _ (eq-eqb (number x) (number x) refl) in
    let first : Every P (x ∷ filter (λ y. nat_eq (number y) (number x)) xs) = subst (Every P) own (h (number x) within.0) in
    (first.0, each_of number P n xs within.1 (λ k lt. drop_first k (nat_eq (number x) k) (h k lt)))
  where
    drop_first : (k : ℕ) (b : Bool) → Every P (cond b (x ∷ filter (λ y. nat_eq (number y) k) xs) (filter (λ y. nat_eq (number y) k) xs)) → Every P (filter (λ y. nat_eq (number y) k) xs)
    drop_first k true p = p.1
    drop_first k false p = p
