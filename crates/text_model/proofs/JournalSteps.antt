-- Journals that are legal on each of several devices, one entry after another; and their events make the same entries again.
use Rattle.std.proofs.Common.{◌≡◌, ℕ, suc, ◌+◌, ◌<◌, Bool, true, false, nat_eq, List, [], ◌∷◌, ◌++◌, length, slice_get, slice_set, Some, None, refl, sym, ap, ◌∙◌, subst, arith}
use Rattle.std.specs.List.{filter}
use Rattle.std.proofs.lemmas.Bool.{eq-eqb, eqb-true, eqb-false, cond-true, cond-false}
use Rattle.std.proofs.lemmas.List.{length-set}
use Rattle.tcmu_types.specs.Lists.{Every}
use Rattle.tcmu_types.proofs.Places.{get_within, get_set, get_set_other}
use Rattle.tcmu_types.proofs.Readings.{same_some}
use Rattle.tcmu_model.specs.Device.{Device}
use Rattle.tcmu_model.specs.Drain.{drain_event}
use Rattle.tcmu_model.specs.Steps.{HandlerRelation, Step}
use Rattle.text_model.specs.Journals.{Journaled, is_of, entries_of, RunLogs, IsLegalEach}
use Rattle.text_model.specs.Replay.{lines_of, Plays}
use Rattle.text_model.specs.Several.{DrainsEach, ReplaysEach}

-- ---- the entries of one device

own : (k : ℕ) (j : Journaled) (js : List Journaled) → j.entry.device ≡ k → filter (is_of k) (j ∷ js) ≡ j ∷ filter (is_of k) js
own k j js e = cond-true _ _ _ (eq-eqb _ _ e)

other : (k : ℕ) (j : Journaled) (js : List Journaled) → nat_eq j.entry.device k ≡ false → filter (is_of k) (j ∷ js) ≡ filter (is_of k) js
other k j js e = cond-false _ _ _ e

-- ---- the first entry

-- the first entry is a step of its own device, and what follows is legal from there on
pub record FirstStep (R : HandlerRelation) (ds : List Device) (d : Device) (j : Journaled) (js : List Journaled) (ends : List Device) : Type 0 where
  pub mid : Device
  pub step : Step R d j.entry mid
  pub log : mid.state.log ≡ d.state.log ++ j.completions
  pub rest : IsLegalEach R (slice_set ds j.entry.device mid) js ends

pub first_step : (R : HandlerRelation) (ds : List Device) (d d' : Device) (j : Journaled) (js : List Journaled) (ends : List Device) → slice_get ds j.entry.device ≡ Some d → slice_get ends j.entry.device ≡ Some d'
    → IsLegalEach R ds (j ∷ js) ends → FirstStep R ds d j js ends
first_step R ds d d' j js ends at end legal =
    let k = j.entry.device in
    let run : RunLogs R d (j ∷ filter (is_of k) js) d' = subst (λ (xs : List Journaled). RunLogs R d xs d') (own k j js refl) (legal k d d' at end) in
    record { mid = run.0; step = run.1; log = run.2; rest = λ n a b p q. go run.0 run.3 n a b (nat_eq k n) refl p q }
  where
    go : (mid : Device) → RunLogs R mid (filter (is_of j.entry.device) js) d' → (n : ℕ) (a b : Device) (same : Bool) → nat_eq j.entry.device n ≡ same
        → slice_get (slice_set ds j.entry.device mid) n ≡ Some a → slice_get ends n ≡ Some b → RunLogs R a (filter (is_of n) js) b
    go mid run n a b true e p q =
        let is : j.entry.device ≡ n = eqb-true _ _ e in
        let here : a ≡ mid = same_some a mid (sym p ∙ ap (slice_get (slice_set ds j.entry.device mid)) (sym is) ∙ get_set ds j.entry.device d mid at) in
        let there : b ≡ d' = same_some b d' (sym q ∙ ap (slice_get ends) (sym is) ∙ end) in
        subst (λ (x : Device). RunLogs R x (filter (is_of n) js) b) (sym here) (subst (λ (x : Device). RunLogs R mid (filter (is_of n) js) x) (sym there) (subst (λ (m : ℕ). RunLogs R mid (filter (is_of m) js) d') is run))
    go mid run n a b false e p q =
        let before : slice_get ds n ≡ Some a = sym (get_set_other ds j.entry.device n mid (eqb-false _ _ e)) ∙ p in
        subst (λ (xs : List Journaled). RunLogs R a xs b) (other n j js e) (legal n a b before q)

-- lists of one length with the same items are the same
pub same_items : {X : Type 0} (xs ys : List X) → length xs ≡ length ys → ((at : ℕ) (x y : X) → slice_get xs at ≡ Some x → slice_get ys at ≡ Some y → y ≡ x) → ys ≡ xs
same_items [] [] l e = refl
same_items [] (y ∷ ys) l e = absurd (omega (arith, l))
same_items (x ∷ xs) [] l e = absurd (omega (arith, l))
same_items {X} (x ∷ xs) (y ∷ ys) l e =
    ap (λ (z : X). z ∷ ys) (e 0 x y refl refl) ∙ ap (λ (zs : List X). x ∷ zs) (same_items xs ys (omega (arith, l)) (λ at. e (suc at)))

-- ---- the events make the same entries

abbrev pub IsDone : Device → Type 0
IsDone d = drain_event d.state ≡ None

drains_nothing : (R : HandlerRelation) (at : ℕ) (ds : List Device) → Every IsDone ds → DrainsEach (Plays R) at ds [] ds
drains_nothing R at [] h = (refl, refl)
drains_nothing R at (d ∷ ds) h = ([], [], d, ds, refl, refl, (h.0, refl), drains_nothing R (at + 1) ds h.1)

pub made_again : (R : HandlerRelation) (ds : List Device) (js : List Journaled) (ends : List Device) → length ends ≡ length ds → Every (λ j. j.entry.device < length ds) js → IsLegalEach R ds js ends → Every IsDone ends → ReplaysEach (Plays R) ds (lines_of (entries_of js)) (entries_of js) ends
made_again R ds [] ends count within legal done =
    let same : ends ≡ ds = same_items ds ends (sym count) legal in
    subst (λ (xs : List Device). DrainsEach (Plays R) 0 ds [] xs) (sym same) (drains_nothing R 0 ds (subst (Every IsDone) same done))
made_again R ds (j ∷ js) ends count within legal done =
    let first = get_within ds j.entry.device within.0 in
    let last = get_within ends j.entry.device (omega (arith, within.0, count)) in
    let step = first_step R ds first.0 last.0 j js ends first.1 last.1 legal in
    let same = length-set ds j.entry.device step.mid in
    let rest = made_again R (slice_set ds j.entry.device step.mid) js ends (count ∙ sym same) (subst (λ (n : ℕ). Every (λ (x : Journaled). x.entry.device < n) js) (sym same) within.1) step.rest done in
    (j.entry ∷ [], entries_of js, first.0, step.mid, refl, first.1, (j.entry, refl, refl, step.step, refl), rest)
