-- The numbers of a load, from what was noted while it was played.
use Rattle.std.proofs.Common.{◌≡◌, ℕ, zero, suc, ◌+◌, Bool, true, false, cond, List, [], ◌∷◌, length, get_or, Option, Some, None, refl, sym, ap, ◌∙◌, subst, arith}
use Rattle.std.specs.List.{filter, sum_by}
use Rattle.std.proofs.lemmas.List.Sums.{sum_by-cons, length-filter}
use Rattle.tcmu_types.specs.Rules.{takes_payload}
use Rattle.tcmu_types.specs.Data.{CommandData, DoneData}
use Rattle.tcmu_types.specs.Events.{EntryData}
use Rattle.tcmu_model.specs.Device.{Device}
use Rattle.tcmu_model.specs.Steps.{HandlerRelation}
use Rattle.text_model.specs.Load.{accepted_as, moved_by, LoadNumbers, load_numbers}
use Rattle.load_run.specs.Tallies.{sizes_of, RunNumbers, is_good, moved_size, good_bytes, numbers_in}
use Rattle.load_run.proofs.Tallying.{known, none_before, size_at, counted}

moved_known : (o : Option CommandData) (e : DoneData) → moved_size (known o) e ≡ moved_by o e
moved_known None e = refl
moved_known (Some c) e = go (takes_payload c.cdb)
  where
    go : (b : Bool) → moved_size (cond b (Some (length c.sent)) None) e ≡ cond b (length c.sent) (length e.payload)
    go true = refl
    go false = refl

-- the size that is noted under a serial, from 0 on
noted_at : (R : HandlerRelation) (d d' : Device) (es : List EntryData) → RunNumbers R d es d' → d.state.accepted ≡ 0 → (s : ℕ) → get_or (None ∷ sizes_of es) s None ≡ known (accepted_as s es)
noted_at R d d' es h none zero = sym (ap known (none_before R d d' es h zero (omega (arith, none))))
noted_at R d d' es h none (suc s) =
    let at : d.state.accepted + suc s ≡ suc s = omega (arith, none) in
    sym (subst (λ (t : ℕ). known (accepted_as t es) ≡ get_or (sizes_of es) s None) at (size_at R d d' es h s))

summed : (b : Bool) (e : DoneData) (m n : ℕ) (f : DoneData → ℕ) (es : List DoneData) → m ≡ f e → n ≡ sum_by f es → cond b m 0 + n ≡ sum_by f (cond b (e ∷ es) es)
summed true e m n f es p q = omega (arith, p, q, sum_by-cons f e es)
summed false e m n f es p q = omega (arith, q)

sums : (sizes : List (Option ℕ)) (es : List EntryData) → ((e : DoneData) → moved_size (get_or sizes e.serial None) e ≡ moved_by (accepted_as e.serial es) e) → (log : List DoneData)
    → sum_by (good_bytes sizes) log ≡ sum_by (λ e. moved_by (accepted_as e.serial es) e) (filter is_good log)
sums sizes es same [] = refl
sums sizes es same (e ∷ log) =
    sum_by-cons (good_bytes sizes) e log ∙ summed (is_good e) e (moved_size (get_or sizes e.serial None) e) (sum_by (good_bytes sizes) log) (λ x. moved_by (accepted_as x.serial es) x) (filter is_good log) (same e) (sums sizes es same log)

same_numbers : (a b : LoadNumbers) → a.queued ≡ b.queued → a.good ≡ b.good → a.bytes ≡ b.bytes → a.unanswered ≡ b.unanswered → a ≡ b
same_numbers a b p q r s =
    ap (λ (x : ℕ). record { queued = x; good = a.good; bytes = a.bytes; unanswered = a.unanswered }) p
    ∙ ap (λ (x : ℕ). record { queued = b.queued; good = x; bytes = a.bytes; unanswered = a.unanswered }) q
    ∙ ap (λ (x : ℕ). record { queued = b.queued; good = b.good; bytes = x; unanswered = a.unanswered }) r
    ∙ ap (λ (x : ℕ). record { queued = b.queued; good = b.good; bytes = b.bytes; unanswered = x }) s

-- what was noted sums up to the load's numbers
pub numbers_are : (R : HandlerRelation) (d d' : Device) (es : List EntryData) (sizes : List (Option ℕ)) → RunNumbers R d es d' → d.state.accepted ≡ 0 → sizes ≡ None ∷ sizes_of es
    → numbers_in sizes d'.state ≡ load_numbers es d'.state
unfolding load_numbers
numbers_are R d d' es sizes h none e =
    let noted : (x : DoneData) → moved_size (get_or sizes x.serial None) x ≡ moved_by (accepted_as x.serial es) x =
    λ x. ap (λ (o : Option ℕ). moved_size o x) (ap (λ (l : List (Option ℕ)). get_or l x.serial None) e ∙ noted_at R d d' es h none x.serial) ∙ moved_known (accepted_as x.serial es) x in
    same_numbers _ _ (omega (arith, none, ap length e, counted R d d' es h)) (sym (length-filter is_good d'.state.log)) (sums sizes es noted d'.state.log) refl
