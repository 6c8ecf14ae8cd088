-- Steps of the search for an iovec that lies outside.
use Rattle.std.proofs.Common.{◌≡◌, ℕ, suc, ◌+◌, ◌-◌, ◌<◌, ◌≤◌, List, Some, None, cond, refl, ap, ◌∙◌, sym, arith, true, false}
use Rattle.tcmu_types.specs.declared.iovec.Iov.{Iov}
use Rattle.region_model.specs.EntryReading.{iov_at, lies_inside, first_outside}

-- one step of the search
outside_step : (front : List ℕ) (b low high i n : ℕ) → i < n
    → first_outside front b low high i (n - i) ≡ cond (lies_inside low high (iov_at front b i)) (first_outside front b low high (i + 1) (n - (i + 1))) (Some i)
unfolding first_outside
outside_step front b low high i n h =
    let less : n - i ≡ suc (n - (i + 1)) = omega arith in
    ap (first_outside front b low high i) less

pub outside_hit : (front : List ℕ) (b low high i n : ℕ) (iov : Iov) → i < n → iov ≡ iov_at front b i → lies_inside low high iov ≡ false
    → first_outside front b low high i (n - i) ≡ Some i
outside_hit front b low high i n iov h is out =
    outside_step front b low high i n h
    ∙ ap (λ (x : Iov). cond (lies_inside low high x) (first_outside front b low high (i + 1) (n - (i + 1))) (Some i)) (sym is)
    ∙ rw out refl

pub outside_miss : (front : List ℕ) (b low high i n : ℕ) (iov : Iov) → i < n → iov ≡ iov_at front b i → lies_inside low high iov ≡ true
    → first_outside front b low high i (n - i) ≡ first_outside front b low high (i + 1) (n - (i + 1))
outside_miss front b low high i n iov h is inside =
    outside_step front b low high i n h
    ∙ ap (λ (x : Iov). cond (lies_inside low high x) (first_outside front b low high (i + 1) (n - (i + 1))) (Some i)) (sym is)
    ∙ rw inside refl

pub outside_end : (front : List ℕ) (b low high i n : ℕ) → n ≤ i → first_outside front b low high i (n - i) ≡ None
unfolding first_outside
outside_end front b low high i n h =
    let none : n - i ≡ 0 = omega arith in
    ap (first_outside front b low high i) none
