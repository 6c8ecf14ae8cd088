use Rattle.std.proofs.Common.{rules, ◌≡◌, ℕ, ◌<◌, ◌≤◌, true, false, ltb, List, length, get_or, ap, subst, arith}
use Rattle.std.specs.List.Sorted.{IsPartitionPoint}
use Rattle.std.proofs.lemmas.Bool.{ltb-true, ltb-false}
use Rattle.std.proofs.lemmas.List.Sorted.{IsPartitionPoint-from_clause, IsPartitionedBy-ltb}
use Rattle.tcmu_types.specs.Data.{Spared}
use Rattle.region_model.specs.Sides.{InHand}
use Rattle.ring_path.proofs.Rising.{nondecreasing}
use Rattle.ring_path.proofs.hand.Hand.first_from.Goals as goal

pub returns-clause-below : goal.returns-clause-below
returns-clause-below c =
    let us : List InHand = c.self.inside.jobs.items in
    let s = c.args.serial in
    let n = c.partition_point.result in
    let point : IsPartitionPoint (λ (u : InHand). ltb u.serial s ≡ true) (λ (u : InHand). ltb u.serial s ≡ false) us n = IsPartitionPoint-from_clause (λ (u : InHand). ltb u.serial s) us n c.partition_point.ensures.partitioned (IsPartitionedBy-ltb (λ (u : InHand). u.serial) us s (nondecreasing us c.self.invariant.rising)) (λ a r f' k. search rules) in
    subst (λ (xs : List InHand). (k : ℕ) (d : InHand) → k < n → (get_or xs k d).serial < s) (ap (λ (x : Spared InHand). x.items) c.self.view_is)
    (λ k d l. ltb-true (get_or us k d).serial s (point.0 k d (omega arith) l))

pub returns-clause-above : goal.returns-clause-above
returns-clause-above c =
    let us : List InHand = c.self.inside.jobs.items in
    let s = c.args.serial in
    let n = c.partition_point.result in
    let point : IsPartitionPoint (λ (u : InHand). ltb u.serial s ≡ true) (λ (u : InHand). ltb u.serial s ≡ false) us n = IsPartitionPoint-from_clause (λ (u : InHand). ltb u.serial s) us n c.partition_point.ensures.partitioned (IsPartitionedBy-ltb (λ (u : InHand). u.serial) us s (nondecreasing us c.self.invariant.rising)) (λ a r f' k. search rules) in
    subst (λ (xs : List InHand). (k : ℕ) (d : InHand) → n ≤ k → k < length xs → s ≤ (get_or xs k d).serial) (ap (λ (x : Spared InHand). x.items) c.self.view_is)
    (λ k d l m. ltb-false (get_or us k d).serial s (point.1 k d l m))
