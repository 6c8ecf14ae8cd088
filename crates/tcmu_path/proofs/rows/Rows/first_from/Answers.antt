use Rattle.std.proofs.Common.{rules, ◌≡◌, ℕ, ◌<◌, ◌≤◌, true, false, ltb, List, length, get_or, ap, subst, arith}
use Rattle.std.specs.List.Sorted.{IsPartitionPoint}
use Rattle.std.proofs.lemmas.Bool.{ltb-true, ltb-false}
use Rattle.std.proofs.lemmas.List.Sorted.{IsPartitionPoint-from_clause, IsPartitionedBy-ltb}
use Rattle.tcmu_types.specs.Data.{Spared}
use Rattle.tcmu_model.specs.Device.{Unfinished}
use Rattle.tcmu_path.proofs.Rising.{nondecreasing}
use Rattle.tcmu_path.proofs.rows.Rows.first_from.Goals as goal

pub returns-clause-below : goal.returns-clause-below
returns-clause-below c =
    let us : List Unfinished = c.self.inside.rows.items in
    let s = c.args.serial in
    let n = c.partition_point.result in
    let point : IsPartitionPoint (λ (u : Unfinished). ltb u.serial s ≡ true) (λ (u : Unfinished). ltb u.serial s ≡ false) us n = IsPartitionPoint-from_clause (λ (u : Unfinished). ltb u.serial s) us n c.partition_point.ensures.partitioned (IsPartitionedBy-ltb (λ (u : Unfinished). u.serial) us s (nondecreasing us c.self.invariant.rising)) (λ a r f' k. search rules) in
    subst (λ (xs : List Unfinished). (k : ℕ) (d : Unfinished) → k < n → (get_or xs k d).serial < s) (ap (λ (x : Spared Unfinished). x.items) c.self.view_is)
    (λ k d l. ltb-true (get_or us k d).serial s (point.0 k d (omega arith) l))

pub returns-clause-above : goal.returns-clause-above
returns-clause-above c =
    let us : List Unfinished = c.self.inside.rows.items in
    let s = c.args.serial in
    let n = c.partition_point.result in
    let point : IsPartitionPoint (λ (u : Unfinished). ltb u.serial s ≡ true) (λ (u : Unfinished). ltb u.serial s ≡ false) us n = IsPartitionPoint-from_clause (λ (u : Unfinished). ltb u.serial s) us n c.partition_point.ensures.partitioned (IsPartitionedBy-ltb (λ (u : Unfinished). u.serial) us s (nondecreasing us c.self.invariant.rising)) (λ a r f' k. search rules) in
    subst (λ (xs : List Unfinished). (k : ℕ) (d : Unfinished) → n ≤ k → k < length xs → s ≤ (get_or xs k d).serial) (ap (λ (x : Spared Unfinished). x.items) c.self.view_is)
    (λ k d l m. ltb-false (get_or us k d).serial s (point.1 k d l m))
