use Rattle.std.proofs.Common.{◌∙◌, List, ℕ, Result, Ok, Err, OnErr, Some, take, drop, length, sym, ap}
use Rattle.tcmu_types.proofs.Overwriting.{length_piece, overwritten_same}
use Rattle.edge.specs.Stores.{Spoils}
use Rattle.edge.specs.Memory.{StoreInMemory}
use Rattle.edge.proofs.memory_store.MemStoreStore.write_at.Goals as goal

on_err : {T E : Type 0} (r : Result T E) (P : Type 0) → P → OnErr r P
on_err (Ok x) P p = tt
on_err (Err e) P p = p

-- a failed call puts back what stood there
pub returns-in_err-begin-clause-failed : goal.returns-in_err-begin-clause-failed
returns-in_err-begin-clause-failed c =
    let at = c.args.at in
    let xs = c.args.self.now.bytes in
    let n = length c.args.piece.now in
    let same = ap (λ (s : StoreInMemory). s.bytes) c.self.view_is in
    let spoiled : Spoils at n (Some xs) (Some c.self.inside.bytes.items) =
    (take n (drop at xs), length_piece at n xs c.requires, ap (λ (ys : List ℕ). Some ys) (same ∙ sym (overwritten_same at n xs c.requires))) in
    on_err _ _ spoiled
