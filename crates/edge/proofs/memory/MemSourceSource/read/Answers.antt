use Rattle.std.proofs.Common.{◌∙◌, ◌≡◌, ◌+◌, ℕ, List, ◌++◌, Some, take, drop, sym, ap}
use Rattle.std.proofs.lemmas.List.{drop-drop, take-append-drop, take_rest}
use Rattle.edge.specs.Memory.{FromMemory}
use Rattle.edge.proofs.memory.MemSourceSource.read.Goals as goal

-- the piece taken and what is left are what was left before
pieced : (xs from into : List ℕ) (at n : ℕ) → from ≡ drop at xs → take n into ≡ take n from → drop at xs ≡ take n into ++ drop (at + n) xs
pieced xs from into at n e f = sym (rw f (rw e (rw (← drop-drop n at xs) (take-append-drop n (drop at xs)))))

pub returns-clause-takes : goal.returns-clause-takes
returns-clause-takes c =
    let xs = c.self.inside.bytes.items in
    let at = c.self.inside.at in
    ap (λ (v : FromMemory). Some v.left) (sym c.self.view_is)
    ∙ ap (λ (ys : List ℕ). Some ys) (pieced xs _ _ at c.copy_front-count.result (take_rest c.as_slice.result.now at ∙ ap (drop at) c.as_slice.ensures) c.copy_front-count.ensures.copied)
