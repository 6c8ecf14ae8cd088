-- Where items end, item by item.
use Rattle.std.proofs.Common.{◌≡◌, ℕ, ◌+◌, ◌%◌, ◌<◌, ◌≤◌, ◌==◌, ◌||◌, true, false, List, ◌∷◌, length, drop, get_or, sym, ap, ◌∙◌}
use Rattle.std.proofs.lemmas.List.{drop_more, drop_all}
use Rattle.region_model.specs.Sides.{Recorded}
use Rattle.region_model.specs.TargetCleans.{ends_at}

-- the next item ends elsewhere
pub ends-next : (ring at tail i : ℕ) (xs : List Recorded) (x : Recorded) → i < length xs → x ≡ get_or xs i x → ((at + x.len) % ring == tail) ≡ false → ends_at ring ((at + x.len) % ring) (drop (i + 1) xs) tail ≡ ends_at ring at (drop i xs) tail
ends-next ring at tail i xs x h e n =
    let d : drop i xs ≡ x ∷ drop (i + 1) xs = drop_more xs i x h ∙ ap (λ (y : Recorded). y ∷ drop (i + 1) xs) (sym e) in
    sym (ap (λ ys. ends_at ring at ys tail) d ∙ ap (λ b. b || ends_at ring ((at + x.len) % ring) (drop (i + 1) xs) tail) n)

-- it ends there
pub ends-here : (ring at tail i : ℕ) (xs : List Recorded) (x : Recorded) → i < length xs → x ≡ get_or xs i x → ((at + x.len) % ring == tail) ≡ true → ends_at ring at (drop i xs) tail ≡ true
ends-here ring at tail i xs x h e n =
    let d : drop i xs ≡ x ∷ drop (i + 1) xs = drop_more xs i x h ∙ ap (λ (y : Recorded). y ∷ drop (i + 1) xs) (sym e) in
    ap (λ ys. ends_at ring at ys tail) d ∙ ap (λ b. b || ends_at ring ((at + x.len) % ring) (drop (i + 1) xs) tail) n

pub ends-none : (ring at tail i : ℕ) (xs : List Recorded) → length xs ≤ i → ends_at ring at (drop i xs) tail ≡ false
ends-none ring at tail i xs h = ap (λ ys. ends_at ring at ys tail) (drop_all i xs h)
