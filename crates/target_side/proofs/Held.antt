-- The blocks of the commands that are left.
use Rattle.std.proofs.Common.{◌≡◌, ℕ, ◌+◌, ◌≤◌, eqb, Bool, true, false, List, [], ◌∷◌, ◌++◌, length, Some, not, refl, sym, ap, ◌∙◌, arith, subst, ⊎_elim, length-append}
use Rattle.std.specs.Prelude.{◌||◌, ◌&&◌}
use Rattle.std.proofs.lemmas.Bool.{cases_Bool, true≢false, or_right}
use Rattle.tcmu_types.specs.Lists.{first_of, with_first, without_first}
use Rattle.target_table.specs.Rows.{with_expired}
use Rattle.tcmu_types.specs.Numbers.{Differ, above_all, is_among}
use Rattle.region_model.specs.Sides.{PendingRow}
use Rattle.region_model.specs.TargetSteps.{blocks_held}
use Rattle.tcmu_types.proofs.Rises.{among-append, differ-right, differ_front}
use Rattle.ring_laws.proofs.placed.AnswerBlocks.{differ-split}
use Rattle.tcmu_model.proofs.ListsCleaned.{differ-fewer}
use Rattle.data_blocks.specs.Held.{AreHeld, Gave, HeldBlocks}
use Rattle.data_blocks.proofs.Chosen.{among-here, among-below, above_all-le}
use Rattle.target_side.specs.HeldRows.{HoldsJust}

-- the blocks of a command are among those of all
pub row_held : (p : PendingRow → Bool) (rows : List PendingRow) (e : PendingRow) (n : ℕ) → first_of p rows ≡ Some e → is_among e.pending.blocks n ≡ true → is_among (blocks_held rows) n ≡ true
row_held p [] e n f h = absurd (cc)
row_held p (x ∷ rows) e n f h =
    ⊎_elim
    (λ (k : p x ≡ true).
    let g : Some x ≡ Some e = rw k at f in
    let q : x ≡ e = cc in
    let i : is_among x.pending.blocks n ≡ true = subst (λ (y : PendingRow). is_among y.pending.blocks n ≡ true) (sym q) h in
    among-append x.pending.blocks (blocks_held rows) n ∙ ap (λ b. b || is_among (blocks_held rows) n) i)
    (λ (k : p x ≡ false).
    let g : first_of p rows ≡ Some e = rw k at f in
    among-append x.pending.blocks (blocks_held rows) n ∙ (ap (λ b. is_among x.pending.blocks n || b) (row_held p rows e n g h) ∙ or_true (is_among x.pending.blocks n)))
    (cases_Bool (p x))
  where
    or_true : (a : Bool) → (a || true) ≡ true
    or_true true = refl
    or_true false = refl

first_left : (a b : Bool) → (a ≡ true → b ≡ false) → b ≡ ((a || b) && not a)
first_left true b h = h refl
first_left false true h = refl
first_left false false h = refl

later_left : (a b c : Bool) → (c ≡ true → b ≡ true) → (b ≡ true → a ≡ false) → (a || (b && not c)) ≡ ((a || b) && not c)
later_left true true c h g = absurd (true≢false (g refl))
later_left true false true h g = absurd (true≢false (sym (h refl)))
later_left true false false h g = refl
later_left false b c h g = refl

-- a number is held by what is left just where it was held, and not by what is taken out
pub left_among : (p : PendingRow → Bool) (rows : List PendingRow) (e : PendingRow) (n : ℕ) → Differ (blocks_held rows) → first_of p rows ≡ Some e →
    is_among (blocks_held (without_first p rows)) n ≡ (is_among (blocks_held rows) n && not (is_among e.pending.blocks n))
left_among p [] e n d f = absurd (cc)
left_among p (x ∷ rows) e n d f =
    let xs : List ℕ = x.pending.blocks in
    let ys : List ℕ = blocks_held rows in
    let apart : is_among ys n ≡ true → is_among xs n ≡ false = differ-split xs ys n d in
    ⊎_elim
    (λ (k : p x ≡ true).
    let g : Some x ≡ Some e = rw k at f in
    let q : x ≡ e = cc in
    let t : is_among ys n ≡ (is_among (xs ++ ys) n && not (is_among xs n)) = first_left (is_among xs n) (is_among ys n) (turn (is_among xs n) (is_among ys n) apart) ∙ ap (λ b. b && not (is_among xs n)) (sym (among-append xs ys n)) in
    rw k (subst (λ (y : PendingRow). is_among ys n ≡ (is_among (xs ++ ys) n && not (is_among y.pending.blocks n))) q t))
    (λ (k : p x ≡ false).
    let g : first_of p rows ≡ Some e = rw k at f in
    let i : is_among (blocks_held (without_first p rows)) n ≡ (is_among ys n && not (is_among e.pending.blocks n)) = left_among p rows e n (differ-right xs ys d) g in
    let t : is_among (xs ++ blocks_held (without_first p rows)) n ≡ (is_among (xs ++ ys) n && not (is_among e.pending.blocks n)) =
    among-append xs (blocks_held (without_first p rows)) n ∙ (ap (λ b. is_among xs n || b) i ∙ (later_left (is_among xs n) (is_among ys n) (is_among e.pending.blocks n) (row_held p rows e n g) apart ∙ ap (λ b. b && not (is_among e.pending.blocks n)) (sym (among-append xs ys n)))) in
    rw k t)
    (cases_Bool (p x))
  where
    turn : (a b : Bool) → (b ≡ true → a ≡ false) → a ≡ true → b ≡ false
    turn a true h e = absurd (true≢false (sym e ∙ h refl))
    turn a false h e = refl

pub left_length : (p : PendingRow → Bool) (rows : List PendingRow) (e : PendingRow) → first_of p rows ≡ Some e → length (blocks_held (without_first p rows)) + length e.pending.blocks ≡ length (blocks_held rows)
left_length p [] e f = absurd (cc)
left_length p (x ∷ rows) e f =
    let all : length (x.pending.blocks ++ blocks_held rows) ≡ length x.pending.blocks + length (blocks_held rows) = length-append x.pending.blocks (blocks_held rows) in
    ⊎_elim
    (λ (k : p x ≡ true).
    let g : Some x ≡ Some e = rw k at f in
    let q : x ≡ e = cc in
    let t : length (blocks_held rows) + length x.pending.blocks ≡ length (x.pending.blocks ++ blocks_held rows) = omega (arith, all) in
    rw k (subst (λ (y : PendingRow). length (blocks_held rows) + length y.pending.blocks ≡ length (x.pending.blocks ++ blocks_held rows)) q t))
    (λ (k : p x ≡ false).
    let g : first_of p rows ≡ Some e = rw k at f in
    let i : length (blocks_held (without_first p rows)) + length e.pending.blocks ≡ length (blocks_held rows) = left_length p rows e g in
    let l : length (x.pending.blocks ++ blocks_held (without_first p rows)) ≡ length x.pending.blocks + length (blocks_held (without_first p rows)) = length-append x.pending.blocks (blocks_held (without_first p rows)) in
    let t : length (x.pending.blocks ++ blocks_held (without_first p rows)) + length e.pending.blocks ≡ length (x.pending.blocks ++ blocks_held rows) = omega (arith, all, i, l) in
    rw k t)
    (cases_Bool (p x))

left_none : (p : PendingRow → Bool) (rows : List PendingRow) (n : ℕ) → is_among (blocks_held rows) n ≡ false → is_among (blocks_held (without_first p rows)) n ≡ false
left_none p [] n h = h
left_none p (x ∷ rows) n h =
    let s : (is_among x.pending.blocks n || is_among (blocks_held rows) n) ≡ false = sym (among-append x.pending.blocks (blocks_held rows) n) ∙ h in
    ⊎_elim
    (λ (k : p x ≡ true). rw k (right (is_among x.pending.blocks n) (is_among (blocks_held rows) n) s))
    (λ (k : p x ≡ false).
    let t : is_among (x.pending.blocks ++ blocks_held (without_first p rows)) n ≡ false =
    among-append x.pending.blocks (blocks_held (without_first p rows)) n ∙ (ap (λ b. is_among x.pending.blocks n || b) (left_none p rows n (right (is_among x.pending.blocks n) (is_among (blocks_held rows) n) s)) ∙ left (is_among x.pending.blocks n) (is_among (blocks_held rows) n) s) in
    rw k t)
    (cases_Bool (p x))
  where
    right : (a b : Bool) → (a || b) ≡ false → b ≡ false
    right true b h = absurd (true≢false h)
    right false b h = h

    left : (a b : Bool) → (a || b) ≡ false → (a || false) ≡ false
    left true b h = absurd (true≢false h)
    left false b h = refl

pub left_differ : (p : PendingRow → Bool) (rows : List PendingRow) → Differ (blocks_held rows) → Differ (blocks_held (without_first p rows))
left_differ p [] d = d
left_differ p (x ∷ rows) d =
    let xs : List ℕ = x.pending.blocks in
    let ys : List ℕ = blocks_held rows in
    ⊎_elim
    (λ (k : p x ≡ true). rw k (differ-right xs ys d))
    (λ (k : p x ≡ false).
    let t : Differ (xs ++ blocks_held (without_first p rows)) = differ-fewer xs ys (blocks_held (without_first p rows)) d (left_differ p rows (differ-right xs ys d)) (left_none p rows) in
    rw k t)
    (cases_Bool (p x))

-- each block of a command is held, once
pub held_each : (held ns : List ℕ) → Differ ns → ((n : ℕ) → is_among ns n ≡ true → is_among held n ≡ true) → AreHeld held ns
held_each held [] d h = tt
held_each held (n ∷ ns) d h = (h n (here n ns), d.0, held_each held ns d.1 (λ m i. h m (there n ns m i)))
  where
    here : (n : ℕ) (ns : List ℕ) → is_among (n ∷ ns) n ≡ true
    here n ns = among-here n ns n refl

    there : (n : ℕ) (ns : List ℕ) (m : ℕ) → is_among ns m ≡ true → is_among (n ∷ ns) m ≡ true
    there n ns m i = or_right (eqb n m) (is_among ns m) i

row_differ : (p : PendingRow → Bool) (rows : List PendingRow) (e : PendingRow) → Differ (blocks_held rows) → first_of p rows ≡ Some e → Differ e.pending.blocks
row_differ p [] e d f = absurd (cc)
row_differ p (x ∷ rows) e d f =
    ⊎_elim
    (λ (k : p x ≡ true). let g : Some x ≡ Some e = rw k at f in let q : x ≡ e = cc in subst (λ (y : PendingRow). Differ y.pending.blocks) q (differ_front x.pending.blocks (blocks_held rows) d))
    (λ (k : p x ≡ false). let g : first_of p rows ≡ Some e = rw k at f in row_differ p rows e (differ-right x.pending.blocks (blocks_held rows) d) g)
    (cases_Bool (p x))

pub are_held : (held : List ℕ) (p : PendingRow → Bool) (rows : List PendingRow) (e : PendingRow) → HoldsJust held rows → first_of p rows ≡ Some e → AreHeld held e.pending.blocks
are_held held p rows e h f = held_each held e.pending.blocks (row_differ p rows e h.differ f) (λ n i. h.numbers n ∙ row_held p rows e n f i)

-- what is above all numbers follows from what stands among them
pub same_end : (xs ys : List ℕ) → ((n : ℕ) → is_among xs n ≡ is_among ys n) → above_all xs ≡ above_all ys
same_end xs ys h =
    let a : above_all xs ≤ above_all ys = above_all-le xs (above_all ys) (λ m k. among-below ys m (sym (h m) ∙ k)) in
    let b : above_all ys ≤ above_all xs = above_all-le ys (above_all xs) (λ m k. among-below xs m (h m ∙ k)) in
    omega (arith, a, b)

-- the command that is found is taken out, and its blocks are given back
pub just_left : (b after : HeldBlocks) (p : PendingRow → Bool) (rows : List PendingRow) (e : PendingRow) → HoldsJust b.held rows → first_of p rows ≡ Some e → Gave b e.pending.blocks after → HoldsJust after.held (without_first p rows)
just_left b after p rows e h f g =
    let l = left_length p rows e f in
    let c = g.count in
    let k = h.count in
    record {
      numbers = λ n. g.held n ∙ (ap (λ (x : Bool). x && not (is_among e.pending.blocks n)) (h.numbers n) ∙ sym (left_among p rows e n h.differ f));
      count = omega (arith, l, c, k);
      differ = left_differ p rows h.differ;
    }

-- the command that is found expires, and keeps its blocks
pub held_with_expired : (p : PendingRow → Bool) (rows : List PendingRow) → blocks_held (with_first p with_expired rows) ≡ blocks_held rows
held_with_expired p [] = refl
held_with_expired p (x ∷ rows) =
    ⊎_elim
    (λ (k : p x ≡ true). rw k refl)
    (λ (k : p x ≡ false). rw k (ap (λ ys. x.pending.blocks ++ ys) (held_with_expired p rows)))
    (cases_Bool (p x))

pub just_held : (held : List ℕ) (rows after : List PendingRow) → HoldsJust held rows → blocks_held after ≡ blocks_held rows → HoldsJust held after
just_held held rows after h e =
    record { numbers = λ n. h.numbers n ∙ ap (λ xs. is_among xs n) (sym e); count = h.count ∙ ap (λ (xs : List ℕ). length xs) (sym e); differ = subst Differ (sym e) h.differ }
