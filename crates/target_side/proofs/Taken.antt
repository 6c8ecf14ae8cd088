-- Blocks that are taken for a command, and given back.
use Rattle.std.proofs.Common.{◌≡◌, ℕ, ◌+◌, ◌-◌, ◌≤◌, cond, ltb, max, Bool, true, false, not, List, [], ◌∷◌, ◌++◌, length, take, refl, sym, ap, ◌∙◌, arith, subst, length-append}
use Rattle.std.specs.Prelude.{◌||◌, ◌&&◌}
use Rattle.std.proofs.lemmas.Bool.{le-ltb, or_left}
use Rattle.tcmu_types.specs.Numbers.{Differ, above_all, is_among}
use Rattle.tcmu_types.proofs.Everies.{every-weaker}
use Rattle.tcmu_types.proofs.Rises.{among-append}
use Rattle.tcmu_model.specs.BlockLists.{least_free}
use Rattle.tcmu_model.proofs.ListsLaid.{differ-append}
use Rattle.tcmu_model.proofs.FreeBlocks.{IsFree, least-are, least-differ}
use Rattle.data_blocks.specs.Held.{AreHeld, Gave, HeldBlocks, Took}
use Rattle.data_blocks.proofs.Chosen.{above_all-le, free-chosen}
use Rattle.data_blocks.proofs.Least.{least-is-free}
use Rattle.region_model.specs.Sides.{PendingRow}
use Rattle.region_model.specs.TargetSteps.{blocks_held}
use Rattle.ring_laws.proofs.PendingRows.{held_push}
use Rattle.target_side.specs.HeldRows.{HoldsJust, HoldsMore, HoldsSame}
use Rattle.target_side.proofs.Held.{held_each}

-- the least free numbers follow from what is held
pub same_least : (limit : ℕ) (xs ys : List ℕ) (n : ℕ) → ((m : ℕ) → is_among xs m ≡ is_among ys m) → least_free limit xs n ≡ least_free limit ys n
same_least limit xs ys n h =
    ap (λ zs. take n zs) (free-chosen (is_among ys) xs 0 limit (λ j a b. h j) ∙ sym (free-chosen (is_among ys) ys 0 limit (λ j a b. refl)))

pub least_end : (limit : ℕ) (held : List ℕ) (n : ℕ) → above_all (least_free limit held n) ≤ limit
least_end limit held n = above_all-le (least_free limit held n) limit (λ m k. (least-is-free limit held n m k).0)

pub holds_more : (b after : HeldBlocks) (ns : List ℕ) → Took b ns after → HoldsMore b ns after
holds_more b after ns t = record { limit = t.limit; held = t.held; count = t.count }

-- what was taken can be given back
pub can_give : (b mid : HeldBlocks) (n : ℕ) → Took b (least_free b.limit b.held n) mid → AreHeld mid.held (least_free b.limit b.held n)
can_give b mid n t =
    let ns : List ℕ = least_free b.limit b.held n in
    held_each mid.held ns (least-differ b.limit b.held n) (λ m i. t.held m ∙ or_left (is_among ns m) (is_among b.held m) i)

given : (a b : Bool) → (a ≡ true → b ≡ false) → ((a || b) && not a) ≡ b
given true b h = sym (h refl)
given false true h = refl
given false false h = refl

pub holds_same : (b mid after : HeldBlocks) (n : ℕ) → Took b (least_free b.limit b.held n) mid → Gave mid (least_free b.limit b.held n) after → HoldsSame b after
holds_same b mid after n t g =
    let ns : List ℕ = least_free b.limit b.held n in
    let c = t.count in
    let d = g.count in
    record {
      limit = g.limit ∙ t.limit;
      held = λ m. g.held m ∙ (ap (λ x. x && not (is_among ns m)) (t.held m) ∙ given (is_among ns m) (is_among b.held m) (λ i. (least-is-free b.limit b.held n m i).1));
      count = omega (arith, c, d);
    }

-- just the commands' blocks are held
pub just_same : (b after : HeldBlocks) (rows : List PendingRow) → HoldsJust b.held rows → HoldsSame b after → HoldsJust after.held rows
just_same b after rows h s = record { numbers = λ n. s.held n ∙ h.numbers n; count = s.count ∙ h.count; differ = h.differ }

or_turn : (a b : Bool) → (a || b) ≡ (b || a)
or_turn true true = refl
or_turn true false = refl
or_turn false true = refl
or_turn false false = refl

pub just_more : (b after : HeldBlocks) (rows : List PendingRow) (e : PendingRow) (n : ℕ) → HoldsJust b.held rows → HoldsMore b (least_free b.limit b.held n) after → e.pending.blocks ≡ least_free b.limit b.held n →
    HoldsJust after.held (rows ++ e ∷ [])
just_more b after rows e n h m q =
    let hs : List ℕ = blocks_held rows in
    let ns : List ℕ = least_free b.limit b.held n in
    let all : blocks_held (rows ++ e ∷ []) ≡ hs ++ ns = held_push rows e ∙ ap (λ xs. hs ++ xs) q in
    let len : length (hs ++ ns) ≡ length hs + length ns = length-append hs ns in
    let c = m.count in
    let k = h.count in
    record {
      numbers = λ i. m.held i ∙ (ap (λ x. is_among ns i || x) (h.numbers i) ∙ (or_turn (is_among ns i) (is_among hs i) ∙ (sym (among-append hs ns i) ∙ ap (λ xs. is_among xs i) (sym all))));
      count = omega (arith, c, k, len, ap length all);
      differ = subst Differ (sym all)
          (differ-append hs ns h.differ (least-differ b.limit b.held n)
          (every-weaker (IsFree b.held 0 (0 + b.limit)) (λ i. is_among hs i ≡ false) ns (λ i f. sym (h.numbers i) ∙ f.free) (least-are b.limit b.held n)));
    }

pub just_added : (b after : HeldBlocks) (rows reserved_rows added : List PendingRow) (e : PendingRow) (n : ℕ) → added ≡ reserved_rows ++ e ∷ [] → reserved_rows ≡ rows → HoldsJust b.held rows → HoldsMore b (least_free b.limit b.held n) after →
    e.pending.blocks ≡ least_free b.limit b.held n → HoldsJust after.held added
just_added b after rows reserved_rows added e n a r h m q = subst (HoldsJust after.held) (sym (a ∙ ap (λ xs. xs ++ e ∷ []) r)) (just_more b after rows e n h m q)

-- ==== blocks that are promised, taken, and perhaps given back

pub record Reserved (b : HeldBlocks) (n : ℕ) (after : HeldBlocks) : Type 0 where
  pub limit : after.limit ≡ b.limit
  pub held : after.held ≡ b.held
  pub room : n ≤ after.spare

pub reserved : (b after : HeldBlocks) (n : ℕ) → length b.held + n ≤ b.limit → after ≡ cond (ltb (b.limit - length b.held) n) b (record b { spare = max b.spare n }) → Reserved b n after
reserved b after n h e =
    let enough : ltb (b.limit - length b.held) n ≡ false = le-ltb (b.limit - length b.held) n (omega (arith, h)) in
    let is : after ≡ record b { spare = max b.spare n } = e ∙ ap (λ x. cond x b (record b { spare = max b.spare n })) enough in
    let s : after.spare ≡ max b.spare n = ap (λ (x : HeldBlocks). x.spare) is in
    record { limit = ap (λ (x : HeldBlocks). x.limit) is; held = ap (λ (x : HeldBlocks). x.held) is; room = omega (arith, s) }

pub least_same : (b mid : HeldBlocks) (n : ℕ) → Reserved b n mid → least_free mid.limit mid.held n ≡ least_free b.limit b.held n
least_same b mid n r = ap (λ k. least_free k mid.held n) r.limit ∙ ap (λ hs. least_free b.limit hs n) r.held

pub more_held : (b mid after : HeldBlocks) (n : ℕ) → Reserved b n mid → Took mid (least_free mid.limit mid.held n) after → HoldsMore b (least_free b.limit b.held n) after
more_held b mid after n r t =
    let e = least_same b mid n r in
    let c = t.count in
    let h = ap (λ (xs : List ℕ). length xs) r.held in
    let l = ap (λ (xs : List ℕ). length xs) e in
    record {
      limit = t.limit ∙ r.limit;
      held = λ m. t.held m ∙ (ap (λ xs. is_among xs m || is_among mid.held m) e ∙ ap (λ xs. is_among (least_free b.limit b.held n) m || is_among xs m) r.held);
      count = omega (arith, c, h, l);
    }

pub same_held : (b mid took after : HeldBlocks) (n : ℕ) → Reserved b n mid → Took mid (least_free mid.limit mid.held n) took → Gave took (least_free mid.limit mid.held n) after → HoldsSame b after
same_held b mid took after n r t g =
    let s : HoldsSame mid after = holds_same mid took after n t g in
    record { limit = s.limit ∙ r.limit; held = λ m. s.held m ∙ ap (λ xs. is_among xs m) r.held; count = s.count ∙ ap (λ (xs : List ℕ). length xs) r.held }

-- the area that they need is small
pub end_fits : (b mid : HeldBlocks) (n : ℕ) → Reserved b n mid → b.limit ≤ 4096 → above_all (least_free mid.limit mid.held n) ≤ 4096
end_fits b mid n r h = let l = least_end mid.limit mid.held n in let e = r.limit in omega (arith, l, e, h)
