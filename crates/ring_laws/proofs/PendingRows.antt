-- The rows of the target, whatever bytes it reads: one is added under a free id with free blocks, one is taken out, some expire.
use Rattle.std.proofs.Common.{◌≡◌, ℕ, ◌+◌, ◌-◌, ◌<◌, ◌≤◌, Bool, true, false, List, [], ◌∷◌, ◌++◌, length, map, refl, sym, ap, ◌∙◌, arith, subst, ⊎_elim, append_assoc, append-nil, length-append}
use Rattle.std.proofs.lemmas.Bool.{cases_Bool, or_parts}
use Rattle.std.proofs.lemmas.List.{map-append}
use Rattle.tcmu_types.specs.Lists.{without_first, Every}
use Rattle.tcmu_types.specs.Numbers.{is_among, Differ}
use Rattle.tcmu_model.specs.BlockLists.{least_free}
use Rattle.region_model.specs.Sides.{PendingRow}
use Rattle.region_model.specs.Represents.{IsId}
use Rattle.region_model.specs.TargetSteps.{blocks_held, is_due_at, expired_at}
use Rattle.tcmu_types.proofs.Everies.{every-append, every-front, every-back, every-weaker, every-map, every-without_first, map_kept}
use Rattle.tcmu_types.proofs.Rises.{among-append, differ-push}
use Rattle.ring_laws.specs.Calls.{RowsSound}
use Rattle.tcmu_model.proofs.FreeBlocks.{IsFree, length-least_free, least-are, least-differ}
use Rattle.tcmu_model.proofs.ListsLaid.{differ-append}
use Rattle.tcmu_model.proofs.ListsCleaned.{differ-fewer}
use Rattle.tcmu_types.proofs.Rises.{differ-right}
use Rattle.ring_laws.proofs.TakenOut.{differ-left}

pub no_rows : (limit : ℕ) → RowsSound limit []
no_rows limit = record { range = tt; ids = tt; blocks = tt; below = tt; room = omega arith }

-- ==== one is added

pub held_push : (rows : List PendingRow) (e : PendingRow) → blocks_held (rows ++ e ∷ []) ≡ blocks_held rows ++ e.pending.blocks
held_push [] e = append-nil e.pending.blocks
held_push (x ∷ rows) e = ap (λ bs. x.pending.blocks ++ bs) (held_push rows e) ∙ sym (append_assoc x.pending.blocks (blocks_held rows) e.pending.blocks)

pub rows_push : (limit n : ℕ) (rows : List PendingRow) (e : PendingRow) → RowsSound limit rows → IsId e.id → is_among (map (λ (x : PendingRow). x.id) rows) e.id ≡ false →
    e.pending.blocks ≡ least_free limit (blocks_held rows) n → n ≤ limit - length (blocks_held rows) → RowsSound limit (rows ++ e ∷ [])
rows_push limit n rows e h isid free given fits =
    let hs : List ℕ = blocks_held rows in
    let bs : List ℕ = least_free limit hs n in
    let room : length hs ≤ limit = h.room in
    let are : Every (IsFree hs 0 (0 + limit)) bs = least-are limit hs n in
    let held : blocks_held (rows ++ e ∷ []) ≡ hs ++ bs = held_push rows e ∙ ap (λ xs. hs ++ xs) given in
    let len : length (hs ++ bs) ≡ length hs + length bs = length-append hs bs in
    let count : length bs ≡ n = length-least_free limit hs n (omega arith) in
    record {
      range = every-append (λ (x : PendingRow). IsId x.id) rows (e ∷ []) h.range (isid, tt);
      ids = subst Differ (sym (map-append (λ (x : PendingRow). x.id) rows (e ∷ []))) (differ-push (map (λ (x : PendingRow). x.id) rows) e.id h.ids free);
      blocks = subst Differ (sym held) (differ-append hs bs h.blocks (least-differ limit hs n) (every-weaker (IsFree hs 0 (0 + limit)) (λ b. is_among hs b ≡ false) bs (λ b f. f.free) are));
      below = subst (λ (xs : List ℕ). Every (λ b. b < limit) xs) (sym held)
          (every-append (λ b. b < limit) hs bs h.below (every-weaker (IsFree hs 0 (0 + limit)) (λ b. b < limit) bs (λ b f. let k : b < 0 + limit = f.high_ in omega arith) are));
      room = omega (arith, ap length held, len, count, room, fits);
    }

-- ==== one is taken out

held_none : (p : PendingRow → Bool) (rows : List PendingRow) (b : ℕ) → is_among (blocks_held rows) b ≡ false → is_among (blocks_held (without_first p rows)) b ≡ false
held_none p [] b h = refl
held_none p (e ∷ rows) b h =
    let t = or_parts (is_among e.pending.blocks b) (is_among (blocks_held rows) b) (sym (among-append e.pending.blocks (blocks_held rows) b) ∙ h) in
    ⊎_elim
    (λ (k : p e ≡ true). rw k t.1)
    (λ (k : p e ≡ false).
    let z : is_among (e.pending.blocks ++ blocks_held (without_first p rows)) b ≡ false = among-append e.pending.blocks (blocks_held (without_first p rows)) b ∙ rw t.0 (held_none p rows b t.1) in rw k z)
    (cases_Bool (p e))

held_differ : (p : PendingRow → Bool) (rows : List PendingRow) → Differ (blocks_held rows) → Differ (blocks_held (without_first p rows))
held_differ p [] d = tt
held_differ p (e ∷ rows) d =
    let back : Differ (blocks_held rows) = differ-right e.pending.blocks (blocks_held rows) d in
    ⊎_elim
    (λ (k : p e ≡ true). rw k back)
    (λ (k : p e ≡ false).
    let z : Differ (e.pending.blocks ++ blocks_held (without_first p rows)) = differ-fewer e.pending.blocks (blocks_held rows) (blocks_held (without_first p rows)) d (held_differ p rows back) (λ b h. held_none p rows b h) in
    rw k z)
    (cases_Bool (p e))

pub held_every : (P : ℕ → Type 0) (p : PendingRow → Bool) (rows : List PendingRow) → Every P (blocks_held rows) → Every P (blocks_held (without_first p rows))
held_every P p [] h = tt
held_every P p (e ∷ rows) h =
    let back : Every P (blocks_held rows) = every-back P e.pending.blocks (blocks_held rows) h in
    ⊎_elim
    (λ (k : p e ≡ true). rw k back)
    (λ (k : p e ≡ false).
    let z : Every P (e.pending.blocks ++ blocks_held (without_first p rows)) = every-append P e.pending.blocks (blocks_held (without_first p rows)) (every-front P e.pending.blocks (blocks_held rows) h) (held_every P p rows back) in
    rw k z)
    (cases_Bool (p e))

held_less : (p : PendingRow → Bool) (rows : List PendingRow) → length (blocks_held (without_first p rows)) ≤ length (blocks_held rows)
held_less p [] = omega arith
held_less p (e ∷ rows) =
    let a : length (e.pending.blocks ++ blocks_held rows) ≡ length e.pending.blocks + length (blocks_held rows) = length-append e.pending.blocks (blocks_held rows) in
    let b : length (e.pending.blocks ++ blocks_held (without_first p rows)) ≡ length e.pending.blocks + length (blocks_held (without_first p rows)) = length-append e.pending.blocks (blocks_held (without_first p rows)) in
    let z : length (e.pending.blocks ++ blocks_held (without_first p rows)) ≤ length (e.pending.blocks ++ blocks_held rows) = omega (arith, a, b, held_less p rows) in
    let y : length (blocks_held rows) ≤ length (e.pending.blocks ++ blocks_held rows) = omega (arith, a) in
    ⊎_elim
    (λ (k : p e ≡ true). rw k y)
    (λ (k : p e ≡ false). rw k z)
    (cases_Bool (p e))

pub rows_without : (limit : ℕ) (p : PendingRow → Bool) (rows : List PendingRow) → RowsSound limit rows → RowsSound limit (without_first p rows)
rows_without limit p rows h =
    record {
      range = every-without_first p (λ (e : PendingRow). IsId e.id) rows h.range;
      ids = differ-left (λ (e : PendingRow). e.id) p rows h.ids;
      blocks = held_differ p rows h.blocks;
      below = held_every (λ n. n < limit) p rows h.below;
      room = omega (arith, held_less p rows, h.room);
    }

-- ==== some expire

pub record OnlyExpires (now : ℕ) (e : PendingRow) : Type 0 where
  pub id : (expired_at now e).id ≡ e.id
  pub serial : (expired_at now e).pending.serial ≡ e.pending.serial
  pub blocks : (expired_at now e).pending.blocks ≡ e.pending.blocks
  pub init : (expired_at now e).pending.init ≡ e.pending.init
  pub tag : (expired_at now e).pending.tag ≡ e.pending.tag
  pub in_len : (expired_at now e).pending.in_len ≡ e.pending.in_len

pub only_expires : (now : ℕ) (e : PendingRow) → OnlyExpires now e
only_expires now e =
    record {
      id = same (λ x. x.id) refl;
      serial = same (λ x. x.pending.serial) refl;
      blocks = same (λ x. x.pending.blocks) refl;
      init = same (λ x. x.pending.init) refl;
      tag = same (λ x. x.pending.tag) refl;
      in_len = same (λ x. x.pending.in_len) refl;
    }
  where
    same : {X : Type 0} (f : PendingRow → X) → f (record e { pending = record e.pending { expired = true } }) ≡ f e → f (expired_at now e) ≡ f e
    same f h =
        ⊎_elim
        (λ (k : is_due_at now e ≡ true). rw k h)
        (λ (k : is_due_at now e ≡ false). rw k refl)
        (cases_Bool (is_due_at now e))

pub held_expired : (now : ℕ) (rows : List PendingRow) → blocks_held (map (expired_at now) rows) ≡ blocks_held rows
held_expired now [] = refl
held_expired now (e ∷ rows) =
    ap (λ bs. bs ++ blocks_held (map (expired_at now) rows)) (only_expires now e).blocks ∙ ap (λ bs. e.pending.blocks ++ bs) (held_expired now rows)

pub rows_expired : (limit now : ℕ) (rows : List PendingRow) → RowsSound limit rows → RowsSound limit (map (expired_at now) rows)
rows_expired limit now rows h =
    let held : blocks_held (map (expired_at now) rows) ≡ blocks_held rows = held_expired now rows in
    let range : Every (λ (e : PendingRow). IsId e.id) (map (expired_at now) rows) =
    every-map (expired_at now) (λ (e : PendingRow). IsId e.id) (λ (e : PendingRow). IsId e.id) rows (λ e k. subst IsId (sym (only_expires now e).id) k) h.range in
    record {
      range = range;
      ids = subst Differ (sym (map_kept (expired_at now) (λ (e : PendingRow). e.id) rows (λ e. (only_expires now e).id))) h.ids;
      blocks = subst Differ (sym held) h.blocks;
      below = subst (λ (xs : List ℕ). Every (λ n. n < limit) xs) (sym held) h.below;
      room = omega (arith, ap length held, h.room);
    }
