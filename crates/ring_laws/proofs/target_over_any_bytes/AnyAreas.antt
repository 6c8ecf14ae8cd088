-- The area of the one region that a target is called on has all blocks that are held.
use Rattle.std.proofs.Common.{◌≡◌, ℕ, ◌+◌, ◌-◌, ◌<◌, ◌≤◌, Bool, true, false, cond, eqb, List, [], ◌∷◌, ◌++◌, length, take, drop, replicate, slice_get, Option, Some, None, refl, sym, ap, ◌∙◌, arith, subst, ⊎_elim, length-append, length-take}
use Rattle.std.proofs.Math.ListN.{set}
use Rattle.std.proofs.lemmas.Bool.{cases_Bool}
use Rattle.std.proofs.lemmas.List.{length-set, length-replicate}
use Rattle.tcmu_types.specs.Data.{CommandData, SettingsData}
use Rattle.tcmu_types.specs.declared.answer.Submit.{Submit}
use Rattle.tcmu_types.specs.declared.answer.Submit.TheVariants as submit
use Rattle.tcmu_types.specs.declared.answer.Enter.{Enter}
use Rattle.tcmu_types.specs.declared.answer.Enter.TheVariants as enter
use Rattle.tcmu_types.specs.declared.answer.Tmr.{Tmr}
use Rattle.tcmu_types.specs.declared.answer.Tmr.TheVariants as tmr
use Rattle.tcmu_types.specs.declared.dump.ItemKind.{ItemKind}
use Rattle.tcmu_types.specs.declared.dump.ItemKind.TheVariants as kind
use Rattle.region_model.specs.declared.entry.Response.{Response}
use Rattle.tcmu_types.specs.Lists.{first_of, Every}
use Rattle.tcmu_types.specs.Numbers.{above_all}
use Rattle.tcmu_model.specs.Device.{Delayed}
use Rattle.tcmu_model.specs.Events.{later}
use Rattle.tcmu_types.specs.Overwriting.{zeros}
use Rattle.region_model.specs.Regions.{RegionState, home, size_of, opening_region}
use Rattle.region_model.specs.Areas.{over, written_along}
use Rattle.region_model.specs.Sides.{PendingRow, Recorded, TargetState}
use Rattle.region_model.specs.Represents.{has_id}
use Rattle.region_model.specs.TargetSteps.{opening_target, blocks_held, blocks_wanted, blocks_given, block_data, row_of, region_laid, target_laid, target_submit_answer, target_submitted, region_submitted, target_enter_answer, first_entered, region_with_first, target_entered, region_entered, target_tmr_answer, target_noted, region_noted, target_ticked, target_blocked}
use Rattle.region_model.specs.TargetCleans.{answered_by, response_in, one_cleaned, target_cleaned, region_cleaned, target_reset, region_reset}
use Rattle.tcmu_types.proofs.Everies.{every-append, every-weaker, every-both}
use Rattle.ring_laws.specs.Calls.{TargetCall, Submits, Enters, Notes, Ticks, Blocks, Cleans, Resets, CallMade, Called, target_called}
use Rattle.ring_laws.specs.CalledOn.{SameArea, region_called, CalledOn}
use Rattle.tcmu_model.proofs.FreeBlocks.{IsFree, least-are}
use Rattle.ring_laws.proofs.laid.LaidBlocks.{covered}
use Rattle.ring_laws.proofs.PendingRows.{held_push, held_every, held_expired}
use Rattle.ring_laws.proofs.target_over_any_bytes.AnyCalls.{clean_keeps}
use Rattle.ring_laws.proofs.target_over_any_bytes.AnySettings.{called_same}

-- the area has these blocks, and no more than the limit
pub record InArea (r : RegionState) (rows : List PendingRow) (limit : ℕ) : Type 0 where
  pub there : Every (λ n. n < length r.blocks) (blocks_held rows)
  pub most : length r.blocks ≤ limit

in_same : (before after : RegionState) (rows : List PendingRow) (limit : ℕ) → SameArea before after → InArea before rows limit → InArea after rows limit
in_same before after rows limit s h =
    record { there = subst (λ (n : ℕ). Every (λ b. b < n) (blocks_held rows)) (sym s.count) h.there; most = omega (arith, s.count, h.most) }

in_as : (r after : RegionState) (rows rows' : List PendingRow) (limit : ℕ) → after.blocks ≡ r.blocks → rows' ≡ rows → InArea r rows limit → InArea after rows' limit
in_as r after rows rows' limit e q h =
    let n : length after.blocks ≡ length r.blocks = ap length e in
    record {
      there = subst (λ (xs : List PendingRow). Every (λ b. b < length after.blocks) (blocks_held xs)) (sym q) (subst (λ (k : ℕ). Every (λ b. b < k) (blocks_held rows)) (sym n) h.there);
      most = omega (arith, n, h.most);
    }

-- ==== a command is laid

length-along : (size : ℕ) (area : List (Option (List ℕ))) (ns : List ℕ) (bytes : List ℕ) → length (written_along size area ns bytes) ≡ length area
length-along size area [] bytes = refl
length-along size area (n ∷ ns) bytes =
    let x : Option (List ℕ) = over (take size bytes) (home (slice_get area n)) in
    length-along size (set area n x) ns (drop size bytes) ∙ length-set area n x

above_within : (limit : ℕ) (bs : List ℕ) → Every (λ b. b < limit) bs → above_all bs ≤ limit
above_within limit [] h = omega arith
above_within limit (b ∷ bs) h = let a : b < limit = h.0 in omega (arith, a, above_within limit bs h.1)

in_laid : (r : RegionState) (t : TargetState) (s : ℕ) (c : CommandData) (id : ℕ) → InArea r t.rows t.settings.blocks → InArea (region_laid r t c id) (t.rows ++ row_of t s c id ∷ []) t.settings.blocks
unfolding region_laid
in_laid r t s c id h =
    let limit : ℕ = t.settings.blocks in
    let hs : List ℕ = blocks_held t.rows in
    let bs : List ℕ = blocks_given t c in
    let n : ℕ = length r.blocks in
    let m : ℕ = above_all bs in
    let more : List (Option (List ℕ)) = replicate (m - n) (Some (zeros (size_of r))) in
    let after : ℕ = length (region_laid r t c id).blocks in
    let a : after ≡ length (r.blocks ++ more) = length-along (size_of r) (r.blocks ++ more) bs (block_data t.settings c (length bs)) in
    let b : length (r.blocks ++ more) ≡ n + length more = length-append r.blocks more in
    let k : length more ≡ m - n = length-replicate (m - n) (Some (zeros (size_of r))) in
    let most : n ≤ limit = h.most in
    let free : Every (λ x. x < limit) bs = every-weaker (IsFree hs 0 (0 + limit)) (λ x. x < limit) bs (λ x f. let l : x < 0 + limit = f.high_ in omega arith) (least-are limit hs (blocks_wanted t c)) in
    let top : m ≤ limit = above_within limit bs free in
    let old : Every (λ x. x < after) hs = every-weaker (λ x. x < n) (λ x. x < after) hs (λ x l. omega (arith, l, a, b, k)) h.there in
    let new : Every (λ x. x < after) bs = every-weaker (λ x. x < m) (λ x. x < after) bs (λ x l. omega (arith, l, a, b, k)) (covered bs) in
    record {
      there = subst (λ (xs : List ℕ). Every (λ x. x < after) xs) (sym (held_push t.rows (row_of t s c id))) (every-append (λ x. x < after) hs bs old new);
      most = omega (arith, a, b, k, most, top);
    }

in_submitted : (r : RegionState) (t : TargetState) (c : CommandData) (id : ℕ) (a : Submit) → InArea r t.rows t.settings.blocks → InArea (region_submitted r t c id a) (target_submitted t c id a).rows t.settings.blocks
unfolding region_submitted target_submitted target_laid
in_submitted r t c id (submit.Queued s) h = in_laid r t s c id h
in_submitted r t c id (submit.Delayed s) h = h
in_submitted r t c id submit.Busy h = h
in_submitted r t c id (submit.TooBig have limit) h = h
in_submitted r t c id (submit.FullRing need free) h = h
in_submitted r t c id (submit.FullBlocks need free) h = h

in_first : (r : RegionState) (t : TargetState) (id : ℕ) (ws : List Delayed) → InArea r t.rows t.settings.blocks → InArea (region_with_first r t id ws) (first_entered t id ws).rows t.settings.blocks
unfolding target_laid
in_first r t id [] h = h
in_first r t id (w ∷ ws) h = in_laid r t w.serial w.command id h

in_entered : (r : RegionState) (t : TargetState) (id : ℕ) (a : Enter) → InArea r t.rows t.settings.blocks → InArea (region_entered r t id a) (target_entered t id a).rows t.settings.blocks
unfolding region_entered target_entered
in_entered r t id (enter.Entered s) h = in_first r t id t.delayed h
in_entered r t id enter.Empty h = h
in_entered r t id (enter.FullRing need free) h = h
in_entered r t id (enter.FullBlocks need free) h = h

in_noted : (r : RegionState) (t : TargetState) (type_ : ℕ) (ss : List ℕ) (a : Tmr) → InArea r t.rows t.settings.blocks → InArea (region_noted r t type_ ss a) (target_noted t ss a).rows t.settings.blocks
unfolding region_noted target_noted
in_noted r t type_ ss tmr.Noted h = record { there = h.there; most = h.most }
in_noted r t type_ ss tmr.Off h = h
in_noted r t type_ ss tmr.Busy h = h
in_noted r t type_ ss (tmr.Unknown s) h = h
in_noted r t type_ ss (tmr.FullRing need free) h = h

in_ticked : (r : RegionState) (t : TargetState) (n : ℕ) → InArea r t.rows t.settings.blocks → InArea r (target_ticked t n).rows t.settings.blocks
unfolding target_ticked
in_ticked r t n h = record { there = subst (λ (xs : List ℕ). Every (λ b. b < length r.blocks) xs) (sym (held_expired (later t.now n) t.rows)) h.there; most = h.most }

in_blocked : (r : RegionState) (t : TargetState) (b : Bool) → InArea r t.rows t.settings.blocks → InArea r (target_blocked t b).rows t.settings.blocks
unfolding target_blocked
in_blocked r t b h = h

-- ==== a clean

fewer_by : (P : ℕ → Type 0) (r : RegionState) (a : Response) (k : TargetState) (x : Recorded) (xs : List Recorded) (o : Option PendingRow) → Every P (blocks_held k.rows) → Every P (blocks_held (answered_by r a k x xs o).rows)
fewer_by P r a k x xs None h = h
fewer_by P r a k x xs (Some e) h = held_every P (has_id a.id) k.rows h

fewer_one : (P : ℕ → Type 0) (r : RegionState) (k : TargetState) (x : Recorded) (xs : List Recorded) (c : ItemKind) → Every P (blocks_held k.rows) → Every P (blocks_held (one_cleaned r k x xs c).rows)
fewer_one P r k x xs kind.Pad h = h
fewer_one P r k x xs kind.Tmr h = h
fewer_one P r k x xs kind.Cmd h = let a : Response = response_in r k in fewer_by P r a k x xs (first_of (has_id a.id) k.rows) h

-- what is held behind a clean was held before
pub fewer_held : (P : ℕ → Type 0) (r : RegionState) (t : TargetState) → Every P (blocks_held t.rows) → Every P (blocks_held (target_cleaned r t).rows)
fewer_held P r t h = clean_keeps (λ k. Every P (blocks_held k.rows)) r t (λ k x ys c. fewer_one P r k x ys x.kind c) h

in_cleaned : (r : RegionState) (t : TargetState) → InArea r t.rows t.settings.blocks → InArea (region_cleaned r t) (target_cleaned r t).rows t.settings.blocks
unfolding region_cleaned
in_cleaned r t h =
    let rows : List PendingRow = (target_cleaned r t).rows in
    let hs : List ℕ = blocks_held rows in
    let m : ℕ = above_all hs in
    let there : Every (λ b. b < length r.blocks) hs = fewer_held (λ b. b < length r.blocks) r t h.there in
    let len = length-take m r.blocks in
    let whole : InArea r rows t.settings.blocks = record { there = there; most = h.most } in
    let cut : InArea (record r { blocks = take m r.blocks }) rows t.settings.blocks = record {
      there = every-weaker (λ b. (b < length r.blocks) × (b < m)) (λ b. b < length (take m r.blocks)) hs (λ b k. let x : b < length r.blocks = k.0 in let y : b < m = k.1 in omega (arith, len, x, y))
          (every-both (λ b. b < length r.blocks) (λ b. b < m) hs there (covered hs));
      most = omega (arith, len, h.most);
    } in
    ⊎_elim
    (λ (e : eqb (length rows) (length t.rows) ≡ true). subst (λ (b : Bool). InArea (cond b r (record r { blocks = take m r.blocks })) rows t.settings.blocks) (sym e) whole)
    (λ (e : eqb (length rows) (length t.rows) ≡ false). subst (λ (b : Bool). InArea (cond b r (record r { blocks = take m r.blocks })) rows t.settings.blocks) (sym e) cut)
    (cases_Bool (eqb (length rows) (length t.rows)))

in_reset : (r : RegionState) (t : TargetState) (level : ℕ) → InArea (region_reset r) (target_reset r t level).rows t.settings.blocks
unfolding region_reset target_reset
in_reset r t level = record { there = tt; most = omega arith }

-- ==== any call

in_called : (r : RegionState) (t : TargetState) (call : TargetCall) → InArea r t.rows t.settings.blocks → InArea (region_called r t call) (target_called r t call).rows t.settings.blocks
in_called r t (Submits c id) h = in_submitted r t c id (target_submit_answer t c) h
in_called r t (Enters id) h = in_entered r t id (target_enter_answer t) h
in_called r t (Notes type_ ss) h = in_noted r t type_ ss (target_tmr_answer t ss) h
in_called r t (Ticks n) h = in_ticked r t n h
in_called r t (Blocks b) h = in_blocked r t b h
in_called r t Cleans h = in_cleaned r t h
in_called r t (Resets level) h = in_reset r t level

in_all : (s : SettingsData) (r : RegionState) (t : TargetState) (ms : List CallMade) (left : RegionState) (after : TargetState) → t.settings ≡ s → InArea r t.rows s.blocks → CalledOn r t ms left after → InArea left after.rows s.blocks
in_all s r t [] left after e h c = in_same r left after.rows s.blocks c.0.area (subst (λ (k : TargetState). InArea r k.rows s.blocks) (sym c.1) h)
in_all s r t (m ∷ ms) left after e h c =
    let q : t.settings.blocks ≡ s.blocks = ap (λ (z : SettingsData). z.blocks) e in
    let here : InArea m.region t.rows t.settings.blocks = subst (λ (n : ℕ). InArea m.region t.rows n) (sym q) (in_same r m.region t.rows s.blocks c.0.area h) in
    let next : TargetState = target_called m.region t m.call in
    in_all s (region_called m.region t m.call) next ms left after (called_same m.region t m.call ∙ e)
    (subst (λ (n : ℕ). InArea (region_called m.region t m.call) next.rows n) q (in_called m.region t m.call here)) c.2

pub in_opening : (s : SettingsData) (ms : List CallMade) (r : RegionState) (t : TargetState) → CalledOn (opening_region s) (opening_target s) ms r t → InArea r t.rows s.blocks
unfolding opening_target
in_opening s ms r t c = in_all s (opening_region s) (opening_target s) ms r t refl (record { there = tt; most = omega arith }) c

-- calls on one region are calls
pub called_on : (r : RegionState) (t : TargetState) (ms : List CallMade) (left : RegionState) (after : TargetState) → CalledOn r t ms left after → Called t ms after
called_on r t [] left after c = c.1
called_on r t (m ∷ ms) left after c = (c.1, called_on (region_called m.region t m.call) (target_called m.region t m.call) ms left after c.2)

-- ==== the size of a block

pages_submitted : (r : RegionState) (t : TargetState) (c : CommandData) (id : ℕ) (a : Submit) → (region_submitted r t c id a).pages ≡ r.pages
unfolding region_submitted region_laid
pages_submitted r t c id (submit.Queued s) = refl
pages_submitted r t c id (submit.Delayed s) = refl
pages_submitted r t c id submit.Busy = refl
pages_submitted r t c id (submit.TooBig have limit) = refl
pages_submitted r t c id (submit.FullRing need free) = refl
pages_submitted r t c id (submit.FullBlocks need free) = refl

pages_first : (r : RegionState) (t : TargetState) (id : ℕ) (ws : List Delayed) → (region_with_first r t id ws).pages ≡ r.pages
unfolding region_laid
pages_first r t id [] = refl
pages_first r t id (w ∷ ws) = refl

pages_entered : (r : RegionState) (t : TargetState) (id : ℕ) (a : Enter) → (region_entered r t id a).pages ≡ r.pages
unfolding region_entered
pages_entered r t id (enter.Entered s) = pages_first r t id t.delayed
pages_entered r t id enter.Empty = refl
pages_entered r t id (enter.FullRing need free) = refl
pages_entered r t id (enter.FullBlocks need free) = refl

pages_noted : (r : RegionState) (t : TargetState) (type_ : ℕ) (ss : List ℕ) (a : Tmr) → (region_noted r t type_ ss a).pages ≡ r.pages
unfolding region_noted
pages_noted r t type_ ss tmr.Noted = refl
pages_noted r t type_ ss tmr.Off = refl
pages_noted r t type_ ss tmr.Busy = refl
pages_noted r t type_ ss (tmr.Unknown s) = refl
pages_noted r t type_ ss (tmr.FullRing need free) = refl

pages_cleaned : (r : RegionState) (t : TargetState) → (region_cleaned r t).pages ≡ r.pages
unfolding region_cleaned
pages_cleaned r t = go (eqb (length (target_cleaned r t).rows) (length t.rows))
  where
    go : (b : Bool) → (cond b r (record r { blocks = take (above_all (blocks_held (target_cleaned r t).rows)) r.blocks })).pages ≡ r.pages
    go true = refl
    go false = refl

pages_reset : (r : RegionState) → (region_reset r).pages ≡ r.pages
unfolding region_reset
pages_reset r = refl

pages_called : (r : RegionState) (t : TargetState) (call : TargetCall) → (region_called r t call).pages ≡ r.pages
pages_called r t (Submits c id) = pages_submitted r t c id (target_submit_answer t c)
pages_called r t (Enters id) = pages_entered r t id (target_enter_answer t)
pages_called r t (Notes type_ ss) = pages_noted r t type_ ss (target_tmr_answer t ss)
pages_called r t (Ticks n) = refl
pages_called r t (Blocks b) = refl
pages_called r t Cleans = pages_cleaned r t
pages_called r t (Resets level) = pages_reset r

pub same_pages : (r : RegionState) (t : TargetState) (ms : List CallMade) (left : RegionState) (after : TargetState) → CalledOn r t ms left after → left.pages ≡ r.pages
same_pages r t [] left after c = c.0.area.pages
same_pages r t (m ∷ ms) left after c = same_pages (region_called m.region t m.call) (target_called m.region t m.call) ms left after c.2 ∙ pages_called m.region t m.call ∙ c.0.area.pages
