-- A dispatch lends the blocks of its command, and no others.
use Rattle.std.proofs.Common.{◌≡◌, ℕ, ◌||◌, Bool, true, false, List, [], ◌∷◌, ◌++◌, filter, refl, sym, ap, ◌∙◌, Option, Some, subst, ⊎_elim}
use Rattle.std.proofs.lemmas.Bool.{cases_Bool, false≢true, or_left, or_right}
use Rattle.std.proofs.lemmas.List.Concat.{flat_map-append}
use Rattle.tcmu_types.specs.Data.{CommandData}
use Rattle.tcmu_model.specs.declared.state.CommandState.TheVariants.{Waiting, Out}
use Rattle.tcmu_model.specs.Lengths.{block_size}
use Rattle.tcmu_model.specs.RingState as ring
use Rattle.tcmu_model.specs.Device.{Unfinished, DeviceState}
use Rattle.tcmu_model.specs.Events.{after_dispatch, in_state, is_in_hand, next_item, turned}
use Rattle.tcmu_types.specs.Numbers.{is_among, Differ}
use Rattle.tcmu_types.specs.Lists.{Every}
use Rattle.tcmu_model.specs.BlockLists.{Taken, list_of, held_by}
use Rattle.region_model.specs.Areas.{IsLent}
use Rattle.region_model.specs.Regions.{RegionState, without}
use Rattle.region_model.specs.Sides.{InHand, TargetState, UserState}
use Rattle.region_model.specs.Represents.{BlocksOf, BlocksStand}
use Rattle.region_model.specs.UserNext.{nexted}
use Rattle.tcmu_types.proofs.Everies.{every-append, every-front, every-back}
use Rattle.ring_laws.specs.Dispatched.{CanDispatch}
use Rattle.ring_laws.proofs.placed.AnswerBlocks.{Leaves, differ-split, rest-apart}
use Rattle.tcmu_types.proofs.Rises.{differ-right}
use Rattle.ring_laws.proofs.dispatched.Lending.{without-other, without-lent}
use Rattle.ring_laws.proofs.dispatched.NextCases.{by_next, sent_in}
use Rattle.ring_laws.proofs.dispatched.Nexts.{Blocks, blocks_sent}
use Rattle.ring_laws.proofs.dispatched.Sending.{Sends, sends, sent_is}
use Rattle.ring_laws.proofs.restarted.GivenBack.{split-left}
use Rattle.tcmu_types.proofs.Rises.{among-append}

-- ==== what is lent

or_more : (a b c : Bool) → (b ≡ true → c ≡ true) → a || b ≡ true → a || c ≡ true
or_more true b c f h = refl
or_more false b c f h = f h

-- what was lent is lent
lent_more : (lists : List Taken) (front back : List Unfinished) (u : Unfinished) (b : ℕ) → is_in_hand u ≡ false →
    is_among (held_by lists (filter is_in_hand (front ++ u ∷ back))) b ≡ true → is_among (held_by lists (filter is_in_hand (front ++ in_state Out u ∷ back))) b ≡ true
lent_more lists [] back u b out h =
    let g : is_among (held_by lists (filter is_in_hand back)) b ≡ true = rw out at h in
    among-append (list_of lists u.serial) (held_by lists (filter is_in_hand back)) b ∙ or_right (is_among (list_of lists u.serial) b) (is_among (held_by lists (filter is_in_hand back)) b) g
lent_more lists (v ∷ front) back u b out h =
    ⊎_elim
    (λ (e : is_in_hand v ≡ true).
    let old : List ℕ = held_by lists (filter is_in_hand (front ++ u ∷ back)) in
    let new : List ℕ = held_by lists (filter is_in_hand (front ++ in_state Out u ∷ back)) in
    let g : is_among (list_of lists v.serial ++ old) b ≡ true = rw e at h in
    let m : is_among (list_of lists v.serial) b || is_among new b ≡ true =
    or_more (is_among (list_of lists v.serial) b) (is_among old b) (is_among new b) (lent_more lists front back u b out) (sym (among-append (list_of lists v.serial) old b) ∙ g) in
    rw e (among-append (list_of lists v.serial) new b ∙ m))
    (λ (e : is_in_hand v ≡ false). let g : is_among (held_by lists (filter is_in_hand (front ++ u ∷ back))) b ≡ true = rw e at h in rw e (lent_more lists front back u b out g))
    (cases_Bool (is_in_hand v))

-- so are the blocks of the command
lent_own : (lists : List Taken) (front back : List Unfinished) (u : Unfinished) (b : ℕ) → is_among (list_of lists u.serial) b ≡ true →
    is_among (held_by lists (filter is_in_hand (front ++ in_state Out u ∷ back))) b ≡ true
lent_own lists [] back u b h = among-append (list_of lists u.serial) (held_by lists (filter is_in_hand back)) b ∙ or_left (is_among (list_of lists u.serial) b) (is_among (held_by lists (filter is_in_hand back)) b) h
lent_own lists (v ∷ front) back u b h =
    let new : List ℕ = held_by lists (filter is_in_hand (front ++ in_state Out u ∷ back)) in
    let g : is_among new b ≡ true = lent_own lists front back u b h in
    ⊎_elim
    (λ (e : is_in_hand v ≡ true). rw e (among-append (list_of lists v.serial) new b ∙ or_right (is_among (list_of lists v.serial) b) (is_among new b) g))
    (λ (e : is_in_hand v ≡ false). rw e g)
    (cases_Bool (is_in_hand v))

-- ==== every command's blocks

neither : (xs ys : List ℕ) (b : ℕ) → is_among (xs ++ ys) b ≡ false → is_among xs b ≡ false
neither xs ys b h =
    ⊎_elim
    (λ (m : is_among xs b ≡ true). absurd (false≢true (sym h ∙ among-append xs ys b ∙ or_left (is_among xs b) (is_among ys b) m)))
    (λ (m : is_among xs b ≡ false). m)
    (cases_Bool (is_among xs b))

all_sent : (size : ℕ) (area : List (Option (List ℕ))) (lists : List Taken) (front back : List Unfinished) (u : Unfinished) (bs : List ℕ) → bs ≡ list_of lists u.serial → Differ (held_by lists (front ++ u ∷ back)) →
    Every (IsLent (without area bs)) bs → Every (BlocksOf size area lists) (front ++ u ∷ back) → Every (BlocksOf size (without area bs) lists) (front ++ in_state Out u ∷ back)
all_sent size area lists front back u bs q d lent all =
    let own : List ℕ = list_of lists u.serial in
    let d' : Differ (held_by lists front ++ (own ++ held_by lists back)) = subst Differ (flat_map-append (λ (v : Unfinished). list_of lists v.serial) front (u ∷ back)) d in
    let leaves : Leaves bs area (without area bs) = λ b h. without-other area bs b h in
    every-append (BlocksOf size (without area bs) lists) front (in_state Out u ∷ back)
    (rest-apart size area (without area bs) lists bs front leaves (λ b h. ap (λ ys. is_among ys b) q ∙ neither own (held_by lists back) b (split-left (held_by lists front) (own ++ held_by lists back) b d' h)) (every-front (BlocksOf size area lists) front (u ∷ back) all)) (
      subst (Every (IsLent (without area bs))) q lent,
      rest-apart size area (without area bs) lists bs back leaves (λ b h. ap (λ ys. is_among ys b) q ∙ differ-split own (held_by lists back) b (differ-right (held_by lists front) (own ++ held_by lists back) d') h)
          (every-back (BlocksOf size area lists) front (u ∷ back) all).1,
    )

sent_blocks : (r : RegionState) (t : TargetState) (user : UserState) (hand : List InHand) (d : DeviceState) (lists : List Taken) (n s : ℕ) (c : CommandData) → CanDispatch r t user hand d lists →
    next_item d ≡ Some (record { len = n; laid = ring.Cmd s c }) → BlocksStand (without r.blocks (list_of lists s)) (sent_in d s) lists
sent_blocks r t user hand d lists n s c h g =
    let k : Sends d s c = sends d n s c h.sound g in
    let u : Unfinished = k.command in
    let b : Blocks r d lists s c u = blocks_sent r t user hand d lists n s c h g k in
    let size : ℕ = block_size d.settings.pages in
    let bs : List ℕ = list_of lists s in
    let area' : List (Option (List ℕ)) = without r.blocks bs in
    let us : turned s Waiting Out d.unfinished ≡ k.front ++ in_state Out u ∷ k.back = sent_is d s c k in
    let q : bs ≡ list_of lists u.serial = ap (list_of lists) (sym k.serial) in
    let out : is_in_hand u ≡ false = (let st : u.state ≡ Waiting = k.state in rw st refl) in
    let all : Every (BlocksOf size r.blocks lists) (k.front ++ u ∷ k.back) = subst (Every (BlocksOf size r.blocks lists)) k.is h.blocks.all in
    let differ : Differ (held_by lists (k.front ++ u ∷ k.back)) = subst (λ (vs : List Unfinished). Differ (held_by lists vs)) k.is h.owned.differ in
    let lent : Every (IsLent area') bs = without-lent size r.blocks bs b.differ b.home.here in
    record {
      all = subst (Every (BlocksOf size area' lists)) (sym us) (all_sent size r.blocks lists k.front k.back u bs q differ lent all);
      just = λ m l.
          ap (λ (vs : List Unfinished). is_among (held_by lists (filter is_in_hand vs)) m) us
          ∙ ⊎_elim
          (λ (e : is_among bs m ≡ true). lent_own lists k.front k.back u m (ap (λ ys. is_among ys m) (sym q) ∙ e))
          (λ (e : is_among bs m ≡ false).
          lent_more lists k.front k.back u m out (ap (λ (vs : List Unfinished). is_among (held_by lists (filter is_in_hand vs)) m) (sym k.is) ∙ h.blocks.just m (sym (without-other r.blocks bs m e) ∙ l)))
          (cases_Bool (is_among bs m));
    }

pub blocks_dispatched : (r : RegionState) (t : TargetState) (user : UserState) (hand : List InHand) (d : DeviceState) (lists : List Taken) → CanDispatch r t user hand d lists →
    BlocksStand (nexted r user).region.blocks (after_dispatch d) lists
blocks_dispatched r t user hand d lists h =
    by_next (λ z a e. BlocksStand z.region.blocks e lists) r t user hand d lists h
    (record { none = λ e. h.blocks; job = λ n s c e. sent_blocks r t user hand d lists n s c h e; note = λ n k m ss e b. record { all = h.blocks.all; just = h.blocks.just } })
