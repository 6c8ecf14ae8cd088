-- What a clean keeps of the blocks, of the jobs and of the block lists.
use Rattle.std.proofs.Common.{◌≡◌, ℕ, ◌<◌, Bool, true, false, List, [], ◌∷◌, length, take, filter, refl, sym, ap, ◌∙◌, Option, Some, None, slice_get, subst, ⊎_elim, eqb}
use Rattle.std.specs.Option.{is_some}
use Rattle.std.proofs.lemmas.Bool.{cases_Bool, true≢false, or_left, or_right}
use Rattle.tcmu_model.specs.declared.state.CommandState.TheVariants.{Placed}
use Rattle.tcmu_types.specs.Lists.{without_first, Every}
use Rattle.tcmu_types.specs.Numbers.{above_all, is_among}
use Rattle.tcmu_model.specs.Lengths.{block_size}
use Rattle.tcmu_model.specs.Device.{Unfinished, DeviceState, is_at}
use Rattle.tcmu_model.specs.Events.{is_in_hand, after_clean, answered, cleaned_books}
use Rattle.tcmu_model.specs.BlockLists.{Taken, list_of, held_by}
use Rattle.region_model.specs.Regions.{RegionState}
use Rattle.tcmu_model.proofs.CommandStates.{state_at}
use Rattle.tcmu_types.proofs.Everies.{every-weaker, every-both, every-filter, every-passes}
use Rattle.tcmu_types.proofs.Rises.{among-append, among_every, every-among}
use Rattle.tcmu_model.proofs.SoundClean.{answered_placed}
use Rattle.region_model.specs.Areas.{IsLent}
use Rattle.region_model.specs.Sides.{InHand, PendingRow, TargetState, UserState}
use Rattle.region_model.specs.Represents.{AreGiven, AreOut, BlocksOf, BlocksStand, JobsStand, is_out}
use Rattle.region_model.specs.TargetSteps.{blocks_held}
use Rattle.region_model.specs.TargetCleans.{region_cleaned, target_cleaned}
use Rattle.ring_laws.specs.Cleaned.{CanClean}
use Rattle.ring_laws.proofs.Agree.{held-same}
use Rattle.ring_laws.proofs.laid.LaidBlocks.{covered, stand-other}
use Rattle.ring_laws.proofs.cleaned.CleanedAll.{cleaned-at, get-take}
use Rattle.ring_laws.proofs.cleaned.CleanedRecords.{target_cleaned_keeps}
use Rattle.ring_laws.proofs.SameJobs.{HasSame, given_same, outs_same}
use Rattle.tcmu_model.proofs.ListsCleaned.{taken_all, left_are, every-left}
use Rattle.tcmu_types.proofs.Places.{get_taken}

-- ==== the commands that are left

-- what holds of no placed command picks out the same commands as before
filter-taken : (p : Unfinished → Bool) (s : ℕ) (us : List Unfinished) → ((u : Unfinished) → u.state ≡ Placed → p u ≡ false) → filter p (without_first (is_at s Placed) us) ≡ filter p us
filter-taken p s [] h = refl
filter-taken p s (u ∷ us) h =
    ⊎_elim
    (λ (e : is_at s Placed u ≡ true). let n : p u ≡ false = h u (state_at s Placed u e) in rw (e, n) refl)
    (λ (e : is_at s Placed u ≡ false).
    ⊎_elim
    (λ (n : p u ≡ true). rw (e, n) (ap (λ xs. u ∷ xs) (filter-taken p s us h)))
    (λ (n : p u ≡ false). rw (e, n) (filter-taken p s us h))
    (cases_Bool (p u)))
    (cases_Bool (is_at s Placed u))

filter-left : (p : Unfinished → Bool) (us : List Unfinished) (ss : List ℕ) → ((u : Unfinished) → u.state ≡ Placed → p u ≡ false) → filter p (taken_all us ss) ≡ filter p us
filter-left p us [] h = refl
filter-left p us (s ∷ ss) h = filter-left p (without_first (is_at s Placed) us) ss h ∙ filter-taken p s us h

placed_not_in_hand : (u : Unfinished) → u.state ≡ Placed → is_in_hand u ≡ false
placed_not_in_hand u h = rw h refl

placed_not_out : (u : Unfinished) → u.state ≡ Placed → is_out u ≡ false
placed_not_out u h = rw h refl

-- ==== the blocks

-- all commands that are left keep their blocks in an area that ends behind the highest of them
shrunk-stand : (size : ℕ) (area : List (Option (List ℕ))) (lists : List Taken) (n : ℕ) (us : List Unfinished) → ((b : ℕ) → is_among (held_by lists us) b ≡ true → b < n) → Every (BlocksOf size area lists) us → Every (BlocksOf size (take n area) lists) us
shrunk-stand size area lists n [] low e = tt
shrunk-stand size area lists n (u ∷ us) low e = (
  stand-other size area (take n area) lists lists u refl
      (every-weaker (λ b. is_among (list_of lists u.serial) b ≡ true) (λ b. (o : Option (List ℕ)) → slice_get area b ≡ Some o → slice_get (take n area) b ≡ Some o) (list_of lists u.serial)
      (λ b h o g. get-take area n b (low b (among-append (list_of lists u.serial) (held_by lists us) b ∙ or_left (is_among (list_of lists u.serial) b) (is_among (held_by lists us) b) h)) ∙ g) (every-among (list_of lists u.serial))) e.0,
  shrunk-stand size area lists n us (λ b h. low b (among-append (list_of lists u.serial) (held_by lists us) b ∙ or_right (is_among (list_of lists u.serial) b) (is_among (held_by lists us) b) h)) e.1,
)

pub blocks_cleaned : (r : RegionState) (t : TargetState) (d : DeviceState) (lists : List Taken) → CanClean r t d lists → BlocksStand (region_cleaned r t).blocks (after_clean d) lists
unfolding after_clean region_cleaned
blocks_cleaned r t d lists h =
    let us : List Unfinished = (cleaned_books d).unfinished in
    let e : us ≡ taken_all d.unfinished (answered d) = left_are d in
    let size : ℕ = block_size d.settings.pages in
    let all : Every (BlocksOf size r.blocks lists) us = subst (Every (BlocksOf size r.blocks lists)) (sym e) (every-left (BlocksOf size r.blocks lists) d.unfinished (answered d) h.blocks.all) in
    let f : filter is_in_hand us ≡ filter is_in_hand d.unfinished = ap (filter is_in_hand) e ∙ filter-left is_in_hand d.unfinished (answered d) placed_not_in_hand in
    let just : (b : ℕ) → IsLent r.blocks b → is_among (held_by lists (filter is_in_hand us)) b ≡ true = λ b l. ap (λ vs. is_among (held_by lists vs) b) f ∙ h.blocks.just b l in
    let n : ℕ = above_all (blocks_held (target_cleaned r t).rows) in
    let held : blocks_held (target_cleaned r t).rows ≡ held_by lists us = held-same (target_cleaned r t) (after_clean d) lists (target_cleaned_keeps r t d lists h) in
    let low : (b : ℕ) → is_among (held_by lists us) b ≡ true → b < n = λ b k. subst (λ (z : ℕ). b < z) (ap above_all (sym held)) (among_every (λ x. x < above_all (held_by lists us)) (held_by lists us) b (covered (held_by lists us)) k) in
    let whole : BlocksStand r.blocks (after_clean d) lists = record { all = all; just = just } in
    let less : BlocksStand (take n r.blocks) (after_clean d) lists = record { all = shrunk-stand size r.blocks lists n us low all; just = λ b l. just b (get_taken r.blocks n b None l) } in
    ⊎_elim
    (λ (k : eqb (length (target_cleaned r t).rows) (length t.rows) ≡ true). rw k whole)
    (λ (k : eqb (length (target_cleaned r t).rows) (length t.rows) ≡ false). rw k less)
    (cases_Bool (eqb (length (target_cleaned r t).rows) (length t.rows)))

-- ==== the jobs

-- a command that is picked out by what holds of no placed one keeps its id
ids_kept : (r : RegionState) (t : TargetState) (d : DeviceState) (lists : List Taken) (p : Unfinished → Bool) → CanClean r t d lists → ((u : Unfinished) → u.state ≡ Placed → p u ≡ false) →
    Every (HasSame t.rows (target_cleaned r t).rows lists lists) (filter p d.unfinished)
ids_kept r t d lists p h never =
    let at = cleaned-at r t d lists h in
    let P : Unfinished → Type 0 = λ u. is_among (answered d) u.serial ≡ true → (u.state ≡ Placed) × (is_some u.reply ≡ true) in
    let Q : Unfinished → Type 0 = λ u. p u ≡ true in
    every-weaker (λ (u : Unfinished). P u × Q u) (HasSame t.rows (target_cleaned r t).rows lists lists) (filter p d.unfinished)
    (λ u k.
    ⊎_elim
    (λ (a : is_among (answered d) u.serial ≡ true). absurd (true≢false (sym k.1 ∙ never u (k.0 a).0)))
    (λ (a : is_among (answered d) u.serial ≡ false). (at.kept u.serial a, refl))
    (cases_Bool (is_among (answered d) u.serial)))
    (every-both P Q (filter p d.unfinished) (every-filter p P d.unfinished (answered_placed d h.sound.answers)) (every-passes p d.unfinished))

pub jobs_cleaned : (r : RegionState) (t : TargetState) (user : UserState) (hand : List InHand) (d : DeviceState) (lists : List Taken) → CanClean r t d lists → JobsStand user hand t.rows d lists →
    JobsStand user hand (target_cleaned r t).rows (after_clean d) lists
unfolding after_clean
jobs_cleaned r t user hand d lists h jobs =
    let e : (cleaned_books d).unfinished ≡ taken_all d.unfinished (answered d) = left_are d in
    let f : filter is_in_hand (cleaned_books d).unfinished ≡ filter is_in_hand d.unfinished = ap (filter is_in_hand) e ∙ filter-left is_in_hand d.unfinished (answered d) placed_not_in_hand in
    let o : filter is_out (cleaned_books d).unfinished ≡ filter is_out d.unfinished = ap (filter is_out) e ∙ filter-left is_out d.unfinished (answered d) placed_not_out in
    let rows' : List PendingRow = (target_cleaned r t).rows in
    record {
      given = subst (AreGiven d.settings rows' lists user.jobs) (sym f) (given_same d.settings t.rows rows' lists lists user.jobs (filter is_in_hand d.unfinished) (ids_kept r t d lists is_in_hand h placed_not_in_hand) jobs.given);
      out = subst (AreOut d.settings rows' lists hand) (sym o) (outs_same d.settings t.rows rows' lists lists hand (filter is_out d.unfinished) (ids_kept r t d lists is_out h placed_not_out) jobs.out);
      offsets = jobs.offsets;
    }
