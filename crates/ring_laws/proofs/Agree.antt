-- What the target computes from its record is what the device's ring says.
use Rattle.std.proofs.Common.{◌≡◌, ℕ, ◌+◌, ◌-◌, ◌%◌, cond, List, [], ◌∷◌, ◌++◌, take, drop, map, refl, sym, ap, ◌∙◌, arith, ltb}
use Rattle.std.specs.List.{sum_by, flat_map}
use Rattle.std.proofs.lemmas.List.Sums.{sum_by-cons}
use Rattle.tcmu_types.specs.Data.{CommandData}
use Rattle.tcmu_model.specs.Lengths.{blocks_of}
use Rattle.tcmu_model.specs.RingState.{RingState, Item, Laid, lengths, head, used, free, need, pads, with_item, commands_in, is_command}
use Rattle.tcmu_model.specs.RingState as ring
use Rattle.tcmu_model.specs.Device.{Unfinished, DeviceState}
use Rattle.tcmu_model.specs.BlockLists.{Taken, list_of, held_by, least_free}
use Rattle.region_model.specs.Pending.{PendingData}
use Rattle.region_model.specs.Picture.{place_of}
use Rattle.region_model.specs.Sides.{Recorded, PendingRow, TargetState}
use Rattle.region_model.specs.Represents.{RingStands, recorded, TargetKeeps, pending_of}
use Rattle.region_model.specs.TargetSteps.{used_in, head_in, pad_in, blocks_held, blocks_given}
use Rattle.ring_laws.proofs.Layouts.{add-mod}
use Rattle.ring_laws.proofs.Places.{used_is}

pub sum-recorded : (xs : List Item) → sum_by (λ x. x.len) (map recorded xs) ≡ lengths xs
sum-recorded [] = refl
sum-recorded (x ∷ xs) =
    let a : sum_by (λ (y : Recorded). y.len) (recorded x ∷ map recorded xs) ≡ x.len + sum_by (λ (y : Recorded). y.len) (map recorded xs) = sum_by-cons (λ (y : Recorded). y.len) (recorded x) (map recorded xs) in
    let b : lengths (x ∷ xs) ≡ x.len + lengths xs = sum_by-cons (λ (y : Item). y.len) x xs in
    let c : sum_by (λ (y : Recorded). y.len) (map recorded xs) ≡ lengths xs = sum-recorded xs in
    omega arith

-- what the target's record says of the ring
pub record Agrees (t : TargetState) (d : DeviceState) : Type 0 where
  pub size : t.settings.ring ≡ d.ring.size
  pub used : used_in t ≡ used d.ring
  pub head : head_in t ≡ head d.ring
  pub pad : (n : ℕ) → pad_in t n ≡ ring.pad d.ring n

pub agrees : (front : List ℕ) (t : TargetState) (d : DeviceState) (lists : List Taken) → RingStands front t.items d lists → TargetKeeps t d lists → d.ring.size ≡ d.settings.ring → Agrees t d
agrees front t d lists shape keeps size =
    let s : t.settings.ring ≡ d.ring.size = ap (λ z. z.ring) keeps.settings ∙ sym size in
    let u : used_in t ≡ used d.ring = ap (λ (xs : List Recorded). sum_by (λ (x : Recorded). x.len) xs) shape.recorded ∙ sum-recorded (drop d.ring.cleared d.ring.laid) in
    let h : head_in t ≡ head d.ring =
    ap (λ z. (t.cleaned + used_in t) % z) s ∙ ap (λ z. (z + used_in t) % d.ring.size) keeps.cleaned ∙ ap (λ z. (place_of d.ring d.ring.cleared + z) % d.ring.size) u
    ∙ add-mod (lengths (take d.ring.cleared d.ring.laid)) (used d.ring) d.ring.size ∙ ap (λ z. z % d.ring.size) (used_is d.ring) in
    record {
      size = s;
      used = u;
      head = h;
      pad = λ n. ap (λ z. cond (ltb (z - head_in t) n) (z - head_in t) 0) s ∙ ap (λ z. cond (ltb (d.ring.size - z) n) (d.ring.size - z) 0) h;
    }

-- ==== the blocks that are held

held-entries : (es : List PendingRow) → blocks_held es ≡ flat_map (λ (p : PendingData). p.blocks) (map (λ (e : PendingRow). e.pending) es)
held-entries [] = refl
held-entries (e ∷ es) = ap (λ xs. e.pending.blocks ++ xs) (held-entries es)

held-unfinished : (lists : List Taken) (us : List Unfinished) → flat_map (λ (p : PendingData). p.blocks) (map (pending_of lists) us) ≡ held_by lists us
held-unfinished lists [] = refl
held-unfinished lists (u ∷ us) = ap (λ xs. list_of lists u.serial ++ xs) (held-unfinished lists us)

pub held-same : (t : TargetState) (d : DeviceState) (lists : List Taken) → TargetKeeps t d lists → blocks_held t.rows ≡ held_by lists d.unfinished
held-same t d lists k = held-entries t.rows ∙ ap (flat_map (λ (p : PendingData). p.blocks)) k.rows ∙ held-unfinished lists d.unfinished

pub blocks-same : (t : TargetState) (d : DeviceState) (lists : List Taken) (c : CommandData) → TargetKeeps t d lists → blocks_given t c ≡ least_free d.settings.blocks (held_by lists d.unfinished) (blocks_of d.settings.pages c)
blocks-same t d lists c k =
    ap (λ s. least_free s.blocks (blocks_held t.rows) (blocks_of s.pages c)) k.settings ∙ ap (λ h. least_free d.settings.blocks h (blocks_of d.settings.pages c)) (held-same t d lists k)
