-- What an answer that lays a command says of room, and of the serial.
use Rattle.std.proofs.Common.{◌≡◌, ℕ, ◌+◌, ◌*◌, ◌/◌, ◌<◌, ◌≤◌, true, false, ◌&&◌, ◌==◌, List, ◌∷◌, length, sym, ap, ◌∙◌, arith, ⊎_elim, subst, eqb, ltb}
use Rattle.std.proofs.lemmas.Bool.{cases_Bool, and_parts, ltb-false, leb-true}
use Rattle.tcmu_types.specs.Data.{CommandData}
use Rattle.tcmu_types.specs.Lists.{Every}
use Rattle.tcmu_types.specs.declared.answer.Submit.TheVariants as submit
use Rattle.tcmu_types.specs.declared.answer.Enter.TheVariants as enter
use Rattle.tcmu_types.proofs.Everies.{every-weaker}
use Rattle.tcmu_types.proofs.Rises.{rise_within}
use Rattle.tcmu_model.specs.RingState.{serials_in}
use Rattle.tcmu_model.specs.RingState as ring
use Rattle.tcmu_model.specs.Device.{Delayed, DeviceState}
use Rattle.tcmu_model.specs.Events.{blocks_in, entry_length_in, held_blocks, free_blocks, fits_ring, fits_blocks, queued_or_full, queued_or_delayed, submit_answer, entered_or_full, enter_answer}
use Rattle.tcmu_model.specs.Sound.{CanWait, IsSound}
use Rattle.tcmu_model.specs.Owned.{HasRoom}
use Rattle.tcmu_model.proofs.Basics.{laid_rise}
use Rattle.tcmu_model.proofs.Facts.{delayed_above}

-- what a queued answer says of room
room_of : (d : DeviceState) (c : CommandData) → IsSound d → 2 * entry_length_in d c ≤ d.ring.size → fits_ring d c ≡ true → fits_blocks d c ≡ true → HasRoom d c
room_of d c sound small f b =
    let k : blocks_in d c ≤ free_blocks d = leb-true _ _ b in
    let h : held_blocks d ≤ d.settings.blocks = sound.room.blocks in
    record { small = small; fits = leb-true _ _ f; blocks = omega arith }

pub queued_room : (d : DeviceState) (c : CommandData) (s : ℕ) → IsSound d → submit_answer d c ≡ submit.Queued s → HasRoom d c × (s ≡ d.accepted + 1)
unfolding submit_answer queued_or_full queued_or_delayed
queued_room d c s sound h =
    ⊎_elim
    (λ (b : d.blocked ≡ true). let g : submit.Busy ≡ submit.Queued s = rw b at h in absurd (cc))
    (λ (b : d.blocked ≡ false).
    ⊎_elim
    (λ (r : ltb d.ring.size (2 * entry_length_in d c) ≡ true). let g : submit.TooBig (entry_length_in d c) (d.ring.size / 2) ≡ submit.Queued s = rw (b, r) at h in absurd (cc))
    (λ (r : ltb d.ring.size (2 * entry_length_in d c) ≡ false).
    ⊎_elim
    (λ (l : ltb d.settings.blocks (blocks_in d c) ≡ true). let g : submit.TooBig (blocks_in d c) d.settings.blocks ≡ submit.Queued s = rw (b, r, l) at h in absurd (cc))
    (λ (l : ltb d.settings.blocks (blocks_in d c) ≡ false).
    let small : 2 * entry_length_in d c ≤ d.ring.size = ltb-false _ _ r in
    ⊎_elim
    (λ (q : eqb d.settings.qfull 0 ≡ true).
    ⊎_elim
    (λ (f : fits_ring d c ≡ true).
    ⊎_elim
    (λ (k : fits_blocks d c ≡ true). let g : submit.Queued (d.accepted + 1) ≡ submit.Queued s = rw (b, r, l, q, f, k) at h in (room_of d c sound small f k, let e : d.accepted + 1 ≡ s = cc in sym e))
    (λ (k : fits_blocks d c ≡ false). let g : submit.FullBlocks (blocks_in d c) (free_blocks d) ≡ submit.Queued s = rw (b, r, l, q, f, k) at h in absurd (cc))
    (cases_Bool (fits_blocks d c)))
    (λ (f : fits_ring d c ≡ false). let g : submit.FullRing (ring.need d.ring (entry_length_in d c)) (ring.free d.ring) ≡ submit.Queued s = rw (b, r, l, q, f) at h in absurd (cc))
    (cases_Bool (fits_ring d c)))
    (λ (q : eqb d.settings.qfull 0 ≡ false).
    ⊎_elim
    (λ (f : fits_ring d c && fits_blocks d c && (length d.delayed == 0) ≡ true).
    let g : submit.Queued (d.accepted + 1) ≡ submit.Queued s = rw (b, r, l, q, f) at h in
    let p = and_parts (fits_ring d c && fits_blocks d c) (length d.delayed == 0) f in
    let p0 = and_parts (fits_ring d c) (fits_blocks d c) p.0 in
    (room_of d c sound small p0.0 p0.1, let e : d.accepted + 1 ≡ s = cc in sym e))
    (λ (f : fits_ring d c && fits_blocks d c && (length d.delayed == 0) ≡ false). let g : submit.Delayed (d.accepted + 1) ≡ submit.Queued s = rw (b, r, l, q, f) at h in absurd (cc))
    (cases_Bool (fits_ring d c && fits_blocks d c && (length d.delayed == 0))))
    (cases_Bool (eqb d.settings.qfull 0)))
    (cases_Bool (ltb d.settings.blocks (blocks_in d c))))
    (cases_Bool (ltb d.ring.size (2 * entry_length_in d c))))
    (cases_Bool d.blocked)

pub above_accepted : (d : DeviceState) (s : ℕ) → IsSound d → s ≡ d.accepted + 1 → Every (λ k. k < s) (serials_in d.ring.laid)
above_accepted d s sound e =
    every-weaker (λ k. (0 < k) × (k ≤ d.accepted)) (λ k. k < s) (serials_in d.ring.laid) (λ k h. let l : k ≤ d.accepted = h.1 in omega arith) (rise_within 0 (serials_in d.ring.laid) d.accepted (laid_rise d sound.serials))

-- what an answer that enters says of room
pub entered_room : (d : DeviceState) (w : Delayed) (ws : List Delayed) (s : ℕ) → IsSound d → d.delayed ≡ w ∷ ws → entered_or_full d (w ∷ ws) ≡ enter.Entered s → HasRoom d w.command × (s ≡ w.serial)
entered_room d w ws s sound e h =
    let c : CommandData = w.command in
    let can : CanWait d.settings c = (subst (Every (λ (v : Delayed). CanWait d.settings v.command)) e sound.room.delayed).0 in
    let small : 2 * entry_length_in d c ≤ d.ring.size = let k : 2 * entry_length_in d c ≤ d.settings.ring = can.ring in let z : d.ring.size ≡ d.settings.ring = sound.ring.size in omega arith in
    ⊎_elim
    (λ (f : fits_ring d c ≡ true).
    ⊎_elim
    (λ (k : fits_blocks d c ≡ true).
    let g : enter.Entered w.serial ≡ enter.Entered s = rw (f, k) at h in
    let b : blocks_in d c ≤ free_blocks d = leb-true _ _ k in
    let hb : held_blocks d ≤ d.settings.blocks = sound.room.blocks in
    (record { small = small; fits = leb-true _ _ f; blocks = omega arith }, let q : w.serial ≡ s = cc in sym q))
    (λ (k : fits_blocks d c ≡ false). let g : enter.FullBlocks (blocks_in d c) (free_blocks d) ≡ enter.Entered s = rw (f, k) at h in absurd (cc))
    (cases_Bool (fits_blocks d c)))
    (λ (f : fits_ring d c ≡ false). let g : enter.FullRing (ring.need d.ring (entry_length_in d c)) (ring.free d.ring) ≡ enter.Entered s = rw f at h in absurd (cc))
    (cases_Bool (fits_ring d c))

pub room_answered : (d : DeviceState) (w : Delayed) (ws : List Delayed) (s : ℕ) → IsSound d → d.delayed ≡ w ∷ ws → enter_answer d ≡ enter.Entered s → HasRoom d w.command × (s ≡ w.serial)
unfolding enter_answer
room_answered d w ws s sound e h = entered_room d w ws s sound e (ap (entered_or_full d) (sym e) ∙ h)

-- a delayed command that enters is above all that are laid
pub above_laid : (d : DeviceState) (w : Delayed) (ws : List Delayed) → IsSound d → d.delayed ≡ w ∷ ws → Every (λ k. k < w.serial) (serials_in d.ring.laid)
above_laid d w ws sound e = (subst (Every (λ (v : Delayed). Every (λ k. k < v.serial) (serials_in d.ring.laid))) e (delayed_above d sound)).0
