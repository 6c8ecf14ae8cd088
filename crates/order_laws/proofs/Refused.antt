-- Which refusal is answered where several apply.
use Rattle.std.proofs.Common.{◌≡◌, ◌≢◌, ℕ, ◌+◌, ◌*◌, ◌/◌, ◌<◌, ◌≤◌, Bool, true, false, ◌&&◌, List, [], ◌∷◌, ◌++◌, length, Some, refl, arith, ⊎_elim, subst, eqb}
use Rattle.std.specs.List.{list_any}
use Rattle.std.proofs.lemmas.Bool.{cases_Bool, le-ltb, lt-ltb, ne_eqb}
use Rattle.tcmu_types.specs.Data.{CommandData}
use Rattle.tcmu_types.specs.Events.{Detached}
use Rattle.tcmu_types.specs.Lists.{Every}
use Rattle.tcmu_types.specs.Numbers.{Rise}
use Rattle.tcmu_types.proofs.Everies.{every-mapped, every-weaker}
use Rattle.tcmu_types.proofs.Rises.{rise_seam, rise_within}
use Rattle.tcmu_types.specs.declared.answer.Enter.TheVariants as enter
use Rattle.tcmu_types.specs.declared.answer.Reset.TheVariants as reset
use Rattle.tcmu_types.specs.declared.answer.Submit.TheVariants as submit
use Rattle.tcmu_types.specs.declared.answer.Tmr.TheVariants as tmr
use Rattle.tcmu_model.specs.RingState.{free, need, serials_in}
use Rattle.tcmu_model.specs.Device.{Unfinished, Delayed, DeviceState, has_serial}
use Rattle.tcmu_model.specs.Events.{blocks_in, dispatch_answer, enter_answer, entered_or_full, entry_length_in, fits_blocks, fits_ring, free_blocks, queued_or_delayed, queued_or_full, reset_answer, submit_answer, tmr_answer, unknown_serial}
use Rattle.tcmu_model.specs.Sound.{IsSound, delayed_serials}
use Rattle.order_laws.specs.Rooms.{LooksForRoom}

-- ==== submit

pub submit_busy : (d : DeviceState) (c : CommandData) → d.blocked ≡ true → submit_answer d c ≡ submit.Busy
unfolding submit_answer
submit_busy d c h = rw h refl

pub submit_long : (d : DeviceState) (c : CommandData) → d.blocked ≡ false → d.ring.size < 2 * entry_length_in d c → submit_answer d c ≡ submit.TooBig (entry_length_in d c) (d.ring.size / 2)
unfolding submit_answer
submit_long d c h l = rw (h, lt-ltb d.ring.size (2 * entry_length_in d c) l) refl

pub submit_ring : (d : DeviceState) (c : CommandData) → LooksForRoom d c → d.settings.qfull ≡ 0 → fits_ring d c ≡ false → submit_answer d c ≡ submit.FullRing (need d.ring (entry_length_in d c)) (free d.ring)
unfolding submit_answer queued_or_full
submit_ring d c h q f = rw (h.unblocked, le-ltb _ _ h.short, le-ltb _ _ h.few, q, f) refl

pub submit_waiting : (d : DeviceState) (c : CommandData) → LooksForRoom d c → d.settings.qfull ≢ 0 → d.delayed ≢ [] → submit_answer d c ≡ submit.Delayed (d.accepted + 1)
unfolding submit_answer queued_or_delayed
submit_waiting d c h q w =
    let a : eqb (length d.delayed) 0 ≡ false = ne_eqb (length d.delayed) 0 (λ e. w (none d.delayed e)) in
    rw (h.unblocked, le-ltb _ _ h.short, le-ltb _ _ h.few, ne_eqb d.settings.qfull 0 q, a, and_false (fits_ring d c && fits_blocks d c)) refl
  where
    none : (ws : List Delayed) → length ws ≡ 0 → ws ≡ []
    none [] e = refl
    none (w ∷ ws) e = absurd (omega (arith, e))

    and_false : (b : Bool) → (b && false) ≡ false
    and_false true = refl
    and_false false = refl

-- ==== enter

entered_oldest : (d : DeviceState) (ws : List Delayed) (s : ℕ) → Rise 0 (serials_in d.ring.laid ++ delayed_serials ws) d.accepted → entered_or_full d ws ≡ enter.Entered s → Every (λ w. s ≤ w.serial) ws
entered_oldest d [] s r h = tt
entered_oldest d (w ∷ ws) s r h =
    let seam = rise_seam 0 (serials_in d.ring.laid) w.serial (delayed_serials ws) d.accepted r in
    let b : Every (λ k. (w.serial < k) × (k ≤ d.accepted)) (delayed_serials ws) = rise_within w.serial (delayed_serials ws) d.accepted seam.2 in
    let c : Every (λ (v : Delayed). w.serial ≤ v.serial) ws = every-weaker (λ (v : Delayed). (w.serial < v.serial) × (v.serial ≤ d.accepted)) (λ (v : Delayed). w.serial ≤ v.serial) ws (λ v z. omega (arith, z.0))
    (every-mapped (λ (v : Delayed). v.serial) (λ k. (w.serial < k) × (k ≤ d.accepted)) ws b) in
    let all : Every (λ (v : Delayed). w.serial ≤ v.serial) (w ∷ ws) = (omega arith, c) in
    subst (λ k. Every (λ (v : Delayed). k ≤ v.serial) (w ∷ ws)) it all
  where
    it : w.serial ≡ s
    it =
        ⊎_elim
        (λ (a : fits_ring d w.command ≡ true).
        ⊎_elim
        (λ (b : fits_blocks d w.command ≡ true). let k : enter.Entered w.serial ≡ enter.Entered s = rw (a, b) at h in cc)
        (λ (b : fits_blocks d w.command ≡ false). let k : enter.FullBlocks (blocks_in d w.command) (free_blocks d) ≡ enter.Entered s = rw (a, b) at h in absurd (cc))
        (cases_Bool (fits_blocks d w.command)))
        (λ (a : fits_ring d w.command ≡ false).
        let k : enter.FullRing (need d.ring (entry_length_in d w.command)) (free d.ring) ≡ enter.Entered s = rw a at h in absurd (cc))
        (cases_Bool (fits_ring d w.command))

pub enter_oldest : (d : DeviceState) (s : ℕ) → IsSound d → enter_answer d ≡ enter.Entered s → Every (λ w. s ≤ w.serial) d.delayed
unfolding enter_answer
enter_oldest d s g h = entered_oldest d d.delayed s g.serials.rise h

pub enter_ring : (d : DeviceState) (w : Delayed) (ws : List Delayed) → d.delayed ≡ w ∷ ws → fits_ring d w.command ≡ false → enter_answer d ≡ enter.FullRing (need d.ring (entry_length_in d w.command)) (free d.ring)
unfolding enter_answer
enter_ring d w ws e f = rw (e, f) refl

-- ==== notes, resets, dispatches

pub note_off : (d : DeviceState) (serials : List ℕ) → d.settings.flags.tmr ≡ false → tmr_answer d serials ≡ tmr.Off
unfolding tmr_answer
note_off d serials h = rw h refl

pub note_busy : (d : DeviceState) (serials : List ℕ) → d.settings.flags.tmr ≡ true → d.blocked ≡ true → tmr_answer d serials ≡ tmr.Busy
unfolding tmr_answer
note_busy d serials h b = rw (h, b) refl

first_unknown : (us : List Unfinished) (front back : List ℕ) (s : ℕ) → Every (λ k. list_any (has_serial k) us ≡ true) front → list_any (has_serial s) us ≡ false → unknown_serial us (front ++ s ∷ back) ≡ Some s
first_unknown us [] back s h n = rw n refl
first_unknown us (k ∷ front) back s h n = rw (h.0) (first_unknown us front back s h.1 n)

pub note_unknown : (d : DeviceState) (front back : List ℕ) (s : ℕ) → d.settings.flags.tmr ≡ true → d.blocked ≡ false → Every (λ k. list_any (has_serial k) d.unfinished ≡ true) front → list_any (has_serial s) d.unfinished ≡ false → tmr_answer d (front ++ s ∷ back) ≡ tmr.Unknown s
unfolding tmr_answer
note_unknown d front back s h b k n = rw (h, b, first_unknown d.unfinished front back s k n) refl

pub reset_unblocked : (d : DeviceState) (level : ℕ) → d.blocked ≡ false → reset_answer d level ≡ reset.NotBlocked
unfolding reset_answer
reset_unblocked d level h = rw h refl

pub dispatch_detached : (d : DeviceState) → d.attached ≡ false → dispatch_answer d ≡ Detached
unfolding dispatch_answer
dispatch_detached d h = rw h refl
