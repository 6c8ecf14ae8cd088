-- A command that is submitted, or that enters, leaves the device sound.
use Rattle.std.proofs.Common.{◌≡◌, ◌≢◌, ℕ, ◌+◌, ◌*◌, ◌/◌, Bool, true, false, not, cond, List, [], ◌∷◌, ◌++◌, length, refl, sym, ap, ◌∙◌, arith, ⊎_elim, subst, ◌&&◌, eqb, ◌==◌, ltb, leb, append_assoc, append-nil, suc}
use Rattle.std.specs.List.{count_by}
use Rattle.std.proofs.lemmas.Bool.{cases_Bool, leb-true, ltb-false, leb-false, le-leb, lt-leb, eqb-true, eqb-false, and_parts}
use Rattle.std.proofs.lemmas.List.{map-append}
use Rattle.std.proofs.lemmas.List.Sums.{sum_by-cons, sum_by_push}
use Rattle.tcmu_types.specs.Data.{CommandData}
use Rattle.tcmu_types.specs.Rules.{IsCommand}
use Rattle.tcmu_types.specs.declared.answer.Submit.{Submit}
use Rattle.tcmu_types.specs.declared.answer.Submit.TheVariants as submit
use Rattle.tcmu_types.specs.declared.answer.Enter.{Enter}
use Rattle.tcmu_types.specs.declared.answer.Enter.TheVariants as enter
use Rattle.tcmu_model.specs.RingState.{serials_in, need, free}
use Rattle.tcmu_model.specs.Device.{Unfinished, Delayed, DeviceState}
use Rattle.tcmu_model.specs.Events.{blocks_in, entry_length_in, fits_ring, fits_blocks, waiting, with_command, with_delayed, one_accepted, queued_or_full, queued_or_delayed, submit_answer, after_submit, enter_answer, after_enter, after_entering, free_blocks}
use Rattle.tcmu_model.specs.Sound.{CanWait, delayed_serials, times_open, is_open_at, is_delayed_at, IsSound}
use Rattle.tcmu_types.specs.Numbers.{Rise}
use Rattle.tcmu_types.specs.Lists.{Every}
use Rattle.tcmu_types.proofs.Everies.{every-append}
use Rattle.tcmu_types.proofs.Rises.{rise_push}
use Rattle.tcmu_model.proofs.SoundLaying.{entered, sound_entered}

-- ==== the serials that are accepted

pub accepted_more : (n k : ℕ) → cond {A = ℕ} (ltb 0 k && leb k (n + 1)) 1 0 ≡ cond (ltb 0 k && leb k n) 1 0 + cond (eqb (n + 1) k) 1 0
accepted_more n k =
    ⊎_elim
    (λ (e : eqb (n + 1) k ≡ true).
    let q : n + 1 ≡ k = eqb-true (n + 1) k e in
    let a : ltb 0 k ≡ true = le-leb 1 k (omega (arith, q)) in
    let b : leb k (n + 1) ≡ true = le-leb k (n + 1) (omega (arith, q)) in
    let c : leb k n ≡ false = lt-leb k n (omega (arith, q)) in
    rw (e, a, b, c) refl)
    (λ (e : eqb (n + 1) k ≡ false).
    let q : n + 1 ≢ k = eqb-false (n + 1) k e in
    ⊎_elim
    (λ (z : leb k n ≡ true). let b : leb k (n + 1) ≡ true = le-leb k (n + 1) (omega (arith, leb-true k n z)) in rw (e, z, b) (plus (ltb 0 k && true)))
    (λ (z : leb k n ≡ false). let b : leb k (n + 1) ≡ false = lt-leb k (n + 1) (omega (arith, leb-false k n z, q)) in rw (e, z, b) (plus (ltb 0 k && false)))
    (cases_Bool (leb k n)))
    (cases_Bool (eqb (n + 1) k))
  where
    plus : (b : Bool) → cond {A = ℕ} b 1 0 ≡ cond b 1 0 + 0
    plus b = omega arith

-- ==== submit

open_push : (k s : ℕ) (us : List Unfinished) (u : Unfinished) → u.serial ≡ s → u.expired ≡ false → count_by (is_open_at k) (us ++ u ∷ []) ≡ count_by (is_open_at k) us + cond (eqb s k) 1 0
open_push k s us u e x =
    let a : count_by (is_open_at k) (us ++ u ∷ []) ≡ count_by (is_open_at k) us + cond (is_open_at k u) 1 0 = sum_by_push (λ (v : Unfinished). cond {A = ℕ} (is_open_at k v) 1 0) us u in
    let b : cond {A = ℕ} (is_open_at k u) 1 0 ≡ cond (eqb s k) 1 0 = rw (e, x) (opened (eqb s k)) in
    omega (arith, a, b)
  where
    opened : (t : Bool) → cond {A = ℕ} (t && not false) 1 0 ≡ cond t 1 0
    opened true = refl
    opened false = refl

pub none_waits : (ws : List Delayed) → (length ws == 0) ≡ true → ws ≡ []
none_waits [] h = refl
none_waits (w ∷ ws) h = absurd (positive (length ws) (eqb-true (length (w ∷ ws)) 0 h))
  where
    positive : (n : ℕ) → suc n ≡ 0 → ⊥
    positive n q = omega arith

sound_queued : (d : DeviceState) (c : CommandData) → IsSound d → IsCommand c → fits_ring d c ≡ true → fits_blocks d c ≡ true → d.delayed ≡ [] → IsSound (with_command (one_accepted d) (d.accepted + 1) c)
unfolding with_command
sound_queued d c h isc fr fb none =
    let n : ℕ = d.accepted in
    let r0 : Rise 0 (serials_in d.ring.laid ++ []) n = subst (λ (ws : List Delayed). Rise 0 (serials_in d.ring.laid ++ delayed_serials ws) n) none h.serials.rise in
    let r1 : Rise 0 (serials_in d.ring.laid) n = subst (λ (xs : List ℕ). Rise 0 xs n) (append-nil (serials_in d.ring.laid)) r0 in
    sound_entered d (n + 1) c d.delayed (n + 1) h isc fr fb
    (subst (λ (ws : List Delayed). Rise 0 (serials_in d.ring.laid ++ (n + 1) ∷ delayed_serials ws) (n + 1)) (sym none) (rise_push 0 (serials_in d.ring.laid) n (n + 1) (omega arith) r1))
    h.room.delayed (λ q. none)
    (λ k. omega (arith, h.serials.accounted k, accepted_more n k, open_push k (n + 1) d.unfinished (waiting d (n + 1) c) refl refl))

pub delayed_push : (k s : ℕ) (ws : List Delayed) (w : Delayed) → w.serial ≡ s → count_by (is_delayed_at k) (ws ++ w ∷ []) ≡ count_by (is_delayed_at k) ws + cond (eqb s k) 1 0
delayed_push k s ws w e =
    let a : count_by (is_delayed_at k) (ws ++ w ∷ []) ≡ count_by (is_delayed_at k) ws + cond (is_delayed_at k w) 1 0 = sum_by_push (λ (v : Delayed). cond {A = ℕ} (is_delayed_at k v) 1 0) ws w in
    let b : cond {A = ℕ} (is_delayed_at k w) 1 0 ≡ cond (eqb s k) 1 0 = rw e refl in
    omega (arith, a, b)

sound_delayed : (d : DeviceState) (c : CommandData) → IsSound d → CanWait d.settings c → d.settings.qfull ≢ 0 → IsSound (with_delayed (one_accepted d) (d.accepted + 1) c)
unfolding with_delayed
sound_delayed d c h can some =
    let n : ℕ = d.accepted in
    let w : Delayed = record { serial = n + 1; command = c; leaves = d.now + d.settings.qfull } in
    let e : delayed_serials (d.delayed ++ w ∷ []) ≡ delayed_serials d.delayed ++ (n + 1) ∷ [] = map-append (λ (v : Delayed). v.serial) d.delayed (w ∷ []) in
    let r : Rise 0 ((serials_in d.ring.laid ++ delayed_serials d.delayed) ++ (n + 1) ∷ []) (n + 1) =
    rise_push 0 (serials_in d.ring.laid ++ delayed_serials d.delayed) n (n + 1) (omega arith) h.serials.rise in
    record {
      settings = h.settings;
      ring = h.ring;
      serials = record {
        rise = subst (λ (xs : List ℕ). Rise 0 xs (n + 1)) (append_assoc (serials_in d.ring.laid) (delayed_serials d.delayed) ((n + 1) ∷ []) ∙ ap (λ (xs : List ℕ). serials_in d.ring.laid ++ xs) (sym e)) r;
        order = h.serials.order;
        laid = h.serials.laid;
        accounted = λ k. omega (arith, h.serials.accounted k, accepted_more n k, delayed_push k (n + 1) d.delayed w refl);
      };
      answers = record {
        published = h.answers.published;
        differ = h.answers.differ;
        dispatched = h.answers.dispatched;
        states = h.answers.states;
        replies = h.answers.replies;
        in_order = h.answers.in_order;
        parked = h.answers.parked;
      };
      room = record {
        blocks = h.room.blocks;
        delayed = every-append (λ v. CanWait d.settings v.command) d.delayed (w ∷ []) h.room.delayed (can, tt);
        none = λ q. absurd (some q);
        now = h.room.now;
      };
    }

full_or : (d : DeviceState) (c : CommandData) → IsSound d → IsCommand c → d.settings.qfull ≡ 0 → IsSound (after_submit d c (queued_or_full d c))
unfolding after_submit queued_or_full
full_or d c h isc q =
    ⊎_elim
    (λ (e : fits_ring d c ≡ true).
    ⊎_elim
    (λ (z : fits_blocks d c ≡ true). rw (e, z) (sound_queued d c h isc e z (h.room.none q)))
    (λ (z : fits_blocks d c ≡ false). rw (e, z) h)
    (cases_Bool (fits_blocks d c)))
    (λ (e : fits_ring d c ≡ false). rw e h)
    (cases_Bool (fits_ring d c))

delayed_or : (d : DeviceState) (c : CommandData) → IsSound d → CanWait d.settings c → d.settings.qfull ≢ 0 → IsSound (after_submit d c (queued_or_delayed d c))
unfolding after_submit queued_or_delayed
delayed_or d c h can q =
    ⊎_elim
    (λ (e : (fits_ring d c && fits_blocks d c && (length d.delayed == 0)) ≡ true).
    let f : ((fits_ring d c && fits_blocks d c) ≡ true) × ((length d.delayed == 0) ≡ true) = and_parts _ _ e in
    let g : (fits_ring d c ≡ true) × (fits_blocks d c ≡ true) = and_parts _ _ f.0 in
    rw e (sound_queued d c h can.command g.0 g.1 (none_waits d.delayed f.1)))
    (λ (e : (fits_ring d c && fits_blocks d c && (length d.delayed == 0)) ≡ false). rw e (sound_delayed d c h can q))
    (cases_Bool (fits_ring d c && fits_blocks d c && (length d.delayed == 0)))

answered_by : (d : DeviceState) (c : CommandData) (x : Submit) → submit_answer d c ≡ x → IsSound (after_submit d c x) → IsSound (after_submit d c (submit_answer d c))
answered_by d c x e h = subst (λ (y : Submit). IsSound (after_submit d c y)) (sym e) h

pub sound_after_submit : (d : DeviceState) (c : CommandData) → IsSound d → IsCommand c → IsSound (after_submit d c (submit_answer d c))
unfolding submit_answer after_submit
sound_after_submit d c h isc =
    ⊎_elim
    (λ (b : d.blocked ≡ true). answered_by d c submit.Busy (rw b refl) h)
    (λ (b : d.blocked ≡ false).
    ⊎_elim
    (λ (r : ltb d.ring.size (2 * entry_length_in d c) ≡ true). answered_by d c (submit.TooBig (entry_length_in d c) (d.ring.size / 2)) (rw (b, r) refl) h)
    (λ (r : ltb d.ring.size (2 * entry_length_in d c) ≡ false).
    ⊎_elim
    (λ (l : ltb d.settings.blocks (blocks_in d c) ≡ true). answered_by d c (submit.TooBig (blocks_in d c) d.settings.blocks) (rw (b, r, l) refl) h)
    (λ (l : ltb d.settings.blocks (blocks_in d c) ≡ false).
    ⊎_elim
    (λ (q : eqb d.settings.qfull 0 ≡ true). answered_by d c (queued_or_full d c) (rw (b, r, l, q) refl) (full_or d c h isc (eqb-true d.settings.qfull 0 q)))
    (λ (q : eqb d.settings.qfull 0 ≡ false).
    answered_by d c (queued_or_delayed d c) (rw (b, r, l, q) refl)
    (delayed_or d c h (record { command = isc; ring = omega (arith, ltb-false _ _ r, h.ring.size); blocks = ltb-false _ _ l }) (eqb-false d.settings.qfull 0 q)))
    (cases_Bool (eqb d.settings.qfull 0)))
    (cases_Bool (ltb d.settings.blocks (blocks_in d c))))
    (cases_Bool (ltb d.ring.size (2 * entry_length_in d c))))
    (cases_Bool d.blocked)

-- ==== enter

entered_open : (d : DeviceState) (w : Delayed) (ws : List Delayed) (k : ℕ) → d.delayed ≡ w ∷ ws → times_open (entered d w.serial w.command ws d.accepted) k ≡ times_open d k
entered_open d w ws k e =
    let a : count_by (is_delayed_at k) d.delayed ≡ cond (eqb w.serial k) 1 0 + count_by (is_delayed_at k) ws = ap (count_by (is_delayed_at k)) e ∙ sum_by-cons (λ (v : Delayed). cond {A = ℕ} (is_delayed_at k v) 1 0) w ws in
    omega (arith, a, open_push k w.serial d.unfinished (waiting d w.serial w.command) refl refl)

entering : (d : DeviceState) (ws : List Delayed) → IsSound d → d.delayed ≡ ws → IsSound (after_enter d (enter_answer d))
unfolding after_enter enter_answer with_command
entering d [] h e = let a : enter_answer d ≡ enter.Empty = rw e refl in subst (λ (x : Enter). IsSound (after_enter d x)) (sym a) h
entering d (w ∷ ws) h e =
    let can : Every (λ v. CanWait d.settings v.command) (w ∷ ws) = subst (λ (vs : List Delayed). Every (λ v. CanWait d.settings v.command) vs) e h.room.delayed in
    ⊎_elim
    (λ (r : fits_ring d w.command ≡ true).
    ⊎_elim
    (λ (b : fits_blocks d w.command ≡ true).
    let a : enter_answer d ≡ enter.Entered w.serial = rw (e, r, b) refl in
    let x : after_entering d d.delayed ≡ entered d w.serial w.command ws d.accepted = ap (after_entering d) e in
    let s : IsSound (entered d w.serial w.command ws d.accepted) = sound_entered d w.serial w.command ws d.accepted h can.0.command r b
    (subst (λ (vs : List Delayed). Rise 0 (serials_in d.ring.laid ++ delayed_serials vs) d.accepted) e h.serials.rise)
    can.1 (λ q. absurd (filled w ws (sym e ∙ h.room.none q)))
    (λ k. omega (arith, h.serials.accounted k, entered_open d w ws k e)) in
    subst (λ (y : Enter). IsSound (after_enter d y)) (sym a) (subst IsSound (sym x) s))
    (λ (b : fits_blocks d w.command ≡ false).
    let a : enter_answer d ≡ enter.FullBlocks (blocks_in d w.command) (free_blocks d) = rw (e, r, b) refl in
    subst (λ (x : Enter). IsSound (after_enter d x)) (sym a) h)
    (cases_Bool (fits_blocks d w.command)))
    (λ (r : fits_ring d w.command ≡ false).
    let a : enter_answer d ≡ enter.FullRing (need d.ring (entry_length_in d w.command)) (free d.ring) = rw (e, r) refl in
    subst (λ (x : Enter). IsSound (after_enter d x)) (sym a) h)
    (cases_Bool (fits_ring d w.command))
  where
    filled : (w : Delayed) (ws : List Delayed) → w ∷ ws ≡ [] → ⊥
    filled w ws q = cc

pub sound_after_enter : (d : DeviceState) → IsSound d → IsSound (after_enter d (enter_answer d))
sound_after_enter d h = entering d d.delayed h refl
