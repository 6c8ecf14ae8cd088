-- A command or a note that is laid leaves the device sound.
use Rattle.std.proofs.Common.{◌≡◌, ℕ, ◌+◌, ◌*◌, ◌/◌, ◌%◌, ◌<◌, ◌≤◌, Bool, true, false, not, List, [], ◌∷◌, ◌++◌, length, take, map, refl, sym, ap, ◌∙◌, arith, ⊎_elim, subst, ◌||◌, if◌then◌else◌, max, append_assoc, append-nil}
use Rattle.std.specs.List.{list_any, filter, sum_by}
use Rattle.std.specs.Option.{is_some}
use Rattle.std.specs.Prelude.{IfSome}
use Rattle.std.proofs.lemmas.Bool.{cases_Bool, leb-true, false≢true}
use Rattle.std.proofs.lemmas.List.{map-append}
use Rattle.std.proofs.lemmas.List.Elements.{filter-append}
use Rattle.std.proofs.lemmas.List.Sums.{sum_by_push}
use Rattle.tcmu_types.specs.Data.{CommandData}
use Rattle.tcmu_types.specs.Rules.{IsCommand}
use Rattle.tcmu_model.specs.declared.state.CommandState.TheVariants.{Parked, Placed}
use Rattle.tcmu_model.specs.Lengths.{blocks_of, entry_length, tmr_length, round_up}
use Rattle.tcmu_model.specs.RingState.{Item, Cmd, Tmr, with_item, fits, commands_in, serials_in, cleared_commands, published_commands, pads, pad}
use Rattle.tcmu_model.specs.Device.{Unfinished, Delayed, DeviceState, has_state}
use Rattle.tcmu_model.specs.Events.{held_blocks, free_blocks, blocks_in, entry_length_in, fits_ring, fits_blocks, waiting, with_note, tmr_length_of}
use Rattle.tcmu_types.specs.Numbers.{is_among, Rise}
use Rattle.tcmu_model.specs.Sound.{CanWait, ReplyFits, IsLaid, finished, delayed_serials, dispatched_serials, times_logged, times_open, is_accepted, is_right, state_fits, parked_rightly, SerialsSound, AnswersSound, IsSound}
use Rattle.tcmu_types.specs.Lists.{Every}
use Rattle.tcmu_types.proofs.Everies.{every-weaker, every-append, every-take}
use Rattle.tcmu_types.proofs.Rises.{rise_seam, not_among}
use Rattle.tcmu_model.proofs.Laying.{take_laid, serials_laid, laid_more, laid_last, ring_with}
use Rattle.tcmu_model.proofs.Basics.{dispatched_every, placed_every}

-- ==== lengths

pub entry_even : (pages : ℕ) (c : CommandData) → entry_length pages c % 8 ≡ 0
entry_even pages c = even (blocks_of pages c) (length c.cdb)
  where
    even : (b n : ℕ) → (max 112 (48 + 16 * b) + (n + 7) / 8 * 8) % 8 ≡ 0
    even b n = omega arith

pub entry_least : (pages : ℕ) (c : CommandData) → 112 ≤ entry_length pages c
entry_least pages c = least (blocks_of pages c) (round_up (length c.cdb))
  where
    least : (b n : ℕ) → 112 ≤ max 112 (48 + 16 * b) + n
    least b n = omega arith

pub tmr_sizes : (n : ℕ) → (8 ≤ tmr_length n) × (tmr_length n % 8 ≡ 0)
tmr_sizes n = (omega arith, omega arith)

-- ==== a row behind the others

parked-push : (ooo : Bool) (us : List Unfinished) (u : Unfinished) → has_state Parked u ≡ false → parked_rightly ooo us ≡ true → parked_rightly ooo (us ++ u ∷ []) ≡ true
parked-push true us u h k = none us k
  where
    none : (us : List Unfinished) → not (list_any (has_state Parked) us) ≡ true → not (list_any (has_state Parked) (us ++ u ∷ [])) ≡ true
    none [] k = rw h refl
    none (v ∷ us) k =
        ⊎_elim
        (λ (e : has_state Parked v ≡ true). let z : not (true || list_any (has_state Parked) us) ≡ true = rw e at k in absurd (false≢true z))
        (λ (e : has_state Parked v ≡ false). let z : not (false || list_any (has_state Parked) us) ≡ true = rw e at k in rw e (none us z))
        (cases_Bool (has_state Parked v))
parked-push false us u h k = first us k
  where
    first : (us : List Unfinished) → parked_rightly false us ≡ true → parked_rightly false (us ++ u ∷ []) ≡ true
    first [] k =
        ⊎_elim
        (λ (e : not (has_state Placed u) ≡ true). rw (e, h) refl)
        (λ (e : not (has_state Placed u) ≡ false). rw e refl)
        (cases_Bool (not (has_state Placed u)))
    first (v ∷ us) k =
        ⊎_elim
        (λ (e : not (has_state Placed v) ≡ true). let z : not (has_state Parked v) ≡ true = rw e at k in rw (e, z) refl)
        (λ (e : not (has_state Placed v) ≡ false). let z : parked_rightly false us ≡ true = rw e at k in rw e (first us z))
        (cases_Bool (not (has_state Placed v)))

-- ==== a command is laid

abbrev item_of : DeviceState → ℕ → CommandData → Item
item_of d s c = record { len = entry_length_in d c; laid = Cmd s c }

-- a command laid under a serial above all that are laid, while these wait and so many are accepted
abbrev pub entered : DeviceState → ℕ → CommandData → List Delayed → ℕ → DeviceState
entered d s c ws n =
    record d { ring = with_item d.ring (item_of d s c); unfinished = d.unfinished ++ waiting d s c ∷ []; delayed = ws; accepted = n }

serials_entered : (d : DeviceState) (s : ℕ) (c : CommandData) (ws : List Delayed) (n : ℕ) → IsSound d → Rise 0 (serials_in d.ring.laid ++ s ∷ delayed_serials ws) n →
    ((k : ℕ) → times_logged d.log k + times_open (entered d s c ws n) k ≡ (if is_accepted (entered d s c ws n) k then 1 else 0)) → SerialsSound (entered d s c ws n)
serials_entered d s c ws n h r a =
    let i : Item = item_of d s c in
    let us = d.unfinished in
    let e : serials_in (with_item d.ring i).laid ≡ serials_in d.ring.laid ++ s ∷ [] = serials_laid d.ring i in
    let cl : d.ring.cleared ≤ length d.ring.laid = omega (arith, h.ring.cleared, h.ring.published, h.ring.dispatched) in
    let cut : cleared_commands (with_item d.ring i) ≡ cleared_commands d.ring = ap commands_in (take_laid d.ring i d.ring.cleared cl) in
    let below : Every (λ x. x < s) (serials_in d.ring.laid) = (rise_seam 0 (serials_in d.ring.laid) s (delayed_serials ws) n r).0 in
    let no : is_among (take (cleared_commands d.ring) d.placed) s ≡ false = not_among (take (cleared_commands d.ring) d.placed) s (every-take (λ x. x < s) (cleared_commands d.ring) d.placed (placed_every (λ x. x < s) d h.answers below)) in
    let keep : ℕ → Bool = λ x. not (is_among (take (cleared_commands d.ring) d.placed) x) in
    let last : filter keep (s ∷ []) ≡ s ∷ [] = rw no refl in
    record {
      rise = subst (λ (xs : List ℕ). Rise 0 xs n) (sym (append_assoc (serials_in d.ring.laid) (s ∷ []) (delayed_serials ws)) ∙ ap (λ (xs : List ℕ). xs ++ delayed_serials ws) (sym e)) r;
      order = subst (λ (m : ℕ). map (λ u. u.serial) (us ++ waiting d s c ∷ []) ≡ filter (λ x. not (is_among (take m d.placed) x)) (serials_in (with_item d.ring i).laid)) (sym cut)
          (map-append (λ (u : Unfinished). u.serial) us (waiting d s c ∷ [])
          ∙ (ap (λ (xs : List ℕ). xs ++ s ∷ []) h.serials.order
          ∙ (ap (λ (xs : List ℕ). filter keep (serials_in d.ring.laid) ++ xs) (sym last)
          ∙ (sym (filter-append keep (serials_in d.ring.laid) (s ∷ [])) ∙ ap (filter keep) (sym e)))));
      laid = every-append (λ u. IsLaid (with_item d.ring i).laid u.serial u.command) us (waiting d s c ∷ [])
          (every-weaker (λ u. IsLaid d.ring.laid u.serial u.command) (λ u. IsLaid (with_item d.ring i).laid u.serial u.command) us
          (λ u k. laid_more (d.ring.laid ++ pads (pad d.ring i.len)) (i ∷ []) u.serial u.command (laid_more d.ring.laid (pads (pad d.ring i.len)) u.serial u.command k)) h.serials.laid)
          (laid_last (d.ring.laid ++ pads (pad d.ring i.len)) i.len s c, tt);
      accounted = a;
    }

answers_entered : (d : DeviceState) (s : ℕ) (c : CommandData) (ws : List Delayed) (n : ℕ) → IsSound d → Every (λ x. x < s) (serials_in d.ring.laid) → AnswersSound (entered d s c ws n)
answers_entered d s c ws n h below =
    let i : Item = item_of d s c in
    let pl : d.ring.published ≤ length d.ring.laid = omega (arith, h.ring.published, h.ring.dispatched) in
    let cut : published_commands (with_item d.ring i) ≡ published_commands d.ring = ap commands_in (take_laid d.ring i d.ring.published pl) in
    let sent : dispatched_serials (with_item d.ring i) ≡ dispatched_serials d.ring = ap serials_in (take_laid d.ring i d.ring.dispatched h.ring.dispatched) in
    let no : is_among (dispatched_serials d.ring) s ≡ false = not_among (dispatched_serials d.ring) s (dispatched_every (λ x. x < s) d.ring below) in
    let old : Every (λ u. state_fits (is_among (dispatched_serials d.ring) u.serial) (is_among d.placed u.serial) (is_among (take (published_commands d.ring) d.placed) u.serial) d.attached u.state (is_some u.reply) ≡ true) (d.unfinished ++ waiting d s c ∷ []) =
    every-append (λ u. is_right d u ≡ true) d.unfinished (waiting d s c ∷ []) h.answers.states (rw no refl, tt) in
    record {
      published = omega (arith, cut, h.answers.published);
      differ = h.answers.differ;
      dispatched = subst (λ (xs : List ℕ). Every (λ k. is_among xs k ≡ true) d.placed) (sym sent) h.answers.dispatched;
      states = subst (λ (xs : List ℕ). Every (λ u. state_fits (is_among xs u.serial) (is_among d.placed u.serial) (is_among (take (published_commands (with_item d.ring i)) d.placed) u.serial) d.attached u.state (is_some u.reply) ≡ true) (d.unfinished ++ waiting d s c ∷ [])) (sym sent)
          (subst (λ (m : ℕ). Every (λ u. state_fits (is_among (dispatched_serials d.ring) u.serial) (is_among d.placed u.serial) (is_among (take m d.placed) u.serial) d.attached u.state (is_some u.reply) ≡ true) (d.unfinished ++ waiting d s c ∷ [])) (sym cut) old);
      replies = every-append (λ u. IfSome u.reply (ReplyFits u.command)) d.unfinished (waiting d s c ∷ []) h.answers.replies (tt, tt);
      in_order = λ q. let b = h.answers.in_order q in (b.0 ++ s ∷ [], serials_laid d.ring i ∙ (ap (λ (xs : List ℕ). xs ++ s ∷ []) b.1 ∙ append_assoc d.placed b.0 (s ∷ [])));
      parked = parked-push d.settings.flags.ooo d.unfinished (waiting d s c) refl h.answers.parked;
    }

pub sound_entered : (d : DeviceState) (s : ℕ) (c : CommandData) (ws : List Delayed) (n : ℕ) → IsSound d → IsCommand c → fits_ring d c ≡ true → fits_blocks d c ≡ true → Rise 0 (serials_in d.ring.laid ++ s ∷ delayed_serials ws) n →
    Every (λ w. CanWait d.settings w.command) ws → (d.settings.qfull ≡ 0 → ws ≡ []) →
    ((k : ℕ) → times_logged d.log k + times_open (entered d s c ws n) k ≡ (if is_accepted (entered d s c ws n) k then 1 else 0)) → IsSound (entered d s c ws n)
sound_entered d s c ws n h isc fr fb r cw none a =
    let below : Every (λ x. x < s) (serials_in d.ring.laid) = (rise_seam 0 (serials_in d.ring.laid) s (delayed_serials ws) n r).0 in
    record {
      settings = h.settings;
      ring = ring_with d.settings d.ring (item_of d s c) h.settings h.ring fr (let l : 112 ≤ entry_length_in d c = entry_least d.settings.pages c in omega (arith, l)) (entry_even d.settings.pages c) (λ start. (refl, isc)) refl;
      serials = serials_entered d s c ws n h r a;
      answers = answers_entered d s c ws n h below;
      room = record {
        blocks = let e : sum_by (λ u. blocks_in d u.command) (d.unfinished ++ waiting d s c ∷ []) ≡ held_blocks d + blocks_in d c = sum_by_push (λ (u : Unfinished). blocks_in d u.command) d.unfinished (waiting d s c) in
            let f : blocks_in d c ≤ free_blocks d = leb-true _ _ fb in omega (arith, e, f, h.room.blocks);
        delayed = cw;
        none = none;
        now = h.room.now;
      };
    }

-- ==== a note is laid

abbrev note_of : ℕ → List ℕ → Item
note_of kind ss = record { len = tmr_length_of ss; laid = Tmr kind ss }

pub sound_noted : (d : DeviceState) (kind : ℕ) (ss : List ℕ) → IsSound d → fits d.ring (tmr_length_of ss) ≡ true → IsSound (with_note d kind ss)
unfolding with_note
sound_noted d kind ss h f =
    let i : Item = note_of kind ss in
    let e : serials_in (with_item d.ring i).laid ≡ serials_in d.ring.laid = serials_laid d.ring i ∙ append-nil (serials_in d.ring.laid) in
    let cl : d.ring.cleared ≤ length d.ring.laid = omega (arith, h.ring.cleared, h.ring.published, h.ring.dispatched) in
    let pl : d.ring.published ≤ length d.ring.laid = omega (arith, h.ring.published, h.ring.dispatched) in
    let cut_c : cleared_commands (with_item d.ring i) ≡ cleared_commands d.ring = ap commands_in (take_laid d.ring i d.ring.cleared cl) in
    let cut_p : published_commands (with_item d.ring i) ≡ published_commands d.ring = ap commands_in (take_laid d.ring i d.ring.published pl) in
    let sent : dispatched_serials (with_item d.ring i) ≡ dispatched_serials d.ring = ap serials_in (take_laid d.ring i d.ring.dispatched h.ring.dispatched) in
    let size = tmr_sizes (length ss) in
    record {
      settings = h.settings;
      ring = ring_with d.settings d.ring i h.settings h.ring f size.0 size.1 (λ start. refl) refl;
      serials = record {
        rise = subst (λ (xs : List ℕ). Rise 0 (xs ++ delayed_serials d.delayed) d.accepted) (sym e) h.serials.rise;
        order = subst (λ (m : ℕ). map (λ u. u.serial) d.unfinished ≡ filter (λ x. not (is_among (take m d.placed) x)) (serials_in (with_item d.ring i).laid)) (sym cut_c)
            (h.serials.order ∙ ap (filter (λ x. not (is_among (finished d) x))) (sym e));
        laid = every-weaker (λ u. IsLaid d.ring.laid u.serial u.command) (λ u. IsLaid (with_item d.ring i).laid u.serial u.command) d.unfinished
            (λ u k. laid_more (d.ring.laid ++ pads (pad d.ring i.len)) (i ∷ []) u.serial u.command (laid_more d.ring.laid (pads (pad d.ring i.len)) u.serial u.command k)) h.serials.laid;
        accounted = h.serials.accounted;
      };
      answers = record {
        published = omega (arith, cut_p, h.answers.published);
        differ = h.answers.differ;
        dispatched = subst (λ (xs : List ℕ). Every (λ k. is_among xs k ≡ true) d.placed) (sym sent) h.answers.dispatched;
        states = subst (λ (xs : List ℕ). Every (λ u. state_fits (is_among xs u.serial) (is_among d.placed u.serial) (is_among (take (published_commands (with_item d.ring i)) d.placed) u.serial) d.attached u.state (is_some u.reply) ≡ true) d.unfinished) (sym sent)
            (subst (λ (m : ℕ). Every (λ u. state_fits (is_among (dispatched_serials d.ring) u.serial) (is_among d.placed u.serial) (is_among (take m d.placed) u.serial) d.attached u.state (is_some u.reply) ≡ true) d.unfinished) (sym cut_p) h.answers.states);
        replies = h.answers.replies;
        in_order = λ q. let b = h.answers.in_order q in (b.0, e ∙ b.1);
        parked = h.answers.parked;
      };
      room = record { blocks = h.room.blocks; delayed = h.room.delayed; none = h.room.none; now = h.room.now };
    }
