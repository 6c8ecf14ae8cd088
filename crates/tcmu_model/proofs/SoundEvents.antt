-- The opening, and the events that change little, leave the device sound.
use Rattle.std.proofs.Common.{◌≡◌, ℕ, ◌+◌, ◌≤◌, Bool, true, false, not, cond, List, [], ◌∷◌, ◌++◌, length, take, map, refl, sym, ap, ◌∙◌, arith, ⊎_elim, subst, ◌&&◌, eqb, ◌==◌, ltb, leb, if◌then◌else◌, Some, None, Option}
use Rattle.std.specs.List.{filter, count_by, sum_by}
use Rattle.std.specs.Option.{is_some}
use Rattle.std.specs.Prelude.{IfSome}
use Rattle.std.proofs.lemmas.Bool.{cases_Bool, true≢false, false≢true, lt-leb, ltb-true}
use Rattle.std.proofs.lemmas.List.{take-take, length-take-le}
use Rattle.std.proofs.lemmas.List.Sums.{sum_by-cons, sum_by-append}
use Rattle.tcmu_types.specs.Data.{CommandData, ReplyData, DoneData, SettingsData}
use Rattle.tcmu_types.specs.Rules.{IsSettings}
use Rattle.tcmu_types.specs.declared.answer.Tmr.{Tmr}
use Rattle.tcmu_types.specs.declared.answer.Tmr.TheVariants as tmr
use Rattle.tcmu_model.specs.declared.state.CommandState.{CommandState}
use Rattle.tcmu_model.specs.declared.state.CommandState.TheVariants.{Waiting, Out, Handled, Parked, Placed, Lost}
use Rattle.tcmu_model.specs.States.{same_state}
use Rattle.tcmu_model.specs.RingState.{Item, need, free, fits, serials_in, commands_in, published_commands, front_with}
use Rattle.tcmu_model.specs.Device.{Unfinished, Delayed, DeviceState, has_state, opening_state}
use Rattle.tcmu_model.specs.Events.{is_open, answered, publishable, after_publish, after_block, later, is_due, has_left, expire, expiry, departure, tick_completions, after_tick, count_in_hand, reset_completion, reset_completions, emptied, after_reset, after_clean, is_losing, lose, after_restart, unknown_serial, tmr_length_of, tmr_answer, after_tmr, blocks_in, held_blocks}
use Rattle.tcmu_types.specs.Numbers.{is_among, Rise}
use Rattle.tcmu_model.specs.Sound.{CanWait, ReplyFits, IsLaid, delayed_serials, is_open_at, is_delayed_at, times_logged, dispatched_serials, state_fits, is_right, parked_rightly, IsSound}
use Rattle.tcmu_types.proofs.Counts.{sum-map_same, counts_none, counts_one}
use Rattle.tcmu_model.proofs.Fronts.{front_holds, front_longest, front_short}
use Rattle.tcmu_types.proofs.Everies.{every-map, every-weaker, every-filter, map_kept}
use Rattle.tcmu_types.proofs.Rises.{rise_from, rise_order, among-take}
use Rattle.tcmu_model.proofs.Rows.{Same, SameRows, rows-map, serials_same, room_same, fits_attached, parked_kept, none_parked}
use Rattle.tcmu_model.proofs.SoundLaying.{sound_noted}
use Rattle.tcmu_model.proofs.SoundClean.{sound_after_clean}

-- ==== opening and block

pub sound_opening : (s : SettingsData) → IsSettings s → IsSound (opening_state s)
sound_opening s h =
    record {
      settings = h;
      ring = record { size = refl; cleared = omega arith; published = omega arith; dispatched = omega arith; room = omega (arith, h.ring.least); items = tt; ends = tt };
      serials = record { rise = omega arith; order = refl; laid = tt; accounted = λ k. none k (le-none k) };
      answers = record { published = omega arith; differ = tt; dispatched = tt; states = tt; replies = tt; in_order = λ q. ([], refl); parked = empty s.flags.ooo };
      room = record { blocks = omega arith; delayed = tt; none = λ q. refl; now = omega arith };
    }
  where
    empty : (ooo : Bool) → parked_rightly ooo [] ≡ true
    empty true = refl
    empty false = refl

    le-none : (k : ℕ) → (ltb 0 k && leb k 0) ≡ false
    le-none k =
        ⊎_elim
        (λ (e : ltb 0 k ≡ true). let z : leb k 0 ≡ false = lt-leb k 0 (ltb-true 0 k e) in rw (e, z) refl)
        (λ (e : ltb 0 k ≡ false). rw e refl)
        (cases_Bool (ltb 0 k))

    none : (k : ℕ) → (ltb 0 k && leb k 0) ≡ false → 0 + (0 + 0) ≡ cond {A = ℕ} (ltb 0 k && leb k 0) 1 0
    none k e = rw e refl

pub sound_after_block : (d : DeviceState) (b : Bool) → IsSound d → IsSound (after_block d b)
unfolding after_block
sound_after_block d b h =
    record {
      settings = h.settings;
      ring = h.ring;
      serials = record { rise = h.serials.rise; order = h.serials.order; laid = h.serials.laid; accounted = h.serials.accounted };
      answers = record {
        published = h.answers.published;
        differ = h.answers.differ;
        dispatched = h.answers.dispatched;
        states = h.answers.states;
        replies = h.answers.replies;
        in_order = h.answers.in_order;
        parked = h.answers.parked;
      };
      room = record { blocks = h.room.blocks; delayed = h.room.delayed; none = h.room.none; now = h.room.now };
    }

-- ==== publish

sound_published : (d : DeviceState) → d.attached ≡ true → IsSound d → IsSound (record d { ring = record d.ring { published = publishable d } })
sound_published d a h =
    let laid : List Item = d.ring.laid in
    let n : ℕ = length d.placed in
    let front : List Item = take d.ring.dispatched laid in
    let len : length front ≡ d.ring.dispatched = length-take-le d.ring.dispatched laid h.ring.dispatched in
    let most : front_with n front ≤ length front = front_short n front in
    let holds : commands_in (take (front_with n front) front) ≤ n = front_holds n front in
    let cut : take (front_with n front) front ≡ take (front_with n front) laid = take-take (front_with n front) d.ring.dispatched laid (omega (arith, len, most)) in
    let old : commands_in (take d.ring.published front) ≡ published_commands d.ring = ap commands_in (take-take d.ring.published d.ring.dispatched laid h.ring.published) in
    let longest : d.ring.published ≤ front_with n front = front_longest n d.ring.published front (omega (arith, len, h.ring.published)) (omega (arith, old, h.answers.published)) in
    record {
      settings = h.settings;
      ring = record {
        size = h.ring.size;
        cleared = omega (arith, h.ring.cleared, longest);
        published = omega (arith, len, most);
        dispatched = h.ring.dispatched;
        room = h.ring.room;
        items = h.ring.items;
        ends = h.ring.ends;
      };
      serials = record { rise = h.serials.rise; order = h.serials.order; laid = h.serials.laid; accounted = h.serials.accounted };
      answers = record {
        published = omega (arith, holds, ap commands_in cut);
        differ = h.answers.differ;
        dispatched = h.answers.dispatched;
        states = every-weaker (λ u. is_right d u ≡ true) (λ u. state_fits (is_among (dispatched_serials d.ring) u.serial) (is_among d.placed u.serial) (is_among (take (commands_in (take (publishable d) d.ring.laid)) d.placed) u.serial) d.attached u.state (is_some u.reply) ≡ true) d.unfinished
            (λ u k.
            let D : Bool = is_among (dispatched_serials d.ring) u.serial in
            let P : Bool = is_among d.placed u.serial in
            let A : Bool = is_among (answered d) u.serial in
            let B : Bool = is_among (take (commands_in (take (publishable d) d.ring.laid)) d.placed) u.serial in
            ap (λ (b : Bool). state_fits D P B b u.state (is_some u.reply)) a
            ∙ (fits_attached D P B A u.state (is_some u.reply) ∙ (ap (λ (b : Bool). state_fits D P A b u.state (is_some u.reply)) (sym a) ∙ k))) h.answers.states;
        replies = h.answers.replies;
        in_order = h.answers.in_order;
        parked = h.answers.parked;
      };
      room = record { blocks = h.room.blocks; delayed = h.room.delayed; none = h.room.none; now = h.room.now };
    }

pub sound_after_publish : (d : DeviceState) → IsSound d → IsSound (after_publish d)
unfolding after_publish
sound_after_publish d h =
    let P : Bool → Type 0 = λ b. IsSound (cond b (record d { ring = record d.ring { published = publishable d } }) d) in
    ⊎_elim
    (λ (e : d.attached ≡ true). subst P (sym e) (sound_published d e h))
    (λ (e : d.attached ≡ false). subst P (sym e) h)
    (cases_Bool d.attached)

-- ==== tick

expire_same : (now : ℕ) (u : Unfinished) → ((expire now u).serial ≡ u.serial) × ((expire now u).command ≡ u.command) × ((expire now u).state ≡ u.state) × ((expire now u).reply ≡ u.reply)
expire_same now u =
    ⊎_elim
    (λ (e : is_due now u ≡ true). rw e (refl, refl, refl, refl))
    (λ (e : is_due now u ≡ false). rw e (refl, refl, refl, refl))
    (cases_Bool (is_due now u))

-- what expires is open no more, and logged
due_open : (now k : ℕ) (us : List Unfinished) → times_logged (map expiry (filter (is_due now) us)) k + count_by (is_open_at k) (map (expire now) us) ≡ count_by (is_open_at k) us
due_open now k [] = refl
due_open now k (u ∷ us) =
    let a : count_by (is_open_at k) (u ∷ us) ≡ cond (is_open_at k u) 1 0 + count_by (is_open_at k) us = sum_by-cons (λ (v : Unfinished). cond {A = ℕ} (is_open_at k v) 1 0) u us in
    let b : count_by (is_open_at k) (map (expire now) (u ∷ us)) ≡ cond (is_open_at k (expire now u)) 1 0 + count_by (is_open_at k) (map (expire now) us) = sum_by-cons (λ (v : Unfinished). cond {A = ℕ} (is_open_at k v) 1 0) (expire now u) (map (expire now) us) in
    ⊎_elim
    (λ (e : is_due now u ≡ true).
    let x : u.expired ≡ false = open_due u.expired (elim (u.deadline) as (λ o. Bool) [ None ↦ false | Some at ↦ leb at now ]) e in
    let c : times_logged (map expiry (filter (is_due now) (u ∷ us))) k ≡ cond (eqb u.serial k) 1 0 + times_logged (map expiry (filter (is_due now) us)) k = rw e (sum_by-cons (λ (v : DoneData). cond {A = ℕ} (eqb v.serial k) 1 0) (expiry u) (map expiry (filter (is_due now) us))) in
    let f : cond {A = ℕ} (is_open_at k (expire now u)) 1 0 ≡ 0 = rw e (counts_none (eqb u.serial k)) in
    let g : cond {A = ℕ} (is_open_at k u) 1 0 ≡ cond (eqb u.serial k) 1 0 = rw x (counts_one (eqb u.serial k)) in
    omega (arith, a, b, c, f, g, due_open now k us))
    (λ (e : is_due now u ≡ false).
    let c : times_logged (map expiry (filter (is_due now) (u ∷ us))) k ≡ times_logged (map expiry (filter (is_due now) us)) k = rw e refl in
    let f : cond {A = ℕ} (is_open_at k (expire now u)) 1 0 ≡ cond (is_open_at k u) 1 0 = rw e refl in
    omega (arith, a, b, c, f, due_open now k us))
    (cases_Bool (is_due now u))
  where
    open_due : (x y : Bool) → (not x && y) ≡ true → x ≡ false
    open_due true y h = absurd (false≢true h)
    open_due false y h = refl

pub left_delayed : (now k : ℕ) (ws : List Delayed) → times_logged (map departure (filter (has_left now) ws)) k + count_by (is_delayed_at k) (filter (λ w. not (has_left now w)) ws) ≡ count_by (is_delayed_at k) ws
left_delayed now k [] = refl
left_delayed now k (w ∷ ws) =
    let a : count_by (is_delayed_at k) (w ∷ ws) ≡ cond (eqb w.serial k) 1 0 + count_by (is_delayed_at k) ws = sum_by-cons (λ (v : Delayed). cond {A = ℕ} (is_delayed_at k v) 1 0) w ws in
    ⊎_elim
    (λ (e : has_left now w ≡ true).
    let c : times_logged (map departure (filter (has_left now) (w ∷ ws))) k ≡ cond (eqb w.serial k) 1 0 + times_logged (map departure (filter (has_left now) ws)) k = rw e (sum_by-cons (λ (v : DoneData). cond {A = ℕ} (eqb v.serial k) 1 0) (departure w) (map departure (filter (has_left now) ws))) in
    let f : count_by (is_delayed_at k) (filter (λ w. not (has_left now w)) (w ∷ ws)) ≡ count_by (is_delayed_at k) (filter (λ w. not (has_left now w)) ws) = rw e refl in
    omega (arith, a, c, f, left_delayed now k ws))
    (λ (e : has_left now w ≡ false).
    let c : times_logged (map departure (filter (has_left now) (w ∷ ws))) k ≡ times_logged (map departure (filter (has_left now) ws)) k = rw e refl in
    let f : count_by (is_delayed_at k) (filter (λ w. not (has_left now w)) (w ∷ ws)) ≡ cond (eqb w.serial k) 1 0 + count_by (is_delayed_at k) (filter (λ w. not (has_left now w)) ws) = rw e (sum_by-cons (λ (v : Delayed). cond {A = ℕ} (is_delayed_at k v) 1 0) w (filter (λ w. not (has_left now w)) ws)) in
    omega (arith, a, c, f, left_delayed now k ws))
    (cases_Bool (has_left now w))

pub rise_behind : (low : ℕ) (xs ys zs : List ℕ) (high : ℕ) → ((l : ℕ) → Rise l ys high → Rise l zs high) → Rise low (xs ++ ys) high → Rise low (xs ++ zs) high
rise_behind low [] ys zs high h r = h low r
rise_behind low (x ∷ xs) ys zs high h r = (r.0, rise_behind x xs ys zs high h r.1)

pub delayed_rise : (p : Delayed → Bool) (low : ℕ) (ws : List Delayed) (high : ℕ) → Rise low (delayed_serials ws) high → Rise low (delayed_serials (filter p ws)) high
delayed_rise p low [] high h = h
delayed_rise p low (w ∷ ws) high h =
    ⊎_elim
    (λ (e : p w ≡ true). rw e (h.0, delayed_rise p w.serial ws high h.1))
    (λ (e : p w ≡ false). rw e (rise_from w.serial low (delayed_serials (filter p ws)) high (omega (arith, h.0)) (delayed_rise p w.serial ws high h.1)))
    (cases_Bool (p w))

pub sound_after_tick : (d : DeviceState) (n : ℕ) → IsSound d → IsSound (after_tick d n)
unfolding after_tick
sound_after_tick d n h =
    let now : ℕ = later d.now n in
    let us = d.unfinished in
    let f : Unfinished → Unfinished = expire now in
    let stay : Delayed → Bool = λ w. not (has_left now w) in
    let D : List ℕ = dispatched_serials d.ring in
    record {
      settings = h.settings;
      ring = h.ring;
      serials = record {
        rise = rise_behind 0 (serials_in d.ring.laid) (delayed_serials d.delayed) (delayed_serials (filter stay d.delayed)) d.accepted (λ low r. delayed_rise stay low d.delayed d.accepted r) h.serials.rise;
        order = map_kept f (λ u. u.serial) us (λ u. (expire_same now u).0) ∙ h.serials.order;
        laid = every-map f (λ u. IsLaid d.ring.laid u.serial u.command) (λ u. IsLaid d.ring.laid u.serial u.command) us
            (λ u k. subst (λ (s : ℕ). IsLaid d.ring.laid s (f u).command) (sym (expire_same now u).0) (subst (λ (c : CommandData). IsLaid d.ring.laid u.serial c) (sym (expire_same now u).1) k)) h.serials.laid;
        accounted = λ k.
            let a : times_logged (d.log ++ tick_completions d now) k ≡ times_logged d.log k + times_logged (tick_completions d now) k = sum_by-append (λ (v : DoneData). cond {A = ℕ} (eqb v.serial k) 1 0) d.log (tick_completions d now) in
            let b : times_logged (tick_completions d now) k ≡ times_logged (map expiry (filter (is_due now) us)) k + times_logged (map departure (filter (has_left now) d.delayed)) k = sum_by-append (λ (v : DoneData). cond {A = ℕ} (eqb v.serial k) 1 0) (map expiry (filter (is_due now) us)) (map departure (filter (has_left now) d.delayed)) in
            omega (arith, a, b, due_open now k us, left_delayed now k d.delayed, h.serials.accounted k);
      };
      answers = record {
        published = h.answers.published;
        differ = h.answers.differ;
        dispatched = h.answers.dispatched;
        states = every-map f (λ u. is_right d u ≡ true) (λ u. is_right d u ≡ true) us
            (λ u k. let e = expire_same now u in rw (e.0, e.2, e.3) k) h.answers.states;
        replies = every-map f (λ u. IfSome u.reply (ReplyFits u.command)) (λ u. IfSome u.reply (ReplyFits u.command)) us
            (λ u k. let e = expire_same now u in subst (λ (o : Option ReplyData). IfSome o (ReplyFits (f u).command)) (sym e.3) (subst (λ (c : CommandData). IfSome u.reply (ReplyFits c)) (sym e.1) k)) h.answers.replies;
        in_order = h.answers.in_order;
        parked = parked_kept d.settings.flags.ooo f us (λ u. ap (λ t. same_state t Parked) (expire_same now u).2) (λ u. ap (λ t. same_state t Placed) (expire_same now u).2) ∙ h.answers.parked;
      };
      room = record {
        blocks = let e : sum_by (λ u. blocks_in d u.command) (map f us) ≡ held_blocks d = sum-map_same f (λ u. blocks_in d u.command) us (λ u. ap (blocks_in d) (expire_same now u).1) in omega (arith, e, h.room.blocks);
        delayed = every-filter stay (λ w. CanWait d.settings w.command) d.delayed h.room.delayed;
        none = λ q. ap (filter stay) (h.room.none q);
        now = omega arith;
      };
    }

-- ==== reset

pub reset_serial : (level s : ℕ) (c : CommandData) → (reset_completion level s c).serial ≡ s
reset_serial level s c =
    ⊎_elim
    (λ (e : eqb level 1 ≡ true). rw e refl)
    (λ (e : eqb level 1 ≡ false). rw e refl)
    (cases_Bool (eqb level 1))

-- what is open is logged
reset_open : (level k : ℕ) (us : List Unfinished) → times_logged (map (λ u. reset_completion level u.serial u.command) (filter is_open us)) k ≡ count_by (is_open_at k) us
reset_open level k [] = refl
reset_open level k (u ∷ us) =
    let a : count_by (is_open_at k) (u ∷ us) ≡ cond (is_open_at k u) 1 0 + count_by (is_open_at k) us = sum_by-cons (λ (v : Unfinished). cond {A = ℕ} (is_open_at k v) 1 0) u us in
    let rest : List DoneData = map (λ u. reset_completion level u.serial u.command) (filter is_open us) in
    ⊎_elim
    (λ (e : u.expired ≡ true).
    let c : times_logged (map (λ u. reset_completion level u.serial u.command) (filter is_open (u ∷ us))) k ≡ times_logged rest k = rw e refl in
    let f : cond {A = ℕ} (is_open_at k u) 1 0 ≡ 0 = rw e (counts_none (eqb u.serial k)) in
    omega (arith, a, c, f, reset_open level k us))
    (λ (e : u.expired ≡ false).
    let c : times_logged (map (λ u. reset_completion level u.serial u.command) (filter is_open (u ∷ us))) k ≡ cond (eqb (reset_completion level u.serial u.command).serial k) 1 0 + times_logged rest k = rw e (sum_by-cons (λ (v : DoneData). cond {A = ℕ} (eqb v.serial k) 1 0) (reset_completion level u.serial u.command) rest) in
    let s : cond {A = ℕ} (eqb (reset_completion level u.serial u.command).serial k) 1 0 ≡ cond (eqb u.serial k) 1 0 = ap (λ n. cond {A = ℕ} (eqb n k) 1 0) (reset_serial level u.serial u.command) in
    let f : cond {A = ℕ} (is_open_at k u) 1 0 ≡ cond (eqb u.serial k) 1 0 = rw e (counts_one (eqb u.serial k)) in
    omega (arith, a, c, s, f, reset_open level k us))
    (cases_Bool u.expired)

pub reset_delayed : (level k : ℕ) (ws : List Delayed) → times_logged (map (λ w. reset_completion level w.serial w.command) ws) k ≡ count_by (is_delayed_at k) ws
reset_delayed level k [] = refl
reset_delayed level k (w ∷ ws) =
    let a : count_by (is_delayed_at k) (w ∷ ws) ≡ cond (eqb w.serial k) 1 0 + count_by (is_delayed_at k) ws = sum_by-cons (λ (v : Delayed). cond {A = ℕ} (is_delayed_at k v) 1 0) w ws in
    let rest : List DoneData = map (λ w. reset_completion level w.serial w.command) ws in
    let c : times_logged (reset_completion level w.serial w.command ∷ rest) k ≡ cond (eqb (reset_completion level w.serial w.command).serial k) 1 0 + times_logged rest k = sum_by-cons (λ (v : DoneData). cond {A = ℕ} (eqb v.serial k) 1 0) (reset_completion level w.serial w.command) rest in
    let s : cond {A = ℕ} (eqb (reset_completion level w.serial w.command).serial k) 1 0 ≡ cond (eqb w.serial k) 1 0 = ap (λ n. cond {A = ℕ} (eqb n k) 1 0) (reset_serial level w.serial w.command) in
    omega (arith, a, c, s, reset_delayed level k ws)

sound_emptied : (d : DeviceState) (level : ℕ) → IsSound d → IsSound (emptied d level)
sound_emptied d level h =
    record {
      settings = h.settings;
      ring = record {
        size = h.ring.size;
        cleared = omega arith;
        published = omega arith;
        dispatched = omega arith;
        room = omega (arith, h.ring.room);
        items = tt;
        ends = tt;
      };
      serials = record {
        rise = rise_order 0 (serials_in d.ring.laid ++ delayed_serials d.delayed) d.accepted h.serials.rise;
        order = refl;
        laid = tt;
        accounted = λ k.
            let opened : List DoneData = map (λ u. reset_completion level u.serial u.command) (filter is_open d.unfinished) in
            let waited : List DoneData = map (λ w. reset_completion level w.serial w.command) d.delayed in
            let a : times_logged (d.log ++ reset_completions d level) k ≡ times_logged d.log k + times_logged (opened ++ waited) k = sum_by-append (λ (v : DoneData). cond {A = ℕ} (eqb v.serial k) 1 0) d.log (opened ++ waited) in
            let b : times_logged (opened ++ waited) k ≡ times_logged opened k + times_logged waited k = sum_by-append (λ (v : DoneData). cond {A = ℕ} (eqb v.serial k) 1 0) opened waited in
            omega (arith, a, b, reset_open level k d.unfinished, reset_delayed level k d.delayed, h.serials.accounted k);
      };
      answers = record { published = omega arith; differ = tt; dispatched = tt; states = tt; replies = tt; in_order = λ q. ([], refl); parked = empty d.settings.flags.ooo };
      room = record { blocks = omega arith; delayed = tt; none = λ q. refl; now = h.room.now };
    }
  where
    empty : (ooo : Bool) → parked_rightly ooo [] ≡ true
    empty true = refl
    empty false = refl

pub sound_after_reset : (d : DeviceState) (level : ℕ) → IsSound d → IsSound (after_reset d level)
unfolding after_reset
sound_after_reset d level h =
    let P : Bool → Type 0 = λ b. IsSound (cond b (emptied (after_clean d) level) d) in
    ⊎_elim
    (λ (e : (d.blocked && (count_in_hand d == 0)) ≡ true). subst P (sym e) (sound_emptied (after_clean d) level (sound_after_clean d h)))
    (λ (e : (d.blocked && (count_in_hand d == 0)) ≡ false). subst P (sym e) h)
    (cases_Bool (d.blocked && (count_in_hand d == 0)))

-- ==== restart

pub lose_same : (A : List ℕ) (u : Unfinished) → Same u (lose A u)
lose_same A u =
    ⊎_elim
    (λ (e : is_losing A u ≡ true). rw e (record { serial = refl; command = refl; expired = refl }))
    (λ (e : is_losing A u ≡ false). rw e (record { serial = refl; command = refl; expired = refl }))
    (cases_Bool (is_losing A u))

-- the state that is left, and whether a reply is
lost_state : Bool → CommandState → CommandState
lost_state published Waiting = Waiting
lost_state published Out = Lost
lost_state published Handled = Lost
lost_state published Parked = Lost
lost_state published Placed = if published then Placed else Lost
lost_state published Lost = Lost

lost_reply : CommandState → Bool → Bool
lost_reply Waiting r = r
lost_reply Out r = false
lost_reply Handled r = false
lost_reply Parked r = false
lost_reply Placed r = r
lost_reply Lost r = r

lost_fits : (dispatched placed published attached : Bool) (t : CommandState) (r : Bool) → (placed ≡ false → published ≡ false) → state_fits dispatched placed published attached t r ≡ true → state_fits dispatched placed published false (lost_state published t) (lost_reply t r) ≡ true
unfolding lost_state lost_reply
lost_fits a b p q Waiting r f h = h
lost_fits true false true q Out r f h = absurd (true≢false (f refl))
lost_fits true false false q Out r f h = refl
lost_fits true true p q Out r f h = absurd (false≢true h)
lost_fits false b p q Out r f h = absurd (false≢true h)
lost_fits true false true q Handled r f h = absurd (true≢false (f refl))
lost_fits true false false q Handled r f h = refl
lost_fits true true p q Handled r f h = absurd (false≢true h)
lost_fits false b p q Handled r f h = absurd (false≢true h)
lost_fits true false true q Parked r f h = absurd (true≢false (f refl))
lost_fits true false false q Parked r f h = refl
lost_fits true true p q Parked r f h = absurd (false≢true h)
lost_fits false b p q Parked r f h = absurd (false≢true h)
lost_fits true true true q Placed true f h = refl
lost_fits true true false q Placed true f h = refl
lost_fits true true p true Placed false f h = absurd (false≢true h)
lost_fits true true true false Placed false f h = absurd (false≢true h)
lost_fits true true false false Placed false f h = absurd (false≢true h)
lost_fits true false p q Placed r f h = absurd (false≢true h)
lost_fits false b p q Placed r f h = absurd (false≢true h)
lost_fits true b p true Lost r f h = absurd (false≢true h)
lost_fits true b p false Lost r f h = h
lost_fits false b p q Lost r f h = absurd (false≢true h)

lose_tells : (A : List ℕ) (u : Unfinished) (t : CommandState) → u.state ≡ t → ((lose A u).state ≡ lost_state (is_among A u.serial) t) × (is_some (lose A u).reply ≡ lost_reply t (is_some u.reply))
unfolding lost_state lost_reply
lose_tells A u Waiting e = rw e (refl, refl)
lose_tells A u Out e = rw e (refl, refl)
lose_tells A u Handled e = rw e (refl, refl)
lose_tells A u Parked e = rw e (refl, refl)
lose_tells A u Placed e =
    ⊎_elim
    (λ (p : is_among A u.serial ≡ true). rw (e, p) (refl, refl))
    (λ (p : is_among A u.serial ≡ false). rw (e, p) (refl, refl))
    (cases_Bool (is_among A u.serial))
lose_tells A u Lost e = rw e (refl, refl)

lose_unparked : (A : List ℕ) (u : Unfinished) → has_state Parked (lose A u) ≡ false
unfolding lost_state
lose_unparked A u = ap (λ t. same_state t Parked) (lose_tells A u u.state refl).0 ∙ never (is_among A u.serial) u.state
  where
    never : (b : Bool) (t : CommandState) → same_state (lost_state b t) Parked ≡ false
    never b Waiting = refl
    never b Out = refl
    never b Handled = refl
    never b Parked = refl
    never true Placed = refl
    never false Placed = refl
    never b Lost = refl

lose_reply : (A : List ℕ) (u : Unfinished) → IfSome u.reply (ReplyFits u.command) → IfSome (lose A u).reply (ReplyFits (lose A u).command)
lose_reply A u h =
    ⊎_elim
    (λ (e : is_losing A u ≡ true). rw e (stays (has_state Placed u)))
    (λ (e : is_losing A u ≡ false). rw e h)
    (cases_Bool (is_losing A u))
  where
    stays : (b : Bool) → IfSome (if b then u.reply else None) (ReplyFits u.command)
    stays true = h
    stays false = tt

pub sound_after_restart : (d : DeviceState) → IsSound d → IsSound (after_restart d)
unfolding after_restart
sound_after_restart d h =
    let us = d.unfinished in
    let A : List ℕ = answered d in
    let rows : SameRows us (map (lose A) us) = rows-map (lose A) us (lose_same A) in
    let ser = serials_same d (map (lose A) us) rows h.serials in
    let room = room_same d (map (lose A) us) rows h.room in
    record {
      settings = h.settings;
      ring = h.ring;
      serials = record { rise = ser.rise; order = ser.order; laid = ser.laid; accounted = ser.accounted };
      answers = record {
        published = h.answers.published;
        differ = h.answers.differ;
        dispatched = h.answers.dispatched;
        states = every-map (lose A) (λ u. is_right d u ≡ true)
            (λ u. state_fits (is_among (dispatched_serials d.ring) u.serial) (is_among d.placed u.serial) (is_among A u.serial) false u.state (is_some u.reply) ≡ true) us
            (λ u k.
            let e = lose_tells A u u.state refl in
            rw (((lose_same A u).serial), e.0, e.1)
            (lost_fits (is_among (dispatched_serials d.ring) u.serial) (is_among d.placed u.serial) (is_among A u.serial) d.attached u.state (is_some u.reply)
            (λ n. among-take (published_commands d.ring) d.placed u.serial n) k)) h.answers.states;
        replies = every-map (lose A) (λ u. IfSome u.reply (ReplyFits u.command)) (λ u. IfSome u.reply (ReplyFits u.command)) us (λ u k. lose_reply A u k) h.answers.replies;
        in_order = h.answers.in_order;
        parked = none_parked d.settings.flags.ooo (map (lose A) us) (every-map (lose A) (λ u. is_right d u ≡ true) (λ u. has_state Parked u ≡ false) us (λ u k. lose_unparked A u) h.answers.states);
      };
      room = record { blocks = room.blocks; delayed = room.delayed; none = room.none; now = room.now };
    }

-- ==== task management

noted_by : (d : DeviceState) (kind : ℕ) (ss : List ℕ) (x : Tmr) → tmr_answer d ss ≡ x → IsSound (after_tmr d kind ss x) → IsSound (after_tmr d kind ss (tmr_answer d ss))
noted_by d kind ss x e h = subst (λ (y : Tmr). IsSound (after_tmr d kind ss y)) (sym e) h

asked_for : (d : DeviceState) (kind : ℕ) (ss : List ℕ) (o : Option ℕ) → unknown_serial d.unfinished ss ≡ o → d.settings.flags.tmr ≡ true → d.blocked ≡ false → IsSound d → IsSound (after_tmr d kind ss (tmr_answer d ss))
unfolding tmr_answer after_tmr
asked_for d kind ss (Some s) e t b h = noted_by d kind ss (tmr.Unknown s) (rw (t, b, e) refl) h
asked_for d kind ss None e t b h =
    ⊎_elim
    (λ (f : fits d.ring (tmr_length_of ss) ≡ true). noted_by d kind ss tmr.Noted (rw (t, b, e, f) refl) (sound_noted d kind ss h f))
    (λ (f : fits d.ring (tmr_length_of ss) ≡ false). noted_by d kind ss (tmr.FullRing (need d.ring (tmr_length_of ss)) (free d.ring)) (rw (t, b, e, f) refl) h)
    (cases_Bool (fits d.ring (tmr_length_of ss)))

pub sound_after_tmr : (d : DeviceState) (kind : ℕ) (ss : List ℕ) → IsSound d → IsSound (after_tmr d kind ss (tmr_answer d ss))
unfolding tmr_answer after_tmr
sound_after_tmr d kind ss h =
    ⊎_elim
    (λ (t : d.settings.flags.tmr ≡ true).
    ⊎_elim
    (λ (b : d.blocked ≡ true). noted_by d kind ss tmr.Busy (rw (t, b) refl) h)
    (λ (b : d.blocked ≡ false). asked_for d kind ss (unknown_serial d.unfinished ss) refl t b h)
    (cases_Bool d.blocked))
    (λ (t : d.settings.flags.tmr ≡ false). noted_by d kind ss tmr.Off (rw t refl) h)
    (cases_Bool d.settings.flags.tmr)
