-- The list of payload lengths tells those of all commands that are laid or delayed, behind each event.
use Rattle.std.proofs.Common.{◌≡◌, ℕ, ◌+◌, ◌-◌, ◌*◌, ◌/◌, nat_lt, Bool, true, false, not, cond, eqb, List, [], ◌∷◌, ◌++◌, length, length-append, ◌&&◌, ◌==◌, Result, Ok, Err, IfOk, OnOk, OnErr, refl, sym, ◌∙◌, subst, arith, ⊎_elim}
use Rattle.std.proofs.lemmas.Option.{slice_get_within}
use Rattle.tcmu_types.specs.Data.{CommandData, ReplyData, SettingsData}
use Rattle.tcmu_types.specs.Lists.{Every}
use Rattle.tcmu_types.proofs.Everies.{every-append, every-filter, every-weaker}
use Rattle.tcmu_types.proofs.Places.{get_append_left, get_append_right}
use Rattle.tcmu_types.specs.declared.answer.Enter.{Enter}
use Rattle.tcmu_types.specs.declared.answer.Enter.TheVariants as enter
use Rattle.tcmu_types.specs.declared.answer.Submit.{Submit}
use Rattle.tcmu_types.specs.declared.answer.Submit.TheVariants as submit
use Rattle.tcmu_types.specs.declared.answer.Tmr.{Tmr as Tmr'}
use Rattle.tcmu_types.specs.declared.answer.Tmr.TheVariants as tmr
use Rattle.tcmu_model.specs.Device.{Delayed, DeviceState, Unfinished, opening_state}
use Rattle.tcmu_model.specs.Events.{after_block, after_clean, after_dispatch, after_enter, after_entering, after_handle, after_publish, after_reset, after_respond, after_restart, after_submit, after_tick, after_tmr, count_in_hand, emptied, blocks_in, entry_length_in, fits_blocks, fits_ring, free_blocks, has_left, later, queued_or_delayed, queued_or_full, submit_answer, tmr_length_of, with_command, with_delayed, with_note}
use Rattle.tcmu_model.specs.Sound.{IsLaid, IsSound}
use Rattle.tcmu_model.proofs.LaidAfter.{laid_blocked, laid_cleaned, laid_dispatched, laid_handled, laid_published, laid_responded, laid_restarted}
use Rattle.tcmu_model.proofs.Unnamed.{dispatch_kept, publish_kept, respond_kept}
use Rattle.tcmu_model.specs.RingState.{Item, Laid, Pad, Cmd, Tmr, RingState, free, need, pad, pads, with_item}
use Rattle.tcmu_types.specs.Rules.{payload_length}
use Rattle.ring_path.specs.Devices.{RingDevice}
use Rattle.ring_path.specs.Dumped.{HasLength, HasLengths, HasNext, LaidLength, TellsLengths, with_length}

-- ==== a list that grows

more_told : (xs ys : List ℕ) (s n : ℕ) → HasLength xs s n → HasLength (xs ++ ys) s n
more_told xs ys s n h = get_append_left xs ys (s - 1) (slice_get_within xs (s - 1) n h) ∙ h

more_laid : (xs ys : List ℕ) (l : Laid) → LaidLength xs l → LaidLength (xs ++ ys) l
more_laid xs ys Pad h = tt
more_laid xs ys (Cmd s c) h = more_told xs ys s (payload_length c) h
more_laid xs ys (Tmr type_ ss) h = tt

last_told : (xs : List ℕ) (s n : ℕ) → s ≡ length xs + 1 → HasLength (xs ++ n ∷ []) s n
last_told xs s n e = let at : s - 1 ≡ length xs + 0 = omega (arith, e) in get_append_right xs (n ∷ []) (s - 1) 0 at

laid_more : (xs ys : List ℕ) (laid : List Item) → Every (λ x. LaidLength xs x.laid) laid → Every (λ x. LaidLength (xs ++ ys) x.laid) laid
laid_more xs ys laid h = every-weaker (λ (x : Item). LaidLength xs x.laid) (λ (x : Item). LaidLength (xs ++ ys) x.laid) laid (λ x k. more_laid xs ys x.laid k) h

delayed_more : (xs ys : List ℕ) (ws : List Delayed) → Every (λ w. HasLength xs w.serial (payload_length w.command)) ws → Every (λ w. HasLength (xs ++ ys) w.serial (payload_length w.command)) ws
delayed_more xs ys ws h = every-weaker (λ (w : Delayed). HasLength xs w.serial (payload_length w.command)) (λ (w : Delayed). HasLength (xs ++ ys) w.serial (payload_length w.command)) ws (λ w k. more_told xs ys w.serial (payload_length w.command) k) h

length-pushed : (xs : List ℕ) (n : ℕ) → length (xs ++ n ∷ []) ≡ length xs + 1
length-pushed xs n = length-append xs (n ∷ [])

-- ==== what is laid

pads_told : (xs : List ℕ) (k : ℕ) → Every (λ x. LaidLength xs x.laid) (pads k)
pads_told xs k = go (eqb k 0)
  where
    go : (b : Bool) → Every (λ (x : Item). LaidLength xs x.laid) (cond b [] (record { len = k; laid = Pad } ∷ []))
    go true = tt
    go false = (tt, tt)

item_told : (xs : List ℕ) (r : RingState) (x : Item) → Every (λ y. LaidLength xs y.laid) r.laid → LaidLength xs x.laid → Every (λ y. LaidLength xs y.laid) (with_item r x).laid
item_told xs r x h s =
    let P : Item → Type 0 = λ (y : Item). LaidLength xs y.laid in
    every-append P (r.laid ++ pads (pad r x.len)) (x ∷ []) (every-append P r.laid (pads (pad r x.len)) h (pads_told xs (pad r x.len))) (s, tt)

-- ==== events

-- one that accepts, lays and delays nothing
pub lengths_same : (xs : List ℕ) (d e : DeviceState) → HasLengths xs d → e.accepted ≡ d.accepted → e.ring.laid ≡ d.ring.laid → e.delayed ≡ d.delayed → HasLengths xs e
lengths_same xs d e h a l w =
    record {
      count = h.count ∙ sym a;
      laid = subst (λ (ys : List Item). Every (λ x. LaidLength xs x.laid) ys) (sym l) h.laid;
      delayed = subst (λ (ys : List Delayed). Every (λ v. HasLength xs v.serial (payload_length v.command)) ys) (sym w) h.delayed;
    }

-- a command is laid as it is accepted
pub lengths_queued : (xs : List ℕ) (d e : DeviceState) (s : ℕ) (c : CommandData) (n : ℕ) → HasLengths xs d → s ≡ d.accepted + 1 → e.accepted ≡ d.accepted + 1 → e.ring.laid ≡ (with_item d.ring (record { len = n; laid = Cmd s c })).laid → e.delayed ≡ d.delayed →
    HasLengths (xs ++ payload_length c ∷ []) e
lengths_queued xs d e s c n h q a l w =
    let ys : List ℕ = xs ++ payload_length c ∷ [] in
    let place : s ≡ length xs + 1 = omega (arith, q, h.count) in
    record {
      count = omega (arith, length-pushed xs (payload_length c), h.count, a);
      laid = subst (λ (zs : List Item). Every (λ x. LaidLength ys x.laid) zs) (sym l) (item_told ys d.ring (record { len = n; laid = Cmd s c }) (laid_more xs (payload_length c ∷ []) d.ring.laid h.laid) (last_told xs s (payload_length c) place));
      delayed = subst (λ (zs : List Delayed). Every (λ v. HasLength ys v.serial (payload_length v.command)) zs) (sym w) (delayed_more xs (payload_length c ∷ []) d.delayed h.delayed);
    }

-- a command waits as it is accepted
pub lengths_delayed : (xs : List ℕ) (d e : DeviceState) (w : Delayed) → HasLengths xs d → w.serial ≡ d.accepted + 1 → e.accepted ≡ d.accepted + 1 → e.ring.laid ≡ d.ring.laid → e.delayed ≡ d.delayed ++ w ∷ [] →
    HasLengths (xs ++ payload_length w.command ∷ []) e
lengths_delayed xs d e w h q a l v =
    let ys : List ℕ = xs ++ payload_length w.command ∷ [] in
    let P : Delayed → Type 0 = λ (y : Delayed). HasLength ys y.serial (payload_length y.command) in
    let place : w.serial ≡ length xs + 1 = omega (arith, q, h.count) in
    record {
      count = omega (arith, length-pushed xs (payload_length w.command), h.count, a);
      laid = subst (λ (zs : List Item). Every (λ x. LaidLength ys x.laid) zs) (sym l) (laid_more xs (payload_length w.command ∷ []) d.ring.laid h.laid);
      delayed = subst (Every P) (sym v) (every-append P d.delayed (w ∷ []) (delayed_more xs (payload_length w.command ∷ []) d.delayed h.delayed) (last_told xs w.serial (payload_length w.command) place, tt));
    }

-- ==== the events of a device

pub lengths_dispatched : (xs : List ℕ) (d e : DeviceState) → e ≡ after_dispatch d → HasLengths xs d → HasLengths xs e
lengths_dispatched xs d e q h = subst (HasLengths xs) (sym q) (lengths_same xs d (after_dispatch d) h (dispatch_kept (λ (x : DeviceState). x.accepted) d (λ i. refl)) (laid_dispatched d) (dispatch_kept (λ (x : DeviceState). x.delayed) d (λ i. refl)))

pub lengths_handled : (xs : List ℕ) (d e : DeviceState) (s : ℕ) (reply : ReplyData) → e ≡ after_handle d s reply → HasLengths xs d → HasLengths xs e
unfolding after_handle
lengths_handled xs d e s reply q h = subst (HasLengths xs) (sym q) (lengths_same xs d (after_handle d s reply) h refl (laid_handled d s reply) refl)

pub lengths_kept : (xs : List ℕ) (d e : DeviceState) → e ≡ d → HasLengths xs d → HasLengths xs e
lengths_kept xs d e q h = subst (HasLengths xs) (sym q) h

pub lengths_responded : (xs : List ℕ) (d e : DeviceState) (s : ℕ) → e ≡ after_respond d s → HasLengths xs d → HasLengths xs e
lengths_responded xs d e s q h = subst (HasLengths xs) (sym q) (lengths_same xs d (after_respond d s) h (respond_kept (λ (x : DeviceState). x.accepted) d s refl) (laid_responded d s) (respond_kept (λ (x : DeviceState). x.delayed) d s refl))

pub lengths_published : (xs : List ℕ) (d e : DeviceState) → e ≡ after_publish d → HasLengths xs d → HasLengths xs e
lengths_published xs d e q h = subst (HasLengths xs) (sym q) (lengths_same xs d (after_publish d) h (publish_kept (λ (x : DeviceState). x.accepted) d refl) (laid_published d) (publish_kept (λ (x : DeviceState). x.delayed) d refl))

pub lengths_cleaned : (xs : List ℕ) (d e : DeviceState) → e ≡ after_clean d → HasLengths xs d → HasLengths xs e
unfolding after_clean
lengths_cleaned xs d e q h = subst (HasLengths xs) (sym q) (lengths_same xs d (after_clean d) h refl (laid_cleaned d) refl)

pub lengths_blocked : (xs : List ℕ) (d e : DeviceState) (b : Bool) → e ≡ after_block d b → HasLengths xs d → HasLengths xs e
unfolding after_block
lengths_blocked xs d e b q h = subst (HasLengths xs) (sym q) (lengths_same xs d (after_block d b) h refl (laid_blocked d b) refl)

pub lengths_restarted : (xs : List ℕ) (d e : DeviceState) → e ≡ after_restart d → HasLengths xs d → HasLengths xs e
unfolding after_restart
lengths_restarted xs d e q h = subst (HasLengths xs) (sym q) (lengths_same xs d (after_restart d) h refl (laid_restarted d) refl)

-- some of those that wait leave
pub lengths_ticked : (xs : List ℕ) (d e : DeviceState) (n : ℕ) → e ≡ after_tick d n → HasLengths xs d → HasLengths xs e
unfolding after_tick
lengths_ticked xs d e n q h =
    let P : Delayed → Type 0 = λ (w : Delayed). HasLength xs w.serial (payload_length w.command) in
    subst (HasLengths xs) (sym q) (record { count = h.count; laid = h.laid; delayed = every-filter (λ (w : Delayed). not (has_left (later d.now n) w)) P d.delayed h.delayed })

pub lengths_reset : (xs : List ℕ) (d e : DeviceState) (level : ℕ) → e ≡ after_reset d level → HasLengths xs d → HasLengths xs e
unfolding after_reset after_clean
lengths_reset xs d e level q h = subst (HasLengths xs) (sym q) (go (d.blocked && (count_in_hand d == 0)))
  where
    go : (b : Bool) → HasLengths xs (cond b (emptied (after_clean d) level) d)
    go true = record { count = h.count; laid = tt; delayed = tt }
    go false = h

pub lengths_noted : (xs : List ℕ) (d e : DeviceState) (type_ : ℕ) (ss : List ℕ) (a : Tmr') → e ≡ after_tmr d type_ ss a → HasLengths xs d → HasLengths xs e
unfolding after_tmr with_note
lengths_noted xs d e type_ ss a q h = subst (HasLengths xs) (sym q) (go a)
  where
    go : (x : Tmr') → HasLengths xs (after_tmr d type_ ss x)
    go tmr.Noted = record { count = h.count; laid = item_told xs d.ring (record { len = tmr_length_of ss; laid = Tmr type_ ss }) h.laid tt; delayed = h.delayed }
    go tmr.Off = h
    go tmr.Busy = h
    go (tmr.Unknown s) = h
    go (tmr.FullRing need free) = h

-- the first of those that wait is laid
pub lengths_entered : (xs : List ℕ) (d e : DeviceState) (a : Enter) → e ≡ after_enter d a → HasLengths xs d → HasLengths xs e
unfolding after_enter with_command
lengths_entered xs d e a q h = subst (HasLengths xs) (sym q) (go a)
  where
    entering : (ws : List Delayed) → d.delayed ≡ ws → HasLengths xs (after_entering d ws)
    entering [] p = h
    entering (w ∷ ws) p =
        let all = subst (λ (vs : List Delayed). Every (λ v. HasLength xs v.serial (payload_length v.command)) vs) p h.delayed in
        record { count = h.count; laid = item_told xs d.ring (record { len = entry_length_in d w.command; laid = Cmd w.serial w.command }) h.laid all.0; delayed = all.1 }

    go : (x : Enter) → HasLengths xs (after_enter d x)
    go (enter.Entered s) = entering d.delayed refl
    go enter.Empty = h
    go (enter.FullRing need free) = h
    go (enter.FullBlocks need free) = h

-- a command that is accepted has its length behind the others
pub lengths_submitted : (xs : List ℕ) (d e : DeviceState) (c : CommandData) (a : Submit) → e ≡ after_submit d c a → HasNext d a → HasLengths xs d → HasLengths (with_length xs c a) e
unfolding after_submit with_command with_delayed
lengths_submitted xs d e c a q n h = subst (HasLengths (with_length xs c a)) (sym q) (go a n)
  where
    go : (x : Submit) → HasNext d x → HasLengths (with_length xs c x) (after_submit d c x)
    go (submit.Queued s) k = lengths_queued xs d (after_submit d c (submit.Queued s)) s c (entry_length_in d c) h k refl refl refl
    go (submit.Delayed s) k = lengths_delayed xs d (after_submit d c (submit.Delayed s)) (record { serial = s; command = c; leaves = d.now + d.settings.qfull }) h k refl refl refl
    go submit.Busy k = h
    go (submit.TooBig have limit) k = h
    go (submit.FullRing need free) k = h
    go (submit.FullBlocks need free) k = h

pub lengths_opened : (s : SettingsData) → HasLengths [] (opening_state s)
lengths_opened s = record { count = refl; laid = tt; delayed = tt }

-- ==== the least of them that a dump asks for

serial_told : (xs : List ℕ) (s : ℕ) (c : CommandData) (laid : List Item) → Every (λ x. LaidLength xs x.laid) laid → IsLaid laid s c → HasLength xs s (payload_length c)
serial_told xs s c [] h l = absurd l
serial_told xs s c (x ∷ laid) h l =
    ⊎_elim
    (λ (e : x.laid ≡ Cmd s c). subst (LaidLength xs) e h.0)
    (λ (e : IsLaid laid s c). serial_told xs s c laid h.1 e)
    l

pub lengths_told : (xs : List ℕ) (d : DeviceState) → IsSound d → HasLengths xs d → TellsLengths xs d
lengths_told xs d sound h = every-weaker (λ (u : Unfinished). IsLaid d.ring.laid u.serial u.command) (λ (u : Unfinished). HasLength xs u.serial (payload_length u.command)) d.unfinished (λ u l. serial_told xs u.serial u.command d.ring.laid h.laid l) sound.serials.laid

-- ==== the serial of what is accepted

pub next_answered : (d : DeviceState) (c : CommandData) → HasNext d (submit_answer d c)
unfolding submit_answer queued_or_full queued_or_delayed
next_answered d c = go d.blocked (nat_lt d.ring.size (2 * entry_length_in d c)) (nat_lt d.settings.blocks (blocks_in d c)) (d.settings.qfull == 0) (fits_ring d c) (fits_blocks d c) (fits_ring d c && fits_blocks d c && (length d.delayed == 0))
  where
    go : (b r l q f k z : Bool) →
        HasNext d (cond b submit.Busy (cond r (submit.TooBig (entry_length_in d c) (d.ring.size / 2)) (cond l (submit.TooBig (blocks_in d c) d.settings.blocks)
        (cond q (cond (not f) (submit.FullRing (need d.ring (entry_length_in d c)) (free d.ring)) (cond (not k) (submit.FullBlocks (blocks_in d c) (free_blocks d)) (submit.Queued (d.accepted + 1))))
        (cond z (submit.Queued (d.accepted + 1)) (submit.Delayed (d.accepted + 1)))))))
    go true r l q f k z = tt
    go false true l q f k z = tt
    go false false true q f k z = tt
    go false false false true true true z = refl
    go false false false true true false z = tt
    go false false false true false k z = tt
    go false false false false f k true = refl
    go false false false false f k false = refl

-- a submit that was answered
pub lengths_accepted : (xs ys : List ℕ) (d e : DeviceState) (c : CommandData) (a : Submit) → ys ≡ with_length xs c a → a ≡ submit_answer d c → e ≡ after_submit d c a → HasLengths xs d → HasLengths ys e
lengths_accepted xs ys d e c a l n q h =
    subst (λ (zs : List ℕ). HasLengths zs e) (sym l) (lengths_submitted xs d e c a q (subst (HasNext d) (sym n) (next_answered d c)) h)

-- a call that changed nothing
pub lengths_stayed : (xs ys : List ℕ) (k l : RingDevice) → ys ≡ xs → l ≡ k → HasLengths xs k.state → HasLengths ys l.state
lengths_stayed xs ys k l e f h = subst (λ (x : RingDevice). HasLengths ys x.state) (sym f) (subst (λ (zs : List ℕ). HasLengths zs k.state) (sym e) h)

-- an event that takes memory
pub lengths_dispatch : {A E : Type 0} (r : Result A E) (xs : List ℕ) (k l : RingDevice) → OnOk r (l.state ≡ after_dispatch k.state) → OnErr r (l ≡ k) → HasLengths xs k.state → HasLengths xs l.state
lengths_dispatch (Ok a) xs k l o e h = lengths_dispatched xs k.state l.state o h
lengths_dispatch (Err x) xs k l o e h = lengths_stayed xs xs k l refl e h

pub lengths_enter : {E : Type 0} (r : Result Enter E) (xs : List ℕ) (k l : RingDevice) → IfOk r (λ a. l.state ≡ after_enter k.state a) → OnErr r (l ≡ k) → HasLengths xs k.state → HasLengths xs l.state
lengths_enter (Ok a) xs k l o e h = lengths_entered xs k.state l.state a o h
lengths_enter (Err x) xs k l o e h = lengths_stayed xs xs k l refl e h

pub lengths_note : {E : Type 0} (r : Result Tmr' E) (xs : List ℕ) (k l : RingDevice) (type_ : ℕ) (ss : List ℕ) → IfOk r (λ a. l.state ≡ after_tmr k.state type_ ss a) → OnErr r (l ≡ k) → HasLengths xs k.state → HasLengths xs l.state
lengths_note (Ok a) xs k l type_ ss o e h = lengths_noted xs k.state l.state type_ ss a o h
lengths_note (Err x) xs k l type_ ss o e h = lengths_stayed xs xs k l refl e h
