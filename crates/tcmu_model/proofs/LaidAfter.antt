-- The list of items laid in the ring, behind each event.
use Rattle.std.proofs.Common.{◌≡◌, ℕ, Bool, true, false, cond, List, [], ◌∷◌, Option, Some, None, refl, ap}
use Rattle.tcmu_types.specs.Data.{CommandData, ReplyData}
use Rattle.tcmu_types.specs.declared.answer.Enter.TheVariants.{Entered}
use Rattle.tcmu_types.specs.declared.answer.Reset.TheVariants.{Reset}
use Rattle.tcmu_types.specs.declared.answer.Submit.TheVariants as submit
use Rattle.tcmu_types.specs.declared.answer.Tmr.TheVariants.{Noted}
use Rattle.tcmu_model.specs.Device.{Delayed, DeviceState}
use Rattle.tcmu_model.specs.Events.{after_block, after_clean, after_dispatch, after_enter, after_entering, after_handle, after_item, after_publish, after_reset, after_respond, after_restart, after_submit, after_tick, after_tmr, entry_length_in, is_handled, next_item, passed, placing, publishable, reset_answer, tmr_length_of, with_command, with_delayed, with_note}
use Rattle.tcmu_model.specs.RingState.{Item, Cmd, Tmr, with_item}
use Rattle.tcmu_model.proofs.ResetMade.{by_reset}

pub laid_queued : (d : DeviceState) (c : CommandData) (s : ℕ) → (after_submit d c (submit.Queued s)).ring.laid ≡ (with_item d.ring (record { len = entry_length_in d c; laid = Cmd s c })).laid
unfolding after_submit with_command
laid_queued d c s = refl

pub laid_delayed : (d : DeviceState) (c : CommandData) (s : ℕ) → (after_submit d c (submit.Delayed s)).ring.laid ≡ d.ring.laid
unfolding after_submit with_delayed
laid_delayed d c s = refl

pub laid_entered : (d : DeviceState) (w : Delayed) (ws : List Delayed) (s : ℕ) → d.delayed ≡ w ∷ ws →
    (after_enter d (Entered s)).ring.laid ≡ (with_item d.ring (record { len = entry_length_in d w.command; laid = Cmd w.serial w.command })).laid
unfolding after_enter with_command
laid_entered d w ws s e = ap (λ xs. (after_entering d xs).ring.laid) e

pub laid_noted : (d : DeviceState) (type_ : ℕ) (ss : List ℕ) → (after_tmr d type_ ss Noted).ring.laid ≡ (with_item d.ring (record { len = tmr_length_of ss; laid = Tmr type_ ss })).laid
unfolding after_tmr with_note
laid_noted d type_ ss = refl

pub laid_dispatched : (d : DeviceState) → (after_dispatch d).ring.laid ≡ d.ring.laid
unfolding after_dispatch
laid_dispatched d = go d.attached (next_item d)
  where
    found : Option Item → DeviceState
    found o = elim o as (λ x. DeviceState) [ None ↦ d | Some i ↦ record d { ring = passed d.ring; unfinished = after_item d.unfinished i } ]

    go : (b : Bool) (o : Option Item) → (cond b (found o) d).ring.laid ≡ d.ring.laid
    go false o = refl
    go true None = refl
    go true (Some i) = refl

pub laid_handled : (d : DeviceState) (s : ℕ) (reply : ReplyData) → (after_handle d s reply).ring.laid ≡ d.ring.laid
unfolding after_handle
laid_handled d s reply = refl

by_test : (b : Bool) (d after : DeviceState) → after.ring.laid ≡ d.ring.laid → (cond b after d).ring.laid ≡ d.ring.laid
by_test true d after h = h
by_test false d after h = refl

pub laid_responded : (d : DeviceState) (s : ℕ) → (after_respond d s).ring.laid ≡ d.ring.laid
unfolding after_respond
laid_responded d s = by_test (is_handled d s) d (record d { unfinished = (placing d s).unfinished; placed = (placing d s).placed }) refl

pub laid_published : (d : DeviceState) → (after_publish d).ring.laid ≡ d.ring.laid
unfolding after_publish
laid_published d = by_test d.attached d (record d { ring = record d.ring { published = publishable d } }) refl

pub laid_cleaned : (d : DeviceState) → (after_clean d).ring.laid ≡ d.ring.laid
unfolding after_clean
laid_cleaned d = refl

pub laid_ticked : (d : DeviceState) (n : ℕ) → (after_tick d n).ring.laid ≡ d.ring.laid
unfolding after_tick
laid_ticked d n = refl

pub laid_blocked : (d : DeviceState) (b : Bool) → (after_block d b).ring.laid ≡ d.ring.laid
unfolding after_block
laid_blocked d b = refl

pub laid_restarted : (d : DeviceState) → (after_restart d).ring.laid ≡ d.ring.laid
unfolding after_restart
laid_restarted d = refl

pub laid_reset : (d : DeviceState) (level n : ℕ) → reset_answer d level ≡ Reset n → (after_reset d level).ring.laid ≡ []
laid_reset d level n a = by_reset (λ e. e.ring.laid ≡ []) d level n a refl
