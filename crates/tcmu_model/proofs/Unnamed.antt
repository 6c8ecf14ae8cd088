-- What an event does not name stays: one lemma an event, for any part of the state.
use Rattle.std.proofs.Common.{◌≡◌, ℕ, Bool, true, false, cond, ◌&&◌, nat_eq, List, [], ◌∷◌, Option, Some, None, refl, if◌then◌else◌}
use Rattle.tcmu_types.specs.Data.{CommandData}
use Rattle.tcmu_types.specs.declared.answer.Submit.{Submit}
use Rattle.tcmu_types.specs.declared.answer.Submit.TheVariants as submit
use Rattle.tcmu_types.specs.declared.answer.Tmr.{Tmr}
use Rattle.tcmu_types.specs.declared.answer.Tmr.TheVariants as tmr
use Rattle.tcmu_types.specs.declared.answer.Enter.{Enter}
use Rattle.tcmu_types.specs.declared.answer.Enter.TheVariants as enter
use Rattle.tcmu_model.specs.RingState.{Item}
use Rattle.tcmu_model.specs.Device.{Delayed, DeviceState}
use Rattle.tcmu_model.specs.Events.{with_command, with_delayed, one_accepted, after_submit, after_clean, emptied, count_in_hand, after_reset, with_note, after_tmr, after_enter, after_entering, after_dispatch, next_item, passed, after_item, after_respond, is_handled, placing, after_publish, publishable}

-- a device behind a dispatch of this item, if there is one
abbrev pub found_item : DeviceState → Option Item → DeviceState
found_item d o = elim o as (λ x. DeviceState) [ None ↦ d | Some i ↦ record d { ring = passed d.ring; unfinished = after_item d.unfinished i } ]

pub enter_kept : {X : Type 0} (g : DeviceState → X) (d : DeviceState) (a : Enter) → ((w : Delayed) (ws : List Delayed) → g (record (with_command d w.serial w.command) { delayed = ws }) ≡ g d) → g (after_enter d a) ≡ g d
unfolding after_enter
enter_kept g d (enter.Entered s) h = entering d.delayed
  where
    entering : (ws : List Delayed) → g (after_entering d ws) ≡ g d
    entering [] = refl
    entering (w ∷ ws) = h w ws
enter_kept g d enter.Empty h = refl
enter_kept g d (enter.FullRing need free) h = refl
enter_kept g d (enter.FullBlocks need free) h = refl

pub dispatch_kept : {X : Type 0} (g : DeviceState → X) (d : DeviceState) → ((i : Item) → g (record d { ring = passed d.ring; unfinished = after_item d.unfinished i }) ≡ g d) → g (after_dispatch d) ≡ g d
unfolding after_dispatch
dispatch_kept g d h = go d.attached (next_item d)
  where
    go : (b : Bool) (o : Option Item) → g (if b then found_item d o else d) ≡ g d
    go true None = refl
    go true (Some i) = h i
    go false o = refl

pub respond_kept : {X : Type 0} (g : DeviceState → X) (d : DeviceState) (s : ℕ) → g (record d { unfinished = (placing d s).unfinished; placed = (placing d s).placed }) ≡ g d → g (after_respond d s) ≡ g d
unfolding after_respond
respond_kept g d s h = go (is_handled d s)
  where
    go : (b : Bool) → g (if b then record d { unfinished = (placing d s).unfinished; placed = (placing d s).placed } else d) ≡ g d
    go true = h
    go false = refl

pub publish_kept : {X : Type 0} (g : DeviceState → X) (d : DeviceState) → g (record d { ring = record d.ring { published = publishable d } }) ≡ g d → g (after_publish d) ≡ g d
unfolding after_publish
publish_kept g d h = go d.attached
  where
    go : (b : Bool) → g (if b then record d { ring = record d.ring { published = publishable d } } else d) ≡ g d
    go true = h
    go false = refl

pub submit_kept : {X : Type 0} (g : DeviceState → X) (d : DeviceState) (c : CommandData) (a : Submit) → ((s : ℕ) → g (with_command (one_accepted d) s c) ≡ g d) → ((s : ℕ) → g (with_delayed (one_accepted d) s c) ≡ g d) → g (after_submit d c a) ≡ g d
unfolding after_submit
submit_kept g d c (submit.Queued s) h k = h s
submit_kept g d c (submit.Delayed s) h k = k s
submit_kept g d c submit.Busy h k = refl
submit_kept g d c (submit.TooBig have limit) h k = refl
submit_kept g d c (submit.FullRing need free) h k = refl
submit_kept g d c (submit.FullBlocks need free) h k = refl

pub reset_kept : {X : Type 0} (g : DeviceState → X) (d : DeviceState) (level : ℕ) → g (emptied (after_clean d) level) ≡ g d → g (after_reset d level) ≡ g d
unfolding after_reset
reset_kept g d level h = go (d.blocked && nat_eq (count_in_hand d) 0)
  where
    go : (b : Bool) → g (cond b (emptied (after_clean d) level) d) ≡ g d
    go true = h
    go false = refl

pub tmr_kept : {X : Type 0} (g : DeviceState → X) (d : DeviceState) (kind : ℕ) (ss : List ℕ) (a : Tmr) → g (with_note d kind ss) ≡ g d → g (after_tmr d kind ss a) ≡ g d
unfolding after_tmr
tmr_kept g d kind ss tmr.Noted h = h
tmr_kept g d kind ss tmr.Off h = refl
tmr_kept g d kind ss tmr.Busy h = refl
tmr_kept g d kind ss (tmr.Unknown s) h = refl
tmr_kept g d kind ss (tmr.FullRing need free) h = refl
