-- A device with its block lists, and what each event leaves of both.
use Rattle.std.specs.Prelude.{ℕ, Bool, List, []}
use Rattle.tcmu_types.specs.Data.{CommandData, ReplyData, SettingsData}
use Rattle.tcmu_types.specs.Events.{EventData, AnswerData}
use Rattle.tcmu_types.specs.Events as ev
use Rattle.tcmu_types.specs.declared.answer.Submit.{Submit}
use Rattle.tcmu_types.specs.declared.answer.Enter.{Enter}
use Rattle.tcmu_types.specs.declared.answer.Tmr.{Tmr}
use Rattle.tcmu_model.specs.BlockLists.{Taken, kept_lists, lists_after}
use Rattle.tcmu_model.specs.Device.{DeviceState, opening_state}
use Rattle.tcmu_model.specs.Events.{after_block, after_clean, after_dispatch, after_enter, after_handle, after_publish, after_reset, after_respond, after_restart, after_submit, after_tick, after_tmr}

pub record RingDevice : Type 0 where
  pub state : DeviceState
  pub lists : List Taken

abbrev pub opening_device : SettingsData → RingDevice
opening_device s = record { state = opening_state s; lists = [] }

-- the device in another state, and of its lists those that this state keeps
abbrev pub left_by : RingDevice → DeviceState → RingDevice
left_by k after = record { state = after; lists = kept_lists after k.lists }

abbrev pub device_submitted : RingDevice → CommandData → Submit → RingDevice
device_submitted k c a =
    record { state = after_submit k.state c a; lists = lists_after k.state k.lists (ev.Submit c) (ev.Submitted a) (after_submit k.state c a) }

abbrev pub device_entered : RingDevice → Enter → RingDevice
device_entered k a = record { state = after_enter k.state a; lists = lists_after k.state k.lists ev.Enter (ev.Entered a) (after_enter k.state a) }

abbrev pub device_noted : RingDevice → ℕ → List ℕ → Tmr → RingDevice
device_noted k type_ ss a = left_by k (after_tmr k.state type_ ss a)

abbrev pub device_dispatched : RingDevice → RingDevice
device_dispatched k = left_by k (after_dispatch k.state)

abbrev pub device_handled : RingDevice → ℕ → ReplyData → RingDevice
device_handled k s reply = left_by k (after_handle k.state s reply)

-- the device stays
abbrev pub device_kept : RingDevice → RingDevice
device_kept k = left_by k k.state

abbrev pub device_responded : RingDevice → ℕ → RingDevice
device_responded k s = left_by k (after_respond k.state s)

abbrev pub device_published : RingDevice → RingDevice
device_published k = left_by k (after_publish k.state)

abbrev pub device_cleaned : RingDevice → RingDevice
device_cleaned k = left_by k (after_clean k.state)

abbrev pub device_ticked : RingDevice → ℕ → RingDevice
device_ticked k n = left_by k (after_tick k.state n)

abbrev pub device_blocked : RingDevice → Bool → RingDevice
device_blocked k b = left_by k (after_block k.state b)

abbrev pub device_reset : RingDevice → ℕ → RingDevice
device_reset k level = left_by k (after_reset k.state level)

abbrev pub device_restarted : RingDevice → RingDevice
device_restarted k = left_by k (after_restart k.state)
