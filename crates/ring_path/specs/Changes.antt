-- The device that a region represents, by the events that were made.
use Rattle.ring_path.specs.Devices.{RingDevice, opening_device, device_submitted, device_entered, device_noted, device_dispatched, device_handled, device_kept, device_responded, device_published, device_cleaned, device_ticked, device_blocked, device_reset, device_restarted}
use Rattle.ring_path.specs.declared.told.Change.{Change, Opened, Submitted', Entered', Noted', Dispatched', Handled', Kept', Responded', Published', Cleaned', Ticked', Blocked', Reset', Restarted'}

abbrev pub device_behind : Change → RingDevice
device_behind (Opened settings) = opening_device settings.value
device_behind (Submitted' command answer marker before) = device_submitted (device_behind before) command.value answer.value
device_behind (Entered' answer marker before) = device_entered (device_behind before) answer.value
device_behind (Noted' kind serials answer marker before) = device_noted (device_behind before) kind.value serials.value.items answer.value
device_behind (Dispatched' marker before) = device_dispatched (device_behind before)
device_behind (Handled' serial reply marker before) = device_handled (device_behind before) serial.value reply.value
device_behind (Kept' marker before) = device_kept (device_behind before)
device_behind (Responded' serial marker before) = device_responded (device_behind before) serial.value
device_behind (Published' marker before) = device_published (device_behind before)
device_behind (Cleaned' marker before) = device_cleaned (device_behind before)
device_behind (Ticked' n marker before) = device_ticked (device_behind before) n.value
device_behind (Blocked' blocked marker before) = device_blocked (device_behind before) blocked.value
device_behind (Reset' level marker before) = device_reset (device_behind before) level.value
device_behind (Restarted' marker before) = device_restarted (device_behind before)
