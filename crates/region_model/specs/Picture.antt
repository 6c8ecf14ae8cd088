-- The picture of a device with its block lists: the bytes that its region shows, but for command ids, which are free.
use Rattle.std.specs.Prelude.{ℕ, ◌+◌, ◌-◌, ◌%◌, ◌==◌, ◌&&◌, not, Bool, true, false, List, [], ◌∷◌, ◌++◌, length, take, drop, map, replicate, slice_get, Option, Some, None, if◌then◌else◌}
use Rattle.tcmu_types.specs.Data.{CommandData, ReplyData, SettingsData}
use Rattle.tcmu_types.specs.Rules.{takes_payload, payload_length}
use Rattle.tcmu_types.specs.Dumps.{ItemData, HeldData, DumpData}
use Rattle.tcmu_types.specs.declared.dump.ItemKind.{ItemKind}
use Rattle.tcmu_types.specs.declared.dump.ItemKind.TheVariants as kind
use Rattle.tcmu_types.specs.declared.iovec.Iov.{Iov}
use Rattle.tcmu_model.specs.declared.state.CommandState.{CommandState}
use Rattle.tcmu_model.specs.declared.state.CommandState.TheVariants.{Placed, Lost}
use Rattle.tcmu_types.specs.Lists.{first_of}
use Rattle.tcmu_model.specs.Lengths.{blocks_of, block_size}
use Rattle.tcmu_model.specs.RingState.{RingState, Item, Laid, Pad, Cmd, Tmr, lengths, head, commands_in}
use Rattle.tcmu_model.specs.Device.{Unfinished, DeviceState, has_serial}
use Rattle.tcmu_model.specs.BlockLists.{Taken, list_of}
use Rattle.region_model.specs.Layout.{data_start, device_mailbox, mailbox_bytes, pad_bytes, command_bytes, tmr_bytes, response_bytes}
use Rattle.tcmu_types.specs.ByteFields.{le, put}
use Rattle.tcmu_types.specs.Overwriting.{zeros}
use Rattle.region_model.specs.Iovecs.{iovs_along}

-- ==== places

-- where the item at an index stands in the ring
abbrev pub place_of : RingState → ℕ → ℕ
place_of r i = lengths (take i r.laid) % r.size

-- the items before the tail are published
abbrev pub tail : RingState → ℕ
tail r = place_of r r.published

-- ==== payloads

abbrev pub is_placed : CommandState → Bool
is_placed Placed = true
is_placed Lost = true
is_placed _ = false

-- n bytes of data in: zeros, until the answer is placed
abbrev pub data_in : ℕ → CommandState → Option ReplyData → List ℕ
data_in n state None = zeros n
data_in n state (Some reply) = if is_placed state then reply.payload ++ zeros (n - length reply.payload) else zeros n

-- the payload of a command as it stands in its blocks
abbrev pub payload_of : Unfinished → List ℕ
payload_of u = if takes_payload u.command.cdb then u.command.sent else data_in u.command.in_len u.state u.reply

-- ==== entries

-- the iovecs of a command's payload along its blocks
abbrev pub command_iovs : SettingsData → List ℕ → CommandData → List Iov
command_iovs s blocks c = iovs_along (data_start s.ring) (block_size s.pages) blocks (payload_length c)

-- a command's entry at a ring offset, under an id
abbrev pub request_of : SettingsData → List ℕ → ℕ → ℕ → CommandData → List ℕ
request_of s blocks at id c = command_bytes at id (blocks_of s.pages c) (command_iovs s blocks c) c.cdb

-- the length that an answer tells: with the flag, at GOOD, for a command that carries no data out
abbrev pub told_length : Bool → List ℕ → ReplyData → Option ℕ
told_length read_len cdb reply = if read_len && (reply.status == 0) && not (takes_payload cdb) then Some (length reply.payload) else None

-- an answer written over an entry: its id, and bytes 7 to 111
abbrev pub answered_entry : List ℕ → ℕ → ReplyData → Option ℕ → List ℕ
answered_entry entry id reply read_len = put (put entry 4 (le 2 id)) 7 (response_bytes reply read_len)

abbrev pub with_reply : Bool → ℕ → List ℕ → List ℕ → Option ReplyData → List ℕ
with_reply read_len id entry cdb None = entry
with_reply read_len id entry cdb (Some reply) = answered_entry entry id reply (told_length read_len cdb reply)

abbrev pub with_answer : Bool → ℕ → List ℕ → Option Unfinished → List ℕ
with_answer read_len id entry None = entry
with_answer read_len id entry (Some u) = with_reply read_len id entry u.command.cdb u.reply

-- the k-th command entry has the answer that was placed k-th, whosever it is, and the others have none
abbrev pub entry_of : DeviceState → ℕ → List ℕ → Option ℕ → List ℕ
entry_of d id request None = request
entry_of d id request (Some s) = with_answer d.settings.flags.read_len id request (first_of (has_serial s) d.unfinished)

-- the serial whose answer stands in the command entry at an index
abbrev pub answer_at : DeviceState → ℕ → Option ℕ
answer_at d i = slice_get d.placed (commands_in (take i d.ring.laid))

-- the bytes of the item at an index, under these ids
abbrev pub item_bytes : DeviceState → List Taken → ℕ → ℕ → List ℕ → Item → List ℕ
item_bytes d lists i id ids x =
    elim (x.laid) [
      | Pad ↦ pad_bytes x.len
      | Cmd s c ↦ entry_of d id (request_of d.settings (list_of lists s) (place_of d.ring i) id c) (answer_at d i)
      | Tmr kind ss ↦ tmr_bytes kind ids
    ]

-- ==== the picture

abbrev pub kind_of : Laid → ItemKind
kind_of Pad = kind.Pad
kind_of (Cmd s c) = kind.Cmd
kind_of (Tmr k ss) = kind.Tmr

-- how many ids an item names
abbrev pub ids_named : Item → ℕ
ids_named x = elim (x.laid) [ Pad ↦ 0 | Cmd s c ↦ 0 | Tmr k ss ↦ length ss ]

abbrev pub shown_item : DeviceState → List Taken → ℕ → Item → ItemData
shown_item d lists i x =
    record { at = place_of d.ring i; kind = kind_of x.laid; bytes = item_bytes d lists i 0 (replicate (ids_named x) 0) x }

-- items from an index on
abbrev pub shown_items : DeviceState → List Taken → ℕ → List Item → List ItemData
shown_items d lists i [] = []
shown_items d lists i (x ∷ xs) = shown_item d lists i x ∷ shown_items d lists (i + 1) xs

abbrev pub shown_command : List Taken → Unfinished → HeldData
shown_command lists u = record { serial = u.serial; blocks = list_of lists u.serial; payload = payload_of u }

abbrev pub shown_mailbox : DeviceState → List ℕ
shown_mailbox d = mailbox_bytes (device_mailbox d.settings.flags d.ring.size (head d.ring) (tail d.ring))

-- the mailbox, each item that is not cleared, with its ids as zero, and each unfinished command with its blocks
unfoldable pub picture_of : DeviceState → List Taken → DumpData
picture_of d lists =
    record {
      mailbox = shown_mailbox d;
      items = shown_items d lists d.ring.cleared (drop d.ring.cleared d.ring.laid);
      held = map (shown_command lists) d.unfinished;
    }
