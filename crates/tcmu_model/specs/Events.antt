-- The events of a device: what each answers, and the state that it leaves. They are one pair of functions each; only what a
-- handler answers is a relation, and stands in Steps.
use Rattle.std.specs.Prelude.{ℕ, ◌+◌, ◌-◌, ◌*◌, ◌/◌, ◌^◌, min, ◌==◌, ◌||◌, ◌&&◌, not, nat_lt, nat_le, Bool, true, false, List, [], ◌∷◌, ◌++◌, length, take, map, replicate, Option, Some, None, slice_get, if◌then◌else◌}
use Rattle.std.specs.List.{sum_by, count_by, filter, list_any}
use Rattle.tcmu_types.specs.Data.{CommandData, SenseData, ReplyData, DoneData}
use Rattle.tcmu_types.specs.Events.{DispatchData, Job, Note, Nothing, Detached}
use Rattle.tcmu_types.specs.declared.stat.Stat.{Stat}
use Rattle.tcmu_types.specs.declared.answer.Submit.{Submit}
use Rattle.tcmu_types.specs.declared.answer.Submit.TheVariants as submit
use Rattle.tcmu_types.specs.declared.answer.Enter.{Enter}
use Rattle.tcmu_types.specs.declared.answer.Enter.TheVariants as enter
use Rattle.tcmu_types.specs.declared.answer.Respond.{Respond}
use Rattle.tcmu_types.specs.declared.answer.Respond.TheVariants as respond
use Rattle.tcmu_types.specs.declared.answer.Publish.{Publish}
use Rattle.tcmu_types.specs.declared.answer.Publish.TheVariants as publish
use Rattle.tcmu_types.specs.declared.answer.Reset.{Reset}
use Rattle.tcmu_types.specs.declared.answer.Reset.TheVariants as reset
use Rattle.tcmu_types.specs.declared.answer.Tmr.{Tmr}
use Rattle.tcmu_types.specs.declared.answer.Tmr.TheVariants as tmr
use Rattle.tcmu_model.specs.declared.state.CommandState.{CommandState}
use Rattle.tcmu_model.specs.declared.state.CommandState.TheVariants.{Waiting, Out, Handled, Parked, Placed, Lost}
use Rattle.tcmu_types.specs.Lists.{first_of, without_first, with_first}
use Rattle.tcmu_model.specs.Lengths.{blocks_of, entry_length, tmr_length}
use Rattle.tcmu_model.specs.RingState.{RingState, Item, Pad, Cmd, head, used, free, need, fits, with_item, commands_in, serials_in, next_place, front_with, published_commands, empty_ring}
use Rattle.tcmu_model.specs.RingState as laid
use Rattle.tcmu_model.specs.Device.{Unfinished, Delayed, DeviceState, has_serial, has_state, is_at}
use Rattle.tcmu_types.specs.Numbers.{is_among}

-- ==== room

abbrev pub entry_length_in : DeviceState → CommandData → ℕ
entry_length_in d c = entry_length d.settings.pages c

abbrev pub blocks_in : DeviceState → CommandData → ℕ
blocks_in d c = blocks_of d.settings.pages c

-- the data blocks of all unfinished commands
abbrev pub held_blocks : DeviceState → ℕ
held_blocks d = sum_by (λ u. blocks_in d u.command) d.unfinished

abbrev pub free_blocks : DeviceState → ℕ
free_blocks d = d.settings.blocks - held_blocks d

abbrev pub fits_ring : DeviceState → CommandData → Bool
fits_ring d c = fits d.ring (entry_length_in d c)

abbrev pub fits_blocks : DeviceState → CommandData → Bool
fits_blocks d c = nat_le (blocks_in d c) (free_blocks d)

-- ==== submit

-- a device with qfull 0 refuses a command for which room lacks
unfoldable pub queued_or_full : DeviceState → CommandData → Submit
queued_or_full d c =
    if not (fits_ring d c) then submit.FullRing (need d.ring (entry_length_in d c)) (free d.ring)
    else (if not (fits_blocks d c) then submit.FullBlocks (blocks_in d c) (free_blocks d)
    else submit.Queued (d.accepted + 1))

-- another lets it wait, also behind an earlier one that waits
unfoldable pub queued_or_delayed : DeviceState → CommandData → Submit
queued_or_delayed d c =
    if fits_ring d c && fits_blocks d c && (length d.delayed == 0) then submit.Queued (d.accepted + 1) else submit.Delayed (d.accepted + 1)

-- a blocked device is busy; a command that no empty ring or data area takes is too big
unfoldable pub submit_answer : DeviceState → CommandData → Submit
submit_answer d c =
    if d.blocked then submit.Busy
    else (if nat_lt d.ring.size (2 * entry_length_in d c) then submit.TooBig (entry_length_in d c) (d.ring.size / 2)
    else (if nat_lt d.settings.blocks (blocks_in d c) then submit.TooBig (blocks_in d c) d.settings.blocks
    else (if d.settings.qfull == 0 then queued_or_full d c else queued_or_delayed d c)))

abbrev pub deadline_at : DeviceState → Option ℕ
deadline_at d = if d.settings.timeout == 0 then None else Some (d.now + d.settings.timeout)

abbrev pub waiting : DeviceState → ℕ → CommandData → Unfinished
waiting d s c = record { serial = s; command = c; state = Waiting; deadline = deadline_at d; expired = false; reply = None }

-- the command's item is laid, and it waits for its dispatch
unfoldable pub with_command : DeviceState → ℕ → CommandData → DeviceState
with_command d s c =
    record d {
      ring = with_item d.ring (record { len = entry_length_in d c; laid = laid.Cmd s c });
      unfinished = d.unfinished ++ waiting d s c ∷ [];
    }

abbrev pub one_accepted : DeviceState → DeviceState
one_accepted d = record d { accepted = d.accepted + 1 }

-- the command waits for room, up to a moment
unfoldable pub with_delayed : DeviceState → ℕ → CommandData → DeviceState
with_delayed d s c = record d { delayed = d.delayed ++ record { serial = s; command = c; leaves = d.now + d.settings.qfull } ∷ [] }

unfoldable pub after_submit : DeviceState → CommandData → Submit → DeviceState
after_submit d c (submit.Queued s) = with_command (one_accepted d) s c
after_submit d c (submit.Delayed s) = with_delayed (one_accepted d) s c
after_submit d c submit.Busy = d
after_submit d c (submit.TooBig have limit) = d
after_submit d c (submit.FullRing need free) = d
after_submit d c (submit.FullBlocks need free) = d

-- ==== enter

-- the delayed command of the least serial enters the ring where room is there now
abbrev pub entered_or_full : DeviceState → List Delayed → Enter
entered_or_full d [] = enter.Empty
entered_or_full d (w ∷ ws) =
    if not (fits_ring d w.command) then enter.FullRing (need d.ring (entry_length_in d w.command)) (free d.ring)
    else (if not (fits_blocks d w.command) then enter.FullBlocks (blocks_in d w.command) (free_blocks d)
    else enter.Entered w.serial)

unfoldable pub enter_answer : DeviceState → Enter
enter_answer d = entered_or_full d d.delayed

abbrev pub after_entering : DeviceState → List Delayed → DeviceState
after_entering d [] = d
after_entering d (w ∷ ws) = record (with_command d w.serial w.command) { delayed = ws }

unfoldable pub after_enter : DeviceState → Enter → DeviceState
after_enter d (enter.Entered s) = after_entering d d.delayed
after_enter d enter.Empty = d
after_enter d (enter.FullRing need free) = d
after_enter d (enter.FullBlocks need free) = d

-- ==== dispatch

abbrev pub in_state : CommandState → Unfinished → Unfinished
in_state t u = record u { state = t }

-- the first command of this serial in the one state turns to the other
abbrev pub turned : ℕ → CommandState → CommandState → List Unfinished → List Unfinished
turned s from to us = with_first (is_at s from) (in_state to) us

-- an unfinished command of this serial is Out or Handled
abbrev pub is_running : List Unfinished → ℕ → Bool
is_running us s = list_any (is_at s Out) us || list_any (is_at s Handled) us

abbrev pub next_item : DeviceState → Option Item
next_item d = slice_get d.ring.laid (next_place d.ring)

abbrev pub item_answer : List Unfinished → Item → DispatchData
item_answer us i = elim (i.laid) [ laid.Cmd s c ↦ Job s | laid.Tmr k ss ↦ Note k (filter (is_running us) ss) | laid.Pad ↦ Nothing ]

-- the next item: a job, or a note with those of its serials that are running
unfoldable pub dispatch_answer : DeviceState → DispatchData
dispatch_answer d =
    if d.attached then elim (next_item d) [ None ↦ Nothing | Some i ↦ item_answer d.unfinished i ] else Detached

abbrev pub after_item : List Unfinished → Item → List Unfinished
after_item us i = elim (i.laid) [ laid.Cmd s c ↦ turned s Waiting Out us | laid.Tmr k ss ↦ us | laid.Pad ↦ us ]

abbrev pub passed : RingState → RingState
passed r = record r { dispatched = next_place r + 1 }

unfoldable pub after_dispatch : DeviceState → DeviceState
after_dispatch d =
    if d.attached
    then elim (next_item d) [ None ↦ d | Some i ↦ record d { ring = passed d.ring; unfinished = after_item d.unfinished i } ]
    else d

-- ==== handle

abbrev pub with_reply : ReplyData → Unfinished → Unfinished
with_reply reply u = record u { state = Handled; reply = Some reply }

abbrev pub command_out : DeviceState → ℕ → Option Unfinished
command_out d s = first_of (is_at s Out) d.unfinished

unfoldable pub after_handle : DeviceState → ℕ → ReplyData → DeviceState
after_handle d s reply = record d { unfinished = with_first (is_at s Out) (with_reply reply) d.unfinished }

-- ==== respond

abbrev pub is_handled : DeviceState → ℕ → Bool
is_handled d s = list_any (is_at s Handled) d.unfinished

-- the command is parked
abbrev pub with_parked : DeviceState → ℕ → List Unfinished
with_parked d s = turned s Handled Parked d.unfinished

-- the serials placed so far, and the unfinished commands
pub record Placing : Type 0 where
  pub placed : List ℕ
  pub unfinished : List Unfinished

-- a parked command is placed behind the others
abbrev pub with_placed : Placing → ℕ → Placing
with_placed p s = record { placed = p.placed ++ s ∷ []; unfinished = turned s Parked Placed p.unfinished }

-- along these serials, those not yet placed are placed up to the first that is not parked
abbrev pub run_placed : Placing → List ℕ → Placing
run_placed p [] = p
run_placed p (s ∷ ss) =
    if is_among p.placed s then run_placed p ss
    else (if list_any (is_at s Parked) p.unfinished then run_placed (with_placed p s) ss else p)

-- out of order this one alone is placed; in order all that are parked, from the first on that is not placed, as they were laid
abbrev pub placed_by : Bool → Placing → ℕ → List ℕ → Placing
placed_by ooo p s laid = if ooo then with_placed p s else run_placed p laid

abbrev pub placing : DeviceState → ℕ → Placing
placing d s = placed_by d.settings.flags.ooo (record { placed = d.placed; unfinished = with_parked d s }) s (serials_in d.ring.laid)

unfoldable pub respond_answer : DeviceState → ℕ → Respond
respond_answer d s =
    if is_handled d s then (if list_any (is_at s Placed) (placing d s).unfinished then respond.Placed else respond.Parked) else respond.NotHandled s

unfoldable pub after_respond : DeviceState → ℕ → DeviceState
after_respond d s =
    if is_handled d s then record d { unfinished = (placing d s).unfinished; placed = (placing d s).placed } else d

-- ==== publish

-- the greatest number of dispatched items with no more commands than answers are placed
abbrev pub publishable : DeviceState → ℕ
publishable d = front_with (length d.placed) (take d.ring.dispatched d.ring.laid)

unfoldable pub publish_answer : DeviceState → Publish
publish_answer d =
    if d.attached
    then publish.Moved (publishable d - d.ring.published) (commands_in (take (publishable d) d.ring.laid) - published_commands d.ring)
    else publish.Detached

unfoldable pub after_publish : DeviceState → DeviceState
after_publish d = if d.attached then record d { ring = record d.ring { published = publishable d } } else d

-- ==== clean

-- the payload of a completion: none but for GOOD, and where answers carry no length filled up with zeros
abbrev pub completed_payload : Bool → ℕ → ReplyData → List ℕ
completed_payload read_len in_len reply =
    if reply.status == 0
    then (if read_len then reply.payload else reply.payload ++ replicate (in_len - length reply.payload) 0)
    else []

-- the completion of a command with its reply
abbrev pub completion : Bool → Unfinished → ReplyData → DoneData
completion read_len u reply =
    record {
      serial = u.serial;
      init = u.command.init;
      tag = u.command.tag;
      status = reply.status;
      sense = reply.sense;
      payload = completed_payload read_len u.command.in_len reply;
    }

-- what a command that is finished logs: nothing where it expired
abbrev pub completions : Bool → Unfinished → List DoneData
completions read_len u =
    if u.expired then [] else elim (u.reply) [ None ↦ [] | Some reply ↦ completion read_len u reply ∷ [] ]

-- unfinished commands, and what has been logged
pub record Books : Type 0 where
  pub unfinished : List Unfinished
  pub log : List DoneData

-- the placed command of this serial is finished
abbrev pub finish : Bool → Books → ℕ → Books
finish read_len b s =
    elim (first_of (is_at s Placed) b.unfinished) [
      | None ↦ b
      | Some u ↦ record { unfinished = without_first (is_at s Placed) b.unfinished; log = b.log ++ completions read_len u }
    ]

-- one after another
abbrev pub finish_all : Bool → Books → List ℕ → Books
finish_all read_len b [] = b
finish_all read_len b (s ∷ ss) = finish_all read_len (finish read_len b s) ss

-- the answers that are published
abbrev pub answered : DeviceState → List ℕ
answered d = take (published_commands d.ring) d.placed

abbrev pub books : DeviceState → Books
books d = record { unfinished = d.unfinished; log = d.log }

abbrev pub cleaned_books : DeviceState → Books
cleaned_books d = finish_all d.settings.flags.read_len (books d) (answered d)

unfoldable pub after_clean : DeviceState → DeviceState
after_clean d =
    record d {
      ring = record d.ring { cleared = d.ring.published };
      unfinished = (cleaned_books d).unfinished;
      log = (cleaned_books d).log;
    }

unfoldable pub clean_answer : DeviceState → ℕ
clean_answer d = length (cleaned_books d).log - length d.log

-- ==== tick

-- the moment stops at 2^63; deadlines are not cut
abbrev pub later : ℕ → ℕ → ℕ
later now n = min (now + n) (2 ^ 63)

abbrev pub is_due : ℕ → Unfinished → Bool
is_due now u = not u.expired && elim (u.deadline) [ None ↦ false | Some at ↦ nat_le at now ]

abbrev pub has_left : ℕ → Delayed → Bool
has_left now w = nat_le w.leaves now

-- a completion that no handler answered, of what an initiator sent under a tag
abbrev pub ending : ℕ → Option SenseData → ℕ → List ℕ → ℕ → DoneData
ending status sense s init tag = record { serial = s; init = init; tag = tag; status = status; sense = sense; payload = [] }

abbrev pub closing : ℕ → Option SenseData → ℕ → CommandData → DoneData
closing status sense s c = ending status sense s c.init c.tag

abbrev pub check_condition : ℕ → ℕ → ℕ → ℕ → CommandData → DoneData
check_condition key asc ascq s c = closing 0x02 (Some (record { key = key; asc = asc; ascq = ascq })) s c

-- ABORTED COMMAND, LOGICAL UNIT COMMUNICATION TIME-OUT
abbrev pub expiry : Unfinished → DoneData
expiry u = check_condition 0x0b 0x08 0x01 u.serial u.command

-- TASK SET FULL
abbrev pub departure : Delayed → DoneData
departure w = closing 0x28 None w.serial w.command

abbrev pub expire : ℕ → Unfinished → Unfinished
expire now u = if is_due now u then record u { expired = true } else u

-- what a tick to this moment logs
abbrev pub tick_completions : DeviceState → ℕ → List DoneData
tick_completions d now = map expiry (filter (is_due now) d.unfinished) ++ map departure (filter (has_left now) d.delayed)

unfoldable pub tick_answer : DeviceState → ℕ → ℕ
tick_answer d n = length (tick_completions d (later d.now n))

unfoldable pub after_tick : DeviceState → ℕ → DeviceState
after_tick d n =
    let now = later d.now n in
    record d {
      now = now;
      unfinished = map (expire now) d.unfinished;
      delayed = filter (λ w. not (has_left now w)) d.delayed;
      log = d.log ++ tick_completions d now;
    }

-- ==== block, unblock

-- whether the bit turns to another value
unfoldable pub block_answer : DeviceState → Bool → Bool
block_answer d b = if b then not d.blocked else d.blocked

unfoldable pub after_block : DeviceState → Bool → DeviceState
after_block d b = record d { blocked = b }

-- ==== reset

-- its handler, or the user side that waits with its answer, has it
abbrev pub is_in_hand : Unfinished → Bool
is_in_hand u = has_state Out u || has_state Handled u || has_state Parked u

abbrev pub count_in_hand : DeviceState → ℕ
count_in_hand d = count_by is_in_hand d.unfinished

-- level 1: BUSY; level 2: HARDWARE ERROR, INTERNAL TARGET FAILURE
abbrev pub reset_ending : ℕ → ℕ → List ℕ → ℕ → DoneData
reset_ending level s init tag =
    if level == 1 then ending 0x08 None s init tag else ending 0x02 (Some (record { key = 0x04; asc = 0x44; ascq = 0x00 })) s init tag

abbrev pub reset_completion : ℕ → ℕ → CommandData → DoneData
reset_completion level s c = reset_ending level s c.init c.tag

abbrev pub is_open : Unfinished → Bool
is_open u = not u.expired

abbrev pub reset_completions : DeviceState → ℕ → List DoneData
reset_completions d level =
    map (λ u. reset_completion level u.serial u.command) (filter is_open d.unfinished)
    ++ map (λ w. reset_completion level w.serial w.command) d.delayed

-- the device with nothing in it, all that was open logged
abbrev pub emptied : DeviceState → ℕ → DeviceState
emptied d level =
    record d {
      ring = empty_ring d.ring.size;
      attached = true;
      unfinished = [];
      delayed = [];
      placed = [];
      log = d.log ++ reset_completions d level;
    }

unfoldable pub reset_answer : DeviceState → ℕ → Reset
reset_answer d level =
    if d.blocked
    then (if count_in_hand d == 0 then reset.Reset (clean_answer d + length (reset_completions (after_clean d) level)) else reset.HandlersOut (count_in_hand d))
    else reset.NotBlocked

unfoldable pub after_reset : DeviceState → ℕ → DeviceState
after_reset d level = if d.blocked && (count_in_hand d == 0) then emptied (after_clean d) level else d

-- ==== restart

-- in hand, or its answer is not published
abbrev pub is_losing : List ℕ → Unfinished → Bool
is_losing answered u = is_in_hand u || (has_state Placed u && not (is_among answered u.serial))

-- an answer that was placed stays with its command
abbrev pub lose : List ℕ → Unfinished → Unfinished
lose answered u =
    if is_losing answered u
    then record u { state = Lost; reply = if has_state Placed u then u.reply else None }
    else u

unfoldable pub restart_answer : DeviceState → ℕ
restart_answer d = count_by (is_losing (answered d)) d.unfinished

unfoldable pub after_restart : DeviceState → DeviceState
after_restart d = record d { attached = false; unfinished = map (lose (answered d)) d.unfinished }

-- ==== task management

-- the first of these serials that has no unfinished command in the ring
abbrev pub unknown_serial : List Unfinished → List ℕ → Option ℕ
unknown_serial us ss = first_of (λ s. not (list_any (has_serial s) us)) ss

abbrev pub tmr_length_of : List ℕ → ℕ
tmr_length_of ss = tmr_length (length ss)

unfoldable pub tmr_answer : DeviceState → List ℕ → Tmr
tmr_answer d ss =
    if not d.settings.flags.tmr then tmr.Off
    else (if d.blocked then tmr.Busy
    else elim (unknown_serial d.unfinished ss) [
      | Some s ↦ tmr.Unknown s
      | None ↦ if fits d.ring (tmr_length_of ss) then tmr.Noted else tmr.FullRing (need d.ring (tmr_length_of ss)) (free d.ring)
    ])

unfoldable pub with_note : DeviceState → ℕ → List ℕ → DeviceState
with_note d kind ss = record d { ring = with_item d.ring (record { len = tmr_length_of ss; laid = laid.Tmr kind ss }) }

unfoldable pub after_tmr : DeviceState → ℕ → List ℕ → Tmr → DeviceState
after_tmr d kind ss tmr.Noted = with_note d kind ss
after_tmr d kind ss tmr.Off = d
after_tmr d kind ss tmr.Busy = d
after_tmr d kind ss (tmr.Unknown s) = d
after_tmr d kind ss (tmr.FullRing need free) = d

-- ==== stat

abbrev pub count_in_state : DeviceState → CommandState → ℕ
count_in_state d t = count_by (has_state t) d.unfinished

unfoldable pub stat_answer : DeviceState → Stat
stat_answer d =
    record {
      now = d.now;
      blocked = d.blocked;
      attached = d.attached;
      head = head d.ring;
      used = used d.ring;
      waiting = count_in_state d Waiting;
      out = count_in_state d Out;
      handled = count_in_state d Handled;
      parked = count_in_state d Parked;
      placed = count_in_state d Placed;
      lost = count_in_state d Lost;
      expired = count_by (λ u. u.expired) d.unfinished;
      held = held_blocks d;
      delayed = length d.delayed;
    }
