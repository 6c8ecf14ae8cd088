-- What the completions of a device owe to its journal: the command that was submitted, and the entry that logged it, with the reply of
-- the command's own handler or the moment that the clock came to.
use Rattle.std.specs.Prelude.{◌≡◌, ◌⊎◌, ◌==◌, if◌then◌else◌, ℕ, ◌+◌, ◌^◌, ◌<◌, ◌≤◌, min, Bool, false, List, [], ◌∷◌, ◌++◌, Option, Some, None, IfSome}
use Rattle.std.specs.List.{sum_by}
use Rattle.tcmu_types.specs.Data.{CommandData, ReplyData, DoneData, SettingsData}
use Rattle.tcmu_types.specs.Events.{EventData, AnswerData, EntryData}
use Rattle.tcmu_types.specs.Events as ev
use Rattle.tcmu_types.specs.declared.answer.Submit.TheVariants as submit
use Rattle.tcmu_types.specs.declared.answer.Enter.TheVariants as enter
use Rattle.tcmu_types.specs.declared.answer.Handle.TheVariants as handle
use Rattle.tcmu_types.specs.declared.answer.Reset.TheVariants as reset_answer
use Rattle.tcmu_model.specs.MediumState.{MediumState}
use Rattle.tcmu_model.specs.Device.{Unfinished, Delayed, DeviceState}
use Rattle.tcmu_model.specs.Events.{completion, closing, check_condition}
use Rattle.tcmu_model.specs.Steps.{HandlerRelation}
use Rattle.tcmu_types.specs.Lists.{Every}

-- ==== what stands in a journal

-- an entry of the journal is this event with this answer
abbrev pub Has : List EntryData → EventData → AnswerData → Type 0
Has [] event answer = ⊥
Has (e ∷ es) event answer = ((e.event ≡ event) × (e.answer ≡ answer)) ⊎ Has es event answer

-- this command was accepted under this serial, and had to wait for room
abbrev pub WasDelayed : List EntryData → ℕ → CommandData → Type 0
WasDelayed es s c = Has es (ev.Submit c) (ev.Submitted (submit.Delayed s))

-- this command was accepted under this serial
abbrev pub WasAccepted : List EntryData → ℕ → CommandData → Type 0
WasAccepted es s c = Has es (ev.Submit c) (ev.Submitted (submit.Queued s)) ⊎ WasDelayed es s c

-- the handler was asked for this serial's command, and replied so
abbrev pub HasReplied : List EntryData → ℕ → ReplyData → Type 0
HasReplied es s reply = Has es (ev.Handle s) (ev.Answered (handle.Done reply))

-- ==== the clock

abbrev pub ticks_of : EventData → ℕ
ticks_of (ev.Tick n) = n
ticks_of _ = 0

-- the clock behind these entries: the sum of their ticks, at most 2^63
abbrev pub moment : List EntryData → ℕ
moment es = min (sum_by (λ e. ticks_of e.event) es) (2 ^ 63)

-- an entry of the journal is this event with this answer, made at this moment
pub record MadeAt (es : List EntryData) (at : ℕ) (event : EventData) (answer : AnswerData) : Type 0 where
  pub before : List EntryData
  pub entry : EntryData
  pub behind : List EntryData
  pub stands : es ≡ before ++ entry ∷ behind
  pub event_is : entry.event ≡ event
  pub answer_is : entry.answer ≡ answer
  pub moment_is : moment before ≡ at

-- this command had to wait for room from this moment on
abbrev pub WasDelayedAt : List EntryData → ℕ → ℕ → CommandData → Type 0
WasDelayedAt es at s c = MadeAt es at (ev.Submit c) (ev.Submitted (submit.Delayed s))

-- this command was laid in the ring at this moment: as it was submitted, or as it entered after it had to wait
abbrev pub WasLaidAt : List EntryData → ℕ → ℕ → CommandData → Type 0
WasLaidAt es at s c = MadeAt es at (ev.Submit c) (ev.Submitted (submit.Queued s)) ⊎ (MadeAt es at ev.Enter (ev.Entered (enter.Entered s)) × WasDelayed es s c)

-- the clock comes to this moment at the entry, and not before
pub record Reaches (before : List EntryData) (entry : EntryData) (at : ℕ) : Type 0 where
  pub early : moment before < at
  pub reached : at ≤ moment (before ++ entry ∷ [])

-- ==== completions

-- a completion that carries the reply of the command's own handler
pub record IsAnswered (es : List EntryData) (read_len : Bool) (c : CommandData) (e : DoneData) : Type 0 where
  pub command : Unfinished
  pub reply : ReplyData
  pub replied : HasReplied es e.serial reply
  pub serial : command.serial ≡ e.serial
  pub sent : command.command ≡ c
  pub carries : e ≡ completion read_len command reply

-- the entry resets the device at this level
pub record DoesReset (entry : EntryData) (level : ℕ) : Type 0 where
  pub count : ℕ
  pub event : entry.event ≡ ev.Reset level
  pub answer : entry.answer ≡ ev.WasReset (reset_answer.Reset count)

-- Why an entry logs this completion of a command, by the entries before it.
pub data Logs (s : SettingsData) (before : List EntryData) (entry : EntryData) (c : CommandData) (e : DoneData) : Type 0 where
  -- a clean, with its handler's reply
  cleaned : entry.event ≡ ev.Clean → IsAnswered before s.flags.read_len c e → Logs s before entry c e
  -- a reset, which cleans first
  reset_cleaned : (level : ℕ) → DoesReset entry level → IsAnswered before s.flags.read_len c e → Logs s before entry c e
  -- the tick to its deadline: ABORTED COMMAND, LOGICAL UNIT COMMUNICATION TIME-OUT
  expired : (n at : ℕ) → entry.event ≡ ev.Tick n → WasLaidAt before at e.serial c → Reaches before entry (at + s.timeout) → e ≡ check_condition 0x0b 0x08 0x01 e.serial c → Logs s before entry c e
  -- the tick that ends its wait for room: TASK SET FULL
  left : (n at : ℕ) → entry.event ≡ ev.Tick n → WasDelayedAt before at e.serial c → Reaches before entry (at + s.qfull) → e ≡ closing 0x28 None e.serial c → Logs s before entry c e
  -- a reset: BUSY at level 1, HARDWARE ERROR, INTERNAL TARGET FAILURE at level 2
  reset : (level : ℕ) → DoesReset entry level → e ≡ (if level == 1 then closing 0x08 None e.serial c else check_condition 0x04 0x44 0x00 e.serial c) → Logs s before entry c e

-- the entry is the cause of a completion of a command that was accepted before
pub record IsExplainedAt (s : SettingsData) (before : List EntryData) (entry : EntryData) (e : DoneData) : Type 0 where
  pub command : CommandData
  pub accepted : WasAccepted before e.serial command
  pub cause : Logs s before entry command e

-- where a completion comes from: an entry of the journal is its cause
pub record IsExplained (es : List EntryData) (s : SettingsData) (e : DoneData) : Type 0 where
  pub before : List EntryData
  pub entry : EntryData
  pub behind : List EntryData
  pub stands : es ≡ before ++ entry ∷ behind
  pub cause : IsExplainedAt s before entry e

-- ==== open commands

-- where a command laid at this moment expires
abbrev pub deadline_from : SettingsData → ℕ → Option ℕ
deadline_from s at = if s.timeout == 0 then None else Some (at + s.timeout)

-- an unfinished command is one that was laid, with the deadline of that moment and its own handler's reply; not expired, it is not due
pub record IsKnown (es : List EntryData) (s : SettingsData) (now : ℕ) (u : Unfinished) : Type 0 where
  pub laid_at : ℕ
  pub laid : WasLaidAt es laid_at u.serial u.command
  pub deadline : u.deadline ≡ deadline_from s laid_at
  pub ahead : u.expired ≡ false → IfSome u.deadline (λ at. now < at)
  pub replied : IfSome u.reply (HasReplied es u.serial)

-- a delayed command is one that had to wait, up to the moment that follows from this; it has not come
pub record IsWaiting (es : List EntryData) (s : SettingsData) (now : ℕ) (w : Delayed) : Type 0 where
  pub delayed_at : ℕ
  pub delayed : WasDelayedAt es delayed_at w.serial w.command
  pub leaves : w.leaves ≡ delayed_at + s.qfull
  pub ahead : now < w.leaves

-- all that a device has comes from its journal
pub record IsOfJournal (es : List EntryData) (d : DeviceState) : Type 0 where
  pub unfinished : Every (IsKnown es d.settings d.now) d.unfinished
  pub delayed : Every (IsWaiting es d.settings d.now) d.delayed
  pub log : Every (IsExplained es d.settings) d.log

-- ==== what a handler is asked

-- The handler of a device of this name and medium was asked with the command descriptor block, the bytes and the length that the
-- initiator of this serial's command sent, and gave this reply and left this medium.
pub record WasAsked (R : HandlerRelation) (es : List EntryData) (name : List ℕ) (medium : MediumState) (s : ℕ) (reply : ReplyData) (after : MediumState) : Type 0 where
  pub command : CommandData
  pub accepted : WasAccepted es s command
  pub relation : R name medium (record { cdb = command.cdb; sent = command.sent; in_len = command.in_len }) reply after
