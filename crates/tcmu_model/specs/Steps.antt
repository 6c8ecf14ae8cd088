-- The events of a device as steps, and the runs of journals.
use Rattle.std.specs.Prelude.{◌≡◌, ℕ, ◌+◌, ◌≤◌, Bool, true, false, List, [], ◌∷◌, length, Some, None}
use Rattle.tcmu_types.specs.Data.{CommandData, ReplyData}
use Rattle.tcmu_types.specs.Rules.{IsCommand, IsReply}
use Rattle.tcmu_types.specs.Events.{EventData, AnswerData, DispatchData, EntryData}
use Rattle.tcmu_types.specs.Events as ev
use Rattle.tcmu_types.specs.declared.answer.Submit.{Submit}
use Rattle.tcmu_types.specs.declared.answer.Enter.{Enter}
use Rattle.tcmu_types.specs.declared.answer.Handle.{Handle}
use Rattle.tcmu_types.specs.declared.answer.Handle.TheVariants as handle
use Rattle.tcmu_types.specs.declared.answer.Respond.{Respond}
use Rattle.tcmu_types.specs.declared.answer.Publish.{Publish}
use Rattle.tcmu_types.specs.declared.answer.Reset.{Reset}
use Rattle.tcmu_types.specs.declared.answer.Tmr.{Tmr}
use Rattle.tcmu_types.specs.declared.stat.Stat.{Stat}
use Rattle.tcmu_model.specs.MediumState.{MediumState}
use Rattle.tcmu_model.specs.Device.{Unfinished, DeviceState, Device}
use Rattle.tcmu_model.specs.Events.{submit_answer, after_submit, enter_answer, after_enter, dispatch_answer, after_dispatch, command_out, after_handle, respond_answer, after_respond, publish_answer, after_publish, clean_answer, after_clean, tick_answer, after_tick, block_answer, after_block, reset_answer, after_reset, restart_answer, after_restart, tmr_answer, after_tmr, stat_answer}

-- what a handler is asked: a command descriptor block, the bytes sent with it, and how many bytes it may answer
pub record Asked : Type 0 where
  pub cdb : List ℕ
  pub sent : List ℕ
  pub in_len : ℕ

abbrev pub asked : CommandData → Asked
asked c = record { cdb = c.cdb; sent = c.sent; in_len = c.in_len }

-- how many commands an event accepts at most
abbrev pub most_accepted : EventData → ℕ
most_accepted (ev.Submit c) = 1
most_accepted _ = 0

-- what a handler may do: its name, the medium before, what it is asked, its reply, the medium after
abbrev pub HandlerRelation : Type 1
HandlerRelation = List ℕ → MediumState → Asked → ReplyData → MediumState → Type 0

-- the device in another state, with the same handler
abbrev pub moved : Device → DeviceState → Device
moved d s = record d { state = s }

-- ==== one relation for each event: the device before, what the event has, its answer, the device after

pub record Submits (d : Device) (c : CommandData) (a : Submit) (d' : Device) : Type 0 where
  pub command : IsCommand c
  pub answer : a ≡ submit_answer d.state c
  pub after : d' ≡ moved d (after_submit d.state c a)

pub record Enters (d : Device) (a : Enter) (d' : Device) : Type 0 where
  pub answer : a ≡ enter_answer d.state
  pub after : d' ≡ moved d (after_enter d.state a)

pub record Dispatches (d : Device) (a : DispatchData) (d' : Device) : Type 0 where
  pub answer : a ≡ dispatch_answer d.state
  pub after : d' ≡ moved d (after_dispatch d.state)

-- the handler was asked for the command that is Out, and replied
pub record Replies (R : HandlerRelation) (d : Device) (s : ℕ) (u : Unfinished) (reply : ReplyData) (d' : Device) : Type 0 where
  pub found : command_out d.state s ≡ Some u
  pub relation : R d.name d.medium (asked u.command) reply d'.medium
  pub whole : IsReply reply
  pub payload : length reply.payload ≤ u.command.in_len
  pub name : d'.name ≡ d.name
  pub state : d'.state ≡ after_handle d.state s reply

abbrev pub Handles : HandlerRelation → Device → ℕ → Handle → Device → Type 0
Handles R d s (handle.Done reply) d' = (u : Unfinished) × Replies R d s u reply d'
Handles R d s (handle.NotOut t) d' = (t ≡ s) × (command_out d.state s ≡ None) × (d' ≡ d)

pub record Responds (d : Device) (s : ℕ) (a : Respond) (d' : Device) : Type 0 where
  pub answer : a ≡ respond_answer d.state s
  pub after : d' ≡ moved d (after_respond d.state s)

pub record Publishes (d : Device) (a : Publish) (d' : Device) : Type 0 where
  pub answer : a ≡ publish_answer d.state
  pub after : d' ≡ moved d (after_publish d.state)

pub record Cleans (d : Device) (n : ℕ) (d' : Device) : Type 0 where
  pub answer : n ≡ clean_answer d.state
  pub after : d' ≡ moved d (after_clean d.state)

pub record Ticks (d : Device) (n : ℕ) (count : ℕ) (d' : Device) : Type 0 where
  pub answer : count ≡ tick_answer d.state n
  pub after : d' ≡ moved d (after_tick d.state n)

-- the bit turns to b; the answer is whether it was another
pub record Blocks (d : Device) (b : Bool) (changed : Bool) (d' : Device) : Type 0 where
  pub answer : changed ≡ block_answer d.state b
  pub after : d' ≡ moved d (after_block d.state b)

pub record Resets (d : Device) (level : ℕ) (a : Reset) (d' : Device) : Type 0 where
  pub answer : a ≡ reset_answer d.state level
  pub after : d' ≡ moved d (after_reset d.state level)

pub record Restarts (d : Device) (n : ℕ) (d' : Device) : Type 0 where
  pub answer : n ≡ restart_answer d.state
  pub after : d' ≡ moved d (after_restart d.state)

pub record Notes (d : Device) (kind : ℕ) (serials : List ℕ) (a : Tmr) (d' : Device) : Type 0 where
  pub answer : a ≡ tmr_answer d.state serials
  pub after : d' ≡ moved d (after_tmr d.state kind serials a)

pub record Shows (d : Device) (a : Stat) (d' : Device) : Type 0 where
  pub answer : a ≡ stat_answer d.state
  pub after : d' ≡ d

-- ==== journals

-- one event with its answer; an event has no answer of another kind
abbrev pub Makes : HandlerRelation → Device → EventData → AnswerData → Device → Type 0
Makes R d (ev.Submit c) (ev.Submitted a) d' = Submits d c a d'
Makes R d ev.Dispatch (ev.Dispatched a) d' = Dispatches d a d'
Makes R d (ev.Handle s) (ev.Answered a) d' = Handles R d s a d'
Makes R d (ev.Respond s) (ev.Responded a) d' = Responds d s a d'
Makes R d ev.Publish (ev.Published a) d' = Publishes d a d'
Makes R d ev.Clean (ev.Logged n) d' = Cleans d n d'
Makes R d (ev.Tick n) (ev.Logged count) d' = Ticks d n count d'
Makes R d ev.Block (ev.Changed b) d' = Blocks d true b d'
Makes R d ev.Unblock (ev.Changed b) d' = Blocks d false b d'
Makes R d (ev.Reset level) (ev.WasReset a) d' = Resets d level a d'
Makes R d ev.Restart (ev.Lost n) d' = Restarts d n d'
Makes R d (ev.Tmr kind serials) (ev.Noted a) d' = Notes d kind serials a d'
Makes R d ev.Stat (ev.Told a) d' = Shows d a d'
Makes R d ev.Enter (ev.Entered a) d' = Enters d a d'
Makes R d _ _ d' = ⊥

-- one entry of a journal: the event with its answer, and how many completions it logged
pub record Step (R : HandlerRelation) (d : Device) (e : EntryData) (d' : Device) : Type 0 where
  pub makes : Makes R d e.event e.answer d'
  pub logged : length d'.state.log ≡ length d.state.log + e.logged

-- the entries are made one after another
abbrev pub Run : HandlerRelation → Device → List EntryData → Device → Type 0
Run R d [] d' = d' ≡ d
Run R d (e ∷ es) d' = (mid : Device) × Step R d e mid × Run R mid es d'
