-- What the copy of an event or of an answer needs room for: the bytes and the serials that it carries.
use Rattle.std.specs.Prelude.{◌≡◌, ℕ, ◌≤◌, List, [], length}
use Rattle.tcmu_types.specs.Events.{EventData, DispatchData, AnswerData}
use Rattle.tcmu_types.specs.Events as ev
use Rattle.tcmu_types.specs.declared.answer.Handle.{Handle}
use Rattle.tcmu_types.specs.declared.answer.Handle.TheVariants as handle

abbrev pub event_bytes : EventData → List ℕ
event_bytes (ev.Submit c) = c.sent
event_bytes _ = []

abbrev pub event_serials : EventData → List ℕ
event_serials (ev.Tmr kind serials) = serials
event_serials _ = []

abbrev pub handle_bytes : Handle → List ℕ
handle_bytes (handle.Done r) = r.payload
handle_bytes (handle.NotOut s) = []

abbrev pub dispatch_serials : DispatchData → List ℕ
dispatch_serials (ev.Note kind serials) = serials
dispatch_serials _ = []

abbrev pub bytes_in_answer : AnswerData → List ℕ
bytes_in_answer (ev.Answered a) = handle_bytes a
bytes_in_answer _ = []

abbrev pub answer_serials : AnswerData → List ℕ
answer_serials (ev.Dispatched a) = dispatch_serials a
answer_serials _ = []

-- for how many bytes and for how many serials there is room
pub record RoomData : Type 0 where
  pub bytes : ℕ
  pub serials : ℕ

-- there is room for these
pub record HasCopyRoom (bytes serials : List ℕ) (room : RoomData) : Type 0 where
  pub bytes_fit : length bytes ≤ room.bytes
  pub serials_fit : length serials ≤ room.serials

-- these were copied: what has none of one kind leaves the room of that kind
pub record LeavesRoom (bytes serials : List ℕ) (old new : RoomData) : Type 0 where
  pub no_bytes : bytes ≡ [] → new.bytes ≡ old.bytes
  pub no_serials : serials ≡ [] → new.serials ≡ old.serials
