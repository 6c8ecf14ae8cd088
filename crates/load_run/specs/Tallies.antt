-- What a replay comes to, without its text: the entries that it made, and how many bytes each command sends that it accepted.
use Rattle.std.specs.Prelude.{◌≡◌, ℕ, ◌+◌, ◌-◌, ◌==◌, Bool, List, [], ◌∷◌, ◌++◌, length, Option, Some, None, if◌then◌else◌, slice_index_or}
use Rattle.std.specs.List.{flat_map, count_by, sum_by}
use Rattle.tcmu_types.specs.Rules.{takes_payload}
use Rattle.tcmu_types.specs.Data.{CommandData, DoneData}
use Rattle.tcmu_types.specs.Events.{EventData, AnswerData, EntryData}
use Rattle.tcmu_types.specs.Events as ev
use Rattle.tcmu_types.specs.declared.answer.Submit.TheVariants as submit
use Rattle.tcmu_model.specs.Device.{Device, DeviceState}
use Rattle.tcmu_model.specs.Steps.{HandlerRelation, Step}
use Rattle.tcmu_model.specs.Sound.{open_count}
use Rattle.text_model.specs.Load.{LoadNumbers}

-- ==== sizes

-- how many bytes a command sends, where its operation code takes some
abbrev pub size_of : CommandData → Option ℕ
size_of c = if takes_payload c.cdb then Some (length c.sent) else None

-- that of the command that an event accepted
abbrev pub size_in : EventData → AnswerData → List (Option ℕ)
size_in (ev.Submit c) (ev.Submitted (submit.Queued s)) = size_of c ∷ []
size_in (ev.Submit c) (ev.Submitted (submit.Delayed s)) = size_of c ∷ []
size_in event answer = []

-- those of the commands that these entries accepted, in order
abbrev pub sizes_of : List EntryData → List (Option ℕ)
sizes_of es = flat_map (λ e. size_in e.event e.answer) es

-- ==== entries

-- a command that is accepted gets the next serial
abbrev pub GivesNext : ℕ → EventData → AnswerData → Type 0
GivesNext n (ev.Submit c) (ev.Submitted (submit.Queued s)) = s ≡ n + 1
GivesNext n (ev.Submit c) (ev.Submitted (submit.Delayed s)) = s ≡ n + 1
GivesNext n event answer = Unit {0}

-- what an entry accepts is counted, under the next serial
pub record Numbers (d : Device) (e : EntryData) (d' : Device) : Type 0 where
  pub count : d'.state.accepted ≡ d.state.accepted + length (size_in e.event e.answer)
  pub serial : GivesNext d.state.accepted e.event e.answer

-- the entries are made one after another, and each numbers what it accepts
abbrev pub RunNumbers : HandlerRelation → Device → List EntryData → Device → Type 0
RunNumbers R d [] d' = d' ≡ d
RunNumbers R d (e ∷ es) d' = (mid : Device) × Step R d e mid × Numbers d e mid × RunNumbers R mid es d'

-- one entry, of this event and of the device of this number
abbrev pub IsOf : ℕ → EventData → List EntryData → Type 0
IsOf at event es = (e : EntryData) × (es ≡ e ∷ []) × (e.device ≡ at) × (e.event ≡ event)

-- entries that are so were made, and the sizes of what they accepted are noted behind the others
pub record Played (R : HandlerRelation) (so : List EntryData → Type 0) (d d' : Device) (old new : List (Option ℕ)) : Type 0 where
  pub entries : List EntryData
  pub right : so entries
  pub run : RunNumbers R d entries d'
  pub noted : new ≡ old ++ sizes_of entries

-- ==== sums

abbrev pub is_good : DoneData → Bool
is_good e = e.status == 0

-- the bytes that a completion moved, by the size that is noted for its command
abbrev pub moved_size : Option ℕ → DoneData → ℕ
moved_size (Some n) e = n
moved_size None e = length e.payload

-- those that a completion moved, if it is GOOD, by the sizes in the order of the serials, from 0 on
abbrev pub good_bytes : List (Option ℕ) → DoneData → ℕ
good_bytes sizes e = if is_good e then moved_size (slice_index_or sizes e.serial None) e else 0

-- what a replay comes to that left a device, by the sizes
abbrev pub numbers_in : List (Option ℕ) → DeviceState → LoadNumbers
numbers_in sizes d =
    record {
      queued = length sizes - 1;
      good = count_by is_good d.log;
      bytes = sum_by (good_bytes sizes) d.log;
      unanswered = open_count d;
    }
