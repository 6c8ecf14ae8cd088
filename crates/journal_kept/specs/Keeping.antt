-- What a kept device keeps.
use Rattle.std.specs.Prelude.{◌≡◌, ℕ, ◌+◌, ◌<◌, ◌≤◌, ◌^◌, max, List, [], ◌∷◌, ◌++◌, length, map, IfOk, OnErr, Result}
use mathlib.Core.List.{IsPrefix}
use Rattle.std.specs.List.{sum_by}
use Rattle.tcmu_types.specs.Events.{EventData, EntryData}
use Rattle.tcmu_types.specs.Events as ev
use Rattle.tcmu_types.specs.Lists.{Every}
use Rattle.tcmu_model.specs.Device.{DeviceState, Device}
use Rattle.tcmu_model.specs.RingState.{Item, Laid, Pad, Cmd, Tmr}
use Rattle.tcmu_model.specs.Steps.{HandlerRelation}
use Rattle.text_model.specs.Schedule.{admin_made}
use Rattle.journal_kept.specs.Asked.{PlanData, sent_count}
use Rattle.journal_kept.specs.Answering.{AddsEntry, TellsOn}
use Rattle.tcmu_types.specs.declared.answer.Answer.{Answer}
use Rattle.journal_kept.specs.Fronts.{IsFront}
use Rattle.journal_kept.specs.declared.asking.Ask.{Ask}
use Rattle.journal_kept.specs.declared.asking.Told.{Told}

-- what contracts see of a kept device
pub record KeptData : Type 0 where
  pub plan : PlanData
  pub journal : List EntryData
  pub device : Device

-- ==== notes

-- how many serials an event names
abbrev pub named_in : EventData → ℕ
named_in (ev.Tmr kind serials) = length serials
named_in _ = 0

-- the most serials that one of these events names
abbrev pub most_named : List EventData → ℕ
most_named [] = 0
most_named (e ∷ es) = max (named_in e) (most_named es)

-- an item names at most n serials
abbrev pub NamesAtMost : ℕ → Laid → Type 0
NamesAtMost n Pad = Unit {0}
NamesAtMost n (Cmd s c) = Unit {0}
NamesAtMost n (Tmr kind serials) = length serials ≤ n

-- no note in the ring names more than n serials
abbrev pub NotesName : ℕ → DeviceState → Type 0
NotesName n d = Every (λ i. NamesAtMost n i.laid) d.ring.laid

-- ==== what is kept

-- how far the lists of a script are made: the commands sent of each initiator, and the events made of the administration
pub record CountsData : Type 0 where
  pub lines : List ℕ
  pub admin : ℕ

abbrev pub counts_of : PlanData → List EntryData → CountsData
counts_of p es = record { lines = map (sent_count es) p.script.inits; admin = length (admin_made es) }

-- the entries of one device, and the most serials of a note in its ring
pub record EntriesData : Type 0 where
  pub device : ℕ
  pub longest : ℕ
  pub items : List EntryData

-- the entries are a front of a schedule of the plan, and these are their counts
pub record IsKeptFront (R : HandlerRelation) (p : PlanData) (counts : CountsData) (entries : EntriesData) (d : Device) : Type 0 where
  pub own : entries.device ≡ p.device
  pub front : IsFront R p entries.items d
  pub counted : counts ≡ counts_of p entries.items
  -- no note has more serials than the script's longest
  pub longest_is : entries.longest ≡ most_named p.script.admin
  pub notes : NotesName entries.longest d.state
  -- a count of the administration's events fits
  pub few_admin : length p.script.admin < 2 ^ 64
  -- of the commands sent so many were accepted at most
  pub few : d.state.accepted ≤ sum_by (λ n. n) counts.lines

-- an event was made, and its entry added
pub record MakesEntry (R : HandlerRelation) (es : EntriesData) (d : Device) (event : EventData) (answer : Answer) (es' : EntriesData) (d' : Device) : Type 0 where
  pub added : List EntryData
  pub entries : es' ≡ record es { items = es.items ++ added }
  pub adds : AddsEntry R es.device d event answer added d'

-- ==== what an ask does

-- the plan stays, and what was told comes with the entries that were added
pub record AsksOnce (R : HandlerRelation) (k : KeptData) (ask : Ask) (told : Told) (k' : KeptData) : Type 0 where
  pub added : List EntryData
  pub plan : k'.plan ≡ k.plan
  pub journal : k'.journal ≡ k.journal ++ added
  pub tells : TellsOn R k.plan k.journal k.device ask told added k'.device

-- the plan stays, and the journal begins as it was
pub record Lengthens (k k' : KeptData) : Type 0 where
  pub plan : k'.plan ≡ k.plan
  pub longer : IsPrefix k.journal k'.journal
