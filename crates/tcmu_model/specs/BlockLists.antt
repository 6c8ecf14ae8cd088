-- The data blocks of each command, as a journal gives them: the least free numbers, when the command is laid.
use Rattle.std.specs.Prelude.{◌≡◌, ℕ, suc, zero, ◌+◌, ◌||◌, ◌==◌, Bool, List, [], ◌∷◌, ◌++◌, take, drop, Option, Some, None, slice_get, if◌then◌else◌}
use Rattle.std.specs.List.{flat_map, list_any, filter}
use Rattle.tcmu_types.specs.Data.{CommandData}
use Rattle.tcmu_types.specs.Events.{EventData, AnswerData, EntryData}
use Rattle.tcmu_types.specs.Events as ev
use Rattle.tcmu_types.specs.declared.answer.Submit.TheVariants as submit
use Rattle.tcmu_types.specs.declared.answer.Enter.TheVariants as enter
use Rattle.tcmu_types.specs.Lists.{first_of}
use Rattle.tcmu_model.specs.RingState.{serials_in}
use Rattle.tcmu_model.specs.Device.{Unfinished, DeviceState, Device, has_serial}
use Rattle.tcmu_model.specs.Events.{blocks_in}
use Rattle.tcmu_types.specs.Numbers.{is_among}
use Rattle.tcmu_model.specs.Steps.{HandlerRelation, Step}

-- the blocks of the command of a serial
pub record Taken : Type 0 where
  pub serial : ℕ
  pub blocks : List ℕ

abbrev pub blocks_taken : Option Taken → List ℕ
blocks_taken None = []
blocks_taken (Some t) = t.blocks

-- the list of a serial, empty where it has none
abbrev pub list_of : List Taken → ℕ → List ℕ
list_of lists s = blocks_taken (first_of (λ t. t.serial == s) lists)

-- the numbers that the unfinished commands hold
abbrev pub held_by : List Taken → List Unfinished → List ℕ
held_by lists us = flat_map (λ u. list_of lists u.serial) us

-- of the k numbers from n on, those that do not stand in a list
abbrev pub free_from : List ℕ → ℕ → ℕ → List ℕ
free_from held n zero = []
free_from held n (suc k) = if is_among held n then free_from held (n + 1) k else n ∷ free_from held (n + 1) k

-- the n least free numbers below the limit, rising
abbrev pub least_free : ℕ → List ℕ → ℕ → List ℕ
least_free limit held n = take n (free_from held 0 limit)

-- the least of them
abbrev pub first_free : ℕ → List ℕ → Option ℕ
first_free limit held = slice_get (free_from held 0 limit) 0

-- a command is laid: it gets the blocks that it needs
abbrev pub with_taken : DeviceState → List Taken → ℕ → CommandData → List Taken
with_taken d lists s c = lists ++ record { serial = s; blocks = least_free d.settings.blocks (held_by lists d.unfinished) (blocks_in d c) } ∷ []

-- a list stays as long as its command is unfinished or its own item is not cleared
abbrev pub is_kept : DeviceState → Taken → Bool
is_kept d t = list_any (has_serial t.serial) d.unfinished || is_among (serials_in (drop d.ring.cleared d.ring.laid)) t.serial

abbrev pub kept_lists : DeviceState → List Taken → List Taken
kept_lists d lists = filter (is_kept d) lists

-- the lists after an event with its answer on a device, which left this state
abbrev pub lists_after : DeviceState → List Taken → EventData → AnswerData → DeviceState → List Taken
lists_after d lists (ev.Submit c) (ev.Submitted (submit.Queued s)) after = with_taken d lists s c
lists_after d lists ev.Enter (ev.Entered (enter.Entered s)) after =
    elim (d.delayed) [ [] ↦ lists | w ∷ ws ↦ with_taken d lists s w.command ]
lists_after d lists ev.Stat answer after = lists
lists_after d lists event answer after = kept_lists after lists

-- the block lists of a run
abbrev pub BlockRun : HandlerRelation → Device → List Taken → List EntryData → Device → List Taken → Type 0
BlockRun R d lists [] d' lists' = (d' ≡ d) × (lists' ≡ lists)
BlockRun R d lists (e ∷ es) d' lists' =
    (mid : Device) × Step R d e mid × BlockRun R mid (lists_after d.state lists e.event e.answer mid.state) es d' lists'

-- a run has block lists
pub record HasLists (R : HandlerRelation) (d : Device) (lists : List Taken) (es : List EntryData) (d' : Device) : Type 0 where
  pub behind : List Taken
  pub run : BlockRun R d lists es d' behind
