-- What the two sides of a region keep for themselves: the target, the user side, and whoever has the jobs in hand.
use Rattle.std.specs.Prelude.{ℕ, Bool, List, Option}
use Rattle.tcmu_types.specs.Data.{ReplyData, DoneData, SettingsData}
use Rattle.tcmu_types.specs.declared.settings.Flags.{Flags}
use Rattle.tcmu_types.specs.declared.dump.ItemKind.{ItemKind}
use Rattle.tcmu_types.specs.declared.iovec.Iov.{Iov}
use Rattle.tcmu_model.specs.Device.{Delayed}
use Rattle.region_model.specs.Pending.{PendingData}

-- ==== the target

-- a command that is laid and not finished, under the id that stands in its entry
pub record PendingRow : Type 0 where
  pub id : ℕ
  pub pending : PendingData

-- an item of the ring, as a side remembers it
pub record Recorded : Type 0 where
  pub kind : ItemKind
  pub len : ℕ

pub record TargetState : Type 0 where
  pub settings : SettingsData
  pub now : ℕ
  pub blocked : Bool
  pub accepted : ℕ
  -- in rising serial
  pub rows : List PendingRow
  -- in rising serial
  pub delayed : List Delayed
  -- the items that are not cleared, in ring order
  pub items : List Recorded
  -- the ring offset of the first of them
  pub cleaned : ℕ
  -- the commands laid and cleared since the last reset
  pub laid : ℕ
  pub cleared : ℕ
  -- the id without a command that a clean came to, up to a reset
  pub broken : Option ℕ
  pub log : List DoneData

-- ==== the user side

-- a job has the blocks of its iovecs, or a copy of their bytes
pub data Carried : Type 0 where
  Moved : List (List ℕ) → Carried
  Copied : List ℕ → Carried

pub record JobState : Type 0 where
  pub id : ℕ
  pub cdb : List ℕ
  pub iovs : List Iov
  pub carried : Carried
  pub in_len : ℕ

-- a job that has its reply
pub record Parked : Type 0 where
  pub job : JobState
  pub reply : ReplyData

-- A job that the user side gave. It is parked from its reply on until the answer is placed.
pub record GivenJob : Type 0 where
  pub id : ℕ
  pub parked : Option Parked

pub record UserState : Type 0 where
  -- read when it was attached
  pub ring : ℕ
  pub pages : ℕ
  pub flags : Flags
  -- the ring offset of the next entry
  pub place : ℕ
  -- the ring offset of the first item that is not published
  pub tail : ℕ
  -- the jobs that are neither placed nor given up, in the order in which they were given
  pub jobs : List GivenJob
  -- the ring offsets of the command entries that were passed and not yet used for an answer, in ring order
  pub offsets : List ℕ
  -- the items that were passed and are not published, in ring order
  pub items : List Recorded
  -- the commands dispatched, placed and published since it was attached
  pub dispatched : ℕ
  pub placed : ℕ
  pub published : ℕ

-- ==== jobs in hand

-- a job that its handler has, or, with a reply, the user side
pub record InHand : Type 0 where
  pub serial : ℕ
  pub job : JobState
  pub reply : Option ReplyData
