-- What contracts see of lists, commands, replies, completions and settings.
use Rattle.std.specs.Prelude.{ℕ, List, Option, map}
use Rattle.tcmu_types.specs.declared.settings.Flags.{Flags}

-- a list with reserved room: its items, and how many more it has room for
pub record Spared (T : Type 0) : Type 0 where
  pub items : List T
  pub spare : ℕ

-- the items of each of these lists
abbrev pub texts_of : List (Spared ℕ) → List (List ℕ)
texts_of words = map (λ word. word.items) words

-- a command as its initiator sent it
pub record CommandData : Type 0 where
  pub init : List ℕ
  pub tag : ℕ
  pub cdb : List ℕ
  pub sent : List ℕ
  pub in_len : ℕ

pub record SenseData : Type 0 where
  pub key : ℕ
  pub asc : ℕ
  pub ascq : ℕ

-- what a handler answers
pub record ReplyData : Type 0 where
  pub status : ℕ
  pub sense : Option SenseData
  pub payload : List ℕ

-- one completion
pub record DoneData : Type 0 where
  pub serial : ℕ
  pub init : List ℕ
  pub tag : ℕ
  pub status : ℕ
  pub sense : Option SenseData
  pub payload : List ℕ

-- the settings of a device
pub record SettingsData : Type 0 where
  pub ring : ℕ
  pub blocks : ℕ
  pub flags : Flags
  pub timeout : ℕ
  pub qfull : ℕ
  pub pages : ℕ
