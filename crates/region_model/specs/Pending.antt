-- The target's record of a command that is laid and not finished.
use Rattle.std.specs.Prelude.{ℕ, ◌≤◌, Bool, List, Option, None, Some}

-- the command's serial, initiator, tag and data-in length; its data blocks; the moment from which it is due; whether it is
-- expired; and room for the bytes of its completion
pub record PendingData : Type 0 where
  pub serial : ℕ
  pub init : List ℕ
  pub tag : ℕ
  pub in_len : ℕ
  pub blocks : List ℕ
  pub deadline : Option ℕ
  pub expired : Bool
  pub buffer : List ℕ

-- neither of two commands has a deadline, or the second's is not below the first's
abbrev pub NotAfter : Option ℕ → Option ℕ → Type 0
NotAfter None None = Unit {0}
NotAfter (Some a) (Some b) = a ≤ b
NotAfter None (Some b) = ⊥
NotAfter (Some a) None = ⊥
