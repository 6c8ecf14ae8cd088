-- What a row keeps beside the command that it stands for.
use Rattle.std.specs.Prelude.{ℕ, ◌+◌, ◌≤◌, List, length, Option}
use Rattle.std.specs.Option.{option_map}
use Rattle.tcmu_types.specs.Data.{ReplyData, Spared}
use Rattle.tcmu_path.specs.declared.row.ReplyHead.{ReplyHead}

-- the reply whose bytes lie elsewhere
abbrev pub reply_of : Option ReplyHead → List ℕ → Option ReplyData
reply_of head bytes = option_map (λ (h : ReplyHead). let r : ReplyData = record { status = h.status.0; sense = h.sense; payload = bytes } in r) head

-- a reply's bytes fit the command, and there is room for all bytes of its completion
pub record HoldsReply (in_len : ℕ) (buffer : Spared ℕ) : Type 0 where
  pub fits : length buffer.items ≤ in_len
  pub room : in_len ≤ length buffer.items + buffer.spare
