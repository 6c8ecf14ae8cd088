-- A command that is to be laid.
use Rattle.std.specs.Prelude.{◌≡◌, ℕ, ◌≤◌, [], Option}
use Rattle.tcmu_types.specs.Data.{CommandData}
use Rattle.tcmu_types.specs.Overwriting.{zeros}
use Rattle.target_side.specs.declared.entrant.Entrant.{Entrant}

-- it is of this command, with room for its blocks and for the bytes that it asks for
pub record IsEntrant (e : Entrant) (s : ℕ) (c : CommandData) (due : Option ℕ) (n : ℕ) : Type 0 where
  pub serial : e.serial ≡ s
  pub init : e.init ≡ c.init
  pub tag : e.tag ≡ c.tag
  pub in_len : e.in_len ≡ c.in_len
  pub deadline : e.deadline ≡ due
  pub count : e.count ≡ n
  pub none : e.blocks.items ≡ []
  pub room : n ≤ e.blocks.spare
  pub buffer : e.buffer.items ≡ zeros c.in_len
