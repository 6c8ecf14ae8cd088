-- What contracts see of a gate that holds a job.
use Rattle.std.specs.Prelude.{ℕ}

-- the serial of the job that it holds, that of the job whose answer lets it go, and for how many turns it holds at most
pub record HoldData : Type 0 where
  pub held : ℕ
  pub until : ℕ
  pub limit : ℕ
