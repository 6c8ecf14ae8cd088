-- How a load ends.
use Rattle.std.specs.Prelude.{◌≡◌, ◌≢◌, ℕ, List, Option}
use Rattle.tcmu_types.specs.Numbered.{Rose}
use Rattle.edge.specs.Outside.{Gained, GainedFront}
use Rattle.load_run.specs.Loading.{IsLoadText}
use Rattle.text_model.specs.declared.faults.Why.{Why}
use Rattle.tcmu_top.specs.Calls.{Calm}
use Rattle.tcmu_top.specs.declared.status.Status.{Status}
use Rattle.tcmu_top.specs.declared.status.Status.TheVariants as status

-- the line of the load was written
pub record LineWritten (seed count : ℕ) (old new : Option (List ℕ)) : Type 0 where
  pub text : List ℕ
  pub is : IsLoadText seed count text
  pub gained : Gained old text new

-- a front of it was written
pub record LineWrittenInPart (seed count : ℕ) (old new : Option (List ℕ)) : Type 0 where
  pub text : List ℕ
  pub is : IsLoadText seed count text
  pub gained : GainedFront old text new

-- How a load of this seed and of so many commands ends, and what it wrote: by what the sink had and has, its faults before and after, and
-- the status.
pub record LoadEnds (seed count : ℕ) (old new : Option (List ℕ)) (wrote wrote' : ℕ) (ended : Status) : Type 0 where
  pub ok : ended ≡ status.Ok → LineWritten seed count old new
  pub write_fault : ended ≡ status.WriteFault → Rose wrote wrote' × LineWrittenInPart seed count old new
  pub no_memory : ended ≡ status.NoMemory → new ≡ old
  pub reads : ended ≢ status.ReadFault
  pub scenario : (line : ℕ) (reason : Why) → ended ≢ status.BadScenario line reason
  pub words : ended ≢ status.BadWords
  pub opens : ended ≢ status.OpenFault
  -- no fault of the sink is passed over
  pub calm : Calm status.WriteFault ended wrote wrote'
