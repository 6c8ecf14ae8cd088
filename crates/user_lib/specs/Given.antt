-- The jobs that were given, of which the parked ones are kept under keys.
use Rattle.std.specs.Prelude.{◌≡◌, ◌≢◌, ℕ, ◌+◌, ◌≤◌, ◌==◌, ◌&&◌, Bool, true, false, not, List, [], ◌∷◌, length, map, Option, Some, None, IsSome}
use Rattle.std.specs.Option.{is_some, option_map, option_and_then}
use Rattle.slab.specs.Slab.{Slab, Updates, get, slab_len}
use Rattle.tcmu_types.specs.Lists.{first_of, Every}
use Rattle.region_model.specs.Sides.{GivenJob, JobState, Parked, UserState}
use Rattle.user_lib.specs.declared.past.Given.{Given}

-- the jobs in the order in which they were given, whether answers may be placed in any other, and the id of a job for which there is room
pub record GivenJobs : Type 0 where
  pub jobs : List GivenJob
  pub any_order : Bool
  pub ready : Option ℕ

-- the same of jobs whose replies stand elsewhere
pub record OrderState : Type 0 where
  pub given : List Given
  pub any_order : Bool
  pub ready : Option ℕ

-- ==== jobs under keys

-- what is kept under a key, where there is one
abbrev pub kept_under : Slab Parked → Option ℕ → Option Parked
kept_under s None = None
kept_under s (Some key) = get s key

abbrev pub job_of : Slab Parked → Given → GivenJob
job_of s g = record { id = g.id; parked = kept_under s g.key }

abbrev pub jobs_of : Slab Parked → List Given → List GivenJob
jobs_of s gs = map (job_of s) gs

abbrev pub with_key_of : Option ℕ → List ℕ → List ℕ
with_key_of None keys = keys
with_key_of (Some key) keys = key ∷ keys

abbrev pub keys_of : List Given → List ℕ
keys_of [] = []
keys_of (g ∷ gs) = with_key_of g.key (keys_of gs)

-- under a key stands a job, and it is none of the other keys
abbrev pub IsKeyed : Slab Parked → Option ℕ → List ℕ → Type 0
IsKeyed s None keys = Unit {0}
IsKeyed s (Some key) keys = IsSome (get s key) × Every (λ k. k ≢ key) keys

abbrev pub AreApart : Slab Parked → List Given → Type 0
AreApart s [] = Unit {0}
AreApart s (g ∷ gs) = IsKeyed s g.key (keys_of gs) × AreApart s gs

-- under each key stands a job of its own
pub record AreKeyed (s : Slab Parked) (gs : List Given) : Type 0 where
  pub apart : AreApart s gs
  pub count : slab_len s ≡ length (keys_of gs)

abbrev pub awaited : Option ℕ → ℕ
awaited None = 0
awaited (Some id) = 1

-- in order each job has room for its reply, one more included where there is room for it
pub record AreKept (s : Slab Parked) (o : OrderState) : Type 0 where
  pub keyed : AreKeyed s o.given
  pub room : o.any_order ≡ false → length o.given + awaited o.ready ≤ s.capacity

-- given under this id, and without a reply
abbrev pub is_open : ℕ → Given → Bool
is_open id g = (g.id == id) && not (is_some g.key)

abbrev pub with_key : ℕ → Given → Given
with_key key g = record g { key = Some key }

-- the slab behind taking what stands under a key, where there is one
abbrev pub TakesKey : Slab Parked → Slab Parked → Option ℕ → Type 0
TakesKey s s' None = s' ≡ s
TakesKey s s' (Some key) = Updates s s' key None × (is_some (get s key) ≡ true → slab_len s' + 1 ≡ slab_len s) × (s'.capacity ≡ s.capacity)

-- whether the first job is under a key
abbrev pub leads_parked : List Given → Bool
leads_parked [] = false
leads_parked (g ∷ gs) = is_some g.key

abbrev pub first_id : List Given → Option ℕ
first_id [] = None
first_id (g ∷ gs) = Some g.id

-- ==== what the jobs show

-- whether the first job has its reply
abbrev pub first_parked : List GivenJob → Bool
first_parked [] = false
first_parked (g ∷ gs) = is_some g.parked

abbrev pub first_given : List GivenJob → Option ℕ
first_given [] = None
first_given (g ∷ gs) = Some g.id

-- in order the first job has no reply, since it would be placed
abbrev pub LeadsOpen : UserState → Type 0
LeadsOpen u = u.flags.ooo ≡ false → first_parked u.jobs ≡ false

-- given under this id, and parked
abbrev pub is_parked_job : ℕ → GivenJob → Bool
is_parked_job id g = (g.id == id) && is_some g.parked

-- the first parked job of an id
abbrev pub parked_job : ℕ → List GivenJob → Option JobState
parked_job id jobs = option_and_then (λ (g : GivenJob). option_map (λ (p : Parked). p.job) g.parked) (first_of (is_parked_job id) jobs)
