-- The words of the program.
use Rattle.std.specs.Prelude.{ℕ, ◌-◌, ◌^◌, ◌≤◌, List, [], ◌∷◌, Option, Some, None, if◌then◌else◌, bytes_eq, codes}
use Rattle.std.specs.Option.{option_and_then, option_map}
use Rattle.tcmu_types.specs.Decimals.{number_of}
use Rattle.tcmu_top.specs.declared.words.Task.{Task}
use Rattle.tcmu_top.specs.declared.words.Task.TheVariants as task

-- `replay`
unfoldable pub replay_of : List ℕ → Option Task
replay_of word = if bytes_eq word (codes "replay") then Some task.Replay else None

-- `load SEED COUNT`
unfoldable pub load_of : List ℕ → List ℕ → List ℕ → Option Task
load_of word seed count =
    if bytes_eq word (codes "load")
    then option_and_then (λ s. option_map (λ n. task.Load s n) (number_of 0 10000 count)) (number_of 0 (2 ^ 64 - 1) seed)
    else None

-- what the words ask for, if they are words that the program knows
abbrev pub task_of : List (List ℕ) → Option Task
task_of (word ∷ []) = replay_of word
task_of (word ∷ seed ∷ count ∷ []) = load_of word seed count
task_of [] = None
task_of (word ∷ other ∷ []) = None
task_of (word ∷ a ∷ b ∷ c ∷ more) = None

-- a load has at most 10,000 commands
abbrev pub IsTask : Task → Type 0
IsTask task.Replay = Unit {0}
IsTask (task.Load seed count) = count ≤ 10000
