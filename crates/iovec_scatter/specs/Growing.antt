-- An iovec that may still grow.
use Rattle.std.specs.Prelude.{ℕ, ◌+◌, ◌^◌, ◌<◌, ◌==◌, List, [], ◌∷◌, Option, Some, None, IfSome, if◌then◌else◌}
use Rattle.tcmu_types.specs.declared.iovec.Iov.{Iov}
use Rattle.region_model.specs.Iovecs.{joined, merged}

-- how many of them there are
abbrev pub growing : Option Iov → ℕ
growing None = 0
growing (Some last) = 1

-- what is put down when the next piece comes, and what may then still grow
abbrev pub grown : Option Iov → Iov → (List Iov × Iov)
grown None next = ([], next)
grown (Some last) next = if (last.base + last.len) == next.base then ([], joined last next) else (last ∷ [], next)

abbrev pub EndsBelow : Option Iov → Type 0
EndsBelow grows = IfSome grows (λ last. last.base + last.len < 2 ^ 64)

-- it stands before other iovecs
abbrev pub before : Option Iov → List Iov → List Iov
before None iovs = iovs
before (Some last) iovs = merged last iovs
