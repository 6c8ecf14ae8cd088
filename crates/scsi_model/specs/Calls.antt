-- Calls as relations, and how they are joined. A call stands between the state before it, whether it failed, and the state after it.
use Rattle.std.specs.Prelude.{◌≡◌, Bool, true, false, if◌then◌else◌}
use Rattle.std.specs.Bool.{MatchBool}

abbrev pub Call : Type 0 → Type 1
Call X = X → Bool → X → Type 0

abbrev pub unchanged : {X : Type 0} → X → X
unchanged x = x

-- a change that never fails
abbrev pub Does : {X : Type 0} → (X → X) → Call X
Does change x failed after = (failed ≡ false) × (after ≡ change x)

-- a call, with one change behind its success and another behind its failure
abbrev pub Leaves : {X : Type 0} → Call X → (X → X) → (X → X) → Call X
Leaves {X} Made success failure x failed after =
    (middle : X) × Made x failed middle × (after ≡ (if failed then failure middle else success middle))

-- one call, and behind its success another
abbrev pub Then : {X : Type 0} → Call X → Call X → Call X
Then {X} First Second x failed after =
    (broke : Bool) × (middle : X) × First x broke middle × MatchBool broke ((failed ≡ true) × (after ≡ middle)) (Second middle failed after)

-- the one call where the test holds, and else the other
abbrev pub Chosen : {X : Type 0} → Bool → Call X → Call X → Call X
Chosen test First Second x failed after = MatchBool test (First x failed after) (Second x failed after)
