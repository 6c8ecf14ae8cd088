-- The numbers and the lines that follow.
use Rattle.std.proofs.Common.{◌≡◌, ℕ, ◌+◌, [], ◌++◌, refl, add-one}
use Rattle.text_model.specs.Load.{next_random, random_of, load_lines, load_step}

pub random_first : (seed : ℕ) → random_of seed 0 ≡ seed
unfolding random_of
random_first seed = refl

pub random_next : (seed i : ℕ) → random_of seed (i + 1) ≡ next_random (random_of seed i)
unfolding random_of
random_next seed i = rw add-one refl

pub lines_first : (seed : ℕ) → load_lines seed 0 ≡ []
unfolding load_lines
lines_first seed = refl

pub lines_next : (seed i : ℕ) → load_lines seed (i + 1) ≡ load_lines seed i ++ load_step (i + 1) (random_of seed (i + 1))
unfolding load_lines
lines_next seed i = rw add-one refl

pub ruleset steps = (random_first, random_next, lines_first, lines_next)
