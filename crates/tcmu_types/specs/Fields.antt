-- Texts as lists of characters: pieces between characters, what follows a word, the fields of a line.
use Rattle.std.specs.Prelude.{Bool, List, None, Option, Some, bytes_eq, drop, if◌then◌else◌, length, take, ℕ, ◌+◌, ◌==◌, nat_le, nat_lt, ◌&&◌, ◌||◌}
use Rattle.std.specs.List.{position, slice_split, before_first, filter}
use Rattle.std.specs.Option.{option_map}

abbrev pub line_feed : ℕ
line_feed = 10

abbrev pub hash : ℕ
hash = 35

abbrev pub star : ℕ
star = 42

abbrev pub plus : ℕ
plus = 43

abbrev pub comma : ℕ
comma = 44

abbrev pub slash : ℕ
slash = 47

abbrev pub colon : ℕ
colon = 58

-- what passes a test
abbrev pub only_if : {A : Type 0} → (A → Bool) → A → Option A
only_if p x = if p x then Some x else None

-- what stands before the first such byte and behind it
unfoldable pub cut_at : ℕ → List ℕ → Option (List ℕ × List ℕ)
cut_at at text = option_map (λ i. (take i text, drop (i + 1) text)) (position (λ b. b == at) text)

-- the pieces between such bytes
abbrev pub pieces : ℕ → List ℕ → List (List ℕ)
pieces at text = slice_split (λ b. b == at) text

-- what follows a word at the front of a text
abbrev pub after_word : List ℕ → List ℕ → Option (List ℕ)
after_word word text = if bytes_eq (take (length word) text) word then Some (drop (length word) text) else None

abbrev pub is_blank : ℕ → Bool
is_blank b = (b == 9) || (b == 13) || (b == 32)

abbrev pub is_allowed : ℕ → Bool
is_allowed b = is_blank b || (nat_le 33 b && nat_le b 126)

-- the part before the first `#`
unfoldable pub before_hash : List ℕ → List ℕ
before_hash text = before_first (λ b. b == hash) text

-- the fields of that part
unfoldable pub fields_of : List ℕ → List (List ℕ)
fields_of text = filter (λ f. nat_lt 0 (length f)) (slice_split is_blank text)
