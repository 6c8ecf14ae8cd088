use Rattle.std.proofs.Common.{◌≡◌, ◌+◌, ◌≤◌, length, take}
use Rattle.tcmu_types.specs.Data.{texts_of}
use Rattle.tcmu_types.proofs.list.Listed+Bytes.from_words.Given as goal

abbrev pub invariant-loop-word : goal.invariant-loop-word
invariant-loop-word l =
    (texts_of l.list.items ≡ texts_of (take l.word-index l.words)) × (length l.words ≤ l.list.spare + l.word-index)
