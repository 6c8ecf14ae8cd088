use Rattle.std.proofs.Common.{◌≡◌, ◌≢◌, ℕ, ◌+◌, ◌*◌, ◌/◌, ◌%◌, ◌<◌, ◌≤◌, min, length, take, slice_index, List, ◌∙◌, sym, arith}
use Rattle.std.proofs.lemmas.List.{get_or-take, length-take}
use Rattle.data_blocks.proofs.Bits.{found-clear}
use Rattle.data_blocks.proofs.Search.{none-clear, some-clear, past-clear}
use Rattle.data_blocks.proofs.laws.first_free.Goals as goal

-- a fact of the words in front is one of all words
whole : (words : List ℕ) (count w : ℕ) → w ≤ length (take count words) → ((k : ℕ) → k < w → slice_index (take count words) k ≡ 18446744073709551615) →
    (k : ℕ) → k < w → slice_index words k ≡ 18446744073709551615
whole words count w l full k b =
    let n = length-take count words in
    sym (get_or-take count words k 0 (omega arith)) ∙ full k b

-- the word that was found is not full
found : (words : List ℕ) (limit count w : ℕ) → limit ≤ 64 * length words → count ≡ limit / 64 + min 1 (limit % 64) → w ≤ length (take count words) → w ≢ count →
    (w < length (take count words) → slice_index (take count words) w ≢ 18446744073709551615) → slice_index words w < 18446744073709551616 → slice_index words w < 18446744073709551615
found words limit count w r e l d not_full fits =
    let n = length-take count words in
    let b : w < count = omega arith in
    let g = get_or-take count words w 0 b in
    let f = not_full (omega arith) in
    omega arith

below : (limit count w : ℕ) → count ≡ limit / 64 + min 1 (limit % 64) → limit < 4294967296 → w < count → 64 * w + 63 < 4294967296
below limit count w e l b = omega arith

pub returns-then-word-count : goal.returns-then-word-count
returns-then-word-count c =
    let e = c.div_ceil-count.ensures in
    let t = c.if-word-count.true in
    sym (none-clear c.args.words.now c.args.limit c.first_not_full-word.result (omega arith)
    (whole c.args.words.now c.div_ceil-count.result c.first_not_full-word.result c.first_not_full-word.ensures.within c.first_not_full-word.ensures.full))

pub overflow_add-number : goal.overflow_add-number
overflow_add-number c =
    let f = c.type_inv.words c.first_not_full-word.result in
    let n = length-take c.div_ceil-count.result c.args.words.now in
    let x = found c.args.words.now c.args.limit c.div_ceil-count.result c.first_not_full-word.result c.requires c.div_ceil-count.ensures
    c.first_not_full-word.ensures.within c.if-word-count.false c.first_not_full-word.ensures.not_full (omega arith) in
    let t = (found-clear c.args.words.now c.first_not_full-word.result c.trailing_ones.result x c.trailing_ones.ensures).0 in
    let b = below c.args.limit c.div_ceil-count.result c.first_not_full-word.result c.div_ceil-count.ensures (omega arith) (omega arith) in
    omega arith

pub returns-then-number-limit : goal.returns-then-number-limit
returns-then-number-limit c =
    let f = c.type_inv.words c.first_not_full-word.result in
    let x = found c.args.words.now c.args.limit c.div_ceil-count.result c.first_not_full-word.result c.requires c.div_ceil-count.ensures
    c.first_not_full-word.ensures.within c.if-word-count.false c.first_not_full-word.ensures.not_full (omega arith) in
    sym (some-clear c.args.words.now c.args.limit c.first_not_full-word.result c.trailing_ones.result x c.trailing_ones.ensures
    (whole c.args.words.now c.div_ceil-count.result c.first_not_full-word.result c.first_not_full-word.ensures.within c.first_not_full-word.ensures.full)
    c.if-number-limit.true)

pub returns-else-number-limit : goal.returns-else-number-limit
returns-else-number-limit c =
    let f = c.type_inv.words c.first_not_full-word.result in
    let x = found c.args.words.now c.args.limit c.div_ceil-count.result c.first_not_full-word.result c.requires c.div_ceil-count.ensures
    c.first_not_full-word.ensures.within c.if-word-count.false c.first_not_full-word.ensures.not_full (omega arith) in
    sym (past-clear c.args.words.now c.args.limit c.first_not_full-word.result c.trailing_ones.result x c.trailing_ones.ensures
    (whole c.args.words.now c.div_ceil-count.result c.first_not_full-word.result c.first_not_full-word.ensures.within c.first_not_full-word.ensures.full)
    c.if-number-limit.false)
