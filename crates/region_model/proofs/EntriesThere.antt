-- An entry that stands in the ring is read as what was written.
use Rattle.std.proofs.Common.{Bool, cond, ◌==◌, ◌≡◌, ℕ, ◌+◌, ◌-◌, ◌*◌, ◌%◌, ◌^◌, ◌<◌, ◌≤◌, List, [], ◌∷◌, ◌++◌, length, drop, take, get_or, Some, None, Ok, true, false, nat_lt, nat_le, refl, ap, ◌∙◌, sym, arith, append_assoc, length-append, suc, zero}
use Rattle.std.specs.Prelude.{slice_index}
use Rattle.std.proofs.lemmas.Bool.{le-ltb}
use Rattle.std.proofs.lemmas.Bool.Decides.{nat_tests}
use Rattle.std.proofs.lemmas.List.{take_at, drop_at, get_or-drop, take-append-drop, drop-append-le, drop-drop}
use Rattle.tcmu_types.specs.Rules.{group_length, IsCdb}
use Rattle.tcmu_types.specs.declared.iovec.Iov.{Iov}
use Rattle.tcmu_model.specs.Lengths.{round_up, tmr_length}
use Rattle.region_model.specs.Layout.{entry_header, command_head, command_bytes, command_length, cdb_place, pad_bytes, tmr_bytes, iovs_bytes, ids_bytes}
use Rattle.tcmu_types.specs.ByteFields.{le, padded, field}
use Rattle.tcmu_types.specs.Overwriting.{zeros}
use Rattle.region_model.specs.EntryReading.{iov_at, tmr_id_at, lies_inside, first_outside, cdb_at, command_read, tmr_read, limit_of, least_of, kind_read, sized_read, entry_read}
use Rattle.region_model.specs.declared.mailbox.Mailbox.{Mailbox}
use Rattle.region_model.specs.declared.entry.EntryRef.TheVariants.{Pad, Cmd, Tmr}
use Rattle.region_model.specs.UserNext.{iovs_in, tmr_ids_in}
use Rattle.region_model.specs.Represents.{ids_in}
use Rattle.tcmu_types.proofs.ByteFields.{lengths, length-padded, field-in, field-front, field-rest}
use Rattle.region_model.proofs.HeaderLengths.{length-entry_header, length-command_head}
use Rattle.region_model.specs.EntryWriting.{AreInside, IsRequest}
use Rattle.region_model.proofs.PartLengths.{length-iovs_bytes, length-ids_bytes}
use Rattle.byteorder.specs.Endian.{little_number}

ruleset sizes = (lengths, length-entry_header, length-command_head)

-- each kind of entry is at least a header long
pub least_eight : (op : ℕ) → 8 ≤ least_of op
unfolding least_of
least_eight op = eight (op == 1) (op == 2)
  where
    eight : (a b : Bool) → 8 ≤ cond a 112 (cond b 32 8)
    eight true b = omega arith
    eight false true = omega arith
    eight false false = omega arith

-- a field behind a place is one of what stands there
pub field_behind : (n b k : ℕ) (xs : List ℕ) → field n (b + k) xs ≡ field n k (drop b xs)
unfolding field
field_behind n b k xs = ap (λ ys. little_number n ys) (sym (drop-drop k b xs))

-- these bytes stand from a place on
abbrev pub IsThere : List ℕ → ℕ → List ℕ → Type 0
IsThere g b text = take (length text) (drop b g) ≡ text

split : (g : List ℕ) (b : ℕ) (text : List ℕ) → IsThere g b text → drop b g ≡ text ++ drop (length text) (drop b g)
split g b text h = sym (take-append-drop (length text) (drop b g)) ∙ ap (λ xs. xs ++ drop (length text) (drop b g)) h

-- their fields are read there
pub field_there : (g : List ℕ) (b : ℕ) (text : List ℕ) (n k j : ℕ) → IsThere g b text → j ≡ b + k → k + n ≤ length text → field n j g ≡ field n k text
field_there g b text n k j h is inside =
    ap (λ i. field n i g) is ∙ field_behind n b k g ∙ ap (field n k) (split g b text h) ∙ field-front n k text (drop (length text) (drop b g)) inside

drop_there : (g : List ℕ) (b : ℕ) (text : List ℕ) (k j : ℕ) → IsThere g b text → j ≡ b + k → k ≤ length text → drop j g ≡ drop k text ++ drop (length text) (drop b g)
drop_there g b text k j h is inside =
    ap (λ i. drop i g) is ∙ sym (behind k b g) ∙ ap (drop k) (split g b text h) ∙ drop-append-le k text (drop (length text) (drop b g)) inside
  where
    behind : (k b : ℕ) (g : List ℕ) → drop k (drop b g) ≡ drop (b + k) g
    behind k b g = drop-drop k b g

-- the first word is the length with the opcode
entry_word : (g : List ℕ) (area : ℕ) (m : Mailbox) (at op len : ℕ) → field 4 (128 + at) g ≡ len + op → len % 8 ≡ 0 → op < 8
    → entry_read g area m at ≡ sized_read g area m at op len
unfolding entry_read
entry_word g area m at op len word aligned small =
    let rest : (len + op) % 8 ≡ op = omega arith in
    let whole : len + op - op ≡ len = omega arith in
    ap (λ (w : ℕ). sized_read g area m at (w % 8) (w - w % 8)) word
    ∙ ap (λ (r : ℕ). sized_read g area m at r (len + op - r)) rest
    ∙ ap (sized_read g area m at op) whole

sized_ok : (g : List ℕ) (area : ℕ) (m : Mailbox) (at op len : ℕ) → least_of op ≤ len → len ≤ limit_of m at
    → sized_read g area m at op len ≡ kind_read g area (4096 + m.cmdr_size) (128 + at) op len
unfolding sized_read
sized_ok g area m at op len least most =
    let long : nat_lt len (least_of op) ≡ false = le-ltb _ _ least in
    let near : nat_lt (limit_of m at) len ≡ false = le-ltb _ _ most in
    rw (long, near) refl

-- ==== padding

pub pad_there : (g : List ℕ) (area : ℕ) (m : Mailbox) (at len : ℕ) → 8 ≤ len → len % 8 ≡ 0 → len < 2 ^ 32 → len ≤ limit_of m at → IsThere g (128 + at) (pad_bytes len)
    → entry_read g area m at ≡ Ok (Pad len)
unfolding pad_bytes entry_header kind_read least_of
pad_there g area m at len least aligned fits most there =
    let text : List ℕ = pad_bytes len in
    let size : length text ≡ len = omega lengths in
    let word : field 4 (128 + at) g ≡ len + 0 =
    field_there g (128 + at) text 4 0 (128 + at) there (omega arith) (omega arith)
    ∙ field-in 4 0 (len + 0) [] (le 2 0 ++ (zeros 2 ++ zeros (len - 8))) text (simp append_assoc) refl (omega arith) in
    entry_word g area m at 0 len word aligned (omega arith)
    ∙ sized_ok g area m at 0 len least most

-- ==== commands

-- the slots read as the iovecs that were written
iovs_again : (g : List ℕ) (b i : ℕ) (iovs : List Iov) (low high : ℕ)
    → ((n k : ℕ) → k + n ≤ length (iovs_bytes iovs) → field n (b + 48 + 16 * i + k) g ≡ field n k (iovs_bytes iovs))
    → AreInside low high iovs → iovs_in g b i (length iovs) ≡ iovs
unfolding iov_at
iovs_again g b i [] low high there fits = refl
iovs_again g b i (iov ∷ iovs) low high there fits =
    let size : length (iovs_bytes (iov ∷ iovs)) ≡ 16 + length (iovs_bytes iovs) = length-append (le 8 iov.base ++ le 8 iov.len) (iovs_bytes iovs) ∙ omega lengths in
    let base : field 8 (b + 48 + 16 * i) g ≡ iov.base =
    ap (λ (k : ℕ). field 8 k g) (plus_none (b + 48 + 16 * i)) ∙ there 8 0 (omega arith)
    ∙ field-in 8 0 iov.base [] (le 8 iov.len ++ iovs_bytes iovs) (iovs_bytes (iov ∷ iovs)) (simp append_assoc) refl (omega (arith, fits.0)) in
    let len : field 8 (b + 56 + 16 * i) g ≡ iov.len =
    ap (λ (k : ℕ). field 8 k g) (plus_eight b i) ∙ there 8 8 (omega arith)
    ∙ field-in 8 8 iov.len (le 8 iov.base) (iovs_bytes iovs) (iovs_bytes (iov ∷ iovs)) refl (omega lengths) (omega (arith, fits.1)) in
    let rest : (n k : ℕ) → k + n ≤ length (iovs_bytes iovs) → field n (b + 48 + 16 * (i + 1) + k) g ≡ field n k (iovs_bytes iovs) =
    λ n k inside.
    ap (λ (p : ℕ). field n p g) (plus_slot b i k) ∙ there n (16 + k) (omega arith)
    ∙ field-rest n k (16 + k) (le 8 iov.base ++ le 8 iov.len) (iovs_bytes iovs) (omega lengths) in
    let one : iov_at g b i ≡ iov = rw (base, len) refl in
    ap (λ e. e ∷ iovs_in g b (i + 1) (length iovs)) one ∙ ap (λ es. iov ∷ es) (iovs_again g b (i + 1) iovs low high rest fits.3)
  where
    plus_none : (n : ℕ) → n ≡ n + 0
    plus_none n = omega arith

    plus_eight : (b i : ℕ) → b + 56 + 16 * i ≡ b + 48 + 16 * i + 8
    plus_eight b i = omega arith

    plus_slot : (b i k : ℕ) → b + 48 + 16 * (i + 1) + k ≡ b + 48 + 16 * i + (16 + k)
    plus_slot b i k = omega arith

-- none of them lies outside
none_outside : (g : List ℕ) (b low high i : ℕ) (iovs : List Iov) → iovs_in g b i (length iovs) ≡ iovs → AreInside low high iovs → first_outside g b low high i (length iovs) ≡ None
unfolding first_outside
none_outside g b low high i [] holds fits = refl
none_outside g b low high i (iov ∷ iovs) holds fits =
    let one : iov_at g b i ≡ iov = cc in
    let more : iovs_in g b (i + 1) (length iovs) ≡ iovs = cc in
    let inside : lies_inside low high (iov_at g b i) ≡ true = ap (lies_inside low high) one ∙ fits.2 in
    rw inside (none_outside g b low high (i + 1) iovs more fits.3)

first_byte : (cdb z rest : List ℕ) → 0 < length cdb → get_or ((cdb ++ z) ++ rest) 0 0 ≡ slice_index cdb 0
first_byte [] z rest h = absurd (omega arith)
first_byte (x ∷ cdb) z rest h = refl

-- the block is found where it stands
cdb_again : (g : List ℕ) (low high off : ℕ) (cdb z rest : List ℕ) → IsCdb cdb → low ≤ off → off + length cdb ≤ high
    → drop off g ≡ (cdb ++ z) ++ rest → cdb_at g low high off ≡ Some cdb
unfolding cdb_at
cdb_again g low high off cdb z rest h above below there =
    let first : slice_index g off ≡ slice_index cdb 0 =
    ap (λ (k : ℕ). get_or g k 0) (plus_none off) ∙ sym (get_or-drop off g 0 0) ∙ ap (λ (w : List ℕ). get_or w 0 0) there ∙ first_byte cdb z rest h.some in
    let len : group_length (slice_index g off) ≡ length cdb = ap group_length first ∙ sym h.group in
    let some = h.some in
    let t1 : nat_le low off ≡ true = grind (arith, nat_tests) in
    let t2 : nat_lt off high ≡ true = grind (arith, nat_tests) in
    let t3 : nat_le (off + length cdb) high ≡ true = grind (arith, nat_tests) in
    let cut : take (length cdb) (drop off g) ≡ cdb = ap (take (length cdb)) (there ∙ append_assoc cdb z rest) ∙ take_at cdb (z ++ rest) (length cdb) refl in
    rw (len, t1, t2, t3, cut) refl
  where
    plus_none : (n : ℕ) → n ≡ n + 0
    plus_none n = omega arith

-- the whole of a request
cmd_ok : (g : List ℕ) (area d b len id count off : ℕ) (cdb : List ℕ)
    → field 4 (b + 8) g ≡ count → field 4 (b + 12) g ≡ 0 → field 4 (b + 16) g ≡ 0 → field 8 (b + 24) g ≡ off → field 2 (b + 4) g ≡ id
    → 48 + 16 * count < len → cdb_at g (b + 48 + 16 * count) (b + len) off ≡ Some cdb → first_outside g b d (d + area) 0 count ≡ None
    → command_read g area d b len ≡ Ok (Cmd len id count cdb)
unfolding command_read
cmd_ok g area d b len id count off cdb e8 e12 e16 e24 e4 below found none =
    let t : nat_le len (48 + 16 * count) ≡ false = grind (arith, nat_tests) in
    rw (e8, t, e12, e16, e24, found, e4, e8, none) refl

-- the fields of a command's head
record HeadFields (len id count off : ℕ) : Type 0 where
  word : field 4 0 (command_head len id count off) ≡ len + 1
  id_is : field 2 4 (command_head len id count off) ≡ id
  count_is : field 4 8 (command_head len id count off) ≡ count
  bidi : field 4 12 (command_head len id count off) ≡ 0
  dif : field 4 16 (command_head len id count off) ≡ 0
  off_is : field 8 24 (command_head len id count off) ≡ off

head_fields : (len id count off : ℕ) → len + 1 < 2 ^ 32 → id < 2 ^ 16 → count < 2 ^ 32 → off < 2 ^ 64 → HeadFields len id count off
unfolding command_head entry_header
head_fields len id count off h1 h2 h3 h4 = record {
  word = field-in 4 0 (len + 1) [] (le 2 id ++ (zeros 2 ++ (le 4 count ++ (le 4 0 ++ (le 4 0 ++ (zeros 4 ++ (le 8 off ++ zeros 16))))))) (command_head len id count off) (simp append_assoc) refl (omega arith);
  id_is = field-in 2 4 id (le 4 (len + 1)) (zeros 2 ++ (le 4 count ++ (le 4 0 ++ (le 4 0 ++ (zeros 4 ++ (le 8 off ++ zeros 16)))))) (command_head len id count off) (simp append_assoc) (omega lengths) (omega arith);
  count_is = field-in 4 8 count (entry_header 1 len id) (le 4 0 ++ (le 4 0 ++ (zeros 4 ++ (le 8 off ++ zeros 16)))) (command_head len id count off) (simp append_assoc) (omega lengths) (omega arith);
  bidi = field-in 4 12 0 (entry_header 1 len id ++ le 4 count) (le 4 0 ++ (zeros 4 ++ (le 8 off ++ zeros 16))) (command_head len id count off) (simp append_assoc) (omega lengths) (omega arith);
  dif = field-in 4 16 0 ((entry_header 1 len id ++ le 4 count) ++ le 4 0) (zeros 4 ++ (le 8 off ++ zeros 16)) (command_head len id count off) (simp append_assoc) (omega lengths) (omega arith);
  off_is = field-in 8 24 off ((((entry_header 1 len id ++ le 4 count) ++ le 4 0) ++ le 4 0) ++ zeros 4) (zeros 16) (command_head len id count off) (simp append_assoc) (omega lengths) (omega arith);
}

pub request_there : (g : List ℕ) (area : ℕ) (m : Mailbox) (at id slots : ℕ) (iovs : List Iov) (cdb : List ℕ) → IsRequest m area at id slots iovs cdb
    → IsThere g (128 + at) (command_bytes at id slots iovs cdb)
    → (entry_read g area m at ≡ Ok (Cmd (command_length slots (length cdb)) id (length iovs) cdb)) × (iovs_in g (128 + at) 0 (length iovs) ≡ iovs)
unfolding command_bytes padded kind_read least_of
request_there g area m at id blocks iovs cdb h place =
    let len : ℕ = command_length blocks (length cdb) in
    let off : ℕ = 128 + at + cdb_place blocks in
    let head : List ℕ = command_head len id (length iovs) off in
    let slots : List ℕ = iovs_bytes iovs in
    let text : List ℕ = command_bytes at id blocks iovs cdb in
    let some = h.cdb_is.some in
    let size_slots : length slots ≡ 16 * length iovs = length-iovs_bytes iovs in
    let size_head : length head ≡ 48 = length-command_head len id (length iovs) off in
    let size_both : length (head ++ slots) ≡ 48 + 16 * length iovs = length-append head slots ∙ omega arith in
    let size_first : length (padded (cdb_place blocks) (head ++ slots)) ≡ cdb_place blocks = length-padded (cdb_place blocks) (head ++ slots) (omega (arith, h.few)) in
    let size_last : length (padded (round_up (length cdb)) cdb) ≡ round_up (length cdb) = length-padded (round_up (length cdb)) cdb (omega arith) in
    let size : length text ≡ len = length-append (padded (cdb_place blocks) (head ++ slots)) (padded (round_up (length cdb)) cdb) ∙ omega arith in
    let there : (w k j : ℕ) → j ≡ 128 + at + k → k + w ≤ 48 + 16 * length iovs → field w j g ≡ field w k (head ++ slots) =
    λ w k j is inside.
    field_there g (128 + at) text w k j place is (omega (arith, h.few))
    ∙ field-front w k (padded (cdb_place blocks) (head ++ slots)) (padded (round_up (length cdb)) cdb) (omega (arith, h.few))
    ∙ field-front w k (head ++ slots) (zeros (cdb_place blocks - length (head ++ slots))) (omega arith) in
    let in_head : (w k j : ℕ) → j ≡ 128 + at + k → k + w ≤ 48 → field w j g ≡ field w k head =
    λ w k j is inside. there w k j is (omega arith) ∙ field-front w k head slots (omega arith) in
    let fields : HeadFields len id (length iovs) off = head_fields len id (length iovs) off (omega (arith, h.fits)) h.id_fits (omega (arith, h.few, h.fits)) (omega (arith, h.fits)) in
    let holds : iovs_in g (128 + at) 0 (length iovs) ≡ iovs =
    iovs_again g (128 + at) 0 iovs (4096 + m.cmdr_size) (4096 + m.cmdr_size + area)
    (λ n k inside. there n (48 + k) _ (omega arith) (omega arith) ∙ field-rest n k (48 + k) head slots (omega arith))
    h.inside in
    let none : first_outside g (128 + at) (4096 + m.cmdr_size) (4096 + m.cmdr_size + area) 0 (length iovs) ≡ None =
    none_outside g (128 + at) (4096 + m.cmdr_size) (4096 + m.cmdr_size + area) 0 iovs holds h.inside in
    let behind : drop off g ≡ (cdb ++ zeros (round_up (length cdb) - length cdb)) ++ drop (length text) (drop (128 + at) g) =
    drop_there g (128 + at) text (cdb_place blocks) off place refl (omega arith)
    ∙ ap (λ (w : List ℕ). w ++ drop (length text) (drop (128 + at) g)) (drop_at (padded (cdb_place blocks) (head ++ slots)) (padded (round_up (length cdb)) cdb) (cdb_place blocks) size_first) in
    let found : cdb_at g (128 + at + 48 + 16 * length iovs) (128 + at + len) off ≡ Some cdb =
    cdb_again g _ _ off cdb (zeros (round_up (length cdb) - length cdb)) (drop (length text) (drop (128 + at) g)) h.cdb_is (omega (arith, h.few)) (omega arith) behind in (
      entry_word g area m at 1 len (in_head 4 0 _ (omega arith) (omega arith) ∙ fields.word) (omega arith) (omega arith)
          ∙ sized_ok g area m at 1 len (omega (arith, some)) h.limit
          ∙ cmd_ok g area (4096 + m.cmdr_size) (128 + at) len id (length iovs) off cdb
          (in_head 4 8 _ refl (omega arith) ∙ fields.count_is)
          (in_head 4 12 _ refl (omega arith) ∙ fields.bidi)
          (in_head 4 16 _ refl (omega arith) ∙ fields.dif)
          (in_head 8 24 _ refl (omega arith) ∙ fields.off_is)
          (in_head 2 4 _ refl (omega arith) ∙ fields.id_is)
          (omega (arith, h.few)) found none,
      holds,
    )

-- ==== task management

tmr_ok : (g : List ℕ) (b len count : ℕ) → field 4 (b + 12) g ≡ count → 32 + 2 * count ≤ len → tmr_read g b len ≡ Ok (Tmr len (field 1 (b + 8) g) count)
unfolding tmr_read
tmr_ok g b len count e12 room =
    let t : nat_lt len (32 + 2 * count) ≡ false = le-ltb _ _ room in
    rw (e12, t) refl

-- what is read of a note
pub record NoteRead (g : List ℕ) (area : ℕ) (m : Mailbox) (at kind : ℕ) (ids : List ℕ) : Type 0 where
  pub read : entry_read g area m at ≡ Ok (Tmr (tmr_length (length ids)) (field 1 (128 + at + 8) g) (length ids))
  pub byte : kind < 256 → field 1 (128 + at + 8) g ≡ kind

pub note_there : (g : List ℕ) (area : ℕ) (m : Mailbox) (at kind : ℕ) (ids : List ℕ) → tmr_length (length ids) + 2 < 2 ^ 32 → tmr_length (length ids) ≤ limit_of m at
    → IsThere g (128 + at) (tmr_bytes kind ids) → NoteRead g area m at kind ids
unfolding tmr_bytes padded entry_header kind_read least_of
note_there g area m at kind ids fits most place =
    let count : ℕ = length ids in
    let len : ℕ = tmr_length count in
    let head : List ℕ = (((entry_header 2 len 0 ++ le 1 kind) ++ zeros 3) ++ le 4 count) ++ zeros 16 in
    let slots : List ℕ = ids_bytes ids in
    let text : List ℕ = tmr_bytes kind ids in
    let size_slots : length slots ≡ 2 * count = length-ids_bytes ids in
    let size_head : length head ≡ 32 = omega lengths in
    let size_both : length (head ++ slots) ≡ 32 + 2 * count = length-append head slots ∙ omega arith in
    let size : length text ≡ len = length-padded len (head ++ slots) (omega arith) in
    let in_head : (w k j : ℕ) → j ≡ 128 + at + k → k + w ≤ 32 → field w j g ≡ field w k head =
    λ w k j is inside.
    field_there g (128 + at) text w k j place is (omega arith)
    ∙ field-front w k (head ++ slots) (zeros (len - length (head ++ slots))) (omega arith)
    ∙ field-front w k head slots (omega arith) in
    let word : field 4 0 head ≡ len + 2 = field-in 4 0 (len + 2) [] (le 2 0 ++ (zeros 2 ++ (le 1 kind ++ (zeros 3 ++ (le 4 count ++ zeros 16))))) head (simp append_assoc) refl (omega arith) in
    let count_is : field 4 12 head ≡ count = field-in 4 12 count ((entry_header 2 len 0 ++ le 1 kind) ++ zeros 3) (zeros 16) head refl (omega lengths) (omega arith) in
    record {
      read =
          entry_word g area m at 2 len (in_head 4 0 _ (omega arith) (omega arith) ∙ word) (omega arith) (omega arith)
          ∙ sized_ok g area m at 2 len (omega arith) most
          ∙ tmr_ok g (128 + at) len count (in_head 4 12 _ refl (omega arith) ∙ count_is) (omega arith);
      byte = λ small. in_head 1 8 _ refl (omega arith) ∙ field-in 1 8 kind (entry_header 2 len 0) (zeros 3 ++ (le 4 count ++ zeros 16)) head (simp append_assoc) (omega lengths) (omega arith);
    }

-- the ids of a note are those of its entry
pub note_ids : (g : List ℕ) (b len i n at : ℕ) → length (take len (drop b g)) ≡ len → at ≡ 32 + 2 * i → at + 2 * n ≤ len → tmr_ids_in g b i n ≡ ids_in n at (take len (drop b g))
unfolding tmr_id_at
note_ids g b len i zero at size is room = refl
note_ids g b len i (suc n) at size is room =
    let there : IsThere g b (take len (drop b g)) = ap (λ k. take k (drop b g)) size in
    let one : field 2 (b + 32 + 2 * i) g ≡ field 2 at (take len (drop b g)) = field_there g b (take len (drop b g)) 2 at (b + 32 + 2 * i) there (omega arith) (omega arith) in
    ap (λ k. k ∷ tmr_ids_in g b (i + 1) n) one ∙ ap (λ ks. field 2 at (take len (drop b g)) ∷ ks) (note_ids g b len (i + 1) n (at + 2) size (omega arith) (omega arith))

pub length-ids_in : (n at : ℕ) (entry : List ℕ) → length (ids_in n at entry) ≡ n
length-ids_in zero at entry = refl
length-ids_in (suc n) at entry = ap suc (length-ids_in n (at + 2) entry)
