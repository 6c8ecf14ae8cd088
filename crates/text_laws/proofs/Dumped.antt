-- What the text of a dump tells: no other dump has it.
use Rattle.std.proofs.Common.{◌≡◌, ℕ, ◌+◌, ◌<◌, ◌≤◌, ◌^◌, Bool, true, false, ◌&&◌, not, nat_eq, nat_le, List, [], ◌∷◌, ◌++◌, length, map, drop, get_or, refl, sym, ap, ◌∙◌, subst, arith, codes, append_assoc}
use Rattle.std.specs.List.{flat_map, list_all, join_with_byte}
use Rattle.std.specs.Fmt.{decimal}
use Rattle.std.proofs.lemmas.Bool.{and_parts, leb-true, ne_eqb, eqb-false, cond-false}
use Rattle.std.proofs.lemmas.Fmt.{decimal_nonempty}
use Rattle.std.proofs.lemmas.List.{append-nil}
use Rattle.tcmu_types.specs.Naming.{is_name}
use Rattle.tcmu_types.specs.Dumps.{ItemData, HeldData, DumpData}
use Rattle.tcmu_types.specs.declared.dump.ItemKind.{ItemKind}
use Rattle.tcmu_types.specs.declared.dump.ItemKind.TheVariants as kind
use Rattle.tcmu_types.specs.Decimals.{is_digit}
use Rattle.tcmu_types.specs.Fields.{cut_at, pieces}
use Rattle.tcmu_types.specs.Lists.{Every}
use Rattle.text_model.specs.Text.{spaced, line, payload_text, numbers_text, kind_word, blocks_text, item_text, held_text, dump_text}
use Rattle.text_model.specs.Fields.{is_field_byte}
use Rattle.tcmu_types.proofs.Readings.{same_some}
use Rattle.text_laws.specs.Configs.{is_other}
use Rattle.text_laws.specs.Dumps.{IsItemValue, IsHeldValue, IsDumpValue, DumpsTold}
use Rattle.text_laws.proofs.Apart.{head_or, behind_same, told_apart}
use Rattle.text_laws.proofs.Cuts.{cut_again}
use Rattle.text_laws.proofs.Fields.{name_word, joined_pass}
use Rattle.text_laws.proofs.Lists.{EachLacks, pieces_again, number_lacks}
use Rattle.text_laws.proofs.Numbers.{all_digits}
use Rattle.text_laws.proofs.Reading.{first_line}
use Rattle.text_laws.proofs.Told.{decimal_told, payload_told}
use Rattle.text_laws.proofs.Unbroken as unbroken
use Rattle.text_laws.proofs.Unbroken.{Unbroken, AreUnbroken}
use Rattle.text_laws.proofs.WholeLines.{name_line}
use Rattle.text_laws.proofs.Words.{weaker}

-- ---- fields behind spaces

abbrev LacksSpace : List ℕ → Type 0
LacksSpace text = list_all (is_other 32) text ≡ true

-- a field that ends with a space, and what follows the space
field_told : (a b x y : List ℕ) → LacksSpace a → LacksSpace b → a ++ 32 ∷ x ≡ b ++ 32 ∷ y → (a ≡ b) × (x ≡ y)
field_told a b x y h k e =
    let p : List ℕ × List ℕ = (a, x) in
    let q : List ℕ × List ℕ = (b, y) in
    let same : p ≡ q = same_some p q (sym (cut_again 32 a x h) ∙ ap (cut_at 32) e ∙ cut_again 32 b y k) in
    (ap (λ (r : List ℕ × List ℕ). r.0) same, ap (λ (r : List ℕ × List ℕ). r.1) same)

digit_other : (x : ℕ) → is_digit x ≡ true → is_other 32 x ≡ true
digit_other x h = let low : 48 ≤ x = leb-true 48 x (and_parts (nat_le 48 x) (nat_le x 57) h).0 in ap not (ne_eqb x 32 (λ e. omega (arith, low, e)))

number_spaceless : (n : ℕ) → n < 2 ^ 64 → LacksSpace (decimal n)
number_spaceless n lt = weaker is_digit (is_other 32) digit_other (decimal n) (all_digits n (omega (arith, lt)))

field_other : (x : ℕ) → is_field_byte x ≡ true → is_other 32 x ≡ true
field_other x h =
    let low : 33 ≤ x = leb-true 33 x (and_parts (nat_le 33 x) (nat_le x 126) (and_parts (nat_le 33 x && nat_le x 126) (not (nat_eq x 35)) h).0).0 in
    ap not (ne_eqb x 32 (λ e. omega (arith, low, e)))

name_spaceless : (name : List ℕ) → is_name name ≡ true → LacksSpace name
name_spaceless name h = let word = name_word name h in weaker is_field_byte (is_other 32) field_other name word.bytes

-- ---- kinds and blocks

kind_spaceless : (k : ItemKind) → LacksSpace (kind_word k)
unfolding kind_word
kind_spaceless kind.Pad = refl
kind_spaceless kind.Cmd = refl
kind_spaceless kind.Tmr = refl

kind_line : (k : ItemKind) → Unbroken (kind_word k)
unfolding kind_word
kind_line kind.Pad = record { bytes = refl }
kind_line kind.Cmd = record { bytes = refl }
kind_line kind.Tmr = record { bytes = refl }

kind_told : (a b : ItemKind) → kind_word a ≡ kind_word b → a ≡ b
unfolding kind_word
kind_told kind.Pad kind.Pad e = refl
kind_told kind.Cmd kind.Cmd e = refl
kind_told kind.Tmr kind.Tmr e = refl
kind_told kind.Pad kind.Cmd e = absurd (eqb-false 112 99 refl (ap (λ (l : List ℕ). get_or l 0 0) e))
kind_told kind.Pad kind.Tmr e = absurd (eqb-false 112 116 refl (ap (λ (l : List ℕ). get_or l 0 0) e))
kind_told kind.Cmd kind.Pad e = absurd (eqb-false 99 112 refl (ap (λ (l : List ℕ). get_or l 0 0) e))
kind_told kind.Cmd kind.Tmr e = absurd (eqb-false 99 116 refl (ap (λ (l : List ℕ). get_or l 0 0) e))
kind_told kind.Tmr kind.Pad e = absurd (eqb-false 116 112 refl (ap (λ (l : List ℕ). get_or l 0 0) e))
kind_told kind.Tmr kind.Cmd e = absurd (eqb-false 116 99 refl (ap (λ (l : List ℕ). get_or l 0 0) e))

abbrev AreShort : List ℕ → Type 0
AreShort ns = Every (λ n. n < 2 ^ 64) ns

shorts_lack : (ns : List ℕ) → AreShort ns → EachLacks 44 (map decimal ns)
shorts_lack [] h = tt
shorts_lack (n ∷ ns) h = (number_lacks 44 n (omega arith) (omega (arith, h.0)), shorts_lack ns h.1)

shorts_spaceless : (ns : List ℕ) → AreShort ns → Every (λ t. list_all (is_other 32) t ≡ true) (map decimal ns)
shorts_spaceless [] h = tt
shorts_spaceless (n ∷ ns) h = (number_spaceless n h.0, shorts_spaceless ns h.1)

each_number_told : (ms ns : List ℕ) → AreShort ms → AreShort ns → map decimal ms ≡ map decimal ns → ms ≡ ns
each_number_told [] [] h k e = refl
each_number_told [] (n ∷ ns) h k e = absurd (cc)
each_number_told (m ∷ ms) [] h k e = absurd (cc)
each_number_told (m ∷ ms) (n ∷ ns) h k e =
    ap (λ (x : ℕ). x ∷ ms) (decimal_told m n h.0 k.0 (ap (head_or []) e)) ∙ ap (λ (xs : List ℕ). n ∷ xs) (each_number_told ms ns h.1 k.1 (ap (λ (l : List (List ℕ)). drop 1 l) e))

-- the first byte of a number is a digit
first_digit : (n : ℕ) (rest : List ℕ) → n < 2 ^ 64 → 48 ≤ get_or (decimal n ++ rest) 0 0
first_digit n rest lt = go (decimal n) (decimal_nonempty n (omega (arith, lt))) (all_digits n (omega (arith, lt)))
  where
    go : (ds : List ℕ) → 0 < length ds → list_all is_digit ds ≡ true → 48 ≤ get_or (ds ++ rest) 0 0
    go [] some all = absurd (omega (arith, some))
    go (d ∷ ds) some all = leb-true 48 d (and_parts (nat_le 48 d) (nat_le d 57) (and_parts (is_digit d) (list_all is_digit ds) all).0).0

joined_digit : (n : ℕ) (ns : List ℕ) → n < 2 ^ 64 → 48 ≤ get_or (join_with_byte 44 (map decimal (n ∷ ns))) 0 0
joined_digit n [] lt = subst (λ (l : List ℕ). 48 ≤ get_or l 0 0) (append-nil (decimal n)) (first_digit n [] lt)
joined_digit n (m ∷ ns) lt = first_digit n (44 ∷ join_with_byte 44 (map decimal (m ∷ ns))) lt

blocks_shown : (n : ℕ) (ns : List ℕ) → blocks_text (n ∷ ns) ≡ join_with_byte 44 (map decimal (n ∷ ns))
unfolding blocks_text numbers_text
blocks_shown n ns = cond-false _ _ _ (ne_eqb (length (n ∷ ns)) 0 (λ e. omega (arith, e)))

no_blocks : blocks_text [] ≡ 45 ∷ []
unfolding blocks_text
no_blocks = refl

blocks_told : (ms ns : List ℕ) → AreShort ms → AreShort ns → blocks_text ms ≡ blocks_text ns → ms ≡ ns
blocks_told [] [] h k e = refl
blocks_told [] (n ∷ ns) h k e = absurd (omega (arith, joined_digit n ns k.0, ap (λ (l : List ℕ). get_or l 0 0) (sym no_blocks ∙ e ∙ blocks_shown n ns)))
blocks_told (m ∷ ms) [] h k e = absurd (omega (arith, joined_digit m ms h.0, ap (λ (l : List ℕ). get_or l 0 0) (sym (blocks_shown m ms) ∙ e ∙ no_blocks)))
blocks_told (m ∷ ms) (n ∷ ns) h k e =
    let a = shorts_lack (m ∷ ms) h in
    let b = shorts_lack (n ∷ ns) k in
    let joins : join_with_byte 44 (map decimal (m ∷ ms)) ≡ join_with_byte 44 (map decimal (n ∷ ns)) = sym (blocks_shown m ms) ∙ e ∙ blocks_shown n ns in
    each_number_told (m ∷ ms) (n ∷ ns) h k (sym (pieces_again 44 (decimal m) (map decimal ms) a.0 a.1) ∙ ap (pieces 44) joins ∙ pieces_again 44 (decimal n) (map decimal ns) b.0 b.1)

blocks_spaceless : (ns : List ℕ) → AreShort ns → LacksSpace (blocks_text ns)
blocks_spaceless [] h = subst LacksSpace (sym no_blocks) refl
blocks_spaceless (n ∷ ns) h = subst LacksSpace (sym (blocks_shown n ns)) (joined_pass (is_other 32) 44 (map decimal (n ∷ ns)) refl (shorts_spaceless (n ∷ ns) h))

blocks_line : (ns : List ℕ) → Unbroken (blocks_text ns)
blocks_line [] = subst Unbroken (sym no_blocks) (record { bytes = refl })
blocks_line (n ∷ ns) = subst Unbroken (sym (blocks_shown n ns)) (unbroken.joined 44 (map decimal (n ∷ ns)) refl (unbroken.number_list (n ∷ ns)))

-- ---- lines

abbrev pub item_line : ItemData → List ℕ
item_line i = spaced (codes "# item") (decimal i.at ∷ kind_word i.kind ∷ decimal (length i.bytes) ∷ payload_text i.bytes ∷ [])

abbrev pub held_line : HeldData → List ℕ
held_line h = spaced (codes "# held") (decimal h.serial ∷ blocks_text h.blocks ∷ payload_text h.payload ∷ [])

item_told : (i j : ItemData) → IsItemValue i → IsItemValue j → item_line i ≡ item_line j → i ≡ j
item_told i j h k e =
    let at = field_told (decimal i.at) (decimal j.at) _ _ (number_spaceless i.at h.at) (number_spaceless j.at k.at) (ap (λ (l : List ℕ). drop 7 l) e) in
    let word = field_told (kind_word i.kind) (kind_word j.kind) _ _ (kind_spaceless i.kind) (kind_spaceless j.kind) at.1 in
    let count = field_told (decimal (length i.bytes)) (decimal (length j.bytes)) _ _ (number_spaceless (length i.bytes) h.bytes) (number_spaceless (length j.bytes) k.bytes) word.1 in
    let bytes = payload_told i.bytes j.bytes h.bytes k.bytes (sym (append-nil (payload_text i.bytes)) ∙ count.1 ∙ append-nil (payload_text j.bytes)) in
    ap (λ (x : ℕ). let y : ItemData = record { at = x; kind = i.kind; bytes = i.bytes } in y) (decimal_told i.at j.at h.at k.at at.0)
    ∙ ap (λ (x : ItemKind). let y : ItemData = record { at = j.at; kind = x; bytes = i.bytes } in y) (kind_told i.kind j.kind word.0)
    ∙ ap (λ (x : List ℕ). let y : ItemData = record { at = j.at; kind = j.kind; bytes = x } in y) bytes

held_told : (i j : HeldData) → IsHeldValue i → IsHeldValue j → held_line i ≡ held_line j → i ≡ j
held_told i j h k e =
    let serial = field_told (decimal i.serial) (decimal j.serial) _ _ (number_spaceless i.serial h.serial) (number_spaceless j.serial k.serial) (ap (λ (l : List ℕ). drop 7 l) e) in
    let blocks = field_told (blocks_text i.blocks) (blocks_text j.blocks) _ _ (blocks_spaceless i.blocks h.blocks) (blocks_spaceless j.blocks k.blocks) serial.1 in
    let payload = payload_told i.payload j.payload h.payload k.payload (sym (append-nil (payload_text i.payload)) ∙ blocks.1 ∙ append-nil (payload_text j.payload)) in
    ap (λ (x : ℕ). let y : HeldData = record { serial = x; blocks = i.blocks; payload = i.payload } in y) (decimal_told i.serial j.serial h.serial k.serial serial.0)
    ∙ ap (λ (x : List ℕ). let y : HeldData = record { serial = j.serial; blocks = x; payload = i.payload } in y) (blocks_told i.blocks j.blocks h.blocks k.blocks blocks.0)
    ∙ ap (λ (x : List ℕ). let y : HeldData = record { serial = j.serial; blocks = j.blocks; payload = x } in y) payload

items_told : (xs ys : List ItemData) → Every IsItemValue xs → Every IsItemValue ys → map item_line xs ≡ map item_line ys → xs ≡ ys
items_told [] [] h k e = refl
items_told [] (y ∷ ys) h k e = absurd (cc)
items_told (x ∷ xs) [] h k e = absurd (cc)
items_told (x ∷ xs) (y ∷ ys) h k e =
    ap (λ (i : ItemData). i ∷ xs) (item_told x y h.0 k.0 (ap (head_or []) e)) ∙ ap (λ (is : List ItemData). y ∷ is) (items_told xs ys h.1 k.1 (ap (λ (l : List (List ℕ)). drop 1 l) e))

helds_told : (xs ys : List HeldData) → Every IsHeldValue xs → Every IsHeldValue ys → map held_line xs ≡ map held_line ys → xs ≡ ys
helds_told [] [] h k e = refl
helds_told [] (y ∷ ys) h k e = absurd (cc)
helds_told (x ∷ xs) [] h k e = absurd (cc)
helds_told (x ∷ xs) (y ∷ ys) h k e =
    ap (λ (i : HeldData). i ∷ xs) (held_told x y h.0 k.0 (ap (head_or []) e)) ∙ ap (λ (is : List HeldData). y ∷ is) (helds_told xs ys h.1 k.1 (ap (λ (l : List (List ℕ)). drop 1 l) e))

-- ---- the lines of a dump are cut again

abbrev pub Cuts : List ℕ → List (List ℕ) → Type 0
Cuts text ts = (rest : List ℕ) → pieces 10 (text ++ rest) ≡ ts ++ pieces 10 rest

one_cut : (t : List ℕ) → Unbroken t → Cuts (line t) (t ∷ [])
one_cut t h = λ rest. first_line t rest h

both_cut : (a b : List ℕ) (xs ys : List (List ℕ)) → Cuts a xs → Cuts b ys → Cuts (a ++ b) (xs ++ ys)
both_cut a b xs ys h k = λ rest. ap (pieces 10) (append_assoc a b rest) ∙ h (b ++ rest) ∙ ap (λ (l : List (List ℕ)). xs ++ l) (k rest) ∙ sym (append_assoc xs ys (pieces 10 rest))

items_cut : (is : List ItemData) → Cuts (flat_map item_text is) (map item_line is)
unfolding item_text
items_cut [] = λ rest. refl
items_cut (i ∷ is) =
    let clean = unbroken.fields (codes "# item") (decimal i.at ∷ kind_word i.kind ∷ decimal (length i.bytes) ∷ payload_text i.bytes ∷ []) (record { bytes = refl })
    (unbroken.number i.at, (kind_line i.kind, (unbroken.number (length i.bytes), (unbroken.payload i.bytes, tt)))) in
    both_cut (item_text i) (flat_map item_text is) (item_line i ∷ []) (map item_line is) (one_cut (item_line i) clean) (items_cut is)

helds_cut : (hs : List HeldData) → Cuts (flat_map held_text hs) (map held_line hs)
unfolding held_text
helds_cut [] = λ rest. refl
helds_cut (h ∷ hs) =
    let clean = unbroken.fields (codes "# held") (decimal h.serial ∷ blocks_text h.blocks ∷ payload_text h.payload ∷ []) (record { bytes = refl }) (unbroken.number h.serial, (blocks_line h.blocks, (unbroken.payload h.payload, tt))) in
    both_cut (held_text h) (flat_map held_text hs) (held_line h ∷ []) (map held_line hs) (one_cut (held_line h) clean) (helds_cut hs)

abbrev pub first_of_dump : List ℕ → DumpData → List ℕ
first_of_dump name d = codes "dump " ++ name ++ codes " # shown " ++ decimal (1 + length d.items + length d.held)

abbrev pub box_line : DumpData → List ℕ
box_line d = codes "# box " ++ payload_text d.mailbox

abbrev pub dump_lines : List ℕ → DumpData → List (List ℕ)
dump_lines name d = first_of_dump name d ∷ box_line d ∷ (map item_line d.items ++ map held_line d.held)

pub dump_cut : (name : List ℕ) (d : DumpData) → is_name name ≡ true → Cuts (dump_text name d) (dump_lines name d)
unfolding dump_text
dump_cut name d n =
    let first = unbroken.joins (codes "dump " ++ name ++ codes " # shown ") (decimal (1 + length d.items + length d.held))
    (unbroken.joins (codes "dump " ++ name) (codes " # shown ") (unbroken.joins (codes "dump ") name (record { bytes = refl }) (name_line name n)) (record { bytes = refl })) (unbroken.number (1 + length d.items + length d.held)) in
    let box = unbroken.joins (codes "# box ") (payload_text d.mailbox) (record { bytes = refl }) (unbroken.payload d.mailbox) in
    let two = both_cut (line (first_of_dump name d)) (line (box_line d)) (first_of_dump name d ∷ []) (box_line d ∷ []) (one_cut (first_of_dump name d) first) (one_cut (box_line d) box) in
    let three = both_cut (line (first_of_dump name d) ++ line (box_line d)) (flat_map item_text d.items) (first_of_dump name d ∷ box_line d ∷ []) (map item_line d.items) two (items_cut d.items) in
    both_cut (line (first_of_dump name d) ++ line (box_line d) ++ flat_map item_text d.items) (flat_map held_text d.held) (first_of_dump name d ∷ box_line d ∷ map item_line d.items) (map held_line d.held) three (helds_cut d.held)

-- ---- items stand before commands

abbrev is_item_line : List ℕ → Bool
is_item_line t = nat_eq (get_or t 2 0) 105

are_items : (is : List ItemData) → Every (λ t. is_item_line t ≡ true) (map item_line is)
are_items [] = tt
are_items (i ∷ is) = (refl, are_items is)

are_helds : (hs : List HeldData) → Every (λ t. is_item_line t ≡ false) (map held_line hs)
are_helds [] = tt
are_helds (h ∷ hs) = (refl, are_helds hs)

pub name_told : (name other : List ℕ) (d e : DumpData) → is_name name ≡ true → is_name other ≡ true → first_of_dump name d ≡ first_of_dump other e → name ≡ other
name_told name other d e n m q =
    let rest = ap (λ (l : List ℕ). drop 5 l) q in
    let cut = field_told name other (codes "# shown " ++ decimal (1 + length d.items + length d.held)) (codes "# shown " ++ decimal (1 + length e.items + length e.held)) (name_spaceless name n) (name_spaceless other m)
    (sym (append_assoc name (codes " # shown ") (decimal (1 + length d.items + length d.held))) ∙ rest ∙ append_assoc other (codes " # shown ") (decimal (1 + length e.items + length e.held))) in
    cut.0

cut_same : (xs ys : List (List ℕ)) → xs ++ [] ∷ [] ≡ ys ++ [] ∷ [] → xs ≡ ys
cut_same [] [] e = refl
cut_same [] (y ∷ []) e = absurd (cc)
cut_same [] (y ∷ z ∷ ys) e = absurd (cc)
cut_same (x ∷ []) [] e = absurd (cc)
cut_same (x ∷ z ∷ xs) [] e = absurd (cc)
cut_same (x ∷ xs) (y ∷ ys) e = ap (λ (t : List ℕ). t ∷ xs) (ap (head_or []) e) ∙ ap (λ (l : List (List ℕ)). y ∷ l) (cut_same xs ys (ap (λ (l : List (List ℕ)). drop 1 l) e))

-- lines of dumps that are the same
pub dump_lines_told : (name other : List ℕ) (d e : DumpData) → is_name name ≡ true → is_name other ≡ true → IsDumpValue d → IsDumpValue e → dump_lines name d ≡ dump_lines other e → (name ≡ other) × (d ≡ e)
dump_lines_told name other d e n m h k lines =
    let box = behind_same (codes "# box ") (payload_text d.mailbox) (payload_text e.mailbox) (ap (λ (l : List (List ℕ)). head_or [] (drop 1 l)) lines) in
    let parts = told_apart is_item_line (map item_line d.items) (map held_line d.held) (map item_line e.items) (map held_line e.held) (are_items d.items) (are_helds d.held) (are_items e.items) (are_helds e.held) (ap (λ (l : List (List ℕ)). drop 2 l) lines) in (
      name_told name other d e n m (ap (head_or []) lines),
      ap (λ (x : List ℕ). let y : DumpData = record { mailbox = x; items = d.items; held = d.held } in y) (payload_told d.mailbox e.mailbox h.mailbox k.mailbox box)
          ∙ ap (λ (x : List ItemData). let y : DumpData = record { mailbox = e.mailbox; items = x; held = d.held } in y) (items_told d.items e.items h.items k.items parts.0)
          ∙ ap (λ (x : List HeldData). let y : DumpData = record { mailbox = e.mailbox; items = e.items; held = x } in y) (helds_told d.held e.held h.held k.held parts.1),
    )

pub dumps_told : DumpsTold
dumps_told name other d e n m h k q =
    dump_lines_told name other d e n m h k
    (cut_same (dump_lines name d) (dump_lines other e) (sym (dump_cut name d n []) ∙ ap (λ (t : List ℕ). pieces 10 (t ++ [])) q ∙ dump_cut other e m []))
