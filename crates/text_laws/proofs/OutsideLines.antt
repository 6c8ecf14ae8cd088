-- Outside lines: what tells them apart from other lines, and which device they name.
use Rattle.std.proofs.Common.{◌≡◌, ℕ, Bool, true, false, cond, ◌&&◌, not, nat_eq, nat_le, List, [], ◌∷◌, ◌++◌, is_some, refl, sym, ap, ◌∙◌, subst, arith}
use Rattle.std.specs.List.{list_all}
use Rattle.std.specs.Str.{bytes_eq}
use Rattle.std.proofs.lemmas.Bool.{and_parts, cond-false, eqb-true}
use Rattle.tcmu_types.specs.Naming.{is_name}
use Rattle.tcmu_types.proofs.Readings.{same_bytes}
use Rattle.text_model.specs.Fields.{is_field_byte, IsWord}
use Rattle.text_model.specs.Printed.{IsOutsideLine}
use Rattle.text_model.specs.Words.{verb_of}
use Rattle.text_laws.proofs.Apart.{behind_same}
use Rattle.text_laws.proofs.Fields.{name_word}
use Rattle.text_laws.proofs.Unbroken as unbroken
use Rattle.text_laws.proofs.Unbroken.{Unbroken}

-- ---- the first word of a line

abbrev pub first_word : List ℕ → List ℕ
first_word [] = []
first_word (x ∷ xs) = cond (nat_eq x 32) [] (x ∷ first_word xs)

-- a line that begins with a verb
abbrev pub has_verb : List ℕ → Bool
has_verb t = is_some (verb_of (first_word t))

-- no byte of a field is a space, or begins a comment
no_space : (x : ℕ) → is_field_byte x ≡ true → nat_eq x 32 ≡ false
no_space x h = go (nat_eq x 32) refl
  where
    go : (b : Bool) → nat_eq x 32 ≡ b → b ≡ false
    go false e = refl
    go true e = absurd (space (ap is_field_byte (sym (eqb-true x 32 e)) ∙ h))
      where
        space : is_field_byte 32 ≡ true → ⊥
        space q = cc

no_hash : (x : ℕ) → is_field_byte x ≡ true → nat_eq x 35 ≡ false
no_hash x h = go (nat_eq x 35) (and_parts (nat_le 33 x && nat_le x 126) (not (nat_eq x 35)) h).1
  where
    go : (b : Bool) → not b ≡ true → b ≡ false
    go false e = refl
    go true e = absurd (cc)

pub first_word-of : (w rest : List ℕ) → list_all is_field_byte w ≡ true → first_word (w ++ 32 ∷ rest) ≡ w
first_word-of [] rest h = refl
first_word-of (x ∷ w) rest h =
    let both = and_parts (is_field_byte x) (list_all is_field_byte w) h in
    cond-false _ _ _ (no_space x both.0) ∙ ap (λ (l : List ℕ). x ∷ l) (first_word-of w rest both.1)

-- texts that are the same have one first word, and the same behind it
words_told : (w v xs ys : List ℕ) → list_all is_field_byte w ≡ true → list_all is_field_byte v ≡ true → w ++ 32 ∷ xs ≡ v ++ 32 ∷ ys → (w ≡ v) × (xs ≡ ys)
words_told w v xs ys h k e =
    let same : w ≡ v = sym (first_word-of w xs h) ∙ ap first_word e ∙ first_word-of v ys k in
    let behind : 32 ∷ xs ≡ 32 ∷ ys = behind_same w (32 ∷ xs) (32 ∷ ys) (e ∙ ap (λ (l : List ℕ). l ++ 32 ∷ ys) (sym same)) in
    (same, behind_same (32 ∷ []) xs ys behind)

-- ---- outside lines

-- one line names one device
pub outside_told : (name other text : List ℕ) → is_name name ≡ true → is_name other ≡ true → IsOutsideLine name text → IsOutsideLine other text → name ≡ other
outside_told name other text n m h k =
    let behind = words_told h.word k.word (name ++ 32 ∷ (h.rest ++ [])) (other ++ 32 ∷ (k.rest ++ [])) h.shown.bytes k.shown.bytes (sym h.spelled ∙ k.spelled) in
    let nameds = name_word name n in
    let others = name_word other m in
    (words_told name other (h.rest ++ []) (k.rest ++ []) nameds.bytes others.bytes behind.1).0

-- how an outside line begins
pub record BeginsOutside (t : List ℕ) : Type 0 where
  pub first : ℕ
  pub rest : List ℕ
  pub is : t ≡ first ∷ rest
  pub comment : nat_eq first 35 ≡ false

begins_word : (w xs : List ℕ) → IsWord w → BeginsOutside (w ++ 32 ∷ xs)
begins_word [] xs h = absurd (omega (arith, h.some))
begins_word (x ∷ w) xs h = record { first = x; rest = w ++ 32 ∷ xs; is = refl; comment = no_hash x (and_parts (is_field_byte x) (list_all is_field_byte w) h.bytes).0 }

pub begins_outside : (name text : List ℕ) → IsOutsideLine name text → BeginsOutside text
begins_outside name text h = subst BeginsOutside (sym h.spelled) (begins_word h.word (name ++ 32 ∷ (h.rest ++ [])) h.shown)

word_is : (name text : List ℕ) (h : IsOutsideLine name text) → first_word text ≡ h.word
word_is name text h = ap first_word h.spelled ∙ first_word-of h.word (name ++ 32 ∷ (h.rest ++ [])) h.shown.bytes

pub outside_verb : (name text : List ℕ) → IsOutsideLine name text → has_verb text ≡ false
outside_verb name text h = ap (λ (w : List ℕ). is_some (verb_of w)) (word_is name text h) ∙ ap is_some h.verb

-- a word that is no verb is not this one
pub no_such_word : (name text word : List ℕ) → is_some (verb_of word) ≡ true → IsOutsideLine name text → bytes_eq (first_word text) word ≡ false
no_such_word name text word verb h = go (bytes_eq (first_word text) word) refl
  where
    go : (b : Bool) → bytes_eq (first_word text) word ≡ b → b ≡ false
    go false e = refl
    go true e = let none = outside_verb name text h in let some = ap (λ (w : List ℕ). is_some (verb_of w)) (same_bytes (first_word text) word e) ∙ verb in absurd (both (sym none ∙ some))
      where
        both : ◌≡◌ {A = Bool} false true → ⊥
        both q = cc

pub outside_line : (name text : List ℕ) → is_name name ≡ true → IsOutsideLine name text → Unbroken text
outside_line name text n h =
    subst Unbroken (sym h.spelled)
    (unbroken.fields h.word (name ∷ h.rest ∷ []) (unbroken.word h.word h.shown) (unbroken.word name (name_word name n), (record { bytes = h.one_line }, tt)))
